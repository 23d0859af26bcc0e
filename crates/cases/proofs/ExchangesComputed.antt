-- The table of exchanges holds: each line computes. Assumes nothing.
use mathlib.Core.Path.{refl}
use Rattle.model.specs.Bytes.{bytes_from, put}
use Rattle.model.specs.Search.{tabulate, scan, any_below, all_below, count_below, equal_bytes}
use Rattle.model.specs.Format.{doubled, geometry_for}
use Rattle.model.specs.Table.{holds_any, sectors_holding}
use Rattle.model.specs.Ledger.{catalogue, first_ledger, written_records, freed_records, ledger_from, holder_of, position_among, slot_named}
use Rattle.model.specs.Ledger.{free_slot, unheld_extent, unheld_extents, is_frozen, file_of, after_write, written}
use Rattle.model.specs.Ledger.{new_entry, updated_entry, updated_root, accessed_root, renamed_entry, after_rename, names_of, pairs_of, sum_of, after_renames, names_slot, frees_in, renamed_targets}
use Rattle.model.specs.Ledger.{rename_refusals, refused_at, step, lowest, unfit_time, unfit_name, unfit_new_name}
use Rattle.cases.specs.Exchanges.{Exchanges}

pub exchanges : Exchanges
unfolding bytes_from put tabulate scan any_below all_below count_below equal_bytes sectors_holding holds_any doubled geometry_for catalogue first_ledger written_records freed_records
    ledger_from holder_of position_among slot_named free_slot unheld_extent unheld_extents is_frozen file_of after_write written new_entry updated_entry updated_root accessed_root
    renamed_entry after_rename
    names_of pairs_of sum_of after_renames names_slot frees_in renamed_targets rename_refusals refused_at step lowest unfit_time unfit_name unfit_new_name
exchanges = record {
  slots-differ = refl;
  extents-differ = refl;
  root-differs = refl;
  lists-differ = refl;
  shared-differ = refl;
  set-differs = refl;
  set-accepted = refl;
  id-released = refl;
  one-order = refl;
}
