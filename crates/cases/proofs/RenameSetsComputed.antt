-- The table of sets of renames holds: each line computes. Assumes nothing.
use mathlib.Core.Path.{refl}
use Rattle.model.specs.Search.{scan, any_below, all_below, count_below, equal_bytes, tabulate, concatenated}
use Rattle.model.specs.Table.{holds_any}
use Rattle.model.specs.Ledger.{position_among, holder_of, catalogue, slot_named, unheld_extents, is_frozen, file_of}
use Rattle.model.specs.Ledger.{lowest, unfit_time, unfit_name, unfit_new_name, updated_root, renamed_entry, after_rename}
use Rattle.model.specs.Ledger.{names_of, pairs_of, sum_of, after_renames, names_slot, frees_in, renamed_targets, rename_refusals, refused_at, step}
use Rattle.cases.specs.RenameSets.{RenameSets}

pub sets : RenameSets
unfolding scan any_below all_below count_below equal_bytes tabulate concatenated holds_any position_among holder_of catalogue slot_named unheld_extents is_frozen file_of lowest unfit_time unfit_name
    unfit_new_name updated_root renamed_entry after_rename names_of pairs_of sum_of after_renames names_slot frees_in renamed_targets rename_refusals refused_at step
sets = record {
  swap = refl;
  swap-left = refl;
  swap-root = refl;
  chain = refl;
  chain_left = refl;
  along = refl;
  along-left = refl;
  back = refl;
  back-left = refl;
  back-table = refl;
  away = refl;
  away-left = refl;
  twice = refl;
  twice-left = refl;
  itself = refl;
  itself-root = refl;
  places = refl;
  late = refl;
  shapes = refl;
  lengths = refl;
  short = refl;
  counted = refl;
  reached = refl;
  reached-refused = refl;
  longest = refl;
}
