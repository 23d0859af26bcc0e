-- The table of editions holds: each line computes. Assumes nothing.
use mathlib.Core.Path.{refl}
use Rattle.model.specs.Bytes.{be_at, be_bytes, bytes_from, put, ones_sector, zero_sector}
use Rattle.model.specs.Search.{scan, any_below, all_below, count_below, equal_bytes, tabulate}
use Rattle.model.specs.Geometry.{in_bounds}
use Rattle.model.specs.Edition.{layout_of, is_edition, bad_time}
use Rattle.model.specs.Superblock.{is_volume, geometry_in, journal_length, state_of, new_superblock}
use Rattle.model.specs.Root.{root_in, new_root_sector, updated_root_sector}
use Rattle.model.specs.Entry.{name_in, entry_in, is_occupied, has_zero, bad_name, new_entry_sector, updated_entry_sector, renamed_entry_sector}
use Rattle.model.specs.Table.{table_file, table_offset, holds_any, sectors_holding}
use Rattle.model.specs.Catalogue.{catalogue_of}
use Rattle.model.specs.Faults.{fault21, fault22, fault23, fault24, fault25, exact, fault26, first_fault}
use Rattle.model.specs.Refusals.{verdict_of, is_whole, fits_image, image_verdict, sound_verdict, judged}
use Rattle.model.specs.Summary.{superblock_verdict, superblock_answer, check_answer}
use Rattle.model.specs.Format.{doubled, geometry_for, can_format, format_verdict, format_answer}
use Rattle.model.specs.Ledger.{catalogue, first_ledger, written_records, freed_records, renamed_records, ledger_from, holder_of, position_among, slot_named, free_slot, unheld_extent, unheld_extents}
use Rattle.model.specs.Ledger.{is_frozen, file_of, new_entry, updated_root, step, lowest, unfit_time, unfit_name, unfit_new_name}
use Rattle.cases.specs.Editions.{Editions}

pub editions : Editions
unfolding be_at be_bytes bytes_from put ones_sector zero_sector scan any_below all_below count_below equal_bytes tabulate in_bounds layout_of is_edition bad_time is_volume geometry_in
    journal_length state_of new_superblock root_in new_root_sector updated_root_sector name_in entry_in is_occupied has_zero bad_name new_entry_sector updated_entry_sector renamed_entry_sector
    table_file table_offset catalogue_of sectors_holding holds_any fault21 fault22 fault23 fault24 fault25 exact fault26 first_fault
    verdict_of is_whole fits_image image_verdict sound_verdict judged superblock_verdict superblock_answer check_answer doubled geometry_for can_format format_verdict format_answer
    catalogue first_ledger written_records freed_records renamed_records ledger_from holder_of position_among slot_named free_slot unheld_extent unheld_extents is_frozen
    file_of new_entry updated_root step lowest unfit_time unfit_name unfit_new_name
editions = record {
  superblock = refl;
  read_back = refl;
  geometry = refl;
  versions = refl;
  root = refl;
  root-updated = refl;
  created = refl;
  written = refl;
  renamed = refl;
  names = refl;
  long-names = refl;
  narrow = refl;
  wide = refl;
  widest = refl;
  formatted = refl;
}
