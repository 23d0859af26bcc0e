-- The cases of the reserve hold: every case computes. Assumes nothing.
use mathlib.Core.Path.{refl}
use Rattle.model.specs.Bytes.{be_at, be_bytes, bytes_from, put, ones_sector, zero_sector}
use Rattle.model.specs.Search.{scan, any_below, all_below, count_below, equal_bytes, tabulate, concatenated}
use Rattle.model.specs.Geometry.{in_bounds}
use Rattle.model.specs.Edition.{layout_of, is_edition, bad_time}
use Rattle.model.specs.Superblock.{is_volume, geometry_in, journal_length, state_of}
use Rattle.model.specs.Root.{root_in, new_root_sector}
use Rattle.model.specs.Entry.{name_in, entry_in, is_occupied, fields_of, has_zero, bad_name, bad_new_name, new_entry_sector, updated_entry_sector}
use Rattle.model.specs.Table.{table_file, table_offset, taken_in, holds_any, sectors_holding}
use Rattle.model.specs.Catalogue.{catalogue_of, file_named, free_entry, free_extent, free_below, lacks_reserve, staging_extents, entry_of, extent_of}
use Rattle.model.specs.Faults.{fault21, fault22, fault23, fault24, fault25, exact, fault26, first_fault}
use Rattle.model.specs.Refusals.{verdict_of, is_whole, fits_image, image_verdict, sound_verdict, judged}
use Rattle.model.specs.WriteList.{barrier, stage_in, stages_in, staging, copies, journal_of, group_a, groups_of, groups_for, plan_conditions, decided}
use Rattle.model.specs.Summary.{check_answer}
use Rattle.model.specs.Find.{name_conditions}
use Rattle.model.specs.Listing.{list_conditions, list_planned, list_decision, listed_of, list_answer}
use Rattle.model.specs.Read.{size_named, read_conditions, read_planned, read_decision, read_of, read_answer}
use Rattle.model.specs.Create.{create_conditions, create_plan, create_decision, create_answer}
use Rattle.model.specs.Freeing.{freed_sector, freed_sectors}
use Rattle.model.specs.Delete.{delete_plan, delete_conditions, delete_decision, delete_answer}
use Rattle.model.specs.Resize.{shrink_plan, resize_planned, resize_conditions, resize_decision, resize_answer}
use Rattle.model.specs.Write.{grows, no_room, file_sector_at, data_sector, write_plan, write_planned, write_conditions, write_decision, write_answer}
use Rattle.model.specs.Rename.{rename_conditions, renamed_record, replacing_records, rename_plan, rename_planned, rename_decision, rename_answer}
use Rattle.model.specs.Repair.{is_stray, strays, repaired, repair_plan, repair_planned, repair_verdict, repair_decision, repair_answer}
use Rattle.model.specs.Ledger.{catalogue, written_records, freed_records, renamed_records, holder_of, position_among, slot_named, free_slot, unheld_extent, unheld_extents, is_frozen, file_of}
use Rattle.model.specs.Ledger.{entry_fields, new_entry, updated_entry, accessed_entry, accessed_root, ledger_from, step, lowest, unfit_time, unfit_name, unfit_new_name}
use Rattle.cases.specs.Reserves.{Reserves}

pub reserves : Reserves
unfolding be_at be_bytes bytes_from put ones_sector zero_sector scan any_below all_below count_below equal_bytes tabulate concatenated in_bounds layout_of is_edition bad_time
    is_volume geometry_in journal_length state_of root_in new_root_sector name_in entry_in is_occupied fields_of has_zero bad_name bad_new_name new_entry_sector updated_entry_sector
    table_file table_offset taken_in catalogue_of file_named free_entry free_extent free_below lacks_reserve staging_extents entry_of extent_of holds_any sectors_holding
    fault21 fault22 fault23 fault24 fault25 exact fault26 first_fault verdict_of is_whole fits_image image_verdict sound_verdict judged
    barrier stage_in stages_in staging copies journal_of group_a groups_of groups_for plan_conditions decided check_answer name_conditions list_conditions list_planned list_decision
    listed_of list_answer
    size_named read_conditions read_planned read_decision read_of read_answer create_conditions create_plan create_decision create_answer
    freed_sector freed_sectors delete_plan delete_conditions delete_decision delete_answer shrink_plan resize_planned resize_conditions resize_decision resize_answer
    grows no_room file_sector_at data_sector write_plan write_planned write_conditions write_decision write_answer
    rename_conditions renamed_record replacing_records rename_plan rename_planned rename_decision rename_answer
    is_stray strays repaired repair_plan repair_planned repair_verdict repair_decision repair_answer
    catalogue written_records freed_records renamed_records holder_of position_among slot_named free_slot unheld_extent unheld_extents is_frozen file_of
    entry_fields new_entry updated_entry accessed_entry accessed_root ledger_from step lowest unfit_time unfit_name unfit_new_name
reserves = record {
  sound = refl;
  most = refl;
  free = refl;
  stages = refl;
  frozen = refl;
  frozen-before = refl;
  frozen-idle = refl;
  frozen-read = refl;
  frozen-list = refl;
  exact = refl;
  exact-order = refl;
  grown-order = refl;
  deleted-order = refl;
  ledger-frozen = refl;
  ledger-before = refl;
  ledger-idle = refl;
  ledger-read = refl;
  ledger-list = refl;
  ledger-times = refl;
  ledger-exact = refl;
  ledger-grown = refl;
  repairs = refl;
  pair = refl;
  pair-stages = refl;
  pair-free = refl;
  pair-room = refl;
}
