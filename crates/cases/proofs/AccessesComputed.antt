-- The table of access times holds: each line computes. Assumes nothing.
use mathlib.Core.Path.{refl}
use Rattle.model.specs.Bytes.{be_at, be_bytes, bytes_from, put, ones_sector, zero_sector}
use Rattle.model.specs.Search.{scan, any_below, all_below, count_below, equal_bytes, tabulate, concatenated}
use Rattle.model.specs.Geometry.{in_bounds}
use Rattle.model.specs.Edition.{layout_of, is_edition, bad_time}
use Rattle.model.specs.Superblock.{is_volume, geometry_in, journal_length, state_of}
use Rattle.model.specs.Root.{root_in, new_root_sector, accessed_root_sector}
use Rattle.model.specs.Entry.{name_in, entry_in, is_occupied, fields_of, has_zero, bad_name, new_entry_sector, updated_entry_sector, accessed_entry_sector}
use Rattle.model.specs.Table.{table_file, table_offset, taken_in}
use Rattle.model.specs.Catalogue.{catalogue_of, file_named, free_below, lacks_reserve, staging_extents, entry_of, extent_of, sector_of, file_byte, file_bytes}
use Rattle.model.specs.Faults.{fault21, fault22, fault23, fault24, fault25, exact, fault26, first_fault}
use Rattle.model.specs.Refusals.{verdict_of, is_whole, fits_image, image_verdict, sound_verdict, judged}
use Rattle.model.specs.WriteList.{barrier, stage_in, stages_in, staging, copies, journal_of, group_a, groups_of, groups_for, plan_conditions, decided, list_bytes, emit}
use Rattle.model.specs.Format.{doubled, geometry_for}
use Rattle.model.specs.Listing.{list_conditions, list_plan, list_planned, list_decision, listed_of, copied_of, list_answer, list_copies, list_output, listing_list}
use Rattle.model.specs.Read.{size_named, read_conditions, read_plan, read_planned, read_decision, read_of, read_answer, read_gives, read_output, read_list}
use Rattle.model.specs.Ledger.{catalogue, first_ledger, ledger_from, holder_of, position_among, slot_named, free_slot, unheld_extent, unheld_extents, is_frozen, file_of, new_entry}
use Rattle.model.specs.Ledger.{updated_root, accessed_entry, accessed_root, step, lowest, unfit_time, unfit_name, unfit_new_name}
use Rattle.cases.specs.Accesses.{Accesses}

pub accesses : Accesses
unfolding be_at be_bytes bytes_from put ones_sector zero_sector scan any_below all_below count_below equal_bytes tabulate concatenated in_bounds layout_of is_edition bad_time is_volume
    geometry_in journal_length state_of root_in new_root_sector accessed_root_sector name_in entry_in is_occupied fields_of has_zero bad_name new_entry_sector updated_entry_sector
    accessed_entry_sector table_file table_offset taken_in catalogue_of file_named free_below lacks_reserve staging_extents entry_of extent_of sector_of file_byte file_bytes fault21 fault22
    fault23 fault24 fault25 exact fault26 first_fault verdict_of is_whole fits_image image_verdict sound_verdict judged barrier stage_in stages_in staging copies journal_of group_a
    groups_of groups_for plan_conditions decided list_bytes emit doubled geometry_for list_conditions list_plan list_planned list_decision listed_of copied_of list_answer list_copies
    list_output listing_list size_named read_conditions read_plan read_planned read_decision read_of read_answer read_gives read_output read_list catalogue first_ledger ledger_from holder_of
    position_among slot_named free_slot unheld_extent unheld_extents is_frozen file_of new_entry updated_root accessed_entry accessed_root step lowest unfit_time unfit_name unfit_new_name
accesses = record {
  entry-accessed = refl;
  root-accessed = refl;
  entry-accessed-2 = refl;
  root-accessed-2 = refl;
  read-order = λ d. refl;
  list-order = λ d. refl;
  reads-give = refl;
  reads-refuse = refl;
  lists-give = refl;
  lists-refuse = refl;
  neither-changes = refl;
  outputs = refl;
  read-entry = refl;
  list-root = refl;
  set = refl;
  left = refl;
}
