-- The table of edges holds: each line computes. Assumes nothing.
use mathlib.Core.Path.{refl}
use Rattle.model.specs.Bytes.{be_at, be_bytes, bytes_from, put, ones_sector, zero_sector}
use Rattle.model.specs.Search.{scan, any_below, all_below, count_below, equal_bytes, tabulate}
use Rattle.model.specs.Geometry.{in_bounds}
use Rattle.model.specs.Edition.{layout_of, is_edition, bad_time}
use Rattle.model.specs.Superblock.{is_volume, geometry_in, journal_length, state_of, new_superblock}
use Rattle.model.specs.Root.{root_in, new_root_sector}
use Rattle.model.specs.Entry.{name_in, entry_in, is_occupied, has_zero, bad_name, new_entry_sector, updated_entry_sector}
use Rattle.model.specs.Table.{table_file, table_offset, taken_in}
use Rattle.model.specs.Journal.{source_at, target_at, entries_in, journal_sector}
use Rattle.model.specs.Catalogue.{catalogue_of, free_below, lacks_reserve, staging_extents, entry_of}
use Rattle.model.specs.Faults.{fault21, fault22, fault23, fault24, fault25, exact, fault26, first_fault}
use Rattle.model.specs.Refusals.{verdict_of, is_whole, fits_image, image_verdict, sound_verdict, judged}
use Rattle.model.specs.WriteList.{barrier, record_bytes, list_bytes, stage_in, stages_in, staging, copies, journal_of, group_a, groups_of, groups_for, plan_conditions, decided}
use Rattle.model.specs.Summary.{superblock_verdict, superblock_answer, check_answer}
use Rattle.model.specs.Scratch.{sound_verdict_with, judged_with, check_with_answer}
use Rattle.model.specs.Listing.{list_conditions, list_plan, list_planned, list_decision, listed_of, list_answer}
use Rattle.model.specs.Recovery.{is_data, is_metadata, good_entry, replayed_sector, replayed, recovery_groups, recovery_verdict}
use Rattle.model.specs.Recovery.{differs, is_copied, copied_entry, copied, slice_groups, slice_verdict, slice_listed, slice_answer}
use Rattle.model.specs.Search.{concatenated}
use Rattle.model.specs.Format.{doubled, geometry_for, can_format, format_verdict, format_answer}
use Rattle.model.specs.CarryOut.{position_in, record_in, bad_record, carry_verdict, carry_answer}
use Rattle.cases.specs.Edges.{Edges}

pub edges : Edges
unfolding be_at be_bytes bytes_from put ones_sector zero_sector scan any_below all_below count_below equal_bytes tabulate concatenated in_bounds layout_of is_edition bad_time is_volume
    geometry_in journal_length state_of new_superblock root_in new_root_sector name_in entry_in is_occupied has_zero bad_name new_entry_sector updated_entry_sector table_file table_offset
    taken_in source_at target_at entries_in journal_sector catalogue_of free_below lacks_reserve staging_extents entry_of fault21 fault22 fault23 fault24 fault25 exact fault26 first_fault
    verdict_of is_whole fits_image image_verdict sound_verdict judged barrier record_bytes list_bytes superblock_verdict superblock_answer check_answer sound_verdict_with judged_with
    check_with_answer list_conditions list_plan list_planned list_decision listed_of list_answer groups_for groups_of group_a copies stage_in stages_in staging journal_of plan_conditions
    decided is_data is_metadata good_entry replayed_sector replayed recovery_groups recovery_verdict differs is_copied copied_entry copied slice_groups slice_verdict slice_listed
    slice_answer doubled geometry_for can_format format_verdict format_answer position_in record_in bad_record carry_verdict carry_answer
edges = record {
  table-sectors = refl;
  files = refl;
  most-files = refl;
  most-sectors = refl;
  positions = refl;
  superblocks = refl;
  refused = refl;
  short = refl;
  codes = refl;
  areas = refl;
  lowest = refl;
  tail-stays = refl;
  entries = refl;
  scratch = refl;
  table = refl;
  journals = refl;
  sliced = refl;
  slice-answers = refl;
  lists = refl;
  numbered = refl;
}
