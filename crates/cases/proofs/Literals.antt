-- The table of literal bytes holds: each line computes. Assumes nothing.
use mathlib.Core.Path.{refl}
use Rattle.model.specs.Bytes.{be_at, be_bytes, bytes_from, put, ones_sector, zero_sector}
use Rattle.model.specs.Search.{scan, any_below, all_below, count_below, equal_bytes, tabulate, concatenated}
use Rattle.model.specs.Geometry.{in_bounds}
use Rattle.model.specs.Edition.{layout_of, is_edition, bad_time}
use Rattle.model.specs.Superblock.{is_volume, geometry_in, journal_length, state_of, new_superblock}
use Rattle.model.specs.Root.{root_in, new_root_sector, updated_root_sector}
use Rattle.model.specs.Entry.{name_in, entry_in, is_occupied, has_zero, bad_name, new_entry_sector, updated_entry_sector, renamed_entry_sector}
use Rattle.model.specs.Table.{table_file, table_offset, taken_in, freed_in}
use Rattle.model.specs.Journal.{entries_in, journal_sector}
use Rattle.model.specs.Catalogue.{catalogue_of, file_named, free_below, lacks_reserve, staging_extents, entry_of}
use Rattle.model.specs.Faults.{fault21, fault22, fault23, fault24, fault25, exact, fault26, first_fault}
use Rattle.model.specs.Refusals.{verdict_of, is_whole, fits_image, image_verdict, sound_verdict, judged}
use Rattle.model.specs.WriteList.{barrier, record_bytes, stage_in, stages_in, staging, copies, journal_of, group_a, groups_of, groups_for, plan_conditions, decided}
use Rattle.model.specs.Summary.{superblock_verdict, superblock_answer}
use Rattle.model.specs.Read.{size_named, read_conditions, read_plan, read_planned, read_decision, read_of, read_answer}
use Rattle.cases.specs.Literals.{Literals}

pub literals : Literals
unfolding be_at be_bytes bytes_from put ones_sector zero_sector scan any_below all_below count_below equal_bytes concatenated in_bounds layout_of is_edition is_volume geometry_in
    journal_length state_of new_superblock root_in new_root_sector updated_root_sector name_in entry_in is_occupied has_zero bad_name new_entry_sector updated_entry_sector renamed_entry_sector
    table_file table_offset taken_in freed_in entries_in journal_sector catalogue_of file_named free_below lacks_reserve staging_extents entry_of fault21 fault22 fault23 fault24 fault25
    exact fault26 first_fault verdict_of is_whole fits_image image_verdict sound_verdict judged barrier record_bytes superblock_verdict superblock_answer size_named read_conditions
    read_plan read_planned read_decision read_of read_answer groups_for groups_of group_a copies stage_in stages_in staging journal_of plan_conditions decided tabulate bad_time
literals = record {
  unfinished = refl;
  clean = refl;
  read_back = refl;
  root = refl;
  root-updated = refl;
  created = refl;
  written = refl;
  renamed = refl;
  taken = refl;
  freed = refl;
  journal = refl;
  barrier-bytes = refl;
  record-bytes = refl;
  states = refl;
  judged = refl;
  refused = refl;
}
