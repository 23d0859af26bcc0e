-- T-01: "Rename gives an entry a new name (bytes after it zero), raises its version, sets its change time, and updates the root once, as
-- create does. If the new name exists, that file is deleted in the same transaction. A name renamed to itself is done with an empty
-- list. Refusals: 8 for either name, 9 for the old one, 14."
use Rattle.std.specs.Prelude.{ℕ, cond, not, ◌||◌, List, [], ◌∷◌, ◌++◌, ltb, length, Some, None}
use Rattle.std.proofs.Math.Option.{Option, none, some}
use Rattle.model.specs.Answers.{Changed}
use Rattle.model.specs.Bytes.{zero_sector}
use Rattle.model.specs.Search.{Lowest, is_at, index_of, equal_bytes}
use Rattle.model.specs.Geometry.{FileNumber, root_at, entry_at}
use Rattle.model.specs.Disk.{Disk}
use Rattle.model.specs.Edition.{bad_time}
use Rattle.model.specs.Root.{updated_root_sector}
use Rattle.model.specs.Entry.{bad_name, bad_new_name, renamed_entry_sector}
use Rattle.model.specs.Catalogue.{Catalogue, catalogue_of, file_named, owns_from}
use Rattle.model.specs.Refusals.{Conditions, refusal}
use Rattle.model.specs.WriteList.{Plan, Record, sector_write, Decision, decided, answer_of, list_after}
use Rattle.model.specs.Freeing.{freed_sectors}

-- 8 bad time; 8 bad old name, bad new name; 9 no file of the old name
unfoldable pub rename_conditions : Catalogue → List ℕ → List ℕ → ℕ → Conditions
rename_conditions c old new time =
    (bad_time c.geometry.edition time, refusal 8)
    ∷ (bad_name c.geometry.edition old || bad_new_name c.geometry.edition new, refusal 8) ∷ (not (is_at (file_named c old)), refusal 9) ∷ []

-- file i's entry with its new name
unfoldable pub renamed_record : Catalogue → Disk → FileNumber → List ℕ → ℕ → Record
renamed_record c d i name time = sector_write (entry_at i) (renamed_entry_sector c.geometry.edition name time (d (entry_at i)))

-- and, by index, the entry of file j, which has the new name: 512 zeros, and its table sectors, as in delete
unfoldable pub replacing_records : Catalogue → Disk → FileNumber → FileNumber → List ℕ → ℕ → List Record
replacing_records c d i j name time =
    let this = renamed_record c d i name time in
    let that = sector_write (entry_at j) zero_sector in
    cond (ltb i j) (this ∷ that ∷ []) (that ∷ this ∷ []) ++ freed_sectors (owns_from c j 0) c.geometry d

-- by where the new name is: nowhere, or at a file that is replaced
abbrev pub renaming_records : Catalogue → Disk → FileNumber → Lowest → List ℕ → ℕ → List Record
renaming_records c d i None name time = renamed_record c d i name time ∷ []
renaming_records c d i (Some j) name time = replacing_records c d i j name time

unfoldable pub rename_plan : Catalogue → Disk → FileNumber → Lowest → List ℕ → ℕ → Plan
rename_plan c d i place name time = record {
  data_sectors = [];
  targets = sector_write root_at (updated_root_sector c.geometry.edition time (d root_at)) ∷ renaming_records c d i place name time;
}

-- to itself: no plan
unfoldable pub rename_planned : Catalogue → Disk → List ℕ → List ℕ → ℕ → Option Plan
rename_planned c d old new time = cond (equal_bytes old new) none (some (rename_plan c d (index_of (file_named c old)) (file_named c new) new time))

unfoldable pub rename_decision : ℕ → Disk → List ℕ → List ℕ → ℕ → ℕ → Decision
rename_decision len d old new time room =
    let c = catalogue_of d in
    decided len d (rename_conditions c old new time) (rename_planned c d old new time) room

unfoldable pub rename_answer : ℕ → Disk → List ℕ → List ℕ → ℕ → ℕ → Changed
rename_answer len d old new time room = answer_of d (rename_decision len d old new time room)

unfoldable pub rename_list : ℕ → Disk → List ℕ → List ℕ → ℕ → List ℕ → List ℕ
rename_list len d old new time list = list_after d (rename_decision len d old new time (length list)) list
