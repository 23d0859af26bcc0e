-- "Create: lowest free entry, size 0, version 0, given id, mode and time (both times), bytes after the name zero. Root: version
-- up, change time set. Targets 1 and the entry."
use Rattle.std.specs.Prelude.{ℕ, not, ◌||◌, List, [], ◌∷◌, eqb, length}
use Rattle.std.proofs.Math.Option.{some}
use Rattle.model.specs.Answers.{Changed}
use Rattle.model.specs.Search.{any_below, is_at, index_of}
use Rattle.model.specs.Geometry.{root_at, entry_at}
use Rattle.model.specs.Disk.{Disk}
use Rattle.model.specs.Edition.{bad_time}
use Rattle.model.specs.Root.{updated_root_sector}
use Rattle.model.specs.Entry.{bad_new_name, new_entry_sector}
use Rattle.model.specs.Catalogue.{Catalogue, catalogue_of, file_named, free_entry, has_id}
use Rattle.model.specs.Refusals.{Conditions, refusal}
use Rattle.model.specs.WriteList.{Plan, sector_write, record_count, Decision, decided, answer_of, list_after}

-- 8 bad time; 8 bad new name or id 0; 10 name already there, or id an occupied entry's or the root's; 11 no free entry
unfoldable pub create_conditions : Catalogue → List ℕ → ℕ → ℕ → Conditions
create_conditions c name id time =
    (bad_time c.geometry.edition time, refusal 8) ∷ (bad_new_name c.geometry.edition name || eqb id 0, refusal 8)
    ∷ (is_at (file_named c name) || any_below (λ i. has_id id (c.entries i)) c.geometry.files || eqb id c.root.id, refusal 10)
    ∷ (not (is_at (free_entry c)), refusal 11) ∷ []

unfoldable pub create_plan : Catalogue → Disk → List ℕ → ℕ → ℕ → ℕ → Plan
create_plan c d name id mode time = record {
  data_sectors = [];
  targets =
      sector_write root_at (updated_root_sector c.geometry.edition time (d root_at))
      ∷ sector_write (entry_at (index_of (free_entry c))) (new_entry_sector c.geometry.edition name id mode time) ∷ [];
}

abbrev pub create_count : ℕ
create_count = record_count 0 2

unfoldable pub create_decision : ℕ → Disk → List ℕ → ℕ → ℕ → ℕ → ℕ → Decision
create_decision len d name id mode time room =
    let c = catalogue_of d in
    decided len d (create_conditions c name id time) (some (create_plan c d name id mode time)) room

unfoldable pub create_answer : ℕ → Disk → List ℕ → ℕ → ℕ → ℕ → ℕ → Changed
create_answer len d name id mode time room = answer_of d (create_decision len d name id mode time room)

unfoldable pub create_list : ℕ → Disk → List ℕ → ℕ → ℕ → ℕ → List ℕ → List ℕ
create_list len d name id mode time list = list_after d (create_decision len d name id mode time (length list)) list
