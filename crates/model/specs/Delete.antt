-- "Delete: entry becomes 512 zeros, its extents become 65535, 65535; root as above. Targets 1, the entry, each table sector that
-- holds one."
use Rattle.std.specs.Prelude.{ℕ, List, [], ◌∷◌, length}
use Rattle.std.proofs.Math.Option.{some}
use Rattle.model.specs.Answers.{Changed}
use Rattle.model.specs.Bytes.{zero_sector}
use Rattle.model.specs.Search.{index_of}
use Rattle.model.specs.Geometry.{FileNumber, root_at, entry_at}
use Rattle.model.specs.Disk.{Disk}
use Rattle.model.specs.Edition.{bad_time}
use Rattle.model.specs.Root.{updated_root_sector}
use Rattle.model.specs.Catalogue.{Catalogue, catalogue_of, file_named, owns_from}
use Rattle.model.specs.Refusals.{Conditions, refusal}
use Rattle.model.specs.WriteList.{Plan, sector_write, Decision, decided, answer_of, list_after}
use Rattle.model.specs.Freeing.{freed_sectors}
use Rattle.model.specs.Find.{name_conditions}

unfoldable pub delete_plan : Catalogue → Disk → FileNumber → ℕ → Plan
delete_plan c d i time = record {
  data_sectors = [];
  targets =
      sector_write root_at (updated_root_sector c.geometry.edition time (d root_at)) ∷ sector_write (entry_at i) zero_sector
      ∷ freed_sectors (owns_from c i 0) c.geometry d;
}

-- 8 bad time; 8 bad name; 9
unfoldable pub delete_conditions : Catalogue → List ℕ → ℕ → Conditions
delete_conditions c name time = (bad_time c.geometry.edition time, refusal 8) ∷ name_conditions c name

unfoldable pub delete_decision : ℕ → Disk → List ℕ → ℕ → ℕ → Decision
delete_decision len d name time room =
    let c = catalogue_of d in
    decided len d (delete_conditions c name time) (some (delete_plan c d (index_of (file_named c name)) time)) room

unfoldable pub delete_answer : ℕ → Disk → List ℕ → ℕ → ℕ → Changed
delete_answer len d name time room = answer_of d (delete_decision len d name time room)

unfoldable pub delete_list : ℕ → Disk → List ℕ → ℕ → List ℕ → List ℕ
delete_list len d name time list = list_after d (delete_decision len d name time (length list)) list
