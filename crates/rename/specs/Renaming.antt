-- A rename in an image, by where the new name is: nowhere, or at a file that is replaced.
use Rattle.std.specs.Prelude.{ℕ, ◌+◌, cond, List, [], ◌∷◌, ltb, length, Some, None}
use Rattle.std.proofs.Math.Option.{some}
use Rattle.model.specs.Answers.{Changed}
use Rattle.model.specs.declared.Geometry.{Geometry}
use Rattle.model.specs.Search.{Lowest}
use Rattle.model.specs.Bytes.{zero_sector}
use Rattle.model.specs.Geometry.{FileNumber, entry_at}
use Rattle.model.specs.Disk.{view}
use Rattle.model.specs.Table.{sectors_holding}
use Rattle.model.specs.Catalogue.{Catalogue, catalogue_of, file_named}
use Rattle.model.specs.WriteList.{Record, Plan, sector_write}
use Rattle.model.specs.Rename.{renamed_record, replacing_records, renaming_records, rename_plan}
use Rattle.commit.specs.Decided.{fitted, ComesTo}
use Rattle.table.specs.Owned.{owned_in}

-- how many targets stand behind the root
abbrev pub renaming_count : List ℕ → Geometry → Lowest → ℕ
renaming_count img g None = 1
renaming_count img g (Some j) = 2 + sectors_holding (owned_in img j 0) g

module _ (img : List ℕ) (i : FileNumber) where
  abbrev c : Catalogue
  c = catalogue_of (view img)

  -- file i's entry with its new name; by index, that and the entry of file j, which has it; with the table sectors of file j
  abbrev pub renamed_entry : List ℕ → ℕ → Record
  renamed_entry name time = renamed_record c (view img) i name time

  abbrev pub both_entries : FileNumber → List ℕ → ℕ → List Record
  both_entries j name time =
      let this = renamed_entry name time in
      let that = sector_write (entry_at j) zero_sector in
      cond (ltb i j) (this ∷ that ∷ []) (that ∷ this ∷ [])

  abbrev pub replacing : FileNumber → List ℕ → ℕ → List Record
  replacing j name time = replacing_records c (view img) i j name time

  -- all targets behind the root; the plan
  abbrev pub renaming : Lowest → List ℕ → ℕ → List Record
  renaming place name time = renaming_records c (view img) i place name time

  abbrev pub plan_for : Lowest → List ℕ → ℕ → Plan
  plan_for place name time = rename_plan c (view img) i place name time

  -- what it comes to, to a name that is not its own
  abbrev pub RenamesTo : List ℕ → ℕ → List ℕ → Changed → List ℕ → Type 0
  RenamesTo name time list answer after =
      ComesTo (view img) (fitted (view img) (some (plan_for (file_named c name) name time)) (length list)) list answer after
