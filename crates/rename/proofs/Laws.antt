-- A rename's targets and how long its list is. Assumes nothing.
use Prim.Native.Nat.{ℕ, ◌+◌, ◌*◌}
use mathlib.Core.Path.{◌≡◌, refl, sym, ap, ◌∙◌}
use mathlib.Core.Bool.{Bool, true, false, cond}
use mathlib.Core.List.{List, [], ◌∷◌, ◌++◌}
use mathlib.Core.Option.{some}
use native.Mathlib.Omega.{arith}
use lib.Dec.{ltb}
use lib.ListN.{length, length-append}
use Rattle.model.specs.declared.Geometry.{Geometry}
use Rattle.model.specs.Search.{Lowest}
use Rattle.std.specs.Prelude.{Some, None}
use Rattle.model.specs.Bytes.{zero_sector}
use Rattle.model.specs.Geometry.{superblock_at, root_at, entry_at}
use Rattle.model.specs.Disk.{Disk, view}
use Rattle.model.specs.Superblock.{geometry_in}
use Rattle.model.specs.Root.{updated_root_sector}
use Rattle.model.specs.Catalogue.{catalogue_of}
use Rattle.model.specs.WriteList.{Record, record_size, record_count, sector_write, groups_for, list_length}
use Rattle.model.specs.Freeing.{freed_sectors}
use Rattle.model.specs.Rename.{replacing_records, renaming_records, rename_plan}
use Rattle.laws.proofs.WriteList.{plan-needs}
use Rattle.laws.proofs.Freeing.{length-freed}
use Rattle.table.specs.Owned.{owned_in}
use Rattle.table.proofs.Laws.{geometry-of}
use Rattle.rename.specs.Renaming.{renaming_count, renamed_entry, both_entries, replacing, renaming, plan_for}

-- ---- the plan: its targets, and no data sectors

pub rename-targets : (d : Disk) (g : Geometry) → g ≡ geometry_in (d superblock_at) → (i : ℕ) (place : Lowest) (name : List ℕ) (time : ℕ)
    → (rename_plan (catalogue_of d) d i place name time).targets
    ≡ sector_write root_at (updated_root_sector g.edition time (d root_at)) ∷ renaming_records (catalogue_of d) d i place name time
unfolding rename_plan catalogue_of
rename-targets d g is i place name time =
    ap (λ (x : Geometry). sector_write root_at (updated_root_sector x.edition time (d root_at)) ∷ renaming_records (catalogue_of d) d i place name time) (sym is)

pub rename-alone : (d : Disk) (i : ℕ) (place : Lowest) (name : List ℕ) (time : ℕ) → (rename_plan (catalogue_of d) d i place name time).data_sectors ≡ []
unfolding rename_plan
rename-alone d i place name time = refl

-- ---- its length

length-pair : (a b : Record) (t : Bool) → length (cond t (a ∷ b ∷ []) (b ∷ a ∷ [])) ≡ 2
length-pair a b true = refl
length-pair a b false = refl

module _ (img : List ℕ) (g : Geometry) (is : g ≡ geometry_in (view img superblock_at)) (i : ℕ) where
  pub replacing-is : (j : ℕ) (name : List ℕ) (time : ℕ) → replacing img i j name time ≡ both_entries img i j name time ++ freed_sectors (owned_in img j 0) g (view img)
  unfolding replacing_records
  replacing-is j name time =
      ap (λ (x : Geometry). both_entries img i j name time ++ freed_sectors (owned_in img j 0) x (view img)) (geometry-of (view img) g is)

  length-renaming : (place : Lowest) (name : List ℕ) (time : ℕ) → length (renaming img i place name time) ≡ renaming_count img g place
  length-renaming None name time = refl
  length-renaming (Some j) name time =
      ap length (replacing-is j name time) ∙ length-append (both_entries img i j name time) (freed_sectors (owned_in img j 0) g (view img))
      ∙ omega (
        arith,
        length-pair (renamed_entry img i name time) (sector_write (entry_at j) zero_sector) (ltb i j),
        length-freed (owned_in img j 0) g (view img),
      )

  pub rename-needs : (place : Lowest) (name : List ℕ) (time : ℕ)
      → list_length (groups_for (view img) (some (plan_for img i place name time))) ≡ record_count 0 (1 + renaming_count img g place) * record_size
  unfolding rename_plan
  rename-needs place name time =
      plan-needs (view img) (plan_for img i place name time)
      ∙ ap (λ n. record_count 0 n * record_size)
      (let e : length (plan_for img i place name time).targets ≡ 1 + renaming_count img g place = omega (arith, length-renaming place name time) in e)
