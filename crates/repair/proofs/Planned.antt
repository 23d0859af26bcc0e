-- A repair's plan: its targets, how long its list is, and when there is one. Assumes nothing.
use Prim.Native.Nat.{◌*◌}
use mathlib.Core.Path.{◌≡◌, refl, ap, ap₂, ◌∙◌}
use mathlib.Core.Logic.{◌≢◌}
use mathlib.Core.Bool.{Bool, true, false, cond}
use mathlib.Core.List.{[]}
use mathlib.Core.Option.{none, some}
use native.Mathlib.Omega.{arith}
use lib.ListN.{length}
use Rattle.model.specs.declared.Geometry.{Geometry}
use Rattle.model.specs.Search.{any_below, count_below}
use Rattle.model.specs.Disk.{Disk}
use Rattle.model.specs.Superblock.{geometry_in}
use Rattle.model.specs.Table.{sectors_holding}
use Rattle.model.specs.Catalogue.{catalogue_of}
use Rattle.model.specs.WriteList.{record_size, record_count, groups_for, list_length}
use Rattle.model.specs.Freeing.{freed_sectors}
use Rattle.model.specs.Repair.{is_stray, repair_plan, repair_planned}
use Rattle.laws.proofs.Count.{count_below-any_below, count_below-none}
use Rattle.laws.proofs.Freeing.{length-freed}
use Rattle.laws.proofs.WriteList.{plan-needs}
use Rattle.table.proofs.Laws.{geometry-of}

module _ (d : Disk) (g : Geometry) (is : g ≡ geometry_in (d 0)) where
  pub geometry-is : (catalogue_of d).geometry ≡ g
  geometry-is = geometry-of d g is

  pub repair-alone : (repair_plan (catalogue_of d) d).data_sectors ≡ []
  unfolding repair_plan
  repair-alone = refl

  pub repair-targets : (repair_plan (catalogue_of d) d).targets ≡ freed_sectors (is_stray (catalogue_of d)) g d
  unfolding repair_plan
  repair-targets = ap (λ (x : Geometry). freed_sectors (is_stray (catalogue_of d)) x d) geometry-is

  pub repair-needs : list_length (groups_for d (some (repair_plan (catalogue_of d) d))) ≡ record_count 0 (sectors_holding (is_stray (catalogue_of d)) g) * record_size
  repair-needs =
      plan-needs d (repair_plan (catalogue_of d) d)
      ∙ ap₂ (λ m n. record_count m n * record_size) (ap length repair-alone) (ap length repair-targets ∙ length-freed (is_stray (catalogue_of d)) g d)

  by-any : (b : Bool) → any_below (is_stray (catalogue_of d)) g.extents ≡ b → repair_planned (catalogue_of d) d ≡ cond b (some (repair_plan (catalogue_of d) d)) none
  unfolding repair_planned
  by-any b e =
      ap (λ (b : Bool). cond b (some (repair_plan (catalogue_of d) d)) none)
      (ap (λ (x : Geometry). any_below (is_stray (catalogue_of d)) x.extents) geometry-is ∙ e)

  pub planned-none : count_below (is_stray (catalogue_of d)) g.extents ≡ 0 → repair_planned (catalogue_of d) d ≡ none
  planned-none h = go (any_below (is_stray (catalogue_of d)) g.extents) refl
    where
      go : (b : Bool) → any_below (is_stray (catalogue_of d)) g.extents ≡ b → repair_planned (catalogue_of d) d ≡ none
      go true e = absurd (omega (arith, h, count_below-any_below (is_stray (catalogue_of d)) g.extents e))
      go false e = by-any false e

  pub planned-some : count_below (is_stray (catalogue_of d)) g.extents ≢ 0 → repair_planned (catalogue_of d) d ≡ some (repair_plan (catalogue_of d) d)
  planned-some h = go (any_below (is_stray (catalogue_of d)) g.extents) refl
    where
      go : (b : Bool) → any_below (is_stray (catalogue_of d)) g.extents ≡ b → repair_planned (catalogue_of d) d ≡ some (repair_plan (catalogue_of d) d)
      go true e = by-any true e
      go false e = absurd (h (count_below-none (is_stray (catalogue_of d)) g.extents e))
