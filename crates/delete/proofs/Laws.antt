-- A delete's targets, and how long its list is. Assumes nothing.
use Prim.Native.Nat.{ℕ, suc, ◌+◌, ◌*◌}
use mathlib.Core.Path.{◌≡◌, refl, ap, ◌∙◌}
use mathlib.Core.List.{[], ◌∷◌}
use mathlib.Core.Option.{some}
use native.Mathlib.Omega.{arith}
use lib.ListN.{length}
use Rattle.model.specs.declared.Geometry.{Geometry}
use Rattle.model.specs.Bytes.{zero_sector}
use Rattle.model.specs.Geometry.{superblock_at, root_at, entry_at}
use Rattle.model.specs.Disk.{Disk}
use Rattle.model.specs.Superblock.{geometry_in}
use Rattle.model.specs.Root.{updated_root_sector}
use Rattle.model.specs.Table.{sectors_holding}
use Rattle.model.specs.Catalogue.{catalogue_of, owns_from}
use Rattle.model.specs.WriteList.{sector_write, record_size, record_count, groups_for, list_length}
use Rattle.model.specs.Freeing.{freed_sectors}
use Rattle.model.specs.Delete.{delete_plan}
use Rattle.laws.proofs.Freeing.{length-freed}
use Rattle.laws.proofs.WriteList.{plan-needs}
use Rattle.table.proofs.Laws.{geometry-of}

pub delete-alone : (d : Disk) (i time : ℕ) → (delete_plan (catalogue_of d) d i time).data_sectors ≡ []
unfolding delete_plan
delete-alone d i time = refl

module _ (d : Disk) (g : Geometry) (is : g ≡ geometry_in (d superblock_at)) (i time : ℕ) where
  -- the root, entry i, then the table sectors that hold any extent of it
  pub delete-targets : (delete_plan (catalogue_of d) d i time).targets
      ≡ sector_write root_at (updated_root_sector g.edition time (d root_at)) ∷ sector_write (entry_at i) zero_sector ∷ freed_sectors (owns_from (catalogue_of d) i 0) g d
  unfolding delete_plan
  delete-targets =
      ap (λ (x : Geometry).
      sector_write root_at (updated_root_sector x.edition time (d root_at)) ∷ sector_write (entry_at i) zero_sector ∷ freed_sectors (owns_from (catalogue_of d) i 0) x d)
      (geometry-of d g is)

  pub delete-needs : list_length (groups_for d (some (delete_plan (catalogue_of d) d i time)))
      ≡ record_count 0 (2 + sectors_holding (owns_from (catalogue_of d) i 0) g) * record_size
  unfolding delete_plan
  delete-needs =
      plan-needs d (delete_plan (catalogue_of d) d i time)
      ∙ ap (λ n. record_count 0 n * record_size)
      (ap length delete-targets ∙ (let e : suc (suc (length (freed_sectors (owns_from (catalogue_of d) i 0) g d))) ≡ 2 + sectors_holding (owns_from (catalogue_of d) i 0) g = omega
      (arith, length-freed (owns_from (catalogue_of d) i 0) g d) in e))
