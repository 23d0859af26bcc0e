-- "its extents become 65535, 65535 .. Targets .. each table sector that holds one" (delete; a resize, a rename and a repair free "as in
-- delete"): the records of the table sectors in which the extents of a test are freed.
use Rattle.std.specs.Prelude.{ℕ, ◌+◌, ◌*◌, Bool, cond, List, [], ◌∷◌}
use Rattle.model.specs.declared.Geometry.{Geometry}
use Rattle.model.specs.Search.{concatenated}
use Rattle.model.specs.Geometry.{ExtentNumber, table_at, table_sectors}
use Rattle.model.specs.Disk.{Disk}
use Rattle.model.specs.Table.{freed_in, holds_any}
use Rattle.model.specs.WriteList.{Record, sector_write}

module _ (freed : ExtentNumber → Bool) (g : Geometry) (d : Disk) where
  -- table sector t's, if it holds one; all of them
  unfoldable pub freed_sector : ℕ → List Record
  freed_sector t =
      let at = table_at g + t in
      cond (holds_any freed t) (sector_write at (freed_in (λ k. freed (128 * t + k)) (d at) 128) ∷ []) []

  unfoldable pub freed_sectors : List Record
  freed_sectors = concatenated freed_sector 0 (table_sectors g)
