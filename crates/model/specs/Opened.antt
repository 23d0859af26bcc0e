-- What functions behind the refusals 1 to 3 may rest on: an entry point derives these facts by its tests, and never asks for them.
use Rattle.std.specs.Prelude.{ℕ, ◌*◌, ◌≤◌, ◌≡◌, List, length}
use Rattle.model.specs.declared.Geometry.{Geometry}
use Rattle.model.specs.Geometry.{extent_sectors, superblock_at, data_at, volume_sectors, least_files, most_files}
use Rattle.model.specs.Disk.{Disk, view}
use Rattle.model.specs.Superblock.{geometry_in}
use Rattle.model.specs.Refusals.{image_verdict, judged}

-- a geometry in bounds, whose S fits its field
pub record Bounded (g : Geometry) : Type 0 where
  pub files-low : least_files ≤ g.files
  pub files-high : g.files ≤ most_files
  pub extents-low : 2 ≤ g.extents
  pub extents-high : g.extents ≤ 65535
  pub extent-low : 128 ≤ extent_sectors g
  pub extent-high : extent_sectors g ≤ 4294967295

-- g is the image's geometry, in bounds, and the sectors before the data area are there: an image may be lent without the rest (T-11)
pub record Opened (img : List ℕ) (g : Geometry) : Type 0 where
  pub is : g ≡ geometry_in (view img superblock_at)
  pub bounded : Bounded g
  pub held : 512 * data_at g ≤ length img

-- the length that an image must have at least, by its superblock
unfoldable pub volume_length : Disk → ℕ
volume_length d = 512 * volume_sectors (geometry_in (d superblock_at))

-- said of an image by that length: inner functions go by it, so that they serve images and lent sectors alike
abbrev pub in_volume {ℓ} : {A : Type ℓ} → (ℕ → Disk → A) → List ℕ → A
in_volume f img = f (volume_length (view img)) (view img)

-- the refusals 1 to 3, or 1 to 7, let an image of that length pass, and the sectors before the data area are there
pub record Readable (img : List ℕ) : Type 0 where
  pub held : 512 * data_at (geometry_in (view img superblock_at)) ≤ length img
  pub verdict : (image_verdict (volume_length (view img)) (view img)).number ≡ 0

pub record Accepted (img : List ℕ) : Type 0 where
  pub held : 512 * data_at (geometry_in (view img superblock_at)) ≤ length img
  pub verdict : (judged (volume_length (view img)) (view img)).number ≡ 0
