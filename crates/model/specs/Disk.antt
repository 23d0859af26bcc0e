-- A disk shows a sector's 512 bytes by its number; an image is a string of bytes seen as a disk. Every definition of what a
-- volume says takes a disk, and where a refusal needs it the image's length.
use Rattle.std.specs.Prelude.{ℕ, ◌*◌, List, length}
use Rattle.model.specs.Bytes.{bytes_from}
use Rattle.model.specs.Geometry.{SectorNumber}

abbrev pub Disk : Type 0
Disk = SectorNumber → List ℕ

unfoldable pub view : List ℕ → Disk
view img k = bytes_from img (512 * k) 512

-- what is said of a length and a disk, said of an image
abbrev pub on_image {ℓ} : {A : Type ℓ} → (ℕ → Disk → A) → List ℕ → A
on_image f img = f (length img) (view img)
