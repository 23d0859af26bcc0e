-- What the claims about a repair speak of: "Prove of an accepted repair, carried out whole, that no byte of a file free of faults before
-- can change, that the volume is sound afterwards exactly if it had no fault 21 to 24 and no occupied file lacked an extent for one of its
-- offsets, and that repairing again gives an empty list."
use Rattle.std.specs.Prelude.{ℕ, ◌<◌, ◌≡◌, true, false, List, length, get_or}
use Rattle.std.proofs.Math.Option.{some}
use Rattle.model.specs.Search.{any_below}
use Rattle.model.specs.Geometry.{entry_at, extents_for}
use Rattle.model.specs.Disk.{Disk, view}
use Rattle.model.specs.Entry.{Entry}
use Rattle.model.specs.Catalogue.{Owner, catalogue_of, is_part, file_bytes}
use Rattle.model.specs.Faults.{fault21, fault22, fault23, fault24, fault26}
use Rattle.model.specs.WriteList.{stored, groups_for, closed}
use Rattle.model.specs.Repair.{repair_decision, repair_answer}

-- an image is a string of bytes; of a disk nothing else is assumed
abbrev pub OfBytes : List ℕ → Type 0
OfBytes img = (k : ℕ) → get_or img k 0 < 256

-- a repair of the image, with a list so long, is accepted
abbrev pub Repairs : List ℕ → ℕ → Type 0
Repairs img room = (repair_answer (length img) (view img) room).verdict.number ≡ 0

-- the image on which its list was carried out whole
unfoldable pub repaired_image : List ℕ → ℕ → List ℕ
repaired_image img room = stored (closed (groups_for (view img) (repair_decision (length img) (view img) room).plan)) img

-- the file of index i and entry x lacks an extent for none of its offsets
abbrev pub Complete : Disk → ℕ → Entry → Type 0
Complete d i x =
    (o : ℕ) → o < extents_for (catalogue_of d).geometry x.size → any_below (λ e. is_part i o ((catalogue_of d).table e)) (catalogue_of d).geometry.extents ≡ true

-- "it had no fault 21 to 24 and no occupied file lacked an extent for one of its offsets"
pub record Mendable (d : Disk) : Type 0 where
  pub f21 : (i : ℕ) → i < (catalogue_of d).geometry.files → fault21 d i ≡ false
  pub f22 : (i : ℕ) → i < (catalogue_of d).geometry.files → fault22 (catalogue_of d) i ≡ false
  pub f23 : (i : ℕ) → i < (catalogue_of d).geometry.files → fault23 (catalogue_of d) i ≡ false
  pub f24 : (i : ℕ) → i < (catalogue_of d).geometry.files → fault24 (catalogue_of d) i ≡ false
  pub held : (i : ℕ) (x : Entry) → i < (catalogue_of d).geometry.files → (catalogue_of d).entries i ≡ some x → Complete d i x

-- "a file free of faults": none at its index
pub record FreeOfFaults (d : Disk) (i : ℕ) : Type 0 where
  pub f21 : fault21 d i ≡ false
  pub f22 : fault22 (catalogue_of d) i ≡ false
  pub f23 : fault23 (catalogue_of d) i ≡ false
  pub f24 : fault24 (catalogue_of d) i ≡ false
  pub f26 : fault26 (catalogue_of d) i ≡ false

-- the file of index i and entry x is in both images the same: its directory sector, its table entries and its bytes
pub record Same (img out : List ℕ) (i : ℕ) (x : Entry) : Type 0 where
  pub entry : view out (entry_at i) ≡ view img (entry_at i)
  pub extents : (e : ℕ) (w : Owner) → e < (catalogue_of (view img)).geometry.extents → (catalogue_of (view img)).table e ≡ some w → w.file ≡ i
      → (catalogue_of (view out)).table e ≡ some w
  pub bytes : file_bytes (catalogue_of (view out)) (view out) i 0 x.size ≡ file_bytes (catalogue_of (view img)) (view img) i 0 x.size
