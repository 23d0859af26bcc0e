-- "Faults, lowest number first, then lowest place." A test says that the fault is at that place; nothing is assumed of the disk.
-- But for the entry marks, faults are read off the catalogue.
use Rattle.std.specs.Prelude.{ℕ, ◌*◌, Bool, false, not, ◌&&◌, ◌||◌, List, eqb, ltb, Some, None}
use Rattle.std.proofs.Math.Option.{Option, none, some}
use Rattle.model.specs.declared.Geometry.{Geometry}
use Rattle.model.specs.Answers.{Soundness, Sound, Faulty}
use Rattle.model.specs.Bytes.{number_in}
use Rattle.model.specs.Search.{Lowest, first, any_below, all_below, count_below}
use Rattle.model.specs.Geometry.{ExtentNumber, FileNumber, extent_bytes, entry_at, extents_for}
use Rattle.model.specs.Disk.{Disk}
use Rattle.model.specs.Entry.{Entry, entry_field, free_mark, is_occupied, bad_name}
use Rattle.model.specs.Catalogue.{Catalogue, catalogue_of, is_free, has_name, has_id, is_part, owned_from}

-- an occupied entry, a taken extent, of which a test holds: "only occupied entries are judged by 22, 23, 24 and 26"
abbrev pub holds_of {ℓ} : {A : Type ℓ} → Option A → (A → Bool) → Bool
holds_of none p = false
holds_of (some a) p = p a

-- 21 entry mark is neither value: by an entry's sector
abbrev pub bad_mark : List ℕ → Bool
bad_mark s = not (eqb (number_in s entry_field.mark) free_mark || is_occupied s)

unfoldable pub fault21 : Disk → FileNumber → Bool
fault21 d i = bad_mark (d (entry_at i))

-- 22 occupied, and the name length isn't 1 to 476, on version 2 to 468, or a name byte is 0, or size exceeds N x E (T-12): of an occupied entry
abbrev pub bad_entry : Geometry → Entry → Bool
bad_entry g e = bad_name g.edition e.name || ltb (g.extents * extent_bytes g) e.size

module _ (c : Catalogue) where
  unfoldable pub fault22 : FileNumber → Bool
  fault22 i = holds_of (c.entries i) (λ e. bad_entry c.geometry e)

  -- 23 same name as an occupied entry of lower index
  unfoldable pub fault23 : FileNumber → Bool
  fault23 i = holds_of (c.entries i) (λ e. any_below (λ j. has_name e.name (c.entries j)) i)

  -- 24 id is 0, the root's, or that of an occupied entry of lower index
  unfoldable pub fault24 : FileNumber → Bool
  fault24 i = holds_of (c.entries i) (λ e. eqb e.id 0 || eqb e.id c.root.id || any_below (λ j. has_id e.id (c.entries j)) i)

  -- 25 a table entry names no occupied file and isn't free. T-12: it "no longer looks at the reserve"
  unfoldable pub fault25 : ExtentNumber → Bool
  fault25 e = holds_of (c.table e) (λ w. is_free (c.entries w.file))

  -- "exactly one entry for each offset 0 to k - 1 and no others"
  unfoldable pub exact : FileNumber → ℕ → Bool
  exact i k =
      all_below (λ o. eqb (count_below (λ e. is_part i o (c.table e)) c.geometry.extents) 1) k
      && all_below (λ e. not (owned_from i k (c.table e))) c.geometry.extents

  -- 26 a file of size z doesn't have exactly one entry for each offset 0 to C - 1 and no others, C = z / E rounded up
  unfoldable pub fault26 : FileNumber → Bool
  fault26 i = holds_of (c.entries i) (λ e. not (exact i (extents_for c.geometry e.size)))

-- the fault of this number at the place found, else the later ones
abbrev pub or_else : ℕ → Lowest → Soundness → Soundness
or_else n (Some i) later = Faulty n i
or_else n None later = later

-- "Places are file indexes, for 25 an extent": by the entries whose marks are faults, and by what the catalogue says
abbrev pub faults_in : (FileNumber → Bool) → Catalogue → Soundness
faults_in marks c =
    let files = c.geometry.files in
    or_else 21 (first marks files)
    (or_else 22 (first (fault22 c) files)
    (or_else 23 (first (fault23 c) files)
    (or_else 24 (first (fault24 c) files)
    (or_else 25 (first (fault25 c) c.geometry.extents) (or_else 26 (first (fault26 c) files) Sound)))))

unfoldable pub first_fault : Disk → Soundness
first_fault d = faults_in (fault21 d) (catalogue_of d)
