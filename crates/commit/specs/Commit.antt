-- How the groups of a plan are made in the list itself: the call puts in its data sectors and the copies, and the rest comes of these.
use Rattle.std.specs.Prelude.{ℕ, ◌+◌, ◌*◌, ◌<◌, ◌≡◌, List, [], ◌∷◌, ◌++◌, length, get_or}
use Rattle.model.specs.declared.Geometry.{Geometry}
use Rattle.model.specs.Bytes.{bytes_from}
use Rattle.model.specs.Search.{tabulate}
use Rattle.model.specs.Geometry.{SectorNumber, ExtentNumber}
use Rattle.model.specs.Disk.{Disk}
use Rattle.model.specs.Catalogue.{catalogue_of, staging_extents}
use Rattle.model.specs.WriteList.{Group, sector_write, record_size, contents_start, stages_in, copies, sectors_of, journal_of, superblock_group, Emitted}

-- the extents that copies are staged in: five of the volume, of which as many count as the copies need
pub record Stages (g : Geometry) (stages : List ExtentNumber) : Type 0 where
  pub five : length stages ≡ 5
  pub inside : (k : ℕ) → get_or stages k 0 < g.extents

-- they begin with the staging extents of the disk, and zeros stand behind these
pub record StagesOf (g : Geometry) (d : Disk) (stages : List ExtentNumber) : Type 0 where
  pub inside : Stages g stages
  pub are : (k : ℕ) → get_or stages k 0 ≡ get_or (staging_extents (catalogue_of d)) k 0

-- n targets of these sector numbers, with the contents of the records that the list holds from position from on: their copies
unfoldable pub staged_targets : List ℕ → ℕ → List SectorNumber → ℕ → Group
staged_targets list from numbers n = tabulate (λ j. sector_write (get_or numbers j 0) (bytes_from list ((from + j) * record_size + contents_start) 512)) 0 n

-- the four groups, the first of them without its data sectors and copies
unfoldable pub commit_groups : Geometry → List ExtentNumber → Disk → List ℕ → ℕ → List SectorNumber → ℕ → List Group
commit_groups g es d list from numbers n =
    journal_of g (stages_in g es n) (bytes_from numbers 0 n) ∷ superblock_group d n ∷ staged_targets list from numbers n ∷ superblock_group d 0 ∷ []

-- data sectors and the copies of these targets, staged in the extents es, were put into the list l, which became m; k is the next position, and numbers
-- begin with the targets' sector numbers
pub record Staged (g : Geometry) (es : List ExtentNumber) (l : List ℕ) (sectors targets : Group) (numbers : List SectorNumber) (m : List ℕ) (k : ℕ) : Type 0 where
  pub emitted : Emitted l 0 (sectors ++ copies (stages_in g es (length targets)) targets) m k
  pub numbered : bytes_from numbers 0 (length targets) ≡ sectors_of targets

-- these targets were handed over behind all that stood staged up to position k, their copies staged in the extents es: the list m became
-- m', the noted numbers became numbers', and k' is the next position
pub record Added (g : Geometry) (es : List ExtentNumber) (numbers : List SectorNumber) (m : List ℕ) (k : ℕ) (targets : Group) (numbers' : List SectorNumber)
    (m' : List ℕ) (k' : ℕ) : Type 0 where
  pub more : (l : List ℕ) (before : Group) → Staged g es l [] before numbers m k → Staged g es l [] (before ++ targets) numbers' m' k'
  pub next : k' ≡ k + length targets
