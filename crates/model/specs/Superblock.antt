-- "Superblock: 0 F (2 bytes), 2 N (2), 4 S (4), 8 magic (8), 16 version (2) = 1, 18 journal length (2)." T-08: the version is the edition, 1 or 2.
use Rattle.std.specs.Prelude.{ℕ, Bool, cond, ◌&&◌, List, [], ◌∷◌, eqb, leb}
use Rattle.model.specs.declared.Geometry.{Geometry}
use Rattle.model.specs.declared.State.{State}
use Rattle.model.specs.declared.State.TheVariants.{Clean, Waiting, Damaged, Unfinished}
use Rattle.model.specs.Bytes.{Field, field, number_in, set_to, with_stores, bytes_from, zero_sector}
use Rattle.model.specs.Search.{equal_bytes}
use Rattle.model.specs.Geometry.{extent_sectors, superblock_at}
use Rattle.model.specs.Disk.{Disk}
use Rattle.model.specs.Edition.{is_edition}

pub record SuperblockLayout : Type 0 where
  pub files : Field
  pub extents : Field
  pub extent_sectors : Field
  pub magic : ℕ
  pub version : Field
  pub journal_length : Field

abbrev pub superblock_field : SuperblockLayout
superblock_field =
    record { files = field 0 2; extents = field 2 2; extent_sectors = field 4 4; magic = 8; version = field 16 2; journal_length = field 18 2 }

-- "the magic, the text /Goo/FS/"
abbrev pub magic : List ℕ
magic = 47 ∷ 71 ∷ 111 ∷ 111 ∷ 47 ∷ 70 ∷ 83 ∷ 47 ∷ []

-- "A reader compares bytes 8 to 15 with the magic"; and the version is 1 or 2: "Any other version is refused 2"
unfoldable pub is_volume : List ℕ → Bool
is_volume s = equal_bytes (bytes_from s superblock_field.magic 8) magic && is_edition (number_in s superblock_field.version)

unfoldable pub geometry_in : List ℕ → Geometry
geometry_in s = record {
  files = number_in s superblock_field.files;
  extents = number_in s superblock_field.extents;
  extent_sectors = number_in s superblock_field.extent_sectors;
  edition = number_in s superblock_field.version;
}

unfoldable pub journal_length : List ℕ → ℕ
journal_length s = number_in s superblock_field.journal_length

-- "clean (journal length 0), waiting with its entry count (1 to 1,024), damaged (1,025 to 65,534) or unfinished (65,535)"
unfoldable pub state_of : ℕ → State
state_of n = cond (eqb n 0) Clean (cond (leb n 1024) (Waiting n) (cond (leb n 65534) Damaged Unfinished))

abbrev pub state_on : Disk → State
state_on d = state_of (journal_length (d superblock_at))

-- a superblock with another journal length: all its other bytes stay
unfoldable pub with_journal_length : ℕ → List ℕ → List ℕ
with_journal_length n s = with_stores s (set_to superblock_field.journal_length n ∷ [])

-- format's: "unused bytes are zero"
unfoldable pub new_superblock : Geometry → ℕ → List ℕ
new_superblock g n =
    with_stores zero_sector
    (set_to superblock_field.files g.files ∷ set_to superblock_field.extents g.extents
    ∷ set_to superblock_field.extent_sectors (extent_sectors g) ∷ (superblock_field.magic, magic) ∷ set_to superblock_field.version g.edition
    ∷ set_to superblock_field.journal_length n ∷ [])
