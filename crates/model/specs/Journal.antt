-- "Journal entry, 16 bytes: source sector (8), target sector (8). The source is the copy and the target the true place."
-- "32 entries stand in a sector."
use Rattle.std.specs.Prelude.{ℕ, zero, suc, ◌+◌, ◌*◌, ◌-◌, ◌/◌, ◌%◌, min, List, ◌++◌}
use Rattle.model.specs.declared.Geometry.{Geometry}
use Rattle.model.specs.Bytes.{Field, field, number_in, be_bytes, put, zero_sector}
use Rattle.model.specs.Geometry.{SectorNumber, journal_at}
use Rattle.model.specs.Disk.{Disk}

pub record JournalLayout : Type 0 where
  pub source : Field
  pub target : Field

-- the fields of an entry that starts at byte at
abbrev pub journal_field : ℕ → JournalLayout
journal_field at = record { source = field at 8; target = field (at + 8) 8 }

-- the journal sector that holds entry k, and the entry's first byte in it
abbrev pub journal_sector_of : Geometry → ℕ → SectorNumber
journal_sector_of g k = journal_at g + k / 32

abbrev pub journal_entry_start : ℕ → ℕ
journal_entry_start k = 16 * (k % 32)

unfoldable pub source_at : Geometry → Disk → ℕ → SectorNumber
source_at g d k = number_in (d (journal_sector_of g k)) (journal_field (journal_entry_start k)).source

unfoldable pub target_at : Geometry → Disk → ℕ → SectorNumber
target_at g d k = number_in (d (journal_sector_of g k)) (journal_field (journal_entry_start k)).target

-- how many sectors n entries fill
abbrev pub journal_sectors : ℕ → ℕ
journal_sectors n = (n + 31) / 32

-- a sector of zeros with n entries put in from its front, the first of them entry from: "the rest of the last journal sector is zero"
unfoldable pub entries_in : (ℕ → SectorNumber) → (ℕ → SectorNumber) → ℕ → ℕ → List ℕ
entries_in source target from zero = zero_sector
entries_in source target from (suc k) =
    put (entries_in source target from k) (16 * k) (be_bytes 8 (source (from + k)) ++ be_bytes 8 (target (from + k)))

-- journal sector j of n entries
unfoldable pub journal_sector : (ℕ → SectorNumber) → (ℕ → SectorNumber) → ℕ → ℕ → List ℕ
journal_sector source target n j = entries_in source target (32 * j) (min 32 (n - 32 * j))
