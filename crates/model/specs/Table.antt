-- "Table entry, 4 bytes: file index (2; 65535 free), offset in the file, counted in extents (2)." 128 stand in a sector.
use Rattle.std.specs.Prelude.{ℕ, zero, suc, ◌+◌, ◌*◌, ◌/◌, ◌%◌, Bool, cond, List, ◌++◌}
use Rattle.model.specs.declared.Geometry.{Geometry}
use Rattle.model.specs.Bytes.{Field, field, number_in, be_bytes, put}
use Rattle.model.specs.Search.{any_below, count_below}
use Rattle.model.specs.Geometry.{SectorNumber, ExtentNumber, FileNumber, table_at, table_sectors}
use Rattle.model.specs.Disk.{Disk}

abbrev pub free_file : ℕ
free_file = 65535

pub record TableLayout : Type 0 where
  pub file : Field
  pub offset : Field

-- the fields of an entry that starts at byte at
abbrev pub table_field : ℕ → TableLayout
table_field at = record { file = field at 2; offset = field (at + 2) 2 }

-- the table sector that holds extent e's entry, and the entry's first byte in it
abbrev pub table_sector_of : Geometry → ExtentNumber → SectorNumber
table_sector_of g e = table_at g + e / 128

abbrev pub table_entry_start : ExtentNumber → ℕ
table_entry_start e = 4 * (e % 128)

unfoldable pub table_file : Geometry → Disk → ExtentNumber → FileNumber
table_file g d e = number_in (d (table_sector_of g e)) (table_field (table_entry_start e)).file

unfoldable pub table_offset : Geometry → Disk → ExtentNumber → ℕ
table_offset g d e = number_in (d (table_sector_of g e)) (table_field (table_entry_start e)).offset

abbrev pub table_entry_bytes : FileNumber → ℕ → List ℕ
table_entry_bytes file offset = be_bytes 2 file ++ be_bytes 2 offset

-- a table sector in which extent e was given to a file
unfoldable pub taken_in : ExtentNumber → FileNumber → ℕ → List ℕ → List ℕ
taken_in e file offset s = put s (table_entry_start e) (table_entry_bytes file offset)

-- a table sector in which those of its first n entries that p picks "become 65535, 65535"
unfoldable pub freed_in : (ℕ → Bool) → List ℕ → ℕ → List ℕ
freed_in p s zero = s
freed_in p s (suc k) = let rest = freed_in p s k in cond (p k) (put rest (4 * k) (table_entry_bytes free_file 65535)) rest

-- table sector t holds the entry of an extent that p picks; how many of the table's sectors do
unfoldable pub holds_any : (ExtentNumber → Bool) → ℕ → Bool
holds_any p t = any_below (λ k. p (128 * t + k)) 128

unfoldable pub sectors_holding : (ExtentNumber → Bool) → Geometry → ℕ
sectors_holding p g = count_below (holds_any p) (table_sectors g)
