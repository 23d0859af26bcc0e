-- Which extents are freed, and which files lack an extent then, by the arrays that a repair has.
use Rattle.std.specs.Prelude.{ℕ, ◌+◌, ◌*◌, ◌/◌, ◌<◌, ◌≡◌, Bool, not, ◌&&◌, List, eqb, length, get_or}
use Rattle.model.specs.declared.Geometry.{Geometry}
use Rattle.model.specs.Search.{count_below}
use Rattle.model.specs.Geometry.{FileNumber, ExtentNumber}
use Rattle.model.specs.Disk.{Disk}
use Rattle.model.specs.Table.{free_file, table_file, table_offset}
use Rattle.duplicates.specs.Keys.{mixed}
use Rattle.duplicates.specs.Chains.{Chains, head_in, next_in}

-- which of n buckets an entry of this file and offset belongs to
abbrev pub bucket_of : ℕ → FileNumber → ℕ → ℕ
bucket_of n f o = mixed 0 (f * 65536 + o) * n / 4294967296

module _ (g : Geometry) (d : Disk) where
  -- an extent that isn't free belongs to the bucket of its file and offset
  abbrev pub member : ℕ → ℕ → ExtentNumber → Bool
  member n b k = not (eqb (table_file g d k) free_file) && eqb (bucket_of n (table_file g d k) (table_offset g d k)) b

  -- the chains of the extents below e, a bucket for each number
  abbrev pub Linked : ExtentNumber → List ℕ → Type 0
  Linked e c = Chains (member (length c)) (length c) e (head_in c) (next_in c)

  -- extent k has extent e's file and offset
  abbrev pub same_part : ExtentNumber → ExtentNumber → Bool
  same_part e k = eqb (table_file g d k) (table_file g d e) && eqb (table_offset g d k) (table_offset g d e)

  -- extent k stays and is file i's
  abbrev pub keeps : (ExtentNumber → Bool) → FileNumber → ExtentNumber → Bool
  keeps freed i k = eqb (table_file g d k) i && not (freed k)

  -- the numbers of the files count those of their extents below e that stay
  abbrev pub Kept : (ExtentNumber → Bool) → ExtentNumber → List ℕ → Type 0
  Kept freed e kept = (i : FileNumber) → i < g.files → get_or kept i 0 ≡ count_below (keeps freed i) e
