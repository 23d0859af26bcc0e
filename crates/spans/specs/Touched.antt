-- What the emission of a span's data sectors may rest on.
use Rattle.std.specs.Prelude.{ℕ, ◌+◌, ◌*◌, ◌≤◌, ◌<◌, ◌^◌, cond, eqb, length, get_or, ◌≡◌, List}
use Rattle.model.specs.Search.{index_of}
use Rattle.model.specs.Disk.{view}
use Rattle.model.specs.Table.{free_file}
use Rattle.model.specs.Catalogue.{catalogue_of, free_extent}
use Rattle.model.specs.Write.{held_extents}
use Rattle.model.specs.Resize.{zeros}

-- a span of len bytes at offset touches each of the n file sectors from s on, and its end fits a number
pub record Touched (offset len s n : ℕ) : Type 0 where
  pub small : offset + len < 2 ^ 63
  pub low : offset < 512 * s + 512
  pub high : 512 * (s + n) < offset + len + 512

-- of file i: the extents that it has, and the one that is taken if it needs one more
pub record Lent (img : List ℕ) (i held next : ℕ) : Type 0 where
  pub file : i < free_file
  pub extents : held ≡ held_extents (catalogue_of (view img)) i
  pub taken : next ≡ index_of (free_extent (catalogue_of (view img)))

-- the span of len bytes that is lent as these: its own bytes, or as zeros a part of them, at least a sector
unfoldable pub span_of : List ℕ → ℕ → List ℕ
span_of bytes len = cond (eqb (length bytes) len) bytes (zeros len)

pub record Source (bytes : List ℕ) (len : ℕ) : Type 0 where
  pub sector : (length bytes ≡ len → ⊥) → 512 ≤ length bytes
  pub zero : (length bytes ≡ len → ⊥) → (p : ℕ) → get_or bytes p 0 ≡ 0
