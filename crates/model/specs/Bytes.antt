-- Bytes, fields and sectors: "Sectors have 512 bytes; numbers are big-endian." All are total: a length hangs on no bound, and
-- a byte past the end of a string reads 0.
use Rattle.std.specs.Prelude.{ℕ, zero, suc, ◌+◌, ◌*◌, ◌/◌, ◌%◌, List, [], ◌∷◌, ◌++◌, get_or, replicate}
use Rattle.std.proofs.lemmas.List.Edits.{sets}

-- the big-endian number of the w bytes of s from at
unfoldable pub be_at : List ℕ → ℕ → ℕ → ℕ
be_at s at zero = 0
be_at s at (suc w) = be_at s at w * 256 + get_or s (at + w) 0

-- v as w big-endian bytes
unfoldable pub be_bytes : ℕ → ℕ → List ℕ
be_bytes zero v = []
be_bytes (suc w) v = be_bytes w (v / 256) ++ (v % 256 ∷ [])

-- the n bytes of s from index from; past its end they are 0
unfoldable pub bytes_from : List ℕ → ℕ → ℕ → List ℕ
bytes_from s from zero = []
bytes_from s from (suc n) = bytes_from s from n ++ (get_or s (from + n) 0 ∷ [])

-- l with vs stored from index at; what would lie past the end of l is left out
unfoldable pub put : List ℕ → ℕ → List ℕ → List ℕ
put l at vs = sets l at vs

-- "a sector of 512 bytes, all 255", and a sector of zeros: shut, so that no goal writes them out
unfoldable pub ones_sector : List ℕ
ones_sector = replicate 512 255

unfoldable pub zero_sector : List ℕ
zero_sector = replicate 512 0

-- where a number stands in a sector: its first byte and its width in bytes
pub record Field : Type 0 where
  pub offset : ℕ
  pub width : ℕ

abbrev pub field : ℕ → ℕ → Field
field offset width = record { offset = offset; width = width }

-- the number that a field of s holds
abbrev pub number_in : List ℕ → Field → ℕ
number_in s f = be_at s f.offset f.width

-- bytes to be stored into a sector, with their place; a field's are those of its number
abbrev pub Store : Type 0
Store = ℕ × List ℕ

abbrev pub set_to : Field → ℕ → Store
set_to f v = (f.offset, be_bytes f.width v)

-- s with these stores made, in order: "In any other rewritten sector, bytes not named here stay."
abbrev pub with_stores : List ℕ → List Store → List ℕ
with_stores s [] = s
with_stores s (f ∷ fs) = with_stores (put s f.0 f.1) fs

-- "A version of 4,294,967,295 is followed by 0."
abbrev pub raised : ℕ → ℕ
raised v = (v + 1) % 4294967296
