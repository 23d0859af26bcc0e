-- WHAT CARRYING OUT ASKS OF A LIST AND LEAVES: "1 for the image; 8 if the list isn't whole records, a number lies outside the image, or a
-- barrier has other bytes; else all writes in order." And 8 for "a list whose positions aren't 0, 1, 2 and so on".
use Rattle.std.specs.Prelude.{ℕ, ◌/◌, ◌%◌, ◌<◌, ◌≡◌, ◌≢◌, List, length, get_or}
use Rattle.model.specs.Disk.{view}
use Rattle.model.specs.WriteList.{barrier_number, record_size}
use Rattle.model.specs.CarryOut.{position_in, record_in}

-- how many records a list has; record p of it is a barrier
abbrev pub records_of : List ℕ → ℕ
records_of list = length list / record_size

abbrev pub IsBarrier : List ℕ → ℕ → Type 0
IsBarrier list p = (record_in list p).sector ≡ barrier_number

abbrev pub IsWrite : List ℕ → ℕ → Type 0
IsWrite list p = (record_in list p).sector ≢ barrier_number

-- not "image empty or not whole sectors"
abbrev pub WholeSectors : List ℕ → Type 0
WholeSectors img = (0 < length img) × (length img % 512 ≡ 0)

-- an image of whole sectors; whole records numbered from 0 on, for sectors in it; and barriers of zero bytes
pub record Acceptable (img list : List ℕ) : Type 0 where
  pub image : WholeSectors img
  pub records : length list % record_size ≡ 0
  pub positions : (p : ℕ) → p < records_of list → position_in list p ≡ p
  pub inside : (p : ℕ) → p < records_of list → IsWrite list p → (record_in list p).sector < length img / 512
  pub barriers : (p : ℕ) → p < records_of list → IsBarrier list p → (b : ℕ) → b < 512 → get_or (record_in list p).contents b 0 ≡ 0

-- each sector holds the contents of the last record for it, and what it held where there is none
pub record Written (img list out : List ℕ) : Type 0 where
  pub same_length : length out ≡ length img
  pub last : (p : ℕ) → p < records_of list → IsWrite list p
      → ((q : ℕ) → p < q → q < records_of list → (record_in list q).sector ≢ (record_in list p).sector)
      → view out (record_in list p).sector ≡ (record_in list p).contents
  pub others : (j : ℕ) → ((q : ℕ) → q < records_of list → IsWrite list q → (record_in list q).sector ≢ j) → view out j ≡ view img j
