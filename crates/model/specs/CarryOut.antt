-- "Carrying out: 1 for the image; 8 if the list isn't whole records, a number lies outside the image, or a barrier has other
-- bytes; else all writes in order." And 8 for "a list whose positions aren't 0, 1, 2 and so on, before it writes anything" (T-09).
use Rattle.std.specs.Prelude.{ℕ, ◌+◌, ◌*◌, ◌/◌, ◌%◌, Bool, cond, not, ◌||◌, List, [], ◌∷◌, eqb, leb, length, get_or}
use Rattle.model.specs.Answers.{CarriedOut, Verdict}
use Rattle.model.specs.Bytes.{be_at, bytes_from}
use Rattle.model.specs.Search.{any_below, all_below, tabulate}
use Rattle.model.specs.Refusals.{verdict_of, given, refusal, is_whole}
use Rattle.model.specs.WriteList.{Record, barrier_number, record_size, number_start, contents_start, stored}

-- the position that record k of a list carries; the record; and all its whole records
unfoldable pub position_in : List ℕ → ℕ → ℕ
position_in list k = be_at list (k * record_size) 8

unfoldable pub record_in : List ℕ → ℕ → Record
record_in list k = record {
  sector = be_at list (k * record_size + number_start) 8;
  contents = bytes_from list (k * record_size + contents_start) 512;
}

unfoldable pub records_in : List ℕ → List Record
records_in list = tabulate (record_in list) 0 (length list / record_size)

-- a record for an image of so many sectors is bad, but for its position; a barrier's number is none of a sector
abbrev pub bad_contents : ℕ → Record → Bool
bad_contents sectors r = cond (eqb r.sector barrier_number) (not (all_below (λ b. eqb (get_or r.contents b 0) 0) 512)) (leb sectors r.sector)

-- record k of a list is bad
unfoldable pub bad_record : ℕ → List ℕ → ℕ → Bool
bad_record sectors list k = not (eqb (position_in list k) k) || bad_contents sectors (record_in list k)

unfoldable pub carry_verdict : List ℕ → List ℕ → Verdict
carry_verdict img list =
    verdict_of
    ((not (is_whole (length img)), refusal 1)
    ∷ (not (eqb (length list % record_size) 0) || any_below (bad_record (length img / 512) list) (length list / record_size), refusal 8) ∷ [])

unfoldable pub carry_answer : List ℕ → List ℕ → CarriedOut
carry_answer img list = record { number = (carry_verdict img list).number }

unfoldable pub carry_image : List ℕ → List ℕ → List ℕ
carry_image img list = given (carry_verdict img list) (stored (records_in list) img) (λ v. img)
