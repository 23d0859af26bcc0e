-- Laws of carrying out: writes one after the other, and the answer by the code's tests. Assumes nothing.
use Prim.Native.Nat.{ℕ, ◌+◌, ◌*◌, ◌/◌, ◌%◌, ◌<◌}
use mathlib.Core.Path.{◌≡◌, refl, sym, ap}
use mathlib.Core.Bool.{Bool, true, false, not, ◌||◌, false≢true}
use mathlib.Core.List.{List, [], ◌∷◌}
use native.Mathlib.Nat.{zero-add}
use lib.Dec.{eqb, leb}
use lib.ListN.{length, get_or}
use borrow.Author.Tests.{eq-eqb, ne_eqb, leb-false}
use Rattle.model.specs.Bytes.{be_at, bytes_from, put}
use Rattle.model.specs.Search.{any_below, all_below, tabulate}
use Rattle.model.specs.Refusals.{verdict_of, refusal, is_whole}
use Rattle.model.specs.WriteList.{barrier_number, stored, record_size, number_start, contents_start}
use Rattle.model.specs.CarryOut.{position_in, record_in, records_in, bad_contents, bad_record, carry_verdict, carry_answer, carry_image}
use Rattle.laws.proofs.Bytes.{get_or-bytes_from}
use Rattle.laws.proofs.WriteList.{stored-append}
use Rattle.laws.proofs.Search.{all_below-ext, tabulate-more}

-- ---- writes

pub stored_more : (list : List ℕ) (k : ℕ) (img : List ℕ) → stored (tabulate (record_in list) 0 (k + 1)) img ≡ stored (record_in list k ∷ []) (stored (tabulate (record_in list) 0 k) img)
stored_more list k img = rw (tabulate-more (record_in list) 0 k, zero-add k) (stored-append (tabulate (record_in list) 0 k) (record_in list k ∷ []) img)

-- ---- a record, by its position and number

or_right : (a b : Bool) → (a || b) ≡ false → b ≡ false
or_right true b h = absurd (false≢true (sym h))
or_right false b h = h

-- a record of another position is bad
pub position-bad : (list : List ℕ) (k p sectors : ℕ) → p ≡ be_at list (k * record_size) 8 → (p ≡ k → ⊥) → true ≡ bad_record sectors list k
unfolding bad_record position_in
position-bad list k p sectors is e = rw (← is, ne_eqb _ _ e)

module _ (list : List ℕ) (k s : ℕ) (is : s ≡ be_at list (k * record_size + number_start) 8) where
  pub barrier-bad : (sectors p : ℕ) → p ≡ be_at list (k * record_size) 8 → p ≡ k → s ≡ barrier_number
      → not (all_below (λ b. eqb (get_or list (k * record_size + contents_start + b) 0) 0) 512) ≡ bad_record sectors list k
  unfolding bad_record position_in record_in
  barrier-bad sectors p at h e =
      rw (← is, ← at, eq-eqb _ _ h, eq-eqb _ _ e)
      (ap not (sym (all_below-ext _ _ 512 (λ b l. ap (λ x. eqb x 0) (get_or-bytes_from list (k * record_size + contents_start) 512 b l)))))

  pub sector-bad : (sectors p : ℕ) → p ≡ be_at list (k * record_size) 8 → p ≡ k → (s ≡ barrier_number → ⊥) → leb sectors s ≡ bad_record sectors list k
  unfolding bad_record position_in record_in
  sector-bad sectors p at h e = rw (← is, ← at, eq-eqb _ _ h, ne_eqb _ _ e)

  -- a good record's sector lies in the image
  pub sector-inside : (sectors : ℕ) → (s ≡ barrier_number → ⊥) → bad_record sectors list k ≡ false → s < sectors
  unfolding bad_record record_in
  sector-inside sectors e f =
      leb-false sectors s
      (rw (← is, ne_eqb s barrier_number e) at (or_right (not (eqb (position_in list k) k)) (bad_contents sectors (record_in list k)) f))

  pub barrier-stored : (img : List ℕ) → s ≡ barrier_number → img ≡ stored (record_in list k ∷ []) img
  unfolding stored record_in
  barrier-stored img e = rw (← is, eq-eqb _ _ e)

  pub sector-stored : (img : List ℕ) → (s ≡ barrier_number → ⊥) → put img (512 * s) (bytes_from list (k * record_size + contents_start) 512) ≡ stored (record_in list k ∷ []) img
  unfolding stored record_in
  sector-stored img e = rw (← is, ne_eqb _ _ e)

-- ---- the answer

module _ (img list : List ℕ) where
  refused-by : (n : ℕ) → eqb n 0 ≡ false → carry_verdict img list ≡ refusal n → (record { number = n } ≡ carry_answer img list) × (img ≡ carry_image img list)
  unfolding carry_answer carry_image
  refused-by n z e = (rw e, rw (e, z))

  pub refused-1 : is_whole (length img) ≡ false → (record { number = 1 } ≡ carry_answer img list) × (img ≡ carry_image img list)
  unfolding carry_verdict verdict_of
  refused-1 w = refused-by 1 refl (rw w)

  module _ (whole : is_whole (length img) ≡ true) where
    pub cut_record : (length list % record_size ≡ 0 → ⊥) → (record { number = 8 } ≡ carry_answer img list) × (img ≡ carry_image img list)
    unfolding carry_verdict verdict_of
    cut_record h = refused-by 8 refl (rw (whole, ne_eqb _ _ h))

    module _ (records : length list % record_size ≡ 0) where
      pub bad-record : any_below (bad_record (length img / 512) list) (length list / record_size) ≡ true → (record { number = 8 } ≡ carry_answer img list) × (img ≡ carry_image img list)
      unfolding carry_verdict verdict_of
      bad-record b = refused-by 8 refl (rw (whole, eq-eqb _ _ records, b))

      pub carried : any_below (bad_record (length img / 512) list) (length list / record_size) ≡ false
          → (record { number = 0 } ≡ carry_answer img list) × (stored (records_in list) img ≡ carry_image img list)
      unfolding carry_verdict verdict_of carry_answer carry_image
      carried b = (rw (whole, eq-eqb _ _ records, b), rw (whole, eq-eqb _ _ records, b))
