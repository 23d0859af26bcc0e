-- CHECK NAMES THE FIRST FAULT, and passes an image exactly if there is none. Assumes nothing.
use Prim.Native.Nat.{ℕ, zero, suc, ◌+◌, ◌-◌, ◌≤◌, ◌<◌}
use mathlib.Core.Path.{◌≡◌, refl, sym, ap, ◌∙◌, subst}
use mathlib.Core.Logic.{◌↔◌}
use mathlib.Core.Bool.{Bool, true, false, cond, not, true≢false}
use mathlib.Core.List.{List}
use native.Mathlib.Omega.{arith}
use native.Mathlib.Decide.{dec_lt}
use lib.ListN.{length}
use borrow.Author.Tests.{eqb-true, eq-eqb}
use Rattle.std.specs.Prelude.{Some, None}
use Rattle.model.specs.Answers.{Soundness, Sound, Faulty, Verdict}
use Rattle.model.specs.declared.State.{State}
use Rattle.model.specs.declared.State.TheVariants.{Clean, Waiting, Damaged, Unfinished}
use Rattle.model.specs.Search.{Lowest, first}
use Rattle.model.specs.Geometry.{superblock_at}
use Rattle.model.specs.Disk.{Disk, view}
use Rattle.model.specs.Superblock.{is_volume, state_on}
use Rattle.model.specs.Faults.{or_else, first_fault}
use Rattle.model.specs.Refusals.{verdict_of, and_then, is_done, done, refusal, is_whole, fits_image, image_verdict, state_number, fault_verdict, sound_verdict, judged}
use Rattle.model.specs.Summary.{check_answer}
use Rattle.laws.proofs.Search.{Hit, scan-hit, first-missed}
use Rattle.laws.proofs.Seeking.{first_found}
use Rattle.laws.proofs.Judged.{judged-image, judged-sound}
use Rattle.safety.specs.FirstFault.{fault_test, places_of, NoFault, FirstFault}
use Rattle.safety.proofs.Passes.{judged-clean}

-- ---- what a search found is the lowest

pub record IsLowest (t : ℕ → Bool) (n p : ℕ) : Type 0 where
  pub below : p < n
  pub holds : t p ≡ true
  pub lowest : (q : ℕ) → q < p → t q ≡ false

at-index : (i j : ℕ) → Some i ≡ Some j → i ≡ j
at-index i j e = cc

first-lowest : (t : ℕ → Bool) (n p : ℕ) → first t n ≡ Some p → IsLowest t n p
first-lowest t n p e =
    let h : Hit t (n - 0) 0 (Some p) = subst (Hit t (n - 0) 0) e (scan-hit t (n - 0) 0) in
    let l : p < n = omega (arith, h.1) in
    record { below = l; holds = h.2; lowest = first-missed t p (go (first t p) refl (scan-hit t (p - 0) 0)) }
  where
    go : (r : Lowest) → first t p ≡ r → Hit t (p - 0) 0 r → first t p ≡ None
    go (Some j) f k =
        let h : Hit t (n - 0) 0 (Some p) = subst (Hit t (n - 0) 0) e (scan-hit t (n - 0) 0) in
        let q : j ≡ p = at-index j p (sym (first_found t p n j (omega (arith, h.1)) f) ∙ e) in
        absurd (omega (arith, k.1))
    go None f k = f

-- ---- the faults in their order

module _ (d : Disk) where
  -- those of m numbers from 21 + k on
  abbrev faults_from : ℕ → ℕ → Soundness
  faults_from zero k = Sound
  faults_from (suc m) k = or_else (21 + k) (first (fault_test d (21 + k)) (places_of d (21 + k))) (faults_from m (suc k))

  in_order : first_fault d ≡ faults_from 6 0
  unfolding first_fault
  in_order = refl

  -- what the faults of numbers below 21 + h come to
  abbrev Result : ℕ → Soundness → Type 0
  Result h Sound = (j : ℕ) → j < h → NoFault d (21 + j)
  Result h (Faulty n p) = (21 ≤ n) × (n < 21 + h) × IsLowest (fault_test d n) (places_of d n) p × ((j : ℕ) → 21 + j < n → NoFault d (21 + j))

  result : (m k : ℕ) → ((j : ℕ) → j < k → NoFault d (21 + j)) → Result (k + m) (faults_from m k)
  result zero k none = λ j l. none j (omega arith)
  result (suc m) k none = go (first (fault_test d (21 + k)) (places_of d (21 + k))) refl (result m (suc k))
    where
      more : NoFault d (21 + k) → (j : ℕ) → j < suc k → Dec (j < k) → NoFault d (21 + j)
      more h j l (yes q) = none j q
      more h j l (no q) = let e : k ≡ j = omega arith in subst (λ (i : ℕ). NoFault d (21 + i)) e h

      go : (r : Lowest) → first (fault_test d (21 + k)) (places_of d (21 + k)) ≡ r
          → (((j : ℕ) → j < suc k → NoFault d (21 + j)) → Result (suc k + m) (faults_from m (suc k)))
          → Result (k + suc m) (or_else (21 + k) r (faults_from m (suc k)))
      go (Some p) e rest = (omega arith, omega arith, first-lowest _ _ p e, λ j l. none j (omega arith))
      go None e rest =
          let s : suc k + m ≡ k + suc m = omega arith in
          subst (λ (h : ℕ). Result h (faults_from m (suc k))) s (rest (λ j l. more (first-missed _ _ e) j l (dec_lt j k)))

  all_results : Result 6 (first_fault d)
  all_results = subst (Result 6) (sym in_order) (result 6 0 (λ j l. absurd (omega arith)))

  named-first : (n p : ℕ) → first_fault d ≡ Faulty n p → FirstFault d n p
  named-first n p e =
      let r : Result 6 (Faulty n p) = subst (Result 6) e all_results in
      record {
        number = (r.0, omega (arith, r.1));
        place = r.2.below;
        holds = r.2.holds;
        lowest = r.2.lowest;
        none-lower = λ m a b. let s : 21 + (m - 21) ≡ m = omega arith in subst (NoFault d) s (r.3 (m - 21) (omega arith));
      }

  first-named : (n p : ℕ) → FirstFault d n p → first_fault d ≡ Faulty n p
  first-named n p f = go (first_fault d) all_results
    where
      lo : 21 ≤ n
      lo = f.number.0

      hi : n ≤ 26
      hi = f.number.1

      at : 21 + (n - 21) ≡ n
      at = omega (arith, lo)

      never : NoFault d n → ⊥
      never h = true≢false (sym f.holds ∙ h p f.place)

      same_place : (q : ℕ) → IsLowest (fault_test d n) (places_of d n) q → Dec (p < q) → Dec (q < p) → q ≡ p
      same_place q h (yes l) k = absurd (true≢false (sym f.holds ∙ h.lowest p l))
      same_place q h (no l) (yes k) = absurd (true≢false (sym h.holds ∙ f.lowest q k))
      same_place q h (no l) (no k) = omega arith

      by_number : (m q : ℕ) → Result 6 (Faulty m q) → Dec (m < n) → Dec (n < m) → Faulty m q ≡ Faulty n p
      by_number m q r (yes l) k = absurd (true≢false (sym r.2.holds ∙ f.none-lower m r.0 l q r.2.below))
      by_number m q r (no l) (yes k) = absurd (never (subst (NoFault d) at (r.3 (n - 21) (omega arith))))
      by_number m q r (no l) (no k) =
          let e : m ≡ n = omega arith in
          let h : IsLowest (fault_test d n) (places_of d n) q = subst (λ (i : ℕ). IsLowest (fault_test d i) (places_of d i) q) e r.2 in
          let z : q ≡ p = same_place q h (dec_lt p q) (dec_lt q p) in
          λ i. Faulty (e i) (z i)

      go : (s : Soundness) → Result 6 s → s ≡ Faulty n p
      go Sound r = absurd (never (subst (NoFault d) at (r (n - 21) (omega arith))))
      go (Faulty m q) r = by_number m q r (dec_lt m n) (dec_lt n m)

  none-sound : ((n : ℕ) → 21 ≤ n → n ≤ 26 → NoFault d n) → first_fault d ≡ Sound
  none-sound h = go (first_fault d) all_results
    where
      go : (s : Soundness) → Result 6 s → s ≡ Sound
      go Sound r = refl
      go (Faulty m q) r = absurd (true≢false (sym r.2.holds ∙ h m r.0 (omega (arith, r.1)) q r.2.below))

  sound_none : first_fault d ≡ Sound → (n : ℕ) → 21 ≤ n → n ≤ 26 → NoFault d n
  sound_none e n a b =
      let r : Result 6 Sound = subst (Result 6) e all_results in
      let s : 21 + (n - 21) ≡ n = omega arith in
      subst (NoFault d) s (r (n - 21) (omega arith))

-- ---- check

image-small : (len : ℕ) (d : Disk) → (image_verdict len d).number ≤ 3
unfolding image_verdict verdict_of
image-small len d = go (not (is_whole len)) (not (is_volume (d superblock_at))) (not (fits_image len (d superblock_at)))
  where
    go : (a b c : Bool) → (cond a (refusal 1) (cond b (refusal 2) (cond c (refusal 3) done))).number ≤ 3
    go true b c = omega arith
    go false true c = omega arith
    go false false true = omega arith
    go false false false = omega arith

-- the verdict of a fault
abbrev seven : ℕ → ℕ → Verdict
seven n p = record { number = 7; fault = n; place = p }

by-fault : (s : Soundness) (n p : ℕ) → fault_verdict s ≡ seven n p → s ≡ Faulty n p
by-fault Sound n p e = let z : ◌≡◌ {A = ℕ} 0 7 = ap (λ (v : Verdict). v.number) e in absurd (omega arith)
by-fault (Faulty m q) n p e = λ i. Faulty (e i).fault (e i).place

by_state : (st : State) (s : Soundness) (n p : ℕ) → and_then (refusal (state_number st)) (fault_verdict s) ≡ seven n p → (st ≡ Clean) × (s ≡ Faulty n p)
by_state Clean s n p e = (refl, by-fault s n p e)
by_state (Waiting k) s n p e = let z : ◌≡◌ {A = ℕ} 5 7 = ap (λ (v : Verdict). v.number) e in absurd (omega arith)
by_state Damaged s n p e = let z : ◌≡◌ {A = ℕ} 6 7 = ap (λ (v : Verdict). v.number) e in absurd (omega arith)
by_state Unfinished s n p e = let z : ◌≡◌ {A = ℕ} 4 7 = ap (λ (v : Verdict). v.number) e in absurd (omega arith)

by-image : (v later : Verdict) (n p : ℕ) → v.number ≤ 3 → and_then v later ≡ seven n p → (v.number ≡ 0) × (later ≡ seven n p)
by-image v later n p l e = go (is_done v) refl e
  where
    go : (b : Bool) → is_done v ≡ b → cond b later v ≡ seven n p → (v.number ≡ 0) × (later ≡ seven n p)
    go true q h = (eqb-true v.number 0 q, h)
    go false q h = let z : v.number ≡ 7 = ap (λ (u : Verdict). u.number) h in absurd (omega arith)

module _ (img : List ℕ) where
  -- CHECK ANSWERS 7 WITH FAULT n AND PLACE p exactly if 1 to 6 let the image pass and this is its first fault
  pub check-fault : (n p : ℕ)
      → ((check_answer (length img) (view img)).verdict ≡ record { number = 7; fault = n; place = p })
      ↔ (((image_verdict (length img) (view img)).number ≡ 0) × (state_on (view img) ≡ Clean) × FirstFault (view img) n p)
  unfolding check_answer judged sound_verdict
  check-fault n p = (
    λ e.
        let a = by-image (image_verdict (length img) (view img)) (sound_verdict (view img)) n p (image-small (length img) (view img)) e in
        let b = by_state (state_on (view img)) (first_fault (view img)) n p a.1 in
        (a.0, b.0, named-first (view img) n p b.1),
    λ h.
        ap (λ (t : Bool). cond t (sound_verdict (view img)) (image_verdict (length img) (view img))) (eq-eqb _ 0 h.0)
        ∙ (λ i. and_then (refusal (state_number (h.1 i))) (fault_verdict (first-named (view img) n p h.2 i))),
  )

  -- AND 0 exactly if they do and no fault is anywhere
  pub check-none : ((check_answer (length img) (view img)).verdict.number ≡ 0)
      ↔ (((image_verdict (length img) (view img)).number ≡ 0) × (state_on (view img) ≡ Clean) × ((n : ℕ) → 21 ≤ n → n ≤ 26 → NoFault (view img) n))
  unfolding check_answer judged sound_verdict
  check-none = (
    λ e. (judged-image (length img) (view img) e, judged-clean (length img) (view img) e, sound_none (view img) (judged-sound (length img) (view img) e)),
    λ h.
        ap (λ (v : Verdict). v.number)
        (ap (λ (t : Bool). cond t (sound_verdict (view img)) (image_verdict (length img) (view img))) (eq-eqb _ 0 h.0)
        ∙ (λ i. and_then (refusal (state_number (h.1 i))) (fault_verdict (none-sound (view img) h.2 i)))),
  )

  -- a 7 is never without its fault
  pub check-seven : (check_answer (length img) (view img)).verdict.number ≡ 7
      → FirstFault (view img) (check_answer (length img) (view img)).verdict.fault (check_answer (length img) (view img)).verdict.place
  check-seven e =
      let v = (check_answer (length img) (view img)).verdict in
      ((check-fault v.fault v.place).0 (λ i. record { number = e i; fault = v.fault; place = v.place })).2
