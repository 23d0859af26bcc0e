-- The check with scratch answers what check answers, or 14 where check would judge soundness and the scratch is too short. Assumes nothing.
use Prim.Native.Nat.{ℕ}
use mathlib.Core.Path.{◌≡◌, refl, sym, ap}
use mathlib.Core.Bool.{Bool, true, false, cond, not, true≢false}
use mathlib.Core.List.{[], ◌∷◌}
use lib.Dec.{ltb}
use borrow.Author.Tests.{lt-ltb, le-ltb}
use Rattle.model.specs.declared.State.{State}
use Rattle.model.specs.declared.State.TheVariants.{Clean, Waiting, Damaged, Unfinished}
use Rattle.model.specs.Answers.{Soundness, Sound, Faulty, Verdict}
use Rattle.model.specs.Geometry.{superblock_at}
use Rattle.model.specs.Disk.{Disk}
use Rattle.model.specs.Superblock.{is_volume, geometry_in, state_on}
use Rattle.model.specs.Faults.{first_fault}
use Rattle.model.specs.Refusals.{refusal, verdict_of, and_then, is_whole, fits_image, image_verdict, state_number, fault_verdict, sound_verdict, judged}
use Rattle.model.specs.Summary.{check_answer}
use Rattle.model.specs.Scratch.{scratch_numbers, sound_verdict_with, judged_with, check_with_answer, is_judged}
use Rattle.safety.specs.Scratch.{CheckedAlike}

-- what both give, of the image's verdict, the state, whether the scratch is too short, and the first fault
abbrev plain : Verdict → State → Soundness → Verdict
plain v s f = and_then v (and_then (refusal (state_number s)) (fault_verdict f))

abbrev with-scratch : Verdict → State → Bool → Soundness → Verdict
with-scratch v s b f = and_then v (and_then (refusal (state_number s)) (cond b (refusal 14) (fault_verdict f)))

short-at : (s : State) (f : Soundness) → is_judged (and_then (refusal (state_number s)) (fault_verdict f)) ≡ true
    → and_then (refusal (state_number s)) (refusal 14) ≡ refusal 14
short-at Clean f e = refl
short-at (Waiting n) f e = absurd (true≢false (sym e))
short-at Damaged f e = absurd (true≢false (sym e))
short-at Unfinished f e = absurd (true≢false (sym e))

refused-at : (s : State) (b : Bool) (f : Soundness) → is_judged (and_then (refusal (state_number s)) (fault_verdict f)) ≡ false
    → and_then (refusal (state_number s)) (cond b (refusal 14) (fault_verdict f)) ≡ and_then (refusal (state_number s)) (fault_verdict f)
refused-at Clean b Sound e = absurd (true≢false e)
refused-at Clean b (Faulty n p) e = absurd (true≢false e)
refused-at (Waiting n) b f e = refl
refused-at Damaged b f e = refl
refused-at Unfinished b f e = refl

abbrev image : Bool → Bool → Bool → Verdict
image a b c = verdict_of ((a, refusal 1) ∷ (b, refusal 2) ∷ (c, refusal 3) ∷ [])

short-in : (a b c : Bool) (s : State) (f : Soundness) → is_judged (plain (image a b c) s f) ≡ true → with-scratch (image a b c) s true f ≡ refusal 14
unfolding verdict_of
short-in true b c s f e = absurd (true≢false (sym e))
short-in false true c s f e = absurd (true≢false (sym e))
short-in false false true s f e = absurd (true≢false (sym e))
short-in false false false s f e = short-at s f e

refused-in : (a b c : Bool) (s : State) (t : Bool) (f : Soundness) → is_judged (plain (image a b c) s f) ≡ false
    → with-scratch (image a b c) s t f ≡ plain (image a b c) s f
unfolding verdict_of
refused-in true b c s t f e = refl
refused-in false true c s t f e = refl
refused-in false false true s t f e = refl
refused-in false false false s t f e = refused-at s t f e

module _ (len : ℕ) (d : Disk) (numbers : ℕ) where
  pub checked-alike : CheckedAlike len d numbers
  unfolding check_answer check_with_answer judged judged_with sound_verdict sound_verdict_with image_verdict
  checked-alike = record {
    enough = λ l. rw (le-ltb numbers (scratch_numbers (geometry_in (d superblock_at))) l);
    short = λ l e.
        rw (lt-ltb numbers (scratch_numbers (geometry_in (d superblock_at))) l)
        (ap (λ (v : Verdict). record { verdict = v }) (short-in (not (is_whole len)) (not (is_volume (d superblock_at))) (not (fits_image len (d superblock_at))) (state_on d) (first_fault d) e));
    refused = λ e.
        ap (λ (v : Verdict). record { verdict = v })
        (refused-in (not (is_whole len)) (not (is_volume (d superblock_at))) (not (fits_image len (d superblock_at))) (state_on d)
        (ltb numbers (scratch_numbers (geometry_in (d superblock_at)))) (first_fault d) e);
  }
