-- T-10, the check with scratch: "a form that borrows a scratch slice of numbers and gives exactly the same fault and place".
use Rattle.std.specs.Prelude.{ℕ, ◌+◌, ◌*◌, ◌≡◌, Bool, false, cond, ◌||◌, List, eqb, ltb, length}
use Rattle.model.specs.declared.Geometry.{Geometry}
use Rattle.model.specs.Answers.{Checked, Verdict}
use Rattle.model.specs.Geometry.{superblock_at}
use Rattle.model.specs.Disk.{Disk}
use Rattle.model.specs.Superblock.{geometry_in, state_on}
use Rattle.model.specs.Faults.{first_fault}
use Rattle.model.specs.Refusals.{refusal, and_then, image_verdict, state_number, fault_verdict}

-- "4 x F + N numbers"
abbrev pub scratch_numbers : Geometry → ℕ
scratch_numbers g = 4 * g.files + g.extents

-- "a slice of fewer than 4 x F + N numbers gets 14; in this form alone that is tested after 6 and before soundness": 4 to 6, 14, 7
unfoldable pub sound_verdict_with : Disk → ℕ → Verdict
sound_verdict_with d numbers =
    and_then (refusal (state_number (state_on d)))
    (cond (ltb numbers (scratch_numbers (geometry_in (d superblock_at)))) (refusal 14) (fault_verdict (first_fault d)))

-- 1 to 6, 14, 7
unfoldable pub judged_with : ℕ → Disk → ℕ → Verdict
judged_with len d numbers = and_then (image_verdict len d) (sound_verdict_with d numbers)

unfoldable pub check_with_answer : ℕ → Disk → ℕ → Checked
check_with_answer len d numbers = record { verdict = judged_with len d numbers }

-- 0 or 7
abbrev pub is_judged : Verdict → Bool
is_judged v = eqb v.number 0 || eqb v.number 7

-- "What scratch holds after 0 or 7 is the one unfixed thing, the program's choice and an exception to demand 1, and only its length is
-- common to every choice; every other answer leaves it untouched."
pub record ScratchAfter (v : Verdict) (before after : List ℕ) : Type 0 where
  pub size : length after ≡ length before
  pub untouched : is_judged v ≡ false → after ≡ before
