-- WHAT THE CHECK WITH SCRATCH ANSWERS (T-10), beside check: "gives exactly the same fault and place", with 14 "tested after 6 and before
-- soundness".
use Rattle.std.specs.Prelude.{ℕ, ◌≤◌, ◌<◌, ◌≡◌, true, false}
use Rattle.model.specs.Geometry.{superblock_at}
use Rattle.model.specs.Disk.{Disk}
use Rattle.model.specs.Superblock.{geometry_in}
use Rattle.model.specs.Refusals.{refusal}
use Rattle.model.specs.Summary.{check_answer}
use Rattle.model.specs.Scratch.{scratch_numbers, check_with_answer, is_judged}

-- of an image of len bytes, seen as a disk, with so many numbers lent
pub record CheckedAlike (len : ℕ) (d : Disk) (numbers : ℕ) : Type 0 where
  pub enough : scratch_numbers (geometry_in (d superblock_at)) ≤ numbers → check_with_answer len d numbers ≡ check_answer len d
  pub short : numbers < scratch_numbers (geometry_in (d superblock_at)) → is_judged (check_answer len d).verdict ≡ true
      → check_with_answer len d numbers ≡ record { verdict = refusal 14 }
  pub refused : is_judged (check_answer len d).verdict ≡ false → check_with_answer len d numbers ≡ check_answer len d
