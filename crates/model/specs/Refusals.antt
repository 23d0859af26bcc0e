-- "Numbers that a call gives back." Conditions stand in the rising order of their numbers; "the lowest number whose condition
-- holds is the answer".
use Rattle.std.specs.Prelude.{ℕ, ◌/◌, ◌%◌, Bool, cond, not, ◌&&◌, List, [], ◌∷◌, eqb, leb, ltb}
use Rattle.model.specs.Answers.{Verdict, Soundness, Sound, Faulty}
use Rattle.model.specs.declared.State.{State}
use Rattle.model.specs.declared.State.TheVariants.{Clean, Waiting, Damaged, Unfinished}
use Rattle.model.specs.Geometry.{in_bounds, volume_sectors, superblock_at}
use Rattle.model.specs.Disk.{Disk}
use Rattle.model.specs.Superblock.{is_volume, geometry_in, state_on}
use Rattle.model.specs.Faults.{first_fault}

-- a verdict is a number of the table; "all other result numbers are then 0 (except with 7)"
abbrev pub refusal : ℕ → Verdict
refusal n = record { number = n; fault = 0; place = 0 }

abbrev pub done : Verdict
done = refusal 0

abbrev pub is_done : Verdict → Bool
is_done v = eqb v.number 0

abbrev pub Conditions : Type 0
Conditions = List (Bool × Verdict)

-- the first condition that holds gives the verdict; 0 where none does
unfoldable pub verdict_of : Conditions → Verdict
verdict_of [] = done
verdict_of (c ∷ cs) = let rest = verdict_of cs in cond c.0 c.1 rest

-- a later verdict counts only where the earlier one is 0
abbrev pub and_then : Verdict → Verdict → Verdict
and_then v later = cond (is_done v) later v

-- what a call gives: one thing where it is done, another, made of the verdict, where it refuses
abbrev pub given {ℓ} : {A : Type ℓ} → Verdict → A → (Verdict → A) → A
given v accept refuse = cond (is_done v) accept (refuse v)

-- ---- 1 to 3: the image and its superblock

-- 1 image empty or not whole sectors
unfoldable pub is_whole : ℕ → Bool
is_whole len = ltb 0 len && eqb (len % 512) 0

-- 3 F, N or S out of bounds, or volume longer than image
unfoldable pub fits_image : ℕ → List ℕ → Bool
fits_image len s = in_bounds (geometry_in s) && leb (volume_sectors (geometry_in s)) (len / 512)

-- of an image of len bytes, seen as a disk; 2 magic or version wrong
unfoldable pub image_verdict : ℕ → Disk → Verdict
image_verdict len d =
    let s = d superblock_at in
    verdict_of ((not (is_whole len), refusal 1) ∷ (not (is_volume s), refusal 2) ∷ (not (fits_image len s), refusal 3) ∷ [])

-- ---- 4 to 7: "a volume is sound if it is clean and has no fault"

-- 4 state unfinished, 5 state waiting, 6 state damaged
abbrev pub state_number : State → ℕ
state_number Clean = 0
state_number (Waiting n) = 5
state_number Damaged = 6
state_number Unfinished = 4

-- 7 not sound; fault and place go with it
abbrev pub fault_verdict : Soundness → Verdict
fault_verdict Sound = done
fault_verdict (Faulty n p) = record { number = 7; fault = n; place = p }

unfoldable pub sound_verdict : Disk → Verdict
sound_verdict d = and_then (refusal (state_number (state_on d))) (fault_verdict (first_fault d))

-- 1 to 7, as all calls but format, summary, recovery and carrying out are refused
unfoldable pub judged : ℕ → Disk → Verdict
judged len d = and_then (image_verdict len d) (sound_verdict d)
