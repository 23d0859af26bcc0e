-- Request T-06, repair. "A repair call produces one transaction that frees each table entry not yet free that names no occupied file, or
-- has an offset at or above the file's count, or repeats an offset that a lower extent of that file already holds; freed entries as in
-- delete. Its targets are the changed table sectors only. It runs on clean volumes with any faults. .. Missing extents are reported, never
-- invented: the answer lists the number of entries freed and the first fault that remains with its place, both 0 if none."
-- T-12: it "no longer refuses a taken last extent, but refuses 13 if it has a target and fewer than K are free".
use Rattle.std.specs.Prelude.{ℕ, Bool, cond, ◌||◌, List, [], leb, length}
use Rattle.std.proofs.Math.Option.{Option, none, some}
use Rattle.model.specs.Answers.{Soundness, Sound, Faulty, Verdict, Repaired}
use Rattle.model.specs.Search.{any_below, count_below}
use Rattle.model.specs.Geometry.{ExtentNumber, extents_for}
use Rattle.model.specs.Disk.{Disk}
use Rattle.model.specs.Superblock.{state_on}
use Rattle.model.specs.Catalogue.{Catalogue, catalogue_of, is_free, is_part, entry_or}
use Rattle.model.specs.Faults.{holds_of, fault21, faults_in}
use Rattle.model.specs.Refusals.{verdict_of, and_then, given, is_done, done, refusal, image_verdict, state_number}
use Rattle.model.specs.WriteList.{Plan, groups_for, list_length, plan_conditions, Decision, list_after}
use Rattle.model.specs.Freeing.{freed_sectors}

module _ (c : Catalogue) where
  -- extent e is freed: its entry isn't free yet, and names no occupied file, or has an offset at or above the file's count C, or repeats
  -- an offset that a lower extent of that file already holds. (C is a number without bound: a size of 2^64 - 1 has one too.)
  unfoldable pub is_stray : ExtentNumber → Bool
  is_stray e =
      holds_of (c.table e) (λ w.
      is_free (c.entries w.file) || leb (extents_for c.geometry (entry_or (c.entries w.file)).size) w.offset
      || any_below (λ k. is_part w.file w.offset (c.table k)) e)

  -- how many extents are freed
  unfoldable pub strays : ℕ
  strays = count_below is_stray c.geometry.extents

  -- what the volume will say: these extents are free, and all else is as it was
  unfoldable pub repaired : Catalogue
  repaired = record { geometry = c.geometry; root = c.root; entries = c.entries; table = λ e. cond (is_stray e) none (c.table e) }

-- ---- the plan

unfoldable pub repair_plan : Catalogue → Disk → Plan
repair_plan c d = record { data_sectors = []; targets = freed_sectors (is_stray c) c.geometry d }

-- nothing to free, no plan
unfoldable pub repair_planned : Catalogue → Disk → Option Plan
repair_planned c d = cond (any_below (is_stray c) c.geometry.extents) (some (repair_plan c d)) none

-- ---- what the call comes to

-- 1 to 6, 13, 14
unfoldable pub repair_verdict : ℕ → Disk → ℕ → Verdict
repair_verdict len d room =
    and_then (image_verdict len d)
    (and_then (refusal (state_number (state_on d))) (verdict_of (plan_conditions d (repair_planned (catalogue_of d) d) room)))

unfoldable pub repair_decision : ℕ → Disk → ℕ → Decision
repair_decision len d room =
    let v = repair_verdict len d room in
    record { verdict = v; plan = cond (is_done v) (repair_planned (catalogue_of d) d) none }

-- done, with the first fault that remains; both its numbers 0 if none does
abbrev pub done_but : Soundness → Verdict
done_but Sound = done
done_but (Faulty n p) = record { number = 0; fault = n; place = p }

-- its answer: of a refusal all numbers but the verdict's are 0
abbrev pub not_repaired : Verdict → Repaired
not_repaired v = record { verdict = v; freed = 0; length = 0 }

unfoldable pub repair_answer : ℕ → Disk → ℕ → Repaired
repair_answer len d room =
    let c = catalogue_of d in
    let x = repair_decision len d room in
    given x.verdict
    (record { verdict = done_but (faults_in (fault21 d) (repaired c)); freed = strays c; length = list_length (groups_for d x.plan) }) not_repaired

unfoldable pub repair_list : ℕ → Disk → List ℕ → List ℕ
repair_list len d list = list_after d (repair_decision len d (length list)) list
