-- What a repair comes to once its image is accepted.
use Rattle.std.specs.Prelude.{ℕ, ◌≡◌, List, length, Result, Ok, Err, IfOk}
use Rattle.model.specs.declared.Refusal.{Refusal}
use Rattle.model.specs.declared.Repair.{Repair}
use Rattle.model.specs.Answers.{Changed, Soundness, Sound}
use Rattle.model.specs.Search.{first}
use Rattle.model.specs.Disk.{Disk, view}
use Rattle.model.specs.Catalogue.{catalogue_of}
use Rattle.model.specs.Faults.{fault26, or_else}
use Rattle.model.specs.Refusals.{done}
use Rattle.model.specs.Results.{verdict_for, soundness_in}
use Rattle.model.specs.WriteList.{Plan}
use Rattle.model.specs.Repair.{strays, repaired, repair_plan, repair_planned}
use Rattle.commit.specs.Decided.{fitted, ComesTo}

-- where there is something to free
abbrev pub plan_for : List ℕ → Plan
plan_for img = repair_plan (catalogue_of (view img)) (view img)

-- what the other changing calls would answer
abbrev pub changed : Result Repair Refusal → Changed
changed (Ok a) = record { verdict = done; length = a.length }
changed (Err e) = record { verdict = verdict_for e; length = 0 }

-- the fault that a repaired table has: a file lacks an extent
abbrev pub lacking : Disk → Soundness
lacking d = or_else 26 (first (fault26 (repaired (catalogue_of d))) (catalogue_of d).geometry.files) Sound

-- with a list: 13 and 14 by the plan of a repair or the plan, and where neither refuses what is freed and the fault that the table then has
pub record Mends (d : Disk) (list : List ℕ) (r : Result Repair Refusal) (after : List ℕ) : Type 0 where
  pub comes : ComesTo d (fitted d (repair_planned (catalogue_of d) d) (length list)) list (changed r) after
  pub finds : IfOk r (λ a. (a.freed ≡ strays (catalogue_of d)) × (soundness_in a.remaining ≡ lacking d))
