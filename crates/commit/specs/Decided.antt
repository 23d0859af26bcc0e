-- What a changing call comes to that its own conditions let pass, and what a decision comes to.
use Rattle.std.specs.Prelude.{ℕ, ◌≡◌, cond, List}
use Rattle.std.proofs.Math.Option.{Option, none}
use Rattle.model.specs.Answers.{Changed}
use Rattle.model.specs.Disk.{Disk}
use Rattle.model.specs.Refusals.{verdict_of, is_done}
use Rattle.model.specs.WriteList.{Plan, Decision, plan_conditions, answer_of, list_after}

-- 13 and 14 by the plan, or the plan
abbrev pub fitted : Disk → Option Plan → ℕ → Decision
fitted d plan room = let v = verdict_of (plan_conditions d plan room) in record { verdict = v; plan = cond (is_done v) plan none }

-- the answer and the list that a decision comes to
abbrev pub ComesTo : Disk → Decision → List ℕ → Changed → List ℕ → Type 0
ComesTo d x list answer after = (answer ≡ answer_of d x) × (after ≡ list_after d x list)
