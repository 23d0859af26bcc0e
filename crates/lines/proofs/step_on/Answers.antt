-- `lines::step_on` meets its contract. A sector is awaited, or none is.
use Rattle.std.proofs.Common.{refl, arith}
use Rattle.lines.specs.Steps.{step_on}
use Rattle.lines.proofs.Laws.{outcome}
use Rattle.lines.proofs.step_on.Goals as goal

pub returns-in-Some : goal.returns-in-Some
returns-in-Some c =
    let o = outcome _ _ _ c.step_at.ensures.value c.step_at.ensures.kept_2 in
    rw c.in-Some.is record { value = o.0; name_in_sector = o.1.0; kept_2 = o.1.1.0; next_bound = o.1.1.1 }

pub returns-in-None : goal.returns-in-None
unfolding step_on
returns-in-None c = rw c.in-None.is record {
  value = refl;
  name_in_sector = tt;
  kept_2 = tt;
  next_bound = omega arith;
}
