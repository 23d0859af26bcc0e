-- `soundness::sound_verdict` meets its contract. The state is refused, or the first fault gives the verdict.
use Rattle.std.proofs.Common.{arith}
use Rattle.laws.proofs.Refusals.{opened}
use Rattle.laws.proofs.Results.{refused, handed-on}
use Rattle.soundness.proofs.Laws.{unsound, sound-by}
use Rattle.soundness.proofs.sound_verdict.Goals as goal

pub returns-in_err-state_verdict : goal.returns-in_err-state_verdict
returns-in_err-state_verdict c =
    rw (handed-on _ c.from_residual.ensures.1, sound-by _ _ _ c.state_on.ensures c.in_err-state_verdict.ensures, refused c.in_err-state_verdict.field-0.0)

pub first_fault-requires : goal.first_fault-requires
first_fault-requires c = opened _ _ c.geometry_in-g.ensures (omega arith) c.requires

pub returns-in_err-first_fault : goal.returns-in_err-first_fault
returns-in_err-first_fault c = rw (
  unsound _ c.from_residual-in_err-first_fault.ensures.1,
  sound-by _ _ _ c.state_on.ensures c.in_ok-state_verdict.ensures,
  ← c.in_err-first_fault.ensures,
)

pub returns : goal.returns
returns c = rw (sound-by _ _ _ c.state_on.ensures c.in_ok-state_verdict.ensures, ← c.in_ok-first_fault.ensures)
