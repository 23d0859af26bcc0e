-- `model::Geometry::in_bounds` meets its contract.
use Rattle.std.proofs.Common.{arith}
use Rattle.std.proofs.lemmas.Grind.{common_steps}
use Rattle.model.specs.Geometry.{in_bounds}
use Rattle.model.proofs.Geometry.in_bounds.Goals as goal

pub returns-then-self-le65535-2 : goal.returns-then-self-le65535-2
unfolding in_bounds
returns-then-self-le65535-2 c = grind (arith, common_steps)

pub returns-else-self-le65535-2 : goal.returns-else-self-le65535-2
unfolding in_bounds
returns-else-self-le65535-2 c = grind (arith, common_steps)
