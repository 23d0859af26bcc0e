-- `write::wanting` meets its contract. Two parts are asked for, or one.
use Rattle.std.proofs.Common.{arith}
use Rattle.std.proofs.lemmas.Grind.{common_steps}
use Rattle.model.specs.Lent.{write_asking}
use Rattle.write.proofs.wanting.Goals as goal

pub returns-in-Some-Some : goal.returns-in-Some-Some
unfolding write_asking
returns-in-Some-Some c = rw (c.settled.ensures, c.in-Some-Some.is-0, c.in-Some-Some.is-1)

pub returns-in-Some-None : goal.returns-in-Some-None
unfolding write_asking
returns-in-Some-None c = grind (arith, common_steps)
