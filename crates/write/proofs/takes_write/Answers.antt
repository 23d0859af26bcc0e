-- `write::takes_write` meets its contract. All tests hold, or one of them fails.
use Rattle.std.proofs.Common.{arith}
use Rattle.std.proofs.lemmas.Grind.{common_steps}
use Rattle.model.specs.Lent.{takes_write}
use Rattle.write.proofs.takes_write.Goals as goal

pub returns-then-p-le512 : goal.returns-then-p-le512
unfolding takes_write
returns-then-p-le512 c = grind (arith, common_steps)

pub returns-else-p-le512 : goal.returns-else-p-le512
unfolding takes_write
returns-else-p-le512 c = grind (arith, common_steps)
