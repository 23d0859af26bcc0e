-- `reading::takes_read` meets its contract. All tests hold, or one of them fails.
use Rattle.std.proofs.Common.{arith}
use Rattle.std.proofs.lemmas.Grind.{common_steps}
use Rattle.model.specs.Lent.{takes_read}
use Rattle.reading.proofs.takes_read.Goals as goal

pub returns-then-r : goal.returns-then-r
unfolding takes_read
returns-then-r c = grind (arith, common_steps)

pub returns-else-r : goal.returns-else-r
unfolding takes_read
returns-else-r c = grind (arith, common_steps)
