-- `volume::is_asked` meets its contract. A sector that can be one of the data area, and the count of bytes compared.
use Rattle.std.proofs.Common.{arith}
use Rattle.std.proofs.lemmas.Grind.{common_steps}
use Rattle.model.specs.Lent.{is_asked}
use Rattle.volume.proofs.is_asked.Goals as goal

pub returns-then-wanted-lt18446744073709551615 : goal.returns-then-wanted-lt18446744073709551615
unfolding is_asked
returns-then-wanted-lt18446744073709551615 c = grind (arith, common_steps)

pub returns-else-wanted-lt18446744073709551615 : goal.returns-else-wanted-lt18446744073709551615
unfolding is_asked
returns-else-wanted-lt18446744073709551615 c = grind (arith, common_steps)
