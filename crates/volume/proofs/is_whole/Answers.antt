-- `volume::is_whole` meets its contract. The length is not 0 and its remainder is compared, or it is 0.
use Rattle.model.specs.Refusals.{is_whole}
use borrow.Author.Tests.{lt-ltb, le-ltb}
use Rattle.volume.proofs.is_whole.Goals as goal

pub returns-then-len-gt0 : goal.returns-then-len-gt0
unfolding is_whole
returns-then-len-gt0 c = rw (lt-ltb _ _ c.if-len-gt0.true)

pub returns-else-len-gt0 : goal.returns-else-len-gt0
unfolding is_whole
returns-else-len-gt0 c = rw (le-ltb _ _ c.if-len-gt0.false)
