-- `spans::extent_for` meets its contract. The file has an extent of that offset, or the next is taken.
use borrow.Author.Tests.{lt-ltb, le-ltb}
use Rattle.spans.proofs.extent_for.Goals as goal

pub returns-then-o-held : goal.returns-then-o-held
returns-then-o-held c = rw (lt-ltb _ _ c.if-o-held.true) c.extent_of.ensures.result_value

pub returns-else-o-held : goal.returns-else-o-held
returns-else-o-held c = rw (le-ltb _ _ c.if-o-held.false)
