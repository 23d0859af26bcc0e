-- `lines::entry_from` meets its contract. The entry is in the directory, or past its end.
use borrow.Author.Tests.{lt-ltb, le-ltb}
use Rattle.lines.proofs.entry_from.Goals as goal

pub returns-then-i-g : goal.returns-then-i-g
returns-then-i-g c = rw (lt-ltb _ _ c.if-i-g.true)

pub returns : goal.returns
returns c = rw (le-ltb _ _ c.if-i-g.false)
