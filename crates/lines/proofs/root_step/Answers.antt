-- `lines::root_step` meets its contract. The input ends, or the first entry is awaited.
use borrow.Author.Tests.{lt-ltb, le-ltb}
use Rattle.lines.specs.Steps.{step_on}
use Rattle.lines.proofs.root_step.Goals as goal

pub returns-then-s-lt512 : goal.returns-then-s-lt512
unfolding step_on
returns-then-s-lt512 c = rw (lt-ltb _ _ c.if-s-lt512.true) c.ended.ensures

pub returns : goal.returns
unfolding step_on
returns c = rw (le-ltb _ _ c.if-s-lt512.false, ← c.entry_from-next.ensures)
