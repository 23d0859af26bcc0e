-- `reading::lent_verdict` meets its contract. The output is too short, the list is, or neither.
use borrow.Author.Tests.{lt-ltb, le-ltb}
use Rattle.model.specs.Refusals.{verdict_of}
use Rattle.reading.specs.Given.{lent_verdict}
use Rattle.reading.proofs.lent_verdict.Goals.{then-room-needed-via-then-room-needed, then-room-needed-via-else-room-needed+then-space-listed}
use Rattle.reading.proofs.lent_verdict.Goals as goal

pub returns-then-room-needed : goal.returns-then-room-needed
unfolding lent_verdict verdict_of
returns-then-room-needed c = elim c.then-room-needed.branch [
  | then-room-needed-via-then-room-needed w ↦ rw (lt-ltb _ _ w.if-room-needed.true)
  | then-room-needed-via-else-room-needed+then-space-listed w ↦ rw (le-ltb _ _ w.if-room-needed.false, lt-ltb _ _ w.if-space-listed.true)
]

pub returns : goal.returns
unfolding lent_verdict verdict_of
returns c = rw (le-ltb _ _ c.if-room-needed.false, le-ltb _ _ c.if-space-listed.false)
