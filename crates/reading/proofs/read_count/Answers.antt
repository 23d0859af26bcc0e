-- `reading::read_count` meets its contract. The offset is greater than the size, or what is lent decides.
use borrow.Author.Tests.{lt-ltb, le-ltb}
use Rattle.laws.proofs.Results.{handed-on}
use Rattle.reading.specs.Given.{file_verdict}
use Rattle.reading.proofs.read_count.Goals as goal

pub returns-then-size-offset-clause-verdict : goal.returns-then-size-offset-clause-verdict
unfolding file_verdict
returns-then-size-offset-clause-verdict c = rw (lt-ltb _ _ c.if-size-offset.true)

pub returns-in_err-lent_verdict-clause-verdict : goal.returns-in_err-lent_verdict-clause-verdict
unfolding file_verdict
returns-in_err-lent_verdict-clause-verdict c =
    rw (handed-on _ c.from_residual.ensures.1, le-ltb _ _ c.if-size-offset.false, ← c.min-count.ensures) c.in_err-lent_verdict.ensures

pub returns-clause-verdict : goal.returns-clause-verdict
unfolding file_verdict
returns-clause-verdict c = rw (le-ltb _ _ c.if-size-offset.false, ← c.min-count.ensures) c.in_ok-lent_verdict.ensures
