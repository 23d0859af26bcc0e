-- `volume::summary_lent` meets its contract. The lent sectors are refused, or `summary_on` gives the answer.
use Rattle.std.proofs.Common.{sym, ap}
use Rattle.model.specs.Answers.{Verdict}
use Rattle.model.specs.Summary.{summary_answer}
use Rattle.laws.proofs.Refusals.{lent-readable, readable-length}
use Rattle.laws.proofs.Results.{refused, handed-on}
use Rattle.volume.proofs.summary_lent.Goals as goal

pub returns-in_err-front_verdict : goal.returns-in_err-front_verdict
unfolding summary_answer
returns-in_err-front_verdict c = rw (handed-on _ c.from_residual.ensures.1, ← c.in_err-front_verdict.ensures, refused c.in_err-front_verdict.field-0.0)

pub summary_on-requires : goal.summary_on-requires
summary_on-requires c = readable-length _ (lent-readable c.args.front.now c.args.count (ap (λ (v : Verdict). v.number) (sym c.in_ok-front_verdict.ensures)))

pub returns : goal.returns
unfolding summary_answer
returns c = rw (← c.in_ok-front_verdict.ensures) c.summary_on.ensures
