-- `volume::summary` meets its contract. The image is refused, or `summary_on` gives the answer.
use Rattle.std.proofs.Common.{sym, ap}
use Rattle.model.specs.Answers.{Verdict}
use Rattle.model.specs.Summary.{summary_answer}
use Rattle.laws.proofs.Refusals.{image-length}
use Rattle.laws.proofs.Results.{refused, handed-on}
use Rattle.volume.proofs.summary.Goals as goal

pub returns-in_err-image_verdict : goal.returns-in_err-image_verdict
unfolding summary_answer
returns-in_err-image_verdict c = rw (handed-on _ c.from_residual.ensures.1, ← c.in_err-image_verdict.ensures, refused c.in_err-image_verdict.field-0.0)

pub summary_on-requires : goal.summary_on-requires
summary_on-requires c = image-length _ _ (ap (λ (v : Verdict). v.number) (sym c.in_ok-image_verdict.ensures))

pub returns : goal.returns
unfolding summary_answer
returns c = rw (← c.in_ok-image_verdict.ensures) c.summary_on.ensures
