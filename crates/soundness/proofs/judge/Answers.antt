-- `soundness::judge` meets its contract. The image is refused, or `sound_verdict` gives the verdict.
use Rattle.std.proofs.Common.{sym, ap}
use Rattle.model.specs.Answers.{Verdict}
use Rattle.model.specs.Refusals.{judged}
use Rattle.laws.proofs.Refusals.{readable}
use Rattle.laws.proofs.Results.{refused, handed-on}
use Rattle.soundness.proofs.judge.Goals as goal

pub returns-in_err-image_verdict : goal.returns-in_err-image_verdict
unfolding judged
returns-in_err-image_verdict c = rw (handed-on _ c.from_residual.ensures.1, ← c.in_err-image_verdict.ensures, refused c.in_err-image_verdict.field-0.0)

pub sound_verdict-requires : goal.sound_verdict-requires
sound_verdict-requires c = readable _ (ap (λ (v : Verdict). v.number) (sym c.in_ok-image_verdict.ensures))

pub returns : goal.returns
unfolding judged
returns c = rw (← c.in_ok-image_verdict.ensures) c.sound_verdict.ensures
