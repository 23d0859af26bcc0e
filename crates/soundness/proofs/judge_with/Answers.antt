-- `soundness::judge_with` meets its contract. The image is refused, or `sound_verdict_with` gives the verdict.
use Rattle.std.proofs.Common.{sym, ap}
use Rattle.model.specs.Answers.{Verdict}
use Rattle.model.specs.Scratch.{judged_with}
use Rattle.laws.proofs.Refusals.{readable}
use Rattle.laws.proofs.Results.{refused, handed-on}
use Rattle.soundness.proofs.judge_with.Goals as goal

pub returns-in_err-image_verdict-clause-value : goal.returns-in_err-image_verdict-clause-value
unfolding judged_with
returns-in_err-image_verdict-clause-value c = rw (handed-on _ c.from_residual.ensures.1, ← c.in_err-image_verdict.ensures, refused c.in_err-image_verdict.field-0.0)

pub sound_verdict_with-requires : goal.sound_verdict_with-requires
sound_verdict_with-requires c = readable _ (ap (λ (v : Verdict). v.number) (sym c.in_ok-image_verdict.ensures))

pub returns-clause-value : goal.returns-clause-value
unfolding judged_with
returns-clause-value c = rw (← c.in_ok-image_verdict.ensures) c.sound_verdict_with.ensures.value
