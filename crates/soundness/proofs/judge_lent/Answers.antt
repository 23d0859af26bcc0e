-- `soundness::judge_lent` meets its contract. The lent sectors are refused, or `sound_verdict` gives the verdict.
use Rattle.std.proofs.Common.{sym, ap}
use Rattle.model.specs.Answers.{Verdict}
use Rattle.model.specs.Refusals.{judged}
use Rattle.laws.proofs.Refusals.{lent-readable}
use Rattle.laws.proofs.Results.{refused, handed-on}
use Rattle.soundness.proofs.judge_lent.Goals as goal

pub returns-in_err-front_verdict : goal.returns-in_err-front_verdict
unfolding judged
returns-in_err-front_verdict c = rw (handed-on _ c.from_residual.ensures.1, ← c.in_err-front_verdict.ensures, refused c.in_err-front_verdict.field-0.0)

pub sound_verdict-requires : goal.sound_verdict-requires
sound_verdict-requires c = lent-readable c.args.front.now c.args.count (ap (λ (v : Verdict). v.number) (sym c.in_ok-front_verdict.ensures))

pub returns : goal.returns
unfolding judged
returns c = rw (← c.in_ok-front_verdict.ensures) c.sound_verdict.ensures
