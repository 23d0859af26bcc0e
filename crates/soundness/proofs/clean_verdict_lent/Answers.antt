-- `soundness::clean_verdict_lent` meets its contract. The lent sectors are refused, or its state gives the verdict.
use Rattle.std.proofs.Common.{sym, ap}
use Rattle.model.specs.Answers.{Verdict}
use Rattle.laws.proofs.Refusals.{lent-readable, readable-length}
use Rattle.soundness.proofs.clean_verdict_lent.Goals as goal

pub state_on-requires : goal.state_on-requires
state_on-requires c =
    readable-length _ (lent-readable c.args.front.now c.args.count (ap (λ (v : Verdict). v.number) (sym c.in_ok-front_verdict.ensures)))
