-- `soundness::clean_verdict` meets its contract. The image is refused, or its state gives the verdict.
use Rattle.std.proofs.Common.{sym, ap}
use Rattle.model.specs.Answers.{Verdict}
use Rattle.laws.proofs.Refusals.{image-length}
use Rattle.soundness.proofs.clean_verdict.Goals as goal

pub state_on-requires : goal.state_on-requires
state_on-requires c = image-length _ _ (ap (λ (v : Verdict). v.number) (sym c.in_ok-image_verdict.ensures))
