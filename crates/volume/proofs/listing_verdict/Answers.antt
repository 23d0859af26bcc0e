-- `volume::listing_verdict` meets its contract. The superblock is refused, or its state gives the verdict.
use Rattle.std.proofs.Common.{sym, ap}
use Rattle.model.specs.Answers.{Verdict}
use Rattle.model.specs.Lines.{listing_verdict}
use Rattle.laws.proofs.Refusals.{superblock-length}
use Rattle.laws.proofs.Results.{refused, handed-on}
use Rattle.volume.proofs.listing_verdict.Goals as goal

pub returns-in_err-superblock_verdict : goal.returns-in_err-superblock_verdict
unfolding listing_verdict
returns-in_err-superblock_verdict c = rw (handed-on _ c.from_residual.ensures.1, ← c.in_err-superblock_verdict.ensures, refused c.in_err-superblock_verdict.field-0.0)

pub state_on-requires : goal.state_on-requires
state_on-requires c = superblock-length _ _ (ap (λ (v : Verdict). v.number) (sym c.in_ok-superblock_verdict.ensures))

pub returns : goal.returns
unfolding listing_verdict
returns c = rw (← c.in_ok-superblock_verdict.ensures, ← c.state_on.ensures) c.state_verdict.ensures
