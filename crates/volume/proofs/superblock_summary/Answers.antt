-- `volume::superblock_summary` meets its contract. The sector is refused, or `summary_on` gives the answer.
use Rattle.std.proofs.Common.{sym, ap}
use Rattle.model.specs.Answers.{Verdict}
use Rattle.model.specs.Summary.{superblock_answer}
use Rattle.laws.proofs.Refusals.{superblock-length}
use Rattle.laws.proofs.Results.{refused, handed-on}
use Rattle.volume.proofs.superblock_summary.Goals as goal

pub returns-in_err-superblock_verdict : goal.returns-in_err-superblock_verdict
unfolding superblock_answer
returns-in_err-superblock_verdict c = rw (handed-on _ c.from_residual.ensures.1, ← c.in_err-superblock_verdict.ensures, refused c.in_err-superblock_verdict.field-0.0)

pub summary_on-requires : goal.summary_on-requires
summary_on-requires c = superblock-length _ _ (ap (λ (v : Verdict). v.number) (sym c.in_ok-superblock_verdict.ensures))

pub returns : goal.returns
unfolding superblock_answer
returns c = rw (← c.in_ok-superblock_verdict.ensures) c.summary_on.ensures
