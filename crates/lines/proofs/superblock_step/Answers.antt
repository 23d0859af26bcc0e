-- `lines::superblock_step` meets its contract. The superblock passes and its geometry is in bounds, or it is refused.
use Rattle.std.proofs.Common.{◌≡◌, sym, ap, ◌∙◌, arith}
use Rattle.model.specs.Answers.{Verdict}
use Rattle.model.specs.Geometry.{in_bounds}
use Rattle.model.proofs.Areas.{bounds}
use Rattle.laws.proofs.Results.{refused}
use Rattle.lines.specs.Steps.{step_on}
use Rattle.lines.proofs.Laws.{listing-length, listing-bounds}
use Rattle.lines.proofs.superblock_step.Goals as goal

pub geometry_in-requires : goal.geometry_in-requires
geometry_in-requires c = listing-length _ _ (ap (λ (v : Verdict). v.number) (sym c.in-Ok.ensures))

pub returns-in-Ok : goal.returns-in-Ok
unfolding step_on
returns-in-Ok c =
    let h : in_bounds c.geometry_in.result ≡ _ = ap in_bounds c.geometry_in.ensures ∙ listing-bounds _ _ (ap (λ (v : Verdict). v.number) (sym c.in-Ok.ensures)) in record {
      value = rw (← c.in-Ok.ensures, ← c.geometry_in.ensures);
      kept = bounds c.geometry_in.result h (omega arith);
    }

pub returns-in-Err : goal.returns-in-Err
unfolding step_on
returns-in-Err c = record {
  value = rw (← c.in-Err.ensures, refused c.in-Err.refusal, ← c.number.ensures);
  kept = tt;
}
