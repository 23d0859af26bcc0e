-- `lengths::longest_list` meets its contract. Each return is one of the answer's cases.
use mathlib.Core.Path.{sym, ◌∙◌}
use native.Mathlib.Omega.{arith}
use Rattle.model.proofs.Areas.{bounds}
use Rattle.laws.proofs.Results.{handed-on}
use Rattle.lengths.proofs.Laws.{none-called, too_wide, out-of-bounds, no_call, answered}
use Rattle.lengths.proofs.longest_list.Goals as goal

pub returns-in_default : goal.returns-in_default
returns-in_default c = sym (too_wide _ _ (omega (arith, c.in_default.ensures)))

pub returns-then-not-in_bounds : goal.returns-then-not-in_bounds
returns-then-not-in_bounds c =
    let b = rw c.in-Ok.ensures.1 at (sym c.in_bounds.ensures ∙ c.if-not-in_bounds.true) in
    sym (out-of-bounds _ _ b)

pub returns-in_err-call : goal.returns-in_err-call
returns-in_err-call c =
    let k = c in
    let s = k.in-Ok.ensures in
    let b = rw s.1 at (sym k.in_bounds.ensures ∙ k.if-not-in_bounds.false) in
    rw (handed-on _ c.from_residual.ensures.1, c.in_err-call.ensures.0) (sym (no_call _ _ b (omega (arith, s.0)) (none-called _ _ c.in_err-call.ensures.1)))

pub records-requires : goal.records-requires
records-requires c = let k = c in bounds _ (sym k.in_bounds.ensures ∙ k.if-not-in_bounds.false) (omega (arith, k.in-Ok.ensures))

pub returns : goal.returns
returns c =
    let k = c in
    let s = k.in-Ok.ensures in
    let n = rw (s.1, k.in_ok-call.ensures) at c.records.ensures.value in
    let b = rw s.1 at (sym k.in_bounds.ensures ∙ k.if-not-in_bounds.false) in
    rw (answered _ _ b (omega (arith, s.0)) (rw n at c.records.ensures.bounds.0), n)
