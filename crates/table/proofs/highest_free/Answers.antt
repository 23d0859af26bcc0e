-- `table::highest_free` meets its contract. The loop's invariant: no extent from e on is free.
use Prim.Native.Nat.{ℕ, ◌+◌}
use mathlib.Core.Path.{◌≡◌, refl, sym, ◌∙◌}
use native.Mathlib.Omega.{arith}
use Rattle.model.specs.Disk.{view}
use Rattle.model.specs.Search.{any_below}
use Prim.Native.Nat.{◌-◌}
use Rattle.model.specs.Catalogue.{catalogue_of, is_free}
use Rattle.laws.proofs.Search.{any_below-ext}
use Rattle.table.proofs.Laws.{free_in, free_on}
use Rattle.table.proofs.Stages.{pass-over, highest-after}
use Rattle.table.proofs.highest_free.Goals as goal

pub loop-e-init : goal.loop-e-init
loop-e-init c = (omega arith, refl)

pub holds_free-requires-clause-e_bound : goal.holds_free-requires-clause-e_bound
holds_free-requires-clause-e_bound c = omega arith

pub loop-e-preserved : goal.loop-e-preserved
loop-e-preserved c =
    let said = catalogue_of (view c.args.img.now) in
    let at : ℕ → ℕ = λ k. c.loop-e.e - 128 + k in
    let none : any_below (λ k. is_free (said.table (at k))) 128 ≡ any_below (λ k. free_in c.args.img.now c.args.g (at k)) 128 =
    any_below-ext (λ k. is_free (said.table (at k))) (λ k. free_in c.args.img.now c.args.g (at k)) 128
    (λ k l. free_on (view c.args.img.now) c.args.g c.requires.opened.is (at k) (omega arith)) in
    (omega arith, pass-over said c.args.end c.loop-e.e 128 c.loop-e-test.true c.loop-e.invariant.1 (none ∙ sym c.holds_free.ensures ∙ c.if-not-holds_free.true))

pub free_below-requires-clause-end_le_extents : goal.free_below-requires-clause-end_le_extents
free_below-requires-clause-end_le_extents c = omega arith

pub returns : goal.returns
returns c =
    highest-after (catalogue_of (view c.args.img.now)) c.args.end c.loop-e.e c.free_below.result c.loop-e.invariant.0 c.loop-e.invariant.1 c.free_below.ensures
