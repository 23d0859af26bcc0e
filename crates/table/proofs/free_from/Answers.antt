-- `table::free_from` meets its contract.
use Rattle.std.proofs.Common.{rules, tests}
use Prim.Native.Nat.{ℕ, ◌+◌, ◌*◌, ◌-◌, ◌/◌}
use mathlib.Core.Bool.{Bool}
use mathlib.Core.Path.{refl, ◌∙◌}
use native.Mathlib.Omega.{arith}
use mathlib.Core.List.{List}
use Rattle.model.specs.declared.Geometry.{Geometry}
use Rattle.model.specs.Search.{any_below}
use Rattle.table.proofs.Laws.{free_in, sectors-over}
use Rattle.laws.proofs.Folds.{Passed, find-passed}
use Rattle.table.proofs.free_from.Goals as goal
use Rattle.table.proofs.free_from.Goals.{After-unwrap_or-t}

abbrev sector : List ℕ → Geometry → ℕ → Bool
sector img g t = any_below (λ k. free_in img g (128 * t + k)) 128

-- the sectors passed over have no free extent
passed : (c : After-unwrap_or-t) → Passed (sector c.args.img.now c.args.g) ((c.args.g.extents - c.args.from) / 128) c.unwrap_or-t.result
passed c =
    rw c.unwrap_or-t.ensures
    (find-passed _ _ _ _ (sector c.args.img.now c.args.g) ((c.args.g.extents - c.args.from) / 128) c.find.ensures.ran refl
    (λ x q k. search (rules, tests)) (λ x q k. search (rules, tests)))

pub overflow_mul-t : goal.overflow_mul-t
overflow_mul-t c = omega (arith, (passed c).0)

pub free_between-requires-clause-from_le_to : goal.free_between-requires-clause-from_le_to
free_between-requires-clause-from_le_to c = (omega (arith, (passed (goal.at.free_between-requires-clause-from_le_to c).After-unwrap_or-t).0, c.requires.from_le_extents, c.max.ensures), omega arith)

pub returns : goal.returns
returns c =
    rw c.max.ensures at c.free_between.ensures
    ∙ sectors-over (free_in c.args.img.now c.args.g) c.args.g.extents c.args.from _ c.unwrap_or-t.result (c.requires.from_le_extents) refl (passed (goal.at.returns c).After-unwrap_or-t)
