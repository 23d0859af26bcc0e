-- `table::extent_of` meets its contract.
use Rattle.std.proofs.Common.{rules, tests}
use Prim.Native.Nat.{ℕ, ◌+◌, ◌*◌, ◌/◌}
use mathlib.Core.Bool.{Bool}
use mathlib.Core.Path.{refl, ap, ◌∙◌}
use native.Mathlib.Omega.{arith}
use Rattle.model.specs.Disk.{view}
use mathlib.Core.List.{List}
use Rattle.model.specs.Search.{any_below}
use Rattle.model.specs.Search.{index_of}
use Rattle.model.specs.Catalogue.{catalogue_of, is_part}
use Rattle.table.proofs.Laws.{extent-of-is, sectors-passed}
use Rattle.laws.proofs.Folds.{Passed, find-passed}
use Rattle.table.proofs.extent_of.Goals as goal
use Rattle.table.proofs.extent_of.Goals.{After-unwrap_or-t}

abbrev part : List ℕ → ℕ → ℕ → ℕ → Bool
part img i o e = is_part i o ((catalogue_of (view img)).table e)

abbrev sector : List ℕ → ℕ → ℕ → ℕ → Bool
sector img i o t = any_below (λ k. part img i o (128 * t + k)) 128

-- the sectors passed over do not hold it
passed : (c : After-unwrap_or-t) → Passed (sector c.args.img.now c.args.i.0 c.args.o) (c.args.g.extents / 128) c.unwrap_or-t.result
passed c =
    rw c.unwrap_or-t.ensures
    (find-passed _ _ _ _ (sector c.args.img.now c.args.i.0 c.args.o) (c.args.g.extents / 128) c.find.ensures.ran refl
    (λ x q k. search (rules, tests)) (λ x q k. search (rules, tests)))

pub overflow_mul-t : goal.overflow_mul-t
overflow_mul-t c = omega (arith, (passed c).0)

pub part_from-requires-clause-i_lt_free_file : goal.part_from-requires-clause-i_lt_free_file
part_from-requires-clause-i_lt_free_file c = (c.requires.i_lt_free_file, omega (arith, (passed c).0))

pub returns-clause-result_value : goal.returns-clause-result_value
returns-clause-result_value c =
    let before = sectors-passed (part c.args.img.now c.args.i.0 c.args.o) c.args.g.extents (c.args.g.extents / 128) c.unwrap_or-t.result refl
    (passed (goal.at.returns-clause-result_value c).After-unwrap_or-t) in
    rw (extent-of-is (view c.args.img.now) c.args.g c.requires.opened.is c.args.i.0 c.args.o) (c.part_from.ensures.result_value ∙ ap index_of before)
