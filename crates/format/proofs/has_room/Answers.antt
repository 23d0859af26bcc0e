-- `format::has_room` meets its contract. In bounds the sum doesn't overflow and is compared; out of bounds the answer is no.
use borrow.Author.Rules.{rules}
use mathlib.Core.Path.{sym, ◌∙◌}
use native.Mathlib.Omega.{arith}
use Rattle.model.proofs.Areas.{bounds}
use Rattle.format.proofs.has_room.Goals as goal

pub overflow_add-result : goal.overflow_add-result
overflow_add-result c =
    let b = bounds c.args.g (sym c.in_bounds.ensures ∙ c.if-in_bounds.true) (search rules) in
    omega (arith, b.files-high)
