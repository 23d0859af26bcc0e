-- `table::holds_from` meets its contract.
use Rattle.std.proofs.Common.{rules, tests}
use Prim.Native.Nat.{◌+◌, ◌*◌}
use native.Mathlib.Nat.{zero-add}
use Rattle.model.specs.Table.{holds_any}
use Rattle.table.specs.Owned.{owned_in}
use Rattle.laws.proofs.Ranges.{any-below}
use Rattle.table.proofs.holds_from.Goals as goal

pub returns : goal.returns
unfolding holds_any
returns c =
    let found = any-below _ _ _ _ (λ k. owned_in c.args.img.now c.args.i.0 c.args.o (128 * c.args.t + k)) c.any.ensures.ran (λ x q k. search (rules, tests)) (λ x q k. search (rules, tests)) in
    simp zero-add at found
