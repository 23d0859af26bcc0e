-- `repair::holds_marked` meets its contract.
use Prim.Native.Nat.{◌+◌, ◌*◌}
use native.Mathlib.Nat.{zero-add}
use Rattle.std.proofs.Common.{rules, tests}
use Rattle.model.specs.Table.{holds_any}
use Rattle.laws.proofs.Ranges.{any-below}
use Rattle.table.specs.Owned.{is_marked}
use Rattle.repair.proofs.holds_marked.Goals as goal

pub returns : goal.returns
unfolding holds_any
returns c =
    let found = any-below _ _ _ _ (λ k. is_marked c.args.marks.now (128 * c.args.t + k)) c.any.ensures.ran (λ x q k. search (rules, tests)) (λ x q k. search (rules, tests)) in
    simp zero-add at found
