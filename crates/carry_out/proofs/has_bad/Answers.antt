-- `carry_out::has_bad` meets its contract.
use native.Mathlib.Nat.{zero-add, sub-zero}
use borrow.Author.Tests.{tests}
use Rattle.std.proofs.Common.{rules}
use Rattle.model.specs.CarryOut.{bad_record}
use Rattle.laws.proofs.Ranges.{any-below}
use Rattle.carry_out.proofs.has_bad.Goals as goal

pub returns : goal.returns
returns c =
    let bad = bad_record c.args.sectors c.args.list.now in
    let found = any-below _ _ _ _ bad c.any.ensures.ran (λ x q k. search (rules, tests)) (λ x q k. search (rules, tests)) in
    simp (zero-add, sub-zero) at found
