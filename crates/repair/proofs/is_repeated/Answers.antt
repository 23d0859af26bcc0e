-- `repair::is_repeated` meets its contract. The loop's invariant: an extent below e has its file and offset exactly if one below j has them, and j is 0 or
-- extent j - 1 stands in the bucket.
use mathlib.Core.Path.{sym, ◌∙◌}
use Rattle.duplicates.proofs.Chains.{walk_start, walk-found, walk-falls, walk-next, walk_end}
use Rattle.repair.proofs.Strays.{same-member}
use Rattle.repair.proofs.is_repeated.Goals as goal

pub loop-j-init : goal.loop-j-init
loop-j-init c =
    let p = c.requires in
    walk_start (same-member _ _ _ _ _ p.b_value p.free_file_value) (p.linked.chain _ p.e_lt_extents.1)

pub returns-then-is_same_part : goal.returns-then-is_same_part
returns-then-is_same_part c = sym (walk-found c.loop-j.invariant c.loop-j-test.true (sym c.is_same_part.ensures ∙ c.if-is_same_part.true))

pub loop-j-smaller : goal.loop-j-smaller
loop-j-smaller c =
    let p = c.requires in
    walk-falls (same-member _ _ _ _ _ p.b_value p.free_file_value) (p.linked.chain _ p.e_lt_extents.1)
    c.loop-j.invariant c.loop-j-test.true

pub loop-j-preserved : goal.loop-j-preserved
loop-j-preserved c =
    let p = c.requires in
    walk-next (same-member _ _ _ _ _ p.b_value p.free_file_value) (p.linked.chain _ p.e_lt_extents.1)
    c.loop-j.invariant c.loop-j-test.true (sym c.is_same_part.ensures ∙ c.if-is_same_part.false)

pub returns : goal.returns
returns c = sym (walk_end c.loop-j.invariant c.loop-j-test.false)
