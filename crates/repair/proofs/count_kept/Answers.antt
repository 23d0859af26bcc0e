-- `repair::count_kept` meets its contract. The loop's invariant: the extents passed are counted.
use native.Mathlib.Omega.{arith}
use lib.ListN.{length}
use Rattle.std.proofs.Common.{rules}
use Rattle.std.proofs.lemmas.List.{get_or-replicate}
use Rattle.model.specs.Search.{count_below}
use Rattle.repair.proofs.count_kept.Goals as goal

pub loop-e-init : goal.loop-e-init
unfolding count_below
loop-e-init c = λ i l. rw (c.fill.ensures.after (λ y e. search rules)) (get_or-replicate (length c.args.kept.now) i 0 0 (omega arith))
