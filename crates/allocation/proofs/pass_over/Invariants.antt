-- `allocation::pass_over` meets its contract. The loop's invariant: the extents of k sectors are passed.
use Prim.Native.Nat.{◌*◌}
use Rattle.model.specs.Disk.{view}
use Rattle.allocation.specs.Marks.{Reached}
use Rattle.allocation.proofs.pass_over.Given as goal

abbrev pub invariant-loop-k : goal.invariant-loop-k
invariant-loop-k g l = Reached l.g (view l.img) 0 (128 * l.k) l.f l.m (g.M.Mark.numbers l.seen)
