-- `allocation::pass_part` meets its contract. The loop's invariant: the extents below e are passed.
use Rattle.model.specs.Disk.{view}
use Rattle.allocation.specs.Marks.{Reached}
use Rattle.allocation.proofs.pass_part.Given as goal

abbrev pub invariant-loop-e : goal.invariant-loop-e
invariant-loop-e g l = Reached l.g (view l.img) l.from l.e l.f l.m (g.M.Mark.numbers l.seen)
