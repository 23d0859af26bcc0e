-- `allocation::pass_part` meets its contract. The loop's invariant: the extents below e are passed.
use Rattle.model.specs.Disk.{view}
use Rattle.allocation.proofs.Marks.{starts-down}
use Rattle.allocation.proofs.pass_part.Goals as goal

pub judge-requires-clause-starts : goal.judge-requires-clause-starts
judge-requires-clause-starts g c = let a = c.args in starts-down a.g (view a.img.now) a.f c.loop-e.m _ c.requires.starts c.loop-e.invariant.lower
