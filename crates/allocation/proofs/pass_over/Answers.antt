-- `allocation::pass_over` meets its contract. The loop's invariant: the extents of k sectors are passed.
use Rattle.model.specs.Disk.{view}
use Rattle.allocation.proofs.Marks.{starts-down}
use Rattle.allocation.proofs.pass_over.Goals as goal

pub pass_sector-requires-clause-starts : goal.pass_sector-requires-clause-starts
pass_sector-requires-clause-starts g c = let a = c.args in starts-down a.g (view a.img.now) a.f c.loop-k.m _ c.requires.starts c.loop-k.invariant.lower

pub pass_part-requires-clause-starts : goal.pass_part-requires-clause-starts
pass_part-requires-clause-starts g c = let a = c.args in starts-down a.g (view a.img.now) a.f c.loop-k.m _ c.requires.starts c.loop-k.invariant.lower
