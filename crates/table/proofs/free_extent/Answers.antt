-- `table::free_extent` meets its contract.
use Rattle.std.proofs.Common.{rules}
use native.Mathlib.Omega.{arith}
use Rattle.model.specs.Disk.{view}
use Rattle.table.proofs.Laws.{free_in, free-extent-is, found-early}
use Rattle.table.proofs.free_extent.Goals as goal

pub returns : goal.returns
returns c =
    rw (free-extent-is (view c.args.img.now) c.args.g c.requires.is)
    (found-early (free_in c.args.img.now c.args.g) c.args.g.extents c.min.result _ _ c.free_between.ensures (omega (arith, c.min.ensures)) c.or_else.ensures
    (λ h. search rules))
