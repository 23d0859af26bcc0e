-- The test of the bounds gives what `reserve_extents` requires.
use Rattle.std.proofs.Common.{arith, sym, ◌∙◌}
use Rattle.model.proofs.Areas.{bounds}
use Rattle.superblock.proofs.print_areas.Goals as goal

pub reserve_extents-requires : goal.reserve_extents-requires
reserve_extents-requires g c = bounds _ (sym c.in_bounds.ensures ∙ c.if-in_bounds.true) (omega arith)
