-- The test of the bounds gives what `table_sectors` requires.
use Rattle.std.proofs.Common.{arith, sym, ◌∙◌}
use Rattle.model.proofs.Areas.{bounds}
use Rattle.superblock.proofs.print_geometry.Goals as goal

pub table_sectors-requires : goal.table_sectors-requires
table_sectors-requires g c = bounds _ (sym c.in_bounds.ensures ∙ c.if-in_bounds.true) (omega arith)
