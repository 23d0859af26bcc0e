-- `model::Summary::start_of` meets its contract. In bounds the geometry gives the sector; out of bounds the answer is 3.
use Rattle.std.proofs.Common.{arith, sym, ◌∙◌}
use Rattle.model.proofs.Areas.{bounds}
use Rattle.model.proofs.Summary.start_of.Goals as goal

pub start_of-requires : goal.start_of-requires
start_of-requires c = bounds _ (sym c.in_bounds.ensures ∙ c.if-in_bounds.true) (omega arith)
