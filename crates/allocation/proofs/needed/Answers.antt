-- `allocation::needed` meets its contract. A free entry needs none.
use Rattle.allocation.specs.Marks.{needed}
use Rattle.allocation.proofs.needed.Goals as goal

pub returns-then-is_occupied-clause-value : goal.returns-then-is_occupied-clause-value
unfolding needed
returns-then-is_occupied-clause-value c = rw (← c.is_occupied.ensures, c.if-is_occupied.true, ← c.size_at.ensures) c.extents_for.ensures.value

pub returns-else-is_occupied-clause-value : goal.returns-else-is_occupied-clause-value
unfolding needed
returns-else-is_occupied-clause-value c = rw (← c.is_occupied.ensures, c.if-is_occupied.false)
