-- `duplicates::part` meets its contract.
use Rattle.duplicates.specs.Keys.{part_at}
use Rattle.duplicates.proofs.part.Goals as goal

pub returns-clause-value : goal.returns-clause-value
unfolding part_at
returns-clause-value c = rw (← c.half.ensures.value, ← c.half-2.ensures.value)
