-- `rename::put_freed_entry` meets its contract.
use native.Mathlib.Omega.{arith}
use Rattle.model.specs.Bytes.{zero_sector}
use Rattle.model.specs.Geometry.{entry_at}
use Rattle.commit.proofs.Laws.{added-copy}
use Rattle.rename.proofs.put_freed_entry.Goals as goal

pub returns-clause-added : goal.returns-clause-added
unfolding zero_sector
returns-clause-added c =
    added-copy {s = entry_at c.args.j.0} c.put_copy.ensures.emitted (rw (← c.sector.ensures) c.put_copy.ensures.numbers_after) (omega arith)
