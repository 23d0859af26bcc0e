-- `freeing::put_freed_sector` meets its contract.
use Prim.Native.Nat.{◌+◌}
use Rattle.model.specs.Geometry.{table_at}
use Rattle.commit.proofs.Laws.{added-copy}
use Rattle.freeing.proofs.put_freed_sector.Goals as goal

pub returns : goal.returns
returns c =
    let p = c.put_copy in
    let at = c.table_sector-at.ensures in
    added-copy {s = table_at c.args.g + c.args.t} (rw (← at, ← c.sector-s.ensures, ← c.free_marked.ensures) p.ensures.emitted)
    (rw (← at) p.ensures.numbers_after) c.requires.record_size_in_bounds.2
