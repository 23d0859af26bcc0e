-- `rename::put_replacing` meets its contract.
use Rattle.commit.proofs.Laws.{added_then}
use Rattle.rename.proofs.Laws.{replacing-is}
use Rattle.rename.proofs.put_replacing.Goals as goal

pub returns-clause-added : goal.returns-clause-added
returns-clause-added c =
    let a = c.args in
    rw (replacing-is a.img.now a.g c.requires.opened.is a.i.0 a.j.0 a.name.now a.time) (added_then c.put_entries-n.ensures.added c.put_freed.ensures.added)
