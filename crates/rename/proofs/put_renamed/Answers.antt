-- `rename::put_renamed` meets its contract.
use Rattle.model.specs.Geometry.{entry_at}
use Rattle.model.specs.Rename.{renamed_record}
use Rattle.commit.proofs.Decided.{edition-is}
use Rattle.commit.proofs.Laws.{added-copy}
use Rattle.rename.proofs.put_renamed.Goals as goal

pub returns-clause-added : goal.returns-clause-added
unfolding renamed_record
returns-clause-added c =
    let e = edition-is c.args.img.now c.args.g c.requires.opened.is in
    added-copy {s = entry_at c.args.i.0} (rw (e, ← c.renamed_entry-s.ensures) c.put_copy.ensures.emitted)
    (rw (← c.sector.ensures) c.put_copy.ensures.numbers_after) c.requires.record_size_in_bounds.2
