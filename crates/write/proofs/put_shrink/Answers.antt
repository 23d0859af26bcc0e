-- `write::put_shrink` meets its contract.
use Rattle.std.proofs.Common.{sym, ap, arith}
use lib.ListN.{replicate}
use Rattle.model.specs.Disk.{view}
use Rattle.model.specs.Table.{sectors_holding}
use Rattle.commit.proofs.Laws.{added_then, added-copy, added-committed}
use Rattle.table.specs.Owned.{owned_in}
use Rattle.write.specs.FileResize.{shrink_for}
use Rattle.write.proofs.Resizes.{shrink-targets, shrink-alone}
use Rattle.write.proofs.put_shrink.Goals as goal

pub returns : goal.returns
returns c =
    let a = c.args in
    let r = c.requires in
    let size = c.extents_for-first.ensures.value in
    let same = ap (λ o. sectors_holding (owned_in a.img.now a.i.0 o) a.g) size in
    let entry = added-copy {numbers = replicate 1024 0} c.put_copy-k.ensures.emitted c.put_copy-k.ensures.numbers_after (omega arith) in
    let staged = added_then {numbers = replicate 1024 0} entry c.put_freed-n.ensures.added in
    added-committed (view a.img.now) (shrink_for a.img.now a.i.0 a.z a.time) staged c.put_commit.ensures.emitted r.opened.is r.stages_of
    (rw (c.sector.ensures, c.updated_entry-s.ensures, size) (sym (shrink-targets a.img.now a.g r.opened.is a.i.0 a.z a.time)))
    (shrink-alone a.img.now a.i.0 a.z a.time)
    (omega (arith, same, c.put_copy-k.ensures.emitted.next, c.put_freed-n.ensures.value.0))
