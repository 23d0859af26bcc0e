-- `write::asking` meets its contract. No list follows, or the span touches several sectors, or one.
use Rattle.std.proofs.Common.{◌∙◌, arith}
use Rattle.model.specs.Disk.{view}
use Rattle.model.specs.Catalogue.{catalogue_of}
use Rattle.laws.proofs.Judged.{accepted-opened}
use Rattle.write.proofs.Laws.{held-is}
use Rattle.write.proofs.Parts.{asks-one, asks-two}
use Rattle.write.proofs.asking.Goals as goal

pub extents_for-held-requires : goal.extents_for-held-requires
extents_for-held-requires c = (accepted-opened _ _ c.geometry_in-g.ensures (omega (arith, c.geometry_in-g.type_inv)) c.requires.accepted).bounded

pub next_extent-next-requires : goal.next_extent-next-requires
next_extent-next-requires c = accepted-opened _ _ c.geometry_in-g.ensures (omega (arith, c.geometry_in-g.type_inv)) c.requires.accepted

pub part_at-first-requires-clause-opened : goal.part_at-first-requires-clause-opened
part_at-first-requires-clause-opened c = accepted-opened _ _ c.geometry_in-g.ensures (omega (arith, c.geometry_in-g.type_inv)) c.requires.accepted

pub part_at-first-requires-clause-lent : goal.part_at-first-requires-clause-lent
part_at-first-requires-clause-lent c =
    let a = c.args in
    let o = accepted-opened _ _ c.geometry_in-g.ensures (omega (arith, c.geometry_in-g.type_inv)) c.requires.accepted in record {
      file = c.requires.spans.file;
      extents = c.extents_for-held.ensures.value ∙ held-is a.img.now _ o a.b.index.0 a.b.size c.requires.spans.says;
      taken = c.next_extent-next.ensures;
    }

pub part_at-last-requires-clause-opened : goal.part_at-last-requires-clause-opened
part_at-last-requires-clause-opened c = accepted-opened _ _ c.geometry_in-g.ensures (omega (arith, c.geometry_in-g.type_inv)) c.requires.accepted

pub part_at-last-requires-clause-lent : goal.part_at-last-requires-clause-lent
part_at-last-requires-clause-lent c =
    let a = c.args in
    let o = accepted-opened _ _ c.geometry_in-g.ensures (omega (arith, c.geometry_in-g.type_inv)) c.requires.accepted in record {
      file = c.requires.spans.file;
      extents = c.extents_for-held.ensures.value ∙ held-is a.img.now _ o a.b.index.0 a.b.size c.requires.spans.says;
      taken = c.next_extent-next.ensures;
    }

pub returns-then-touched-gt1 : goal.returns-then-touched-gt1
returns-then-touched-gt1 c =
    let a = c.args in
    rw (c.wanting.ensures, c.partly.ensures, c.partly-then-touched-gt1.ensures)
    (asks-two (catalogue_of (view a.img.now)) a.b.index.0 a.offset a.n _ c.if-b-eq0.false c.part_at-first.result c.part_at-first.ensures.value
    c.part_at-last.result (rw c.touched_sectors-touched.ensures at c.part_at-last.ensures.value) (omega (arith, c.touched_sectors-touched.ensures, c.if-touched-gt1.true)))

pub returns : goal.returns
returns c =
    let a = c.args in
    rw (c.wanting-2.ensures, c.partly-2.ensures)
    (asks-one (catalogue_of (view a.img.now)) a.b.index.0 a.offset a.n _ c.if-b-eq0.false c.part_at-first.result c.part_at-first.ensures.value
    (omega (arith, c.touched_sectors-touched.ensures, c.if-touched-gt1.false)))
