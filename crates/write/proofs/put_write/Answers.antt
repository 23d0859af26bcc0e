-- `write::put_write` meets its contract. An extent is taken and there are two targets, or none is and the entry is the only one.
use Rattle.std.proofs.Common.{ℕ, sym, ap, ◌∙◌, arith}
use lib.ListN.{replicate}
use Rattle.model.specs.Disk.{view}
use Rattle.model.specs.Catalogue.{catalogue_of}
use Rattle.model.specs.Write.{touched_sectors, size_after}
use Rattle.spans.specs.Touched.{span_of}
use Rattle.spans.proofs.Sources.{length-span}
use Rattle.write.proofs.Lists.{written-more, written-kept}
use Rattle.write.proofs.put_write.Goals as goal

pub returns-then-w : goal.returns-then-w
returns-then-w c =
    let a = c.args in
    let r = c.requires in
    let w = r.grown.0 in
    let len = sym (length-span a.bytes.now a.len) in
    let touched = c.touched_sectors-touched.ensures ∙ ap (touched_sectors a.offset) len in
    let room = rw c.if-w.true at r.record_size_in_bounds in
    written-more a.img.now a.g r.opened r.stages_of a.i.0 a.offset (span_of a.bytes.now a.len) a.time a.z
    (r.z_value ∙ ap (λ (x : ℕ). size_after (catalogue_of (view a.img.now)) a.i.0 a.offset x) len) (replicate 2 0) c.sector.result.0
    c.updated_entry-entry.result (rw touched at c.put_data-k.ensures.emitted) c.sector.ensures c.updated_entry-entry.ensures c.put_copy-k1.ensures.emitted
    c.put_copy-k1.ensures.numbers_after a.w.next.0 a.w.held c.table_sector_of.result.0 c.taken_sector-t.result (sym w.needs-one ∙ c.if-w.true) (omega arith)
    (omega (arith, room, c.put_copy-k1.ensures.emitted.next, c.put_copy-k2.ensures.emitted.next, c.put_data-k.ensures.value, c.touched_sectors-touched.ensures))
    w.taken w.extents c.table_sector_of.ensures c.taken_sector-t.ensures c.put_copy-k2.ensures.emitted c.put_copy-k2.ensures.numbers_after c.put_commit.ensures.emitted

pub returns : goal.returns
returns c =
    let a = c.args in
    let r = c.requires in
    let w = r.grown.0 in
    let len = sym (length-span a.bytes.now a.len) in
    let touched = c.touched_sectors-touched.ensures ∙ ap (touched_sectors a.offset) len in
    let room = rw c.if-w.false at r.record_size_in_bounds in
    written-kept a.img.now a.g r.opened r.stages_of a.i.0 a.offset (span_of a.bytes.now a.len) a.time a.z
    (r.z_value ∙ ap (λ (x : ℕ). size_after (catalogue_of (view a.img.now)) a.i.0 a.offset x) len) (replicate 2 0) c.sector.result.0
    c.updated_entry-entry.result (rw touched at c.put_data-k.ensures.emitted) c.sector.ensures c.updated_entry-entry.ensures c.put_copy-k1.ensures.emitted
    c.put_copy-k1.ensures.numbers_after (sym w.needs-one ∙ c.if-w.false) (omega arith)
    (omega (arith, room, c.put_copy-k1.ensures.emitted.next, c.put_data-k.ensures.value, c.touched_sectors-touched.ensures)) c.put_commit-2.ensures.emitted
