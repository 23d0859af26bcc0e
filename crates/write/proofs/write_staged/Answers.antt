-- `write::write_staged` meets its contract. An extent is needed and no more than K are free; or the list is too short; or the records are put in.
use Rattle.std.proofs.Common.{arith}
use Rattle.model.specs.Disk.{view}
use Rattle.model.specs.Catalogue.{catalogue_of}
use Rattle.spans.specs.Touched.{span_of}
use Rattle.spans.proofs.Sources.{length-span}
use Rattle.write.proofs.Laws.{size-made, file-13, file-short, file-count, file-done}
use Rattle.write.proofs.write_staged.Goals as goal

pub returns-in_default : goal.returns-in_default
returns-in_default c =
    let a = c.args in
    let r = c.requires.asked in
    let e = size-made (catalogue_of (view a.img.now)) a.i.0 a.offset a.size c.max-z.result a.len a.bytes.now r.says c.max-z.ensures in
    file-13 a.img.now r.judgment.verdict a.list.now a.i.0 a.offset (span_of a.bytes.now a.len) a.time a.size r.says c.requires.img_value.2 c.max-z.result e
    c.in_default.ensures.lacking

pub returns-then-list-records : goal.returns-then-list-records
returns-then-list-records c =
    let a = c.args in
    let r = c.requires.asked in
    let v = c.requires.img_value in
    let len = length-span a.bytes.now a.len in
    let e = size-made (catalogue_of (view a.img.now)) a.i.0 a.offset a.size c.max-z.result a.len a.bytes.now r.says c.max-z.ensures in
    file-short a.img.now r.judgment.verdict a.list.now a.i.0 a.offset (span_of a.bytes.now a.len) a.time a.size r.says v.2 c.max-z.result e c.in-Some.ensures.lacking
    v.0 (λ q. omega (arith, v.1, len, q)) c.in-Some.w.more c.in-Some.ensures.grown.0.needs-one (omega (arith, len, c.records.ensures.0, c.if-list-records.true))

pub overflow_mul-result : goal.overflow_mul-result
overflow_mul-result c =
    let a = c.args in
    let r = c.requires.asked in
    let v = c.requires.img_value in
    let len = length-span a.bytes.now a.len in
    let e = size-made (catalogue_of (view a.img.now)) a.i.0 a.offset a.size c.max-z.result a.len a.bytes.now r.says c.max-z.ensures in
    omega (
      arith,
      len,
      c.records.ensures.0,
      c.records.ensures.1,
      file-count a.img.now r.judgment.verdict a.list.now a.i.0 a.offset (span_of a.bytes.now a.len) a.time a.size r.says v.2 c.max-z.result e c.in-Some.ensures.lacking
          v.0 (λ q. omega (arith, v.1, len, q)) c.in-Some.w.more c.in-Some.ensures.grown.0.needs-one c.put_write-n.ensures,
    )

pub returns : goal.returns
returns c =
    let a = c.args in
    let r = c.requires.asked in
    let v = c.requires.img_value in
    let len = length-span a.bytes.now a.len in
    let e = size-made (catalogue_of (view a.img.now)) a.i.0 a.offset a.size c.max-z.result a.len a.bytes.now r.says c.max-z.ensures in
    file-done a.img.now r.judgment.verdict a.list.now a.i.0 a.offset (span_of a.bytes.now a.len) a.time a.size r.says v.2 c.max-z.result e c.in-Some.ensures.lacking
    v.0 (λ q. omega (arith, v.1, len, q)) c.in-Some.w.more c.in-Some.ensures.grown.0.needs-one (omega (arith, len, c.records.ensures.0, c.if-list-records.false)) c.put_write-n.ensures
