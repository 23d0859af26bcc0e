-- `write::write_file` meets its contract. The offset is too great; or there are no bytes; or K extents are free, or not.
use Rattle.std.proofs.Common.{sym, ◌∙◌}
use Rattle.spans.specs.Touched.{span_of}
use Rattle.spans.proofs.Sources.{length-span}
use Rattle.write.proofs.Laws.{file-12, file-none, file-full}
use Rattle.write.proofs.write_file.Goals as goal

pub returns-then-size-offset : goal.returns-then-size-offset
returns-then-size-offset c =
    let a = c.args in
    let r = c.requires.asked in
    file-12 a.img.now r.judgment.verdict a.list.now a.i.0 a.offset (span_of a.bytes.now a.len) a.time a.size r.says c.if-size-offset.true

pub returns-then-len-eq0 : goal.returns-then-len-eq0
returns-then-len-eq0 c =
    let a = c.args in
    let r = c.requires.asked in
    file-none a.img.now r.judgment.verdict a.list.now a.i.0 a.offset (span_of a.bytes.now a.len) a.time a.size r.says a.g r.opened
    c.if-size-offset.false (length-span a.bytes.now a.len ∙ c.if-len-eq0.true)

pub returns-in_default : goal.returns-in_default
returns-in_default c =
    let a = c.args in
    let r = c.requires.asked in
    file-full a.img.now r.judgment.verdict a.list.now a.i.0 a.offset (span_of a.bytes.now a.len) a.time a.size r.says
    c.if-size-offset.false (λ e. c.if-len-eq0.false (sym (length-span a.bytes.now a.len) ∙ e)) c.in_default.ensures.lacking
