-- `write::resize_file` meets its contract. The file shrinks, or it grows by too much, or zeros are written at its end.
use Rattle.std.proofs.Common.{arith}
use Rattle.write.proofs.Resizes.{size-shrinks, size-far, size-grows}
use Rattle.write.proofs.resize_file.Goals as goal

pub returns-then-z-size : goal.returns-then-z-size
returns-then-z-size c =
    let a = c.args in
    let r = c.requires in
    size-shrinks a.img.now a.g r.opened a.list.now a.i.0 a.z a.time r.judgment.verdict a.size r.says c.if-z-size.true c.shrink_file.ensures

pub returns-then-z-size-gt-LONGEST_TRANSFER : goal.returns-then-z-size-gt-LONGEST_TRANSFER
returns-then-z-size-gt-LONGEST_TRANSFER c =
    let a = c.args in
    let r = c.requires in
    size-far a.img.now a.g r.opened a.list.now a.i.0 a.z a.time r.judgment.verdict a.size r.says (omega (arith, c.if-z-size-gt-LONGEST_TRANSFER.true))

pub returns : goal.returns
returns c =
    let a = c.args in
    let r = c.requires in
    size-grows a.img.now a.g r.opened a.list.now a.i.0 a.z a.time r.judgment.verdict a.size r.says
    c.if-z-size.false (omega (arith, c.if-z-size-gt-LONGEST_TRANSFER.false)) c.write_zeros.ensures
