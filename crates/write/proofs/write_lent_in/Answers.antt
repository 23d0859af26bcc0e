-- `write::write_lent_in` meets its contract. It answers as `write_in` does, and asks for the sectors that the span covers partly.
use Rattle.std.proofs.Common.{◌∙◌}
use Rattle.model.specs.Disk.{view}
use Rattle.model.specs.Opened.{volume_length}
use Rattle.write.proofs.Lent.{write-lent}
use Rattle.write.proofs.write_lent_in.Goals as goal

pub returns-in-Ok-clause-value : goal.returns-in-Ok-clause-value
returns-in-Ok-clause-value c =
    let a = c.args in
    rw (c.asking.ensures, c.in-Ok.ensures.named.0)
    (write-lent (volume_length (view a.img.now)) (view a.img.now) a.name.now a.offset a.bytes.now a.time a.list.now c.in-Ok.ensures.answer_value)

pub returns-in-Err-clause-value : goal.returns-in-Err-clause-value
returns-in-Err-clause-value c =
    let a = c.args in
    c.refused_writing.ensures
    ∙ write-lent (volume_length (view a.img.now)) (view a.img.now) a.name.now a.offset a.bytes.now a.time a.list.now c.in-Err.ensures.answer_value
