-- `write::resize_lent_in` meets its contract. It answers as `resize_in` does; a file that grows asks for the sectors that the zeros cover partly.
use Rattle.std.proofs.Common.{◌∙◌, arith}
use Rattle.model.specs.Disk.{view}
use Rattle.model.specs.Catalogue.{catalogue_of}
use Rattle.model.specs.Opened.{volume_length}
use Rattle.write.proofs.Lent.{named-size, resize-lent, resize-lent-less, resize-lent-more}
use Rattle.write.proofs.resize_lent_in.Goals as goal

pub returns-in-Ok-clause-value : goal.returns-in-Ok-clause-value
returns-in-Ok-clause-value c =
    let a = c.args in
    let b = c.in-Ok.ensures in
    let says = b.named.1.says ∙ named-size (catalogue_of (view a.img.now)) a.name.now _ b.named.0 in
    c.settled.ensures
    ∙ resize-lent-less (volume_length (view a.img.now)) (view a.img.now) a.name.now a.size a.time a.list.now b.answer_value (omega (arith, says, c.if-size-b.true))

pub returns-in-Ok-2-clause-value : goal.returns-in-Ok-2-clause-value
returns-in-Ok-2-clause-value c =
    let a = c.args in
    let b = c.in-Ok.ensures in
    let says = b.named.1.says ∙ named-size (catalogue_of (view a.img.now)) a.name.now _ b.named.0 in
    c.asking.ensures
    ∙ resize-lent-more (volume_length (view a.img.now)) (view a.img.now) a.name.now a.size a.time a.list.now b.answer_value b.named.0 says c.if-size-b.false

pub returns-in-Err-clause-value : goal.returns-in-Err-clause-value
returns-in-Err-clause-value c =
    let a = c.args in
    c.refused_writing.ensures
    ∙ resize-lent (volume_length (view a.img.now)) (view a.img.now) a.name.now a.size a.time a.list.now c.in-Err.ensures.answer_value
