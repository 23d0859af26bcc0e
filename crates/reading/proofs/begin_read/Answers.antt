-- `reading::begin_read` meets its contract. No byte is given, or the first sector is asked for.
use Rattle.std.proofs.Common.{ap, refl}
use mathlib.Core.Path.{◌∙◌}
use Rattle.model.specs.Answers.{BytesRead}
use Rattle.model.specs.Refusals.{done}
use Rattle.model.specs.Disk.{view}
use Rattle.model.specs.Catalogue.{catalogue_of}
use Rattle.model.specs.Read.{not_read}
use Rattle.model.specs.Results.{verdict_for}
use Rattle.model.specs.Lent.{read_begun}
use Rattle.reading.proofs.Steps.{begun-none, begun-some}
use Rattle.reading.proofs.begin_read.Goals.{in_default-via-in-Ok+else-bytes-ne0, in_default-via-in_default}
use Rattle.reading.proofs.begin_read.Goals as goal

pub returns-in-Ok-clause-value : goal.returns-in-Ok-clause-value
returns-in-Ok-clause-value c =
    let x = c.args in
    let k = catalogue_of (view x.img.now) in
    let b = c.in-Ok.bytes in
    c.asking.ensures ∙ begun-some k x.i.0 x.offset (record { verdict = done; count = b.count; length = b.length }) c.if-bytes-ne0.true
    ∙ ap (λ (a : BytesRead). read_begun k x.i.0 x.offset a) c.in-Ok.ensures.value

pub returns-in_default-clause-value : goal.returns-in_default-clause-value
returns-in_default-clause-value c =
    let x = c.args in
    let k = catalogue_of (view x.img.now) in
    elim c.in_default.branch [
      | in_default-via-in-Ok+else-bytes-ne0 w ↦ let b = w.in-Ok.bytes in
          rw w.a-is at c.idle.ensures ∙ begun-none k x.i.0 x.offset (record { verdict = done; count = b.count; length = b.length }) w.if-bytes-ne0.false
          ∙ ap (λ (a : BytesRead). read_begun k x.i.0 x.offset a) w.in-Ok.ensures.value
      | in_default-via-in_default w ↦
          rw (w.a-is, w.in_default.is) at c.idle.ensures ∙ begun-none k x.i.0 x.offset (not_read (verdict_for w.in_default.field-0)) refl
          ∙ ap (λ (a : BytesRead). read_begun k x.i.0 x.offset a) w.in_default.ensures.value
    ]
