-- `carry_out::carry_out` meets its contract. Refused for a bad record, the list's length or the image's length, or carried out.
use mathlib.Core.Path.{◌≡◌, sym, ◌∙◌}
use mathlib.Core.Bool.{true}
use lib.ListN.{length}
use Rattle.carry_out.proofs.Laws.{refused-1, cut_record, bad-record, carried}
use Rattle.carry_out.proofs.carry_out.Goals as goal
use Rattle.carry_out.proofs.carry_out.Goals.{then-list-ne0-via-then-list-ne0, then-list-ne0-via-else-list-ne0+then-has_bad}
use Rattle.model.specs.Refusals.{is_whole}
use Rattle.model.specs.CarryOut.{carry_answer, carry_image}

pub returns-then-not-is_whole : goal.returns-then-not-is_whole
returns-then-not-is_whole c =
    let r = refused-1 c.args.img.now c.args.list.now (sym c.is_whole.ensures ∙ c.if-not-is_whole.true) in record {
      value = r.0;
      img_after = r.1;
    }

pub returns-then-list-ne0 : goal.returns-then-list-ne0
returns-then-list-ne0 c =
    let img = c.args.img.now in
    let list = c.args.list.now in
    let whole : is_whole (length img) ≡ true = sym c.is_whole.ensures ∙ c.if-not-is_whole.false in
    let r : (record { number = 8 } ≡ carry_answer img list) × (img ≡ carry_image img list) =
    elim c.then-list-ne0.branch [
      | then-list-ne0-via-then-list-ne0 w ↦ cut_record img list whole w.if-list-ne0.true
      | then-list-ne0-via-else-list-ne0+then-has_bad w ↦ bad-record img list whole w.if-list-ne0.false (sym w.has_bad.ensures ∙ w.if-has_bad.true)
    ] in record {
      value = r.0;
      img_after = r.1;
    }

pub put_records-requires : goal.put_records-requires
put_records-requires c = sym c.has_bad.ensures ∙ c.if-has_bad.false

pub returns : goal.returns
returns c =
    let r = carried c.args.img.now c.args.list.now (sym c.is_whole.ensures ∙ c.if-not-is_whole.false) c.if-list-ne0.false (sym c.has_bad.ensures ∙ c.if-has_bad.false) in record {
      value = r.0;
      img_after = c.put_records.ensures ∙ r.1;
    }
