-- `changes::resize` meets its contract. The judgement refuses, or `resize::resize_in` gives the answer and the list.
use lib.ListN.{length}
use Rattle.model.specs.Disk.{view}
use Rattle.model.specs.Search.{index_of}
use Rattle.model.specs.Catalogue.{catalogue_of, file_named}
use Rattle.model.specs.Resize.{resize_conditions, resize_planned, resize_decision, resize_answer, resize_list}
use Rattle.laws.proofs.Judged.{accepted}
use Rattle.commit.proofs.Decided.{refused-as-judged}
use Rattle.laws.proofs.Results.{handed-on}
use Rattle.changes.proofs.Lengths.{done-number, refusing, comes-by}
use Rattle.commit.proofs.Clauses.{value_and_list}
use Rattle.changes.proofs.resize.Goals as goal

pub resize_in-requires : goal.resize_in-requires
resize_in-requires c =
    let a = c.args in
    accepted a.img.now (done-number c.in_ok-judge.ensures)

pub returns-in_err-judge : goal.returns-in_err-judge
unfolding resize_answer resize_list resize_decision
returns-in_err-judge c =
    let a = c.args in
    let d = view a.img.now in
    let h =
    refused-as-judged (length a.img.now) d (resize_conditions (catalogue_of d) a.name.now a.size a.time)
    (resize_planned (catalogue_of d) d (index_of (file_named (catalogue_of d) a.name.now)) a.size a.time)
    a.list.now _ c.in_err-judge.ensures (refusing c.in_err-judge.field-0.0) in
    rw (handed-on _ c.from_residual.ensures.1) record { value = h.0; list_after = h.1 }

pub returns : goal.returns
unfolding resize_answer resize_list resize_decision
returns c =
    let a = c.args in
    let d = view a.img.now in
    let ok = done-number c.in_ok-judge.ensures in value_and_list (comes-by (length a.img.now) d (resize_conditions (catalogue_of d) a.name.now a.size a.time)
    (resize_planned (catalogue_of d) d (index_of (file_named (catalogue_of d) a.name.now)) a.size a.time)
    a.list.now ok (c.resize_in.ensures.value, c.resize_in.ensures.list_after))
