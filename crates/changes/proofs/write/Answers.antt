-- `changes::write` meets its contract. The judgement refuses, or `write::write_in` gives the answer and the list.
use lib.ListN.{length}
use Rattle.model.specs.Disk.{view}
use Rattle.model.specs.Search.{index_of}
use Rattle.model.specs.Catalogue.{catalogue_of, file_named}
use Rattle.model.specs.Write.{write_conditions, write_planned, write_decision, write_answer, write_list}
use Rattle.laws.proofs.Judged.{accepted}
use Rattle.commit.proofs.Decided.{refused-as-judged}
use Rattle.laws.proofs.Results.{handed-on}
use Rattle.changes.proofs.Lengths.{done-number, refusing, comes-by}
use Rattle.commit.proofs.Clauses.{value_and_list}
use Rattle.changes.proofs.write.Goals as goal

pub write_in-requires : goal.write_in-requires
write_in-requires c =
    let a = c.args in
    accepted a.img.now (done-number c.in_ok-judge.ensures)

pub returns-in_err-judge : goal.returns-in_err-judge
unfolding write_answer write_list write_decision
returns-in_err-judge c =
    let a = c.args in
    let d = view a.img.now in
    let h =
    refused-as-judged (length a.img.now) d (write_conditions (catalogue_of d) a.name.now a.offset (length a.bytes.now) a.time)
    (write_planned (catalogue_of d) (index_of (file_named (catalogue_of d) a.name.now)) d a.offset a.bytes.now a.time)
    a.list.now _ c.in_err-judge.ensures (refusing c.in_err-judge.field-0.0) in
    rw (handed-on _ c.from_residual.ensures.1) record { value = h.0; list_after = h.1 }

pub returns : goal.returns
unfolding write_answer write_list write_decision
returns c =
    let a = c.args in
    let d = view a.img.now in
    let ok = done-number c.in_ok-judge.ensures in value_and_list (comes-by (length a.img.now) d (write_conditions (catalogue_of d) a.name.now a.offset (length a.bytes.now) a.time)
    (write_planned (catalogue_of d) (index_of (file_named (catalogue_of d) a.name.now)) d a.offset a.bytes.now a.time)
    a.list.now ok (c.write_in.ensures.value, c.write_in.ensures.list_after))
