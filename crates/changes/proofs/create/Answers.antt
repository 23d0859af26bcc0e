-- `changes::create` meets its contract. The judgement refuses, or `create::create_in` gives the answer and the list.
use mathlib.Core.Option.{some}
use lib.ListN.{length}
use Rattle.model.specs.Disk.{view}
use Rattle.model.specs.Catalogue.{catalogue_of}
use Rattle.model.specs.Create.{create_conditions, create_plan, create_decision, create_answer, create_list}
use Rattle.laws.proofs.Judged.{accepted}
use Rattle.commit.proofs.Decided.{refused-as-judged}
use Rattle.laws.proofs.Results.{handed-on}
use Rattle.changes.proofs.Lengths.{done-number, refusing, comes-by}
use Rattle.commit.proofs.Clauses.{value_and_list}
use Rattle.changes.proofs.create.Goals as goal

pub create_in-requires : goal.create_in-requires
create_in-requires c =
    let a = c.args in
    accepted a.img.now (done-number c.in_ok-judge.ensures)

pub returns-in_err-judge : goal.returns-in_err-judge
unfolding create_answer create_list create_decision
returns-in_err-judge c =
    let a = c.args in
    let d = view a.img.now in
    let h =
    refused-as-judged (length a.img.now) d (create_conditions (catalogue_of d) a.name.now a.id a.time)
    (some (create_plan (catalogue_of d) d a.name.now a.id a.mode a.time))
    a.list.now _ c.in_err-judge.ensures (refusing c.in_err-judge.field-0.0) in
    rw (handed-on _ c.from_residual.ensures.1) record { value = h.0; list_after = h.1 }

pub returns : goal.returns
unfolding create_answer create_list create_decision
returns c =
    let a = c.args in
    let d = view a.img.now in
    let ok = done-number c.in_ok-judge.ensures in value_and_list (comes-by (length a.img.now) d (create_conditions (catalogue_of d) a.name.now a.id a.time)
    (some (create_plan (catalogue_of d) d a.name.now a.id a.mode a.time))
    a.list.now ok (c.create_in.ensures.value, c.create_in.ensures.list_after))
