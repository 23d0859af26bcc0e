-- `changes::create_lent` meets its contract. The judgement refuses, or `create::create_in` gives the answer and the list.
use mathlib.Core.Option.{some}
use lib.ListN.{length}
use Rattle.model.specs.Disk.{view}
use Rattle.model.specs.Catalogue.{catalogue_of}
use Rattle.model.specs.Create.{create_conditions, create_plan, create_decision, create_answer, create_list}
use Rattle.model.specs.Lent.{lent_length}
use Rattle.laws.proofs.Judged.{lent-accepted}
use Rattle.commit.proofs.Decided.{refused-as-judged}
use Rattle.laws.proofs.Results.{handed-on}
use Rattle.changes.proofs.Lengths.{done-number, refusing, comes-by}
use Rattle.commit.proofs.Clauses.{value_and_list}
use Rattle.changes.proofs.create_lent.Goals as goal

pub create_in-requires : goal.create_in-requires
create_in-requires c =
    let a = c.args in
    lent-accepted a.front.now a.count (done-number c.in_ok-judge_lent.ensures)

pub returns-in_err-judge_lent : goal.returns-in_err-judge_lent
unfolding create_answer create_list create_decision
returns-in_err-judge_lent c =
    let a = c.args in
    let d = view a.front.now in
    let h =
    refused-as-judged (lent_length (length a.front.now) a.count d) d (create_conditions (catalogue_of d) a.name.now a.id a.time)
    (some (create_plan (catalogue_of d) d a.name.now a.id a.mode a.time))
    a.list.now _ c.in_err-judge_lent.ensures (refusing c.in_err-judge_lent.field-0.0) in
    rw (handed-on _ c.from_residual.ensures.1) record { value = h.0; list_after = h.1 }

pub returns : goal.returns
unfolding create_answer create_list create_decision
returns c =
    let a = c.args in
    let d = view a.front.now in
    let ok = done-number c.in_ok-judge_lent.ensures in value_and_list (comes-by (lent_length (length a.front.now) a.count d) d (create_conditions (catalogue_of d) a.name.now a.id a.time)
    (some (create_plan (catalogue_of d) d a.name.now a.id a.mode a.time))
    a.list.now ok (c.create_in.ensures.value, c.create_in.ensures.list_after))
