-- `changes::delete_lent` meets its contract. The judgement refuses, or `delete::delete_in` gives the answer and the list.
use mathlib.Core.Option.{some}
use lib.ListN.{length}
use Rattle.model.specs.Disk.{view}
use Rattle.model.specs.Search.{index_of}
use Rattle.model.specs.Catalogue.{catalogue_of, file_named}
use Rattle.model.specs.Delete.{delete_conditions, delete_plan, delete_decision, delete_answer, delete_list}
use Rattle.model.specs.Lent.{lent_length}
use Rattle.laws.proofs.Judged.{lent-accepted}
use Rattle.commit.proofs.Decided.{refused-as-judged}
use Rattle.laws.proofs.Results.{handed-on}
use Rattle.changes.proofs.Lengths.{done-number, refusing, comes-by}
use Rattle.commit.proofs.Clauses.{value_and_list}
use Rattle.changes.proofs.delete_lent.Goals as goal

pub delete_in-requires : goal.delete_in-requires
delete_in-requires c =
    let a = c.args in
    lent-accepted a.front.now a.count (done-number c.in_ok-judge_lent.ensures)

pub returns-in_err-judge_lent : goal.returns-in_err-judge_lent
unfolding delete_answer delete_list delete_decision
returns-in_err-judge_lent c =
    let a = c.args in
    let d = view a.front.now in
    let h =
    refused-as-judged (lent_length (length a.front.now) a.count d) d (delete_conditions (catalogue_of d) a.name.now a.time)
    (some (delete_plan (catalogue_of d) d (index_of (file_named (catalogue_of d) a.name.now)) a.time))
    a.list.now _ c.in_err-judge_lent.ensures (refusing c.in_err-judge_lent.field-0.0) in
    rw (handed-on _ c.from_residual.ensures.1) record { value = h.0; list_after = h.1 }

pub returns : goal.returns
unfolding delete_answer delete_list delete_decision
returns c =
    let a = c.args in
    let d = view a.front.now in
    let ok = done-number c.in_ok-judge_lent.ensures in value_and_list (comes-by (lent_length (length a.front.now) a.count d) d (delete_conditions (catalogue_of d) a.name.now a.time)
    (some (delete_plan (catalogue_of d) d (index_of (file_named (catalogue_of d) a.name.now)) a.time))
    a.list.now ok (c.delete_in.ensures.value, c.delete_in.ensures.list_after))
