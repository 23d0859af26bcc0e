-- `changes::rename_set_lent` meets its contract. The judgement refuses, or `rename_set::rename_set_in` gives the answer and the list.
use Prim.Native.Nat.{◌/◌}
use lib.ListN.{length}
use Rattle.model.specs.Disk.{view}
use Rattle.model.specs.RenameSet.{rename_set_conditions, set_planned, rename_set_decision, rename_set_answer, rename_set_list}
use Rattle.model.specs.Lent.{lent_length}
use Rattle.laws.proofs.Judged.{lent-accepted}
use Rattle.commit.proofs.Decided.{refused-as-judged}
use Rattle.laws.proofs.Results.{handed-on}
use Rattle.changes.proofs.Lengths.{done-number, refusing, comes-by}
use Rattle.commit.proofs.Clauses.{value_and_list}
use Rattle.changes.proofs.rename_set_lent.Goals as goal

pub rename_set_in-requires : goal.rename_set_in-requires
rename_set_in-requires c =
    let a = c.args in
    lent-accepted a.front.now a.count (done-number c.in_ok-judge_lent.ensures)

pub returns-in_err-judge_lent : goal.returns-in_err-judge_lent
unfolding rename_set_answer rename_set_list rename_set_decision
returns-in_err-judge_lent c =
    let a = c.args in
    let d = view a.front.now in
    let h =
    refused-as-judged (lent_length (length a.front.now) a.count d) d (rename_set_conditions d a.names.now a.lengths.now a.time)
    (set_planned d a.names.now a.lengths.now a.time (length a.lengths.now / 2))
    a.list.now _ c.in_err-judge_lent.ensures (refusing c.in_err-judge_lent.field-0.0) in
    rw (handed-on _ c.from_residual.ensures.1) record { value = h.0; list_after = h.1 }

pub returns : goal.returns
unfolding rename_set_answer rename_set_list rename_set_decision
returns c =
    let a = c.args in
    let d = view a.front.now in
    let ok = done-number c.in_ok-judge_lent.ensures in value_and_list (comes-by (lent_length (length a.front.now) a.count d) d (rename_set_conditions d a.names.now a.lengths.now a.time)
    (set_planned d a.names.now a.lengths.now a.time (length a.lengths.now / 2))
    a.list.now ok (c.rename_set_in.ensures.value, c.rename_set_in.ensures.list_after))
