-- `changes::rename_set` meets its contract. The judgement refuses, or `rename_set::rename_set_in` gives the answer and the list.
use Prim.Native.Nat.{◌/◌}
use lib.ListN.{length}
use Rattle.model.specs.Disk.{view}
use Rattle.model.specs.RenameSet.{rename_set_conditions, set_planned, rename_set_decision, rename_set_answer, rename_set_list}
use Rattle.laws.proofs.Judged.{accepted}
use Rattle.commit.proofs.Decided.{refused-as-judged}
use Rattle.laws.proofs.Results.{handed-on}
use Rattle.changes.proofs.Lengths.{done-number, refusing, comes-by}
use Rattle.commit.proofs.Clauses.{value_and_list}
use Rattle.changes.proofs.rename_set.Goals as goal

pub rename_set_in-requires : goal.rename_set_in-requires
rename_set_in-requires c =
    let a = c.args in
    accepted a.img.now (done-number c.in_ok-judge.ensures)

pub returns-in_err-judge : goal.returns-in_err-judge
unfolding rename_set_answer rename_set_list rename_set_decision
returns-in_err-judge c =
    let a = c.args in
    let d = view a.img.now in
    let h =
    refused-as-judged (length a.img.now) d (rename_set_conditions d a.names.now a.lengths.now a.time)
    (set_planned d a.names.now a.lengths.now a.time (length a.lengths.now / 2))
    a.list.now _ c.in_err-judge.ensures (refusing c.in_err-judge.field-0.0) in
    rw (handed-on _ c.from_residual.ensures.1) record { value = h.0; list_after = h.1 }

pub returns : goal.returns
unfolding rename_set_answer rename_set_list rename_set_decision
returns c =
    let a = c.args in
    let d = view a.img.now in
    let ok = done-number c.in_ok-judge.ensures in value_and_list (comes-by (length a.img.now) d (rename_set_conditions d a.names.now a.lengths.now a.time)
    (set_planned d a.names.now a.lengths.now a.time (length a.lengths.now / 2))
    a.list.now ok (c.rename_set_in.ensures.value, c.rename_set_in.ensures.list_after))
