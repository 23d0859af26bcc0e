-- `changes::rename` meets its contract. The judgement refuses, or `rename::rename_in` gives the answer and the list.
use lib.ListN.{length}
use Rattle.model.specs.Disk.{view}
use Rattle.model.specs.Catalogue.{catalogue_of}
use Rattle.model.specs.Rename.{rename_conditions, rename_planned, rename_decision, rename_answer, rename_list}
use Rattle.laws.proofs.Judged.{accepted}
use Rattle.commit.proofs.Decided.{refused-as-judged}
use Rattle.laws.proofs.Results.{handed-on}
use Rattle.changes.proofs.Lengths.{done-number, refusing, comes-by}
use Rattle.commit.proofs.Clauses.{value_and_list}
use Rattle.changes.proofs.rename.Goals as goal

pub rename_in-requires : goal.rename_in-requires
rename_in-requires c =
    let a = c.args in
    accepted a.img.now (done-number c.in_ok-judge.ensures)

pub returns-in_err-judge : goal.returns-in_err-judge
unfolding rename_answer rename_list rename_decision
returns-in_err-judge c =
    let a = c.args in
    let d = view a.img.now in
    let h =
    refused-as-judged (length a.img.now) d (rename_conditions (catalogue_of d) a.old.now a.new.now a.time)
    (rename_planned (catalogue_of d) d a.old.now a.new.now a.time)
    a.list.now _ c.in_err-judge.ensures (refusing c.in_err-judge.field-0.0) in
    rw (handed-on _ c.from_residual.ensures.1) record { value = h.0; list_after = h.1 }

pub returns : goal.returns
unfolding rename_answer rename_list rename_decision
returns c =
    let a = c.args in
    let d = view a.img.now in
    let ok = done-number c.in_ok-judge.ensures in value_and_list (comes-by (length a.img.now) d (rename_conditions (catalogue_of d) a.old.now a.new.now a.time)
    (rename_planned (catalogue_of d) d a.old.now a.new.now a.time)
    a.list.now ok (c.rename_in.ensures.value, c.rename_in.ensures.list_after))
