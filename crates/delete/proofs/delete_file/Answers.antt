-- `delete::delete_file` meets its contract. Fewer than K extents free, the list too short, or done.
use Rattle.std.proofs.Common.{◌*◌, arith}
use Rattle.model.specs.Disk.{view}
use Rattle.model.specs.WriteList.{record_size}
use Rattle.commit.proofs.Decided.{fitted-full, fitted_short, fitted-done}
use Rattle.delete.specs.Deleting.{plan_for}
use Rattle.delete.proofs.Laws.{delete-needs}
use Rattle.delete.proofs.delete_file.Goals as goal

pub returns-in_default : goal.returns-in_default
returns-in_default c =
    let a = c.args in
    fitted-full (view a.img.now) (plan_for a.img.now a.i.0 a.time) a.list.now c.in_default.ensures.lacking

pub returns-then-list-needed : goal.returns-then-list-needed
returns-then-list-needed c =
    let a = c.args in
    let d = view a.img.now in
    fitted_short d (plan_for a.img.now a.i.0 a.time) a.list.now c.in-Some.ensures.lacking
    (omega (arith, c.if-list-needed.true, c.delete_count-needed.ensures.value, delete-needs d a.g c.requires.opened.is a.i.0 a.time))

pub returns : goal.returns
returns c =
    let a = c.args in
    let d = view a.img.now in
    let n = c.delete_count-needed in
    fitted-done d (plan_for a.img.now a.i.0 a.time) a.list.now c.in-Some.ensures.lacking {n = record_size * n.result}
    (omega (arith, n.ensures.value, delete-needs d a.g c.requires.opened.is a.i.0 a.time))
    (omega (arith, c.if-list-needed.false)) c.put_delete.ensures
