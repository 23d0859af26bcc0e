-- `soundness::first_fault` meets its contract. The directory's first fault, or else the table's.
use Rattle.std.proofs.Common.{sym, ◌∙◌}
use Rattle.std.proofs.lemmas.Result.{err_from_is_err_and}
use Rattle.model.specs.Disk.{view}
use Rattle.allocation.specs.Marks.{table_fault}
use Rattle.soundness.proofs.Laws.{in_order, directory-found, directory-none}
use Rattle.soundness.proofs.first_fault.Goals as goal

pub returns-in_err-directory_fault : goal.returns-in_err-directory_fault
returns-in_err-directory_fault c =
    let d = view c.args.img.now in
    let e = err_from_is_err_and c.from_residual.result c.from_residual.ensures.1 in
    rw (in_order d c.args.g c.requires.is, e.1, e.2)
    (directory-found d c.args.g (table_fault c.args.g d) _ _ (sym c.in_err-directory_fault.ensures))

pub returns : goal.returns
returns c =
    let d = view c.args.img.now in
    rw (in_order d c.args.g c.requires.is)
    (c.faults.ensures ∙ directory-none d c.args.g (table_fault c.args.g d) (sym c.in_ok-directory_fault.ensures))
