-- `rename::rename_file` meets its contract. Fewer than K extents free, the list too short, or done.
use Prim.Native.Nat.{◌*◌}
use native.Mathlib.Omega.{arith}
use Rattle.model.specs.Disk.{view}
use Rattle.model.specs.Catalogue.{catalogue_of, file_named}
use Rattle.model.specs.WriteList.{record_size}
use Rattle.commit.proofs.Decided.{fitted-full, fitted_short, fitted-done}
use Rattle.rename.specs.Renaming.{plan_for}
use Rattle.rename.proofs.Laws.{rename-needs}
use Rattle.rename.proofs.Decisions.{place-below}
use Rattle.rename.proofs.rename_file.Goals as goal

pub returns-in_default : goal.returns-in_default
returns-in_default c =
    let a = c.args in
    let d = view a.img.now in
    fitted-full d (plan_for a.img.now a.i.0 (file_named (catalogue_of d) a.name.now) a.name.now a.time) a.list.now c.in_default.ensures.lacking

pub rename_count-needed-requires-clause-place_bound : goal.rename_count-needed-requires-clause-place_bound
rename_count-needed-requires-clause-place_bound c = place-below _ c.args.name.now c.requires.opened c.file_named-place.ensures

pub returns-then-list-needed : goal.returns-then-list-needed
returns-then-list-needed c =
    let a = c.args in
    let n = c.rename_count-needed.ensures.value in
    let needs = rename-needs a.img.now a.g c.requires.opened.is a.i.0 c.file_named-place.result a.name.now a.time in
    rw (← c.file_named-place.ensures)
    (fitted_short (view a.img.now) (plan_for a.img.now a.i.0 c.file_named-place.result a.name.now a.time) a.list.now c.in-Some.ensures.lacking
    (omega (arith, n, needs, c.if-list-needed.true)))

pub put_rename-requires-clause-i_lt_files : goal.put_rename-requires-clause-i_lt_files
put_rename-requires-clause-i_lt_files c =
    (c.requires.i_lt_files.0, place-below _ c.args.name.now c.requires.opened c.file_named-place.ensures, c.requires.i_lt_files.1)

pub returns : goal.returns
returns c =
    let a = c.args in
    let n = c.rename_count-needed.ensures.value in
    let needs = rename-needs a.img.now a.g c.requires.opened.is a.i.0 c.file_named-place.result a.name.now a.time in
    rw (← c.file_named-place.ensures)
    (fitted-done (view a.img.now) (plan_for a.img.now a.i.0 c.file_named-place.result a.name.now a.time) a.list.now c.in-Some.ensures.lacking
    {n = record_size * c.rename_count-needed.result} (omega (arith, n, needs)) (omega (arith, c.if-list-needed.false)) c.put_rename.ensures)
