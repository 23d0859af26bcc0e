-- `create::create_in` meets its contract. Refused for the call's own reasons, fewer than K extents free, the list too short, or done.
use Rattle.std.proofs.Common.{arith}
use Rattle.model.specs.Disk.{view}
use Rattle.model.specs.Catalogue.{catalogue_of}
use Rattle.model.specs.Create.{create_plan}
use Rattle.laws.proofs.Judged.{accepted-opened}
use Rattle.laws.proofs.Results.{handed-on}
use Rattle.commit.proofs.Clauses.{value_and_list}
use Rattle.commit.proofs.Decided.{fitted-full, fitted_short, fitted-done}
use Rattle.create.proofs.Laws.{good-name, create-needs, create-refused, create-passed}
use Rattle.create.proofs.create_in.Goals as goal

pub entry_for-requires : goal.entry_for-requires
entry_for-requires c = accepted-opened _ _ c.geometry_in-g.ensures (omega arith) c.requires

pub returns-in_err-i : goal.returns-in_err-i
returns-in_err-i c =
    let a = c.args in
    rw (handed-on _ c.from_residual.ensures.1)
    (value_and_list (create-refused a.img.now a.list.now a.name.now a.id a.mode a.time c.requires.verdict c.in_err-i.field-0.0 c.in_err-i.ensures.verdict))

pub staging-requires : goal.staging-requires
staging-requires c = accepted-opened _ _ c.geometry_in-g.ensures (omega arith) c.requires

pub returns-in_default : goal.returns-in_default
returns-in_default c =
    let a = c.args in
    let d = view a.img.now in value_and_list (create-passed a.img.now a.list.now a.name.now a.id a.mode a.time c.requires.verdict c.in_ok-i.ensures.verdict
    (fitted-full d (create_plan (catalogue_of d) d a.name.now a.id a.mode a.time) a.list.now c.in_default.ensures.lacking))

pub returns-then-list-lt-LIST_SIZE : goal.returns-then-list-lt-LIST_SIZE
returns-then-list-lt-LIST_SIZE c =
    let a = c.args in
    let d = view a.img.now in value_and_list (create-passed a.img.now a.list.now a.name.now a.id a.mode a.time c.requires.verdict c.in_ok-i.ensures.verdict
    (fitted_short d (create_plan (catalogue_of d) d a.name.now a.id a.mode a.time) a.list.now c.in-Some.ensures.lacking
    (omega (arith, create-needs d a.name.now a.id a.mode a.time))))

pub put_create-requires-clause-opened : goal.put_create-requires-clause-opened
put_create-requires-clause-opened c = accepted-opened _ _ c.geometry_in-g.ensures (omega (arith, c.geometry_in-g.type_inv)) c.requires

pub put_create-requires-clause-name_len_bound : goal.put_create-requires-clause-name_len_bound
put_create-requires-clause-name_len_bound c =
    good-name c.args.img.now _ c.geometry_in-g.ensures c.args.name.now c.args.id c.args.time c.in_ok-i.ensures.verdict

pub returns : goal.returns
returns c =
    let a = c.args in
    let d = view a.img.now in value_and_list (create-passed a.img.now a.list.now a.name.now a.id a.mode a.time c.requires.verdict c.in_ok-i.ensures.verdict
    (fitted-done d (create_plan (catalogue_of d) d a.name.now a.id a.mode a.time) a.list.now c.in-Some.ensures.lacking
    (omega (arith, create-needs d a.name.now a.id a.mode a.time)) (omega (arith, c.if-list-lt-LIST_SIZE.false)) c.put_create.ensures))
