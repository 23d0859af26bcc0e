-- `reading::read_lent_in` meets its contract. The file's read is begun, or refused by the arguments or by the name.
use Rattle.std.proofs.Common.{arith, ap, refl, sym}
use Rattle.model.specs.declared.Geometry.{Geometry}
use Rattle.model.specs.Disk.{view}
use Rattle.model.specs.Results.{verdict_for}
use Rattle.laws.proofs.Judged.{accepted-opened}
use Rattle.laws.proofs.Named.{named-at}
use Rattle.reading.proofs.ReadAnswers.{read-refused, read_found, begins-none, begins-found}
use Rattle.commit.proofs.Clauses.{value_and_list}
use Rattle.reading.proofs.read_lent_in.Goals as goal

pub file_asked-requires : goal.file_asked-requires
file_asked-requires c = accepted-opened _ _ c.geometry_in-g.ensures (omega arith) c.requires

pub begin_read-requires : goal.begin_read-requires
begin_read-requires c =
    let f = c.in-Ok.ensures.file in
    let h = named-at (view c.args.img.now) c.args.name.now c.in-Ok.i.0 (sym f.0) in
    let e = ap (λ (x : Geometry). x.files) c.geometry_in-g.ensures in record {
      opened = accepted-opened _ _ c.geometry_in-g.ensures (omega (arith, c.geometry_in-g.type_inv)) c.requires;
      i_lt_files = (omega arith, h.1, f.1);
    }

pub returns-in-Ok : goal.returns-in-Ok
returns-in-Ok c =
    let a = c.args in
    let f = c.in-Ok.ensures.file in
    rw c.begin_read.ensures.value
    (value_and_list (begins-found _ a.img.now a.list.now a.name.now a.offset a.asked a.time a.room c.in-Ok.i.0 f.0
    (read_found _ a.img.now a.list.now a.name.now a.offset a.asked a.time a.room c.requires.verdict c.geometry_in-g.result c.geometry_in-g.ensures
    c.in-Ok.ensures.verdict c.in-Ok.i.0 f.0 (refl, c.begin_read.ensures.list_after))))

pub returns-in-Err : goal.returns-in-Err
returns-in-Err c =
    let a = c.args in
    rw c.idle.ensures
    (value_and_list (begins-none _ a.img.now a.list.now a.name.now a.offset a.asked a.time a.room (verdict_for c.in-Err.refusal)
    (read-refused _ a.img.now a.list.now a.name.now a.offset a.asked a.time a.room c.requires.verdict c.geometry_in-g.result c.geometry_in-g.ensures
    c.in-Err.refusal c.in-Err.ensures.verdict)))
