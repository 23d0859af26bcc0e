-- `reading::read_in` meets its contract. Refused by the arguments or by the name, or the file is read.
use Rattle.std.proofs.Common.{length, arith, ap, sym}
use Rattle.model.specs.declared.Geometry.{Geometry}
use Rattle.model.specs.Disk.{view}
use Rattle.model.specs.Results.{verdict_for}
use Rattle.laws.proofs.Judged.{accepted-opened, judged-sound}
use Rattle.laws.proofs.Named.{named-at, size_fits}
use Rattle.laws.proofs.Results.{handed-on}
use Rattle.reading.proofs.ReadAnswers.{read-refused, read_found, gives_none, gives_found}
use Rattle.reading.proofs.Clauses.{value_out_and_list}
use Rattle.reading.proofs.read_in.Goals as goal

pub file_asked-requires : goal.file_asked-requires
file_asked-requires c = accepted-opened _ _ c.geometry_in-g.ensures (omega arith) c.requires.accepted

pub returns-in_err-i : goal.returns-in_err-i
returns-in_err-i c =
    let a = c.args in
    rw (handed-on _ c.from_residual.ensures.1)
    (value_out_and_list (gives_none _ a.img.now a.out.now a.list.now a.name.now a.offset a.asked a.time (verdict_for c.in_err-i.field-0.0)
    (read-refused _ a.img.now a.list.now a.name.now a.offset a.asked a.time (length a.out.now) c.requires.accepted.verdict c.geometry_in-g.result
    c.geometry_in-g.ensures c.in_err-i.field-0.0 c.in_err-i.ensures.verdict)))

pub read_file-requires : goal.read_file-requires
read_file-requires c =
    let f = c.in_ok-i.ensures.file in
    let o = accepted-opened _ _ c.geometry_in-g.ensures (omega (arith, c.geometry_in-g.type_inv)) c.requires.accepted in
    let h = named-at (view c.args.img.now) c.args.name.now c.in_ok-i.i.0 (sym f.0) in
    let e = ap (λ (x : Geometry). x.files) c.geometry_in-g.ensures in
    let z = size_fits c.args.img.now c.geometry_in-g.result o (judged-sound _ _ c.requires.accepted.verdict) c.in_ok-i.i.0 h.0 h.1 in record {
      opened = o;
      g_in_bounds = rw c.geometry_in-g.ensures c.requires.superblock_at_in_bounds;
      i_lt_files = (omega arith, h.1, z, f.1);
    }

pub returns : goal.returns
returns c =
    let a = c.args in
    let f = c.in_ok-i.ensures.file in
    let e = c.read_file.ensures in value_out_and_list (gives_found _ a.img.now a.out.now a.list.now a.name.now a.offset a.asked a.time c.in_ok-i.i.0 f.0
    (read_found _ a.img.now a.list.now a.name.now a.offset a.asked a.time (length a.out.now) c.requires.accepted.verdict c.geometry_in-g.result c.geometry_in-g.ensures
    c.in_ok-i.ensures.verdict c.in_ok-i.i.0 f.0 (e.value, e.list_after)) e.out_after)
