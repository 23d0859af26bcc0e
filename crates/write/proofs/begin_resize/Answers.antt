-- `write::begin_resize` meets its contract. The name or the time is bad; no file has the name; the resize is refused, or done.
use Rattle.std.proofs.Common.{refl, sym, ap, arith}
use Rattle.model.specs.Search.{Lowest, is_at, index_of}
use Rattle.laws.proofs.Judged.{accepted-opened}
use Rattle.laws.proofs.Results.{handed-on}
use Rattle.commit.proofs.Decided.{named-short}
use Rattle.write.proofs.Laws.{file-below, asked}
use Rattle.write.proofs.Resizes.{resize-bad, resize-missing, resize-found}
use Rattle.write.proofs.Lent.{asked-spans, resize-ends}
use Rattle.write.proofs.begin_resize.Goals as goal

pub returns-then-bad_name_or_time : goal.returns-then-bad_name_or_time
returns-then-bad_name_or_time c =
    let a = c.args in
    let r = resize-bad a.img.now c.requires.verdict a.list.now a.name.now a.size a.time
    (rw (c.bad_name_or_time.ensures, c.geometry_in-g.ensures) at c.if-bad_name_or_time.true) in
    record { answer_value = r.0; named = tt; list_after = r.1 }

pub file_named-requires : goal.file_named-requires
file_named-requires c = record {
  opened = accepted-opened _ _ c.geometry_in-g.ensures (omega arith) c.requires;
  name_len_bound = named-short c.geometry_in-g.result.edition _ c.args.time (rw c.bad_name_or_time.ensures at c.if-bad_name_or_time.false);
}

pub returns-in_default : goal.returns-in_default
returns-in_default c =
    let a = c.args in
    let r = resize-missing a.img.now c.requires.verdict a.list.now a.name.now a.size a.time
    (rw (c.bad_name_or_time.ensures, c.geometry_in-g.ensures) at c.if-bad_name_or_time.false) (ap is_at (sym c.in_default.ensures)) in
    record { answer_value = r.0; named = tt; list_after = r.1 }

pub size_at-old-requires : goal.size_at-old-requires
size_at-old-requires c =
    let o = accepted-opened _ _ c.geometry_in-g.ensures (omega (arith, c.geometry_in-g.type_inv)) c.requires in
    omega (arith, o.held, file-below c.args.img.now _ o c.args.name.now c.in-Some.i c.in-Some.ensures)

pub resize_file-requires : goal.resize_file-requires
resize_file-requires c =
    let o = accepted-opened _ _ c.geometry_in-g.ensures (omega (arith, c.geometry_in-g.type_inv)) c.requires in
    asked c.args.img.now _ o c.args.name.now c.in-Some.i c.in-Some.ensures c.requires c.size_at-old.result 0 c.size_at-old.ensures (omega arith)

pub returns-in_err-length : goal.returns-in_err-length
returns-in_err-length c =
    let a = c.args in
    let r = resize-found a.img.now c.requires.verdict a.list.now a.name.now a.size a.time
    (rw (c.bad_name_or_time.ensures, c.geometry_in-g.ensures) at c.if-bad_name_or_time.false) c.in-Some.i c.in-Some.ensures c.in_err-length.ensures in
    rw (handed-on _ c.from_residual.ensures.1) record { answer_value = r.0; named = tt; list_after = r.1 }

pub returns : goal.returns
returns c =
    let a = c.args in
    let r = resize-found a.img.now c.requires.verdict a.list.now a.name.now a.size a.time
    (rw (c.bad_name_or_time.ensures, c.geometry_in-g.ensures) at c.if-bad_name_or_time.false) c.in-Some.i c.in-Some.ensures c.in_ok-length.ensures in
    let o = accepted-opened _ _ c.geometry_in-g.ensures (omega (arith, c.geometry_in-g.type_inv)) c.requires in
    let q = asked a.img.now _ o a.name.now c.in-Some.i c.in-Some.ensures c.requires c.size_at-old.result 0 c.size_at-old.ensures (omega arith) in record {
      answer_value = r.0;
      named = (
        ap (λ (p : Lowest). index_of p) c.in-Some.ensures,
        asked-spans a.img.now _ _ _ _ a.size q (resize-ends a.img.now c.geometry_in-g.result a.list.now c.in-Some.i c.size_at-old.result a.size a.time q c.in_ok-length.ensures refl),
      );
      list_after = r.1;
    }
