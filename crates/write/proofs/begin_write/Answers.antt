-- `write::begin_write` meets its contract. The name or the time is bad, or the bytes are too many; no file has the name; the write is refused, or done.
use Rattle.std.proofs.Common.{◌≡◌, ◌+◌, ◌||◌, ltb, length, true, false, refl, sym, ap, arith}
use Rattle.std.proofs.lemmas.Grind.{common_steps}
use Rattle.model.specs.Search.{Lowest, is_at, index_of}
use Rattle.model.specs.Read.{longest_transfer}
use Rattle.laws.proofs.Judged.{accepted-opened}
use Rattle.laws.proofs.Results.{handed-on}
use Rattle.commit.proofs.Decided.{named-short}
use Rattle.spans.proofs.Sources.{span-own}
use Rattle.write.proofs.Laws.{file-below, asked, write-bad, write-missing, write-found}
use Rattle.write.proofs.Lent.{asked-spans, write-ends}
use Rattle.write.proofs.begin_write.Goals as goal

pub returns-then-bad_name_or_time : goal.returns-then-bad_name_or_time
returns-then-bad_name_or_time c =
    let a = c.args in
    let bad : (c.bad_name_or_time.result || ltb longest_transfer (length a.bytes.now)) ≡ true = grind (arith, common_steps) in
    let r = write-bad a.img.now c.requires.verdict a.list.now a.name.now a.offset a.bytes.now a.time (rw (c.bad_name_or_time.ensures, c.geometry_in-g.ensures) at bad) in
    record { answer_value = r.0; named = tt; list_after = r.1 }

pub file_named-requires : goal.file_named-requires
file_named-requires c = record {
  opened = accepted-opened _ _ c.geometry_in-g.ensures (omega arith) c.requires;
  name_len_bound = named-short c.geometry_in-g.result.edition _ c.args.time (rw c.bad_name_or_time.ensures at c.if-bad_name_or_time.false);
}

pub returns-in_default : goal.returns-in_default
returns-in_default c =
    let a = c.args in
    let good : (c.bad_name_or_time.result || ltb longest_transfer (length a.bytes.now)) ≡ false = grind (arith, common_steps) in
    let r = write-missing a.img.now c.requires.verdict a.list.now a.name.now a.offset a.bytes.now a.time
    (rw (c.bad_name_or_time.ensures, c.geometry_in-g.ensures) at good) (ap is_at (sym c.in_default.ensures)) in
    record { answer_value = r.0; named = tt; list_after = r.1 }

pub size_at-size-requires : goal.size_at-size-requires
size_at-size-requires c =
    let o = accepted-opened _ _ c.geometry_in-g.ensures (omega (arith, c.geometry_in-g.type_inv)) c.requires in
    omega (arith, o.held, file-below c.args.img.now _ o c.args.name.now c.in-Some.i c.in-Some.ensures)

pub write_file-requires-clause-asked : goal.write_file-requires-clause-asked
write_file-requires-clause-asked c =
    let o = accepted-opened _ _ c.geometry_in-g.ensures (omega (arith, c.geometry_in-g.type_inv)) c.requires in
    asked c.args.img.now _ o c.args.name.now c.in-Some.i c.in-Some.ensures c.requires c.size_at-size.result _ c.size_at-size.ensures c.if-len-gt-LONGEST_TRANSFER.false

pub returns-in_err-length : goal.returns-in_err-length
returns-in_err-length c =
    let a = c.args in
    let good : (c.bad_name_or_time.result || ltb longest_transfer (length a.bytes.now)) ≡ false = grind (arith, common_steps) in
    let r = write-found a.img.now c.requires.verdict a.list.now a.name.now a.offset a.bytes.now a.time
    (rw (c.bad_name_or_time.ensures, c.geometry_in-g.ensures) at good) c.in-Some.i c.in-Some.ensures (rw (span-own a.bytes.now _ refl) at c.in_err-length.ensures) in
    rw (handed-on _ c.from_residual.ensures.1) record { answer_value = r.0; named = tt; list_after = r.1 }

pub returns : goal.returns
returns c =
    let a = c.args in
    let end = a.offset + length a.bytes.now in
    let good : (c.bad_name_or_time.result || ltb longest_transfer (length a.bytes.now)) ≡ false = grind (arith, common_steps) in
    let w = rw (span-own a.bytes.now _ refl) at c.in_ok-length.ensures in
    let r = write-found a.img.now c.requires.verdict a.list.now a.name.now a.offset a.bytes.now a.time
    (rw (c.bad_name_or_time.ensures, c.geometry_in-g.ensures) at good) c.in-Some.i c.in-Some.ensures w in
    let o = accepted-opened _ _ c.geometry_in-g.ensures (omega (arith, c.geometry_in-g.type_inv)) c.requires in
    let q = asked a.img.now _ o a.name.now c.in-Some.i c.in-Some.ensures c.requires c.size_at-size.result _ c.size_at-size.ensures c.if-len-gt-LONGEST_TRANSFER.false in record {
      answer_value = r.0;
      named = (
        ap (λ (p : Lowest). index_of p) c.in-Some.ensures,
        asked-spans a.img.now _ _ _ _ end q (write-ends a.img.now c.geometry_in-g.result a.list.now c.in-Some.i c.size_at-size.result a.offset a.bytes.now a.time q w refl),
      );
      list_after = r.1;
    }
