-- `reading::list_in` meets its contract. The time is bad or the index is F or more, the entry is free, or it is listed.
use Rattle.std.proofs.Common.{arith, ap, sym}
use mathlib.Core.Path.{◌∙◌}
use Rattle.model.specs.declared.Geometry.{Geometry}
use Rattle.model.specs.Disk.{view}
use Rattle.laws.proofs.Judged.{accepted-opened, judged-sound}
use Rattle.laws.proofs.Named.{sound-name}
use Rattle.reading.proofs.ListAnswers.{list-wide, list-past, list-free, list-found}
use Rattle.reading.proofs.Clauses.{value_out_and_list}
use Rattle.reading.proofs.list_in.Goals.{then-bad_time-via-then-bad_time, then-bad_time-via-else-bad_time+then-g-index}
use Rattle.reading.proofs.list_in.Goals as goal

pub returns-then-bad_time : goal.returns-then-bad_time
returns-then-bad_time c =
    let a = c.args in
    elim c.then-bad_time.branch [
      | then-bad_time-via-then-bad_time w ↦ value_out_and_list (list-wide _ a.img.now a.out.now a.list.now a.index a.time c.requires.verdict c.geometry_in-g.result c.geometry_in-g.ensures
          (sym c.bad_time.ensures ∙ w.if-bad_time.true))
      | then-bad_time-via-else-bad_time+then-g-index w ↦ value_out_and_list (list-past _ a.img.now a.out.now a.list.now a.index a.time c.requires.verdict c.geometry_in-g.result
          c.geometry_in-g.ensures (sym c.bad_time.ensures ∙ w.if-bad_time.false) w.if-g-index.true)
    ]

pub returns-then-not-is_occupied : goal.returns-then-not-is_occupied
returns-then-not-is_occupied c =
    let a = c.args in value_out_and_list (list-free _ a.img.now a.out.now a.list.now a.index a.time c.requires.verdict c.geometry_in-g.result c.geometry_in-g.ensures
    (sym c.bad_time.ensures ∙ c.if-bad_time.false) c.if-g-index.false (sym c.is_occupied.ensures ∙ c.if-not-is_occupied.true))

pub list_entry-requires : goal.list_entry-requires
list_entry-requires c =
    let o = accepted-opened _ _ c.geometry_in-g.ensures (omega (arith, c.geometry_in-g.type_inv)) c.requires in
    let e = ap (λ (x : Geometry). x.files) c.geometry_in-g.ensures in
    let occupied = sym c.is_occupied.ensures ∙ c.if-not-is_occupied.false in
    let n = sound-name (view c.args.img.now) (judged-sound _ _ c.requires.verdict) c.args.index (omega arith) occupied in record {
      opened = o;
      i_lt_files = (omega arith, occupied, rw c.geometry_in-g.ensures n);
    }

pub returns : goal.returns
returns c =
    let a = c.args in
    let l = c.list_entry.ensures in value_out_and_list (list-found _ a.img.now a.out.now a.list.now a.index a.time c.requires.verdict c.geometry_in-g.result c.geometry_in-g.ensures
    (sym c.bad_time.ensures ∙ c.if-bad_time.false) c.if-g-index.false (sym c.is_occupied.ensures ∙ c.if-not-is_occupied.false) (l.value, (l.out_after, l.list_after)))
