-- `reading::find_in` meets its contract. The name is bad, no file has the name, or the file is found.
use Rattle.std.proofs.Common.{arith, ap, sym}
use mathlib.Core.Path.{◌∙◌}
use Rattle.model.specs.declared.Geometry.{Geometry}
use Rattle.model.specs.Disk.{view}
use Rattle.model.specs.Find.{found_by}
use Rattle.laws.proofs.Judged.{accepted-opened}
use Rattle.laws.proofs.Named.{named-at, named-entry, short-name}
use Rattle.reading.proofs.Verdicts.{find-bad, find-missing, find-done}
use Rattle.reading.proofs.find_in.Goals as goal

pub returns-then-bad_name : goal.returns-then-bad_name
unfolding found_by
returns-then-bad_name c =
    let h = rw c.geometry_in-g.ensures at (sym c.bad_name.ensures ∙ c.if-bad_name.true) in
    rw (find-bad (view c.args.img.now) c.args.name.now h)

pub file_named-requires : goal.file_named-requires
file_named-requires c = record {
  opened = accepted-opened _ _ c.geometry_in-g.ensures (omega arith) c.requires;
  name_len_bound = short-name _ _ (sym c.bad_name.ensures ∙ c.if-bad_name.false);
}

pub returns-in_default : goal.returns-in_default
unfolding found_by
returns-in_default c =
    let good = rw c.geometry_in-g.ensures at (sym c.bad_name.ensures ∙ c.if-bad_name.false) in
    rw (find-missing (view c.args.img.now) c.args.name.now good (sym c.file_named.ensures ∙ c.in_default.is))

pub fields_at-fields-requires : goal.fields_at-fields-requires
fields_at-fields-requires c =
    let o = accepted-opened _ _ c.geometry_in-g.ensures (omega (arith, c.geometry_in-g.type_inv)) c.requires in
    let h = named-at (view c.args.img.now) c.args.name.now c.in-Some.i (sym (sym c.file_named.ensures ∙ c.in-Some.is)) in
    let e = ap (λ (x : Geometry). x.files) o.is in
    omega arith

pub returns : goal.returns
unfolding found_by
returns c =
    let a = c.args in
    let g = c.geometry_in-g.ensures in
    let h = sym c.file_named.ensures ∙ c.in-Some.is in
    let good = rw g at (sym c.bad_name.ensures ∙ c.if-bad_name.false) in
    rw (
      find-done (view a.img.now) a.name.now c.in-Some.i good h,
      h,
      named-entry (view a.img.now) a.name.now _ (sym h),
      ← rw g at c.fields_at-fields.ensures,
    )
