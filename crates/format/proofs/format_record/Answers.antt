-- `format::format_record` meets its contract. The record, or refusal 14, 9 or 8.
use borrow.Author.Rules.{rules}
use mathlib.Core.Path.{refl, sym, ◌∙◌}
use Rattle.model.specs.Format.{Format}
use Rattle.format.proofs.Laws.{refused-8, refused-9, refused-14, accepted, bounded}
use Rattle.format.proofs.format_record.Goals as goal

pub record_count-requires : goal.record_count-requires
record_count-requires c = bounded _ _ _ (sym c.can_format.ensures ∙ c.if-not-can_format.false) (search rules)

pub put_record-requires-clause-bounded : goal.put_record-requires-clause-bounded
put_record-requires-clause-bounded c = bounded _ _ _ (sym c.can_format.ensures ∙ c.if-not-can_format.false) (search rules)

pub returns-then-not-can_format : goal.returns-then-not-can_format
returns-then-not-can_format c =
    let s = c.args in
    let a : Format = record { sectors = s.sectors; files = s.files; edition = s.edition; id = s.id; mode = s.mode; time = s.time } in
    let g = c.geometry_for-g in
    let r = refused-8 a s.position s.out.now g.result g.ensures (sym c.can_format.ensures ∙ c.if-not-can_format.true) in record {
      value = r.0;
      out_after = r.1;
    }

pub returns-then-record_count-position : goal.returns-then-record_count-position
returns-then-record_count-position c =
    let s = c.args in
    let a : Format = record { sectors = s.sectors; files = s.files; edition = s.edition; id = s.id; mode = s.mode; time = s.time } in
    let g = c.geometry_for-g in
    let r = refused-9 a s.position s.out.now g.result g.ensures (sym c.can_format.ensures ∙ c.if-not-can_format.false) (search rules) in record {
      value = r.0;
      out_after = r.1;
    }

pub returns-then-out-lt-RECORD_SIZE : goal.returns-then-out-lt-RECORD_SIZE
returns-then-out-lt-RECORD_SIZE c =
    let s = c.args in
    let a : Format = record { sectors = s.sectors; files = s.files; edition = s.edition; id = s.id; mode = s.mode; time = s.time } in
    let g = c.geometry_for-g in
    let r = refused-14 a s.position s.out.now g.result g.ensures (sym c.can_format.ensures ∙ c.if-not-can_format.false) (search rules) (search rules) in record {
      value = r.0;
      out_after = r.1;
    }

pub returns : goal.returns
returns c =
    let s = c.args in
    let a : Format = record { sectors = s.sectors; files = s.files; edition = s.edition; id = s.id; mode = s.mode; time = s.time } in
    let g = c.geometry_for-g in
    let r = accepted a s.position s.out.now g.result g.ensures (sym c.can_format.ensures ∙ c.if-not-can_format.false) (search rules) (search rules) in record {
      value = r.0;
      out_after = c.put_record.ensures a refl refl refl ∙ r.1;
    }
