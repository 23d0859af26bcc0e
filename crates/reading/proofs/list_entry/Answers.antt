-- `reading::list_entry` meets its contract. A buffer is too short, or the name is copied and the root's access time set, where the reserve is there.
use Rattle.std.proofs.Common.{is_none, length, arith, ap, refl, sym}
use mathlib.Core.Path.{◌∙◌}
use Rattle.model.specs.Answers.{Verdict}
use Rattle.model.specs.Geometry.{entry_at}
use Rattle.model.specs.Disk.{view}
use Rattle.model.specs.Refusals.{done}
use Rattle.model.specs.Results.{verdict_for}
use Rattle.laws.proofs.Named.{name-length-of}
use Rattle.laws.proofs.Results.{handed-on}
use Rattle.reading.specs.Given.{lent_verdict}
use Rattle.reading.proofs.Verdicts.{lent-enough, refusing}
use Rattle.reading.proofs.ListAnswers.{entry-refused, entry_done}
use Rattle.reading.proofs.Clauses.{value_out_and_list}
use Rattle.reading.proofs.list_entry.Goals as goal

pub returns-in_err-lent_verdict : goal.returns-in_err-lent_verdict
returns-in_err-lent_verdict c =
    let a = c.args in
    let f = c.fields_at-fields in
    let t = c.staging-staging in
    rw (handed-on _ c.from_residual.ensures.1)
    (value_out_and_list (entry-refused a.img.now a.out.now a.list.now a.i.0 a.time a.g c.requires.opened.is c.requires.i_lt_files.0 c.requires.i_lt_files.1 f.result f.ensures
    (is_none t.result) t.ensures.lacking (verdict_for c.in_err-lent_verdict.field-0.0)
    (c.in_err-lent_verdict.ensures ∙ ap (λ n. lent_verdict f.result.name_length (length a.out.now) n (length a.list.now)) c.access_size-listed.ensures)
    (refusing c.in_err-lent_verdict.field-0.0)))

pub copy_name-requires-clause-n_value : goal.copy_name-requires-clause-n_value
copy_name-requires-clause-n_value c =
    let f = c.fields_at-fields in
    let n = name-length-of c.args.g.edition (view c.args.img.now (entry_at c.args.i.0)) f.result f.ensures in
    let room = lent-enough _ _ _ _ (ap (λ (v : Verdict). v.number) (sym c.in_ok-lent_verdict.ensures)) in
    (n, omega (arith, n, c.requires.i_lt_files.2), room.0)

pub put_access-requires-clause-staging_in_bounds : goal.put_access-requires-clause-staging_in_bounds
put_access-requires-clause-staging_in_bounds c =
    let room = lent-enough _ _ _ _ (ap (λ (v : Verdict). v.number) (sym c.in_ok-lent_verdict.ensures)) in
    omega (arith, room.1, c.access_size-listed.ensures)

pub returns : goal.returns
returns c =
    let a = c.args in
    let f = c.fields_at-fields in
    let t = c.staging-staging in
    let z = c.access_size-listed in
    rw z.ensures
    (value_out_and_list (entry_done a.img.now a.out.now a.list.now a.i.0 a.time a.g c.requires.opened.is c.requires.i_lt_files.0 c.requires.i_lt_files.1 f.result f.ensures
    (is_none t.result) t.ensures.lacking done
    (c.in_ok-lent_verdict.ensures ∙ ap (λ n. lent_verdict f.result.name_length (length a.out.now) n (length a.list.now)) z.ensures)
    refl c.copy_name.ensures c.accessed_root-root.ensures c.put_access.ensures))
