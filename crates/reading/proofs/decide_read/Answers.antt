-- `reading::decide_read` meets its contract. Refused by the file's size or by what is lent, or the entry's access time is set, where the reserve is
-- there.
use Rattle.std.proofs.Common.{is_none, length, arith, ap, refl, sym}
use mathlib.Core.Path.{◌∙◌}
use Rattle.model.specs.Answers.{Verdict}
use Rattle.model.specs.Refusals.{done}
use Rattle.model.specs.Results.{verdict_for}
use Rattle.laws.proofs.Results.{handed-on}
use Rattle.reading.specs.Given.{file_verdict}
use Rattle.reading.proofs.Verdicts.{file-enough, refusing}
use Rattle.reading.proofs.ReadAnswers.{file-refused, file-done}
use Rattle.commit.proofs.Clauses.{value_and_list}
use Rattle.reading.proofs.decide_read.Goals as goal

pub returns-in_err-count : goal.returns-in_err-count
returns-in_err-count c =
    let x = c.args in
    let z = c.size_at-size in
    let t = c.staging-staging in
    rw (handed-on _ c.from_residual.ensures.1)
    (value_and_list (file-refused x.img.now x.list.now x.i.0 x.offset x.asked x.time x.room x.g c.requires.opened.is c.requires.i_lt_files.0 c.requires.i_lt_files.1 z.result z.ensures
    (is_none t.result) t.ensures.lacking (verdict_for c.in_err-count.field-0.0)
    (c.in_err-count.ensures.verdict ∙ ap (λ n. file_verdict z.result x.offset x.asked x.room n (length x.list.now)) c.access_size-listed.ensures)
    (refusing c.in_err-count.field-0.0)))

pub put_access-requires-clause-staging_in_bounds : goal.put_access-requires-clause-staging_in_bounds
put_access-requires-clause-staging_in_bounds c =
    let room = file-enough _ _ _ _ _ _ (ap (λ (v : Verdict). v.number) (sym c.in_ok-count.ensures.verdict)) in
    omega (arith, room.2, c.access_size-listed.ensures)

pub returns : goal.returns
returns c =
    let x = c.args in
    let z = c.size_at-size in
    let t = c.staging-staging in
    let a = c.access_size-listed in
    rw a.ensures
    (value_and_list (file-done x.img.now x.list.now x.i.0 x.offset x.asked x.time x.room x.g c.requires.opened.is c.requires.i_lt_files.0 c.requires.i_lt_files.1 z.result z.ensures
    (is_none t.result) t.ensures.lacking done
    (c.in_ok-count.ensures.verdict ∙ ap (λ n. file_verdict z.result x.offset x.asked x.room n (length x.list.now)) a.ensures)
    c.in_ok-count.count c.sector-target.result.0 refl c.in_ok-count.ensures.count c.accessed_entry-entry.ensures c.sector-target.ensures c.put_access.ensures))
