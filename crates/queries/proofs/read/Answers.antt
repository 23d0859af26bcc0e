-- `queries::read` meets its contract. The judgement refuses, or `reading::read_in` gives the answer, the output and the list.
use Rattle.std.proofs.Common.{length, sym, ap, arith}
use Rattle.model.specs.Answers.{Verdict}
use Rattle.model.specs.Disk.{view}
use Rattle.laws.proofs.Refusals.{image-fits}
use Rattle.laws.proofs.Judged.{judged-image, accepted, judged-own}
use Rattle.laws.proofs.Results.{handed-on}
use Rattle.reading.proofs.Verdicts.{refusing}
use Rattle.reading.proofs.ReadAnswers.{read-judged, gives_none, gives_same}
use Rattle.reading.proofs.Clauses.{value_out_and_list}
use Rattle.queries.proofs.read.Goals as goal

pub returns-in_err-judge : goal.returns-in_err-judge
returns-in_err-judge c =
    let a = c.args in
    rw (handed-on _ c.from_residual.ensures.1)
    (value_out_and_list (gives_none (length a.img.now) a.img.now a.out.now a.list.now a.name.now a.offset a.count a.time _
    (read-judged (length a.img.now) a.img.now a.list.now a.name.now a.offset a.count a.time (length a.out.now) _ c.in_err-judge.ensures (refusing c.in_err-judge.field-0.0))))

pub read_in-requires : goal.read_in-requires
read_in-requires c =
    let ok = ap (λ (v : Verdict). v.number) (sym c.in_ok-judge.ensures) in
    let f = image-fits _ _ (judged-image _ _ ok) in record {
      accepted = accepted _ ok;
      superblock_at_in_bounds = omega (arith, f.1);
    }

pub returns : goal.returns
returns c =
    let a = c.args in
    let ok = ap (λ (v : Verdict). v.number) (sym c.in_ok-judge.ensures) in
    value_out_and_list (gives_same (length a.img.now) a.img.now a.out.now a.list.now a.name.now a.offset a.count a.time _
    (judged-own (length a.img.now) (view a.img.now) ok) (c.read_in.ensures.value, (c.read_in.ensures.out_after, c.read_in.ensures.list_after)))
