-- `queries::list` meets its contract. The judgement refuses, or `reading::list_in` gives the answer, the output and the list.
use Rattle.std.proofs.Common.{length, sym, ap}
use Rattle.model.specs.Answers.{Verdict}
use Rattle.model.specs.Disk.{view}
use Rattle.laws.proofs.Judged.{accepted, judged-own}
use Rattle.laws.proofs.Results.{handed-on}
use Rattle.reading.proofs.Verdicts.{refusing}
use Rattle.reading.proofs.ListAnswers.{lists-same, list-judged}
use Rattle.reading.proofs.Clauses.{value_out_and_list}
use Rattle.queries.proofs.list.Goals as goal

pub returns-in_err-judge : goal.returns-in_err-judge
returns-in_err-judge c =
    let a = c.args in
    rw (handed-on _ c.from_residual.ensures.1)
    (value_out_and_list (list-judged (length c.args.img.now) a.img.now a.out.now a.list.now a.index a.time _ c.in_err-judge.ensures (refusing c.in_err-judge.field-0.0)))

pub list_in-requires : goal.list_in-requires
list_in-requires c = accepted _ (ap (λ (v : Verdict). v.number) (sym c.in_ok-judge.ensures))

pub returns : goal.returns
returns c =
    let a = c.args in
    let l = length c.args.img.now in
    value_out_and_list (lists-same l a.img.now a.out.now a.list.now a.index a.time _ (judged-own l (view a.img.now) (ap (λ (v : Verdict). v.number) (sym c.in_ok-judge.ensures)))
    (c.list_in.ensures.value, (c.list_in.ensures.out_after, c.list_in.ensures.list_after)))
