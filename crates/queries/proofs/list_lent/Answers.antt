-- `queries::list_lent` meets its contract. The judgement refuses, or `reading::list_in` gives the answer, the output and the list.
use Rattle.std.proofs.Common.{length, sym, ap}
use Rattle.model.specs.Answers.{Verdict}
use Rattle.model.specs.Disk.{view}
use Rattle.model.specs.Lent.{lent_length}
use Rattle.laws.proofs.Judged.{lent-accepted, judged-own}
use Rattle.laws.proofs.Results.{handed-on}
use Rattle.reading.proofs.Verdicts.{refusing}
use Rattle.reading.proofs.ListAnswers.{lists-same, list-judged}
use Rattle.reading.proofs.Clauses.{value_out_and_list}
use Rattle.queries.proofs.list_lent.Goals as goal

pub returns-in_err-judge_lent : goal.returns-in_err-judge_lent
returns-in_err-judge_lent c =
    let a = c.args in
    let l = lent_length (length a.front.now) a.count (view a.front.now) in
    rw (handed-on _ c.from_residual.ensures.1)
    (value_out_and_list (list-judged l a.front.now a.out.now a.list.now a.index a.time _ c.in_err-judge_lent.ensures (refusing c.in_err-judge_lent.field-0.0)))

pub list_in-requires : goal.list_in-requires
list_in-requires c = lent-accepted _ _ (ap (λ (v : Verdict). v.number) (sym c.in_ok-judge_lent.ensures))

pub returns : goal.returns
returns c =
    let a = c.args in
    let l = lent_length (length c.args.front.now) c.args.count (view c.args.front.now) in
    value_out_and_list (lists-same l a.front.now a.out.now a.list.now a.index a.time _ (judged-own l (view a.front.now) (ap (λ (v : Verdict). v.number) (sym c.in_ok-judge_lent.ensures)))
    (c.list_in.ensures.value, (c.list_in.ensures.out_after, c.list_in.ensures.list_after)))
