-- `queries::find_lent` meets its contract. The judgement refuses, or `reading::find_in` gives the answer.
use Rattle.std.proofs.Common.{sym, ap}
use Rattle.model.specs.Answers.{Verdict}
use Rattle.model.specs.Find.{found_by, find_answer}
use Rattle.laws.proofs.Judged.{lent-accepted}
use Rattle.laws.proofs.Results.{refused, handed-on}
use Rattle.queries.proofs.find_lent.Goals as goal

pub returns-in_err-judge_lent : goal.returns-in_err-judge_lent
unfolding find_answer found_by
returns-in_err-judge_lent c = rw (handed-on _ c.from_residual.ensures.1, ← c.in_err-judge_lent.ensures, refused c.in_err-judge_lent.field-0.0, refused c.in_err-judge_lent.field-0.0)

pub find_in-requires : goal.find_in-requires
find_in-requires c = lent-accepted _ _ (ap (λ (v : Verdict). v.number) (sym c.in_ok-judge_lent.ensures))

pub returns : goal.returns
unfolding find_answer
returns c = rw (← c.in_ok-judge_lent.ensures) c.find_in.ensures
