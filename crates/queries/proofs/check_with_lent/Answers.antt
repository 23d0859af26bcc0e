-- `queries::check_with_lent` meets its contract. The verdict is the judgement's.
use Rattle.model.specs.Scratch.{check_with_answer}
use Rattle.queries.proofs.check_with_lent.Goals as goal

pub returns : goal.returns
unfolding check_with_answer
returns c = record {
  value = rw (← c.judge_with_lent.ensures.value);
  scratch_after = c.judge_with_lent.ensures.scratch_after;
}
