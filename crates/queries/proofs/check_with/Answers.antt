-- `queries::check_with` meets its contract. The verdict is the judgement's.
use Rattle.model.specs.Scratch.{check_with_answer}
use Rattle.queries.proofs.check_with.Goals as goal

pub returns : goal.returns
unfolding check_with_answer
returns c = record {
  value = rw (← c.judge_with.ensures.value);
  scratch_after = c.judge_with.ensures.scratch_after;
}
