-- `queries::check_lent` meets its contract. The verdict is the judgement's.
use Rattle.model.specs.Summary.{check_answer}
use Rattle.queries.proofs.check_lent.Goals as goal

pub returns : goal.returns
unfolding check_answer
returns c = rw (← c.judge_lent.ensures)
