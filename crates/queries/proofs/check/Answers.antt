-- `queries::check` meets its contract. The verdict is the judgement's.
use Rattle.model.specs.Summary.{check_answer}
use Rattle.queries.proofs.check.Goals as goal

pub returns : goal.returns
unfolding check_answer
returns c = rw (← c.judge.ensures)
