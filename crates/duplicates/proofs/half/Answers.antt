-- `duplicates::half` meets its contract.
use borrow.Author.Rules.{rules}
use Rattle.duplicates.specs.Keys.{half_at}
use Rattle.duplicates.proofs.half.Goals as goal

pub returns-clause-value : goal.returns-clause-value
unfolding half_at
returns-clause-value c = search rules
