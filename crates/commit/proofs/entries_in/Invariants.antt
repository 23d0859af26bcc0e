-- `commit::entries_in` meets its contract. The loop's invariant: the first i entries are put in.
use mathlib.Core.Path.{◌≡◌}
use lib.ListN.{get_or}
use Rattle.model.specs.Journal.{entries_in}
use Rattle.model.specs.WriteList.{stage_in}
use Rattle.commit.proofs.entries_in.Given as goal

abbrev pub invariant-loop-i : goal.invariant-loop-i
invariant-loop-i l = l.a ≡ entries_in (stage_in l.g l.stages) (λ k. get_or l.numbers k 0) l.from l.i
