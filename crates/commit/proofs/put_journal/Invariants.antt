-- `commit::put_journal` meets its contract. The loop's invariant: the first j journal sectors are emitted.
use Prim.Native.Nat.{◌+◌}
use Rattle.model.specs.Search.{tabulate}
use Rattle.model.specs.WriteList.{Emitted}
use Rattle.commit.proofs.Turns.{journal_record}
use Rattle.commit.proofs.put_journal.Given as goal

abbrev pub invariant-loop-j : goal.invariant-loop-j
invariant-loop-j l = Emitted l.initial.list l.k (tabulate (journal_record l.g l.stages l.numbers l.n) 0 l.j) l.list (l.k + l.j)
