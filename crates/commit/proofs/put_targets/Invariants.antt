-- `commit::put_targets` meets its contract. The loop's invariant: the first j targets are emitted, with their copies' contents.
use Prim.Native.Nat.{◌+◌}
use Rattle.model.specs.WriteList.{Emitted}
use Rattle.commit.specs.Commit.{staged_targets}
use Rattle.commit.proofs.put_targets.Given as goal

abbrev pub invariant-loop-j : goal.invariant-loop-j
invariant-loop-j l = Emitted l.initial.list l.k (staged_targets l.initial.list l.from l.numbers l.j) l.list (l.k + l.j)
