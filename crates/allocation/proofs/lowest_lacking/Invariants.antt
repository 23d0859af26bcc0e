-- `allocation::lowest_lacking` meets its contract. The loop's invariant: the search has passed the files below i.
use Rattle.laws.proofs.Seeking.{Seeking}
use Rattle.allocation.specs.Marks.{lacks}
use Rattle.allocation.proofs.lowest_lacking.Given as goal

abbrev pub invariant-loop-i : goal.invariant-loop-i
invariant-loop-i g l = Seeking (lacks (g.S.Start.numbers l.starts) (g.M.Mark.numbers l.seen)) l.m l.i
