-- `carry_out::put_records` meets its contract. The loop's invariant: the records passed are written.
use mathlib.Core.Path.{◌≡◌}
use Rattle.model.specs.Search.{tabulate}
use Rattle.model.specs.WriteList.{stored}
use Rattle.model.specs.CarryOut.{record_in}
use Rattle.carry_out.proofs.put_records.Given as goal

abbrev pub invariant-loop-k : goal.invariant-loop-k
invariant-loop-k l = l.img ≡ stored (tabulate (record_in l.list) 0 l.k) l.initial.img
