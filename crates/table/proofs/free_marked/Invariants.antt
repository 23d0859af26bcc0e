-- `table::free_marked` meets its contract. The loop's invariant: the entries passed are freed where they are marked.
use mathlib.Core.Path.{◌≡◌}
use lib.ListN.{length}
use Rattle.model.specs.Table.{freed_in}
use Rattle.table.specs.Owned.{is_marked}
use Rattle.table.proofs.free_marked.Given as goal

abbrev pub invariant-loop-k : goal.invariant-loop-k
invariant-loop-k l = (l.s ≡ freed_in (is_marked l.marks) l.initial.s l.k) × (length l.s ≡ 512)
