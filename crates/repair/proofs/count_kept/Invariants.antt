-- `repair::count_kept` meets its contract. The loop's invariant: the extents passed are counted.
use Rattle.model.specs.Disk.{view}
use Rattle.table.specs.Owned.{is_marked}
use Rattle.repair.specs.Strays.{Kept}
use Rattle.repair.proofs.count_kept.Given as goal

abbrev pub invariant-loop-e : goal.invariant-loop-e
invariant-loop-e l = Kept l.g (view l.img) (is_marked l.marks) l.e l.kept
