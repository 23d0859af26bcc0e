-- `repair::put_marked` meets its contract. The loop's invariant: those of the table sectors passed are staged.
use Rattle.model.specs.Search.{concatenated}
use Rattle.model.specs.Disk.{view}
use Rattle.model.specs.Freeing.{freed_sector}
use Rattle.commit.specs.Commit.{Added}
use Rattle.table.specs.Owned.{is_marked}
use Rattle.repair.proofs.put_marked.Given as goal

abbrev pub invariant-loop-t : goal.invariant-loop-t
invariant-loop-t l = Added l.g l.stages l.initial.numbers l.initial.list 0 (concatenated (freed_sector (is_marked l.marks) l.g (view l.img)) 0 l.t) l.numbers l.list l.j
