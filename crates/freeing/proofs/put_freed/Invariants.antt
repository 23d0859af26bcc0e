-- `freeing::put_freed` meets its contract. The loop's invariant: those of the table sectors passed are staged.
use Rattle.model.specs.Search.{concatenated}
use Rattle.model.specs.Disk.{view}
use Rattle.model.specs.Freeing.{freed_sector}
use Rattle.commit.specs.Commit.{Added}
use Rattle.table.specs.Owned.{owned_in}
use Rattle.freeing.proofs.put_freed.Given as goal

abbrev pub invariant-loop-t : goal.invariant-loop-t
invariant-loop-t l = Added l.g l.stages l.initial.numbers l.initial.list l.k (concatenated (freed_sector (owned_in l.img l.i.0 l.o) l.g (view l.img)) 0 l.t) l.numbers l.list l.j
