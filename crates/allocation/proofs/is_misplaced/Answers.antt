-- `allocation::is_misplaced` meets its contract. Each test is one of fault 25's.
use borrow.Author.Tests.{eq-eqb, ne_eqb, lt-ltb, le-ltb}
use Rattle.model.specs.Disk.{view}
use Rattle.allocation.proofs.Misplaced.{fault25-on}
use Rattle.allocation.proofs.is_misplaced.Goals as goal
use Rattle.allocation.proofs.is_misplaced.Goals.{then-f-g, else-f-g}

pub returns-after-f-g : goal.returns-after-f-g
returns-after-f-g c =
    let a = c.args in
    rw (fault25-on (view a.img.now) a.g c.requires.opened.is a.e.0 c.requires.e_lt_extents, ← c.table_file-f.ensures.value, ne_eqb _ _ c.if-f-ne-FREE_FILE.true)
    (elim c.if-f-g.branch [
      | then-f-g w ↦ rw (w.result-is, lt-ltb _ _ w.if-f-g.true, ← w.is_occupied.ensures)
      | else-f-g w ↦ rw (w.result-is, le-ltb _ _ w.if-f-g.false)
    ])

pub returns-else-f-ne-FREE_FILE : goal.returns-else-f-ne-FREE_FILE
returns-else-f-ne-FREE_FILE c =
    let a = c.args in
    rw (fault25-on (view a.img.now) a.g c.requires.opened.is a.e.0 c.requires.e_lt_extents, ← c.table_file-f.ensures.value, eq-eqb _ _ c.if-f-ne-FREE_FILE.false)
