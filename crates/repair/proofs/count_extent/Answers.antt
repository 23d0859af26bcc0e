-- `repair::count_extent` meets its contract. A freed extent counts for no file, and one of no file too.
use native.Mathlib.Omega.{arith}
use borrow.Author.Tests.{eq-eqb, ne_eqb}
use Rattle.model.specs.Disk.{view}
use Rattle.laws.proofs.Count.{count_below-le}
use Rattle.table.specs.Owned.{is_marked}
use Rattle.repair.specs.Strays.{keeps}
use Rattle.repair.proofs.Kept.{kept-freed, kept-none, kept-one}
use Rattle.repair.proofs.count_extent.Goals as goal

pub returns-then-marks-e-eq1 : goal.returns-then-marks-e-eq1
returns-then-marks-e-eq1 c = kept-freed _ _ _ _ _ c.requires.kept (eq-eqb _ 1 c.if-marks-e-eq1.true)

pub overflow_add-kept : goal.overflow_add-kept
overflow_add-kept c =
    let a = c.args in
    let f = c.table_file-f.result in
    let few = count_below-le (keeps a.g (view a.img.now) (is_marked a.marks.now) f) a.e in
    omega (arith, c.requires.kept f c.if-f-g.true, few, c.requires.opened.bounded.extents-high)

pub returns-then-f-g : goal.returns-then-f-g
returns-then-f-g c =
    let f = c.table_file-f in
    kept-one _ _ _ _ _ c.requires.kept (ne_eqb _ 1 c.if-marks-e-eq1.false) f.result f.ensures.value c.if-f-g.true (omega arith)

pub returns-else-f-g : goal.returns-else-f-g
returns-else-f-g c = kept-none _ _ _ _ _ c.requires.kept (omega (arith, c.table_file-f.ensures.value, c.if-f-g.false))
