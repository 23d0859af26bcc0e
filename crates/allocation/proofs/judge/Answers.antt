-- `allocation::judge` meets its contract. Each return is a law of what one more extent changes.
use mathlib.Core.Path.{sym, ◌∙◌}
use native.Mathlib.Omega.{arith}
use borrow.Author.Tests.{eqb-true, eqb-false}
use Rattle.model.specs.Disk.{view}
use Rattle.allocation.proofs.Marks.{range, mark-later, past, again, new}
use Rattle.allocation.proofs.Misplaced.{fault-met}
use Rattle.allocation.proofs.Passes.{one-placed}
use Rattle.allocation.proofs.judge.Goals as goal

pub returns-else-is_misplaced : goal.returns-else-is_misplaced
returns-else-is_misplaced g c =
    let a = c.args in
    let d = view a.img.now in
    one-placed a.g d a.e.0 a.m a.m _ (sym c.is_misplaced.ensures ∙ c.if-is_misplaced.false)
    (mark-later a.g d a.e.0 a.m _ c.requires.marks _ c.table_file-f.ensures.value c.if-m-f.true) (omega arith)

pub overflow_add-p : goal.overflow_add-p
overflow_add-p g c =
    let a = c.args in
    let r = range a.g (view a.img.now) a.m c.table_file-f.result _ c.requires.starts c.if-m-f.false in
    omega arith

pub returns-else-is_misplaced-2 : goal.returns-else-is_misplaced-2
returns-else-is_misplaced-2 g c =
    let a = c.args in
    let d = view a.img.now in
    one-placed a.g d a.e.0 a.m c.table_file-f.result _ (sym c.is_misplaced-then-start-p.ensures ∙ c.if-is_misplaced-2.false)
    (past a.g d a.e.0 a.m _ c.requires.marks _ c.table_file-f.ensures.value _ c.table_offset.ensures.value _ c.requires.starts c.if-m-f.false (omega arith)) (omega arith)

pub is_marked-requires : goal.is_marked-requires
is_marked-requires g c =
    let a = c.args in
    let r = range a.g (view a.img.now) a.m c.table_file-f.result _ c.requires.starts c.if-m-f.false in
    omega (arith, c.requires.marks.size)

pub returns-then-is_marked : goal.returns-then-is_marked
returns-then-is_marked g c =
    let a = c.args in
    let d = view a.img.now in
    let f = c.table_file-f.ensures.value in
    let o = c.table_offset.ensures.value in
    let l = c.if-m-f.false in
    let s = c.requires.starts in
    one-placed a.g d a.e.0 a.m c.table_file-f.result _
    (sym (fault-met d a.g c.requires.opened.is a.e.0 _ a.m c.table_offset.result _ c.requires.e_lt_extents f c.requires.opened.bounded.files-high s l (omega arith)))
    (again a.g d a.e.0 a.m _ c.requires.marks _ f _ o _ s l (omega arith) (rw c.start.ensures at (eqb-true _ _ (sym c.is_marked.ensures ∙ c.if-is_marked.true)))) (omega arith)

pub put_mark-requires : goal.put_mark-requires
put_mark-requires g c =
    let a = c.args in
    let r = range a.g (view a.img.now) a.m c.table_file-f.result _ c.requires.starts c.if-m-f.false in
    omega (arith, c.requires.marks.size)

pub returns : goal.returns
returns g c =
    let a = c.args in
    let d = view a.img.now in
    let f = c.table_file-f.ensures.value in
    let o = c.table_offset.ensures.value in
    let l = c.if-m-f.false in
    let s = c.requires.starts in
    one-placed a.g d a.e.0 a.m a.m _
    (sym (fault-met d a.g c.requires.opened.is a.e.0 _ a.m c.table_offset.result _ c.requires.e_lt_extents f c.requires.opened.bounded.files-high s l (omega arith)))
    (rw (c.put_mark.ensures, c.start.ensures)
    (new a.g d a.e.0 a.m _ c.requires.marks _ f _ o _ s l (omega arith) (rw c.start.ensures at (eqb-false _ _ (sym c.is_marked.ensures ∙ c.if-is_marked.false))))) (omega arith)
