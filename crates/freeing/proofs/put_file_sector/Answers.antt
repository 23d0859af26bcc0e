-- `freeing::put_file_sector` meets its contract. The sector holds an extent that is freed, or none.
use Prim.Native.Nat.{◌+◌, ◌*◌}
use mathlib.Core.Path.{sym, ◌∙◌}
use Rattle.model.specs.Disk.{view}
use Rattle.laws.proofs.Freeing.{freed-miss}
use Rattle.commit.proofs.Laws.{added_none}
use Rattle.table.specs.Owned.{owned_in}
use Rattle.table.proofs.Laws.{marks-are}
use Rattle.freeing.proofs.Laws.{marked-sector}
use Rattle.freeing.proofs.put_file_sector.Goals as goal

pub returns-then-holds_from : goal.returns-then-holds_from
returns-then-holds_from c =
    let a = c.args in
    let p = owned_in a.img.now a.i.0 a.o in
    let held = sym c.holds_from.ensures ∙ c.if-holds_from.true in
    let marks = c.marks_from-marks in
    let same = marks-are (λ k. p (128 * a.t + k)) 128 marks.result marks.ensures in
    rw (sym (marked-sector p a.g (view a.img.now) marks.result a.t held same)) c.put_freed_sector.ensures

pub returns-else-holds_from : goal.returns-else-holds_from
returns-else-holds_from c =
    let a = c.args in
    let none = sym c.holds_from.ensures ∙ c.if-holds_from.false in
    rw (freed-miss (owned_in a.img.now a.i.0 a.o) a.g (view a.img.now) a.t none) (added_none _ _ _ _ _)
