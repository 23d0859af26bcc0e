-- `repair::put_repair` meets its contract.
use Prim.Native.Nat.{ℕ}
use mathlib.Core.Path.{sym, ap, ◌∙◌}
use mathlib.Core.Bool.{Bool}
use native.Mathlib.Omega.{arith}
use Rattle.model.specs.Disk.{view}
use Rattle.model.specs.Freeing.{freed_sectors}
use Rattle.commit.proofs.Laws.{added-committed}
use Rattle.repair.specs.Mending.{plan_for}
use Rattle.repair.proofs.Planned.{repair-targets, repair-alone}
use Rattle.repair.proofs.put_repair.Goals as goal

pub returns : goal.returns
returns c =
    let a = c.args in
    let s = c.requires in
    let d = view a.img.now in
    let f = c.put_marked-n.ensures in
    let targets = ap (λ (p : ℕ → Bool). freed_sectors p a.g d) s.marks_value.0 ∙ sym (repair-targets d a.g s.opened.is) in
    added-committed d (plan_for a.img.now) f.added c.put_commit.ensures.emitted s.opened.is s.stages_of targets (repair-alone d a.g s.opened.is)
    (omega (arith, f.value.0, s.record_size_in_bounds))
