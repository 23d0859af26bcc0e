-- `write::need_for` meets its contract. One more extent is needed and no more than K are free, or not.
use Rattle.std.proofs.Common.{◌∙◌, ltb, get_or, arith}
use mathlib.Core.Path.{ap₂}
use Rattle.write.proofs.Laws.{held-is, more-is, next-below, room-full, room-left}
use Rattle.write.proofs.need_for.Goals.{else-more-via-then-more+else-stages-next, else-more-via-else-more}
use Rattle.write.proofs.need_for.Goals as goal

pub returns-then-stages-next-clause-lacking : goal.returns-then-stages-next-clause-lacking
returns-then-stages-next-clause-lacking c =
    let a = c.args in
    let r = c.requires in
    room-full a.img.now a.g r.opened r.img_value c.next_extent-next.result.0 (get_or a.stages.now 0 0) c.next_extent-next.ensures (r.stages_of.are 0) a.i.0 a.size a.z
    r.size_value (omega (arith, c.extents_for-held.ensures.value, c.extents_for.ensures.value, c.if-more.true)) c.if-stages-next.true

pub returns-clause-lacking : goal.returns-clause-lacking
returns-clause-lacking c =
    let a = c.args in
    let r = c.requires in
    room-left a.img.now a.g r.opened r.img_value c.next_extent-next.result.0 (get_or a.stages.now 0 0) c.next_extent-next.ensures (r.stages_of.are 0) a.i.0 a.size a.z
    r.size_value (λ m. elim c.else-more.branch [
      | else-more-via-then-more+else-stages-next w ↦ w.if-stages-next.false
      | else-more-via-else-more w ↦ absurd (omega (arith, m, c.extents_for-held.ensures.value, c.extents_for.ensures.value, w.if-more.false))
    ])

pub returns-clause-grown : goal.returns-clause-grown
returns-clause-grown c =
    let a = c.args in
    let r = c.requires in (
      record {
        extents = c.extents_for-held.ensures.value ∙ held-is a.img.now a.g r.opened a.i.0 a.size r.size_value;
        needs-one = ap₂ ltb c.extents_for-held.ensures.value c.extents_for.ensures.value ∙ more-is a.img.now a.g r.opened a.i.0 a.size a.z r.size_value;
        taken = c.next_extent-next.ensures;
      },
      next-below a.img.now a.g r.opened c.next_extent-next.result.0 c.next_extent-next.ensures,
    )
