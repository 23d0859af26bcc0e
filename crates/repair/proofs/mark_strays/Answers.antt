-- `repair::mark_strays` meets its contract. The loop's invariant: the chains and the bytes are those of the extents passed.
use Prim.Native.Nat.{◌+◌, ◌/◌}
use mathlib.Core.Path.{◌≡◌, refl, ap, ◌∙◌}
use mathlib.Core.Bool.{Bool, cond}
use native.Mathlib.Omega.{arith}
use lib.Seq.{get_or-set_other}
use Rattle.model.specs.Search.{count_below}
use Rattle.model.specs.Disk.{view}
use Rattle.model.specs.Catalogue.{catalogue_of}
use Rattle.model.specs.Repair.{is_stray}
use Rattle.laws.proofs.Count.{count_below-le}
use Rattle.laws.proofs.Bytes.{set_next}
use Rattle.duplicates.proofs.Chains.{chains-none}
use Rattle.repair.proofs.Strays.{marked-is, bit-is, counted-next}
use Rattle.repair.proofs.mark_strays.Goals as goal

pub loop-e-init : goal.loop-e-init
unfolding count_below
loop-e-init c =
    let chained = chains-none _ _ _ _ (λ b l. ap (λ w. w / 65536) (c.requires.by_index b l)) in
    (chained, (λ k l. absurd (omega arith)), (λ k l. c.requires.by_index_2 k), refl)

pub overflow_add-found : goal.overflow_add-found
overflow_add-found c =
    let p = is_stray (catalogue_of (view c.args.img.now)) in
    let more = counted-next p c.loop-e.e c.loop-e.invariant.3 c.from-found.ensures c.is_stray-freed.ensures.value in
    omega (arith, more, count_below-le p (c.loop-e.e + 1))

pub loop-e-preserved : goal.loop-e-preserved
loop-e-preserved c =
    let l = c.loop-e in
    let k = c.is_stray-freed in
    let p = is_stray (catalogue_of (view c.args.img.now)) in
    let v = c.from.ensures ∙ bit-is _ ∙ ap (λ (b : Bool). cond b 1 0) k.ensures.value in (
      k.ensures.linked_2,
      set_next (λ e. cond (p e) 1 0) l.marks l.e c.from.result (omega arith) v l.invariant.1,
      (λ k b. get_or-set_other l.marks l.e k c.from.result 0 (λ e. omega arith) ∙ l.invariant.2 k (omega arith)),
      counted-next p l.e l.invariant.3 c.from-found.ensures k.ensures.value,
    )

pub returns-clause-marks_after : goal.returns-clause-marks_after
returns-clause-marks_after c =
    let l = c.loop-e in
    let a = c.args in
    let e : l.e ≡ a.g.extents = omega arith in
    marked-is (view a.img.now) a.g c.requires.opened.is l.marks (rw e at l.invariant.1) (λ k b. l.invariant.2 k (omega arith))
