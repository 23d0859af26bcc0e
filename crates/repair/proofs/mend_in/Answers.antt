-- `repair::mend_in` meets its contract.
use Prim.Native.Nat.{ℕ}
use mathlib.Core.Path.{ap, ◌∙◌}
use mathlib.Core.Bool.{Bool}
use native.Mathlib.Omega.{arith}
use Rattle.model.specs.Table.{sectors_holding}
use Rattle.model.specs.WriteList.{record_count}
use Rattle.repair.proofs.Decisions.{mends-none, mends-some, mends-short, mends-frozen}
use Rattle.repair.proofs.mend_in.Goals as goal

pub returns-then-freed-eq0 : goal.returns-then-freed-eq0
returns-then-freed-eq0 c = mends-none _ _ c.requires.opened.is _ _ c.mark_strays-freed.ensures.value _ c.table_fault-remaining.ensures c.if-freed-eq0.true

pub returns-in_default : goal.returns-in_default
returns-in_default c =
    mends-frozen _ _ c.requires.opened.is _ _ c.mark_strays-freed.ensures.value _ c.table_fault-remaining.ensures c.if-freed-eq0.false c.in_default.ensures.lacking

pub returns-then-list-needed : goal.returns-then-list-needed
returns-then-list-needed c =
    let k = c in
    let e = c.records_for-needed.ensures ∙ ap (record_count 0) k.marked_sectors-sectors.ensures.value in
    let strays = ap (λ (p : ℕ → Bool). record_count 0 (sectors_holding p k.args.g)) k.mark_strays-freed.ensures.marks_after in
    mends-short _ _ k.requires.opened.is _ _ k.mark_strays-freed.ensures.value _ k.table_fault-remaining.ensures k.if-freed-eq0.false k.in-Some.ensures.lacking
    (omega (arith, e, strays, c.if-list-needed.true))

pub returns : goal.returns
returns c =
    let k = c in
    let e = c.records_for-needed.ensures ∙ ap (record_count 0) k.marked_sectors-sectors.ensures.value in
    let strays = ap (λ (p : ℕ → Bool). record_count 0 (sectors_holding p k.args.g)) k.mark_strays-freed.ensures.marks_after in
    mends-some _ _ k.requires.opened.is _ _ k.mark_strays-freed.ensures.value _ k.table_fault-remaining.ensures k.if-freed-eq0.false _ k.in-Some.ensures.lacking
    (omega (arith, e, strays)) (omega (arith, c.if-list-needed.false)) c.put_repair.ensures
