-- `commit::put_targets_alone` meets its contract. The loop's invariant: the targets passed are staged.
use Prim.Native.Nat.{ℕ, ◌+◌, ◌*◌, ◌≤◌}
use mathlib.Core.Path.{◌≡◌, refl, ap, ◌∙◌}
use mathlib.Core.List.{List, [], map}
use native.Mathlib.Omega.{arith}
use lib.ListN.{length, take, length-replicate}
use lib.Seq.{take_all}
use Rattle.std.proofs.lemmas.List.{take_more, map-append}
use Rattle.model.specs.declared.Sector.{Sector}
use Rattle.model.specs.Disk.{view}
use Rattle.model.specs.WriteList.{Plan, record_size}
use Rattle.commit.proofs.Laws.{added_none, added_then, added-copy, added-committed}
use Rattle.commit.proofs.put_targets_alone.Goals as goal
use Rattle.commit.proofs.put_targets_alone.Invariants.{target_write}

pub loop-sector-init : goal.loop-sector-init
loop-sector-init g c = (added_none _ _ _ _ _, length-replicate {A = ℕ} g.row.N 0, refl)

pub loop-sector-preserved : goal.loop-sector-preserved
loop-sector-preserved g c =
    let l = c.loop-sector in
    let p = c.put_copy-k.ensures in
    let targets = c.args.targets.now in
    let none : Sector × List ℕ = (record { 0 = 0 }, []) in
    let more : map target_write (take (l.sector-index + 1) targets) ≡ _ =
    ap (map target_write) (take_more targets l.sector-index none (omega (arith, c.told-targets))) ∙ map-append target_write (take l.sector-index targets) _ in
    (rw more (added_then l.invariant.0 (added-copy p.emitted p.numbers_after (omega arith))), omega arith, omega arith)

pub returns : goal.returns
returns g c =
    let a = c.args in
    let l = c.loop-sector in
    let whole : take l.sector-index a.targets.now ≡ a.targets.now = take_all l.sector-index a.targets.now (omega (arith, c.told-targets)) in
    let p : Plan = record { data_sectors = []; targets = map target_write a.targets.now } in
    let room : l.k * record_size ≤ length a.list.now = omega arith in
    added-committed (view a.img.now) p (rw whole at l.invariant.0) c.put_commit.ensures.emitted c.requires.opened.is c.requires.stages_of refl refl room
