-- `repair::put_marked_sector` meets its contract. The sector holds an extent that is freed, or none.
use Prim.Native.Nat.{ℕ, ◌+◌, ◌-◌, ◌*◌, ◌<◌}
use mathlib.Core.Path.{◌≡◌, sym, ◌∙◌}
use mathlib.Core.List.{List}
use native.Mathlib.Omega.{arith}
use lib.ListN.{take, drop}
use lib.Seq.{get_or-take, get_or-drop}
use Rattle.model.specs.Disk.{view}
use Rattle.laws.proofs.Freeing.{freed-miss}
use Rattle.commit.proofs.Laws.{added_none}
use Rattle.table.specs.Owned.{is_marked}
use Rattle.freeing.proofs.Laws.{marked-sector}
use Rattle.repair.proofs.put_marked_sector.Goals as goal

part-marked : (marks : List ℕ) (from n k : ℕ) → k < n → is_marked (take n (drop from marks)) k ≡ is_marked marks (from + k)
part-marked marks from n k l = rw (get_or-take, get_or-drop)

pub returns-then-not-holds_marked : goal.returns-then-not-holds_marked
returns-then-not-holds_marked c =
    rw (freed-miss _ _ _ _ (sym c.holds_marked.ensures ∙ c.if-not-holds_marked.true)) (added_none _ _ _ _ _)

pub returns : goal.returns
returns c =
    let a = c.args in
    let at : ℕ = 128 * a.t in
    let n : ℕ = (at + 128) - at in
    let part : List ℕ = take n (drop at a.marks.now) in
    let held = sym c.holds_marked.ensures ∙ c.if-not-holds_marked.false in
    rw (sym (marked-sector (is_marked a.marks.now) a.g (view a.img.now) part a.t held (λ k l. part-marked a.marks.now at n k (omega arith)))) c.put_freed_sector.ensures
