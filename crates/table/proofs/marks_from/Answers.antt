-- `table::marks_from` meets its contract. The loop's invariant: the entries passed are marked.
use Rattle.std.proofs.Common.{rules, arith, ℕ, ◌+◌, ◌*◌, ◌≡◌, Bool, true, false, cond, ap, refl, ◌∙◌}
use Rattle.std.specs.Int.{from_bool}
use Rattle.laws.proofs.Bytes.{set_next}
use Rattle.table.specs.Owned.{owned_in}
use Rattle.table.proofs.marks_from.Goals as goal

bit : (b : Bool) → from_bool b ≡ cond b 1 0
bit true = refl
bit false = refl

pub loop-k-init : goal.loop-k-init
loop-k-init c = ((λ k l. absurd (omega arith)), search rules)

pub loop-k-preserved : goal.loop-k-preserved
loop-k-preserved c =
    let l = c.loop-k in
    let a = c.args in
    let h : ℕ → Bool = owned_in a.img.now a.i.0 a.o in
    let hit : c.owned_from-hit.result ≡ h (128 * a.t + l.k) = c.owned_from-hit.ensures ∙ ap h c.table_extent.ensures in
    let v = c.from.ensures ∙ bit c.owned_from-hit.result ∙ ap (λ (b : Bool). cond b 1 0) hit in
    (set_next (λ k. cond (h (128 * a.t + k)) 1 0) l.marks l.k c.from.result (search rules) v l.invariant.0, search rules)
