-- `lacks_mark` of numbers meets its contract.
use Prim.Native.Nat.{ℕ, ◌+◌, ◌-◌, ◌≤◌, min}
use mathlib.Core.Path.{◌≡◌, ap, ◌∙◌}
use mathlib.Core.List.{List}
use native.Mathlib.Omega.{arith}
use lib.Dec.{eqb}
use lib.ListN.{length, take, drop, get_or, length-take, length-drop}
use lib.Seq.{get_or-take, get_or-drop}
use Rattle.std.proofs.Common.{rules}
use Rattle.std.proofs.lemmas.Iterator.{YieldsList-from_slice}
use Rattle.std.proofs.lemmas.Iterator.Consumers.{fold_from_yields_List}
use Rattle.model.specs.Search.{any_below}
use Rattle.laws.proofs.Search.{any_below-ext}
use Rattle.fields.proofs.Slices.{zero_at, least-one}
use Rattle.allocation.proofs.U32Mark.lacks_mark.Goals as goal

zero-part : (s : List ℕ) (a n : ℕ) → a + n ≤ length s → any_below (zero_at (take n (drop a s))) (length (take n (drop a s))) ≡ any_below (λ k. eqb (get_or s (a + k) 0) 0) n
zero-part s a n l =
    let w : length (take n (drop a s)) ≡ n = simp (length-take, length-drop) (omega arith) in
    rw w (any_below-ext (λ k. eqb (get_or (take n (drop a s)) k 0) 0) (λ k. eqb (get_or s (a + k) 0) 0) n (λ k h. rw (get_or-take, get_or-drop)))

pub returns : goal.returns
returns c =
    let a = c.args in
    let part = take (a.b - a.a) (drop a.a a.s.now) in
    ap (λ (n : ℕ). eqb n 0) (fold_from_yields_List _ min 1 _ c.fold.ensures.ran (YieldsList-from_slice part cc) (λ x y b q k. search rules))
    ∙ least-one part ∙ zero-part a.s.now a.a (a.b - a.a) (omega arith)
