-- `lacks_mark` of bytes meets its contract.
use Prim.Native.Nat.{ℕ, ◌+◌, ◌-◌, ◌≤◌}
use mathlib.Core.Path.{◌≡◌, ◌∙◌}
use mathlib.Core.List.{List}
use native.Mathlib.Omega.{arith}
use lib.Dec.{eqb}
use lib.ListN.{length, take, drop, get_or, length-take, length-drop}
use lib.Seq.{get_or-take, get_or-drop}
use Rattle.model.specs.Search.{any_below}
use Rattle.model.specs.Entry.{has_zero}
use Rattle.laws.proofs.Search.{any_below-ext}
use Rattle.allocation.proofs.U8Mark.lacks_mark.Goals as goal

zero-part : (s : List ℕ) (a n : ℕ) → a + n ≤ length s → has_zero (take n (drop a s)) ≡ any_below (λ k. eqb (get_or s (a + k) 0) 0) n
unfolding has_zero
zero-part s a n l =
    let w : length (take n (drop a s)) ≡ n = simp (length-take, length-drop) (omega arith) in
    rw w (any_below-ext (λ k. eqb (get_or (take n (drop a s)) k 0) 0) (λ k. eqb (get_or s (a + k) 0) 0) n (λ k h. rw (get_or-take, get_or-drop)))

pub returns : goal.returns
returns c =
    let a = c.args in
    c.has_zero.ensures ∙ zero-part a.s.now a.a (a.b - a.a) (omega arith)
