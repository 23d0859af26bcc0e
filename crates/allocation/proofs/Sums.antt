-- Laws of sums: over indexes, and of counts by value. Assumes nothing.
use Prim.Native.Nat.{ℕ, zero, suc, ◌+◌, ◌≤◌, ◌<◌}
use mathlib.Core.Path.{◌≡◌, refl, ap, ◌∙◌}
use mathlib.Core.Logic.{⊎_elim}
use mathlib.Core.Bool.{Bool, true, false, ◌&&◌}
use native.Mathlib.Numerals.{add-one}
use native.Mathlib.Nat.{eq-or-lt_of_le, le_of_suc-le-suc}
use native.Mathlib.Omega.{arith}
use lib.Dec.{eqb, ltb}
use borrow.Author.Tests.{lt-ltb, le-ltb, eqb-true, eqb-false, ltb-true, ltb-false}
use Rattle.model.specs.Search.{count_below}
use Rattle.laws.proofs.Search.{any_below-no}
use Rattle.laws.proofs.Count.{count_below-none, count_below-split}
use Rattle.allocation.specs.Marks.{bit, sum_to}

pub sum_to-next : (h : ℕ → ℕ) (i : ℕ) → sum_to h (i + 1) ≡ h i + sum_to h i
unfolding sum_to
sum_to-next h i = rw (add-one i)

pub sum_to-step : (h : ℕ → ℕ) (i j : ℕ) → i < j → sum_to h i + h i ≤ sum_to h j
unfolding sum_to
sum_to-step h i zero l = absurd (omega arith)
sum_to-step h i (suc j) l =
    ⊎_elim (λ (e : i ≡ j). rw e (omega arith)) (λ (s : i < j). omega (arith, sum_to-step h i j s)) (eq-or-lt_of_le (le_of_suc-le-suc l))

pub sum_to-mono : (h k : ℕ → ℕ) (m : ℕ) → ((i : ℕ) → i < m → h i ≤ k i) → sum_to h m ≤ sum_to k m
unfolding sum_to
sum_to-mono h k zero f = omega arith
sum_to-mono h k (suc m) f = omega (arith, f m (omega arith), sum_to-mono h k m (λ i l. f i (omega arith)))

pub sum_to-ones : (h : ℕ → ℕ) (c : ℕ) → ((o : ℕ) → o < c → h o ≡ 1) → sum_to h c ≡ c
unfolding sum_to
sum_to-ones h zero f = refl
sum_to-ones h (suc c) f = omega (arith, f c (omega arith), sum_to-ones h c (λ o l. f o (omega arith)))

-- one more value: equal to c, or below it
split-value : (b : Bool) (x c : ℕ) → bit (b && ltb x (suc c)) ≡ bit (b && eqb x c) + bit (b && ltb x c)
split-value false x c = refl
split-value true x c = go (eqb x c) refl (ltb x c) refl
  where
    go : (u : Bool) → eqb x c ≡ u → (v : Bool) → ltb x c ≡ v → bit (ltb x (suc c)) ≡ bit (eqb x c) + bit (ltb x c)
    go true s true t = absurd (omega (arith, eqb-true x c s, ltb-true x c t))
    go true s false t = rw (s, t, lt-ltb x (suc c) (omega (arith, eqb-true x c s)))
    go false s true t = rw (s, t, lt-ltb x (suc c) (omega (arith, ltb-true x c t)))
    go false s false t = rw (s, t, le-ltb x (suc c) (let w : c ≤ x = ltb-false x c t in let d : (x ≡ c) → ⊥ = eqb-false x c s in omega (arith, d)))

none_below : (x : ℕ) (b : Bool) → (b && ltb x 0) ≡ false
none_below x true = le-ltb x 0 (omega arith)
none_below x false = refl

-- those of value below c are those of value 0, of 1, .. and of c - 1
pub by_value : (q : ℕ → Bool) (v : ℕ → ℕ) (n c : ℕ) → count_below (λ e. q e && ltb (v e) c) n ≡ sum_to (λ o. count_below (λ e. q e && eqb (v e) o) n) c
unfolding sum_to
by_value q v n zero = count_below-none _ n (any_below-no _ n (λ j l. none_below (v j) (q j)))
by_value q v n (suc c) =
    count_below-split (λ e. q e && ltb (v e) (suc c)) (λ e. q e && eqb (v e) c) (λ e. q e && ltb (v e) c) n (λ e. split-value (q e) (v e) c)
    ∙ ap (λ (k : ℕ). count_below (λ e. q e && eqb (v e) c) n + k) (by_value q v n c)
