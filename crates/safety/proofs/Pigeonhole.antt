-- The pigeonhole principle: m different numbers below n are fewer than n if some number below n is not among them. So the extents that a
-- file has are fewer than the volume's where one of these is free. Assumes nothing.
use Prim.Native.Nat.{ℕ, zero, suc, ◌+◌, ◌≤◌, ◌<◌}
use mathlib.Core.Path.{◌≡◌, refl, ap, ◌∙◌}
use mathlib.Core.Logic.{◌≢◌}
use mathlib.Core.Bool.{Bool, true, false, cond, ◌||◌}
use native.Mathlib.Omega.{arith}
use native.Mathlib.Nat.{not-suc-le-zero}
use lib.Dec.{eqb}
use borrow.Author.Tests.{eqb-true, eqb-false, ne_eqb}
use Rattle.model.specs.Search.{any_below, count_below}
use Rattle.laws.proofs.Search.{any_below-no, count_below-ext}
use Rattle.safety.proofs.Searches.{count_below-le}

pub count_below-add : (p : ℕ → Bool) (a n : ℕ) → p a ≡ false → a < n → count_below (λ e. eqb e a || p e) n ≡ suc (count_below p n)
unfolding count_below
count_below-add p a zero h l = absurd (not-suc-le-zero l)
count_below-add p a (suc n) h l = go (eqb n a) refl (count_below-add p a n h)
  where
    go : (b : Bool) → eqb n a ≡ b → (a < n → count_below (λ e. eqb e a || p e) n ≡ suc (count_below p n))
        → cond (b || p n) 1 0 + count_below (λ e. eqb e a || p e) n ≡ suc (cond (p n) 1 0 + count_below p n)
    go true q t =
        let e : n ≡ a = eqb-true n a q in
        let z : ◌≡◌ {A = ℕ} (cond (p n) 1 0) 0 = ap (λ (b : Bool). cond b 1 0) (ap p e ∙ h) in
        let r : count_below (λ x. eqb x a || p x) n ≡ count_below p n = count_below-ext (λ x. eqb x a || p x) p n (λ k u. ap (λ (b : Bool). b || p k) (ne_eqb k a (λ y. omega arith))) in
        omega arith
    go false q t =
        let ne : n ≢ a = eqb-false n a q in
        let r : count_below (λ x. eqb x a || p x) n ≡ suc (count_below p n) = t (omega arith) in
        omega arith

none-count : (m : ℕ) → count_below (λ e. false) m ≡ 0
unfolding count_below
none-count zero = refl
none-count (suc m) = let h : count_below (λ e. false) m ≡ 0 = none-count m in omega arith

-- e is one of f 0, .., f (m - 1)
abbrev among : (ℕ → ℕ) → ℕ → ℕ → Bool
among f m e = any_below (λ k. eqb e (f k)) m

abbrev Different : (ℕ → ℕ) → ℕ → Type 0
Different f m = (j k : ℕ) → j < m → k < m → f j ≡ f k → j ≡ k

among-count : (f : ℕ → ℕ) (m n : ℕ) → ((k : ℕ) → k < m → f k < n) → Different f m → count_below (among f m) n ≡ m
unfolding any_below
among-count f zero n low d = none-count n
among-count f (suc m) n low d =
    count_below-add (among f m) (f m) n (any_below-no (λ k. eqb (f m) (f k)) m (λ k l. ne_eqb (f m) (f k) (λ e. let q : m ≡ k = d m k (omega arith) (omega arith) e in omega arith)))
    (low m (omega arith))
    ∙ ap suc (among-count f m n (λ k l. low k (omega arith)) (λ j k u v e. d j k (omega arith) (omega arith) e))

pub pigeonhole : (f : ℕ → ℕ) (m n x : ℕ) → ((k : ℕ) → k < m → f k < n) → ((j k : ℕ) → j < m → k < m → f j ≡ f k → j ≡ k) → ((k : ℕ) → k < m → x ≢ f k) → x < n → m < n
pigeonhole f m n x low d out b =
    let e : count_below (among f m) n ≡ m = among-count f m n low d in
    let q : count_below (λ k. eqb k x || among f m k) n ≡ suc (count_below (among f m) n) = count_below-add (among f m) x n (any_below-no (λ k. eqb x (f k)) m (λ k l. ne_eqb x (f k) (out k l))) b in
    let l : count_below (λ k. eqb k x || among f m k) n ≤ n = count_below-le (λ k. eqb k x || among f m k) n in
    omega arith
