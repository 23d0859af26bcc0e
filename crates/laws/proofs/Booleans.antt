-- Laws of Booleans and of tests of numbers. Assumes nothing.
use Prim.Native.Nat.{ℕ, ◌≤◌, ◌<◌, max}
use mathlib.Core.Path.{◌≡◌, refl, sym, ap, ◌∙◌}
use mathlib.Core.Bool.{Bool, true, false, cond, not, ◌&&◌, ◌||◌, true≢false, false≢true}
use native.Mathlib.Omega.{arith}
use lib.Dec.{eqb, leb, ltb}
use borrow.Author.Tests.{eq-eqb, ne_eqb, eqb-true, eqb-false, le-leb, lt-leb, lt-ltb, leb-true, ltb-true, ltb-false}
-- the definitions' own proofs need it too
pub use Rattle.model.proofs.Areas.{and-true}

pub and_left : (a b : Bool) → (a && b) ≡ true → a ≡ true
and_left true b e = refl
and_left false b e = e

pub and_right : (a b : Bool) → (a && b) ≡ true → b ≡ true
and_right true b e = e
and_right false b e = absurd (false≢true e)

pub and_yes : (a b : Bool) → a ≡ true → b ≡ true → (a && b) ≡ true
and_yes a b e f = rw (e, f)

pub and-false : (b : Bool) → (b && false) ≡ false
and-false true = refl
and-false false = refl

pub or_left : (a b : Bool) → a ≡ true → (a || b) ≡ true
or_left a b e = rw e

pub or_right : (a b : Bool) → b ≡ true → (a || b) ≡ true
or_right true b e = refl
or_right false b e = e

pub cond_same {ℓ} : {A : Type ℓ} (b : Bool) (x : A) → cond b x x ≡ x
cond_same true x = refl
cond_same false x = refl

pub or-false : (b : Bool) → (b || false) ≡ b
or-false true = refl
or-false false = refl

pub not-and : (a b : Bool) → not (a && b) ≡ (not a || not b)
not-and true b = refl
not-and false b = refl

pub not-leb : (a b : ℕ) → not (leb a b) ≡ ltb b a
not-leb a b = go (ltb b a) refl
  where
    go : (t : Bool) → ltb b a ≡ t → not (leb a b) ≡ ltb b a
    go true e = ap not (lt-leb a b (ltb-true b a e)) ∙ sym e
    go false e = ap not (le-leb a b (ltb-false b a e)) ∙ sym e

-- a number from a to b - 1
pub range-yes : (a b j : ℕ) → a ≤ j → j < b → (leb a j && ltb j b) ≡ true
range-yes a b j p q = and_yes (leb a j) (ltb j b) (le-leb a j p) (lt-ltb j b q)

pub range-no : (a b j : ℕ) → (a ≤ j → j < b → ⊥) → (leb a j && ltb j b) ≡ false
range-no a b j h = go (leb a j) (ltb j b) refl refl
  where
    go : (x y : Bool) → leb a j ≡ x → ltb j b ≡ y → (x && y) ≡ false
    go true true e f = absurd (h (leb-true a j e) (ltb-true j b f))
    go true false e f = refl
    go false y e f = refl

pub or-none : (a b : Bool) → (a || b) ≡ false → (a ≡ false) × (b ≡ false)
or-none true b e = absurd (true≢false e)
or-none false b e = (refl, e)

-- the greater is 0 if both are
pub max-zero : (m u : ℕ) → eqb (max m u) 0 ≡ (eqb u 0 && eqb m 0)
max-zero m u = go (eqb u 0) refl (eqb m 0) refl
  where
    go : (a : Bool) → eqb u 0 ≡ a → (b : Bool) → eqb m 0 ≡ b → eqb (max m u) 0 ≡ (a && b)
    go true p true q = eq-eqb (max m u) 0 (omega (arith, eqb-true u 0 p, eqb-true m 0 q))
    go true p false q =
        let n : (m ≡ 0) → ⊥ = eqb-false m 0 q in
        ne_eqb (max m u) 0 (λ e. omega arith)
    go false p b q =
        let n : (u ≡ 0) → ⊥ = eqb-false u 0 p in
        ne_eqb (max m u) 0 (λ e. omega arith)
