-- Laws of `count`, and of how long a list by index is. Assumes nothing.
use Prim.Native.Nat.{ℕ, zero, suc, ◌+◌, ◌≤◌, ◌<◌}
use mathlib.Core.Path.{◌≡◌, refl, sym, ap, ◌∙◌}
use mathlib.Core.Logic.{◌≢◌, ⊎_elim}
use mathlib.Core.Bool.{Bool, true, false, cond, true≢false}
use mathlib.Core.List.{List, [], ◌∷◌, ◌++◌, append-nil}
use native.Mathlib.Nat.{eq-or-lt_of_le, le_of_suc-le-suc}
use native.Mathlib.Omega.{arith}
use lib.ListN.{length, length-append}
use Rattle.model.specs.Search.{any_below, count_below, concatenated}
use Rattle.laws.proofs.Booleans.{or-none}
use Rattle.laws.proofs.Search.{count_below-ext}

abbrev bit : Bool → ℕ
bit b = cond b 1 0

bit_le : (b : Bool) → bit b ≤ 1
bit_le true = omega arith
bit_le false = omega arith

module _ (p : ℕ → Bool) where
  pub count_below-le : (n : ℕ) → count_below p n ≤ n
  unfolding count_below
  count_below-le zero = omega arith
  count_below-le (suc n) = omega (arith, count_below-le n, bit_le (p n))

  -- a prefix counts no more than the whole
  pub count_below-mono : (m n : ℕ) → m ≤ n → count_below p m ≤ count_below p n
  unfolding count_below
  count_below-mono m zero h = let z : m ≡ 0 = omega arith in rw z (omega arith)
  count_below-mono m (suc n) h =
      ⊎_elim (λ (e : m ≡ suc n). rw e (omega arith)) (λ (l : m < suc n). omega (arith, count_below-mono m n (le_of_suc-le-suc l))) (eq-or-lt_of_le h)

  -- a stretch in which none passes
  pub count_below-over : (t u : ℕ) → t ≤ u → ((s : ℕ) → t ≤ s → s < u → p s ≡ false) → count_below p u ≡ count_below p t
  unfolding count_below
  count_below-over t zero h e = let z : t ≡ 0 = omega arith in rw z
  count_below-over t (suc u) h e =
      ⊎_elim (λ (q : t ≡ suc u). rw q)
      (λ (l : t < suc u).
      let r = count_below-over t u (omega arith) (λ s a b. e s a (omega arith)) in
      rw (e u (omega arith) (omega arith)) (omega arith))
      (eq-or-lt_of_le h)

  pub count_below-none : (n : ℕ) → any_below p n ≡ false → count_below p n ≡ 0
  unfolding count_below any_below
  count_below-none zero e = refl
  count_below-none (suc n) e = let b = or-none (p n) (any_below p n) e in rw b.0 (omega (arith, count_below-none n b.1))

  pub count_below-any_below : (n : ℕ) → any_below p n ≡ true → 0 < count_below p n
  unfolding count_below any_below
  count_below-any_below zero e = absurd (true≢false (sym e))
  count_below-any_below (suc n) e = go (p n) refl (count_below-any_below n)
    where
      go : (b : Bool) → p n ≡ b → (any_below p n ≡ true → 0 < count_below p n) → 0 < bit (p n) + count_below p n
      go true t ih = rw t (omega arith)
      go false t ih = omega (arith, ih (rw t at e))

pub count_below-split : (a b c : ℕ → Bool) (n : ℕ) → ((e : ℕ) → bit (a e) ≡ bit (b e) + bit (c e)) → count_below a n ≡ count_below b n + count_below c n
unfolding count_below
count_below-split a b c zero h = refl
count_below-split a b c (suc n) h = omega (arith, h n, count_below-split a b c n h)

-- a test that holds at a and else where another does
pub count_below-new : (p q : ℕ → Bool) (a n : ℕ) → a < n → p a ≡ false → q a ≡ true → ((k : ℕ) → k ≢ a → q k ≡ p k) → count_below q n ≡ suc (count_below p n)
unfolding count_below
count_below-new p q a zero l f t h = absurd (omega arith)
count_below-new p q a (suc n) l f t h =
    ⊎_elim
    (λ (e : a ≡ n).
    let z : count_below q n ≡ count_below p n = count_below-ext q p n (λ k r. h k (λ s. omega arith)) in
    rw (← e, t, f, e) (omega arith))
    (λ (r : a < n).
    let z = count_below-new p q a n r f t h in
    rw (h n (λ s. omega arith)) (omega arith))
    (eq-or-lt_of_le (le_of_suc-le-suc l))

-- ---- lists made by index

-- how many elements there are, where each index gives one or none
pub length-concatenated {ℓ} : {A : Type ℓ} (f : ℕ → List A) (p : ℕ → Bool) (n : ℕ) → ((k : ℕ) → length (f k) ≡ cond (p k) 1 0) → length (concatenated f 0 n) ≡ count_below p n
unfolding concatenated count_below
length-concatenated f p zero h = refl
length-concatenated f p (suc n) h =
    let z : 0 + n ≡ n = omega arith in
    length-append (concatenated f 0 n) (f (0 + n)) ∙ rw z (omega (arith, h n, length-concatenated f p n h))

-- a part of such a list is no longer than all of it
pub concatenated-room {ℓ} : {A : Type ℓ} (f : ℕ → List A) (a i n : ℕ) → i < n → length (concatenated f a i) + length (f (a + i)) ≤ length (concatenated f a n)
unfolding concatenated
concatenated-room f a i zero h = absurd (omega arith)
concatenated-room f a i (suc n) h =
    rw (length-append (concatenated f a n) (f (a + n)))
    (⊎_elim (λ (e : i ≡ n). rw e (omega arith)) (λ (r : i < n). omega (arith, concatenated-room f a i n r)) (eq-or-lt_of_le (le_of_suc-le-suc h)))

no-elements {ℓ} : {A : Type ℓ} (x : List A) → length x ≡ 0 → x ≡ []
no-elements [] e = refl
no-elements (y ∷ x) e = absurd (omega arith)

-- a part that is as long as all of it is all of it
pub concatenated-full {ℓ} : {A : Type ℓ} (f : ℕ → List A) (a t n : ℕ) → t ≤ n → length (concatenated f a n) ≤ length (concatenated f a t) → concatenated f a n ≡ concatenated f a t
unfolding concatenated
concatenated-full f a t zero h l = let z : t ≡ 0 = omega arith in rw z
concatenated-full f a t (suc n) h l = ⊎_elim (λ (e : t ≡ suc n). rw e) (before (concatenated-full f a t n)) (eq-or-lt_of_le h)
  where
    before : (t ≤ n → length (concatenated f a n) ≤ length (concatenated f a t) → concatenated f a n ≡ concatenated f a t) → t < suc n → (concatenated f a n ++ f (a + n)) ≡ concatenated f a t
    before shorter s =
        let le : t ≤ n = omega arith in
        let sum : length (concatenated f a n ++ f (a + n)) ≡ length (concatenated f a n) + length (f (a + n)) = length-append (concatenated f a n) (f (a + n)) in
        let more : length (concatenated f a t) ≤ length (concatenated f a n) = ⊎_elim (λ (e : t ≡ n). rw e (omega arith)) (λ (r : t < n). omega (arith, concatenated-room f a t n r))
        (eq-or-lt_of_le le) in
        ap (λ x. concatenated f a n ++ x) (no-elements (f (a + n)) (omega arith)) ∙ append-nil (concatenated f a n) ∙ shorter le (omega arith)
