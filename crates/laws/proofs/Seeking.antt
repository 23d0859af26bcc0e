-- A counting loop as a search, and a search that goes on where an earlier one ended. Assumes nothing.
use Prim.Native.Nat.{ℕ, zero, suc, ◌+◌, ◌-◌, ◌≤◌, ◌<◌}
use mathlib.Core.Path.{◌≡◌, refl, sym, ap, ◌∙◌}
use mathlib.Core.Bool.{Bool, true, false, cond, ◌||◌, true≢false}
use native.Mathlib.Nat.{add-zero}
use native.Mathlib.Omega.{arith}
use Rattle.std.specs.Prelude.{Some, None}
use Rattle.model.specs.Search.{Lowest, scan, first, is_at, any_below}
use Rattle.laws.proofs.Search.{scan-here, scan-next, scan-end}

pub at-nowhere : {i : ℕ} → Some i ≡ None → ⊥
at-nowhere e = true≢false (ap is_at e)

-- ---- a loop that has passed the indexes below i in search of p

pub record Seeking (p : ℕ → Bool) (n i : ℕ) : Type 0 where
  pub within : i ≤ n
  pub rest : scan p (n - i) i ≡ first p n

pub seek-start : {p : ℕ → Bool} {n : ℕ} → Seeking p n 0
seek-start = record { within = omega arith; rest = refl }

module _ {p : ℕ → Bool} {n i : ℕ} (S : Seeking p n i) where
  pub seek-here : i < n → p i ≡ true → Some i ≡ first p n
  seek-here l e = sym (scan-here p n i l e) ∙ S.rest

  pub seek-next : i < n → p i ≡ false → Seeking p n (i + 1)
  seek-next l e = record { within = omega arith; rest = sym (scan-next p n i l e) ∙ S.rest }

  pub seek-end : n ≤ i → None ≡ first p n
  seek-end l = sym (scan-end p n i l) ∙ S.rest

-- ---- a search in two parts

abbrev pub or_found : Lowest → Lowest → Lowest
or_found (Some i) r = Some i
or_found None r = r

or-cond : (b : Bool) (i : ℕ) (r s : Lowest) → cond b (Some i) (or_found r s) ≡ or_found (cond b (Some i) r) s
or-cond true i r s = refl
or-cond false i r s = refl

pub or-nowhere : (r : Lowest) → or_found r None ≡ r
or-nowhere (Some i) = refl
or-nowhere None = refl

is-or : (r : Lowest) (b : Bool) (i : ℕ) → (b || is_at r) ≡ is_at (or_found r (cond b (Some i) None))
is-or (Some k) true i = refl
is-or (Some k) false i = refl
is-or None true i = refl
is-or None false i = refl

module _ (p : ℕ → Bool) where
  scan-append : (a b i : ℕ) → scan p (a + b) i ≡ or_found (scan p a i) (scan p b (i + a))
  unfolding scan
  scan-append zero b i = rw add-zero (ap (λ n. scan p n i) (let z : 0 + b ≡ b = omega arith in z))
  scan-append (suc a) b i =
      let s : suc a + b ≡ suc (a + b) = omega arith in
      let t : i + suc a ≡ suc i + a = omega arith in
      rw (s, t) (ap (λ r. cond (p i) (Some i) r) (scan-append a b (suc i)) ∙ or-cond (p i) i (scan p a (suc i)) (scan p b (suc i + a)))

  -- one index more
  pub first-suc : (n : ℕ) → first p (suc n) ≡ or_found (first p n) (cond (p n) (Some n) None)
  unfolding scan
  first-suc n =
      let s : suc n - 0 ≡ n - 0 + 1 = omega arith in
      let z : 0 + (n - 0) ≡ n = omega arith in
      rw (s, scan-append (n - 0) 1 0, z)

  -- the test holds somewhere: the search finds
  pub any_below-first : (n : ℕ) → any_below p n ≡ is_at (first p n)
  unfolding any_below scan
  any_below-first zero = refl
  any_below-first (suc n) = ap (λ b. p n || b) (any_below-first n) ∙ is-or (first p n) (p n) n ∙ ap is_at (sym (first-suc n))

  module _ (m n : ℕ) where
    -- what is found below m stays found
    pub first_found : (i : ℕ) → m ≤ n → first p m ≡ Some i → first p n ≡ Some i
    first_found i l e =
        let s : n - 0 ≡ m - 0 + (n - m) = omega arith in
        rw (s, scan-append (m - 0) (n - m) 0, e)

    -- a test that holds at m is found there, if not earlier
    pub first-there : m < n → first p m ≡ None → p m ≡ true → first p n ≡ Some m
    unfolding scan
    first-there l e t =
        let s : n - 0 ≡ m - 0 + suc (n - m - 1) = omega arith in
        let z : 0 + (m - 0) ≡ m = omega arith in
        rw (s, scan-append (m - 0) (suc (n - m - 1)) 0, e, z, t)

-- ---- a search that passes w indexes at once

module _ {p : ℕ → Bool} {n i : ℕ} (S : Seeking p n i) (w : ℕ) (l : i + w ≤ n) where
  parted : or_found (scan p w i) (scan p (n - (i + w)) (i + w)) ≡ first p n
  parted =
      let s : n - i ≡ w + (n - (i + w)) = omega arith in
      sym (scan-append p w (n - (i + w)) i) ∙ rw s at S.rest

  pub seek_found : {k : ℕ} → Some k ≡ scan p w i → Some k ≡ first p n
  seek_found {k} e = rw (← e) at parted

  pub seek-over : None ≡ scan p w i → Seeking p n (i + w)
  seek-over e = record { within = l; rest = rw (← e) at parted }
