-- "Exactly one entry for each offset 0 to c - 1 and no others", by what a pass over the extents meets. Assumes nothing.
use Prim.Native.Nat.{ℕ, zero, suc, ◌+◌, ◌≤◌, ◌<◌}
use mathlib.Core.Path.{◌≡◌, refl, sym, ap, ◌∙◌}
use mathlib.Core.Bool.{Bool, true, false, not, ◌&&◌, ◌||◌, true≢false}
use native.Mathlib.Omega.{arith}
use lib.Dec.{eqb, leb, ltb}
use borrow.Author.Tests.{lt-ltb, eq-eqb, eqb-true, ltb-true, leb-false, lt-leb, not-false}
use Rattle.model.specs.Search.{any_below, all_below, count_below}
use Rattle.laws.proofs.Booleans.{and-true, and_yes, or-none}
use Rattle.laws.proofs.Search.{all_below-at, all_below-yes, none-at, any_below-no, count_below-ext}
use Rattle.allocation.specs.Marks.{bit}
use Rattle.laws.proofs.Count.{count_below-none, count_below-any_below, count_below-mono}
use Rattle.allocation.proofs.Sums.{by_value, sum_to-ones}

implied : (a b : Bool) → (not a || b) ≡ true → a ≡ (a && b)
implied true b e = sym e
implied false b e = refl

-- q: the file's extents; off: the offset that an extent's entry says
module _ (q : ℕ → Bool) (off : ℕ → ℕ) where
  abbrev held : ℕ → ℕ → Bool
  held o e = q e && eqb (off e) o

  abbrev pub exactly : ℕ → ℕ → Bool
  exactly n c = all_below (λ o. eqb (count_below (held o) n) 1) c && all_below (λ e. not (q e) || ltb (off e) c) n

  abbrev extra : ℕ → ℕ → Bool
  extra c e = q e && (leb c (off e) || any_below (held (off e)) e)

  -- an offset is had at most once, as long as no extent is one too many
  at_most_one : (c n : ℕ) → any_below (extra c) n ≡ false → (o : ℕ) → count_below (held o) n ≤ 1
  unfolding count_below any_below
  at_most_one c zero h o = omega arith
  at_most_one c (suc n) h o = go (held o n) refl (at_most_one c n (or-none (extra c n) (any_below (extra c) n) h).1 o)
    where
      go : (b : Bool) → held o n ≡ b → count_below (held o) n ≤ 1 → bit (held o n) + count_below (held o) n ≤ 1
      go false t ih = rw t (omega arith)
      go true t ih =
          let b = and-true (q n) (eqb (off n) o) t in
          let x : extra c n ≡ false = (or-none (extra c n) (any_below (extra c) n) h).0 in
          let y : (leb c (off n) || any_below (held (off n)) n) ≡ false = rw b.0 at x in
          let z : any_below (held o) n ≡ false = rw (eqb-true (off n) o b.1) at (or-none (leb c (off n)) (any_below (held (off n)) n) y).1 in
          rw t (omega (arith, count_below-none (held o) n z))

  is_below : (c j : ℕ) → extra c j ≡ false → (not (q j) || ltb (off j) c) ≡ true
  is_below c j x = go (q j) refl
    where
      go : (b : Bool) → q j ≡ b → (not (q j) || ltb (off j) c) ≡ true
      go false t = rw t
      go true t =
          let y : (leb c (off j) || any_below (held (off j)) j) ≡ false = rw t at x in
          rw (t, lt-ltb (off j) c (leb-false c (off j) (or-none (leb c (off j)) (any_below (held (off j)) j) y).0))

  -- each offset is had, and no extent is one too many
  exactly-yes : (n c : ℕ) → ((o : ℕ) → o < c → any_below (held o) n ≡ true) → any_below (extra c) n ≡ false → exactly n c ≡ true
  exactly-yes n c had none =
      and_yes (all_below (λ o. eqb (count_below (held o) n) 1) c) (all_below (λ e. not (q e) || ltb (off e) c) n)
      (all_below-yes (λ o. eqb (count_below (held o) n) 1) c (λ o l. eq-eqb (count_below (held o) n) 1 (omega (arith, count_below-any_below (held o) n (had o l), at_most_one c n none o))))
      (all_below-yes (λ e. not (q e) || ltb (off e) c) n (λ j l. is_below c j (none-at (extra c) n none j l)))

  -- an offset that is had once is had by no lower extent
  once : (n j : ℕ) → j < n → q j ≡ true → count_below (held (off j)) n ≡ 1 → any_below (held (off j)) j ≡ false
  unfolding count_below
  once n j l t one = go (any_below (held (off j)) j) refl
    where
      go : (b : Bool) → any_below (held (off j)) j ≡ b → b ≡ false
      go false u = refl
      go true u =
          let here : held (off j) j ≡ true = rw (t, eq-eqb (off j) (off j) refl) in
          let two : count_below (held (off j)) (suc j) ≡ 1 + count_below (held (off j)) j = rw here in
          absurd (omega (arith, two, one, count_below-any_below (held (off j)) j u, count_below-mono (held (off j)) (suc j) n l))

  module _ (n c : ℕ) (yes : exactly n c ≡ true) where
    one : (o : ℕ) → o < c → count_below (held o) n ≡ 1
    one o l =
        eqb-true (count_below (held o) n) 1
        (all_below-at (λ k. eqb (count_below (held k) n) 1) c (and-true (all_below (λ k. eqb (count_below (held k) n) 1) c) (all_below (λ e. not (q e) || ltb (off e) c) n) yes).0 o l)

    below : (j : ℕ) → j < n → (not (q j) || ltb (off j) c) ≡ true
    below = all_below-at (λ e. not (q e) || ltb (off e) c) n (and-true (all_below (λ k. eqb (count_below (held k) n) 1) c) (all_below (λ e. not (q e) || ltb (off e) c) n) yes).1

    -- the file has as many extents
    pub exactly-count : count_below q n ≡ c
    exactly-count =
        count_below-ext q (λ e. q e && ltb (off e) c) n (λ j l. implied (q j) (ltb (off j) c) (below j l))
        ∙ by_value q off n c ∙ sum_to-ones (λ o. count_below (held o) n) c one

    had : (o : ℕ) → o < c → any_below (held o) n ≡ true
    had o l = go (any_below (held o) n) refl
      where
        go : (b : Bool) → any_below (held o) n ≡ b → b ≡ true
        go true t = refl
        go false t = absurd (omega (arith, count_below-none (held o) n t, one o l))

    not-extra : (j : ℕ) → j < n → extra c j ≡ false
    not-extra j l = go (q j) refl
      where
        go : (b : Bool) → q j ≡ b → extra c j ≡ false
        go false t = rw t
        go true t =
            let lt : off j < c = ltb-true (off j) c (rw t at (below j l)) in
            rw (t, lt-leb c (off j) lt, once n j l t (one (off j) lt))

    none-extra : any_below (extra c) n ≡ false
    none-extra = any_below-no (extra c) n not-extra

  -- an extent that is one too many
  pub surplus : (n c : ℕ) → any_below (extra c) n ≡ true → exactly n c ≡ false
  surplus n c e = go (exactly n c) refl
    where
      go : (b : Bool) → exactly n c ≡ b → b ≡ false
      go false t = refl
      go true t = absurd (true≢false (sym e ∙ none-extra n c t))

  -- where none is one too many, it is exact unless an offset lacks
  pub exact-unless : (n c : ℕ) → any_below (extra c) n ≡ false → exactly n c ≡ not (any_below (λ o. not (any_below (held o) n)) c)
  exact-unless n c none = go (any_below (λ o. not (any_below (held o) n)) c) refl (exactly n c) refl
    where
      go : (a : Bool) → any_below (λ o. not (any_below (held o) n)) c ≡ a → (b : Bool) → exactly n c ≡ b → exactly n c ≡ not a
      go true s true t = absurd (true≢false (sym s ∙ any_below-no (λ o. not (any_below (held o) n)) c (λ o l. ap not (had n c t o l))))
      go true s false t = t
      go false s b t = exactly-yes n c (λ o l. not-false (any_below (held o) n) (none-at (λ k. not (any_below (held k) n)) c s o l)) none
