-- Laws of chained hashing, for any buckets: chains as indexes join them, and a walk down one chain in place of a search of all
-- indexes. Assumes nothing.
use Prim.Native.Nat.{ℕ, zero, suc, ◌+◌, ◌-◌, ◌≤◌, ◌<◌}
use mathlib.Core.Path.{◌≡◌, refl, sym, ap, ◌∙◌}
use mathlib.Core.Logic.{◌≢◌, ⊎_elim}
use mathlib.Core.Bool.{Bool, true, false, cond, true≢false}
use mathlib.Core.List.{List}
use native.Mathlib.Nat.{eq-or-lt_of_le}
use native.Mathlib.Numerals.{add-one}
use native.Mathlib.Omega.{arith}
use lib.Dec.{eqb}
use borrow.Author.Tests.{eqb-true, eqb-false}
use Rattle.model.specs.Search.{any_below}
use Rattle.laws.proofs.Search.{any_below-more, any_below-true}
use Rattle.duplicates.specs.Chains.{last_below, Chain, Chains, Enters, head_in, next_in, Entered}

-- ---- the last index of a bucket

module _ (q : ℕ → Bool) where
  last_below-le : (n : ℕ) → last_below q n ≤ n
  unfolding last_below
  last_below-le zero = omega arith
  last_below-le (suc n) = go (q n) (last_below-le n)
    where
      go : (b : Bool) → last_below q n ≤ n → cond b (suc n) (last_below q n) ≤ suc n
      go true h = omega arith
      go false h = omega arith

  last_below-at : (n j : ℕ) → last_below q n ≡ j + 1 → q j ≡ true
  unfolding last_below
  last_below-at zero j e = absurd (omega arith)
  last_below-at (suc n) j e = go (q n) refl (last_below-at n j) e
    where
      go : (b : Bool) → q n ≡ b → (last_below q n ≡ j + 1 → q j ≡ true) → cond b (suc n) (last_below q n) ≡ j + 1 → q j ≡ true
      go true t h f = let z : j ≡ n = omega arith in rw z t
      go false t h f = h f

  last_below-yes : (n : ℕ) → q n ≡ true → last_below q (n + 1) ≡ n + 1
  unfolding last_below
  last_below-yes n e = rw (add-one n, e)

  last_below-no : (n : ℕ) → q n ≡ false → last_below q (n + 1) ≡ last_below q n
  unfolding last_below
  last_below-no n e = rw (add-one n, e)

-- ---- zeros hold empty chains

pub chains-none : (member : ℕ → ℕ → Bool) (n : ℕ) (head next : ℕ → ℕ) → ((b : ℕ) → b < n → head b ≡ 0) → Chains member n 0 head next
unfolding last_below
chains-none member n head next h = record { chain = λ b l. record { last = h b l; before = λ j k. absurd (omega arith) } }

-- ---- one index more: it is in no bucket, or joins one

-- an index below i + 1 is below i, or i itself
pub up_to {ℓ} : {P : Type ℓ} (i j : ℕ) → j < i + 1 → (j < i → P) → (j ≡ i → P) → P
up_to i j l p q = let le : j ≤ i = omega arith in ⊎_elim q p (eq-or-lt_of_le le)

module _ {q : ℕ → Bool} {i start : ℕ} {next : ℕ → ℕ} (C : Chain q i start next) (next' : ℕ → ℕ) (kept : (j : ℕ) → j < i → next' j ≡ next j) where
  chain-pass : q i ≡ false → Chain q (i + 1) start next'
  chain-pass out = record {
    last = C.last ∙ sym (last_below-no q i out);
    before = λ j l m. up_to i j l (λ k. kept j k ∙ C.before j k m) (λ e. absurd (true≢false (sym m ∙ rw e out)));
  }

  chain-join : q i ≡ true → next' i ≡ start → Chain q (i + 1) (i + 1) next'
  chain-join in' new = record {
    last = sym (last_below-yes q i in');
    before = λ j l m. up_to i j l (λ k. kept j k ∙ C.before j k m) (λ e. rw e (new ∙ C.last));
  }

module _ (member : ℕ → ℕ → Bool) (n i : ℕ) (head next : ℕ → ℕ) (C : Chains member n i head next) where
  pub chains-pass : ((b : ℕ) → member b i ≡ false) → Chains member n (i + 1) head next
  chains-pass out = record { chain = λ b l. chain-pass (C.chain b l) next (λ j k. refl) (out b) }

pub chains-enter : (member : ℕ → ℕ → Bool) (n i b : ℕ) {head next head' next' : ℕ → ℕ} → Chains member n i head next → Enters i b head next head' next'
    → b < n → member b i ≡ true → ((x : ℕ) → x ≢ b → member x i ≡ false) → Chains member n (i + 1) head' next'
chains-enter member n i b {head} {next} {head'} {next'} C E lb in' out = record { chain = λ x l. go x l (eqb x b) refl }
  where
    kept : (j : ℕ) → j < i → next' j ≡ next j
    kept j k = E.next-other j (λ e. omega arith)

    go : (x : ℕ) → x < n → (t : Bool) → eqb x b ≡ t → Chain (member x) (i + 1) (head' x) next'
    go x l true t = rw (eqb-true x b t, E.head-own) (chain-join (C.chain b lb) next' kept in' E.next-own)
    go x l false t =
        let ne : x ≢ b = eqb-false x b t in
        rw (E.head-other x ne) (chain-pass (C.chain x l) next' kept (out x ne))

pub chains-join : (member : ℕ → ℕ → Bool) (n i b : ℕ) (c c' : List ℕ) → Chains member n i (head_in c) (next_in c) → Entered i b c c'
    → b < n → member b i ≡ true → ((x : ℕ) → x ≢ b → member x i ≡ false) → Chains member n (i + 1) (head_in c') (next_in c')
chains-join member n i b c c' = chains-enter member n i b

-- ---- a walk down a chain, in search of a p that holds only where the chain's q does

-- the walk has come to j: what is left is below j, and j is 0 or the last of the chain there
pub record Walk (p q : ℕ → Bool) (i j : ℕ) : Type 0 where
  pub rest : any_below p j ≡ any_below p i
  pub within : j ≤ i
  pub on : (k : ℕ) → j ≡ k + 1 → q k ≡ true

skip : (p q : ℕ → Bool) → ((j : ℕ) → p j ≡ true → q j ≡ true) → (n : ℕ) → any_below p (last_below q n) ≡ any_below p n
unfolding any_below last_below
skip p q only zero = refl
skip p q only (suc n) = go (q n) refl (p n) refl (skip p q only n)
  where
    go : (b : Bool) → q n ≡ b → (c : Bool) → p n ≡ c → any_below p (last_below q n) ≡ any_below p n → any_below p (cond b (suc n) (last_below q n)) ≡ any_below p (suc n)
    go true t c u h = refl
    go false t true u h = absurd (true≢false (sym (only n u) ∙ t))
    go false t false u h = rw u h

walk-to : (p q : ℕ → Bool) (i n : ℕ) → ((j : ℕ) → p j ≡ true → q j ≡ true) → n ≤ i → any_below p n ≡ any_below p i → Walk p q i (last_below q n)
walk-to p q i n only l e = record { rest = skip p q only n ∙ e; within = omega (arith, last_below-le q n); on = last_below-at q n }

one_less : (j : ℕ) → j ≢ 0 → j ≡ (j - 1) + 1
one_less j more = let z : 0 < j = omega (arith, more) in omega arith

module _ {p q : ℕ → Bool} {i : ℕ} (only : (j : ℕ) → p j ≡ true → q j ≡ true) {start : ℕ} {next : ℕ → ℕ} (C : Chain q i start next) where
  pub walk_start : Walk p q i start
  walk_start = rw C.last (walk-to p q i i only (omega arith) refl)

  module _ {j : ℕ} (W : Walk p q i j) (more : j ≢ 0) where
    is-next : next (j - 1) ≡ last_below q (j - 1)
    is-next = C.before (j - 1) (omega (arith, one_less j more, W.within)) (W.on (j - 1) (one_less j more))

    pub walk-falls : next (j - 1) < j
    walk-falls = omega (arith, one_less j more, is-next, last_below-le q (j - 1))

    pub walk-next : p (j - 1) ≡ false → Walk p q i (next (j - 1))
    walk-next e =
        rw is-next
        (walk-to p q i (j - 1) only (omega (arith, W.within)) (sym (rw e at (any_below-more p (j - 1))) ∙ ap (any_below p) (sym (one_less j more)) ∙ W.rest))

module _ {p q : ℕ → Bool} {i j : ℕ} (W : Walk p q i j) where
  pub walk-found : j ≢ 0 → p (j - 1) ≡ true → any_below p i ≡ true
  walk-found more e = any_below-true p (j - 1) i (omega (arith, one_less j more, W.within)) e

  pub walk_end : j ≡ 0 → any_below p i ≡ false
  unfolding any_below
  walk_end z = sym (rw z at W.rest)
