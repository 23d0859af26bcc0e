-- Laws of `Search`: those by which a counting loop is a search, those by which a growing prefix is some, every, count, tab or flat,
-- and what a search that found or missed says. Assumes nothing.
use Prim.Native.Nat.{ℕ, zero, suc, ◌+◌, ◌-◌, ◌≤◌, ◌<◌}
use mathlib.Core.Path.{◌≡◌, refl, sym, ap, ap₂, ◌∙◌}
use mathlib.Core.Logic.{◌≢◌, ⊎_elim}
use mathlib.Core.Bool.{Bool, true, false, cond, ◌&&◌, ◌||◌}
use mathlib.Core.List.{List, [], ◌∷◌, ◌++◌, append-nil, append_assoc}
use native.Mathlib.Numerals.{add-one}
use native.Mathlib.Omega.{arith}
use native.Mathlib.Decide.{dec_lt}
use native.Mathlib.Nat.{eq-or-lt_of_le, le_of_suc-le-suc, add-zero, add-suc, zero-add, not-suc-le-zero}
use lib.ListN.{length, get_or, length-append, get_or-append}
use lib.Seq.{get_or_at}
use lib.Dec.{eqb}
use borrow.Author.Tests.{eq-eqb, ne_eqb, eqb-true, eqb-false}
use Rattle.std.specs.Prelude.{Some, None}
use Rattle.model.specs.Bytes.{bytes_from}
use Rattle.model.specs.Search.{Lowest, scan, first, any_below, all_below, count_below, tabulate, concatenated, equal_bytes}
use Rattle.laws.proofs.Booleans.{and_left, and_right, and_yes, and-false, or_right, or-none}
use Rattle.laws.proofs.Bytes.{length-bytes_from, get_or-bytes_from}

-- ---- a loop's turns: the search from i on

module _ (p : ℕ → Bool) (n i : ℕ) where
  more : i < n → n - i ≡ suc (n - (i + 1))
  more h = omega arith

  pub scan-here : i < n → p i ≡ true → scan p (n - i) i ≡ Some i
  unfolding scan
  scan-here h t = rw (more h) (rw t)

  pub scan-next : i < n → p i ≡ false → scan p (n - i) i ≡ scan p (n - (i + 1)) (i + 1)
  unfolding scan
  scan-next h t = rw (more h) (rw (t, add-one i))

  pub scan-end : n ≤ i → scan p (n - i) i ≡ None
  unfolding scan
  scan-end h = let z : n - i ≡ 0 = omega arith in rw z

-- ---- what a search says

pub scan-none : (p : ℕ → Bool) (n i : ℕ) → ((k : ℕ) → i ≤ k → k < i + n → p k ≡ false) → scan p n i ≡ None
unfolding scan
scan-none p zero i h = refl
scan-none p (suc n) i h =
    ap (λ (b : Bool). cond b (Some i) (scan p n (suc i))) (h i (omega arith) (omega arith)) ∙ scan-none p n (suc i) (λ k a b. h k (omega arith) (omega arith))

pub first-none : (p : ℕ → Bool) (n : ℕ) → ((k : ℕ) → k < n → p k ≡ false) → first p n ≡ None
first-none p n h = scan-none p (n - 0) 0 (λ k a b. h k (omega arith))

pub scan-ext : (p q : ℕ → Bool) (n i : ℕ) → ((k : ℕ) → i ≤ k → k < i + n → p k ≡ q k) → scan p n i ≡ scan q n i
unfolding scan
scan-ext p q zero i h = refl
scan-ext p q (suc n) i h =
    ap₂ (λ (b : Bool) (r : Lowest). cond b (Some i) r) (h i (omega arith) (omega arith)) (scan-ext p q n (suc i) (λ k a b. h k (omega arith) (omega arith)))

pub first-ext : (p q : ℕ → Bool) (n : ℕ) → ((k : ℕ) → k < n → p k ≡ q k) → first p n ≡ first q n
first-ext p q n h = scan-ext p q (n - 0) 0 (λ k a b. h k (omega arith))

-- an index found is below the bound and passes; where none is found none passes
abbrev pub Hit : (ℕ → Bool) → ℕ → ℕ → Lowest → Type 0
Hit p n i (Some k) = (i ≤ k) × (k < i + n) × (p k ≡ true)
Hit p n i None = (k : ℕ) → i ≤ k → k < i + n → p k ≡ false

none-next : (p : ℕ → Bool) (n i : ℕ) → p i ≡ false → ((k : ℕ) → suc i ≤ k → k < suc i + n → p k ≡ false) → (k : ℕ) → i ≤ k → k < i + suc n → p k ≡ false
none-next p n i e h k a b = go (dec_lt i k)
  where
    go : Dec (i < k) → p k ≡ false
    go (yes l) = h k l (omega arith)
    go (no l) = let q : k ≡ i = omega arith in ap p q ∙ e

hit-next : (p : ℕ → Bool) (n i : ℕ) (r : Lowest) → p i ≡ false → Hit p n (suc i) r → Hit p (suc n) i r
hit-next p n i (Some k) e h = (omega (arith, h.0), omega (arith, h.1), h.2)
hit-next p n i None e h = none-next p n i e h

pub scan-hit : (p : ℕ → Bool) (n i : ℕ) → Hit p n i (scan p n i)
unfolding scan
scan-hit p zero i = λ k a b. absurd (let q : i < i + 0 = omega arith in omega arith)
scan-hit p (suc n) i = go (p i) refl (scan-hit p n (suc i))
  where
    go : (b : Bool) → p i ≡ b → Hit p n (suc i) (scan p n (suc i)) → Hit p (suc n) i (cond b (Some i) (scan p n (suc i)))
    go true e h = (omega arith, omega arith, e)
    go false e h = hit-next p n i (scan p n (suc i)) e h

-- where the search finds nothing, the test holds nowhere
pub first-missed : (p : ℕ → Bool) (n : ℕ) → first p n ≡ None → (j : ℕ) → j < n → p j ≡ false
first-missed p n e j h = let r : Hit p (n - 0) 0 None = rw e at (scan-hit p (n - 0) 0) in r j (omega arith) (omega arith)

-- ---- some, every, count

pub any_below-more : (p : ℕ → Bool) (i : ℕ) → any_below p (i + 1) ≡ (p i || any_below p i)
unfolding any_below
any_below-more p i = rw add-one

pub all_below-more : (p : ℕ → Bool) (i : ℕ) → all_below p (i + 1) ≡ (p i && all_below p i)
unfolding all_below
all_below-more p i = rw add-one

pub count_below-more : (p : ℕ → Bool) (i : ℕ) → count_below p (i + 1) ≡ cond (p i) 1 0 + count_below p i
unfolding count_below
count_below-more p i = rw add-one

pub all_below-yes : (p : ℕ → Bool) (n : ℕ) → ((k : ℕ) → k < n → p k ≡ true) → all_below p n ≡ true
unfolding all_below
all_below-yes p zero h = refl
all_below-yes p (suc n) h = and_yes (p n) (all_below p n) (h n (omega arith)) (all_below-yes p n (λ k l. h k (omega arith)))

pub all_below-at : (p : ℕ → Bool) (n : ℕ) → all_below p n ≡ true → (k : ℕ) → k < n → p k ≡ true
unfolding all_below
all_below-at p zero e k r = absurd (not-suc-le-zero r)
all_below-at p (suc n) e k r = go (eqb k n) refl (all_below-at p n (and_right (p n) (all_below p n) e) k)
  where
    go : (b : Bool) → eqb k n ≡ b → (k < n → p k ≡ true) → p k ≡ true
    go true q h = ap p (eqb-true k n q) ∙ and_left (p n) (all_below p n) e
    go false q h = let ne : k ≢ n = eqb-false k n q in h (omega arith)

-- a test that fails at an index fails of all, one that holds at an index holds of some: for a search that stops there
pub all_below-false : (p : ℕ → Bool) (i n : ℕ) → i < n → p i ≡ false → all_below p n ≡ false
unfolding all_below
all_below-false p i zero h e = absurd (omega arith)
all_below-false p i (suc n) h e =
    let le : i ≤ n = omega arith in
    ⊎_elim (λ (q : i ≡ n). rw (← q, e)) (λ (l : i < n). rw (all_below-false p i n l e) (and-false (p n))) (eq-or-lt_of_le le)

pub any_below-true : (p : ℕ → Bool) (i n : ℕ) → i < n → p i ≡ true → any_below p n ≡ true
unfolding any_below
any_below-true p i zero h e = absurd (omega arith)
any_below-true p i (suc n) h e =
    let le : i ≤ n = omega arith in
    ⊎_elim (λ (q : i ≡ n). rw (← q, e)) (λ (l : i < n). or_right (p n) (any_below p n) (any_below-true p i n l e)) (eq-or-lt_of_le le)

-- where none passes, each fails
pub none-at : (p : ℕ → Bool) (n : ℕ) → any_below p n ≡ false → (j : ℕ) → j < n → p j ≡ false
unfolding any_below
none-at p zero e j h = absurd (omega arith)
none-at p (suc n) e j h =
    let b = or-none (p n) (any_below p n) e in
    ⊎_elim (λ (q : j ≡ n). rw q b.0) (λ (l : j < n). none-at p n b.1 j l) (eq-or-lt_of_le (le_of_suc-le-suc h))

pub any_below-no : (p : ℕ → Bool) (n : ℕ) → ((k : ℕ) → k < n → p k ≡ false) → any_below p n ≡ false
unfolding any_below
any_below-no p zero h = refl
any_below-no p (suc n) h = ap₂ (λ a b. a || b) (h n (omega arith)) (any_below-no p n (λ k l. h k (omega arith)))

module _ (p q : ℕ → Bool) where
  pub all_below-ext : (n : ℕ) → ((k : ℕ) → k < n → p k ≡ q k) → all_below p n ≡ all_below q n
  unfolding all_below
  all_below-ext zero h = refl
  all_below-ext (suc n) h = ap₂ (λ a b. a && b) (h n (omega arith)) (all_below-ext n (λ k l. h k (omega arith)))

  pub any_below-ext : (n : ℕ) → ((k : ℕ) → k < n → p k ≡ q k) → any_below p n ≡ any_below q n
  unfolding any_below
  any_below-ext zero h = refl
  any_below-ext (suc n) h = ap₂ (λ a b. a || b) (h n (omega arith)) (any_below-ext n (λ k l. h k (omega arith)))

  pub count_below-ext : (n : ℕ) → ((k : ℕ) → k < n → p k ≡ q k) → count_below p n ≡ count_below q n
  unfolding count_below
  count_below-ext zero h = refl
  count_below-ext (suc n) h = ap₂ (λ (b : Bool) (m : ℕ). cond b 1 0 + m) (h n (omega arith)) (count_below-ext n (λ k l. h k (omega arith)))

-- ---- strings

-- a run is the string b: byte by byte
pub same-run : (s : List ℕ) (from : ℕ) (b : List ℕ) → equal_bytes (bytes_from s from (length b)) b ≡ all_below (λ k. eqb (get_or s (from + k) 0) (get_or b k 0)) (length b)
unfolding equal_bytes
same-run s from b =
    rw (eq-eqb _ _ (length-bytes_from s from (length b)))
    (all_below-ext (λ k. eqb (get_or (bytes_from s from (length b)) k 0) (get_or b k 0)) (λ k. eqb (get_or s (from + k) 0) (get_or b k 0)) (length b)
    (λ k l. rw (get_or-bytes_from s from (length b) k l)))

pub same_length : (a b : List ℕ) → (length a ≡ length b → ⊥) → equal_bytes a b ≡ false
unfolding equal_bytes
same_length a b h = rw (ne_eqb _ _ h)

-- ---- lists by index

-- the last of a list, or one before it
snoc-at {ℓ} : {A : Type ℓ} (l : List A) (x v d : A) (i n : ℕ) → length l ≡ n → i < suc n → (i < n → get_or l i d ≡ v) → (i ≡ n → x ≡ v)
    → get_or (l ++ (x ∷ [])) i d ≡ v
snoc-at l x v d i n e h p q = go (dec_lt i n)
  where
    go : Dec (i < n) → get_or (l ++ (x ∷ [])) i d ≡ v
    go (yes k) = get_or-append l (x ∷ []) d i (omega arith) ∙ p k
    go (no k) =
        let f : i ≡ n = omega arith in
        get_or_at l x [] d i (omega arith) ∙ q f

module _ {ℓ} {A : Type ℓ} (f : ℕ → A) (from : ℕ) where
  pub length-tabulate : (n : ℕ) → length (tabulate f from n) ≡ n
  unfolding tabulate
  length-tabulate zero = refl
  length-tabulate (suc n) = simp length-append (omega (arith, length-tabulate n))

  pub get_d_tabulate : (n k : ℕ) (d : A) → k < n → get_or (tabulate f from n) k d ≡ f (from + k)
  unfolding tabulate
  get_d_tabulate zero k d h = absurd (not-suc-le-zero h)
  get_d_tabulate (suc n) k d h =
      snoc-at (tabulate f from n) (f (from + n)) (f (from + k)) d k n (length-tabulate n) h (λ l. get_d_tabulate n k d l) (λ e. ap (λ x. f (from + x)) (sym e))

  pub tabulate-more : (n : ℕ) → tabulate f from (n + 1) ≡ tabulate f from n ++ (f (from + n) ∷ [])
  unfolding tabulate
  tabulate-more n = rw add-one

-- from 0 on, as most lists stand
pub get_or-tab0 {ℓ} : {A : Type ℓ} (f : ℕ → A) (n k : ℕ) (d : A) → k < n → get_or (tabulate f 0 n) k d ≡ f k
get_or-tab0 f n k d h = get_d_tabulate f 0 n k d h ∙ ap f (zero-add k)

pub tabulate-ext {ℓ} : {A : Type ℓ} (f g : ℕ → A) (a b n : ℕ) → ((k : ℕ) → k < n → f (a + k) ≡ g (b + k)) → tabulate f a n ≡ tabulate g b n
unfolding tabulate
tabulate-ext f g a b zero h = refl
tabulate-ext f g a b (suc n) h = ap₂ (λ l x. l ++ (x ∷ [])) (tabulate-ext f g a b n (λ k l. h k (omega arith))) (h n (omega arith))

-- a list in two parts
pub tabulate-split {ℓ} : {A : Type ℓ} (f : ℕ → A) (a m n : ℕ) → tabulate f a (m + n) ≡ tabulate f a m ++ tabulate f (a + m) n
unfolding tabulate
tabulate-split f a m zero = rw add-zero (sym (append-nil (tabulate f a m)))
tabulate-split f a m (suc n) =
    rw add-suc
    (ap₂ (λ l x. l ++ (f x ∷ [])) (tabulate-split f a m n) (let e : a + (m + n) ≡ a + m + n = omega arith in e)
    ∙ append_assoc (tabulate f a m) (tabulate f (a + m) n) (f (a + m + n) ∷ []))

module _ {ℓ} {A : Type ℓ} (f : ℕ → List A) where
  -- `flat` from the front
  pub concatenated-front : (a n : ℕ) → concatenated f a (suc n) ≡ f a ++ concatenated f (suc a) n
  unfolding concatenated
  concatenated-front a zero = rw add-zero (sym (append-nil (f a)))
  concatenated-front a (suc n) =
      ap₂ (λ x y. x ++ y) (concatenated-front a n) (ap f (let e : a + suc n ≡ suc a + n = omega arith in e))
      ∙ append_assoc (f a) (concatenated f (suc a) n) (f (suc a + n))

  pub concatenated-more : (a n : ℕ) → concatenated f a (n + 1) ≡ concatenated f a n ++ f (a + n)
  unfolding concatenated
  concatenated-more a n = rw add-one

pub concatenated-ext {ℓ} : {A : Type ℓ} (f g : ℕ → List A) (a n : ℕ) → ((t : ℕ) → a ≤ t → t < a + n → f t ≡ g t) → concatenated f a n ≡ concatenated g a n
unfolding concatenated
concatenated-ext f g a zero h = refl
concatenated-ext f g a (suc n) h = ap₂ (λ x y. x ++ y) (concatenated-ext f g a n (λ t p q. h t p (omega arith))) (h (a + n) (omega arith) (omega arith))

-- a stretch that gives nothing
pub concatenated-over {ℓ} : {A : Type ℓ} (f : ℕ → List A) (t u : ℕ) → t ≤ u → ((s : ℕ) → t ≤ s → s < u → f s ≡ []) → concatenated f 0 u ≡ concatenated f 0 t
unfolding concatenated
concatenated-over f t zero h e = let z : t ≡ 0 = omega arith in rw z
concatenated-over f t (suc u) h e =
    ⊎_elim (λ (q : t ≡ suc u). rw q)
    (λ (l : t < suc u).
    let z : 0 + u ≡ u = omega arith in
    ap (λ x. concatenated f 0 u ++ f x) z ∙ ap (λ x. concatenated f 0 u ++ x) (e u (omega arith) (omega arith)) ∙ append-nil (concatenated f 0 u)
    ∙ concatenated-over f t u (omega arith) (λ s p q. e s p (omega arith)))
    (eq-or-lt_of_le h)
