-- The library's searches over a range of numbers, or over a slice, are those of `Search`. Assumes nothing.
use Prim.Native.Nat.{ℕ, zero, suc, ◌+◌, ◌-◌, ◌≤◌, ◌<◌}
use mathlib.Core.Path.{◌≡◌, refl, sym}
use mathlib.Core.Bool.{Bool, true, false}
use mathlib.Core.List.{List}
use native.Mathlib.Omega.{arith}
use native.Mathlib.Decide.{dec_lt}
use lib.ListN.{length, get_or}
use denote.Param.Members.{Mut}
use denote.Ref.{Bor}
use Rattle.std.specs.declared.ops.Range.{Range}
use Rattle.std.specs.declared.option.Option.{Option}
use Rattle.std.specs.declared.option.Option.TheVariants.{None, Some}
use Rattle.std.specs.Iterator.{YieldsThen}
use Rattle.std.specs.List.{FoldsTo, range_with_len, AllWithin, HoldsAt}
use Rattle.std.specs.Fn.{Called, CalledAt}
use Rattle.std.specs.Option.{MatchOption}
use Rattle.std.specs.Bool.{MatchBool, ⊤}
use Rattle.std.proofs.iter.Yields.{nat_range_steps}
use Rattle.std.proofs.lemmas.Iterator.{first_from_Range, cases_from_any, cases_from_all, YieldsList-from_range}
use Rattle.std.proofs.lemmas.List.FromFn.{length-range_with_len, get_or-range_with_len}
use Rattle.model.specs.Search.{scan, any_below, all_below}
use Rattle.laws.proofs.Search.{scan-none, any_below-true, any_below-no, all_below-yes, all_below-false}

-- the first index that passes, where those before it don't
scan-first : (p : ℕ → Bool) (n i k : ℕ) → i ≤ k → k < i + n → p k ≡ true → ((j : ℕ) → i ≤ j → j < k → p j ≡ false) → scan p n i ≡ Some k
unfolding scan
scan-first p zero i k a b t h = absurd (let q : i < i + 0 = omega arith in omega arith)
scan-first p (suc n) i k a b t h = go (dec_lt i k) (λ l. scan-first p n (suc i) k (omega arith) (omega arith) t (λ j c d. h j (omega arith) d))
  where
    go : Dec (i < k) → (i < k → scan p n (suc i) ≡ Some k) → scan p (suc n) i ≡ Some k
    go (yes l) later = rw (h i (omega arith) l) (later l)
    go (no l) later = let e : i ≡ k = omega arith in rw (e, t)

abbrev FirstFrom : (ℕ → Bool) → Range ℕ → Option ℕ → Type 0
FirstFrom p s o =
    MatchOption o ((k : ℕ) → s.start ≤ k → k < s.end → p k ≡ false)
    (λ i. (s.start ≤ i) × (i < s.end) × (p i ≡ true) × ((k : ℕ) → s.start ≤ k → k < i → p k ≡ false))

first-scan : (p : ℕ → Bool) (s : Range ℕ) (o : Option ℕ) → FirstFrom p s o → o ≡ scan p (s.end - s.start) s.start
first-scan p s (Some i) h = sym (scan-first p (s.end - s.start) s.start i h.0 (omega (arith, h.0, h.1)) h.2 h.3)
first-scan p s None h = sym (scan-none p (s.end - s.start) s.start (λ k a b. h k a (omega arith)))

-- `find`
pub find-scan : {F : Type 0} {g : Mut F (Bor ℕ × Unit {0}) Bool} (s u : Range ℕ) (f : F) (r : Option ℕ) (p : ℕ → Bool)
    → (xs : List ℕ) × (j : F) × YieldsThen nat_range_steps s xs r u × FoldsTo (λ p x q. CalledAt g p x false q) f xs j × MatchOption r ⊤ (λ x. (h : F) × CalledAt g j x true h)
    → ((x : ℕ) (q : F) → CalledAt g f x true q → p x ≡ true) → ((x : ℕ) (q : F) → CalledAt g f x false q → (q ≡ f) × (p x ≡ false))
    → r ≡ scan p (s.end - s.start) s.start
find-scan s u f r p ran yes' no' = first-scan p s r (first_from_Range s u f r (λ i. p i ≡ true) (λ i. p i ≡ false) ran yes' no')

-- ---- `any` and `all`

abbrev numbers : Range ℕ → List ℕ
numbers s = range_with_len s.start (s.end - s.start)

at : (p : ℕ → Bool) (b : Bool) (s : Range ℕ) (k : ℕ) → k < length (numbers s) → HoldsAt (λ i. p i ≡ b) (numbers s) k → p (s.start + k) ≡ b
at p b s k l h =
    let e : get_or (numbers s) k 0 ≡ s.start + k = get_or-range_with_len s.start (s.end - s.start) k 0 (omega (arith, l, length-range_with_len s.start (s.end - s.start))) in
    rw (← e) (h 0)

within : (p : ℕ → Bool) (b : Bool) (s : Range ℕ) → AllWithin (λ i. p i ≡ b) (numbers s) 0 (length (numbers s)) → (k : ℕ) → k < s.end - s.start → p (s.start + k) ≡ b
within p b s h k l =
    let m : k < length (numbers s) = omega (arith, l, length-range_with_len s.start (s.end - s.start)) in
    at p b s k m (λ d. h k d (omega arith) m)

abbrev AnyOf : (ℕ → Bool) → Range ℕ → Bool → Type 0
AnyOf p s r =
    MatchBool r ((k : ℕ) × (k < length (numbers s)) × HoldsAt (λ i. p i ≡ true) (numbers s) k) (AllWithin (λ i. p i ≡ false) (numbers s) 0 (length (numbers s)))

any-of : (p : ℕ → Bool) (s : Range ℕ) (r : Bool) → AnyOf p s r → r ≡ any_below (λ k. p (s.start + k)) (s.end - s.start)
any-of p s true h =
    sym (any_below-true (λ k. p (s.start + k)) h.0 (s.end - s.start) (omega (arith, h.1, length-range_with_len s.start (s.end - s.start))) (at p true s h.0 h.1 h.2))
any-of p s false h = sym (any_below-no (λ k. p (s.start + k)) (s.end - s.start) (within p false s h))

abbrev AllOf : (ℕ → Bool) → Range ℕ → Bool → Type 0
AllOf p s r =
    MatchBool r (AllWithin (λ i. p i ≡ true) (numbers s) 0 (length (numbers s))) ((k : ℕ) × (k < length (numbers s)) × HoldsAt (λ i. p i ≡ false) (numbers s) k)

all-of : (p : ℕ → Bool) (s : Range ℕ) (r : Bool) → AllOf p s r → r ≡ all_below (λ k. p (s.start + k)) (s.end - s.start)
all-of p s true h = sym (all_below-yes (λ k. p (s.start + k)) (s.end - s.start) (within p true s h))
all-of p s false h =
    sym (all_below-false (λ k. p (s.start + k)) h.0 (s.end - s.start) (omega (arith, h.1, length-range_with_len s.start (s.end - s.start))) (at p false s h.0 h.1 h.2))

pub any-below : {F : Type 0} {g : Mut F (ℕ × Unit {0}) Bool} (s u : Range ℕ) (f : F) (r : Bool) (p : ℕ → Bool)
    → (xs : List ℕ) × (o : Option ℕ) × (j : F) × YieldsThen nat_range_steps s xs o u × FoldsTo (λ p x q. Called g p (x, tt) false q) f xs j
    × MatchOption o (r ≡ false) (λ x. (r ≡ true) × ((h : F) × Called g j (x, tt) true h))
    → ((x : ℕ) (q : F) → Called g f (x, tt) true q → p x ≡ true) → ((x : ℕ) (q : F) → Called g f (x, tt) false q → (q ≡ f) × (p x ≡ false))
    → r ≡ any_below (λ k. p (s.start + k)) (s.end - s.start)
any-below s u f r p ran yes' no' =
    any-of p s r (cases_from_any u f r (λ i. p i ≡ true) (λ i. p i ≡ false) ran (YieldsList-from_range s.start s.end _ refl refl) yes' no')

pub all-below : {F : Type 0} {g : Mut F (ℕ × Unit {0}) Bool} (s u : Range ℕ) (f : F) (r : Bool) (p : ℕ → Bool)
    → (xs : List ℕ) × (o : Option ℕ) × (j : F) × YieldsThen nat_range_steps s xs o u × FoldsTo (λ p x q. Called g p (x, tt) true q) f xs j
    × MatchOption o (r ≡ true) (λ x. (r ≡ false) × ((h : F) × Called g j (x, tt) false h))
    → ((x : ℕ) (q : F) → Called g f (x, tt) true q → (q ≡ f) × (p x ≡ true)) → ((x : ℕ) (q : F) → Called g f (x, tt) false q → p x ≡ false)
    → r ≡ all_below (λ k. p (s.start + k)) (s.end - s.start)
all-below s u f r p ran yes' no' =
    all-of p s r (cases_from_all u f r (λ i. p i ≡ true) (λ i. p i ≡ false) ran (YieldsList-from_range s.start s.end _ refl refl) yes' no')
