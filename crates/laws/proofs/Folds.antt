-- The library's folds, counts and searches over a range of numbers are those of `Search`. Assumes nothing.
use Prim.Native.Nat.{ℕ, zero, suc, ◌+◌, ◌-◌, ◌≤◌, ◌<◌}
use mathlib.Core.Path.{◌≡◌, refl, sym, ap, ap₂, ◌∙◌}
use mathlib.Core.Bool.{Bool, true, false, cond, ◌&&◌, ◌||◌}
use mathlib.Core.List.{List, [], ◌∷◌, ◌++◌}
use native.Mathlib.Nat.{add-zero, zero-add, sub-zero, add_comm}
use native.Mathlib.Omega.{arith}
use lib.ListN.{length, get_or, length-append}
use denote.Param.Members.{Mut}
use denote.Ref.{Bor}
use Rattle.std.specs.declared.iter.Rev.{Rev}
use Rattle.std.specs.declared.ops.Range.{Range}
use Rattle.std.specs.Prelude.{Option, Some, None}
use Rattle.std.specs.Iterator.{YieldsThen, Drains}
use Rattle.std.specs.Iterator.Adapters.{rev_source, rev_steps}
use Rattle.std.specs.List.{FoldsTo, fold, filter, range_with_len, AllWithin, HoldsAt}
use Rattle.std.specs.Fn.{Called, CalledAt}
use Rattle.std.specs.Option.{MatchOption, unwrap_or}
use Rattle.std.specs.Bool.{⊤}
use Rattle.std.proofs.iter.Yields.{nat_range_steps}
use Rattle.std.proofs.iter.runs.Sources.{nat_range_steps_back}
use Rattle.std.proofs.lemmas.Iterator.{YieldsList, YieldsList-from_range, first_from_Range, first_from_find}
use Rattle.std.proofs.lemmas.Iterator.Consumers.{YieldsList-from_shown, fold_from_yields_List}
use Rattle.std.proofs.lemmas.List.Sums.{fold-append}
use Rattle.std.proofs.lemmas.List.Elements.{filter-append}
use Rattle.model.specs.Search.{any_below, all_below, count_below}

-- ---- folds

numbers : (a n : ℕ) → range_with_len a (suc n) ≡ range_with_len a n ++ ((a + n) ∷ [])
numbers a zero = ap (λ x. x ∷ []) (sym (add-zero a))
numbers a (suc n) =
    let last : a + 1 + n ≡ a + suc n = omega arith in
    ap (λ (xs : List ℕ). a ∷ xs) (numbers (a + 1) n ∙ ap (λ k. range_with_len (a + 1) n ++ (k ∷ [])) last)

module _ (p : ℕ → Bool) where
  fold-next : {B : Type 0} → (h : B → ℕ → B) (a : B) (n : ℕ) → fold h a (range_with_len 0 (suc n)) ≡ h (fold h a (range_with_len 0 n)) n
  fold-next h a n = ap (fold h a) (numbers 0 n) ∙ fold-append h a (range_with_len 0 n) ((0 + n) ∷ []) ∙ ap (h (fold h a (range_with_len 0 n))) (zero-add n)

  or-swap : (a b : Bool) → (a || b) ≡ (b || a)
  or-swap true true = refl
  or-swap true false = refl
  or-swap false true = refl
  or-swap false false = refl

  and-swap : (a b : Bool) → (a && b) ≡ (b && a)
  and-swap true true = refl
  and-swap true false = refl
  and-swap false true = refl
  and-swap false false = refl

  fold-or : (n : ℕ) → fold (λ a k. a || p k) false (range_with_len 0 n) ≡ any_below p n
  unfolding any_below
  fold-or zero = refl
  fold-or (suc n) = fold-next (λ a k. a || p k) false n ∙ or-swap _ (p n) ∙ ap (λ b. p n || b) (fold-or n)

  fold-and : (n : ℕ) → fold (λ a k. a && p k) true (range_with_len 0 n) ≡ all_below p n
  unfolding all_below
  fold-and zero = refl
  fold-and (suc n) = fold-next (λ a k. a && p k) true n ∙ and-swap _ (p n) ∙ ap (λ b. p n && b) (fold-and n)

  pub counted : (n : ℕ) → length (filter p (range_with_len 0 n)) ≡ count_below p n
  unfolding count_below
  counted zero = refl
  counted (suc n) =
      ap (λ xs. length (filter p xs)) (numbers 0 n) ∙ ap length (filter-append p (range_with_len 0 n) ((0 + n) ∷ []))
      ∙ length-append (filter p (range_with_len 0 n)) (filter p ((0 + n) ∷ []))
      ∙ ap₂ (λ (a b : ℕ). a + b) (counted n) (ap (λ k. length (filter p (k ∷ []))) (zero-add n) ∙ one (p n)) ∙ add_comm (count_below p n) (cond (p n) 1 0)
    where
      one : (b : Bool) → length (cond b (n ∷ []) []) ≡ cond b 1 0
      one true = refl
      one false = refl

abbrev Folded : {F : Type 0} → Mut F (Bool × (ℕ × Unit {0})) Bool → Range ℕ → F → Bool → Bool → Type 0
Folded {F} g s f a r = (xs : List ℕ) × (q : F) × Drains nat_range_steps s xs × FoldsTo (λ (a : F × Bool) x b. Called g a.0 (a.1, (x, tt)) b.1 b.0) (f, a) xs (q, r)

module _ {F : Type 0} {g : Mut F (Bool × (ℕ × Unit {0})) Bool} (s : Range ℕ) (f : F) (r : Bool) (p : ℕ → Bool) (n : ℕ) where
  pub fold-any : Folded g s f false r → s ≡ record { start = 0; end = n }
      → ((a : Bool) (x : ℕ) (b : Bool) (q : F) → Called g f (a, (x, tt)) b q → (q ≡ f) × (b ≡ (a || p x))) → r ≡ any_below p n
  fold-any ran is computes = fold_from_yields_List g (λ a k. a || p k) false r ran (YieldsList-from_range 0 n n is (sub-zero n)) computes ∙ fold-or p n

  pub fold-all : Folded g s f true r → s ≡ record { start = 0; end = n }
      → ((a : Bool) (x : ℕ) (b : Bool) (q : F) → Called g f (a, (x, tt)) b q → (q ≡ f) × (b ≡ (a && p x))) → r ≡ all_below p n
  fold-all ran is computes = fold_from_yields_List g (λ a k. a && p k) true r ran (YieldsList-from_range 0 n n is (sub-zero n)) computes ∙ fold-and p n

-- ---- the lowest index that passes, or the end: all before it fail

abbrev pub Passed : (ℕ → Bool) → ℕ → ℕ → Type 0
Passed p n t = (t ≤ n) × ((k : ℕ) → k < t → p k ≡ false)

abbrev Found : {F : Type 0} → Mut F (Bor ℕ × Unit {0}) Bool → Range ℕ → Range ℕ → F → Option ℕ → Type 0
Found {F} g s u f r =
    (xs : List ℕ) × (j : F) × YieldsThen nat_range_steps s xs r u × FoldsTo (λ p x q. CalledAt g p x false q) f xs j × MatchOption r ⊤ (λ x. (h : F) × CalledAt g j x true h)

passed-by : (p : ℕ → Bool) (n : ℕ) (r : Option ℕ)
    → MatchOption r ((k : ℕ) → 0 ≤ k → k < n → p k ≡ false) (λ i. (0 ≤ i) × (i < n) × (p i ≡ true) × ((k : ℕ) → 0 ≤ k → k < i → p k ≡ false))
    → Passed p n (unwrap_or r n)
passed-by p n (Some i) h = (omega (arith, h.1), λ k l. h.3 k (omega arith) l)
passed-by p n None h = (omega arith, λ k l. h k (omega arith) l)

pub find-passed : {F : Type 0} {g : Mut F (Bor ℕ × Unit {0}) Bool} (s u : Range ℕ) (f : F) (r : Option ℕ) (p : ℕ → Bool) (n : ℕ) → Found g s u f r
    → s ≡ record { start = 0; end = n } → ((x : ℕ) (q : F) → CalledAt g f x true q → p x ≡ true) → ((x : ℕ) (q : F) → CalledAt g f x false q → (q ≡ f) × (p x ≡ false))
    → Passed p n (unwrap_or r n)
find-passed s u f r p n ran is yes' no' =
    passed-by p n r (rw is at (first_from_Range s u f r (λ i. p i ≡ true) (λ i. p i ≡ false) ran yes' no'))

-- ---- from the top down

-- the last index below a bound that passes
abbrev pub LastBelow : (ℕ → Bool) → ℕ → Option ℕ → Type 0
LastBelow p n r = MatchOption r ((k : ℕ) → k < n → p k ≡ false) (λ i. (i < n) × (p i ≡ true) × ((k : ℕ) → i < k → k < n → p k ≡ false))

-- n numbers from a on, the highest first
abbrev down : ℕ → ℕ → List ℕ
down a zero = []
down a (suc n) = (a + n) ∷ down a n

length-down : (a n : ℕ) → length (down a n) ≡ n
length-down a zero = refl
length-down a (suc n) = ap suc (length-down a n)

down-at : (n i d : ℕ) → i < n → get_or (down 0 n) i d ≡ n - suc i
down-at zero i d l = absurd (omega arith)
down-at (suc n) zero d l = omega arith
down-at (suc n) (suc i) d l = down-at n i d (omega arith) ∙ omega arith

abbrev left : Rev (Range ℕ) → List ℕ
left s = down (rev_source s).start ((rev_source s).end - (rev_source s).start)

downwards : (s : Rev (Range ℕ)) → YieldsList (rev_steps nat_range_steps_back) (λ x. x) s (left s)
downwards = YieldsList-from_shown (rev_steps nat_range_steps_back) (λ x. x) left
    (λ s t h. length-down (rev_source s).start ((rev_source s).end - (rev_source s).start) ∙ h.1.0)
    (λ s x t h. one (rev_source s).start (rev_source t).start (rev_source s).end (rev_source t).end x h.0 h.1.0 h.1.1 h.1.2)
  where
    one : (a b e f x : ℕ) → b ≡ a → 0 < e - a → x ≡ f → e ≡ f + 1 → down a (e - a) ≡ x ∷ down b (f - b)
    one a b e f x i j k l =
        let n : e - a ≡ suc (f - b) = omega arith in
        let top : a + (f - b) ≡ x = omega arith in
        ap (down a) n ∙ ap₂ (λ (y : ℕ) (z : ℕ). y ∷ down z (f - b)) top (sym i)

last-of : (p : ℕ → Bool) (n : ℕ) (r : Option ℕ)
    → MatchOption r (AllWithin (λ i. p i ≡ false) (down 0 n) 0 (length (down 0 n)))
    (λ x. (p x ≡ true) × (i : ℕ) × (i < length (down 0 n)) × HoldsAt (λ y. y ≡ x) (down 0 n) i × AllWithin (λ i. p i ≡ false) (down 0 n) 0 i)
    → LastBelow p n r
last-of p n r h = go r h
  where
    past : (m : ℕ) → m ≤ n → AllWithin (λ i. p i ≡ false) (down 0 n) 0 m → (k : ℕ) → n - m ≤ k → k < n → p k ≡ false
    past m l h k a b =
        let e : n - suc (n - suc k) ≡ k = omega arith in
        rw (down-at n (n - suc k) 0 (omega arith), e) at (h (n - suc k) 0 (omega arith) (omega arith))

    go : (r : Option ℕ) → MatchOption r (AllWithin (λ i. p i ≡ false) (down 0 n) 0 (length (down 0 n)))
        (λ x. (p x ≡ true) × (i : ℕ) × (i < length (down 0 n)) × HoldsAt (λ y. y ≡ x) (down 0 n) i × AllWithin (λ i. p i ≡ false) (down 0 n) 0 i)
        → LastBelow p n r
    go None h = λ k l. past n (omega arith) (rw length-down at h) k (omega arith) l
    go (Some x) h =
        let l : h.1 < n = omega (arith, h.2, length-down 0 n) in
        let at : x ≡ n - suc h.1 = sym (h.3 0) ∙ down-at n h.1 0 l in
        (omega arith, h.0, λ k a b. past h.1 (omega arith) h.4 k (omega arith) b)

pub find-last : {F : Type 0} {g : Mut F (Bor ℕ × Unit {0}) Bool} (s u : Rev (Range ℕ)) (f : F) (r : Option ℕ) (p : ℕ → Bool) (n : ℕ)
    → (xs : List ℕ) × (j : F) × YieldsThen (rev_steps nat_range_steps_back) s xs r u × FoldsTo (λ p x q. CalledAt g p x false q) f xs j
    × MatchOption r ⊤ (λ x. (h : F) × CalledAt g j x true h)
    → rev_source s ≡ record { start = 0; end = n } → ((x : ℕ) (q : F) → CalledAt g f x true q → p x ≡ true)
    → ((x : ℕ) (q : F) → CalledAt g f x false q → (q ≡ f) × (p x ≡ false)) → LastBelow p n r
find-last s u f r p n ran is yes' no' =
    let all : left s ≡ down 0 n = ap (λ (k : Range ℕ). down k.start (k.end - k.start)) is ∙ ap (down 0) (sub-zero n) in
    last-of p n r (rw all at (first_from_find u f r (λ i. p i ≡ true) (λ i. p i ≡ false) ran (downwards s) yes' no'))

-- ---- an array made by index
