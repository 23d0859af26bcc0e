-- Laws of a set of renames as the ledger says it: its names, two by two, are those that the definitions cut from the bytes, and what is a bad
-- set is one there. Also the sectors that a set touches, from its first rename on. Assumes nothing.
use Prim.Native.Nat.{ℕ, zero, suc, ◌+◌, ◌*◌, ◌/◌, ◌%◌, ◌≤◌, ◌<◌}
use mathlib.Core.Path.{◌≡◌, refl, sym, ap, ap₂, ◌∙◌}
use mathlib.Core.Bool.{Bool, true, false, cond, not, ◌||◌}
use mathlib.Core.List.{List, [], ◌∷◌, ◌++◌}
use native.Mathlib.Omega.{arith}
use native.Mathlib.Decide.{dec_lt}
use native.Mathlib.Nat.{add-zero, zero-add}
use lib.Dec.{eqb, ltb}
use lib.ListN.{length, get_or, drop, length-drop}
use lib.Seq.{get_or-drop}
use borrow.Author.Tests.{eqb-true, eqb-false, ne_eqb, lt-ltb, ltb-false}
use Rattle.model.specs.Bytes.{bytes_from}
use Rattle.model.specs.Search.{any_below, all_below, tabulate}
use Rattle.model.specs.Ledger.{Ledger, names_of, pairs_of, sum_of, unfit_set}
use Rattle.model.specs.RenameSet.{name_start, name_of, bad_set}
use Rattle.laws.proofs.Booleans.{or-none, or_right}
use Rattle.laws.proofs.Search.{tabulate-ext, tabulate-split, all_below-at, any_below-no}
use Rattle.laws.proofs.Bytes.{bytes_from-eq}

-- ---- lists and tests from the front

pub tabulate-front {ℓ} : {A : Type ℓ} (f : ℕ → A) (a n : ℕ) → tabulate f a (suc n) ≡ f a ∷ tabulate f (suc a) n
unfolding tabulate
tabulate-front f a n =
    let e : suc n ≡ 1 + n = omega arith in
    let s : a + 1 ≡ suc a = omega arith in
    ap (tabulate f a) e ∙ tabulate-split f a 1 n ∙ ap₂ (λ x y. f x ∷ tabulate f y n) (add-zero a) s

-- the test holds at one of k, k + 1, .., k + m - 1
unfoldable pub any_from : (ℕ → Bool) → ℕ → ℕ → Bool
any_from p k zero = false
any_from p k (suc m) = p k || any_from p (suc k) m

or-last : (a b c : Bool) → (a || (b || c)) ≡ (b || (a || c))
or-last true true c = refl
or-last true false c = refl
or-last false b c = refl

any_from-last : (p : ℕ → Bool) (m k : ℕ) → any_from p k (suc m) ≡ (p (k + m) || any_from p k m)
unfolding any_from
any_from-last p zero k = ap (λ x. p x || false) (sym (add-zero k))
any_from-last p (suc m) k =
    let e : suc k + m ≡ k + suc m = omega arith in
    ap (λ (b : Bool). p k || b) (any_from-last p m (suc k)) ∙ or-last (p k) (p (suc k + m)) (any_from p (suc k) m) ∙ ap (λ x. p x || (p k || any_from p (suc k) m)) e

pub any_from-all : (p : ℕ → Bool) (n : ℕ) → any_below p n ≡ any_from p 0 n
unfolding any_below any_from
any_from-all p zero = refl
any_from-all p (suc n) = ap (λ (b : Bool). p n || b) (any_from-all p n) ∙ ap (λ x. p x || any_from p 0 n) (sym (zero-add n)) ∙ sym (any_from-last p n 0)

-- ---- the names

start-next : (n : ℕ) (ns : List ℕ) (k : ℕ) → name_start (n ∷ ns) (suc k) ≡ n + name_start ns k
unfolding name_start
start-next n ns zero = omega arith
start-next n ns (suc k) = let e : name_start (n ∷ ns) (suc k) ≡ n + name_start ns k = start-next n ns k in omega arith

pub sum_is : (lengths : List ℕ) → name_start lengths (length lengths) ≡ sum_of lengths
unfolding name_start sum_of
sum_is [] = refl
sum_is (n ∷ ns) = start-next n ns (length ns) ∙ ap (λ x. n + x) (sum_is ns)

bytes_from-drop : (s : List ℕ) (n a m : ℕ) → bytes_from (drop n s) a m ≡ bytes_from s (n + a) m
unfolding bytes_from
bytes_from-drop s n a zero = refl
bytes_from-drop s n a (suc m) =
    let e : n + (a + m) ≡ n + a + m = omega arith in
    ap₂ (λ (l : List ℕ) (x : ℕ). l ++ (x ∷ [])) (bytes_from-drop s n a m) (get_or-drop n s (a + m) 0 ∙ ap (λ k. get_or s k 0) e)

pub names-are : (lengths bytes : List ℕ) → sum_of lengths ≤ length bytes → names_of bytes lengths ≡ tabulate (name_of bytes lengths) 0 (length lengths)
unfolding names_of tabulate name_of name_start sum_of
names-are [] bytes h = refl
names-are (n ∷ ns) bytes h =
    ap₂ (λ (x : List ℕ) (l : List (List ℕ)). x ∷ l) (sym (bytes_from-eq bytes 0 n (omega arith)))
    (names-are ns (drop n bytes) (omega (arith, length-drop n bytes))
    ∙ tabulate-ext (name_of (drop n bytes) ns) (name_of bytes (n ∷ ns)) 0 1 (length ns) (λ k l. next k))
    ∙ sym (tabulate-front (name_of bytes (n ∷ ns)) 0 (length ns))
  where
    next : (k : ℕ) → name_of (drop n bytes) ns (0 + k) ≡ name_of bytes (n ∷ ns) (1 + k)
    next k =
        let a : 0 + k ≡ k = omega arith in
        let b : 1 + k ≡ suc k = omega arith in
        ap (name_of (drop n bytes) ns) a ∙ bytes_from-drop bytes n (name_start ns k) (get_or ns k 0)
        ∙ ap (λ x. bytes_from bytes x (get_or ns k 0)) (sym (start-next n ns k)) ∙ ap (name_of bytes (n ∷ ns)) (sym b)

-- names two by two; those of renames k, k + 1, .., k + m - 1, an old one and a new one of each
abbrev pub Pairs : Type 0
Pairs = List (List ℕ × List ℕ)

unfoldable pub pairs_from : (ℕ → List ℕ) → ℕ → ℕ → Pairs
pairs_from f k zero = []
pairs_from f k (suc m) = (f (2 * k), f (2 * k + 1)) ∷ pairs_from f (suc k) m

two-by-two : (f : ℕ → List ℕ) (m k : ℕ) → pairs_of (tabulate f (2 * k) (2 * m)) ≡ pairs_from f k m
unfolding pairs_of pairs_from tabulate
two-by-two f zero k = refl
two-by-two f (suc m) k =
    let e : 2 * suc m ≡ suc (suc (2 * m)) = omega arith in
    let a : suc (2 * k) ≡ 2 * k + 1 = omega arith in
    let b : suc (suc (2 * k)) ≡ 2 * suc k = omega arith in
    ap (λ n. pairs_of (tabulate f (2 * k) n)) e ∙ ap pairs_of (tabulate-front f (2 * k) (suc (2 * m)))
    ∙ ap (λ (l : List (List ℕ)). pairs_of (f (2 * k) ∷ l)) (tabulate-front f (suc (2 * k)) (2 * m))
    ∙ ap₂ (λ x y. (f (2 * k), f x) ∷ pairs_of (tabulate f y (2 * m))) a b
    ∙ ap (λ (l : Pairs). (f (2 * k), f (2 * k + 1)) ∷ l) (two-by-two f m (suc k))

-- ---- a set of a good shape

pub record GoodSet (names lengths : List ℕ) : Type 0 where
  pub pairs : length lengths ≡ 2 * (length lengths / 2)
  pub some : 0 < length lengths / 2
  pub few : length lengths / 2 ≤ 8
  pub sum : sum_of lengths ≡ length names

pub good-set : (names lengths : List ℕ) → bad_set names lengths ≡ false → GoodSet names lengths
unfolding bad_set
good-set names lengths h =
    let n = length lengths in
    let a = or-none (eqb n 0 || ltb 16 n || eqb (n % 2) 1) _ h in
    let b = or-none (eqb n 0 || ltb 16 n) (eqb (n % 2) 1) a.0 in
    let c = or-none (eqb n 0) (ltb 16 n) b.0 in
    let zero-not : n ≡ 0 → ⊥ = eqb-false n 0 c.0 in
    let most : n ≤ 16 = ltb-false 16 n c.1 in
    let even : n % 2 ≡ 1 → ⊥ = eqb-false (n % 2) 1 b.1 in
    record {
      pairs = omega arith;
      some = omega arith;
      few = omega arith;
      sum = sym (sum_is lengths) ∙ eqb-true (name_start lengths n) (length names) (back (eqb (name_start lengths n) (length names)) a.1);
    }
  where
    back : (b : Bool) → not b ≡ false → b ≡ true
    back true e = refl
    back false e = sym e

pub pairs-are : (names lengths : List ℕ) → GoodSet names lengths → pairs_of (names_of names lengths) ≡ pairs_from (name_of names lengths) 0 (length lengths / 2)
pairs-are names lengths good =
    let s : sum_of lengths ≡ length names = good.sum in
    ap pairs_of (names-are lengths names (omega arith)) ∙ ap (λ n. pairs_of (tabulate (name_of names lengths) 0 n)) good.pairs ∙ two-by-two (name_of names lengths) (length lengths / 2) 0

-- a count of lengths is that of one to eight pairs: tried up to 16
abbrev alike : Bool → Bool → Bool
alike a b = cond a b (not b)

alike_same : (a b : Bool) → alike a b ≡ true → a ≡ b
alike_same true true e = refl
alike_same true false e = sym e
alike_same false true e = e
alike_same false false e = refl

abbrev bad_count : ℕ → Bool
bad_count n = eqb n 0 || ltb 16 n || eqb (n % 2) 1

abbrev no_pairs : ℕ → Bool
no_pairs n = not (any_below (λ k. eqb n (2 * (k + 1))) 8)

counts-low : all_below (λ n. alike (bad_count n) (no_pairs n)) 17 ≡ true
unfolding all_below any_below
counts-low = refl

counts : (n : ℕ) → bad_count n ≡ no_pairs n
counts n = go (dec_lt n 17)
  where
    go : Dec (n < 17) → bad_count n ≡ no_pairs n
    go (yes l) = alike_same (bad_count n) (no_pairs n) (all_below-at (λ n. alike (bad_count n) (no_pairs n)) 17 counts-low n l)
    go (no l) =
        ap (λ (b : Bool). b || eqb (n % 2) 1) (or_right (eqb n 0) (ltb 16 n) (lt-ltb 16 n (omega arith)))
        ∙ sym (ap not (any_below-no (λ k. eqb n (2 * (k + 1))) 8 (λ k q. ne_eqb n (2 * (k + 1)) (λ e. omega arith))))

pub bad-is : (L : Ledger) (names lengths : List ℕ) → bad_set names lengths ≡ unfit_set L names lengths
unfolding bad_set
bad-is L names lengths =
    ap₂ (λ (a : Bool) (n : ℕ). a || not (eqb n (length names))) (counts (length lengths)) (sum_is lengths)
