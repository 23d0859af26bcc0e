-- What the library's slices give, in the words of `Bytes` and `Search`: a part that is lent or written over, two that are equal, and the least and
-- the greatest of the bytes.
use Prim.Native.Nat.{ℕ, zero, suc, ◌+◌, ◌-◌, ◌≤◌, ◌<◌, min, max}
use mathlib.Core.Path.{◌≡◌, refl, sym, ap, ◌∙◌}
use mathlib.Core.Bool.{Bool, true, false, ◌&&◌, ◌||◌}
use mathlib.Core.List.{List, [], ◌∷◌}
use native.Mathlib.Omega.{arith}
use lib.Dec.{eqb}
use lib.ListN.{length, get_or, take, drop, replicate, length-replicate}
use lib.Seq.{sets-eq}
use lib.Pointwise.{pointwise}
use borrow.Rule.Slice.PartMut.{put_mid}
use borrow.Author.Tests.{eq-eqb, ne_eqb, eqb-true, eqb-false}
use Rattle.std.specs.List.{fold}
use Rattle.std.proofs.lemmas.Cmp.{nat_list_eq_equiv}
use Rattle.std.proofs.lemmas.Slice.{put_mid-paste}
use Rattle.std.proofs.Common.{append_assoc}
use Rattle.std.proofs.Math.Dec.{eqb-suc-zero, eqb-zero-suc, eqb-suc-suc}
use Rattle.std.proofs.lemmas.List.Edits.{paste_all}
use Rattle.model.specs.Bytes.{bytes_from, put}
use Rattle.model.specs.Search.{any_below, all_below, equal_bytes}
use Rattle.laws.proofs.Booleans.{max-zero, or-false}
use Rattle.laws.proofs.Bytes.{get_or-bytes_from, bytes_from-eq, bytes_from-all, bytes_from-ext, zeros-at, length-bytes_from}

-- ---- parts

pub part : (s : List ℕ) (from n : ℕ) → from + n ≤ length s → take (from + n - from) (drop from s) ≡ bytes_from s from n
part s from n h =
    let w : from + n - from ≡ n = omega arith in
    rw w (sym (bytes_from-eq s from n h))

pub length-part : (s : List ℕ) (from n : ℕ) → from + n ≤ length s → length (take (from + n - from) (drop from s)) ≡ n
length-part s from n h = ap length (part s from n h) ∙ length-bytes_from s from n

pub byte-part : (s : List ℕ) (from n i : ℕ) → from + n ≤ length s → i < n → get_or (take (from + n - from) (drop from s)) i 0 ≡ get_or s (from + i) 0
byte-part s from n i h l = rw (part s from n h) (get_or-bytes_from s from n i l)

pub overwritten : (l : List ℕ) (at n : ℕ) (vs : List ℕ) → length vs ≡ n → at + n ≤ length l → put_mid at (at + n - at) l vs ≡ put l at vs
unfolding put
overwritten l at n vs e h =
    let w : n ≡ at + n - at = omega arith in
    let v : n ≡ length vs = sym e in
    put_mid-paste at (at + n - at) l vs vs n refl w v ∙ paste_all l at vs n v
    ∙ sym (sets-eq vs l at (omega arith) ∙ rw (e, append_assoc))

-- `fill`
pub zeros : (n : ℕ) → replicate n 0 ≡ bytes_from [] 0 n
zeros n = sym (bytes_from-all (replicate n 0) n (length-replicate n 0)) ∙ bytes_from-ext (replicate n 0) [] 0 0 n (λ i k. zeros-at n (0 + i))

-- ---- tests over the bytes, from the front

and_swap : (a b c : Bool) → (a && (b && c)) ≡ (b && (a && c))
and_swap true b c = refl
and_swap false true c = refl
and_swap false false c = refl

all_below-front : (p : ℕ → Bool) (n : ℕ) → all_below p (suc n) ≡ (p 0 && all_below (λ k. p (suc k)) n)
unfolding all_below
all_below-front p zero = refl
all_below-front p (suc n) = ap (λ (q : Bool). p (suc n) && q) (all_below-front p n) ∙ and_swap (p (suc n)) (p 0) (all_below (λ k. p (suc k)) n)

or_swap : (a b c : Bool) → (a || (b || c)) ≡ (b || (a || c))
or_swap false b c = refl
or_swap true true c = refl
or_swap true false c = refl

any_below-front : (p : ℕ → Bool) (n : ℕ) → any_below p (suc n) ≡ (p 0 || any_below (λ k. p (suc k)) n)
unfolding any_below
any_below-front p zero = refl
any_below-front p (suc n) = ap (λ (q : Bool). p (suc n) || q) (any_below-front p n) ∙ or_swap (p (suc n)) (p 0) (any_below (λ k. p (suc k)) n)

-- `==` and `starts_with`
pub equal-pointwise : (a b : List ℕ) → pointwise eqb a b ≡ equal_bytes a b
unfolding equal_bytes all_below
equal-pointwise [] [] = refl
equal-pointwise [] (y ∷ ys) = rw eqb-zero-suc
equal-pointwise (x ∷ xs) [] = rw eqb-suc-zero
equal-pointwise (x ∷ xs) (y ∷ ys) =
    rw eqb-suc-suc
    (ap (λ (q : Bool). eqb x y && q) (equal-pointwise xs ys)
    ∙ and_swap (eqb x y) (eqb (length xs) (length ys)) (all_below (λ k. eqb (get_or xs k 0) (get_or ys k 0)) (length ys))
    ∙ ap (λ (q : Bool). eqb (length xs) (length ys) && q) (sym (all_below-front (λ k. eqb (get_or (x ∷ xs) k 0) (get_or (y ∷ ys) k 0)) (length ys))))

pub starts-bytes : (s text : List ℕ) → length text ≤ length s → pointwise eqb text (take (length text) s) ≡ equal_bytes (bytes_from s 0 (length text)) text
starts-bytes s text h =
    nat_list_eq_equiv.symm text (take (length text) s) ∙ equal-pointwise (take (length text) s) text
    ∙ ap (λ r. equal_bytes r text) (sym (bytes_from-eq s 0 (length text) (omega arith)))

-- ---- the least byte is 0 if one of them is, and the greatest if all are

abbrev pub zero_at : List ℕ → ℕ → Bool
zero_at bytes k = eqb (get_or bytes k 0) 0

min-zero : (v x : ℕ) → eqb (min v x) 0 ≡ (eqb v 0 || eqb x 0)
min-zero v x = go (eqb x 0) refl (eqb v 0) refl
  where
    go : (a : Bool) → eqb x 0 ≡ a → (b : Bool) → eqb v 0 ≡ b → eqb (min v x) 0 ≡ (b || a)
    go a p true q = eq-eqb (min v x) 0 (omega (arith, eqb-true v 0 q))
    go true p false q = eq-eqb (min v x) 0 (omega (arith, eqb-true x 0 p))
    go false p false q =
        let m : (x ≡ 0) → ⊥ = eqb-false x 0 p in
        let n : (v ≡ 0) → ⊥ = eqb-false v 0 q in
        ne_eqb (min v x) 0 (λ e. omega arith)

or_assoc : (a b c : Bool) → ((a || b) || c) ≡ (a || (b || c))
or_assoc true b c = refl
or_assoc false b c = refl

least_from : (bytes : List ℕ) (a : ℕ) → eqb (fold min a bytes) 0 ≡ (eqb a 0 || any_below (zero_at bytes) (length bytes))
unfolding any_below
least_from [] a = sym (or-false (eqb a 0))
least_from (x ∷ xs) a =
    least_from xs (min a x) ∙ ap (λ (q : Bool). q || any_below (zero_at xs) (length xs)) (min-zero a x)
    ∙ or_assoc (eqb a 0) (eqb x 0) (any_below (zero_at xs) (length xs))
    ∙ ap (λ (q : Bool). eqb a 0 || q) (sym (any_below-front (zero_at (x ∷ xs)) (length xs)))

pub least-zero : (bytes : List ℕ) → eqb (fold min 255 bytes) 0 ≡ any_below (zero_at bytes) (length bytes)
least-zero bytes = least_from bytes 255

-- the same of numbers, where a fold begins with 1
pub least-one : (numbers : List ℕ) → eqb (fold min 1 numbers) 0 ≡ any_below (zero_at numbers) (length numbers)
least-one numbers = least_from numbers 1

and_three : (a b c : Bool) → ((a && b) && c) ≡ (b && (a && c))
and_three true b c = refl
and_three false true c = refl
and_three false false c = refl

and_end : (b : Bool) → (b && true) ≡ b
and_end true = refl
and_end false = refl

greatest_from : (bytes : List ℕ) (a : ℕ) → eqb (fold max a bytes) 0 ≡ (eqb a 0 && all_below (zero_at bytes) (length bytes))
unfolding all_below
greatest_from [] a = sym (and_end (eqb a 0))
greatest_from (x ∷ xs) a =
    greatest_from xs (max a x) ∙ ap (λ (q : Bool). q && all_below (zero_at xs) (length xs)) (max-zero a x)
    ∙ and_three (eqb x 0) (eqb a 0) (all_below (zero_at xs) (length xs))
    ∙ ap (λ (q : Bool). eqb a 0 && q) (sym (all_below-front (zero_at (x ∷ xs)) (length xs)))

pub greatest-zero : (bytes : List ℕ) → eqb (fold max 0 bytes) 0 ≡ all_below (zero_at bytes) (length bytes)
greatest-zero bytes = greatest_from bytes 0
