-- Laws of `Bytes`: what a byte, a run of bytes or a number reads, before and after a store. Assumes nothing.
use Prim.Native.Nat.{ℕ, zero, suc, ◌+◌, ◌-◌, ◌*◌, ◌/◌, ◌%◌, ◌^◌, ◌<◌, ◌≤◌}
use mathlib.Core.Path.{◌≡◌, refl, ap, ap₂, sym, ◌∙◌}
use mathlib.Core.Logic.{◌≢◌, ⊎_elim}
use mathlib.Core.Bool.{Bool, true, false, cond, ◌&&◌, ◌||◌, true≢false}
use mathlib.Core.List.{List, [], ◌∷◌, ◌++◌, append-nil}
use native.Mathlib.Nat.{add-zero, zero-add, add_assoc, eq-or-lt_of_le, add-suc, suc-add, pow-suc, pow-le-pow_right, lt_of_lt_of_le, not-suc-le-zero, div-add-mod', div-lt_iff_lt-mul}
use native.Mathlib.Numerals.{add-one, sub-one}
use native.Mathlib.Omega.{arith}
use lib.Dec.{eqb, leb, ltb, lit<, lit≤}
use lib.ListN.{length, get_or, take, drop, set, length-append, length-drop, length-set, length-replicate, replicate, get_or-append, drop_of_length-le}
use lib.Seq.{sets, length-sets, sets-eq, set_comm, take-suc, take_all, get_or-drop, get_or-take, get_or_at, get_or-set_same, get_or-set_other, ext_get_or, get_or-append-add}
use borrow.Author.Tests.{eqb-true, eqb-false, leb-true, ltb-true}
use Rattle.model.specs.Bytes.{Field, be_at, be_bytes, bytes_from, number_in, put, zero_sector, ones_sector}
use Rattle.laws.proofs.Booleans.{and_left, and_right, range-yes}

-- ---- lengths, none of which asks anything

pub length-be_bytes : (w v : ℕ) → length (be_bytes w v) ≡ w
unfolding be_bytes
length-be_bytes zero v = refl
length-be_bytes (suc w) v = simp length-append (omega (arith, length-be_bytes w (v / 256)))

pub length-bytes_from : (s : List ℕ) (from n : ℕ) → length (bytes_from s from n) ≡ n
unfolding bytes_from
length-bytes_from s from zero = refl
length-bytes_from s from (suc n) = simp length-append (omega (arith, length-bytes_from s from n))

pub length-put : (l : List ℕ) (at : ℕ) (vs : List ℕ) → length (put l at vs) ≡ length l
unfolding put
length-put l at vs = length-sets l at vs

-- ---- one more

pub be_at-more : (s : List ℕ) (at i : ℕ) → be_at s at (i + 1) ≡ be_at s at i * 256 + get_or s (at + i) 0
unfolding be_at
be_at-more s at i = rw add-one

pub bytes_from-more : (s : List ℕ) (from i : ℕ) → bytes_from s from (i + 1) ≡ bytes_from s from i ++ (get_or s (from + i) 0 ∷ [])
unfolding bytes_from
bytes_from-more s from i = rw add-one

bytes_from-nil : (s : List ℕ) (from : ℕ) → bytes_from s from 0 ≡ []
unfolding bytes_from
bytes_from-nil s from = refl

bytes_from-suc : (s : List ℕ) (from n : ℕ) → bytes_from s from (suc n) ≡ bytes_from s from n ++ (get_or s (from + n) 0 ∷ [])
unfolding bytes_from
bytes_from-suc s from n = refl

-- ---- stores

pub put-nil : (l : List ℕ) (at : ℕ) → put l at [] ≡ l
unfolding put
put-nil l at = refl

-- two runs stored one after the other are one run
pub put-append : (l : List ℕ) (at : ℕ) (a b : List ℕ) → put l at (a ++ b) ≡ put (put l at a) (at + length a) b
unfolding put
put-append l at [] b = rw add-zero
put-append l at (x ∷ a) b = put-append (set l at x) (suc at) a b ∙ ap (λ (k : ℕ). sets (sets (set l at x) (suc at) a) k b) (suc-add at (length a) ∙ sym (add-suc at (length a)))

pub put-snoc : (l : List ℕ) (at : ℕ) (a : List ℕ) (x : ℕ) → put l at (a ++ (x ∷ [])) ≡ set (put l at a) (at + length a) x
unfolding put
put-snoc l at a x = put-append l at a (x ∷ [])

-- a store past a run may as well come before it
set-put : (l : List ℕ) (at : ℕ) (a : List ℕ) (k x : ℕ) → at + length a ≤ k → set (put l at a) k x ≡ put (set l k x) at a
unfolding put
set-put l at [] k x h = refl
set-put l at (y ∷ a) k x h =
    set-put (set l at y) (suc at) a k x (omega arith)
    ∙ ap (λ (m : List ℕ). sets m (suc at) a) (set_comm l at k y x (λ e. omega arith))

-- a run stored from its last byte backwards
pub put_back : (l : List ℕ) (at : ℕ) (a : List ℕ) (x : ℕ) → put (set l (at + length a) x) at a ≡ put l at (a ++ (x ∷ []))
put_back l at a x = sym (put-snoc l at a x ∙ set-put l at a (at + length a) x (omega arith))

pub be_bytes-more : (w v : ℕ) → 0 < w → be_bytes w v ≡ be_bytes (w - 1) (v / 256) ++ (v % 256 ∷ [])
unfolding be_bytes
be_bytes-more zero v h = elim h [ ]
be_bytes-more (suc w) v h = rw sub-one

pub zeros-at : (n p : ℕ) → get_or (replicate {A = ℕ} n 0) p 0 ≡ 0
zeros-at zero p = refl
zeros-at (suc n) zero = refl
zeros-at (suc n) (suc p) = zeros-at n p

-- a number of w bytes is below 256 ^ w
pub pow_more : (i v b : ℕ) → v < 256 ^ i → b < 256 → v * 256 + b < 256 ^ (i + 1)
pow_more i v b h k = rw (add-one, pow-suc) (omega arith)

pub pow-seven : (i v : ℕ) → v < 256 ^ i → i < 8 → v < 2 ^ 56
pow-seven i v h k = lt_of_lt_of_le h (pow-le-pow_right (lit≤ tt) {i = i} {j = 7} (omega arith))

-- ---- a run within its list

pub bytes_from-eq : (s : List ℕ) (from n : ℕ) → from + n ≤ length s → bytes_from s from n ≡ take n (drop from s)
unfolding bytes_from
bytes_from-eq s from zero h = refl
bytes_from-eq s from (suc n) h =
    let k : n < length (drop from s) = simp length-drop (omega arith) in
    ap (λ (r : List ℕ). r ++ (get_or s (from + n) 0 ∷ [])) (bytes_from-eq s from n (omega arith))
    ∙ sym (take-suc (drop from s) n 0 k ∙ rw get_or-drop)

pub bytes_from-all : (s : List ℕ) (n : ℕ) → length s ≡ n → bytes_from s 0 n ≡ s
bytes_from-all s n h = bytes_from-eq s 0 n (omega arith) ∙ take_all n s (omega arith)

-- ---- a byte, a number and a run of a run: nothing is asked of the list's length

pub get_or-bytes_from : (s : List ℕ) (from n i : ℕ) → i < n → get_or (bytes_from s from n) i 0 ≡ get_or s (from + i) 0
unfolding bytes_from
get_or-bytes_from s from zero i h = absurd (omega arith)
get_or-bytes_from s from (suc n) i h =
    let le : i ≤ n = omega arith in
    ⊎_elim
    (λ (q : i ≡ n). get_or_at (bytes_from s from n) (get_or s (from + n) 0) [] 0 i (length-bytes_from s from n ∙ sym q) ∙ rw q)
    (λ (l : i < n). get_or-append (bytes_from s from n) (get_or s (from + n) 0 ∷ []) 0 i (rw length-bytes_from l) ∙ get_or-bytes_from s from n i l)
    (eq-or-lt_of_le le)

pub be_at-bytes_from : (s : List ℕ) (from n o w : ℕ) → o + w ≤ n → be_at (bytes_from s from n) o w ≡ be_at s (from + o) w
unfolding be_at
be_at-bytes_from s from n o zero h = refl
be_at-bytes_from s from n o (suc w) h =
    let i : o + w < n = omega arith in
    let e : from + (o + w) ≡ from + o + w = omega arith in
    rw (get_or-bytes_from s from n (o + w) i, e) (ap (λ (x : ℕ). x * 256 + get_or s (from + o + w) 0) (be_at-bytes_from s from n o w (omega arith)))

pub bytes_from-bytes_from : (s : List ℕ) (from n o m : ℕ) → o + m ≤ n → bytes_from (bytes_from s from n) o m ≡ bytes_from s (from + o) m
bytes_from-bytes_from s from n o zero h = bytes_from-nil (bytes_from s from n) o ∙ sym (bytes_from-nil s (from + o))
bytes_from-bytes_from s from n o (suc m) h =
    let i : o + m < n = omega arith in
    let e : from + (o + m) ≡ from + o + m = omega arith in
    rw (bytes_from-suc (bytes_from s from n) o m, bytes_from-suc s (from + o) m, get_or-bytes_from s from n (o + m) i, e)
    (ap (λ (x : List ℕ). x ++ (get_or s (from + o + m) 0 ∷ [])) (bytes_from-bytes_from s from n o m (omega arith)))

-- a list of the run's own length becomes the run
pub put_all : (l vs : List ℕ) → length vs ≡ length l → put l 0 vs ≡ vs
unfolding put
put_all l vs e =
    let h : length l ≤ length vs = omega arith in
    sets-eq vs l 0 (omega arith) ∙ rw (zero-add, drop_of_length-le l) (append-nil vs)

pub length-zero_sector : length zero_sector ≡ 512
unfolding zero_sector
length-zero_sector = length-replicate {A = ℕ} 512 0

number-zeros : (o w : ℕ) → be_at zero_sector o w ≡ 0
unfolding be_at zero_sector
number-zeros o zero = refl
number-zeros o (suc w) = ap₂ (λ n x. n * 256 + x) (number-zeros o w) (zeros-at 512 (o + w))

pub zero_field : (f : Field) → number_in zero_sector f ≡ 0
zero_field f = number-zeros f.offset f.width

pub length-ones_sector : length ones_sector ≡ 512
unfolding ones_sector
length-ones_sector = length-replicate {A = ℕ} 512 255

-- a part of a list, as the code lends it
pub bytes_from-part : (s : List ℕ) (a m n : ℕ) → n ≤ m → bytes_from (take m (drop a s)) 0 n ≡ bytes_from s a n
bytes_from-part s a m zero h = bytes_from-nil (take m (drop a s)) 0 ∙ sym (bytes_from-nil s a)
bytes_from-part s a m (suc n) h =
    let k : n < m = omega arith in
    let e : get_or (take m (drop a s)) (0 + n) 0 ≡ get_or s (a + n) 0 = rw (zero-add, get_or-take, get_or-drop) in
    rw (bytes_from-suc (take m (drop a s)) 0 n, bytes_from-suc s a n, e) (ap (λ (x : List ℕ). x ++ (get_or s (a + n) 0 ∷ [])) (bytes_from-part s a m n (omega arith)))

-- ---- after a store

-- a byte that is not stored over
pub get_or-put-other : (l : List ℕ) (at : ℕ) (vs : List ℕ) (i : ℕ) → (at ≤ i → i < at + length vs → ⊥) → get_or (put l at vs) i 0 ≡ get_or l i 0
unfolding put
get_or-put-other l at [] i h = refl
get_or-put-other l at (v ∷ vs) i h =
    get_or-put-other (set l at v) (suc at) vs i (λ a b. h (omega arith) (omega arith))
    ∙ get_or-set_other l at i v 0 (λ e. h (omega arith) (omega arith))

-- one that is
pub get_or-put-same : (l : List ℕ) (at : ℕ) (vs : List ℕ) (k : ℕ) → k < length vs → at + k < length l → get_or (put l at vs) (at + k) 0 ≡ get_or vs k 0
unfolding put
get_or-put-same l at [] k h r = absurd (not-suc-le-zero h)
get_or-put-same l at (v ∷ vs) zero h r =
    rw (add-zero at)
    (get_or-put-other (set l at v) (suc at) vs at (λ a b. omega arith) ∙ get_or-set_same l at v 0 (omega arith))
get_or-put-same l at (v ∷ vs) (suc k) h r =
    let q : suc at + k < length (set l at v) = simp length-set (omega arith) in
    rw (add-suc at k, ← suc-add at k) (get_or-put-same (set l at v) (suc at) vs k (omega arith) q)

-- ---- stretches and numbers are read byte by byte

pub bytes_from-ext : (s t : List ℕ) (a b n : ℕ) → ((i : ℕ) → i < n → get_or s (a + i) 0 ≡ get_or t (b + i) 0) → bytes_from s a n ≡ bytes_from t b n
unfolding bytes_from
bytes_from-ext s t a b zero h = refl
bytes_from-ext s t a b (suc n) h = ap₂ (λ l x. l ++ (x ∷ [])) (bytes_from-ext s t a b n (λ i k. h i (omega arith))) (h n (omega arith))

be_at-ext : (s t : List ℕ) (a b w : ℕ) → ((i : ℕ) → i < w → get_or s (a + i) 0 ≡ get_or t (b + i) 0) → be_at s a w ≡ be_at t b w
unfolding be_at
be_at-ext s t a b zero h = refl
be_at-ext s t a b (suc w) h = ap₂ (λ n x. n * 256 + x) (be_at-ext s t a b w (λ i k. h i (omega arith))) (h w (omega arith))

-- ---- stores elsewhere: the bytes from a to a + n and those from b to b + m lie apart

abbrev pub Apart : ℕ → ℕ → ℕ → ℕ → Type 0
Apart a n b m = (i : ℕ) → a ≤ i → i < a + n → b ≤ i → i < b + m → ⊥

pub bytes_from-put-other : (l : List ℕ) (at : ℕ) (vs : List ℕ) (from n : ℕ) → Apart from n at (length vs) → bytes_from (put l at vs) from n ≡ bytes_from l from n
bytes_from-put-other l at vs from n h = bytes_from-ext _ l from from n (λ i k. get_or-put-other l at vs (from + i) (h (from + i) (omega arith) (omega arith)))

pub be_at-put-other : (l : List ℕ) (at : ℕ) (vs : List ℕ) (from n : ℕ) → Apart from n at (length vs) → be_at (put l at vs) from n ≡ be_at l from n
be_at-put-other l at vs from n h = be_at-ext _ l from from n (λ i k. get_or-put-other l at vs (from + i) (h (from + i) (omega arith) (omega arith)))

-- ---- what was stored

pub bytes_from-put-in : (l : List ℕ) (at : ℕ) (vs : List ℕ) (o n : ℕ) → o + n ≤ length vs → at + length vs ≤ length l → bytes_from (put l at vs) (at + o) n ≡ bytes_from vs o n
bytes_from-put-in l at vs o n h r =
    bytes_from-ext _ vs (at + o) o n (λ i k. rw (add_assoc at o i) (get_or-put-same l at vs (o + i) (omega arith) (omega arith)))

pub be_at-put-in : (l : List ℕ) (at : ℕ) (vs : List ℕ) (o n : ℕ) → o + n ≤ length vs → at + length vs ≤ length l → be_at (put l at vs) (at + o) n ≡ be_at vs o n
be_at-put-in l at vs o n h r =
    be_at-ext _ vs (at + o) o n (λ i k. rw (add_assoc at o i) (get_or-put-same l at vs (o + i) (omega arith) (omega arith)))

pub bytes_from-put-same : (l : List ℕ) (at : ℕ) (vs : List ℕ) (n : ℕ) → length vs ≡ n → at + n ≤ length l → bytes_from (put l at vs) at n ≡ vs
bytes_from-put-same l at vs n h r = ap (λ k. bytes_from (put l at vs) k n) (sym (add-zero at)) ∙ bytes_from-put-in l at vs 0 n (omega arith) (omega arith) ∙ bytes_from-all vs n h

-- ---- of two strings one after the other

pub be_at-left : (a b : List ℕ) (o n : ℕ) → o + n ≤ length a → be_at (a ++ b) o n ≡ be_at a o n
be_at-left a b o n h = be_at-ext (a ++ b) a o o n (λ i k. get_or-append a b 0 (o + i) (omega arith))

pub be_at-right : (a b : List ℕ) (l o n : ℕ) → length a ≡ l → be_at (a ++ b) (l + o) n ≡ be_at b o n
be_at-right a b l o n h =
    be_at-ext (a ++ b) b (l + o) o n
    (λ i k. let e : l + o + i ≡ length a + (o + i) = omega arith in ap (λ x. get_or (a ++ b) x 0) e ∙ get_or-append-add a b (o + i) 0)

-- ---- numbers

be_at-front : (l : List ℕ) (x : ℕ) (w : ℕ) → length l ≡ w → be_at (l ++ (x ∷ [])) 0 w ≡ be_at l 0 w
be_at-front l x w h = be_at-ext _ l 0 0 w (λ i k. get_or-append l (x ∷ []) 0 (0 + i) (omega arith))

pub be_at-be_bytes : (w v : ℕ) → v < 256 ^ w → be_at (be_bytes w v) 0 w ≡ v
unfolding be_at be_bytes
be_at-be_bytes zero v h = omega arith
be_at-be_bytes (suc w) v h =
    let q : v / 256 < 256 ^ w = (div-lt_iff_lt-mul (lit< tt)).1 (rw pow-suc at h) in
    let e : length (be_bytes w (v / 256)) ≡ w = length-be_bytes w (v / 256) in
    let last : get_or (be_bytes w (v / 256) ++ (v % 256 ∷ [])) (0 + w) 0 ≡ v % 256 =
    ap (λ k. get_or (be_bytes w (v / 256) ++ (v % 256 ∷ [])) k 0) (let f : 0 + w ≡ length (be_bytes w (v / 256)) + 0 = omega arith in f)
    ∙ get_or-append-add (be_bytes w (v / 256)) (v % 256 ∷ []) 0 0 in
    ap₂ (λ n x. n * 256 + x) (be_at-front (be_bytes w (v / 256)) (v % 256) w e ∙ be_at-be_bytes w (v / 256) q) last
    ∙ div-add-mod' v 256

-- ---- fields: conditions are equations between Booleans, so that simp closes them by computing

pub number_same : (l : List ℕ) (at w v : ℕ) → leb (at + w) (length l) ≡ true → ltb v (256 ^ w) ≡ true → be_at (put l at (be_bytes w v)) at w ≡ v
number_same l at w v h b =
    let a : at + w ≤ length l = leb-true (at + w) (length l) h in
    let e : length (be_bytes w v) ≡ w = length-be_bytes w v in
    ap (λ k. be_at (put l at (be_bytes w v)) k w) (sym (add-zero at)) ∙ be_at-put-in l at (be_bytes w v) 0 w (omega arith) (omega arith)
    ∙ be_at-be_bytes w v (ltb-true v (256 ^ w) b)

apart : (a n b m : ℕ) → (leb (a + n) b || leb (b + m) a) ≡ true → Apart a n b m
apart a n b m h = go (leb (a + n) b) refl h
  where
    go : (x : Bool) → leb (a + n) b ≡ x → (x || leb (b + m) a) ≡ true → Apart a n b m
    go true e f i p q r t = let k : a + n ≤ b = leb-true (a + n) b e in omega arith
    go false e f i p q r t = let k : b + m ≤ a = leb-true (b + m) a f in omega arith

pub number-other : (l : List ℕ) (at w v from n : ℕ) → (leb (from + n) at || leb (at + w) from) ≡ true → be_at (put l at (be_bytes w v)) from n ≡ be_at l from n
number-other l at w v from n h = be_at-put-other l at (be_bytes w v) from n (apart from n at _ (rw (length-be_bytes w v) h))

pub bytes-other : (l : List ℕ) (at w v from n : ℕ) → (leb (from + n) at || leb (at + w) from) ≡ true → bytes_from (put l at (be_bytes w v)) from n ≡ bytes_from l from n
bytes-other l at w v from n h = bytes_from-put-other l at (be_bytes w v) from n (apart from n at _ (rw (length-be_bytes w v) h))

-- before a string of bytes of any length, or behind one whose length computes
pub number-apart : (l : List ℕ) (at : ℕ) (vs : List ℕ) (from n : ℕ) → (leb (from + n) at || leb (at + length vs) from) ≡ true → be_at (put l at vs) from n ≡ be_at l from n
number-apart l at vs from n h = be_at-put-other l at vs from n (apart from n at _ h)

pub ruleset fields = (number_same, number-other, bytes-other, number-apart, length-put, length-zero_sector)

-- ---- a store over a store

pub get_or-put : (l : List ℕ) (at : ℕ) (vs : List ℕ) (i : ℕ) → i < length l
    → get_or (put l at vs) i 0 ≡ cond (leb at i && ltb i (at + length vs)) (get_or vs (i - at) 0) (get_or l i 0)
get_or-put l at vs i h = go (leb at i && ltb i (at + length vs)) refl
  where
    go : (t : Bool) → (leb at i && ltb i (at + length vs)) ≡ t → get_or (put l at vs) i 0 ≡ cond t (get_or vs (i - at) 0) (get_or l i 0)
    go true e =
        let a : at ≤ i = leb-true at i (and_left _ _ e) in
        let b : i < at + length vs = ltb-true i _ (and_right (leb at i) _ e) in
        let f : at + (i - at) ≡ i = omega arith in
        ap (λ k. get_or (put l at vs) k 0) (sym f) ∙ get_or-put-same l at vs (i - at) (omega arith) (omega arith)
    go false e = get_or-put-other l at vs i (λ a b. true≢false (sym (range-yes at (at + length vs) i a b) ∙ e))

pub put-put : (l : List ℕ) (at : ℕ) (a b : List ℕ) → length a ≡ length b → put (put l at a) at b ≡ put l at b
put-put l at a b e =
    ext_get_or 0 (put (put l at a) at b) (put l at b) (length-put (put l at a) at b ∙ length-put l at a ∙ sym (length-put l at b))
    (λ i k.
    let h : i < length l = omega (arith, length-put (put l at a) at b, length-put l at a) in
    let g : i < length (put l at a) = omega (arith, length-put l at a) in
    get_or-put (put l at a) at b i g ∙ go i h (leb at i && ltb i (at + length b)) refl ∙ sym (get_or-put l at b i h))
  where
    go : (i : ℕ) → i < length l → (t : Bool) → (leb at i && ltb i (at + length b)) ≡ t
        → cond t (get_or b (i - at) 0) (get_or (put l at a) i 0) ≡ cond t (get_or b (i - at) 0) (get_or l i 0)
    go i h true q = refl
    go i h false q =
        let r : (leb at i && ltb i (at + length a)) ≡ false = rw e q in
        get_or-put l at a i h ∙ ap (λ (t : Bool). cond t (get_or a (i - at) 0) (get_or l i 0)) r

-- a store into a run that is stored
pub put_in : (l : List ℕ) (at : ℕ) (a : List ℕ) (o : ℕ) (b : List ℕ) → o + length b ≤ length a → put (put l at a) (at + o) b ≡ put l at (put a o b)
put_in l at a o b h =
    ext_get_or 0 (put (put l at a) (at + o) b) (put l at (put a o b))
    (length-put (put l at a) (at + o) b ∙ length-put l at a ∙ sym (length-put l at (put a o b)))
    (λ i k.
    let r : i < length l = omega (arith, length-put (put l at a) (at + o) b, length-put l at a) in
    let q : i < length (put l at a) = omega (arith, length-put l at a) in
    get_or-put (put l at a) (at + o) b i q ∙ go i r (leb (at + o) i && ltb i (at + o + length b)) refl)
  where
    within : (i : ℕ) → at ≤ i → i < at + length a → i < length l → get_or (put l at (put a o b)) i 0 ≡ get_or (put a o b) (i - at) 0
    within i x y r =
        let e : at + (i - at) ≡ i = omega arith in
        let n : length (put a o b) ≡ length a = length-put a o b in
        ap (λ k. get_or (put l at (put a o b)) k 0) (sym e) ∙ get_or-put-same l at (put a o b) (i - at) (omega arith) (omega arith)

    old : (i : ℕ) → i < length l → (at + o ≤ i → i < at + o + length b → ⊥) → (t : Bool) → (leb at i && ltb i (at + length a)) ≡ t
        → cond t (get_or a (i - at) 0) (get_or l i 0) ≡ get_or (put l at (put a o b)) i 0
    old i r out true e =
        let x : at ≤ i = leb-true at i (and_left _ _ e) in
        let y : i < at + length a = ltb-true i _ (and_right (leb at i) _ e) in
        sym (within i x y r ∙ get_or-put-other a o b (i - at) (λ p q. out (omega arith) (omega arith)))
    old i r out false e =
        sym (get_or-put-other l at (put a o b) i (λ p q. true≢false (sym (range-yes at (at + length a) i p (omega (arith, length-put a o b))) ∙ e)))

    go : (i : ℕ) → i < length l → (t : Bool) → (leb (at + o) i && ltb i (at + o + length b)) ≡ t
        → cond t (get_or b (i - (at + o)) 0) (get_or (put l at a) i 0) ≡ get_or (put l at (put a o b)) i 0
    go i r true e =
        let x : at + o ≤ i = leb-true (at + o) i (and_left _ _ e) in
        let y : i < at + o + length b = ltb-true i _ (and_right (leb (at + o) i) _ e) in
        let f : i - at ≡ o + (i - (at + o)) = omega arith in
        sym
        (within i (omega arith) (omega arith) r ∙ ap (λ k. get_or (put a o b) k 0) f
        ∙ get_or-put-same a o b (i - (at + o)) (omega arith) (omega arith))
    go i r false e =
        get_or-put l at a i r
        ∙ old i r (λ p q. true≢false (sym (range-yes (at + o) (at + o + length b) i p q) ∙ e)) (leb at i && ltb i (at + length a)) refl

-- one number more of a list that holds h of each index
pub set_next : (h : ℕ → ℕ) (l : List ℕ) (i v : ℕ) → i < length l → v ≡ h i → ((j : ℕ) → j < i → get_or l j 0 ≡ h j)
    → (j : ℕ) → j < i + 1 → get_or (set l i v) j 0 ≡ h j
set_next h l i v room e f j lj = go (eqb j i) refl
  where
    go : (b : Bool) → eqb j i ≡ b → get_or (set l i v) j 0 ≡ h j
    go true t = rw (eqb-true j i t) (get_or-set_same l i v 0 room ∙ e)
    go false t = let ne : j ≢ i = eqb-false j i t in get_or-set_other l i j v 0 ne ∙ f j (omega arith)
