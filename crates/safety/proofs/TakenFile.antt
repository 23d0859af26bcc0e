-- The ledger after a write: slot i gets one extent more, which no slot has, or none. Whose each extent is then, that no extent has two
-- holders, and that file i has exactly the extents that it needs. Assumes nothing.
use Prim.Native.Nat.{ℕ, zero, suc, ◌+◌, ◌-◌, ◌≤◌, ◌<◌}
use mathlib.Core.Path.{◌≡◌, refl, sym, ap, ap₂, ◌∙◌, fun_ext}
use mathlib.Core.Bool.{Bool, true, false, cond, not, ◌&&◌, ◌||◌, true≢false, false≢true}
use mathlib.Core.List.{List, [], ◌∷◌, ◌++◌, append-nil}
use mathlib.Core.Option.{Option, none, some}
use native.Mathlib.Omega.{arith}
use native.Mathlib.Decide.{dec_lt}
use native.Mathlib.Nat.{sub-zero, suc-add, zero-add}
use lib.Dec.{eqb, leb}
use lib.ListN.{length, get_or, length-append, get_or-append}
use lib.Seq.{get_or-append_seam}
use borrow.Author.Tests.{eqb-true, eqb-false, eq-eqb, ne_eqb, lt-leb, leb-false, not-true}
use Rattle.model.specs.declared.Geometry.{Geometry}
use Rattle.std.specs.Prelude.{Some, None}
use Rattle.model.specs.Search.{Lowest, scan, first, all_below, count_below, is_at, index_of}
use Rattle.model.specs.Root.{Root}
use Rattle.model.specs.Catalogue.{Owner, is_free, is_part, owned_from}
use Rattle.model.specs.Faults.{exact}
use Rattle.model.specs.Ledger.{Ledger, File, file_or, position_among, holder_of, owner_from, catalogue}
use Rattle.laws.proofs.Booleans.{and_left, and_right, and_yes, and-false}
use Rattle.laws.proofs.Search.{Hit, scan-hit, first-ext, all_below-yes, all_below-at, count_below-ext}
use Rattle.safety.proofs.Rep.{holds, Disjoint}
use Rattle.safety.proofs.Replaced.{replaced, OthersKept}
use Rattle.safety.proofs.Pigeonhole.{count_below-add}
use Rattle.safety.proofs.Extents.{owner, free-none, count_below-none}

-- ---- searches

-- where the first search finds nothing, the second
abbrev pub or_then : Lowest → Lowest → Lowest
or_then (Some k) r = Some k
or_then None r = r

scan-more : (p : ℕ → Bool) (a b i : ℕ) → scan p (a + b) i ≡ or_then (scan p a i) (scan p b (i + a))
unfolding scan
scan-more p zero b i = ap₂ (scan p) (zero-add b) (let e : i ≡ i + 0 = omega arith in e)
scan-more p (suc a) b i = ap (λ m. scan p m i) (suc-add a b) ∙ go (p i) (scan-more p a b (suc i))
  where
    go : (t : Bool) → scan p (a + b) (suc i) ≡ or_then (scan p a (suc i)) (scan p b (suc i + a))
        → cond t (Some i) (scan p (a + b) (suc i)) ≡ or_then (cond t (Some i) (scan p a (suc i))) (scan p b (i + suc a))
    go true h = refl
    go false h = h ∙ ap (λ m. or_then (scan p a (suc i)) (scan p b m)) (let e : suc i + a ≡ i + suc a = omega arith in e)

-- the only index that passes is found
pub first-only : (p : ℕ → Bool) (n i : ℕ) → i < n → p i ≡ true → ((k : ℕ) → k < n → p k ≡ true → k ≡ i) → first p n ≡ Some i
first-only p n i l h only = go (first p n) (scan-hit p (n - 0) 0)
  where
    go : (r : Lowest) → Hit p (n - 0) 0 r → r ≡ Some i
    go (Some k) t = ap Some (only k (omega (arith, t.1)) t.2)
    go None t = absurd (true≢false (sym h ∙ t i (omega arith) (omega arith)))

or_then-nowhere : (r : Lowest) → or_then r None ≡ r
or_then-nowhere (Some k) = refl
or_then-nowhere None = refl

swapped : (a b : ℕ) → eqb a b ≡ eqb b a
swapped a b = go (eqb b a) refl
  where
    go : (t : Bool) → eqb b a ≡ t → eqb a b ≡ eqb b a
    go true e = eq-eqb a b (sym (eqb-true b a e)) ∙ sym e
    go false e = ne_eqb a b (λ q. eqb-false b a e (sym q)) ∙ sym e

-- an extent among others and perhaps one more
pub place-more : (e : ℕ) (es : List ℕ) (b : Bool) (x : ℕ)
    → position_among e (es ++ cond b (x ∷ []) []) ≡ or_then (position_among e es) (cond (b && eqb e x) (Some (length es)) None)
unfolding position_among scan
place-more e es false x = ap (position_among e) (append-nil es) ∙ sym (or_then-nowhere (position_among e es))
place-more e es true x = longer
  where
    p : ℕ → Bool
    p k = eqb (get_or (es ++ (x ∷ [])) k 0) e

    last : p (length es) ≡ eqb e x
    last = ap (λ y. eqb y e) (get_or-append_seam es x [] 0) ∙ swapped x e

    longer : position_among e (es ++ (x ∷ [])) ≡ or_then (position_among e es) (cond (eqb e x) (Some (length es)) None)
    longer =
        ap (λ m. scan p m 0) (sub-zero (length (es ++ (x ∷ []))) ∙ length-append es (x ∷ [])) ∙ scan-more p (length es) 1 0
        ∙ ap₂ or_then
        (ap (λ m. scan p m 0) (sym (sub-zero (length es)))
        ∙ first-ext p (λ k. eqb (get_or es k 0) e) (length es) (λ k l. ap (λ y. eqb y e) (get_or-append es (x ∷ []) 0 k l)))
        (ap (λ m. cond (p m) (Some m) None) (zero-add (length es)) ∙ ap (λ (t : Bool). cond t (Some (length es)) None) last)

-- ---- whose an extent is depends on where it stands among each slot's extents

abbrev places : Ledger → ℕ → ℕ → Lowest
places L e k = position_among e (file_or (L.slots k)).extents

abbrev owner_at : (ℕ → Lowest) → Lowest → Option Owner
owner_at p None = none
owner_at p (Some j) = owner j (index_of (p j))

owner-is : (L : Ledger) (e : ℕ) (r : Lowest) → owner_from L e r ≡ owner_at (places L e) r
owner-is L e (Some j) = refl
owner-is L e None = refl

module _ (L M : Ledger) (eg : M.geometry ≡ L.geometry) (e : ℕ) (same : (k : ℕ) → places M e k ≡ places L e k) where
  holder-same : holder_of M e ≡ holder_of L e
  unfolding holder_of
  holder-same = ap₂ (λ (p : ℕ → Lowest) (g : Geometry). first (λ k. is_at (p k)) g.files) (fun_ext same) eg

  table_same : (catalogue M).table e ≡ (catalogue L).table e
  unfolding catalogue
  table_same = owner-is M e (holder_of M e) ∙ ap₂ owner_at (fun_ext same) holder-same ∙ sym (owner-is L e (holder_of L e))

is-nowhere : (r : Lowest) → is_at r ≡ false → r ≡ None
is-nowhere (Some k) e = absurd (true≢false e)
is-nowhere None e = refl

-- an owner that is not beyond n is not at n, nor beyond more
part-beyond : (i n : ℕ) (t : Option Owner) → owned_from i n t ≡ false → is_part i n t ≡ false
part-beyond i n none h = refl
part-beyond i n (some w) h = go (eqb w.file i) h
  where
    go : (b : Bool) → (b && leb n w.offset) ≡ false → (b && eqb w.offset n) ≡ false
    go true q = ne_eqb w.offset n (λ e. let z : w.offset < n = leb-false n w.offset q in omega arith)
    go false q = refl

beyond-more : (i n m : ℕ) (t : Option Owner) → n ≤ m → owned_from i n t ≡ false → owned_from i m t ≡ false
beyond-more i n m none l h = refl
beyond-more i n m (some w) l h = go (eqb w.file i) h
  where
    go : (b : Bool) → (b && leb n w.offset) ≡ false → (b && leb m w.offset) ≡ false
    go true q = lt-leb m w.offset (let z : w.offset < n = leb-false n w.offset q in omega arith)
    go false q = refl

count_below-one : (x n : ℕ) → x < n → count_below (λ e. eqb e x) n ≡ 1
count_below-one x n l =
    count_below-ext (λ e. eqb e x) (λ e. eqb e x || false) n (λ k q. go (eqb k x)) ∙ count_below-add (λ e. false) x n refl l ∙ ap suc (count_below-none (λ e. false) n (λ k q. refl))
  where
    go : (b : Bool) → b ≡ (b || false)
    go true = refl
    go false = refl

-- ---- slot i, which has the file f, gets y: with the free extent x behind f's extents, if b

module _ (L : Ledger) (root : Root) (i : ℕ) (f : File) (has : L.slots i ≡ some f) (within : i < L.geometry.files) (disjoint : Disjoint L)
    (b : Bool) (x : ℕ) (free : b ≡ true → is_free ((catalogue L).table x) ≡ true) (y : File) (more : y.extents ≡ f.extents ++ cond b (x ∷ []) []) where
  abbrev M : Ledger
  M = replaced L root i (some y)

  abbrev n : ℕ
  n = length f.extents

  abbrev takes : ℕ → Bool
  takes e = b && eqb e x

  place_here : (e : ℕ) → position_among e y.extents ≡ or_then (position_among e f.extents) (cond (takes e) (Some n) None)
  place_here e = ap (position_among e) more ∙ place-more e f.extents b x

  -- every other extent stands where it stood
  places-kept : (e : ℕ) → takes e ≡ false → (k : ℕ) → places M e k ≡ places L e k
  places-kept e t k = go (eqb k i) refl
    where
      go : (q : Bool) → eqb k i ≡ q → position_among e (file_or (cond q (some y) (L.slots k))).extents ≡ position_among e (file_or (L.slots k)).extents
      go true q =
          place_here e ∙ ap (λ (u : Bool). or_then (position_among e f.extents) (cond u (Some n) None)) t ∙ or_then-nowhere (position_among e f.extents)
          ∙ sym (ap (λ (o : Option File). position_among e (file_or o).extents) (ap L.slots (eqb-true k i q) ∙ has))
      go false q = refl

  taken_free : (e : ℕ) → takes e ≡ true → is_free ((catalogue L).table e) ≡ true
  taken_free e t = ap (λ z. is_free ((catalogue L).table z)) (eqb-true e x (and_right b _ t)) ∙ free (and_left b (eqb e x) t)

  -- no slot had the one that is taken
  none-held : (e : ℕ) → takes e ≡ true → (k : ℕ) → k < L.geometry.files → is_at (places L e k) ≡ false
  unfolding catalogue holds
  none-held e t k l = go (is_at (places L e k)) refl
    where
      go : (q : Bool) → is_at (places L e k) ≡ q → is_at (places L e k) ≡ false
      go true q = absurd (false≢true (sym (ap (λ (r : Lowest). is_free (owner_from L e r)) (disjoint k e l q)) ∙ taken_free e t))
      go false q = q

  place-taken : (e : ℕ) → takes e ≡ true → places M e i ≡ Some n
  place-taken e t =
      let z : position_among e f.extents ≡ None = is-nowhere _ (sym (ap (λ (o : Option File). is_at (position_among e (file_or o).extents)) has) ∙ none-held e t i within) in
      ap (λ (q : Bool). position_among e (file_or (cond q (some y) (L.slots i))).extents) (eq-eqb i i refl)
      ∙ place_here e ∙ ap₂ (λ (r : Lowest) (q : Bool). or_then r (cond q (Some n) None)) z t

  only_here : (e : ℕ) → takes e ≡ true → (k : ℕ) → k < L.geometry.files → is_at (places M e k) ≡ true → k ≡ i
  only_here e t k l h = go (eqb k i) refl h
    where
      go : (q : Bool) → eqb k i ≡ q → is_at (position_among e (file_or (cond q (some y) (L.slots k))).extents) ≡ true → k ≡ i
      go true q z = eqb-true k i q
      go false q z = absurd (false≢true (sym (none-held e t k l) ∙ z))

  holder-taken : (e : ℕ) → takes e ≡ true → holder_of M e ≡ Some i
  unfolding holder_of
  holder-taken e t = first-only (λ k. is_at (places M e k)) L.geometry.files i within (ap is_at (place-taken e t)) (only_here e t)

  -- "it takes the lowest .. extent that no slot has": that becomes file i's last, all others stay
  pub table_taken : (e : ℕ) → (catalogue M).table e ≡ cond (b && eqb e x) (owner i (length f.extents)) ((catalogue L).table e)
  unfolding catalogue
  table_taken e = go (takes e) refl
    where
      go : (q : Bool) → takes e ≡ q → (catalogue M).table e ≡ cond q (owner i n) ((catalogue L).table e)
      go true t = ap (owner_from M e) (holder-taken e t) ∙ ap (λ (r : Lowest). owner i (index_of r)) (place-taken e t)
      go false t = table_same L M refl e (places-kept e t)

  pub disjoint-taken : Disjoint M
  unfolding holds
  disjoint-taken k e l h = go (takes e) refl
    where
      go : (q : Bool) → takes e ≡ q → holder_of M e ≡ Some k
      go true t = holder-taken e t ∙ ap Some (sym (only_here e t k l h))
      go false t = holder-same L M refl e (places-kept e t) ∙ disjoint k e l (ap is_at (sym (places-kept e t k)) ∙ h)

  -- a test that no extent of file i passes is not changed
  pub others-taken : OthersKept L root i (some y)
  others-taken t tn ti e = ap t (table_taken e) ∙ go (takes e) refl
    where
      go : (q : Bool) → takes e ≡ q → t (cond q (owner i n) ((catalogue L).table e)) ≡ t ((catalogue L).table e)
      go true z = ti (record { file = i; offset = n }) refl ∙ sym (ap t (free-none ((catalogue L).table e) (taken_free e z)) ∙ tn)
      go false z = refl

  -- ---- file i's extents, by offset

  pub part-old : (o e : ℕ) → o < length f.extents → is_part i o ((catalogue M).table e) ≡ is_part i o ((catalogue L).table e)
  part-old o e l = ap (is_part i o) (table_taken e) ∙ go (takes e) refl
    where
      go : (q : Bool) → takes e ≡ q → is_part i o (cond q (owner i n) ((catalogue L).table e)) ≡ is_part i o ((catalogue L).table e)
      go true z = ap (λ (u : Bool). eqb i i && u) (ne_eqb n o (λ w. omega arith)) ∙ and-false (eqb i i) ∙ sym (ap (is_part i o) (free-none ((catalogue L).table e) (taken_free e z)))
      go false z = refl

  pub part-new : (e : ℕ) → b ≡ true → owned_from i (length f.extents) ((catalogue L).table e) ≡ false → is_part i (length f.extents) ((catalogue M).table e) ≡ eqb e x
  part-new e t h =
      ap (is_part i n) (table_taken e) ∙ ap (λ (q : Bool). is_part i n (cond (q && eqb e x) (owner i n) ((catalogue L).table e))) t ∙ go (eqb e x)
    where
      go : (q : Bool) → is_part i n (cond q (owner i n) ((catalogue L).table e)) ≡ q
      go true = and_yes (eqb i i) (eqb n n) (eq-eqb i i refl) (eq-eqb n n refl)
      go false = part-beyond i n ((catalogue L).table e) h

  module _ (inside : b ≡ true → x < L.geometry.extents) (old : exact (catalogue L) i (length f.extents) ≡ true) where
    abbrev N : ℕ
    N = L.geometry.extents

    old-count : (o : ℕ) → o < n → count_below (λ e. is_part i o ((catalogue L).table e)) N ≡ 1
    unfolding exact catalogue
    old-count o l = eqb-true _ 1 (all_below-at (λ o. eqb (count_below (λ e. is_part i o ((catalogue L).table e)) N) 1) n (and_left _ _ old) o l)

    old-beyond : (e : ℕ) → e < N → owned_from i n ((catalogue L).table e) ≡ false
    unfolding exact catalogue
    old-beyond e l =
        not-true _ (all_below-at (λ e. not (owned_from i n ((catalogue L).table e))) N (and_right (all_below (λ o. eqb (count_below (λ e. is_part i o ((catalogue L).table e)) N) 1) n) _ old) e l)

    new-count : (o : ℕ) → o < cond b (suc n) n → count_below (λ e. is_part i o ((catalogue M).table e)) N ≡ 1
    new-count o l = go (dec_lt o n)
      where
        grown : (q : Bool) → b ≡ q → o < cond q (suc n) n → (o < n → ⊥) → (b ≡ true) × (o ≡ n)
        grown true z u v = (z, omega arith)
        grown false z u v = absurd (v u)

        go : Dec (o < n) → count_below (λ e. is_part i o ((catalogue M).table e)) N ≡ 1
        go (yes q) = count_below-ext (λ e. is_part i o ((catalogue M).table e)) (λ e. is_part i o ((catalogue L).table e)) N (λ e u. part-old o e q) ∙ old-count o q
        go (no q) =
            let z = grown b refl l q in
            ap (λ m. count_below (λ e. is_part i m ((catalogue M).table e)) N) z.1
            ∙ count_below-ext (λ e. is_part i n ((catalogue M).table e)) (λ e. eqb e x) N (λ e v. part-new e z.0 (old-beyond e v)) ∙ count_below-one x N (inside z.0)

    new-beyond : (e : ℕ) → e < N → owned_from i (cond b (suc n) n) ((catalogue M).table e) ≡ false
    new-beyond e l = ap (owned_from i (cond b (suc n) n)) (table_taken e) ∙ go b (eqb e x) refl
      where
        go : (q u : Bool) → b ≡ q → owned_from i (cond q (suc n) n) (cond (q && u) (owner i n) ((catalogue L).table e)) ≡ false
        go true true z = ap (λ (v : Bool). eqb i i && v) (lt-leb (suc n) n (omega arith)) ∙ and-false (eqb i i)
        go true false z = beyond-more i n (suc n) ((catalogue L).table e) (omega arith) (old-beyond e l)
        go false u z = old-beyond e l

    pub exact-taken : exact (catalogue M) i (cond b (suc (length f.extents)) (length f.extents)) ≡ true
    unfolding exact catalogue
    exact-taken =
        and_yes _ _ (all_below-yes (λ o. eqb (count_below (λ e. is_part i o ((catalogue M).table e)) N) 1) (cond b (suc n) n) (λ o l. eq-eqb _ 1 (new-count o l)))
        (all_below-yes (λ e. not (owned_from i (cond b (suc n) n) ((catalogue M).table e))) N (λ e l. ap not (new-beyond e l)))
