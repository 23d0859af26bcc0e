-- The ledger after a delete or a shrinking resize: slot i keeps only the first n of its extents (none where it becomes free). Whose each
-- extent is then, and that no extent has two holders. Assumes nothing.
use Prim.Native.Nat.{ℕ, zero, suc, ◌+◌, ◌-◌, ◌≤◌, ◌<◌, min}
use mathlib.Core.Path.{◌≡◌, refl, sym, ap, ap₂, ◌∙◌, subst, fun_ext}
use mathlib.Core.Logic.{◌≢◌}
use mathlib.Core.Bool.{Bool, true, false, cond, not, ◌&&◌, true≢false, false≢true}
use mathlib.Core.List.{List}
use mathlib.Core.Option.{Option, none, some}
use native.Mathlib.Omega.{arith}
use native.Mathlib.Nat.{sub-zero, suc-add}
use lib.Dec.{eqb, leb, ltb}
use lib.ListN.{length, get_or, take, length-take}
use lib.Seq.{get_or-take}
use borrow.Author.Tests.{eqb-true, eqb-false, eq-eqb, ne_eqb, lt-ltb, le-ltb, le-leb, lt-leb, ltb-true, ltb-false}
use Rattle.std.specs.Prelude.{Some, None}
use Rattle.model.specs.Search.{Lowest, scan, first, is_at, index_of}
use Rattle.model.specs.Root.{Root}
use Rattle.model.specs.Catalogue.{Owner, owned_from}
use Rattle.model.specs.Ledger.{Ledger, File, file_or, position_among, holder_of, owner_from, catalogue}
use Rattle.laws.proofs.Search.{Hit, scan-hit, first-ext}
use Rattle.safety.proofs.Rep.{holds, Disjoint}
use Rattle.safety.proofs.Replaced.{replaced, OthersKept}

-- ---- searches

-- a place below n
abbrev pub below : ℕ → Lowest → Lowest
below n None = None
below n (Some o) = cond (ltb o n) (Some o) None

-- a search of fewer indexes
scan-fewer : (p : ℕ → Bool) (a b i : ℕ) → scan p a i ≡ below (i + a) (scan p (a + b) i)
unfolding scan
scan-fewer p zero b i = go (scan p (0 + b) i) (scan-hit p (0 + b) i)
  where
    go : (r : Lowest) → Hit p (0 + b) i r → None ≡ below (i + 0) r
    go None h = refl
    go (Some k) h = sym (ap (λ (t : Bool). cond t (Some k) None) (le-ltb k (i + 0) (omega (arith, h.0))))
scan-fewer p (suc a) b i = go (p i) (scan-fewer p a b (suc i)) ∙ ap (λ m. below (i + suc a) (scan p m i)) (sym (suc-add a b))
  where
    go : (t : Bool) → scan p a (suc i) ≡ below (suc i + a) (scan p (a + b) (suc i)) → cond t (Some i) (scan p a (suc i)) ≡ below (i + suc a) (cond t (Some i) (scan p (a + b) (suc i)))
    go true h = sym (ap (λ (t : Bool). cond t (Some i) None) (lt-ltb i (i + suc a) (omega arith)))
    go false h = h ∙ ap (λ (m : ℕ). below m (scan p (a + b) (suc i))) (let e : suc i + a ≡ i + suc a = omega arith in e)

first-fewer : (p : ℕ → Bool) (m n : ℕ) → first p (min n m) ≡ below n (first p m)
first-fewer p m n =
    ap (λ k. scan p k 0) (sub-zero (min n m)) ∙ scan-fewer p (min n m) (m - min n m) 0
    ∙ ap₂ (λ (x y : ℕ). below x (scan p y 0)) (let e : 0 + min n m ≡ min n m = omega arith in e) (let e : min n m + (m - min n m) ≡ m - 0 = omega arith in e)
    ∙ go (first p m) (scan-hit p (m - 0) 0)
  where
    go : (r : Lowest) → Hit p (m - 0) 0 r → below (min n m) r ≡ below n r
    go None h = refl
    go (Some k) h = ap (λ (t : Bool). cond t (Some k) None) (same (ltb k n) refl)
      where
        same : (t : Bool) → ltb k n ≡ t → ltb k (min n m) ≡ ltb k n
        same true e = lt-ltb k (min n m) (let q : k < n = ltb-true k n e in omega (arith, h.1)) ∙ sym e
        same false e = le-ltb k (min n m) (let q : n ≤ k = ltb-false k n e in omega arith) ∙ sym e

pub place-take : (e n : ℕ) (es : List ℕ) → position_among e (take n es) ≡ below n (position_among e es)
unfolding position_among
place-take e n es =
    ap (λ m. first (λ k. eqb (get_or (take n es) k 0) e) m) (length-take n es)
    ∙ first-ext (λ k. eqb (get_or (take n es) k 0) e) (λ k. eqb (get_or es k 0) e) (min n (length es)) (λ k l. ap (λ x. eqb x e) (get_or-take n es k 0 (omega arith)))
    ∙ first-fewer (λ k. eqb (get_or es k 0) e) (length es) n

-- a place other than i, or any where b holds
abbrev unless : Bool → ℕ → Lowest → Lowest
unless b i None = None
unless b i (Some j) = cond (eqb j i && not b) None (Some j)

-- where at most one index passes, a search in which i passes only by b finds the same unless that is i
module _ (p : ℕ → Bool) (n i : ℕ) (once : (k : ℕ) → k < n → p k ≡ true → first p n ≡ Some k) where
  without-false : first (λ k. cond (eqb k i) false (p k)) n ≡ unless false i (first p n)
  without-false = go (first (λ k. cond (eqb k i) false (p k)) n) (first p n) (scan-hit (λ k. cond (eqb k i) false (p k)) (n - 0) 0) (scan-hit p (n - 0) 0) (λ k l h. once k l h)
    where
      passes : (k : ℕ) → cond (eqb k i) false (p k) ≡ true → (k ≢ i) × (p k ≡ true)
      passes k e = by (eqb k i) refl e
        where
          by : (b : Bool) → eqb k i ≡ b → cond b false (p k) ≡ true → (k ≢ i) × (p k ≡ true)
          by true q h = absurd (false≢true h)
          by false q h = (eqb-false k i q, h)

      go : (a b : Lowest) → Hit (λ k. cond (eqb k i) false (p k)) (n - 0) 0 a → Hit p (n - 0) 0 b → ((k : ℕ) → k < n → p k ≡ true → b ≡ Some k) → a ≡ unless false i b
      go (Some k) (Some j) x y u =
          let q = passes k x.2 in
          let e : j ≡ k = ap index_of (u k (omega (arith, x.1)) q.1) in
          sym (ap (λ (b : Bool). cond (b && true) None (Some j)) (ne_eqb j i (λ z. q.0 (sym e ∙ z))) ∙ ap Some e)
      go (Some k) None x y u = absurd (true≢false (sym (passes k x.2).1 ∙ y k (omega arith) (omega (arith, x.1))))
      go None (Some j) x y u = here (eqb j i) refl
        where
          here : (b : Bool) → eqb j i ≡ b → None ≡ cond (b && true) None (Some j)
          here true q = refl
          here false q =
              absurd (true≢false (sym (ap (λ (b : Bool). cond b false (p j)) q ∙ y.2) ∙ x j (omega arith) (omega (arith, y.1))))
      go None None x y u = refl

  pub first-unless : (b : Bool) → (b ≡ true → p i ≡ true) → first (λ k. cond (eqb k i) b (p k)) n ≡ unless b i (first p n)
  first-unless false h = without-false
  first-unless true h = first-ext (λ k. cond (eqb k i) true (p k)) p n (λ k l. by k (eqb k i) refl) ∙ all (first p n)
    where
      by : (k : ℕ) (b : Bool) → eqb k i ≡ b → cond b true (p k) ≡ p k
      by k true q = sym (ap p (eqb-true k i q) ∙ h refl)
      by k false q = refl

      all : (r : Lowest) → r ≡ unless true i r
      all None = refl
      all (Some j) = none_left (eqb j i)
        where
          none_left : (b : Bool) → Some j ≡ cond (b && false) None (Some j)
          none_left true = refl
          none_left false = refl

-- ---- slot i keeps its first n extents

module _ (L : Ledger) (root : Root) (i n : ℕ) (f : Option File) (firsts : (file_or f).extents ≡ take n (file_or (L.slots i)).extents) where
  abbrev M : Ledger
  M = replaced L root i f

  -- where extent e stood among slot i's; whether it still does
  abbrev stood : ℕ → Lowest
  stood e = position_among e (file_or (L.slots i)).extents

  abbrev stands : ℕ → Bool
  stands e = is_at (below n (position_among e (file_or (L.slots i)).extents))

  place-freed : (e : ℕ) → position_among e (file_or f).extents ≡ below n (stood e)
  place-freed e = ap (position_among e) firsts ∙ place-take e n (file_or (L.slots i)).extents

  holds-freed : (k e : ℕ) → holds M k e ≡ cond (eqb k i) (stands e) (holds L k e)
  unfolding holds
  holds-freed k e = go (eqb k i)
    where
      go : (b : Bool) → is_at (position_among e (file_or (cond b f (L.slots k))).extents) ≡ cond b (stands e) (is_at (position_among e (file_or (L.slots k)).extents))
      go true = ap is_at (place-freed e)
      go false = refl

  stood-first : (e : ℕ) → stands e ≡ true → holds L i e ≡ true
  unfolding holds
  stood-first e = go (stood e)
    where
      go : (r : Lowest) → is_at (below n r) ≡ true → is_at r ≡ true
      go (Some o) h = refl
      go None h = h

  module _ (disjoint : Disjoint L) where
    holder-freed : (e : ℕ) → holder_of M e ≡ unless (stands e) i (holder_of L e)
    unfolding holder_of holds
    holder-freed e =
        ap (λ (p : ℕ → Bool). first p L.geometry.files) (fun_ext (λ k. holds-freed k e))
        ∙ first-unless (λ k. holds L k e) L.geometry.files i (λ k l h. disjoint k e l h) (stands e) (stood-first e)

    -- the holder has it
    holder-has : (e j : ℕ) → holder_of L e ≡ Some j → holds L j e ≡ true
    unfolding holder_of holds
    holder-has e j q = let h : Hit (λ k. holds L k e) (L.geometry.files - 0) 0 (Some j) = rw q at (scan-hit (λ k. holds L k e) (L.geometry.files - 0) 0) in h.2

    owner-kept : (e : ℕ) → owner_from M e (Some i) ≡ some (record { file = i; offset = index_of (below n (stood e)) })
    owner-kept e =
        ap (λ (b : Bool). some (record { file = i; offset = index_of (position_among e (file_or (cond b f (L.slots i))).extents) })) (eq-eqb i i refl)
        ∙ ap (λ (r : Lowest). some (record { file = i; offset = index_of r })) (place-freed e)

    -- file i's extent: among the first n, or beyond
    mine : (e : ℕ) (r : Lowest) → stood e ≡ r → is_at r ≡ true
        → owner_from M e (cond (not (is_at (below n r))) None (Some i)) ≡ cond (leb n (index_of r)) none (some (record { file = i; offset = index_of r }))
    mine e None s h = absurd (false≢true h)
    mine e (Some o) s h = here (ltb o n) refl
      where
        here : (t : Bool) → ltb o n ≡ t
            → owner_from M e (cond (not (is_at (cond t (Some o) None))) None (Some i)) ≡ cond (leb n o) none (some (record { file = i; offset = o }))
        here true l =
            owner-kept e ∙ ap (λ (r : Lowest). some (record { file = i; offset = index_of (below n r) })) s
            ∙ ap (λ (t : Bool). some (record { file = i; offset = index_of (cond t (Some o) None) })) l
            ∙ sym (ap (λ (t : Bool). cond t none (some (record { file = i; offset = o }))) (lt-leb n o (ltb-true o n l)))
        here false l = sym (ap (λ (t : Bool). cond t none (some (record { file = i; offset = o }))) (le-leb n o (ltb-false o n l)))

    -- "its extents become 65535, 65535": those of the file of offset n or more become free, all others stay
    pub table-freed : (e : ℕ) → (catalogue M).table e ≡ cond (owned_from i n ((catalogue L).table e)) none ((catalogue L).table e)
    unfolding catalogue holds
    table-freed e = ap (owner_from M e) (holder-freed e) ∙ go (holder_of L e) refl
      where
        go : (r : Lowest) → holder_of L e ≡ r → owner_from M e (unless (stands e) i r) ≡ cond (owned_from i n (owner_from L e r)) none (owner_from L e r)
        go None q = refl
        go (Some j) q = by (eqb j i) refl
          where
            by : (b : Bool) → eqb j i ≡ b
                → owner_from M e (cond (b && not (stands e)) None (Some j)) ≡ cond (b && leb n (index_of (position_among e (file_or (L.slots j)).extents))) none (owner_from L e (Some j))
            by true z =
                let s : i ≡ j = sym (eqb-true j i z) in
                subst (λ (x : ℕ). owner_from M e (cond (not (stands e)) None (Some x)) ≡ cond (leb n (index_of (position_among e (file_or (L.slots x)).extents))) none (owner_from L e (Some x))) s
                (mine e (stood e) refl (holder-has e i (q ∙ ap Some (sym s))))
            by false z = ap (λ (b : Bool). some (record { file = j; offset = index_of (position_among e (file_or (cond b f (L.slots j))).extents) })) z

    pub disjoint-freed : Disjoint M
    disjoint-freed k e l q = by (eqb k i) refl (sym (holds-freed k e) ∙ q)
      where
        by : (b : Bool) → eqb k i ≡ b → cond b (stands e) (holds L k e) ≡ true → holder_of M e ≡ Some k
        by true z h =
            let s : k ≡ i = eqb-true k i z in
            holder-freed e ∙ ap (unless (stands e) i) (disjoint k e l (ap (λ (x : ℕ). holds L x e) s ∙ stood-first e h))
            ∙ ap₂ (λ (x y : Bool). cond (x && not y) None (Some k)) z h
        by false z h = holder-freed e ∙ ap (unless (stands e) i) (disjoint k e l h) ∙ ap (λ (x : Bool). cond (x && not (stands e)) None (Some k)) z

    -- a test that no extent of file i passes is not changed
    pub others-freed : OthersKept L root i f
    others-freed t tn ti e = ap t (table-freed e) ∙ go ((catalogue L).table e)
      where
        go : (o : Option Owner) → t (cond (owned_from i n o) none o) ≡ t o
        go none = refl
        go (some w) = by (eqb w.file i) refl
          where
            by : (b : Bool) → eqb w.file i ≡ b → t (cond (b && leb n w.offset) none (some w)) ≡ t (some w)
            by true q = choose (leb n w.offset)
              where
                choose : (b : Bool) → t (cond b none (some w)) ≡ t (some w)
                choose true = tn ∙ sym (ti w (eqb-true w.file i q))
                choose false = refl
            by false q = refl
