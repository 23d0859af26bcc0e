-- What a catalogue says once a repair's extents are free: each offset of an occupied file has the lowest of the extents that it had, and
-- no extent is left to free. So a repaired catalogue's faults are those of 22 to 24 as before and the offsets without an extent.
-- Assumes nothing.
use Prim.Native.Nat.{ℕ, zero, suc, ◌+◌, ◌<◌}
use mathlib.Core.Path.{◌≡◌, refl, sym, ap, ap₂, ◌∙◌, fun_ext}
use mathlib.Core.Bool.{Bool, true, false, cond, not, ◌&&◌, ◌||◌, false≢true}
use mathlib.Core.Option.{Option, none, some}
use native.Mathlib.Omega.{arith}
use lib.Dec.{eqb, leb}
use borrow.Author.Tests.{eqb-true, eq-eqb, lt-leb, leb-false}
use Rattle.std.specs.Prelude.{Some, None}
use Rattle.model.specs.Search.{Lowest, scan, first, any_below, all_below, count_below, is_at, index_of}
use Rattle.model.specs.Geometry.{extents_for}
use Rattle.model.specs.Entry.{Entry}
use Rattle.model.specs.Catalogue.{Catalogue, Owner, is_free, is_part, owned_from, entry_or, extent_of}
use Rattle.model.specs.Faults.{holds_of, fault25, exact}
use Rattle.model.specs.Repair.{is_stray, repaired}
use Rattle.laws.proofs.Booleans.{and_left, and_right, and_yes, and-false, or-none}
use Rattle.laws.proofs.Count.{count_below-mono, count_below-any_below}
use Rattle.laws.proofs.Search.{first-ext, all_below-yes, all_below-at, all_below-ext, count_below-ext, any_below-no, any_below-true, none-at}
use Rattle.laws.proofs.Seeking.{or_found, first-suc, any_below-first}

-- ---- the lowest index that passes

module _ (p : ℕ → Bool) where
  -- e passes, and none below it
  abbrev pub lowest : ℕ → Bool
  lowest e = p e && not (any_below p e)

  pub count_below-lowest : (n : ℕ) → count_below lowest n ≡ cond (any_below p n) 1 0
  unfolding count_below any_below
  count_below-lowest zero = refl
  count_below-lowest (suc n) = go (p n) (any_below p n) (count_below-lowest n)
    where
      go : (a b : Bool) → count_below lowest n ≡ cond b 1 0 → cond (a && not b) 1 0 + count_below lowest n ≡ cond (a || b) 1 0
      go true true e = omega arith
      go true false e = omega arith
      go false true e = omega arith
      go false false e = omega arith

  pub first-lowest : (n : ℕ) → first lowest n ≡ first p n
  unfolding scan
  first-lowest zero = refl
  first-lowest (suc n) =
      first-suc lowest n
      ∙ ap₂ (λ (r : Lowest) (b : Bool). or_found r (cond (p n && not b) (Some n) None)) (first-lowest n) (any_below-first p n)
      ∙ go (first p n) (p n) ∙ sym (first-suc p n)
    where
      go : (r : Lowest) (a : Bool) → or_found r (cond (a && not (is_at r)) (Some n) None) ≡ or_found r (cond a (Some n) None)
      go (Some k) a = refl
      go None true = refl
      go None false = refl

  -- of two that pass the count is above 1
  pub count_below-two : (n a b : ℕ) → a < b → b < n → p a ≡ true → p b ≡ true → 1 < count_below p n
  unfolding count_below
  count_below-two n a b l m e f =
      let z : 0 < count_below p b = count_below-any_below p b (any_below-true p a b l e) in
      let q : count_below p (suc b) ≡ 1 + count_below p b = ap (λ (t : Bool). cond t 1 0 + count_below p b) f in
      omega (arith, count_below-mono p (suc b) n m)

and-yes-right : (a : Bool) → (a && true) ≡ a
and-yes-right true = refl
and-yes-right false = refl

module _ (c : Catalogue) where
  -- what makes an entry w at extent e stray
  abbrev pub stray_by : ℕ → Owner → Bool
  stray_by e w =
      is_free (c.entries w.file) || leb (extents_for c.geometry (entry_or (c.entries w.file)).size) w.offset
      || any_below (λ k. is_part w.file w.offset (c.table k)) e

  -- ---- an occupied file's offset

  module _ (i : ℕ) (x : Entry) (has : c.entries i ≡ some x) (o : ℕ) (low : o < extents_for c.geometry x.size) where
    abbrev P : ℕ → Bool
    P e = is_part i o (c.table e)

    stray-here : (e : ℕ) (w : Owner) → w.file ≡ i → w.offset ≡ o → stray_by e w ≡ any_below P e
    stray-here e w fi of =
        (λ j. is_free (c.entries (fi j)) || leb (extents_for c.geometry (entry_or (c.entries (fi j))).size) (of j) || any_below (λ k. is_part (fi j) (of j) (c.table k)) e)
        ∙ ap (λ (y : Option Entry). is_free y || leb (extents_for c.geometry (entry_or y).size) o || any_below P e) has
        ∙ ap (λ (b : Bool). b || any_below P e) (lt-leb (extents_for c.geometry x.size) o low)

    -- it has, of the extents that it had, the lowest
    pub part-repaired : (e : ℕ) → is_part i o ((repaired c).table e) ≡ (is_part i o (c.table e) && not (any_below (λ k. is_part i o (c.table k)) e))
    unfolding repaired is_stray
    part-repaired e = by (c.table e)
      where
        by : (t : Option Owner) → is_part i o (cond (holds_of t (stray_by e)) none t) ≡ (is_part i o t && not (any_below P e))
        by none = refl
        by (some w) = go (eqb w.file i) (eqb w.offset o) refl refl
          where
            kept : (b : Bool) → is_part i o (cond b none (some w)) ≡ (is_part i o (some w) && not b)
            kept true = sym (and-false (is_part i o (some w)))
            kept false = sym (and-yes-right (is_part i o (some w)))

            apart : is_part i o (some w) ≡ false → (b : Bool) → is_part i o (cond b none (some w)) ≡ (is_part i o (some w) && not (any_below P e))
            apart q true = sym (ap (λ (t : Bool). t && not (any_below P e)) q)
            apart q false = q ∙ sym (ap (λ (t : Bool). t && not (any_below P e)) q)

            go : (a b : Bool) → eqb w.file i ≡ a → eqb w.offset o ≡ b → is_part i o (cond (stray_by e w) none (some w)) ≡ (is_part i o (some w) && not (any_below P e))
            go true true ea eb = kept (stray_by e w) ∙ ap (λ (t : Bool). is_part i o (some w) && not t) (stray-here e w (eqb-true w.file i ea) (eqb-true w.offset o eb))
            go true false ea eb = apart (ap₂ (λ (s t : Bool). s && t) ea eb) (stray_by e w)
            go false b ea eb = apart (ap (λ (s : Bool). s && eqb w.offset o) ea) (stray_by e w)

    pub extent-repaired : extent_of (repaired c) i o ≡ extent_of c i o
    unfolding extent_of repaired
    extent-repaired =
        ap index_of (let q : first (λ e. is_part i o ((repaired c).table e)) c.geometry.extents ≡ first (lowest P) c.geometry.extents =
        first-ext (λ e. is_part i o ((repaired c).table e)) (lowest P) c.geometry.extents (λ e l. part-repaired e) in q ∙ first-lowest P c.geometry.extents)

    pub count_below-repaired : (n : ℕ) → count_below (λ e. is_part i o ((repaired c).table e)) n ≡ cond (any_below (λ e. is_part i o (c.table e)) n) 1 0
    count_below-repaired n = count_below-ext (λ e. is_part i o ((repaired c).table e)) (lowest P) n (λ e l. part-repaired e) ∙ count_below-lowest P n

  -- ---- the extents that stay

  -- what is known of an entry that stays
  pub record Stays (e : ℕ) (w : Owner) : Type 0 where
    pub occupied : is_free (c.entries w.file) ≡ false
    pub within : leb (extents_for c.geometry (entry_or (c.entries w.file)).size) w.offset ≡ false
    pub alone : any_below (λ k. is_part w.file w.offset (c.table k)) e ≡ false

  stays_by : (e : ℕ) (w : Owner) → stray_by e w ≡ false → Stays e w
  stays_by e w q =
      let none_named : Bool = is_free (c.entries w.file) in
      let past : Bool = leb (extents_for c.geometry (entry_or (c.entries w.file)).size) w.offset in
      let a = or-none (none_named || past) (any_below (λ k. is_part w.file w.offset (c.table k)) e) q in
      let b = or-none none_named past a.0 in
      record { occupied = b.0; within = b.1; alone = a.1 }

  -- a test that fails of each entry that stays
  none_stays : (e : ℕ) (q : Owner → Bool) → ((w : Owner) → c.table e ≡ some w → Stays e w → q w ≡ false) → holds_of (cond (is_stray c e) none (c.table e)) q ≡ false
  unfolding is_stray
  none_stays e q h = by (c.table e) refl
    where
      by : (t : Option Owner) → c.table e ≡ t → holds_of (cond (holds_of t (stray_by e)) none t) q ≡ false
      by none z = refl
      by (some w) z = go (stray_by e w) refl
        where
          go : (b : Bool) → stray_by e w ≡ b → holds_of (cond b none (some w)) q ≡ false
          go true y = refl
          go false y = h w z (stays_by e w y)

  -- NONE IS STRAY AGAIN
  pub stray-again : (e : ℕ) → is_stray (repaired c) e ≡ false
  unfolding is_stray repaired
  stray-again e =
      none_stays e
      (λ w. is_free (c.entries w.file) || leb (extents_for c.geometry (entry_or (c.entries w.file)).size) w.offset
      || any_below (λ k. is_part w.file w.offset (cond (is_stray c k) none (c.table k))) e)
      (λ w z s. λ j. s.occupied j || s.within j || fewer w s.alone j)
    where
      less : (w : Owner) (t : Option Owner) (b : Bool) → is_part w.file w.offset t ≡ false → is_part w.file w.offset (cond b none t) ≡ false
      less w t true q = refl
      less w t false q = q

      fewer : (w : Owner) → any_below (λ k. is_part w.file w.offset (c.table k)) e ≡ false
          → any_below (λ k. is_part w.file w.offset (cond (is_stray c k) none (c.table k))) e ≡ false
      fewer w q =
          any_below-no (λ k. is_part w.file w.offset (cond (is_stray c k) none (c.table k))) e
          (λ k l. less w (c.table k) (is_stray c k) (none-at (λ k. is_part w.file w.offset (c.table k)) e q k l))

  pub repaired-again : repaired (repaired c) ≡ repaired c
  unfolding repaired
  repaired-again =
      λ j. record { geometry = c.geometry; root = c.root; entries = c.entries; table = fun_ext (λ e. ap (λ (b : Bool). cond b none ((repaired c).table e)) (stray-again e)) j }

  -- no 25
  pub fault25-repaired : (e : ℕ) → fault25 (repaired c) e ≡ false
  unfolding fault25 repaired
  fault25-repaired e = none_stays e (λ w. is_free (c.entries w.file)) (λ w z s. s.occupied)

  -- an occupied file has exactly its extents if each of its offsets had one
  module _ (i : ℕ) (x : Entry) (has : c.entries i ≡ some x) where
    abbrev C : ℕ
    C = extents_for c.geometry x.size

    one-if : (b : Bool) → eqb (cond b 1 0) 1 ≡ b
    one-if true = refl
    one-if false = refl

    none-beyond : (e : ℕ) → owned_from i (extents_for c.geometry x.size) ((repaired c).table e) ≡ false
    unfolding repaired
    none-beyond e = beyond-is (cond (is_stray c e) none (c.table e)) ∙ none_stays e (λ w. eqb w.file i && leb C w.offset) (λ w z s. by w s (eqb w.file i) refl)
      where
        beyond-is : (t : Option Owner) → owned_from i C t ≡ holds_of t (λ w. eqb w.file i && leb C w.offset)
        beyond-is none = refl
        beyond-is (some w) = refl

        by : (w : Owner) → Stays e w → (b : Bool) → eqb w.file i ≡ b → (b && leb C w.offset) ≡ false
        by w s false q = refl
        by w s true q =
            let f : w.file ≡ i = eqb-true w.file i q in
            sym (ap (λ (y : Option Entry). leb (extents_for c.geometry (entry_or y).size) w.offset) (ap c.entries f ∙ has)) ∙ s.within

    pub exact-repaired : exact (repaired c) i (extents_for c.geometry x.size)
        ≡ all_below (λ o. any_below (λ e. is_part i o (c.table e)) c.geometry.extents) (extents_for c.geometry x.size)
    unfolding exact repaired
    exact-repaired =
        ap₂ (λ (a b : Bool). a && b)
        (all_below-ext (λ o. eqb (count_below (λ e. is_part i o ((repaired c).table e)) c.geometry.extents) 1) (λ o. any_below (λ e. is_part i o (c.table e)) c.geometry.extents) C
        (λ o l. ap (λ n. eqb n 1) (count_below-repaired i x has o l c.geometry.extents) ∙ one-if (any_below (λ e. is_part i o (c.table e)) c.geometry.extents)))
        (all_below-yes (λ e. not (owned_from i C ((repaired c).table e))) c.geometry.extents (λ e l. ap not (none-beyond e)))
        ∙ and-yes-right (all_below (λ o. any_below (λ e. is_part i o (c.table e)) c.geometry.extents) C)

    -- a file that has exactly its extents keeps them all
    pub exact-kept : exact c i (extents_for c.geometry x.size) ≡ true
        → (e : ℕ) → e < c.geometry.extents → (w : Owner) → c.table e ≡ some w → w.file ≡ i → is_stray c e ≡ false
    unfolding exact is_stray
    exact-kept ex e l w z f =
        ap (λ (t : Option Owner). holds_of t (stray_by e)) z
        ∙ ap (λ (y : Option Entry). is_free y || leb (extents_for c.geometry (entry_or y).size) w.offset || any_below Q e) (ap c.entries f ∙ has)
        ∙ (λ j. below j || first_of j)
      where
        Q : ℕ → Bool
        Q k = is_part w.file w.offset (c.table k)

        here : is_part i w.offset (c.table e) ≡ true
        here = ap (is_part i w.offset) z ∙ and_yes (eqb w.file i) (eqb w.offset w.offset) (eq-eqb w.file i f) (eq-eqb w.offset w.offset refl)

        below : leb C w.offset ≡ false
        below =
            let q =
            all_below-at (λ e. not (owned_from i C (c.table e))) c.geometry.extents
            (and_right (all_below (λ o. eqb (count_below (λ e. is_part i o (c.table e)) c.geometry.extents) 1) C) _ ex) e l in
            go (leb C w.offset) (ap (λ (t : Option Owner). not (owned_from i C t)) (sym z) ∙ q)
          where
            go : (b : Bool) → not (eqb w.file i && b) ≡ true → b ≡ false
            go true y = absurd (false≢true (sym (ap (λ (t : Bool). not (t && true)) (eq-eqb w.file i f)) ∙ y))
            go false y = refl

        one : count_below (λ k. is_part i w.offset (c.table k)) c.geometry.extents ≡ 1
        one = eqb-true _ 1 (all_below-at (λ o. eqb (count_below (λ e. is_part i o (c.table e)) c.geometry.extents) 1) C (and_left _ _ ex) w.offset (leb-false C w.offset below))

        first_of : any_below Q e ≡ false
        first_of =
            any_below-no Q e (λ k m. go k m (is_part i w.offset (c.table k)) refl)
          where
            go : (k : ℕ) → k < e → (b : Bool) → is_part i w.offset (c.table k) ≡ b → is_part w.file w.offset (c.table k) ≡ false
            go k m true y = absurd (omega (arith, one, count_below-two (λ k. is_part i w.offset (c.table k)) c.geometry.extents k e m l y here))
            go k m false y = ap (λ n. is_part n w.offset (c.table k)) f ∙ y
