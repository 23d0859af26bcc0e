-- Laws of the arrays: how the starts follow one another, and what one more extent changes. Assumes nothing.
use Prim.Native.Nat.{ℕ, zero, suc, ◌+◌, ◌≤◌, ◌<◌}
use mathlib.Core.Path.{◌≡◌, refl, sym, ap, ◌∙◌}
use mathlib.Core.Logic.{◌≢◌, ◌⊎◌, inl, inr, ⊎_elim}
use mathlib.Core.Bool.{Bool, true, false, ◌||◌}
use mathlib.Core.List.{List}
use native.Mathlib.Nat.{eq-or-lt_of_le}
use native.Mathlib.Omega.{arith}
use native.Mathlib.Decide.{dec_lt}
use lib.Dec.{eqb, leb}
use lib.ListN.{length, get_or, set, length-set}
use lib.Seq.{get_or-set_same, get_or-set_other}
use borrow.Author.Tests.{eq-eqb, ne_eqb, eqb-true, eqb-false, le-leb, lt-leb}
use Rattle.model.specs.declared.Geometry.{Geometry}
use Rattle.model.specs.Search.{any_below}
use Rattle.model.specs.Disk.{Disk}
use Rattle.model.specs.Table.{free_file, table_file, table_offset}
use Rattle.laws.proofs.Booleans.{or_right}
use Rattle.laws.proofs.Search.{any_below-more}
use Rattle.allocation.specs.Marks.{bit, needed, start_of, holds, is_extra, Rising, Starts, Marks}
use Rattle.allocation.proofs.Sums.{sum_to-next, sum_to-step}

any_below-stays : (p : ℕ → Bool) (k : ℕ) → p k ≡ false → any_below p k ≡ any_below p (k + 1)
any_below-stays p k e = rw (any_below-more p k, e)

any_below-here : (p : ℕ → Bool) (k : ℕ) → p k ≡ true → true ≡ any_below p (k + 1)
any_below-here p k e = rw (any_below-more p k, e)

some-kept : (p : ℕ → Bool) (k : ℕ) → any_below p k ≡ true → any_below p (k + 1) ≡ true
some-kept p k e = any_below-more p k ∙ or_right (p k) (any_below p k) e

bit-true : (b : Bool) → bit b ≡ 1 → b ≡ true
bit-true true e = refl
bit-true false e = absurd (omega arith)

bit-false : (b : Bool) → (bit b ≡ 1 → ⊥) → b ≡ false
bit-false true e = absurd (e refl)
bit-false false e = refl

same_end : (s a b : ℕ) → s + a ≡ s + b → a ≡ b
same_end s a b e = omega arith

module _ (g : Geometry) (d : Disk) where
  pub start-next : (i : ℕ) → start_of g d (i + 1) ≡ needed g d i + start_of g d i
  unfolding start_of
  start-next i = sum_to-next (needed g d) i

  -- a file's bytes end before a later one's begin
  pub apart : (i j : ℕ) → i < j → start_of g d i + needed g d i ≤ start_of g d j
  unfolding start_of
  apart i j l = sum_to-step (needed g d) i j l

  start-mono : (i j : ℕ) → i ≤ j → start_of g d i ≤ start_of g d j
  start-mono i j l = ⊎_elim (λ (e : i ≡ j). rw e (omega arith)) (λ (s : i < j). omega (arith, apart i j s)) (eq-or-lt_of_le l)

  pub starts-down : (m n : ℕ) (starts : List ℕ) → Starts g d m starts → n ≤ m → Starts g d n starts
  starts-down m n starts S l = record {
    size = S.size;
    files = omega (arith, S.files);
    at = λ i h. S.at i (omega arith);
    fits = omega (arith, S.fits, start-mono n m l);
  }

  -- file f's bytes, by the array
  pub range : (m f : ℕ) (starts : List ℕ) → Starts g d m starts → f < m
      → (get_or starts f 0 ≡ start_of g d f) × (get_or starts (f + 1) 0 ≡ start_of g d f + needed g d f) × (start_of g d f + needed g d f ≤ g.extents)
  range m f starts S l = (
    S.at f (omega arith),
    S.at (f + 1) (omega arith) ∙ start-next f ∙ (let e : needed g d f + start_of g d f ≡ start_of g d f + needed g d f = omega arith in e),
    omega (arith, S.fits, apart f m l),
  )

  -- by the array, no file's bytes end before they begin or past the extents
  pub starts-rise : (m n : ℕ) (starts : List ℕ) → Starts g d m starts → g.extents ≤ n → Rising starts m n
  starts-rise m n starts S l = record {
    rises = λ i h. omega (arith, S.at i (omega arith), S.at (i + 1) (omega arith), start-mono i (i + 1) (omega arith));
    last = λ i h. omega (arith, S.at i h, S.at m (omega arith), start-mono i m h);
    within = omega (arith, S.at m (omega arith), S.fits);
  }

  -- an array of zeros has no mark
  pub no-marks : (m : ℕ) (starts seen : List ℕ) → Starts g d m starts → g.extents ≤ length seen → ((p : ℕ) → p < length seen → get_or seen p 0 ≡ 0)
      → (m < g.files → g.extents < start_of g d (m + 1)) → Marks g d 0 m seen
  unfolding any_below
  no-marks m starts seen S room unmarked why = record {
    size = room;
    seen_at = λ i li o lo. unmarked (start_of g d i + o) (omega (arith, S.fits, apart i m li));
    none = λ i li. refl;
    why = λ l. inr (why l);
  }

  -- extent k, of file f and offset o
  module _ (k m : ℕ) (seen : List ℕ) (M : Marks g d k m seen) (f : ℕ) (ef : f ≡ table_file g d k) where
    -- it says nothing of another file
    not-held : (i p : ℕ) → f ≢ i → holds g d i p k ≡ false
    not-held i p ne = rw (← ef, ne_eqb f i ne)

    not-extra : (i : ℕ) → f ≢ i → is_extra g d i k ≡ false
    not-extra i ne = rw (← ef, ne_eqb f i ne)

    seen_other : (i p : ℕ) → i < m → p < needed g d i → f ≢ i → get_or seen (start_of g d i + p) 0 ≡ bit (any_below (holds g d i p) (k + 1))
    seen_other i p li lp ne = M.seen_at i li p lp ∙ ap bit (any_below-stays (holds g d i p) k (not-held i p ne))

    none_other : (i : ℕ) → i < m → f ≢ i → any_below (is_extra g d i) (k + 1) ≡ false
    none_other i li ne = sym (any_below-stays (is_extra g d i) k (not-extra i ne)) ∙ M.none i li

    still : m < g.files → (any_below (is_extra g d m) (k + 1) ≡ true) ⊎ (g.extents < start_of g d (m + 1))
    still l = ⊎_elim (λ e. inl (some-kept (is_extra g d m) k e)) (λ h. inr h) (M.why l)

    pub mark-later : m ≤ f → Marks g d (k + 1) m seen
    mark-later h = record {
      size = M.size;
      seen_at = λ i li p lp. seen_other i p li lp (λ e. omega arith);
      none = λ i li. none_other i li (λ e. omega arith);
      why = still;
    }

    module _ (o : ℕ) (eo : o ≡ table_offset g d k) where
      mark-extra : f < m → (leb (needed g d f) o || any_below (holds g d f o) k) ≡ true → Marks g d (k + 1) f seen
      mark-extra l x = record {
        size = M.size;
        seen_at = λ i li p lp. seen_other i p (omega arith) lp (λ e. omega arith);
        none = λ i li. none_other i (omega arith) (λ e. omega arith);
        why = λ h. inl (sym (any_below-here (is_extra g d f) k (rw (← ef, ← eo, eq-eqb f f refl) x)));
      }

      mark-large : f < m → needed g d f ≤ o → Marks g d (k + 1) f seen
      mark-large l h = mark-extra l (rw (le-leb (needed g d f) o h))

      module _ (l : f < m) (lo : o < needed g d f) where
        mark-again : get_or seen (start_of g d f + o) 0 ≡ 1 → Marks g d (k + 1) f seen
        mark-again e = mark-extra l (or_right (leb (needed g d f) o) (any_below (holds g d f o) k) (bit-true (any_below (holds g d f o) k) (sym (M.seen_at f l o lo) ∙ e)))

        clash : (i p : ℕ) → p < needed g d i → f ≢ i → start_of g d i + p ≢ start_of g d f + o
        clash i p lp ne e = go (dec_lt i f)
          where
            go : Dec (i < f) → ⊥
            go (yes h) = omega (arith, apart i f h)
            go (no h) = let s : f < i = omega arith in omega (arith, apart f i s)

        module _ (fits : start_of g d f + o < length seen) (new : get_or seen (start_of g d f + o) 0 ≡ 1 → ⊥) where
          first-met : any_below (holds g d f o) k ≡ false
          first-met = bit-false (any_below (holds g d f o) k) (λ e. new (M.seen_at f l o lo ∙ e))

          after : (i p : ℕ) → i < m → p < needed g d i → (a b : Bool) → eqb f i ≡ a → eqb o p ≡ b
              → get_or (set seen (start_of g d f + o) 1) (start_of g d i + p) 0 ≡ bit (any_below (holds g d i p) (k + 1))
          after i p li lp true true s t =
              rw (← eqb-true f i s, ← eqb-true o p t)
              (get_or-set_same seen (start_of g d f + o) 1 0 fits ∙ ap bit (any_below-here (holds g d f o) k (rw (← ef, ← eo, eq-eqb f f refl) (eq-eqb o o refl))))
          after i p li lp true false s t =
              let ne : o ≢ p = eqb-false o p t in
              rw (← eqb-true f i s)
              (get_or-set_other seen (start_of g d f + o) (start_of g d f + p) 1 0 (λ e. ne (same_end (start_of g d f) o p (sym e)))
              ∙ M.seen_at f l p (rw (← eqb-true f i s) at lp)
              ∙ ap bit (any_below-stays (holds g d f p) k (rw (← ef, ← eo, eq-eqb f f refl) t)))
          after i p li lp false b s t =
              let ne : f ≢ i = eqb-false f i s in
              get_or-set_other seen (start_of g d f + o) (start_of g d i + p) 1 0 (clash i p lp ne) ∙ seen_other i p li lp ne

          none_after : (i : ℕ) → i < m → (a : Bool) → eqb f i ≡ a → any_below (is_extra g d i) (k + 1) ≡ false
          none_after i li true s =
              rw (← eqb-true f i s)
              (sym (any_below-stays (is_extra g d f) k (rw (← ef, ← eo, eq-eqb f f refl, lt-leb (needed g d f) o lo) first-met)) ∙ M.none f l)
          none_after i li false s = none_other i li (eqb-false f i s)

          mark-new : Marks g d (k + 1) m (set seen (start_of g d f + o) 1)
          mark-new = record {
            size = omega (arith, length-set seen (start_of g d f + o) 1, M.size);
            seen_at = λ i li p lp. after i p li lp (eqb f i) (eqb o p) refl refl;
            none = λ i li. none_after i li (eqb f i) refl;
            why = still;
          }

      -- the same in the code's terms
      module _ (starts : List ℕ) (S : Starts g d m starts) (l : f < m) where
        pub past : get_or starts (f + 1) 0 ≤ get_or starts f 0 + o → Marks g d (k + 1) f seen
        past h = let r = range m f starts S l in mark-large l (omega arith)

        module _ (h : get_or starts f 0 + o < get_or starts (f + 1) 0) where
          inside : o < needed g d f
          inside = let r = range m f starts S l in omega arith

          pub again : get_or seen (get_or starts f 0 + o) 0 ≡ 1 → Marks g d (k + 1) f seen
          again e = mark-again l inside (rw (range m f starts S l).0 at e)

          pub new : (get_or seen (get_or starts f 0 + o) 0 ≡ 1 → ⊥) → Marks g d (k + 1) m (set seen (get_or starts f 0 + o) 1)
          new e =
              let r = range m f starts S l in
              rw r.0 (mark-new l inside (omega (arith, inside, M.size)) (rw r.0 at e))

  -- free extents leave the marks as they are
  pub marks-over : (k m w : ℕ) (seen : List ℕ) → m ≤ free_file → ((j : ℕ) → j < w → table_file g d (k + j) ≡ free_file) → Marks g d k m seen → Marks g d (k + w) m seen
  marks-over k m zero seen l h M = let z : k ≡ k + 0 = omega arith in rw z at M
  marks-over k m (suc w) seen l h M =
      let z : k + w + 1 ≡ k + suc w = omega arith in
      rw z at (mark-later (k + w) m seen (marks-over k m w seen l (λ j q. h j (omega arith)) M) free_file (sym (h w (omega arith))) l)
