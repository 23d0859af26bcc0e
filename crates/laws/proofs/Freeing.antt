-- Table sectors in which the extents of a test are freed: entry by entry, record by record, and what the records leave. Assumes nothing.
use Prim.Native.Nat.{ℕ, zero, suc, ◌+◌, ◌*◌, ◌≤◌, ◌<◌}
use mathlib.Core.Path.{◌≡◌, refl, sym, ap, ap₂, ◌∙◌}
use mathlib.Core.Logic.{◌≢◌, ⊎_elim}
use mathlib.Core.Bool.{Bool, true, false, cond, ◌||◌}
use mathlib.Core.List.{List, [], ◌∷◌}
use native.Mathlib.Nat.{eq-or-lt_of_le, le_of_suc-le-suc, not-suc-le-zero, zero-add}
use native.Mathlib.Numerals.{add-one}
use native.Mathlib.Omega.{arith}
use lib.Dec.{eqb}
use lib.ListN.{length}
use borrow.Author.Tests.{eq-eqb, ne_eqb}
use Rattle.model.specs.declared.Geometry.{Geometry}
use Rattle.model.specs.Bytes.{put}
use Rattle.model.specs.Search.{any_below, count_below, concatenated}
use Rattle.model.specs.Geometry.{table_at, table_sectors}
use Rattle.model.specs.Disk.{Disk}
use Rattle.model.specs.Table.{free_file, table_entry_bytes, freed_in, holds_any, sectors_holding}
use Rattle.model.specs.WriteList.{Record, sector_write, over, hits}
use Rattle.model.specs.Freeing.{freed_sector, freed_sectors}
use Rattle.laws.proofs.Booleans.{or-false, cond_same}
use Rattle.laws.proofs.Search.{none-at}
use Rattle.laws.proofs.Count.{count_below-le, length-concatenated}
use Rattle.laws.proofs.WriteList.{over-append, hits-append}

-- ---- a sector's entries

pub freed-more : (p : ℕ → Bool) (s : List ℕ) (k : ℕ)
    → freed_in p s (k + 1) ≡ cond (p k) (put (freed_in p s k) (4 * k) (table_entry_bytes free_file 65535)) (freed_in p s k)
unfolding freed_in
freed-more p s k = rw add-one

-- two tests that pick the same
pub freed-ext : (p q : ℕ → Bool) (s : List ℕ) (n : ℕ) → ((k : ℕ) → k < n → p k ≡ q k) → freed_in p s n ≡ freed_in q s n
unfolding freed_in
freed-ext p q s zero h = refl
freed-ext p q s (suc n) h =
    ap₂ (λ (b : Bool) (r : List ℕ). cond b (put r (4 * n) (table_entry_bytes free_file 65535)) r) (h n (omega arith))
    (freed-ext p q s n (λ k l. h k (omega arith)))

-- nothing picked, nothing freed
freed-nothing : (p : ℕ → Bool) (s : List ℕ) (n : ℕ) → ((k : ℕ) → k < n → p k ≡ false) → freed_in p s n ≡ s
unfolding freed_in
freed-nothing p s zero h = refl
freed-nothing p s (suc n) h = rw (h n (omega arith)) (freed-nothing p s n (λ k l. h k (omega arith)))

pub freed-none : (p : ℕ → Bool) (s : List ℕ) (n : ℕ) → any_below p n ≡ false → freed_in p s n ≡ s
freed-none p s n e = freed-nothing p s n (none-at p n e)

-- ---- a record that is there or not

length-if : (b : Bool) (w : Record) → length (cond b (w ∷ []) []) ≡ cond b 1 0
length-if true w = refl
length-if false w = refl

over-if : (b : Bool) (w : Record) (s : ℕ) (x : List ℕ) → over (cond b (w ∷ []) []) s x ≡ cond b (cond (eqb s w.sector) w.contents x) x
unfolding over
over-if true w s x = refl
over-if false w s x = refl

hits-if : (b : Bool) (w : Record) (s : ℕ) (t : Bool) → eqb s w.sector ≡ t → hits (cond b (w ∷ []) []) s ≡ cond b t false
unfolding hits
hits-if true w s true e = rw e
hits-if true w s false e = rw e
hits-if false w s t e = refl

self-or : (b : Bool) → cond b true false ≡ b
self-or true = refl
self-or false = refl

-- ---- the records

pub sectors-few : (freed : ℕ → Bool) (g : Geometry) → sectors_holding freed g ≤ table_sectors g
unfolding sectors_holding
sectors-few freed g = count_below-le (holds_any freed) (table_sectors g)

module _ (freed : ℕ → Bool) (g : Geometry) (d : Disk) where
  pub freed-hit : (t : ℕ) → holds_any freed t ≡ true
      → freed_sector freed g d t ≡ sector_write (table_at g + t) (freed_in (λ k. freed (128 * t + k)) (d (table_at g + t)) 128) ∷ []
  unfolding freed_sector
  freed-hit t h = rw h

  pub freed-miss : (t : ℕ) → holds_any freed t ≡ false → freed_sector freed g d t ≡ []
  unfolding freed_sector
  freed-miss t h = rw h

  -- of the first n table sectors, and of all
  pub length-firsts : (n : ℕ) → length (concatenated (freed_sector freed g d) 0 n) ≡ count_below (holds_any freed) n
  unfolding freed_sector
  length-firsts n = length-concatenated (freed_sector freed g d) (holds_any freed) n (λ t. length-if (holds_any freed t) _)

  pub length-freed : length (freed_sectors freed g d) ≡ sectors_holding freed g
  unfolding freed_sectors sectors_holding
  length-freed = length-firsts (table_sectors g)

  pub freed-few : length (freed_sectors freed g d) ≤ table_sectors g
  freed-few = omega (arith, length-freed, sectors-few freed g)

  -- ---- what they leave in a sector, and which sectors they are for

  abbrev contents_at : ℕ → List ℕ
  contents_at t = freed_in (λ k. freed (128 * t + k)) (d (table_at g + t)) 128

  freed-over-one : (t s : ℕ) (y : List ℕ)
      → over (freed_sector freed g d t) s y ≡ cond (holds_any freed t) (cond (eqb s (table_at g + t)) (contents_at t) y) y
  unfolding freed_sector
  freed-over-one t s y = over-if (holds_any freed t) (sector_write (table_at g + t) (contents_at t)) s y

  freed-hits-one : (t s : ℕ) (b : Bool) → eqb s (table_at g + t) ≡ b → hits (freed_sector freed g d t) s ≡ cond (holds_any freed t) b false
  unfolding freed_sector
  freed-hits-one t s b e = hits-if (holds_any freed t) (sector_write (table_at g + t) (contents_at t)) s b e

  -- at another sector, and at table sector t
  freed-other-one : (t s : ℕ) (y : List ℕ) → s ≢ table_at g + t → (over (freed_sector freed g d t) s y ≡ y) × (hits (freed_sector freed g d t) s ≡ false)
  freed-other-one t s y ne =
      let e : eqb s (table_at g + t) ≡ false = ne_eqb s (table_at g + t) ne in (
        freed-over-one t s y ∙ ap (λ (b : Bool). cond (holds_any freed t) (cond b (contents_at t) y) y) e ∙ cond_same (holds_any freed t) y,
        freed-hits-one t s false e ∙ cond_same (holds_any freed t) false,
      )

  abbrev firsts : ℕ → List Record
  firsts n = concatenated (freed_sector freed g d) 0 n

  freed-next : (n s : ℕ) (y : List ℕ)
      → (over (firsts (suc n)) s y ≡ over (freed_sector freed g d n) s (over (firsts n) s y))
      × (hits (firsts (suc n)) s ≡ (hits (firsts n) s || hits (freed_sector freed g d n) s))
  unfolding concatenated
  freed-next n s y =
      let z : freed_sector freed g d (0 + n) ≡ freed_sector freed g d n = ap (freed_sector freed g d) (zero-add n) in (
        over-append (firsts n) (freed_sector freed g d (0 + n)) s y ∙ ap (λ (r : List Record). over r s (over (firsts n) s y)) z,
        hits-append (firsts n) (freed_sector freed g d (0 + n)) s ∙ ap (λ (r : List Record). hits (firsts n) s || hits r s) z,
      )

  freed-others : (n s : ℕ) (y : List ℕ) → ((t : ℕ) → t < n → s ≢ table_at g + t) → (over (firsts n) s y ≡ y) × (hits (firsts n) s ≡ false)
  unfolding concatenated over hits
  freed-others zero s y h = (refl, refl)
  freed-others (suc n) s y h =
      let r = freed-others n s y (λ t l. h t (omega arith)) in
      let o = freed-other-one n s y (h n (omega arith)) in (
        (freed-next n s y).0 ∙ ap (over (freed_sector freed g d n) s) r.0 ∙ o.0,
        (freed-next n s y).1 ∙ ap₂ (λ a b. a || b) r.1 o.1,
      )

  abbrev FreedAt : ℕ → ℕ → List ℕ → Type 0
  FreedAt n t y =
      (over (firsts n) (table_at g + t) y ≡ cond (holds_any freed t) (contents_at t) y) × (hits (firsts n) (table_at g + t) ≡ holds_any freed t)

  freed-last : (n t : ℕ) (y : List ℕ) → t ≡ n → FreedAt (suc n) t y
  freed-last n t y e =
      let s = table_at g + t in
      let r = freed-others n s y (λ u l q. omega arith) in
      let here : eqb s (table_at g + n) ≡ true = eq-eqb s (table_at g + n) (omega arith) in (
        (freed-next n s y).0 ∙ ap (over (freed_sector freed g d n) s) r.0 ∙ freed-over-one n s y
            ∙ ap (λ (b : Bool). cond (holds_any freed n) (cond b (contents_at n) y) y) here
            ∙ ap (λ (u : ℕ). cond (holds_any freed u) (contents_at u) y) (sym e),
        (freed-next n s y).1 ∙ ap₂ (λ a b. a || b) r.1 (freed-hits-one n s true here ∙ self-or (holds_any freed n)) ∙ ap (holds_any freed) (sym e),
      )

  freed-before : (n t : ℕ) (y : List ℕ) → t < n → FreedAt n t y → FreedAt (suc n) t y
  freed-before n t y l r =
      let s = table_at g + t in
      let o = freed-other-one n s (over (firsts n) s y) (λ q. omega arith) in (
        (freed-next n s y).0 ∙ o.0 ∙ r.0,
        (freed-next n s y).1 ∙ ap₂ (λ a b. a || b) r.1 o.1 ∙ or-false (holds_any freed t),
      )

  freed-at : (n t : ℕ) (y : List ℕ) → t < n → FreedAt n t y
  freed-at zero t y h = absurd (not-suc-le-zero h)
  freed-at (suc n) t y h = ⊎_elim (freed-last n t y) (λ (l : t < n). freed-before n t y l (freed-at n t y l)) (eq-or-lt_of_le (le_of_suc-le-suc h))

  -- all of them: at a sector before the table, and at table sector t
  pub freed-outside : (s : ℕ) (y : List ℕ) → s < table_at g → (over (freed_sectors freed g d) s y ≡ y) × (hits (freed_sectors freed g d) s ≡ false)
  unfolding freed_sectors
  freed-outside s y h = freed-others (table_sectors g) s y (λ t l e. omega arith)

  pub freed-inside : (t : ℕ) → t < table_sectors g
      → (over (freed_sectors freed g d) (table_at g + t) (d (table_at g + t)) ≡ contents_at t)
      × (hits (freed_sectors freed g d) (table_at g + t) ≡ holds_any freed t)
  unfolding freed_sectors holds_any
  freed-inside t h =
      let r = freed-at (table_sectors g) t (d (table_at g + t)) h in
      (r.0 ∙ whole (any_below (λ k. freed (128 * t + k)) 128) refl, r.1)
    where
      whole : (b : Bool) → any_below (λ k. freed (128 * t + k)) 128 ≡ b → cond b (contents_at t) (d (table_at g + t)) ≡ contents_at t
      whole true e = refl
      whole false e = sym (freed-none (λ k. freed (128 * t + k)) (d (table_at g + t)) 128 e)
