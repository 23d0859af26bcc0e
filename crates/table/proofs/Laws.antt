-- What a disk's catalogue says of an extent, in the terms that the code tests; a quotient rounded up. Assumes nothing.
use Prim.Native.Nat.{ℕ, zero, suc, ◌+◌, ◌-◌, ◌*◌, ◌/◌, ◌%◌, ◌≤◌, ◌<◌, max}
use mathlib.Core.Path.{◌≡◌, refl, sym, ap, ◌∙◌}
use mathlib.Core.Bool.{Bool, true, false, cond, not, ◌&&◌}
use mathlib.Core.List.{List}
use mathlib.Core.Option.{none, some}
use native.Mathlib.Nat.{div-add-mod', div-lt_iff_lt-mul, mul-le-mul_left, suc-mul, mod-lt, zero-add, sub-zero}
use native.Mathlib.Omega.{arith}
use lib.Arith.{digits_div}
use lib.Dec.{eqb, leb}
use borrow.Author.Tests.{le-ltb, eq-eqb, ne_eqb, eqb-true, eqb-false}
use Rattle.model.specs.declared.Geometry.{Geometry}
use Rattle.model.specs.Bytes.{be_at}
use Rattle.std.specs.Prelude.{Option, Some, None, MatchOption}
use Rattle.model.specs.Search.{scan, any_below, first, index_of}
use Rattle.model.specs.Geometry.{table_at}
use Rattle.model.specs.Disk.{Disk, view}
use Rattle.model.specs.Superblock.{geometry_in}
use Rattle.model.specs.Table.{free_file, table_file, table_offset}
use Rattle.model.specs.Catalogue.{Owner, catalogue_of, is_free, is_part, owned_from, free_extent, extent_of}
use Rattle.laws.proofs.Disk.{be_at-view}
use Rattle.laws.proofs.Search.{first-ext, scan-none, scan-next, none-at}
use Rattle.laws.proofs.Catalogue.{table_on, part-is}
use Rattle.laws.proofs.Seeking.{seek-start, seek_found, seek-over}
use Rattle.laws.proofs.Folds.{Passed}
use Rattle.table.specs.Word.{swapped, entry_word}
use Rattle.table.specs.Owned.{is_marked, Marks}

-- extent e of an image is free
abbrev pub free_in : List ℕ → Geometry → ℕ → Bool
free_in img g e = eqb (table_file g (view img) e) free_file

-- where the first table sectors hold no extent that passes, the search behind them finds what the whole search does
pub sectors-passed : (p : ℕ → Bool) (n m t : ℕ) → m ≡ n / 128 → Passed (λ j. any_below (λ k. p (128 * j + k)) 128) m t → scan p (n - 128 * t) (128 * t) ≡ first p n
sectors-passed p n m t e h = rw (zero-add (128 * t)) at (seek-over (seek-start {p = p} {n = n}) (128 * t) (omega (arith, h.0)) none).rest
  where
    none : None ≡ scan p (128 * t) 0
    none =
        sym (scan-none p (128 * t) 0 (λ k a b.
        let at : 128 * (k / 128) + k % 128 ≡ k = omega arith in
        rw at at (none-at (λ j. p (128 * (k / 128) + j)) 128 (h.1 (k / 128) (omega arith)) (k % 128) (omega arith))))

-- a search goes on behind w indexes that fail
scan-over : (p : ℕ → Bool) (n i w : ℕ) → i + w ≤ n → ((k : ℕ) → i ≤ k → k < i + w → p k ≡ false) → scan p (n - (i + w)) (i + w) ≡ scan p (n - i) i
scan-over p n i zero l h =
    let z : i + zero ≡ i = omega arith in
    ap (λ j. scan p (n - j) j) z
scan-over p n i (suc w) l h =
    let e : i + suc w ≡ i + 1 + w = omega arith in
    ap (λ j. scan p (n - j) j) e ∙ scan-over p n (i + 1) w (omega arith) (λ k a b. h k (omega arith) (omega arith))
    ∙ sym (scan-next p n i (omega arith) (h i (omega arith) (omega arith)))

-- where the first table sectors hold no extent that passes, a search from some index on goes on behind them
pub sectors-over : (p : ℕ → Bool) (n from m t : ℕ) → from ≤ n → m ≡ (n - from) / 128 → Passed (λ j. any_below (λ k. p (128 * j + k)) 128) m t
    → scan p (n - max from (128 * t)) (max from (128 * t)) ≡ scan p (n - from) from
sectors-over p n from m t l e h =
    let s : max from (128 * t) ≡ from + (128 * t - from) = omega arith in
    ap (λ j. scan p (n - j) j) s
    ∙ scan-over p n from (128 * t - from) (omega (arith, h.0)) (λ k a b.
    let at : 128 * (k / 128) + k % 128 ≡ k = omega arith in
    rw at at (none-at (λ j. p (128 * (k / 128) + j)) 128 (h.1 (k / 128) (omega arith)) (k % 128) (omega arith)))

-- a search that ended among the first few, or else what the search behind them finds
pub found-early : (p : ℕ → Bool) (n few : ℕ) (o r : Option ℕ) {N : Type 0} → o ≡ scan p (few - 0) 0 → few ≤ n → MatchOption o N (λ k. r ≡ Some k)
    → (N → r ≡ scan p (n - few) few) → r ≡ first p n
found-early p n few (Some k) r e l h other = h ∙ seek_found (seek-start {p = p} {n = n}) few (omega arith) (rw (sub-zero few) at e)
found-early p n few None r e l h other = other h ∙ rw (zero-add few) at (seek-over (seek-start {p = p} {n = n}) few (omega arith) (rw (sub-zero few) at e)).rest

vacant : (b : Bool) (w : Owner) → is_free (cond (not b) (some w) none) ≡ b
vacant true w = refl
vacant false w = refl

beyond-of : (d : Disk) (i o e : ℕ) → i < free_file → e < (geometry_in (d 0)).extents
    → owned_from i o ((catalogue_of d).table e) ≡ (eqb (table_file (geometry_in (d 0)) d e) i && leb o (table_offset (geometry_in (d 0)) d e))
beyond-of d i o e few l = ap (owned_from i o) (table_on d e l) ∙ go (eqb (table_file (geometry_in (d 0)) d e) free_file) refl
  where
    f : ℕ
    f = table_file (geometry_in (d 0)) d e

    w : Owner
    w = record { file = table_file (geometry_in (d 0)) d e; offset = table_offset (geometry_in (d 0)) d e }

    go : (b : Bool) → eqb f free_file ≡ b → owned_from i o (cond (not b) (some w) none) ≡ (eqb f i && leb o w.offset)
    go true q = let z : f ≡ free_file = eqb-true f free_file q in sym (rw (ne_eqb f i (λ y. omega arith)))
    go false q = refl

module _ (d : Disk) (g : Geometry) (is : g ≡ geometry_in (d 0)) where
  pub geometry-of : (catalogue_of d).geometry ≡ g
  unfolding catalogue_of
  geometry-of = sym is

  pub free_on : (e : ℕ) → e < g.extents → is_free ((catalogue_of d).table e) ≡ eqb (table_file g d e) free_file
  free_on e l = rw is (ap is_free (table_on d e (rw is at l)) ∙ vacant (eqb (table_file (geometry_in (d 0)) d e) free_file) _)

  pub free-extent-is : free_extent (catalogue_of d) ≡ first (λ e. eqb (table_file g d e) free_file) g.extents
  unfolding free_extent catalogue_of
  free-extent-is =
      ap (λ (h : Geometry). first (λ e. is_free ((catalogue_of d).table e)) h.extents) (sym is)
      ∙ first-ext (λ e. is_free ((catalogue_of d).table e)) (λ e. eqb (table_file g d e) free_file) g.extents free_on

  pub extent-of-is : (i o : ℕ) → extent_of (catalogue_of d) i o ≡ index_of (first (λ e. is_part i o ((catalogue_of d).table e)) g.extents)
  unfolding extent_of catalogue_of
  extent-of-is i o = rw is

  pub part-on : (i o e : ℕ) → i < free_file → e < g.extents → is_part i o ((catalogue_of d).table e) ≡ (eqb (table_file g d e) i && eqb (table_offset g d e) o)
  part-on i o e few l = rw is (part-is d i few o e (rw is at l))

  pub beyond-on : (i o e : ℕ) → i < free_file → e < g.extents → owned_from i o ((catalogue_of d).table e) ≡ (eqb (table_file g d e) i && leb o (table_offset g d e))
  beyond-on i o e few l = rw is (beyond-of d i o e few (rw is at l))

  pub beyond-past : (i o e : ℕ) → g.extents ≤ e → owned_from i o ((catalogue_of d).table e) ≡ false
  unfolding catalogue_of
  beyond-past i o e h = rw (le-ltb e (geometry_in (d 0)).extents (rw is at h))

-- bytes that mark what a test picks
pub marks-are : (p : ℕ → Bool) (n : ℕ) (marks : List ℕ) → Marks p n marks → (k : ℕ) → k < n → is_marked marks k ≡ p k
marks-are p n marks h k l = ap (λ x. eqb x 1) (h k l) ∙ one (p k)
  where
    one : (b : Bool) → eqb (cond b 1 0) 1 ≡ b
    one true = refl
    one false = refl

-- z / e rounded up, as a quotient and what is left
module _ (z e : ℕ) (pos : 0 < e) where
  pub round_whole : z % e ≡ 0 → z / e ≡ (z + (e - 1)) / e
  round_whole h =
      let s : z + (e - 1) ≡ z / e * e + (e - 1) = omega (arith, div-add-mod' z e) in
      sym (ap (λ x. x / e) s ∙ digits_div (z / e) {m = e} {r = e - 1} (omega arith))

  pub round-part : (z % e ≡ 0 → ⊥) → z / e + 1 ≡ (z + (e - 1)) / e
  round-part h =
      let s : z + (e - 1) ≡ (z / e + 1) * e + (z % e - 1) = omega (arith, div-add-mod' z e, suc-mul (z / e) e, h) in
      sym (ap (λ x. x / e) s ∙ digits_div (z / e + 1) {m = e} {r = z % e - 1} (omega (arith, mod-lt z {m = e} pos)))

pub few-extents : (z e : ℕ) → 65536 ≤ e → z < 18446744073709551616 → z / e < 281474976710656
few-extents z e big h =
    let p : 281474976710656 * 65536 ≤ 281474976710656 * e = mul-le-mul_left 281474976710656 big in
    (div-lt_iff_lt-mul {k = e} (omega arith)).1 (omega arith)

-- where an extent's entry stands in the image
module _ (img : List ℕ) (g : Geometry) (e : ℕ) where
  pub file-at : be_at img (512 * table_at g + 4 * e) 2 ≡ table_file g (view img) e
  unfolding table_file
  file-at =
      let k : 512 * (table_at g + e / 128) + 4 * (e % 128) ≡ 512 * table_at g + 4 * e = omega arith in
      sym (be_at-view img (table_at g + e / 128) (4 * (e % 128)) 2 (omega arith) ∙ ap (λ n. be_at img n 2) k)

  pub offset_at : be_at img (512 * table_at g + 4 * e + 2) 2 ≡ table_offset g (view img) e
  unfolding table_offset
  offset_at =
      let k : 512 * (table_at g + e / 128) + (4 * (e % 128) + 2) ≡ 512 * table_at g + 4 * e + 2 = omega arith in
      sym (be_at-view img (table_at g + e / 128) (4 * (e % 128) + 2) 2 (omega arith) ∙ ap (λ n. be_at img n 2) k)

-- ---- entries as words

swapped-small : (v : ℕ) → v < 65536 → swapped v < 65536
swapped-small v l = omega arith

swapped_same : (v w : ℕ) → swapped v ≡ swapped w → v < 65536 → w < 65536 → v ≡ w
swapped_same v w e l m = omega arith

halves : (x y z t : ℕ) → x < 65536 → z < 65536 → x + 65536 * y ≡ z + 65536 * t → (x ≡ z) × (y ≡ t)
halves x y z t l m e = (omega arith, omega arith)

digits_mod : (x y : ℕ) → x < 65536 → (x + 65536 * y) % 65536 ≡ x
digits_mod x y l = omega arith

pub word-is : (f o i p : ℕ) → f < 65536 → o < 65536 → i < 65536 → p < 65536 → eqb (entry_word f o) (entry_word i p) ≡ (eqb f i && eqb o p)
word-is f o i p a b c d = go (eqb f i) refl (eqb o p) refl
  where
    both : entry_word f o ≡ entry_word i p → (swapped f ≡ swapped i) × (swapped o ≡ swapped p)
    both = halves (swapped f) (swapped o) (swapped i) (swapped p) (swapped-small f a) (swapped-small i c)

    go : (x : Bool) → eqb f i ≡ x → (y : Bool) → eqb o p ≡ y → eqb (entry_word f o) (entry_word i p) ≡ (x && y)
    go true q true r = eq-eqb (entry_word f o) (entry_word i p) (rw (eqb-true f i q, eqb-true o p r))
    go true q false r = ne_eqb (entry_word f o) (entry_word i p) (λ e. eqb-false o p r (swapped_same o p (both e).1 b d))
    go false q y r = ne_eqb (entry_word f o) (entry_word i p) (λ e. eqb-false f i q (swapped_same f i (both e).0 a c))

pub word-free : (f o : ℕ) → f < 65536 → eqb (entry_word f o % 65536) 65535 ≡ eqb f free_file
word-free f o l = go (eqb f free_file) refl
  where
    low : entry_word f o % 65536 ≡ swapped f
    low = digits_mod (swapped f) (swapped o) (swapped-small f l)

    go : (x : Bool) → eqb f free_file ≡ x → eqb (entry_word f o % 65536) 65535 ≡ x
    go true q = eq-eqb (entry_word f o % 65536) 65535 (low ∙ ap swapped (eqb-true f free_file q))
    go false q = ne_eqb (entry_word f o % 65536) 65535 (λ e. eqb-false f free_file q (swapped_same f 65535 (sym low ∙ e) l (omega arith)))
