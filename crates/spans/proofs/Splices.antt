-- A sector of a span as it is emitted: whole, or spliced into its old bytes; and where consecutive file sectors of one extent
-- stand. Assumes nothing.
use Prim.Native.Nat.{ℕ, ◌+◌, ◌*◌, ◌-◌, ◌/◌, ◌%◌, ◌≤◌, ◌<◌, ◌^◌, min, max}
use mathlib.Core.Path.{◌≡◌, sym, ap, ap₂, ◌∙◌}
use mathlib.Core.Bool.{Bool, true, false, cond}
use mathlib.Core.List.{List}
use native.Mathlib.Nat.{add-zero, div-add-mod'}
use native.Mathlib.Omega.{arith}
use lib.Arith.{digits_div, digits_mod}
use lib.Dec.{eqb, ltb}
use lib.ListN.{length}
use Rattle.model.specs.declared.Geometry.{Geometry}
use Rattle.model.specs.Bytes.{bytes_from, put}
use Rattle.model.specs.Search.{scan, tabulate, index_of}
use Rattle.model.specs.Geometry.{extent_sectors, extent_at}
use Rattle.model.specs.Disk.{view}
use Rattle.model.specs.Catalogue.{catalogue_of, extent_of, free_extent}
use Rattle.model.specs.WriteList.{sector_write}
use Rattle.model.specs.Write.{spliced, spliced_from, held_extents, file_sector_at, data_sector}
use Rattle.model.specs.Opened.{Opened}
use Rattle.model.proofs.Areas.{product}
use Rattle.laws.proofs.Bytes.{length-bytes_from, put_all}
use Rattle.laws.proofs.Search.{scan-hit, tabulate-ext}
use Rattle.spans.specs.Touched.{Lent}
use Rattle.model.specs.Table.{free_file, table_file}
use Rattle.table.proofs.Laws.{free-extent-is}
use Rattle.spans.proofs.Laws.{found_below, extent-below, sector-within}

module _ (offset s : ℕ) (bytes old : List ℕ) (from to : ℕ) (first : from ≡ max offset (512 * s)) (last : to ≡ min (offset + length bytes) (512 * s + 512)) where
  pub splice-part : put old (from - 512 * s) (bytes_from bytes (from - offset) (to - from)) ≡ spliced offset bytes s old
  unfolding spliced spliced_from
  splice-part = rw (first, last)

  pub splice-whole : length old ≡ 512 → to - from ≡ 512 → bytes_from bytes (from - offset) 512 ≡ spliced offset bytes s old
  splice-whole l h =
      let z : from - 512 * s ≡ 0 = omega arith in
      sym (put_all old (bytes_from bytes (from - offset) 512) (length-bytes_from bytes (from - offset) 512 ∙ sym l))
      ∙ ap₂ (λ (a n : ℕ). put old a (bytes_from bytes (from - offset) n)) (sym z) (sym h)
      ∙ splice-part

-- ---- where the file's sectors of one extent stand

module _ (img : List ℕ) (g : Geometry) (h : Opened img g) (i s : ℕ) where
  -- the extent that holds file sector s
  abbrev holder : ℕ
  holder =
      let c = catalogue_of (view img) in
      cond (ltb (s / extent_sectors g) (held_extents c i)) (extent_of c i (s / extent_sectors g)) (index_of (free_extent c))

  place_at : (k : ℕ) → s % extent_sectors g + k < extent_sectors g → file_sector_at (catalogue_of (view img)) i (s + k) ≡ extent_at g holder + s % extent_sectors g + k
  unfolding file_sector_at catalogue_of
  place_at k l =
      let S = extent_sectors g in
      let d : s ≡ s / S * S + s % S = sym (div-add-mod' s S) in
      let e : s + k ≡ s / S * S + (s % S + k) = omega arith in
      let q : (s + k) / S ≡ s / S = ap (λ z. z / S) e ∙ digits_div (s / S) {m = S} {r = s % S + k} l in
      let m : (s + k) % S ≡ s % S + k = ap (λ z. z % S) e ∙ digits_mod (s / S) {m = S} {r = s % S + k} l in
      ap (λ (z : Geometry). extent_at z
      (cond (ltb ((s + k) / extent_sectors z) (held_extents (catalogue_of (view img)) i)) (extent_of (catalogue_of (view img)) i ((s + k) / extent_sectors z))
      (index_of (free_extent (catalogue_of (view img))))) + (s + k) % extent_sectors z) (sym h.is)
      ∙ ap₂ (λ (u v : ℕ). extent_at g (cond (ltb u (held_extents (catalogue_of (view img)) i)) (extent_of (catalogue_of (view img)) i u) (index_of (free_extent (catalogue_of (view img))))) + v) q m
      ∙ (let f : extent_at g holder + (s % S + k) ≡ extent_at g holder + s % S + k = omega arith in f)

  first-place : file_sector_at (catalogue_of (view img)) i s ≡ extent_at g holder + s % extent_sectors g
  first-place =
      let e : s + 0 ≡ s = omega arith in
      ap (file_sector_at (catalogue_of (view img)) i) (sym e) ∙ place_at 0 (omega (arith, sector-within g h.bounded s)) ∙ add-zero (extent_at g holder + s % extent_sectors g)

  -- as the code finds it
  module _ (held next x start : ℕ) (lent : Lent img i held next)
      (found : x ≡ cond (ltb (s / extent_sectors g) held) (extent_of (catalogue_of (view img)) i (s / extent_sectors g)) next) (at : start ≡ extent_at g x) where
    next-below : next < g.extents
    next-below =
        let n = g.extents in
        let p : ℕ → Bool = λ e. eqb (table_file g (view img) e) free_file in
        let r : index_of (scan p (n - 0) 0) < n - 0 = found_below p (n - 0) (scan p (n - 0) 0) (omega (arith, h.bounded.extents-low)) (scan-hit p (n - 0) 0) in
        rw (lent.taken, free-extent-is (view img) g h.is) (omega (arith, r))

    pub lent_below : x < g.extents
    lent_below = rw found (go (ltb (s / extent_sectors g) held))
      where
        go : (b : Bool) → cond b (extent_of (catalogue_of (view img)) i (s / extent_sectors g)) next < g.extents
        go true = omega (arith, extent-below img g h i (s / extent_sectors g))
        go false = omega (arith, next-below)

    -- its sectors have small numbers
    pub lent-small : 512 * (start + extent_sectors g) < 2 ^ 63
    lent-small =
        let p : x * extent_sectors g ≤ 65535 * 4294967295 = product g x h.bounded (omega (arith, lent_below)) in
        let b = h.bounded in
        rw at (omega (arith, p, b.files-high, b.extents-high, b.extent-high))

    pub lent-place : start + s % extent_sectors g ≡ file_sector_at (catalogue_of (view img)) i s
    lent-place =
        let S = extent_sectors g in
        ap (λ (z : ℕ). z + s % S)
        (at ∙ ap (extent_at g) (found ∙ ap₂ (λ (u v : ℕ). cond (ltb (s / S) u) (extent_of (catalogue_of (view img)) i (s / S)) v) lent.extents lent.taken))
        ∙ sym first-place

  -- m sectors of one extent, as put_piece emits them
  pub piece-records : (place : ℕ) → place ≡ file_sector_at (catalogue_of (view img)) i s → (offset : ℕ) (bytes : List ℕ) (m : ℕ) → s % extent_sectors g + m ≤ extent_sectors g
      → tabulate (λ k. sector_write (place + (k - s)) (spliced offset bytes k (view img (place + (k - s))))) s m
      ≡ tabulate (data_sector (catalogue_of (view img)) i (view img) offset bytes) s m
  unfolding data_sector
  piece-records place there offset bytes m l =
      tabulate-ext _ (data_sector (catalogue_of (view img)) i (view img) offset bytes) s s m
      (λ k b.
      let e : place + (s + k - s) ≡ file_sector_at (catalogue_of (view img)) i (s + k) =
      (let f : place + (s + k - s) ≡ place + k = omega arith in f) ∙ ap (λ (z : ℕ). z + k) (there ∙ first-place) ∙ sym (place_at k (omega arith)) in
      ap (λ (p : ℕ). sector_write p (spliced offset bytes (s + k) (view img p))) e)
