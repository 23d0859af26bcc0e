-- A repair's test in the terms that code tests. Assumes nothing.
use Prim.Native.Nat.{ℕ, suc, ◌+◌, ◌*◌, ◌-◌, ◌≤◌, ◌<◌}
use mathlib.Core.Path.{◌≡◌, refl, sym, ap, ◌∙◌}
use mathlib.Core.Bool.{Bool, true, false, cond, not, ◌&&◌, ◌||◌, true≢false}
use mathlib.Core.List.{List}
use mathlib.Core.Option.{Option, none, some}
use native.Mathlib.Omega.{arith}
use native.Mathlib.Nat.{div-lt_iff_lt-mul, suc-mul}
use lib.Dec.{eqb, leb, ltb}
use borrow.Author.Tests.{le-leb, leb-true, leb-false, ne_eqb, eq-eqb}
use Rattle.model.specs.declared.Geometry.{Geometry}
use Rattle.model.specs.Bytes.{be_at}
use Rattle.model.specs.Search.{any_below}
use Rattle.model.specs.Geometry.{extent_sectors, extent_bytes, extents_for, entry_at}
use Rattle.model.specs.Disk.{Disk}
use Rattle.model.specs.Superblock.{geometry_in}
use Rattle.model.specs.Entry.{entry_in, is_occupied}
use Rattle.model.specs.Table.{free_file, table_file, table_offset}
use Rattle.model.specs.Catalogue.{Owner, catalogue_of, is_free, is_part, entry_or}
use Rattle.model.specs.Faults.{holds_of}
use Rattle.model.specs.Repair.{is_stray}
use Rattle.laws.proofs.Search.{any_below-ext}
use Rattle.laws.proofs.Catalogue.{among-if, by-owner, table_on}

-- "an offset at or above the file's count": the size is at most the bytes before that offset. An offset has 16 bits, so this product has
-- 57 bits at most, where size + E - 1 can need 65.
pub past-count : (g : Geometry) → 0 < extent_sectors g → (z o : ℕ) → leb (extents_for g z) o ≡ leb z (o * extent_bytes g)
past-count g wide z o = go (leb z (o * extent_bytes g)) refl
  where
    next : suc o * extent_bytes g ≡ o * extent_bytes g + extent_bytes g
    next = suc-mul o (extent_bytes g)

    go : (b : Bool) → leb z (o * extent_bytes g) ≡ b → leb (extents_for g z) o ≡ b
    go true e =
        let l : z ≤ o * extent_bytes g = leb-true z (o * extent_bytes g) e in
        let q : extents_for g z < suc o = (div-lt_iff_lt-mul {k = extent_bytes g} {x = z + (extent_bytes g - 1)} {y = suc o} (omega arith)).1 (omega (arith, next)) in
        le-leb (extents_for g z) o (omega arith)
    go false e = by (leb (extents_for g z) o) refl
      where
        by : (b : Bool) → leb (extents_for g z) o ≡ b → leb (extents_for g z) o ≡ false
        by false q = q
        by true q =
            let l : o * extent_bytes g < z = leb-false z (o * extent_bytes g) e in
            let h : extents_for g z < suc o = let m : extents_for g z ≤ o = leb-true (extents_for g z) o q in omega arith in
            let r : z + (extent_bytes g - 1) < suc o * extent_bytes g = (div-lt_iff_lt-mul {k = extent_bytes g} {x = z + (extent_bytes g - 1)} {y = suc o} (omega arith)).0 h in
            absurd (omega (arith, next))

module _ (d : Disk) where
  abbrev g : Geometry
  g = geometry_in (d 0)

  abbrev s : ℕ → List ℕ
  s i = d (entry_at i)

  -- an entry of another file index, or one that is free, is no part of this file
  taken-part : (f o k : ℕ) → k < g.extents → eqb f free_file ≡ false → is_part f o ((catalogue_of d).table k) ≡ (eqb (table_file g d k) f && eqb (table_offset g d k) o)
  taken-part f o k l taken =
      ap (is_part f o) (table_on d k l)
      ∙ by-owner (is_part f o) _ (table_file g d k) (table_offset g d k)
      (λ q. ap (λ (b : Bool). b && eqb (table_offset g d k) o) (ne_eqb (table_file g d k) f (λ z. true≢false (sym (eq-eqb f free_file (sym z ∙ q)) ∙ taken)))) refl

  pub stray-is : (e : ℕ) → e < (geometry_in (d 0)).extents
      → is_stray (catalogue_of d) e
      ≡ (not (eqb (table_file g d e) free_file)
      && (not (ltb (table_file g d e) g.files && is_occupied (s (table_file g d e)))
      || leb (extents_for g (be_at (s (table_file g d e)) 2 8)) (table_offset g d e)
      || any_below (λ k. eqb (table_file g d k) (table_file g d e) && eqb (table_offset g d k) (table_offset g d e)) e))
  unfolding is_stray catalogue_of entry_in
  stray-is e l =
      ap (λ (t : Option Owner). holds_of t stray) (table_on d e l)
      ∙ among-if (not (eqb f free_file)) (record { file = f; offset = o }) stray
      ∙ taken (eqb f free_file) refl
    where
      f : ℕ
      f = table_file g d e

      o : ℕ
      o = table_offset g d e

      stray : Owner → Bool
      stray w =
          is_free ((catalogue_of d).entries w.file) || leb (extents_for g (entry_or ((catalogue_of d).entries w.file)).size) w.offset
          || any_below (λ k. is_part w.file w.offset ((catalogue_of d).table k)) e

      again : ℕ → Bool
      again k = eqb (table_file g d k) f && eqb (table_offset g d k) o

      named : (b r : Bool)
          → (is_free (cond b (some (entry_in g.edition (s f))) none) || leb (extents_for g (entry_or (cond b (some (entry_in g.edition (s f))) none)).size) o || r)
          ≡ (not b || leb (extents_for g (be_at (s f) 2 8)) o || r)
      named true r = refl
      named false r = refl

      taken : (b : Bool) → eqb f free_file ≡ b
          → (not b && stray (record { file = f; offset = o })) ≡ (not b && (not (ltb f g.files && is_occupied (s f)) || leb (extents_for g (be_at (s f) 2 8)) o || any_below again e))
      taken true z = refl
      taken false z =
          named (ltb f g.files && is_occupied (s f)) (any_below (λ k. is_part f o ((catalogue_of d).table k)) e)
          ∙ ap (λ (r : Bool). not (ltb f g.files && is_occupied (s f)) || leb (extents_for g (be_at (s f) 2 8)) o || r)
          (any_below-ext (λ k. is_part f o ((catalogue_of d).table k)) again e (λ k m. taken-part f o k (omega arith) z))
