-- Which extents are freed: entries of one file and offset are of one bucket, and an extent's test in the terms that the code tests. Rests
-- on the crate `laws`.
use Prim.Native.Nat.{ℕ, ◌+◌, ◌*◌, ◌≤◌, ◌<◌}
use mathlib.Core.Path.{◌≡◌, refl, sym, ap, ◌∙◌, fun_ext}
use mathlib.Core.Logic.{◌≢◌}
use mathlib.Core.Bool.{Bool, true, false, cond, not, ◌&&◌, ◌||◌}
use mathlib.Core.List.{List}
use native.Mathlib.Omega.{arith}
use lib.Dec.{eqb, leb, ltb}
use lib.ListN.{get_or}
use borrow.Author.Tests.{eqb-true, eq-eqb, ne_eqb, ltb-true, lt-ltb, le-ltb, ltb-false, le-leb, lt-leb}
use Rattle.model.specs.declared.Geometry.{Geometry}
use Rattle.model.specs.Bytes.{number_in}
use Rattle.std.specs.Int.{from_bool}
use Rattle.model.specs.Search.{any_below, count_below}
use Rattle.model.specs.Geometry.{entry_at, extent_sectors, extent_bytes}
use Rattle.model.specs.Disk.{Disk}
use Rattle.model.specs.Superblock.{geometry_in}
use Rattle.model.specs.Entry.{entry_field, is_occupied}
use Rattle.model.specs.Table.{free_file, table_file, table_offset}
use Rattle.model.specs.Catalogue.{catalogue_of}
use Rattle.model.specs.Repair.{is_stray}
use Rattle.model.specs.Opened.{Bounded}
use Rattle.laws.proofs.Booleans.{and-true, and_yes}
use Rattle.laws.proofs.Search.{count_below-more}
use Rattle.laws.proofs.Repair.{past-count, stray-is}
use Rattle.table.specs.Owned.{is_marked, Marks}
use Rattle.table.proofs.Laws.{marks-are}
use Rattle.repair.specs.Strays.{bucket_of, member, same_part}

-- ---- buckets

module _ (g : Geometry) (d : Disk) (n b e : ℕ) (own : b ≡ bucket_of n (table_file g d e) (table_offset g d e)) (taken : eqb (table_file g d e) free_file ≡ false) where
  -- an extent of the same file and offset is of the same bucket
  pub same-member : (k : ℕ) → same_part g d e k ≡ true → member g d n b k ≡ true
  same-member k h =
      let s = and-true (eqb (table_file g d k) (table_file g d e)) (eqb (table_offset g d k) (table_offset g d e)) h in
      let f : table_file g d k ≡ table_file g d e = eqb-true (table_file g d k) (table_file g d e) s.0 in
      let o : table_offset g d k ≡ table_offset g d e = eqb-true (table_offset g d k) (table_offset g d e) s.1 in
      and_yes (not (eqb (table_file g d k) free_file)) (eqb (bucket_of n (table_file g d k) (table_offset g d k)) b)
      (ap (λ (x : ℕ). not (eqb x free_file)) f ∙ ap not taken)
      (eq-eqb (bucket_of n (table_file g d k) (table_offset g d k)) b ((λ i. bucket_of n (f i) (o i)) ∙ sym own))

  pub member-own : member g d n b e ≡ true
  member-own =
      and_yes (not (eqb (table_file g d e) free_file)) (eqb (bucket_of n (table_file g d e) (table_offset g d e)) b) (ap not taken)
      (eq-eqb (bucket_of n (table_file g d e) (table_offset g d e)) b (sym own))

  pub member-other : (x : ℕ) → x ≢ b → member g d n x e ≡ false
  member-other x ne = rw (taken, ne_eqb (bucket_of n (table_file g d e) (table_offset g d e)) x (λ f. ne (sym (own ∙ f))))

pub member-none : (g : Geometry) (d : Disk) (n e : ℕ) → table_file g d e ≡ free_file → (b : ℕ) → member g d n b e ≡ false
member-none g d n e f b = rw f

-- ---- one extent

module _ (d : Disk) (g : Geometry) (is : g ≡ geometry_in (d 0)) where
  pub stray-on : 0 < extent_sectors g → (e : ℕ) → e < g.extents
      → is_stray (catalogue_of d) e
      ≡ (not (eqb (table_file g d e) free_file)
      && (not (ltb (table_file g d e) g.files && is_occupied (d (entry_at (table_file g d e))))
      || leb (number_in (d (entry_at (table_file g d e))) entry_field.size) (table_offset g d e * extent_bytes g)
      || any_below (same_part g d e) e))
  stray-on wide e l = rw is (of-geometry (rw is at wide) (rw is at l))
    where
      of-geometry : 0 < extent_sectors (geometry_in (d 0)) → e < (geometry_in (d 0)).extents
          → is_stray (catalogue_of d) e
          ≡ (not (eqb (table_file (geometry_in (d 0)) d e) free_file)
          && (not (ltb (table_file (geometry_in (d 0)) d e) (geometry_in (d 0)).files && is_occupied (d (entry_at (table_file (geometry_in (d 0)) d e))))
          || leb (number_in (d (entry_at (table_file (geometry_in (d 0)) d e))) entry_field.size) (table_offset (geometry_in (d 0)) d e * extent_bytes (geometry_in (d 0)))
          || any_below (same_part (geometry_in (d 0)) d e) e))
      of-geometry w m =
          stray-is d e m
          ∙ ap (λ (b : Bool).
          not (eqb (table_file (geometry_in (d 0)) d e) free_file)
          && (not (ltb (table_file (geometry_in (d 0)) d e) (geometry_in (d 0)).files && is_occupied (d (entry_at (table_file (geometry_in (d 0)) d e)))) || b
          || any_below (same_part (geometry_in (d 0)) d e) e))
          (past-count (geometry_in (d 0)) w (number_in (d (entry_at (table_file (geometry_in (d 0)) d e))) entry_field.size) (table_offset (geometry_in (d 0)) d e))

  -- none past the table's end
  pub stray-past : (e : ℕ) → g.extents ≤ e → is_stray (catalogue_of d) e ≡ false
  unfolding is_stray catalogue_of
  stray-past e h = rw (le-ltb e (geometry_in (d 0)).extents (rw is at h))

  -- a free one isn't freed
  pub stray-free : Bounded g → (e : ℕ) → e < g.extents → table_file g d e ≡ free_file → false ≡ is_stray (catalogue_of d) e
  stray-free bounded e l z = sym (stray-on (omega (arith, bounded.extent-low)) e l ∙ ap (λ (b : Bool).
      not b && (not (ltb (table_file g d e) g.files && is_occupied (d (entry_at (table_file g d e))))
      || leb (number_in (d (entry_at (table_file g d e))) entry_field.size) (table_offset g d e * extent_bytes g) || any_below (same_part g d e) e)) (eq-eqb (table_file g d e) free_file z))

  -- the bytes of all extents say what the definition says, and those behind them are 0
  pub marked-is : (marks : List ℕ) → Marks (is_stray (catalogue_of d)) g.extents marks → ((k : ℕ) → g.extents ≤ k → get_or marks k 0 ≡ 0)
      → is_marked marks ≡ is_stray (catalogue_of d)
  marked-is marks found past = fun_ext (λ k. go k (ltb k g.extents) refl)
    where
      go : (k : ℕ) (b : Bool) → ltb k g.extents ≡ b → is_marked marks k ≡ is_stray (catalogue_of d) k
      go k true t = marks-are (is_stray (catalogue_of d)) g.extents marks found k (ltb-true k g.extents t)
      go k false t =
          let h : g.extents ≤ k = ltb-false k g.extents t in
          ap (λ x. eqb x 1) (past k h) ∙ sym (stray-past k h)

  -- ---- an extent that isn't free, test by test

  module _ (bounded : Bounded g) (e : ℕ) (l : e < g.extents) (taken : eqb (table_file g d e) free_file ≡ false) where
    by_tests : (x y p : Bool) → ltb (table_file g d e) g.files ≡ x → is_occupied (d (entry_at (table_file g d e))) ≡ y
        → leb (number_in (d (entry_at (table_file g d e))) entry_field.size) (table_offset g d e * extent_bytes g) ≡ p
        → is_stray (catalogue_of d) e ≡ (not (x && y) || p || any_below (same_part g d e) e)
    by_tests x y p ex ey ep = stray-on (omega (arith, bounded.extent-low)) e l ∙ (λ i. not (taken i) && (not (ex i && ey i) || ep i || any_below (same_part g d e) e))

    module _ (n : ℕ) (q : n ≡ table_file g d e) where
      pub stray-outside : g.files ≤ n → true ≡ is_stray (catalogue_of d) e
      stray-outside h = sym (by_tests false _ _ (le-ltb (table_file g d e) g.files (omega arith)) refl refl)

      module _ (low : n < g.files) where
        named : ltb (table_file g d e) g.files ≡ true
        named = lt-ltb (table_file g d e) g.files (omega arith)

        pub stray-unoccupied : is_occupied (d (entry_at n)) ≡ false → true ≡ is_stray (catalogue_of d) e
        stray-unoccupied h = sym (by_tests true false _ named (ap (λ (k : ℕ). is_occupied (d (entry_at k))) (sym q) ∙ h) refl)

        module _ (occupied : is_occupied (d (entry_at n)) ≡ true) (o z : ℕ) (qo : o ≡ table_offset g d e) (qz : z ≡ number_in (d (entry_at n)) entry_field.size) where
          counted : (p : Bool) → leb z (o * extent_bytes g) ≡ p → is_stray (catalogue_of d) e ≡ (p || any_below (same_part g d e) e)
          counted p h =
              by_tests true true p named (ap (λ (k : ℕ). is_occupied (d (entry_at k))) (sym q) ∙ occupied)
              ((λ i. leb (number_in (d (entry_at (sym q i))) entry_field.size) (sym qo i * extent_bytes g)) ∙ ap (λ (s : ℕ). leb s (o * extent_bytes g)) (sym qz) ∙ h)

          pub stray-beyond : z ≤ o * extent_bytes g → true ≡ is_stray (catalogue_of d) e
          stray-beyond h = sym (counted true (le-leb z (o * extent_bytes g) h))

          pub stray-repeated : o * extent_bytes g < z → any_below (same_part g d e) e ≡ is_stray (catalogue_of d) e
          stray-repeated h = sym (counted false (lt-leb z (o * extent_bytes g) h))

-- ---- counts

pub bit-is : (b : Bool) → from_bool b ≡ cond b 1 0
bit-is true = refl
bit-is false = refl

-- one more is counted, or not
pub counted-next : (p : ℕ → Bool) (i : ℕ) {n r : ℕ} {b : Bool} → n ≡ count_below p i → r ≡ from_bool b → b ≡ p i → n + r ≡ count_below p (i + 1)
counted-next p i {n} {r} {b} e q h =
    let one : from_bool b ≡ cond (p i) 1 0 = bit-is b ∙ ap (λ (b : Bool). cond b 1 0) h in
    omega (arith, e, q, one, count_below-more p i)
