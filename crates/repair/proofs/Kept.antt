-- A file lacks an extent exactly if fewer of its extents stay than its size needs: those that stay have each an offset of their own, below
-- the count. Rests on the crate `laws` and the sums of `allocation`.
use Prim.Native.Nat.{ℕ, zero, suc, ◌+◌, ◌*◌, ◌≤◌, ◌<◌}
use mathlib.Core.Path.{◌≡◌, refl, sym, ap, ◌∙◌}
use mathlib.Core.Logic.{◌≢◌}
use mathlib.Core.Bool.{Bool, true, false, cond, not, ◌&&◌, ◌||◌}
use mathlib.Core.List.{List}
use mathlib.Core.Option.{Option, none, some}
use native.Mathlib.Nat.{zero-add}
use native.Mathlib.Omega.{arith}
use lib.Dec.{eqb, leb, ltb}
use lib.ListN.{length, get_or, set}
use lib.Seq.{get_or-set_same, get_or-set_other}
use borrow.Author.Tests.{eqb-true, eqb-false, eq-eqb, ne_eqb, lt-ltb, leb-false}
use Rattle.model.specs.declared.Geometry.{Geometry}
use Rattle.model.specs.Bytes.{number_in}
use Rattle.model.specs.Search.{any_below, all_below, count_below}
use Rattle.model.specs.Geometry.{entry_at, extent_sectors, extent_bytes, extents_for}
use Rattle.model.specs.Disk.{Disk}
use Rattle.model.specs.Superblock.{geometry_in}
use Rattle.model.specs.Entry.{Entry, entry_field, entry_in, is_occupied}
use Rattle.model.specs.Table.{free_file, table_file, table_offset}
use Rattle.model.specs.Catalogue.{catalogue_of, is_part}
use Rattle.model.specs.Faults.{holds_of, exact, fault26}
use Rattle.model.specs.Repair.{is_stray, repaired}
use Rattle.model.specs.Opened.{Bounded}
use Rattle.laws.proofs.Booleans.{and-false, or-none}
use Rattle.laws.proofs.Search.{count_below-ext, count_below-more}
use Rattle.laws.proofs.Count.{count_below-le}
use Rattle.laws.proofs.Catalogue.{among-if, slot-on}
use Rattle.laws.proofs.Named.{edition_on}
use Rattle.laws.proofs.Repair.{past-count}
use Rattle.laws.proofs.Repaired.{count_below-repaired, exact-repaired}
use Rattle.allocation.specs.Marks.{sum_to}
use Rattle.allocation.proofs.Sums.{by_value}
use Rattle.table.proofs.Laws.{part-on}
use Rattle.repair.specs.Strays.{same_part, keeps, Kept}
use Rattle.repair.proofs.Strays.{stray-on}

-- ---- one extent more

module _ (g : Geometry) (d : Disk) (freed : ℕ → Bool) (e : ℕ) (kept : List ℕ) (K : Kept g d freed e kept) where
  -- it is not counted for file i
  other : (i : ℕ) → i < g.files → keeps g d freed i e ≡ false → get_or kept i 0 ≡ count_below (keeps g d freed i) (e + 1)
  other i l h = K i l ∙ sym (count_below-more (keeps g d freed i) e ∙ ap (λ (b : Bool). cond b 1 0 + count_below (keeps g d freed i) e) h ∙ zero-add (count_below (keeps g d freed i) e))

  apart : (i : ℕ) → table_file g d e ≢ i → keeps g d freed i e ≡ false
  apart i ne = ap (λ (b : Bool). b && not (freed e)) (ne_eqb (table_file g d e) i ne)

  pub kept-freed : freed e ≡ true → Kept g d freed (e + 1) kept
  kept-freed h i l = other i l (ap (λ (b : Bool). eqb (table_file g d e) i && not b) h ∙ and-false (eqb (table_file g d e) i))

  pub kept-none : g.files ≤ table_file g d e → Kept g d freed (e + 1) kept
  kept-none h i l = other i l (apart i (λ q. omega arith))

  pub kept-one : freed e ≡ false → (f : ℕ) → f ≡ table_file g d e → f < g.files → f < length kept → Kept g d freed (e + 1) (set kept f (get_or kept f 0 + 1))
  kept-one h f q l room i li = go (eqb i f) refl
    where
      own : keeps g d freed f e ≡ true
      own = ap (λ (b : Bool). eqb (table_file g d e) f && not b) h ∙ ap (λ (b : Bool). b && true) (eq-eqb (table_file g d e) f (sym q))

      go : (b : Bool) → eqb i f ≡ b → get_or (set kept f (get_or kept f 0 + 1)) i 0 ≡ count_below (keeps g d freed i) (e + 1)
      go true t =
          rw (eqb-true i f t)
          (get_or-set_same kept f (get_or kept f 0 + 1) 0 room ∙ ap (λ n. n + 1) (K f l)
          ∙ sym (count_below-more (keeps g d freed f) e ∙ ap (λ (b : Bool). cond b 1 0 + count_below (keeps g d freed f) e) own
          ∙ (let s : 1 + count_below (keeps g d freed f) e ≡ count_below (keeps g d freed f) e + 1 = omega arith in s)))
      go false t =
          let ne : i ≢ f = eqb-false i f t in
          get_or-set_other kept f i (get_or kept f 0 + 1) 0 ne ∙ other i li (apart i (λ z. ne (sym (q ∙ z))))

-- ---- counts

sum_to-bits : (h : ℕ → ℕ) (p : ℕ → Bool) (n : ℕ) → ((o : ℕ) → o < n → h o ≡ cond (p o) 1 0) → sum_to h n ≡ count_below p n
unfolding sum_to count_below
sum_to-bits h p zero e = refl
sum_to-bits h p (suc n) e = omega (arith, e n (omega arith), sum_to-bits h p n (λ o l. e o (omega arith)))

count-all : (p : ℕ → Bool) (n : ℕ) → eqb (count_below p n) n ≡ all_below p n
unfolding count_below all_below
count-all p zero = refl
count-all p (suc n) = go (p n) (all_below p n) (count-all p n)
  where
    go : (a b : Bool) → eqb (count_below p n) n ≡ b → eqb (cond a 1 0 + count_below p n) (suc n) ≡ (a && b)
    go true true h = eq-eqb (1 + count_below p n) (suc n) (omega (arith, eqb-true (count_below p n) n h))
    go true false h = ne_eqb (1 + count_below p n) (suc n) (λ q. eqb-false (count_below p n) n h (omega arith))
    go false b h = ne_eqb (0 + count_below p n) (suc n) (λ q. omega (arith, count_below-le p n))

-- ---- a file's

module _ (d : Disk) (g : Geometry) (is : g ≡ geometry_in (d 0)) (bounded : Bounded g) (i : ℕ) (l : i < g.files) where
  wide : 0 < extent_sectors g
  wide = omega (arith, bounded.extent-low)

  few : i < free_file
  few = omega (arith, bounded.files-high)

  abbrev z : ℕ
  z = number_in (d (entry_at i)) entry_field.size

  abbrev q : ℕ → Bool
  q = keeps g d (is_stray (catalogue_of d)) i

  abbrev said : Entry
  said = entry_in (edition_on d) (d (entry_at i))

  has : is_occupied (d (entry_at i)) ≡ true → (catalogue_of d).entries i ≡ some said
  has o = slot-on d i (rw is at l) ∙ ap (λ (b : Bool). cond b (some said) none) o

  geometry-is : (catalogue_of d).geometry ≡ g
  unfolding catalogue_of
  geometry-is = sym is

  module _ (o : is_occupied (d (entry_at i)) ≡ true) where
    -- an extent that stays is below the count
    within : (e : ℕ) → e < g.extents
        → keeps g d (is_stray (catalogue_of d)) i e
        ≡ (keeps g d (is_stray (catalogue_of d)) i e && ltb (table_offset g d e) (extents_for g (number_in (d (entry_at i)) entry_field.size)))
    within e m = go (eqb (table_file g d e) i) refl (is_stray (catalogue_of d) e) refl
      where
        go : (a : Bool) → eqb (table_file g d e) i ≡ a → (b : Bool) → is_stray (catalogue_of d) e ≡ b → (a && not b) ≡ ((a && not b) && ltb (table_offset g d e) (extents_for g z))
        go false s b t = refl
        go true s true t = refl
        go true s false t =
            let f : table_file g d e ≡ i = eqb-true (table_file g d e) i s in
            let x : (not (eqb i free_file) && (not (ltb i g.files && is_occupied (d (entry_at i))) || leb z (table_offset g d e * extent_bytes g) || any_below (same_part g d e) e)) ≡ false =
            ap (λ (n : ℕ). not (eqb n free_file) && (not (ltb n g.files && is_occupied (d (entry_at n)))
            || leb (number_in (d (entry_at n)) entry_field.size) (table_offset g d e * extent_bytes g) || any_below (same_part g d e) e)) (sym f)
            ∙ sym (stray-on d g is wide e m) ∙ t in
            let y : (leb z (table_offset g d e * extent_bytes g) || any_below (same_part g d e) e) ≡ false =
            rw (ne_eqb i free_file (λ n. omega arith), lt-ltb i g.files l, o) at x in
            let w : leb z (table_offset g d e * extent_bytes g) ≡ false = (or-none (leb z (table_offset g d e * extent_bytes g)) (any_below (same_part g d e) e) y).0 in
            sym (lt-ltb (table_offset g d e) (extents_for g z) (leb-false (extents_for g z) (table_offset g d e) (past-count g wide z (table_offset g d e) ∙ w)))

    -- the parts of the repaired catalogue
    part : (n e : ℕ) → e < g.extents → (keeps g d (is_stray (catalogue_of d)) i e && eqb (table_offset g d e) n) ≡ is_part i n ((repaired (catalogue_of d)).table e)
    unfolding repaired
    part n e m = go (is_stray (catalogue_of d) e)
      where
        swap : (a b : Bool) → ((a && true) && b) ≡ (a && b)
        swap true b = refl
        swap false b = refl

        go : (b : Bool) → ((eqb (table_file g d e) i && not b) && eqb (table_offset g d e) n) ≡ is_part i n (cond b none ((catalogue_of d).table e))
        go true = ap (λ (x : Bool). x && eqb (table_offset g d e) n) (and-false (eqb (table_file g d e) i))
        go false = swap (eqb (table_file g d e) i) (eqb (table_offset g d e) n) ∙ sym (part-on d g is i n e few m)

    abbrev C : ℕ
    C = extents_for g z

    abbrev P : ℕ → Bool
    P n = any_below (λ e. is_part i n ((catalogue_of d).table e)) g.extents

    counted : count_below q g.extents ≡ count_below P C
    unfolding entry_in
    counted =
        count_below-ext q (λ e. q e && ltb (table_offset g d e) C) g.extents within
        ∙ by_value q (table_offset g d) g.extents C
        ∙ sum_to-bits (λ n. count_below (λ e. q e && eqb (table_offset g d e) n) g.extents) P C
        (λ n h. count_below-ext (λ e. q e && eqb (table_offset g d e) n) (λ e. is_part i n ((repaired (catalogue_of d)).table e)) g.extents (part n)
        ∙ count_below-repaired (catalogue_of d) i said (has o) n (rw geometry-is h) g.extents)

    exactly : exact (repaired (catalogue_of d)) i (extents_for (catalogue_of d).geometry said.size) ≡ eqb (count_below q g.extents) C
    unfolding entry_in
    exactly =
        exact-repaired (catalogue_of d) i said (has o)
        ∙ ap (λ (x : Geometry). all_below (λ n. any_below (λ e. is_part i n ((catalogue_of d).table e)) x.extents) (extents_for x said.size)) geometry-is
        ∙ sym (count-all P C) ∙ ap (λ n. eqb n C) (sym counted)

  fault-is : fault26 (repaired (catalogue_of d)) i
      ≡ (is_occupied (d (entry_at i)) && not (exact (repaired (catalogue_of d)) i (extents_for (catalogue_of d).geometry said.size)))
  unfolding fault26 repaired
  fault-is =
      ap (λ (x : Option Entry). holds_of x (λ y. not (exact (repaired (catalogue_of d)) i (extents_for (catalogue_of d).geometry y.size)))) (slot-on d i (rw is at l))
      ∙ among-if (is_occupied (d (entry_at i))) said (λ y. not (exact (repaired (catalogue_of d)) i (extents_for (catalogue_of d).geometry y.size)))

  pub lacking-free : is_occupied (d (entry_at i)) ≡ false → false ≡ fault26 (repaired (catalogue_of d)) i
  lacking-free o = sym (fault-is ∙ ap (λ (b : Bool). b && not (exact (repaired (catalogue_of d)) i (extents_for (catalogue_of d).geometry said.size))) o)

  pub lacking-on : is_occupied (d (entry_at i)) ≡ true → fault26 (repaired (catalogue_of d)) i ≡ not (eqb (count_below q g.extents) (extents_for g z))
  lacking-on o =
      fault-is ∙ ap (λ (b : Bool). b && not (exact (repaired (catalogue_of d)) i (extents_for (catalogue_of d).geometry said.size))) o ∙ ap not (exactly o)
