-- Laws of names and ids as keys: equal keys are of one bucket, and what faults 22, 23 and 24 say of keys. Rests on the crate `laws`.
use Prim.Native.Nat.{ℕ, ◌+◌, ◌*◌, ◌/◌, ◌%◌, ◌≤◌, ◌<◌}
use mathlib.Core.Path.{◌≡◌, sym, ap, ◌∙◌}
use mathlib.Core.Logic.{◌≢◌}
use mathlib.Core.Bool.{true, false, true≢false}
use mathlib.Core.List.{List}
use native.Mathlib.Nat.{mul-lt-mul_of_pos_right, div-lt_iff_lt-mul}
use native.Mathlib.Numerals.{add-one}
use native.Mathlib.Decide.{dec_lt}
use native.Mathlib.Omega.{arith}
use lib.Dec.{eqb, leb, lit<}
use lib.ListN.{length, get_or}
use lib.Seq.{ext_get_or}
use borrow.Author.Tests.{eqb-true, eq-eqb, ne_eqb, le-leb, leb-true}
use Rattle.std.specs.Prelude.{None}
use Rattle.model.specs.declared.Geometry.{Geometry}
use Rattle.model.specs.Bytes.{number_in}
use Rattle.model.specs.Search.{first, all_below, equal_bytes}
use Rattle.model.specs.Geometry.{entry_at}
use Rattle.model.specs.Disk.{Disk}
use Rattle.model.specs.Superblock.{geometry_in}
use Rattle.model.specs.Edition.{layout_of}
use Rattle.model.specs.Root.{root_in}
use Rattle.model.specs.Entry.{is_occupied, name_in, bad_name}
use Rattle.model.specs.Catalogue.{catalogue_of}
use Rattle.model.specs.Faults.{fault22, fault23, fault24}
use Rattle.laws.proofs.Booleans.{and_left, and_right, and_yes}
use Rattle.laws.proofs.Search.{all_below-at, first-missed, first-ext}
use Rattle.laws.proofs.Edition.{name-bound}
use Rattle.laws.proofs.Entry.{length-name_in, long-name}
use Rattle.laws.proofs.Catalogue.{fault22-is, fault23-is, fault24-is}
use Rattle.duplicates.specs.declared.Key.{Key}
use Rattle.duplicates.specs.declared.Key.TheVariants.{Name, Id}
use Rattle.duplicates.specs.Keys.{same_key, key_fits, KeysFit, shares, is_repeated, is_faulty, mixed, part_at, words_sum, key_hash, place_of}
use Rattle.duplicates.specs.Chains.{member}

-- strings that are the same are equal
same-eq : (a b : List ℕ) → equal_bytes a b ≡ true → a ≡ b
unfolding equal_bytes
same-eq a b e =
    let l : length a ≡ length b = eqb-true _ _ (and_left (eqb (length a) (length b)) (all_below (λ k. eqb (get_or a k 0) (get_or b k 0)) (length b)) e) in
    let f = all_below-at (λ k. eqb (get_or a k 0) (get_or b k 0)) (length b) (and_right (eqb (length a) (length b)) _ e) in
    ext_get_or 0 a b l (λ i h. eqb-true _ _ (f i (omega arith)))

-- ---- buckets

-- a name that ends in its sector is short enough for its hash
pub name-short : (edition : ℕ) (s : List ℕ) → key_fits (Name edition) s ≡ true → length (name_in edition s) ≤ 512
name-short edition s e =
    let fits = leb-true (number_in s (layout_of edition).name_length) (layout_of edition).longest_name e in
    rw (length-name_in edition s) (omega (arith, fits, name-bound edition))

pub words_more : (s : List ℕ) (i : ℕ) → words_sum s (i + 1) ≡ words_sum s i + part_at s (8 * i) i
unfolding words_sum
words_more s i = rw add-one

-- a hash of 32 bits, scaled to n buckets, is below n
pub bucket-below : (h n : ℕ) → h < 4294967296 → 0 < n → h * n / 4294967296 < n
bucket-below h n l p = (div-lt_iff_lt-mul {k = 4294967296} (lit< tt)).1 (omega (arith, mul-lt-mul_of_pos_right l p))

same-hash : (key : Key) (a b : List ℕ) → same_key key a b ≡ true → key_hash key a ≡ key_hash key b
same-hash (Name edition) a b e = rw (same-eq (name_in edition a) (name_in edition b) e)
same-hash Id a b e = ap (λ v. mixed 0 (v % 4294967291)) (eqb-true _ _ e)

module _ (key : Key) (d : Disk) (n i : ℕ) where
  abbrev own : ℕ
  own = place_of key n (d (entry_at i)) / 256

  -- an entry that shares entry i's key is of its place, and so of its bucket
  pub shares-place : (j : ℕ) → shares key d i j ≡ true → place_of key n (d (entry_at j)) ≡ place_of key n (d (entry_at i))
  shares-place j f =
      let s = d (entry_at j) in
      ap (λ h. h * n / 16777216) (same-hash key s (d (entry_at i)) (and_right (is_occupied s) _ f))

  pub shares-member : (b : ℕ) → b ≡ own → (j : ℕ) → shares key d i j ≡ true → member key d n b j ≡ true
  shares-member b e j f =
      let s = d (entry_at j) in
      and_yes (is_occupied s) _ (and_left (is_occupied s) _ f)
      (eq-eqb (place_of key n s / 256) b (ap (λ p. p / 256) (shares-place j f) ∙ sym e))

  pub member-own : (b : ℕ) → is_occupied (d (entry_at i)) ≡ true → b ≡ own → member key d n b i ≡ true
  member-own b o e = and_yes (is_occupied (d (entry_at i))) (eqb own b) o (eq-eqb own b (sym e))

  pub member-other : (b : ℕ) → is_occupied (d (entry_at i)) ≡ true → b ≡ own → (x : ℕ) → x ≢ b → member key d n x i ≡ false
  member-other b o e x ne = rw (o, ne_eqb own x (λ f. ne (sym (e ∙ f))))

  pub member-none : is_occupied (d (entry_at i)) ≡ false → (b : ℕ) → member key d n b i ≡ false
  member-none o b = rw o

-- ---- faults

module _ (d : Disk) (g : Geometry) (is : g ≡ geometry_in (d 0)) where
  abbrev name : Key
  name = Name g.edition

  pub names-faulty : first (is_faulty name d) g.files ≡ first (fault23 (catalogue_of d)) g.files
  unfolding is_faulty is_repeated
  names-faulty = rw is (sym (first-ext (fault23 (catalogue_of d)) (is_faulty (Name (geometry_in (d 0)).edition) d) (geometry_in (d 0)).files (λ i l. fault23-is d i l)))

  pub ids-faulty : first (is_faulty Id d) g.files ≡ first (fault24 (catalogue_of d)) g.files
  unfolding is_faulty is_repeated root_in
  ids-faulty = rw is (sym (first-ext (fault24 (catalogue_of d)) (is_faulty Id d) (geometry_in (d 0)).files (λ i l. fault24-is d i l)))

  -- where fault 22 is nowhere, every name ends in its sector
  pub names-fit : first (fault22 (catalogue_of d)) g.files ≡ None → KeysFit name d g.files
  names-fit e j l o = go (dec_lt (layout_of g.edition).longest_name (number_in s (layout_of g.edition).name_length))
    where
      s : List ℕ
      s = d (entry_at j)

      go : Dec ((layout_of g.edition).longest_name < number_in s (layout_of g.edition).name_length)
          → leb (number_in s (layout_of g.edition).name_length) (layout_of g.edition).longest_name ≡ true
      go (yes h) =
          let long : bad_name g.edition (name_in g.edition s) ≡ true = long-name g.edition (name_in g.edition s) (rw (length-name_in g.edition s) h) in
          let f : fault22 (catalogue_of d) j ≡ true = fault22-is d j (rw is at l) ∙ rw (o, ap (λ (h : Geometry). h.edition) (sym is), long) in
          absurd (true≢false (sym f ∙ first-missed (fault22 (catalogue_of d)) g.files e j l))
      go (no h) = le-leb (number_in s (layout_of g.edition).name_length) (layout_of g.edition).longest_name (omega arith)
