-- What a disk's catalogue says of the file of a name and of an occupied entry, in the terms of its sector. Assumes nothing.
use Prim.Native.Nat.{ℕ, ◌-◌, ◌*◌, ◌≤◌, ◌<◌, ◌^◌}
use mathlib.Core.Path.{◌≡◌, refl, sym, ap, ◌∙◌}
use mathlib.Core.Bool.{Bool, true, false, cond, not, ◌&&◌, ◌||◌}
use mathlib.Core.List.{List}
use mathlib.Core.Option.{none, some}
use native.Mathlib.Nat.{mul-le-mul}
use native.Mathlib.Omega.{arith}
use native.Mathlib.Decide.{dec_lt}
use lib.Dec.{ltb}
use lib.ListN.{length}
use borrow.Author.Tests.{ltb-false}
use Rattle.model.specs.declared.Fields.{Fields}
use Rattle.model.specs.declared.Geometry.{Geometry}
use Rattle.std.specs.Prelude.{Some}
use Rattle.model.specs.Bytes.{number_in}
use Rattle.model.specs.Search.{scan, equal_bytes}
use Rattle.model.specs.Geometry.{superblock_at, entry_at, extent_bytes}
use Rattle.model.specs.Disk.{Disk, view}
use Rattle.model.specs.Superblock.{geometry_in}
use Rattle.model.specs.Edition.{layout_of}
use Rattle.model.specs.Entry.{entry_field, name_in, entry_in, is_occupied, fields_of, bad_name}
use Rattle.model.specs.Catalogue.{catalogue_of, is_free, file_named, entry_of, entry_or}
use Rattle.model.specs.Faults.{fault22, first_fault}
use Rattle.model.specs.Opened.{Opened}
use Rattle.model.specs.Answers.{Sound}
use Rattle.laws.proofs.Booleans.{and_left}
use Rattle.laws.proofs.Search.{Hit, scan-hit, first-missed}
use Rattle.laws.proofs.Entry.{length-name_in, long-name}
use Rattle.laws.proofs.Catalogue.{slot-on, named-on, fault22-is}
use Rattle.laws.proofs.Judged.{sound-22}

-- the edition that the superblock says
abbrev pub edition_on : Disk → ℕ
edition_on d = (geometry_in (d superblock_at)).edition

-- the most bytes that a file can have, and an entry that says more
abbrev room_of : Disk → ℕ
room_of d = (geometry_in (d superblock_at)).extents * extent_bytes (geometry_in (d superblock_at))

abbrev too_large : Disk → ℕ → Bool
too_large d i = ltb (room_of d) (number_in (d (entry_at i)) entry_field.size)

module _ (d : Disk) where
  -- an occupied entry
  pub entry-on : (i : ℕ) → i < (geometry_in (d superblock_at)).files → is_occupied (d (entry_at i)) ≡ true → entry_of (catalogue_of d) i ≡ entry_in (edition_on d) (d (entry_at i))
  unfolding entry_of
  entry-on i l o = ap entry_or (slot-on d i l ∙ ap (λ (b : Bool). cond b (some (entry_in (edition_on d) (d (entry_at i)))) none) o)

  pub free-is : (i : ℕ) → i < (geometry_in (d superblock_at)).files → is_free ((catalogue_of d).entries i) ≡ not (is_occupied (d (entry_at i)))
  free-is i l = ap is_free (slot-on d i l) ∙ go (is_occupied (d (entry_at i)))
    where
      go : (b : Bool) → is_free (cond b (some (entry_in (edition_on d) (d (entry_at i)))) none) ≡ not b
      go true = refl
      go false = refl

  -- the file of a name stands in the directory, occupied
  pub named-at : (name : List ℕ) (i : ℕ) → Some i ≡ file_named (catalogue_of d) name → (i < (geometry_in (d superblock_at)).files) × (is_occupied (d (entry_at i)) ≡ true)
  named-at name i e =
      let p : ℕ → Bool = λ k. is_occupied (d (entry_at k)) && equal_bytes (name_in (edition_on d) (d (entry_at k))) name in
      let n = (geometry_in (d superblock_at)).files in
      let q : scan p (n - 0) 0 ≡ Some i = sym (e ∙ named-on d name) in
      let h : Hit p (n - 0) 0 (Some i) = rw q at (scan-hit p (n - 0) 0) in
      (omega (arith, h.1), and_left (is_occupied (d (entry_at i))) (equal_bytes (name_in (edition_on d) (d (entry_at i))) name) h.2)

  pub named-entry : (name : List ℕ) (i : ℕ) → Some i ≡ file_named (catalogue_of d) name → entry_of (catalogue_of d) i ≡ entry_in (edition_on d) (d (entry_at i))
  named-entry name i e = let h = named-at name i e in entry-on i h.0 h.1

  -- on a sound volume its name ends in the sector
  pub sound-name : first_fault d ≡ Sound → (i : ℕ) → i < (geometry_in (d superblock_at)).files → is_occupied (d (entry_at i)) ≡ true
      → number_in (d (entry_at i)) (layout_of (edition_on d)).name_length ≤ (layout_of (edition_on d)).longest_name
  sound-name s i l o = go (dec_lt (layout_of (edition_on d)).longest_name (number_in (d (entry_at i)) (layout_of (edition_on d)).name_length))
    where
      judge22 : fault22 (catalogue_of d) i ≡ false
      judge22 = first-missed (fault22 (catalogue_of d)) (geometry_in (d superblock_at)).files (sound-22 d s) i l

      go : Dec ((layout_of (edition_on d)).longest_name < number_in (d (entry_at i)) (layout_of (edition_on d)).name_length)
          → number_in (d (entry_at i)) (layout_of (edition_on d)).name_length ≤ (layout_of (edition_on d)).longest_name
      go (no h) = omega arith
      go (yes h) =
          let b : bad_name (edition_on d) (name_in (edition_on d) (d (entry_at i))) ≡ true = long-name (edition_on d) (name_in (edition_on d) (d (entry_at i))) (rw length-name_in h) in
          let f : fault22 (catalogue_of d) i ≡ true =
          fault22-is d i l ∙ ap (λ (x : Bool). x && (bad_name (edition_on d) (name_in (edition_on d) (d (entry_at i))) || too_large d i)) o
          ∙ ap (λ (x : Bool). x || too_large d i) b in
          let z : ◌≡◌ {A = ℕ} 0 1 = (let y : true ≡ false = sym f ∙ judge22 in cc) in
          absurd (omega arith)

pub short-name : (edition : ℕ) (n : List ℕ) → bad_name edition n ≡ false → length n ≤ (layout_of edition).longest_name
short-name edition n e = go (dec_lt (layout_of edition).longest_name (length n))
  where
    go : Dec ((layout_of edition).longest_name < length n) → length n ≤ (layout_of edition).longest_name
    go (no h) = omega arith
    go (yes h) = let z : ◌≡◌ {A = ℕ} 0 1 = (let y : true ≡ false = sym (long-name edition n h) ∙ e in cc) in absurd (omega arith)

-- ---- the answers of list and read, from the tests that the code makes

pub name-length-of : (edition : ℕ) (s : List ℕ) (r : Fields) → r ≡ fields_of (entry_in edition s) → r.name_length ≡ number_in s (layout_of edition).name_length
unfolding fields_of entry_in
name-length-of edition s r e = ap (λ (x : Fields). x.name_length) e ∙ length-name_in edition s

-- fault 22 bounds the size
sound-size : (d : Disk) → first_fault d ≡ Sound → (i : ℕ) → i < (geometry_in (d superblock_at)).files → is_occupied (d (entry_at i)) ≡ true
    → number_in (d (entry_at i)) entry_field.size ≤ room_of d
sound-size d s i l o = ltb-false (room_of d) (number_in (d (entry_at i)) entry_field.size) (go (bad_name (edition_on d) (name_in (edition_on d) (d (entry_at i)))) _ refl)
  where
    judge22 : (bad_name (edition_on d) (name_in (edition_on d) (d (entry_at i))) || too_large d i) ≡ false
    judge22 =
        ap (λ (x : Bool). x && (bad_name (edition_on d) (name_in (edition_on d) (d (entry_at i))) || too_large d i)) (sym o)
        ∙ sym (fault22-is d i l) ∙ first-missed (fault22 (catalogue_of d)) (geometry_in (d superblock_at)).files (sound-22 d s) i l

    go : (a b : Bool) → (a || b) ≡ (bad_name (edition_on d) (name_in (edition_on d) (d (entry_at i))) || too_large d i) → b ≡ false
    go true b e = let z : ◌≡◌ {A = ℕ} 0 1 = (let y : true ≡ false = e ∙ judge22 in cc) in absurd (omega arith)
    go false b e = e ∙ judge22

pub size_fits : (img : List ℕ) (g : Geometry) → Opened img g → first_fault (view img) ≡ Sound → (i : ℕ)
    → i < (geometry_in (view img superblock_at)).files → is_occupied (view img (entry_at i)) ≡ true
    → number_in (view img (entry_at i)) entry_field.size < 2 ^ 62
size_fits img g o s i l h =
    let a : number_in (view img (entry_at i)) entry_field.size ≤ g.extents * extent_bytes g = rw o.is (sound-size (view img) s i l h) in
    let b : g.extents * extent_bytes g ≤ 65535 * (512 * 4294967295) =
    mul-le-mul o.bounded.extents-high
    (let q : extent_bytes g ≤ 512 * 4294967295 = omega (arith, o.bounded.extent-high) in q) in
    omega arith
