-- What a disk's catalogue says, in the terms that code tests: searches of the catalogue as searches of the directory, faults 22 to
-- 26 as tests of sectors. Assumes nothing.
use Prim.Native.Nat.{ℕ, ◌*◌, ◌<◌}
use mathlib.Core.Path.{◌≡◌, refl, sym, ap, ap₂, ◌∙◌}
use mathlib.Core.Bool.{Bool, true, false, cond, not, ◌&&◌, ◌||◌}
use mathlib.Core.List.{List}
use mathlib.Core.Option.{Option, none, some}
use native.Mathlib.Omega.{arith}
use lib.Dec.{eqb, leb, ltb}
use borrow.Author.Tests.{lt-ltb, eqb-true, ne_eqb}
use Rattle.model.specs.declared.Geometry.{Geometry}
use Rattle.model.specs.Bytes.{number_in}
use Rattle.model.specs.Search.{first, any_below, all_below, count_below, equal_bytes}
use Rattle.model.specs.Geometry.{extent_bytes, extents_for, root_at, entry_at}
use Rattle.model.specs.Disk.{Disk}
use Rattle.model.specs.Superblock.{geometry_in}
use Rattle.model.specs.Root.{root_in}
use Rattle.model.specs.Entry.{entry_field, Entry, name_in, entry_in, is_occupied, bad_name}
use Rattle.model.specs.Table.{free_file, table_file, table_offset}
use Rattle.model.specs.Catalogue.{Owner, catalogue_of, is_free, has_name, has_id, is_part, owned_from, file_named, free_entry}
use Rattle.model.specs.Faults.{holds_of, fault22, fault23, fault24, fault25, fault26, exact}
use Rattle.laws.proofs.Booleans.{not-and, not-leb}
use Rattle.laws.proofs.Search.{first-ext, any_below-ext, all_below-ext, count_below-ext}

pub among-if {ℓ} : {A : Type ℓ} (b : Bool) (x : A) (p : A → Bool) → holds_of (cond b (some x) none) p ≡ (b && p x)
among-if true x p = refl
among-if false x p = refl

name-if : (b : Bool) (e : Entry) (n : List ℕ) → has_name n (cond b (some e) none) ≡ (b && equal_bytes e.name n)
name-if true e n = refl
name-if false e n = refl

pub id-if : (b : Bool) (e : Entry) (n : ℕ) → has_id n (cond b (some e) none) ≡ (b && eqb e.id n)
id-if true e n = refl
id-if false e n = refl

free-if : (b : Bool) (e : Entry) → is_free (cond b (some e) none) ≡ not b
free-if true e = refl
free-if false e = refl

-- an owner read off two numbers, where the free mark is no file's
abbrev pub owner : ℕ → ℕ → Option Owner
owner f o = cond (not (eqb f free_file)) (some (record { file = f; offset = o })) none

pub by-owner : (t : Option Owner → Bool) (u : Bool) (f o : ℕ) → (f ≡ free_file → u ≡ t none) → t (some (record { file = f; offset = o })) ≡ u → t (owner f o) ≡ u
by-owner t u f o h k = go (eqb f free_file) refl
  where
    go : (b : Bool) → eqb f free_file ≡ b → t (cond (not b) (some (record { file = f; offset = o })) none) ≡ u
    go true e = sym (h (eqb-true f free_file e))
    go false e = k

module _ (d : Disk) where
  abbrev g : Geometry
  g = geometry_in (d 0)

  abbrev s : ℕ → List ℕ
  s i = d (entry_at i)

  abbrev id_at : ℕ → ℕ
  id_at i = number_in (s i) entry_field.id

  pub slot-on : (i : ℕ) → i < g.files → (catalogue_of d).entries i ≡ cond (is_occupied (s i)) (some (entry_in g.edition (s i))) none
  unfolding catalogue_of
  slot-on i l = ap (λ (b : Bool). cond (b && is_occupied (s i)) (some (entry_in g.edition (s i))) none) (lt-ltb i g.files l)

  pub fault22-is : (i : ℕ) → i < g.files
      → fault22 (catalogue_of d) i ≡ (is_occupied (s i) && (bad_name g.edition (name_in g.edition (s i)) || ltb (g.extents * extent_bytes g) (number_in (s i) entry_field.size)))
  unfolding fault22 catalogue_of entry_in
  fault22-is i l =
      ap (λ (o : Option Entry). holds_of o (λ e. bad_name g.edition e.name || ltb (g.extents * extent_bytes g) e.size)) (slot-on i l)
      ∙ among-if (is_occupied (s i)) (entry_in g.edition (s i)) (λ e. bad_name g.edition e.name || ltb (g.extents * extent_bytes g) e.size)

  pub fault23-is : (i : ℕ) → i < g.files → fault23 (catalogue_of d) i ≡ (is_occupied (s i) && any_below (λ j. is_occupied (s j) && equal_bytes (name_in g.edition (s j)) (name_in g.edition (s i))) i)
  unfolding fault23 entry_in
  fault23-is i l =
      ap (λ (o : Option Entry). holds_of o (λ e. any_below (λ j. has_name e.name ((catalogue_of d).entries j)) i)) (slot-on i l)
      ∙ among-if (is_occupied (s i)) (entry_in g.edition (s i)) (λ e. any_below (λ j. has_name e.name ((catalogue_of d).entries j)) i)
      ∙ ap (λ (b : Bool). is_occupied (s i) && b)
      (any_below-ext (λ j. has_name (name_in g.edition (s i)) ((catalogue_of d).entries j)) (λ j. is_occupied (s j) && equal_bytes (name_in g.edition (s j)) (name_in g.edition (s i))) i
      (λ j k. ap (has_name (name_in g.edition (s i))) (slot-on j (omega arith)) ∙ name-if (is_occupied (s j)) (entry_in g.edition (s j)) (name_in g.edition (s i))))

  pub fault24-is : (i : ℕ) → i < g.files
      → fault24 (catalogue_of d) i
      ≡ (is_occupied (s i) && (eqb (id_at i) 0 || eqb (id_at i) (root_in g.edition (d root_at)).id || any_below (λ j. is_occupied (s j) && eqb (id_at j) (id_at i)) i))
  unfolding fault24 entry_in catalogue_of
  fault24-is i l =
      ap (λ (o : Option Entry). holds_of o (λ e. eqb e.id 0 || eqb e.id (root_in g.edition (d root_at)).id || any_below (λ j. has_id e.id ((catalogue_of d).entries j)) i)) (slot-on i l)
      ∙ among-if (is_occupied (s i)) (entry_in g.edition (s i)) (λ e. eqb e.id 0 || eqb e.id (root_in g.edition (d root_at)).id || any_below (λ j. has_id e.id ((catalogue_of d).entries j)) i)
      ∙ ap (λ (b : Bool). is_occupied (s i) && (eqb (id_at i) 0 || eqb (id_at i) (root_in g.edition (d root_at)).id || b))
      (any_below-ext (λ j. has_id (id_at i) ((catalogue_of d).entries j)) (λ j. is_occupied (s j) && eqb (id_at j) (id_at i)) i
      (λ j k. ap (has_id (id_at i)) (slot-on j (omega arith)) ∙ id-if (is_occupied (s j)) (entry_in g.edition (s j)) (id_at i)))

  pub fault25-is : (e : ℕ) → e < g.extents
      → fault25 (catalogue_of d) e ≡ (not (eqb (table_file g d e) free_file) && not (ltb (table_file g d e) g.files && is_occupied (s (table_file g d e))))
  unfolding fault25 catalogue_of
  fault25-is e l =
      ap (λ (b : Bool). holds_of (cond (b && not (eqb (table_file g d e) free_file)) (some (record { file = table_file g d e; offset = table_offset g d e })) none)
      (λ (w : Owner). is_free ((catalogue_of d).entries w.file))) (lt-ltb e g.extents l)
      ∙ among-if (not (eqb (table_file g d e) free_file)) (record { file = table_file g d e; offset = table_offset g d e }) (λ (w : Owner). is_free ((catalogue_of d).entries w.file))
      ∙ ap (λ (b : Bool). not (eqb (table_file g d e) free_file) && b)
      (free-if (ltb (table_file g d e) g.files && is_occupied (s (table_file g d e))) (entry_in g.edition (s (table_file g d e))))

  pub table_on : (e : ℕ) → e < g.extents → (catalogue_of d).table e ≡ owner (table_file g d e) (table_offset g d e)
  unfolding catalogue_of
  table_on e l = ap (λ (b : Bool). cond (b && not (eqb (table_file g d e) free_file)) (some (record { file = table_file g d e; offset = table_offset g d e })) none) (lt-ltb e g.extents l)

  module _ (i : ℕ) (few : i < free_file) where
    pub part-is : (o e : ℕ) → e < g.extents → is_part i o ((catalogue_of d).table e) ≡ (eqb (table_file g d e) i && eqb (table_offset g d e) o)
    part-is o e l =
        ap (is_part i o) (table_on e l)
        ∙ by-owner (is_part i o) _ (table_file g d e) (table_offset g d e) (λ q. ap (λ (b : Bool). b && eqb (table_offset g d e) o) (ne_eqb (table_file g d e) i (λ z. omega arith))) refl

    beyond-is : (k e : ℕ) → e < g.extents → not (owned_from i k ((catalogue_of d).table e)) ≡ (not (eqb (table_file g d e) i) || ltb (table_offset g d e) k)
    beyond-is k e l =
        ap (λ (o : Option Owner). not (owned_from i k o)) (table_on e l)
        ∙ by-owner (λ o. not (owned_from i k o)) _ (table_file g d e) (table_offset g d e)
        (λ q. ap (λ (b : Bool). not b || ltb (table_offset g d e) k) (ne_eqb (table_file g d e) i (λ z. omega arith)))
        (not-and (eqb (table_file g d e) i) (leb k (table_offset g d e)) ∙ ap (λ (b : Bool). not (eqb (table_file g d e) i) || b) (not-leb k (table_offset g d e)))

    pub exact-is : (k : ℕ)
        → exact (catalogue_of d) i k ≡ (all_below (λ o. eqb (count_below (λ e. eqb (table_file g d e) i && eqb (table_offset g d e) o) g.extents) 1) k
        && all_below (λ e. not (eqb (table_file g d e) i) || ltb (table_offset g d e) k) g.extents)
    unfolding exact catalogue_of
    exact-is k =
        ap₂ (λ a b. a && b)
        (all_below-ext _ (λ o. eqb (count_below (λ e. eqb (table_file g d e) i && eqb (table_offset g d e) o) g.extents) 1) k
        (λ o q. ap (λ n. eqb n 1) (count_below-ext (λ e. is_part i o ((catalogue_of d).table e)) (λ e. eqb (table_file g d e) i && eqb (table_offset g d e) o) g.extents (λ e l. part-is o e l))))
        (all_below-ext (λ e. not (owned_from i k ((catalogue_of d).table e))) (λ e. not (eqb (table_file g d e) i) || ltb (table_offset g d e) k) g.extents (λ e l. beyond-is k e l))

  pub fault26-is : (i : ℕ) → i < g.files → fault26 (catalogue_of d) i ≡ (is_occupied (s i) && not (exact (catalogue_of d) i (extents_for g (number_in (s i) entry_field.size))))
  unfolding fault26 catalogue_of entry_in
  fault26-is i l =
      ap (λ (o : Option Entry). holds_of o (λ e. not (exact (catalogue_of d) i (extents_for g e.size)))) (slot-on i l)
      ∙ among-if (is_occupied (s i)) (entry_in g.edition (s i)) (λ e. not (exact (catalogue_of d) i (extents_for g e.size)))

  -- ---- the searches

  pub named-on : (n : List ℕ) → file_named (catalogue_of d) n ≡ first (λ i. is_occupied (s i) && equal_bytes (name_in g.edition (s i)) n) g.files
  unfolding file_named catalogue_of entry_in
  named-on n =
      first-ext (λ i. has_name n ((catalogue_of d).entries i)) (λ i. is_occupied (s i) && equal_bytes (name_in g.edition (s i)) n) g.files
      (λ i l. ap (has_name n) (slot-on i l) ∙ name-if (is_occupied (s i)) (entry_in g.edition (s i)) n)

  pub free_on : free_entry (catalogue_of d) ≡ first (λ i. not (is_occupied (s i))) g.files
  unfolding free_entry catalogue_of
  free_on =
      first-ext (λ i. is_free ((catalogue_of d).entries i)) (λ i. not (is_occupied (s i))) g.files
      (λ i l. ap is_free (slot-on i l) ∙ free-if (is_occupied (s i)) (entry_in g.edition (s i)))
