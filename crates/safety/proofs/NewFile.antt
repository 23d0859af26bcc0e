-- The ledger after a create: a free slot gets a new file without extents, which is admissible. Assumes nothing.
use Prim.Native.Nat.{ℕ, ◌*◌, ◌<◌}
use mathlib.Core.Path.{◌≡◌, refl, sym, ap, ap₂, ◌∙◌}
use mathlib.Core.Bool.{Bool, true, false, cond, not, ◌&&◌, ◌||◌, true≢false}
use mathlib.Core.List.{List, []}
use mathlib.Core.Option.{Option, none, some}
use native.Mathlib.Omega.{arith}
use lib.Dec.{eqb, leb}
use borrow.Author.Tests.{le-ltb, eqb-true}
use Rattle.model.specs.Search.{all_below}
use Rattle.model.specs.Geometry.{extent_bytes, extents_for}
use Rattle.model.specs.Entry.{bad_name}
use Rattle.model.specs.Catalogue.{Catalogue, Owner, is_free, has_name, has_id, owned_from}
use Rattle.model.specs.Faults.{holds_of, fault25, exact}
use Rattle.model.specs.Ledger.{Ledger, File, file_or, entry_of_file, catalogue, with_root_updated, new_entry, updated_root}
use Rattle.model.specs.Opened.{Bounded}
use Rattle.laws.proofs.Search.{all_below-yes}
use Rattle.safety.proofs.Bounds.{no-extent}
use Rattle.safety.proofs.Rep.{NoFaults, Disjoint}
use Rattle.safety.proofs.Replaced.{never-free, table-by, disjoint-by, Admissible}

module _ (L : Ledger) (i : ℕ) (name : List ℕ) (id mode time : ℕ) where
  abbrev pub new_file : File
  new_file = record { entry = new_entry name id mode time; bytes = []; extents = [] }

  abbrev pub created : Ledger
  created = with_root_updated L time i (some (record { entry = new_entry name id mode time; bytes = []; extents = [] }))

  module _ (empty : L.slots i ≡ none) where
    extents-created : (k : ℕ) → (file_or (created.slots k)).extents ≡ (file_or (L.slots k)).extents
    extents-created k = go (eqb k i) refl
      where
        go : (b : Bool) → eqb k i ≡ b → (file_or (cond b (some new_file) (L.slots k))).extents ≡ (file_or (L.slots k)).extents
        go true e = sym (ap (λ (x : ℕ). (file_or (L.slots x)).extents) (eqb-true k i e) ∙ ap (λ (o : Option File). (file_or o).extents) empty)
        go false e = refl

    pub disjoint-created : Disjoint L → Disjoint created
    disjoint-created h = disjoint-by L created refl extents-created h

    pub table-created : (e : ℕ) → (catalogue created).table e ≡ (catalogue L).table e
    table-created e = table-by L created refl extents-created e

    module _ (bounded : Bounded L.geometry) (good : bad_name L.geometry.edition name ≡ false) (some_id : eqb id 0 ≡ false)
        (new-name : (k : ℕ) → k < L.geometry.files → has_name name ((catalogue L).entries k) ≡ false)
        (new-id : (k : ℕ) → k < L.geometry.files → has_id id ((catalogue L).entries k) ≡ false)
        (not_root : eqb id L.root.id ≡ false) (h : NoFaults (catalogue L)) where
      abbrev c : Catalogue
      c = catalogue L

      -- a free slot owns nothing
      none_owned : (e : ℕ) → e < L.geometry.extents → owned_from i 0 (c.table e) ≡ false
      unfolding catalogue fault25
      none_owned e l = go (c.table e) (h.f25 e l)
        where
          go : (o : Option Owner) → holds_of o (λ w. is_free (c.entries w.file)) ≡ false → owned_from i 0 o ≡ false
          go none q = refl
          go (some w) q = at-file (eqb w.file i) refl
            where
              at-file : (b : Bool) → eqb w.file i ≡ b → (b && leb 0 w.offset) ≡ false
              at-file true z =
                  absurd (true≢false (sym (ap (λ (x : ℕ). is_free (entry_of_file (L.slots x))) (eqb-true w.file i z) ∙ ap (λ (x : Option File). is_free (entry_of_file x)) empty)
                  ∙ q))
              at-file false z = refl

      exact-new : exact (catalogue created) i (extents_for L.geometry 0) ≡ true
      unfolding exact all_below catalogue
      exact-new =
          ap (exact (catalogue created) i) (no-extent L.geometry bounded)
          ∙ all_below-yes (λ e. not (owned_from i 0 ((catalogue created).table e))) L.geometry.extents
          (λ e l. ap (λ (o : Option Owner). not (owned_from i 0 o)) (table-created e) ∙ ap not (none_owned e l))

      pub admissible-new : Admissible L (updated_root time L.root) i (some new_file)
      unfolding updated_root new_entry
      admissible-new = record {
        root-id = refl;
        entry = ap₂ (λ a b. a || b) good (le-ltb (L.geometry.extents * extent_bytes L.geometry) 0 (omega arith));
        id = ap₂ (λ a b. a || b) some_id not_root;
        names = λ k l ne. new-name k l;
        ids = λ k l ne. new-id k l;
        others = λ t tn ti e. ap t (table-created e);
        owned = λ e l. never-free ((catalogue created).table e) (λ w. eqb w.file i);
        exactly = ap not exact-new;
      }
