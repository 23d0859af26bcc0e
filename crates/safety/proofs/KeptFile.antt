-- A call that updates file i's entry, as write and resize do: what the entry's sector says before and after, and that a file that keeps
-- name and id is admissible where its size is bounded and its extents are those that it needs. Assumes nothing.
use Prim.Native.Nat.{ℕ, ◌*◌, ◌≤◌, ◌<◌}
use mathlib.Core.Path.{◌≡◌, refl, sym, ap, ap₂, ◌∙◌}
use mathlib.Core.Logic.{◌≢◌}
use mathlib.Core.Bool.{Bool, true, false, cond, not, ◌&&◌, ◌||◌}
use mathlib.Core.List.{List}
use mathlib.Core.Option.{Option, none, some}
use native.Mathlib.Omega.{arith}
use native.Mathlib.Nat.{mul-le-mul}
use lib.Dec.{eqb, ltb}
use borrow.Author.Tests.{le-ltb, ltb-false}
use Rattle.model.specs.Search.{any_below}
use Rattle.model.specs.Geometry.{superblock_at, extent_bytes, entry_at, extents_for}
use Rattle.model.specs.Disk.{view}
use Rattle.model.specs.Superblock.{geometry_in}
use Rattle.model.specs.Root.{Root}
use Rattle.model.specs.Entry.{Entry, is_occupied, bad_name, updated_entry_sector}
use Rattle.model.specs.Catalogue.{catalogue_of, has_name, has_id}
use Rattle.model.specs.Faults.{holds_of, fault21, fault22, fault24, exact}
use Rattle.model.specs.Ledger.{Ledger, File, catalogue, updated_entry}
use Rattle.laws.proofs.Disk.{length-view}
use Rattle.safety.proofs.Searches.{or-left-no, or-right-no}
use Rattle.safety.proofs.Rep.{Rep, Timely}
use Rattle.safety.proofs.Preserved.{slot_in, entry-is, entry-of, occupied, slot-within}
use Rattle.safety.proofs.Fields.{updated-occupied, updated-entry, occupied-mark}
use Rattle.safety.proofs.Replaced.{never-free, replaced, names_apart, ids-apart, OthersKept, Admissible}

module _ (L : Ledger) (img : List ℕ) (rep : Rep L img) (i : ℕ) (f : File) (has : L.slots i ≡ some f) where
  abbrev E : ℕ
  E = extent_bytes L.geometry

  -- name and size, as fault 22 asks
  pub well-named : (bad_name L.geometry.edition f.entry.name || ltb (L.geometry.extents * extent_bytes L.geometry) f.entry.size) ≡ false
  unfolding fault22 catalogue
  well-named =
      sym (ap (λ (o : Option Entry). holds_of o (λ e. bad_name L.geometry.edition e.name || ltb (L.geometry.extents * E) e.size)) (entry-of L img rep i f has))
      ∙ rep.faultless.f22 i (slot-within L img rep i f has)

  pub size_small : f.entry.size ≤ L.geometry.extents * extent_bytes L.geometry
  size_small = ltb-false _ f.entry.size (or-right-no (bad_name L.geometry.edition f.entry.name) _ well-named)

  -- ---- entry i updated on an image

  module _ (z time : ℕ) (out : List ℕ) (eg : geometry_in (view out superblock_at) ≡ L.geometry)
      (at_entry_lem : view out (entry_at i) ≡ updated_entry_sector L.geometry.edition z time (view img (entry_at i))) where
    pub entry-updated : z ≤ L.geometry.extents * extent_bytes L.geometry → Timely L time
        → (catalogue_of (view out)).entries i ≡ some (updated_entry z time f.entry)
    entry-updated small ht =
        let e : extent_bytes L.geometry ≤ 512 * 4294967295 = omega (arith, rep.bounded.extent-high) in
        let m : L.geometry.extents * extent_bytes L.geometry ≤ 65535 * (512 * 4294967295) = mul-le-mul rep.bounded.extents-high e in
        entry-is L.geometry (view out) (view out) eg eg i ∙ ap (λ (s : List ℕ). slot_in L.geometry s i) at_entry_lem
        ∙ (λ j. cond ((occupied L img rep i f has).0 j && (updated-occupied L.geometry.edition z time (view img (entry_at i)) ∙ (occupied L img rep i f has).1) j)
        (some ((updated-entry L.geometry.edition z time (view img (entry_at i)) (length-view img (entry_at i)) (omega arith) ht ∙ ap (updated_entry z time) (occupied L img rep i f has).2) j)) none)

    pub mark-updated : fault21 (view out) i ≡ false
    unfolding fault21
    mark-updated = occupied-mark (view out (entry_at i)) (ap is_occupied at_entry_lem ∙ updated-occupied L.geometry.edition z time (view img (entry_at i)) ∙ (occupied L img rep i f has).1)

  -- no other file has its name
  pub name-apart : (k : ℕ) → k < L.geometry.files → k ≢ i → has_name f.entry.name ((catalogue L).entries k) ≡ false
  unfolding catalogue
  name-apart k l ne =
      sym (ap (λ (o : Option Entry). holds_of o (λ e. has_name e.name ((catalogue L).entries k))) (entry-of L img rep i f has))
      ∙ names_apart (catalogue L) rep.faultless i k (slot-within L img rep i f has) l ne

  -- ---- a file that keeps its id

  module _ (root : Root) (same_id : root.id ≡ L.root.id) (y : File) (good : bad_name L.geometry.edition y.entry.name ≡ false)
      (own_name : (k : ℕ) → k < L.geometry.files → k ≢ i → has_name y.entry.name ((catalogue L).entries k) ≡ false)
      (id : y.entry.id ≡ f.entry.id) (small : y.entry.size ≤ L.geometry.extents * extent_bytes L.geometry) (others : OthersKept L root i (some y))
      (exact-new : exact (catalogue (replaced L root i (some y))) i (extents_for L.geometry y.entry.size) ≡ true) where
    id-apart : (k : ℕ) → k < L.geometry.files → k ≢ i → has_id y.entry.id ((catalogue L).entries k) ≡ false
    unfolding catalogue
    id-apart k l ne =
        ap (λ (n : ℕ). has_id n ((catalogue L).entries k)) id ∙ sym (ap (λ (o : Option Entry). holds_of o (λ e. has_id e.id ((catalogue L).entries k))) (entry-of L img rep i f has))
        ∙ ids-apart (catalogue L) rep.faultless i k (slot-within L img rep i f has) l ne

    good-id : (eqb y.entry.id 0 || eqb y.entry.id L.root.id) ≡ false
    unfolding fault24 catalogue
    good-id =
        ap (λ n. eqb n 0 || eqb n L.root.id) id
        ∙ or-left-no _ _
        (sym (ap (λ (o : Option Entry). holds_of o (λ e. eqb e.id 0 || eqb e.id L.root.id || any_below (λ j. has_id e.id ((catalogue L).entries j)) i)) (entry-of L img rep i f has))
        ∙ rep.faultless.f24 i (slot-within L img rep i f has))

    pub admissible-id : Admissible L root i (some y)
    admissible-id = record {
      root-id = same_id;
      entry = ap₂ (λ (s t : Bool). s || t) good (le-ltb (L.geometry.extents * E) y.entry.size small);
      id = good-id;
      names = own_name;
      ids = id-apart;
      others = others;
      owned = λ e l. never-free ((catalogue (replaced L root i (some y))).table e) (λ w. eqb w.file i);
      exactly = ap not exact-new;
    }

  -- and its name, and the root stays
  module _ (y : File) (name : y.entry.name ≡ f.entry.name) (id : y.entry.id ≡ f.entry.id) (small : y.entry.size ≤ L.geometry.extents * extent_bytes L.geometry)
      (others : OthersKept L L.root i (some y))
      (exact-new : exact (catalogue (replaced L L.root i (some y))) i (extents_for L.geometry y.entry.size) ≡ true) where
    pub admissible-kept : Admissible L L.root i (some y)
    admissible-kept =
        admissible-id L.root refl y
        (ap (bad_name L.geometry.edition) name ∙ or-left-no (bad_name L.geometry.edition f.entry.name) (ltb (L.geometry.extents * E) f.entry.size) well-named)
        (λ k l ne. ap (λ (n : List ℕ). has_name n ((catalogue L).entries k)) name ∙ name-apart k l ne) id small others exact-new
