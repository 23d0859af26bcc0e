-- The ledger's side of a write of bytes into file i at an offset, with its conditions passed: the size and the extents afterwards, whose
-- each extent is, and that the file is admissible, done or partly landed. Assumes nothing.
use Prim.Native.Nat.{ℕ, suc, ◌+◌, ◌*◌, ◌≤◌, ◌<◌, max}
use mathlib.Core.Path.{◌≡◌, refl, sym, ap, ap₂, ◌∙◌}
use mathlib.Core.Bool.{Bool, true, false, cond, ◌&&◌, false≢true}
use mathlib.Core.List.{List, [], ◌∷◌, ◌++◌, append-nil}
use mathlib.Core.Option.{Option, some}
use native.Mathlib.Omega.{arith}
use native.Mathlib.Nat.{mul-le-mul_right, suc-mul}
use lib.Dec.{eqb, ltb}
use lib.ListN.{length, length-append}
use borrow.Author.Tests.{ltb-true, ltb-false}
use Rattle.model.specs.declared.Geometry.{Geometry}
use Rattle.model.specs.Bytes.{bytes_from, put}
use Rattle.model.specs.Search.{Lowest, is_at, index_of}
use Rattle.model.specs.Geometry.{extent_bytes, extents_for, reserve_extents}
use Rattle.model.specs.Catalogue.{Catalogue, is_free, free_extent, free_extents, entry_of, entry_or, extent_of}
use Rattle.model.specs.Faults.{exact}
use Rattle.model.specs.Write.{held_extents, grows, no_room, size_after}
use Rattle.model.specs.Read.{longest_transfer}
use Rattle.model.specs.Ledger.{Ledger, File, file_or, entry_of_file, catalogue, updated_entry, written, unheld_extent}
use Rattle.laws.proofs.Staging.{free-first}
use Rattle.safety.proofs.OwnWords.{unheld-is}
use Rattle.safety.proofs.Searches.{place_found}
use Rattle.safety.proofs.Rep.{Rep, Disjoint, catalogue-geometry}
use Rattle.safety.proofs.Replaced.{replaced, Admissible}
use Rattle.safety.proofs.Pigeonhole.{pigeonhole}
use Rattle.safety.proofs.Extents.{owner, owner-offset, free-unowned, exactly, extent-owned, extent-inside, size-held, extents-le, extents-mono}
use Rattle.safety.proofs.Preserved.{entry-of, slot-within}
use Rattle.safety.proofs.KeptFile.{size_small, admissible-kept}
use Rattle.safety.proofs.TakenFile.{table_taken, disjoint-taken, others-taken, exact-taken}

-- ---- the size that file i has after a write, whether it takes an extent, and which

abbrev pub size_written : Ledger → ℕ → ℕ → List ℕ → ℕ
size_written L i offset bytes = size_after (catalogue L) i offset (length bytes)

abbrev pub takes_one : Ledger → ℕ → ℕ → List ℕ → Bool
takes_one L i offset bytes = grows (catalogue L) i (size_after (catalogue L) i offset (length bytes))

abbrev pub next_extent : Ledger → ℕ
next_extent L = index_of (free_extent (catalogue L))

-- file i with the bytes put in, where it was f; and f with other bytes, as where only some data sectors landed
abbrev pub written_file : Ledger → ℕ → File → ℕ → List ℕ → ℕ → File
written_file L i f offset bytes time = record {
  entry = updated_entry (size_written L i offset bytes) time f.entry;
  bytes = put (bytes_from f.bytes 0 (size_written L i offset bytes)) offset bytes;
  extents = f.extents ++ cond (takes_one L i offset bytes) (next_extent L ∷ []) [];
}

abbrev pub part_file : File → List ℕ → File
part_file f landed = record { entry = f.entry; bytes = landed; extents = f.extents }

-- ---- what a write may rest on where its conditions passed

pub record Writable (L : Ledger) (i : ℕ) (f : File) (offset : ℕ) (bytes : List ℕ) : Type 0 where
  pub has : L.slots i ≡ some f
  pub start : offset ≤ f.entry.size
  pub short : length bytes ≤ longest_transfer
  pub room : no_room (catalogue L) i (size_written L i offset bytes) ≡ false

module _ (L : Ledger) (img : List ℕ) (rep : Rep L img) (i : ℕ) (f : File) (offset : ℕ) (bytes : List ℕ) (w : Writable L i f offset bytes) where
  abbrev z : ℕ
  z = size_written L i offset bytes

  abbrev b : Bool
  b = takes_one L i offset bytes

  abbrev x : ℕ
  x = next_extent L

  abbrev n : ℕ
  n = length f.extents

  pub within : i < L.geometry.files
  within = slot-within L img rep i f w.has

  pub size_is : (entry_of (catalogue L) i).size ≡ f.entry.size
  unfolding entry_of catalogue
  size_is = ap (λ (o : Option File). (entry_or (entry_of_file o)).size) w.has

  pub held-is : held_extents (catalogue L) i ≡ length f.extents
  held-is = ap₂ extents_for (catalogue-geometry L) size_is ∙ sym (rep.sized i f w.has)

  -- "At most one new extent is ever needed"
  pub needs : extents_for L.geometry (size_written L i offset bytes) ≡ cond b (suc (length f.extents)) (length f.extents)
  unfolding grows
  needs =
      let s : (entry_of (catalogue L) i).size ≡ f.entry.size = size_is in
      let h : held_extents (catalogue L) i ≡ n = held-is in
      let e : n ≡ extents_for L.geometry f.entry.size = rep.sized i f w.has in
      let q : extents_for (catalogue L).geometry z ≡ extents_for L.geometry z = ap (λ (g : Geometry). extents_for g z) (catalogue-geometry L) in
      let m : extents_for L.geometry f.entry.size ≤ extents_for L.geometry z = extents-mono L.geometry rep.bounded f.entry.size z (omega arith) in
      let u : f.entry.size ≤ extents_for L.geometry f.entry.size * extent_bytes L.geometry = size-held L.geometry rep.bounded f.entry.size in
      let v : suc n * extent_bytes L.geometry ≡ n * extent_bytes L.geometry + extent_bytes L.geometry = suc-mul n (extent_bytes L.geometry) in
      let r : f.entry.size ≤ n * extent_bytes L.geometry = rw e u in
      let t : extents_for L.geometry z ≤ suc n = extents-le L.geometry rep.bounded z (suc n) (omega (arith, rep.bounded.extent-low, w.start, w.short)) in
      go (ltb (held_extents (catalogue L) i) (extents_for (catalogue L).geometry z)) refl h e q m t
    where
      go : (t : Bool) → ltb (held_extents (catalogue L) i) (extents_for (catalogue L).geometry z) ≡ t → held_extents (catalogue L) i ≡ n
          → n ≡ extents_for L.geometry f.entry.size → extents_for (catalogue L).geometry z ≡ extents_for L.geometry z
          → extents_for L.geometry f.entry.size ≤ extents_for L.geometry z → extents_for L.geometry z ≤ suc n
          → extents_for L.geometry z ≡ cond t (suc n) n
      go true l h e q m t = let k : held_extents (catalogue L) i < extents_for (catalogue L).geometry z = ltb-true _ _ l in omega arith
      go false l h e q m t = let k : extents_for (catalogue L).geometry z ≤ held_extents (catalogue L) i = ltb-false _ _ l in omega arith

  -- T-12: K + 1 are free, and the lowest free extent is taken
  pub plenty : takes_one L i offset bytes ≡ true → reserve_extents L.geometry < length (free_extents (catalogue L))
  unfolding no_room catalogue
  plenty t =
      let k : ℕ = reserve_extents L.geometry in
      let h : k + 1 ≤ length (free_extents (catalogue L)) =
      ltb-false _ (k + 1) (sym (ap (λ (q : Bool). q && ltb (length (free_extents (catalogue L))) (k + 1)) t) ∙ w.room) in
      omega arith

  pub taken : takes_one L i offset bytes ≡ true → (next_extent L < L.geometry.extents) × (is_free ((catalogue L).table (next_extent L)) ≡ true)
  unfolding free_extent catalogue
  taken t =
      place_found (λ e. is_free ((catalogue L).table e)) L.geometry.extents
      (ap is_at (free-first (catalogue L) L.geometry.extents (let h : reserve_extents L.geometry < length (free_extents (catalogue L)) = plenty t in omega arith)))

  -- so the file's extents are fewer than the volume's
  fewer : takes_one L i offset bytes ≡ true → length f.extents < L.geometry.extents
  unfolding catalogue
  fewer t =
      let s : n ≡ extents_for L.geometry f.entry.size = rep.sized i f w.has in
      pigeonhole (extent_of (catalogue L) i) n L.geometry.extents x (λ o l. extent-inside c rep.faultless i f.entry within entered o (omega arith))
      (λ j k u v e. owner-offset _ i i j k (owned j (omega arith)) (ap (catalogue L).table e ∙ owned k (omega arith)))
      (λ o l e. free-unowned ((catalogue L).table x) i o (taken t).1 (ap (catalogue L).table e ∙ owned o (omega arith)))
      (taken t).0
    where
      c : Catalogue
      c = catalogue L

      entered : (catalogue L).entries i ≡ some f.entry
      entered = entry-of L img rep i f w.has

      owned : (o : ℕ) → o < extents_for L.geometry f.entry.size → (catalogue L).table (extent_of (catalogue L) i o) ≡ owner i o
      owned o l = extent-owned (catalogue L) rep.faultless i f.entry within entered o l

  pub size-bounded : size_written L i offset bytes ≤ L.geometry.extents * extent_bytes L.geometry
  size-bounded =
      let q : z ≤ extents_for L.geometry z * extent_bytes L.geometry = size-held L.geometry rep.bounded z in
      let m : extents_for L.geometry z * extent_bytes L.geometry ≤ L.geometry.extents * extent_bytes L.geometry = mul-le-mul_right (extent_bytes L.geometry) (rw needs (go b refl)) in
      omega arith
    where
      go : (t : Bool) → b ≡ t → cond t (suc n) n ≤ L.geometry.extents
      go true e = fewer e
      go false e =
          let s : n ≡ extents_for L.geometry f.entry.size = rep.sized i f w.has in
          let q : extents_for L.geometry f.entry.size ≤ L.geometry.extents = extents-le L.geometry rep.bounded f.entry.size L.geometry.extents
          (size_small L img rep i f w.has) in
          omega arith

  -- ---- the file afterwards

  old-exact : exact (catalogue L) i (length f.extents) ≡ true
  unfolding catalogue
  old-exact =
      ap (exact (catalogue L) i) (rep.sized i f w.has) ∙ exactly (catalogue L) rep.faultless i f.entry within (entry-of L img rep i f w.has)

  module _ (time : ℕ) where
    abbrev y : File
    y = written_file L i f offset bytes time

    pub written_is : written L i offset bytes time ≡ written_file L i f offset bytes time
    unfolding written grows catalogue
    written_is =
        ap (λ (o : Option File). file (file_or o) (file_or o).entry.size (unheld_extent L)) w.has
        ∙ (λ k. file f (sym size_is k) (unheld-is L k))
      where
        -- f with the bytes put in, by its size and by the extent that it takes
        file : File → ℕ → Lowest → File
        file x m p =
            let s = max m (offset + length bytes) in
            record {
              entry = updated_entry s time x.entry;
              bytes = put (bytes_from x.bytes 0 s) offset bytes;
              extents = x.extents ++ cond (ltb (extents_for L.geometry m) (extents_for L.geometry s)) (index_of p ∷ []) [];
            }

    pub sized-written : length (written_file L i f offset bytes time).extents ≡ extents_for L.geometry (size_written L i offset bytes)
    sized-written = go b ∙ sym needs
      where
        go : (t : Bool) → length (f.extents ++ cond t (x ∷ []) []) ≡ cond t (suc n) n
        go true = length-append f.extents (x ∷ []) ∙ (let e : n + 1 ≡ suc n = omega arith in e)
        go false = ap length (append-nil f.extents)

    pub table-written : (e : ℕ) → (catalogue (replaced L L.root i (some (written_file L i f offset bytes time)))).table e
        ≡ cond (takes_one L i offset bytes && eqb e (next_extent L)) (owner i (length f.extents)) ((catalogue L).table e)
    table-written = table_taken L L.root i f w.has within rep.disjoint b x (λ t. (taken t).1) y refl

    pub disjoint-written : Disjoint (replaced L L.root i (some (written_file L i f offset bytes time)))
    disjoint-written = disjoint-taken L L.root i f w.has within rep.disjoint b x (λ t. (taken t).1) y refl

    pub admissible-written : Admissible L L.root i (some (written_file L i f offset bytes time))
    unfolding updated_entry
    admissible-written =
        admissible-kept L img rep i f w.has y refl refl size-bounded
        (others-taken L L.root i f w.has within rep.disjoint b x (λ t. (taken t).1) y refl)
        (ap (exact (catalogue (replaced L L.root i (some y))) i) needs
        ∙ exact-taken L L.root i f w.has within rep.disjoint b x (λ t. (taken t).1) y refl (λ t. (taken t).0) old-exact)

  -- ---- the file as it stands where only some data sectors landed: other bytes, all else as before

  module _ (landed : List ℕ) where
    abbrev v : File
    v = part_file f landed

    nothing-taken : false ≡ true → is_free ((catalogue L).table 0) ≡ true
    nothing-taken t = absurd (false≢true t)

    no_more : f.extents ≡ f.extents ++ []
    no_more = sym (append-nil f.extents)

    pub table-part : (e : ℕ) → (catalogue (replaced L L.root i (some (part_file f landed)))).table e ≡ (catalogue L).table e
    table-part = table_taken L L.root i f w.has within rep.disjoint false 0 nothing-taken v no_more

    pub disjoint-part : Disjoint (replaced L L.root i (some (part_file f landed)))
    disjoint-part = disjoint-taken L L.root i f w.has within rep.disjoint false 0 nothing-taken v no_more

    pub admissible-part : Admissible L L.root i (some (part_file f landed))
    admissible-part =
        admissible-kept L img rep i f w.has v refl refl (size_small L img rep i f w.has)
        (others-taken L L.root i f w.has within rep.disjoint false 0 nothing-taken v no_more)
        (ap (exact (catalogue (replaced L L.root i (some v))) i) (sym (rep.sized i f w.has))
        ∙ exact-taken L L.root i f w.has within rep.disjoint false 0 nothing-taken v no_more (λ t. absurd (false≢true t)) old-exact)
