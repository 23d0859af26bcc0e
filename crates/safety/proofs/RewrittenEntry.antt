-- A slot whose entry is rewritten, or the root, while the file keeps size, id, bytes and extents, as by rename, read and list: an image that
-- shows it represents the ledger with the slot replaced. Assumes nothing.
use Prim.Native.Nat.{ℕ, ◌*◌, ◌/◌, ◌≤◌, ◌<◌}
use mathlib.Core.Path.{◌≡◌, refl, sym, ap, ◌∙◌, subst, fun_ext}
use mathlib.Core.Logic.{◌≢◌}
use mathlib.Core.Bool.{Bool, true, false, cond, not, ◌&&◌}
use mathlib.Core.List.{List, [], ◌∷◌}
use mathlib.Core.Option.{Option, none, some, some-injective}
use native.Mathlib.Omega.{arith}
use native.Mathlib.Nat.{zero-add}
use lib.Dec.{eqb}
use lib.ListN.{length}
use borrow.Author.Tests.{eqb-true}
use Rattle.model.specs.Search.{all_below, count_below}
use Rattle.model.specs.Geometry.{extent_bytes, root_at, entry_at, journal_at, extents_for}
use Rattle.model.specs.Disk.{view}
use Rattle.model.specs.Root.{Root, root_in, updated_root_sector}
use Rattle.model.specs.Entry.{Entry, bad_name, entry_in, is_occupied}
use Rattle.model.specs.Table.{table_sector_of}
use Rattle.model.specs.Catalogue.{Catalogue, Owner, catalogue_of, has_name, is_part, owned_from, sector_of, file_bytes}
use Rattle.model.specs.Faults.{exact, fault21}
use Rattle.model.specs.WriteList.{Record, sector_write}
use Rattle.model.specs.Rename.{renamed_record}
use Rattle.model.specs.Ledger.{Ledger, File, file_or, catalogue, updated_root, renamed_entry, renamed_file}
use Rattle.laws.proofs.Disk.{length-view}
use Rattle.laws.proofs.Entry.{renamed-occupied}
use Rattle.safety.proofs.Apply.{over-here, over_skip, over_none}
use Rattle.safety.proofs.Commit.{Ready}
use Rattle.safety.proofs.Frame.{Outside, Shows}
use Rattle.safety.proofs.Rep.{Rep, Timely, cat-is, catalogue-geometry}
use Rattle.safety.proofs.Preserved.{out-front, out-table, out-data, slot_in, entry-is, table-keep, bytes-keep-at, FreeIn, bytes-keep, entry-of, occupied, slot-within}
use Rattle.safety.proofs.Fields.{root-updated, renamed-entry, occupied-mark}
use Rattle.safety.proofs.Replaced.{replaced, table-by, disjoint-by, Admissible}
use Rattle.safety.proofs.Rewritten.{bytes_of, rep-replaced}
use Rattle.safety.proofs.Extents.{exactly}
use Rattle.safety.proofs.KeptFile.{size_small, admissible-id}

module _ (L : Ledger) (img : List ℕ) (rep : Rep L img) (i : ℕ) (f : File) (has : L.slots i ≡ some f) (root : Root) (same_id : root.id ≡ L.root.id) (x : Entry)
    (good : bad_name L.geometry.edition x.name ≡ false) (unused : (k : ℕ) → k < L.geometry.files → k ≢ i → has_name x.name ((catalogue L).entries k) ≡ false)
    (id : x.id ≡ f.entry.id) (size : x.size ≡ f.entry.size) where
  abbrev y : File
  y = record { entry = x; bytes = f.bytes; extents = f.extents }

  -- the ledger afterwards: all slots have the extents that they had
  abbrev M : Ledger
  M = replaced L root i (some (record { entry = x; bytes = f.bytes; extents = f.extents }))

  same-extents : (k : ℕ) → (file_or (M.slots k)).extents ≡ (file_or (L.slots k)).extents
  same-extents k = go (eqb k i) refl
    where
      go : (b : Bool) → eqb k i ≡ b → (file_or (cond b (some y) (L.slots k))).extents ≡ (file_or (L.slots k)).extents
      go true e = sym (ap (λ (n : ℕ). (file_or (L.slots n)).extents) (eqb-true k i e) ∙ ap (λ (o : Option File). (file_or o).extents) has)
      go false e = refl

  same-table : (e : ℕ) → (catalogue M).table e ≡ (catalogue L).table e
  same-table = table-by L M refl same-extents

  same-exact : (n : ℕ) → exact (catalogue M) i n ≡ exact (catalogue L) i n
  unfolding exact catalogue
  same-exact n =
      ap (λ (t : ℕ → Option Owner). all_below (λ o. eqb (count_below (λ e. is_part i o (t e)) L.geometry.extents) 1) n && all_below (λ e. not (owned_from i n (t e))) L.geometry.extents)
      (fun_ext same-table)

  admissible : Admissible L root i (some y)
  unfolding catalogue
  admissible =
      admissible-id L img rep i f has root same_id y good unused id
      (subst (λ (n : ℕ). n ≤ L.geometry.extents * extent_bytes L.geometry) (sym size) (size_small L img rep i f has))
      (λ t tn ti e. ap t (same-table e))
      (same-exact _ ∙ ap (λ (n : ℕ). exact (catalogue L) i (extents_for L.geometry n)) size
      ∙ exactly (catalogue L) rep.faultless i f.entry (slot-within L img rep i f has) (entry-of L img rep i f has))

  -- ---- on an image of which the root says so, and the entry's sector s, and that keeps all else but copies, which are staged in extents that
  -- catalogue c says are free

  module _ (c : Catalogue) (frees : FreeIn c L) (out : List ℕ) (ready : Ready L.geometry out) (s : List ℕ) (new-root : root_in L.geometry.edition (view out root_at) ≡ root)
      (at_entry_lem : view out (entry_at i) ≡ s) (occupies : is_occupied s ≡ true) (says : entry_in L.geometry.edition s ≡ x)
      (at_other : (j : ℕ) → Outside L.geometry c j → j ≢ 0 → j ≢ 1 → j ≢ entry_at i → view out j ≡ view img j) where
    here : i < L.geometry.files
    here = slot-within L img rep i f has

    entry_new : (catalogue_of (view out)).entries i ≡ some x
    entry_new =
        entry-is L.geometry (view out) (view out) ready.volume.geometry ready.volume.geometry i ∙ ap (λ (s : List ℕ). slot_in L.geometry s i) at_entry_lem
        ∙ (λ j. cond ((occupied L img rep i f has).0 j && occupies j) (some (says j)) none)

    mark-new : fault21 (view out) i ≡ false
    unfolding fault21
    mark-new = occupied-mark (view out (entry_at i)) (ap is_occupied at_entry_lem ∙ occupies)

    table-shown : (e : ℕ) → (catalogue_of (view out)).table e ≡ (catalogue L).table e
    table-shown e =
        let l : i < L.geometry.files = here in
        table-keep L.geometry (view img) (view out) rep.ready.volume.geometry ready.volume.geometry e
        (λ q. at_other (table_sector_of L.geometry e) (out-table L.geometry e q) (λ z. omega arith) (λ z. omega arith) (λ z. omega arith))
        ∙ rep.says.table e

    data-shown : (k : ℕ) (x : File) → L.slots k ≡ some x → (b : ℕ) → b < x.entry.size
        → view out (sector_of (catalogue L) k (b / 512)) ≡ view img (sector_of (catalogue L) k (b / 512))
    data-shown =
        let l : i < L.geometry.files = here in
        bytes-keep L img out rep c frees (λ j u v. at_other j (out-data L.geometry j u v) (λ z. omega arith) (λ z. omega arith) (λ z. omega arith))

    bytes-new : file_bytes (catalogue_of (view out)) (view out) i 0 f.entry.size ≡ f.bytes
    unfolding catalogue_of
    bytes-new =
        bytes_of (catalogue L) (catalogue_of (view out)) (view out) i 0 f.entry.size (ready.volume.geometry ∙ sym (catalogue-geometry L)) (λ o e. ap (is_part i o) (table-shown e))
        ∙ bytes-keep-at (catalogue L) (view img) (view out) i 0 f.entry.size (λ b l. rw zero-add (data-shown i f has b l))
        ∙ ap (λ (c : Catalogue). file_bytes c (view img) i 0 f.entry.size) (sym (cat-is L img rep)) ∙ rep.says.bytes i f has

    pub rep-rewritten : Rep (replaced L root i (some (record { entry = x; bytes = f.bytes; extents = f.extents }))) out
    rep-rewritten =
        let l : i < L.geometry.files = here in
        rep-replaced L img rep root i (some y) out (record {
          ready = ready;
          new-root = new-root;
          mark = mark-new;
          entry = entry_new;
          entries = λ k q ne. at_other (entry_at k) (out-front L.geometry (entry_at k) (omega arith)) (λ z. omega arith) (λ z. omega arith) (λ z. ne (omega arith));
          table = λ e. table-shown e ∙ sym (same-table e);
          bytes = λ z e. subst (λ (v : File). file_bytes (catalogue_of (view out)) (view out) i 0 v.entry.size ≡ v.bytes) (some-injective y z e)
              (ap (file_bytes (catalogue_of (view out)) (view out) i 0) size ∙ bytes-new);
          kept = λ k z ne e b q. data-shown k z e b q;
          admissible = admissible;
          disjoint = disjoint-by L M refl same-extents rep.disjoint;
          sized = λ z e. subst (λ (v : File). length v.extents ≡ extents_for L.geometry v.entry.size) (some-injective y z e)
              (rep.sized i f has ∙ ap (extents_for L.geometry) (sym size));
        })

-- ---- rename: root and entry

module _ (L : Ledger) (img : List ℕ) (rep : Rep L img) (i : ℕ) (f : File) (has : L.slots i ≡ some f) (name : List ℕ) (good : bad_name L.geometry.edition name ≡ false)
    (unused : (k : ℕ) → k < L.geometry.files → k ≢ i → has_name name ((catalogue L).entries k) ≡ false) (time : ℕ) (ht : Timely L time) where
  abbrev w1 : Record
  w1 = sector_write root_at (updated_root_sector L.geometry.edition time (view img root_at))

  abbrev w2 : Record
  w2 = renamed_record (catalogue L) (view img) i name time

  module _ (c : Catalogue) (frees : FreeIn c L) (out : List ℕ) (ready : Ready L.geometry out) (shows : Shows L.geometry c (w1 ∷ w2 ∷ []) img out) where
    front : (j : ℕ) → j < journal_at L.geometry → Outside L.geometry c j
    front = out-front L.geometry {c = c}

    at-root : view out root_at ≡ updated_root_sector L.geometry.edition time (view img root_at)
    unfolding renamed_record
    at-root = shows 1 (front 1 (omega arith)) (λ e. omega arith) ∙ over-here w1 (w2 ∷ []) _ ∙ over_skip w2 [] 1 _ (λ e. omega arith) ∙ over_none 1 _

    at_slot : view out (entry_at i) ≡ w2.contents
    unfolding renamed_record
    at_slot =
        let l : i < L.geometry.files = slot-within L img rep i f has in
        shows (entry_at i) (front (entry_at i) (omega arith)) (λ e. omega arith) ∙ over_skip w1 (w2 ∷ []) (entry_at i) _ (λ e. omega arith) ∙ over-here w2 [] _ ∙ over_none (entry_at i) _

    at_rest : (j : ℕ) → Outside L.geometry c j → j ≢ 0 → j ≢ 1 → j ≢ entry_at i → view out j ≡ view img j
    unfolding renamed_record
    at_rest j o n0 n1 ni = shows j o n0 ∙ over_skip w1 (w2 ∷ []) j _ n1 ∙ over_skip w2 [] j _ ni ∙ over_none j _

    pub rep-renamed : Rep (replaced L (updated_root time L.root) i (some (renamed_file name time f))) out
    unfolding updated_root renamed_entry renamed_record catalogue
    rep-renamed =
        let s = view img (entry_at i) in
        let was = occupied L img rep i f has in
        rep-rewritten L img rep i f has (updated_root time L.root) refl (renamed_entry name time f.entry) good unused refl refl c frees out ready w2.contents
        (ap (root_in L.geometry.edition) at-root ∙ root-updated L.geometry.edition time (view img root_at) (length-view img root_at) ht ∙ ap (updated_root time) rep.says.root)
        at_slot (renamed-occupied L.geometry.edition name time s ∙ was.1)
        (renamed-entry L.geometry.edition name time s (length-view img (entry_at i)) good ht ∙ ap (renamed_entry name time) was.2) at_rest
