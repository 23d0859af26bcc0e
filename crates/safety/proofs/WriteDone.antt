-- A write's plan is well-formed, and carried out whole it leaves an image that represents the ledger in which file i has the bytes put
-- in. Assumes nothing.
use Prim.Native.Nat.{ℕ, suc, ◌+◌, ◌-◌, ◌/◌, ◌%◌, ◌≤◌, ◌<◌}
use mathlib.Core.Path.{◌≡◌, refl, sym, ap, ap₂, ◌∙◌, subst}
use mathlib.Core.Logic.{◌≢◌}
use mathlib.Core.Bool.{Bool, true, false, cond, ◌&&◌, true≢false}
use mathlib.Core.List.{List, [], ◌∷◌, ◌++◌}
use mathlib.Core.Option.{some, some-injective}
use native.Mathlib.Omega.{arith}
use native.Mathlib.Decide.{dec_lt}
use native.Mathlib.Nat.{zero-add}
use lib.Dec.{eqb, leb, ltb}
use lib.ListN.{length, get_or}
use lib.Seq.{ext_get_or}
use borrow.Author.Tests.{eqb-true, eqb-false, eq-eqb, ne_eqb}
use Rattle.model.specs.Bytes.{bytes_from}
use Rattle.model.specs.Geometry.{extent_sectors, entry_at, journal_at, data_at, table_sectors, most_targets, extents_for}
use Rattle.model.specs.Disk.{view}
use Rattle.model.specs.Root.{root_in}
use Rattle.model.specs.Entry.{updated_entry_sector}
use Rattle.model.specs.Table.{table_sector_of, taken_in}
use Rattle.model.specs.Catalogue.{catalogue_of, lacks_reserve, is_part, entry_of, sector_of, file_byte, file_bytes}
use Rattle.model.specs.WriteList.{Plan, Record, Group, sector_write, over}
use Rattle.model.specs.Write.{held_extents, file_sector_at, data_sector, touched_sectors, write_plan}
use Rattle.model.specs.Ledger.{Ledger, File, catalogue, with_file, updated_entry, written}
use Rattle.laws.proofs.Booleans.{range-yes}
use Rattle.laws.proofs.Bytes.{length-put, length-bytes_from, get_or-put, get_or-bytes_from}
use Rattle.laws.proofs.Search.{length-tabulate, get_or-tab0}
use Rattle.laws.proofs.Disk.{length-view}
use Rattle.safety.proofs.Apply.{over-append, over-here, over_skip, over-miss, All}
use Rattle.safety.proofs.Journal.{Rising}
use Rattle.safety.proofs.Plan.{UsableGeometry, WellFormed, Unstaged, Metadata, Whole, metadata-directory, metadata-table}
use Rattle.safety.proofs.Commit.{Ready, uncut, ready-uncut}
use Rattle.safety.proofs.Frame.{Outside, Shows, done-shows}
use Rattle.safety.proofs.Bounds.{copies-fit, count-waits}
use Rattle.safety.proofs.Rep.{Rep, Timely, cat-is, disk-geometry, rep-geometry}
use Rattle.safety.proofs.Preserved.{out-front, out-table, out-data, free-said, sector-data}
use Rattle.safety.proofs.Fields.{length-updated_entry_sector}
use Rattle.safety.proofs.Replaced.{replaced}
use Rattle.safety.proofs.Rewritten.{bytes_of, rep-replaced}
use Rattle.safety.proofs.KeptFile.{size_small, entry-updated, mark-updated}
use Rattle.safety.proofs.Extents.{extents-le, sector-held}
use Rattle.safety.proofs.TakenTable.{length-taken_in, table-changed}
use Rattle.safety.proofs.WriteLedger.{size_written, takes_one, next_extent, Writable, within, size_is, held-is, taken, size-bounded, written_file, written_is, sized-written, table-written}
use Rattle.safety.proofs.WriteLedger.{disjoint-written, admissible-written}
use Rattle.safety.proofs.WritePlaces.{writes, writes-data, writes-unstaged, writes-whole, writes-miss, low-miss, place-data, place-unstaged, place_other, sector-new, byte-landed, writes-own}

module _ (L : Ledger) (img : List ℕ) (rep : Rep L img) (i : ℕ) (f : File) (offset : ℕ) (bytes : List ℕ) (w : Writable L i f offset bytes)
    (there : lacks_reserve (catalogue L) ≡ false) (time : ℕ) where
  abbrev z : ℕ
  z = size_written L i offset bytes

  abbrev b : Bool
  b = takes_one L i offset bytes

  abbrev x : ℕ
  x = next_extent L

  abbrev plan : Plan
  plan = write_plan (catalogue L) i (view img) offset bytes time

  abbrev ds : Group
  ds = writes L img i offset bytes

  -- the targets: the entry, and the table sector if an extent is taken
  abbrev w1 : Record
  w1 = sector_write (entry_at i) (updated_entry_sector L.geometry.edition z time (view img (entry_at i)))

  abbrev w2 : Record
  w2 = sector_write (table_sector_of L.geometry x) (taken_in x i (held_extents (catalogue L) i) (view img (table_sector_of L.geometry x)))

  here : i < L.geometry.files
  here = within L img rep i f offset bytes w

  geo : UsableGeometry L.geometry
  geo = rep-geometry L img rep

  tabled : b ≡ true → x / 128 < table_sectors L.geometry
  tabled t = let q : x < L.geometry.extents = (taken L img rep i f offset bytes w t).0 in omega arith

  -- ---- the plan

  pub fits : WellFormed L.geometry (view img) plan
  unfolding write_plan catalogue
  fits =
      let l : i < L.geometry.files = here in
      record {
        geometry = disk-geometry L img rep;
        there = ap lacks_reserve (cat-is L img rep) ∙ there;
        nonempty = omega arith;
        few = copies-fit L.geometry rep.bounded _ (few b);
        journalled = count-waits L.geometry rep.bounded _ (few b);
        metadata = (metadata-directory L.geometry (entry_at i) (omega arith) (omega arith), metadata b refl);
        rising = (omega arith, rising b);
        in_data = writes-data L img rep i f offset bytes w;
        unstaged = writes-unstaged L img rep i f offset bytes w there;
        own = writes-own L img rep i f offset bytes w;
        short =
            let n : length (writes L img i offset bytes) ≡ touched_sectors offset (length bytes) =
            length-tabulate (data_sector (catalogue L) i (view img) offset bytes) (offset / 512) (touched_sectors offset (length bytes)) in
            omega (arith, w.short);
        whole_data = writes-whole L img rep i f offset bytes w;
        whole_targets = (length-updated_entry_sector L.geometry.edition z time (view img (entry_at i)) ∙ length-view img (entry_at i), whole b);
      }
    where
      few : (t : Bool) → length (w1 ∷ cond t (w2 ∷ []) []) ≤ most_targets L.geometry
      few true = omega arith
      few false = omega arith

      metadata : (t : Bool) → b ≡ t → All (Metadata L.geometry) (cond t (w2 ∷ []) [])
      metadata true e = let q : x / 128 < table_sectors L.geometry = tabled e in (metadata-table L.geometry (table_sector_of L.geometry x) (omega arith) (omega arith), tt)
      metadata false e = tt

      rising : (t : Bool) → Rising (suc (entry_at i)) (cond t (w2 ∷ []) [])
      rising true = let l : i < L.geometry.files = here in (omega arith, tt)
      rising false = tt

      whole : (t : Bool) → All Whole (cond t (w2 ∷ []) [])
      whole true = (length-taken_in x i (held_extents (catalogue L) i) (view img (table_sector_of L.geometry x)) ∙ length-view img (table_sector_of L.geometry x), tt)
      whole false = tt

  -- ---- the sectors of the new image

  module _ (out : List ℕ) (ready : Ready L.geometry out) (shows : Shows L.geometry (catalogue_of (view img)) (ds ++ (w1 ∷ cond b (w2 ∷ []) [])) img out) where
    shown : (j : ℕ) → Outside L.geometry (catalogue_of (view img)) j → j ≢ 0 → view out j ≡ over (w1 ∷ cond b (w2 ∷ []) []) j (over ds j (view img j))
    shown j o ne = shows j o ne ∙ over-append ds (w1 ∷ cond b (w2 ∷ []) []) j (view img j)

    -- the table sector's record, if there is one
    over-table : (t : Bool) (j : ℕ) (v : List ℕ) → over (cond t (w2 ∷ []) []) j v ≡ cond (t && eqb j (table_sector_of L.geometry x)) w2.contents v
    unfolding over
    over-table true j v = refl
    over-table false j v = refl

    table-skip : (j : ℕ) (v : List ℕ) → (b ≡ true → j ≢ table_sector_of L.geometry x) → over (cond b (w2 ∷ []) []) j v ≡ v
    table-skip j v h = over-table b j v ∙ go b refl
      where
        go : (t : Bool) → b ≡ t → cond (t && eqb j (table_sector_of L.geometry x)) w2.contents v ≡ v
        go true e = ap (λ (q : Bool). cond q w2.contents v) (ne_eqb j (table_sector_of L.geometry x) (h e))
        go false e = refl

    at_low : (j : ℕ) → Outside L.geometry (catalogue_of (view img)) j → j ≢ 0 → j < data_at L.geometry → view out j ≡ over (w1 ∷ cond b (w2 ∷ []) []) j (view img j)
    at_low j o ne l = shown j o ne ∙ ap (over (w1 ∷ cond b (w2 ∷ []) []) j) (over-miss ds j (view img j) (low-miss L img rep i f offset bytes w j l))

    at_entry : view out (entry_at i) ≡ updated_entry_sector L.geometry.edition z time (view img (entry_at i))
    at_entry =
        let l : i < L.geometry.files = here in
        at_low (entry_at i) (out-front L.geometry (entry_at i) (omega arith)) (λ e. omega arith) (omega arith)
        ∙ over-here w1 (cond b (w2 ∷ []) []) _ ∙ table-skip (entry_at i) _ (λ t e. omega arith)

    at_front : (j : ℕ) → j < journal_at L.geometry → j ≢ 0 → j ≢ entry_at i → view out j ≡ view img j
    at_front j l n0 ni =
        at_low j (out-front L.geometry j l) n0 (omega arith) ∙ over_skip w1 (cond b (w2 ∷ []) []) j _ ni ∙ table-skip j _ (λ t e. omega arith)

    at-data : (j : ℕ) → data_at L.geometry ≤ j → Unstaged L.geometry (catalogue_of (view img)) j → view out j ≡ over ds j (view img j)
    at-data j u v =
        let l : i < L.geometry.files = here in
        shown j (out-data L.geometry j u v) (λ e. omega arith) ∙ over_skip w1 (cond b (w2 ∷ []) []) j _ (λ e. omega arith)
        ∙ table-skip j _ (λ t e. let q : x / 128 < table_sectors L.geometry = tabled t in omega arith)

    at_table : (e : ℕ) → e < L.geometry.extents
        → view out (table_sector_of L.geometry e)
        ≡ cond (b && eqb (e / 128) (x / 128)) (taken_in x i (length f.extents) (view img (table_sector_of L.geometry x))) (view img (table_sector_of L.geometry e))
    at_table e l =
        let m : i < L.geometry.files = here in
        at_low (table_sector_of L.geometry e) (out-table L.geometry e l) (λ q. omega arith) (omega arith)
        ∙ over_skip w1 (cond b (w2 ∷ []) []) (table_sector_of L.geometry e) _ (λ q. omega arith) ∙ over-table b (table_sector_of L.geometry e) _
        ∙ ap₂ (λ (q : Bool) (m : ℕ). cond (b && q) (taken_in x i m (view img (table_sector_of L.geometry x))) (view img (table_sector_of L.geometry e))) same (held-is L img rep i f offset bytes w)
      where
        same : eqb (table_sector_of L.geometry e) (table_sector_of L.geometry x) ≡ eqb (e / 128) (x / 128)
        same = go (eqb (e / 128) (x / 128)) refl
          where
            go : (t : Bool) → eqb (e / 128) (x / 128) ≡ t → eqb (table_sector_of L.geometry e) (table_sector_of L.geometry x) ≡ eqb (e / 128) (x / 128)
            go true q = eq-eqb (table_sector_of L.geometry e) (table_sector_of L.geometry x) (let u : e / 128 ≡ x / 128 = eqb-true (e / 128) (x / 128) q in omega arith) ∙ sym q
            go false q = ne_eqb (table_sector_of L.geometry e) (table_sector_of L.geometry x) (λ r. eqb-false (e / 128) (x / 128) q (omega arith)) ∙ sym q

    -- ---- what it says

    abbrev y : File
    y = written_file L i f offset bytes time

    few-extents : length f.extents < 65536
    few-extents =
        let h : length f.extents ≤ L.geometry.extents = subst (λ (m : ℕ). m ≤ L.geometry.extents) (sym (rep.sized i f w.has))
        (extents-le L.geometry rep.bounded f.entry.size L.geometry.extents (size_small L img rep i f w.has)) in
        omega (arith, rep.bounded.extents-high)

    table-new : (e : ℕ) → (catalogue_of (view out)).table e ≡ (catalogue (replaced L L.root i (some y))).table e
    table-new e =
        let l : i < L.geometry.files = here in
        table-changed L img out rep ready.volume.geometry b x i (length f.extents) (λ t. (taken L img rep i f offset bytes w t).0)
        (omega (arith, rep.bounded.files-high)) few-extents at_table e
        ∙ sym (table-written L img rep i f offset bytes w time e)

    -- ---- the bytes

    all-landed : (t : Bool) → (t && true) ≡ t
    all-landed true = refl
    all-landed false = refl

    abbrev inside : ℕ → Bool
    inside q = leb offset q && ltb q (offset + length bytes)

    -- what the span misses is a byte of the old file
    old-part : (q : ℕ) → q < z → (inside q && true) ≡ false → q < f.entry.size
    old-part q l e = go (dec_lt q f.entry.size)
      where
        go : Dec (q < f.entry.size) → q < f.entry.size
        go (yes h) = h
        go (no h) =
            let s : (entry_of (catalogue L) i).size ≡ f.entry.size = size_is L img rep i f offset bytes w in
            let o : offset ≤ f.entry.size = w.start in
            absurd (true≢false (sym (range-yes offset (offset + length bytes) q (omega arith) (omega arith)) ∙ sym (all-landed (inside q)) ∙ e))

    new-byte : (q : ℕ) → q < z → get_or y.bytes q 0 ≡ cond (inside q && true) (get_or bytes (q - offset) 0) (get_or f.bytes q 0)
    new-byte q l =
        get_or-put (bytes_from f.bytes 0 z) offset bytes q (rw (length-bytes_from f.bytes 0 z) l)
        ∙ ap₂ (λ (t : Bool) (v : ℕ). cond t (get_or bytes (q - offset) 0) v) (sym (all-landed (inside q))) (get_or-bytes_from f.bytes 0 z q l ∙ ap (λ k. get_or f.bytes k 0) (zero-add q))

    abbrev M : Ledger
    M = replaced L L.root i (some (written_file L i f offset bytes time))

    byte-new : (q : ℕ) → q < z → file_byte (catalogue M) (view out) i q ≡ get_or y.bytes q 0
    unfolding file_byte
    byte-new q l =
        let h : q / 512 / extent_sectors L.geometry < extents_for L.geometry z = sector-held L.geometry rep.bounded z (q / 512) (omega arith) in
        let u = place-data L img rep i f offset bytes w (q / 512) h in
        ap (λ k. get_or (view out k) (q % 512) 0) (sector-new L img rep i f offset bytes w time (q / 512) h)
        ∙ ap (λ (v : List ℕ). get_or v (q % 512) 0) (at-data (file_sector_at (catalogue L) i (q / 512)) u.0 (place-unstaged L img rep i f offset bytes w there (q / 512) h))
        ∙ byte-landed L img rep i f offset bytes w 1 [] q l (old-part q l) ∙ sym (new-byte q l)

    bytes-new : file_bytes (catalogue_of (view out)) (view out) i 0 z ≡ y.bytes
    unfolding file_bytes catalogue_of catalogue
    bytes-new =
        bytes_of (catalogue M) (catalogue_of (view out)) (view out) i 0 z ready.volume.geometry (λ o e. ap (is_part i o) (table-new e))
        ∙ ext_get_or 0 (file_bytes (catalogue M) (view out) i 0 z) y.bytes
        (length-tabulate (file_byte (catalogue M) (view out) i) 0 z ∙ sym (length-put (bytes_from f.bytes 0 z) offset bytes ∙ length-bytes_from f.bytes 0 z))
        (λ q l. let h : q < z = rw (length-tabulate (file_byte (catalogue M) (view out) i) 0 z) at l in get_or-tab0 (file_byte (catalogue M) (view out) i) z q 0 h ∙ byte-new q h)

    -- other files' sectors
    kept : (k : ℕ) (v : File) → k ≢ i → L.slots k ≡ some v → (q : ℕ) → q < v.entry.size
        → view out (sector_of (catalogue L) k (q / 512)) ≡ view img (sector_of (catalogue L) k (q / 512))
    unfolding catalogue
    kept k v ne has q l =
        let u = sector-data L img rep (catalogue_of (view img)) (free-said L img rep) k v has q l in
        at-data (sector_of (catalogue L) k (q / 512)) u.0 u.1
        ∙ over-miss ds (sector_of (catalogue L) k (q / 512)) _
        (writes-miss L img rep i f offset bytes w (sector_of (catalogue L) k (q / 512)) (λ s h. place_other L img rep i f offset bytes w k v (q / 512) s ne has (omega arith) h))

    -- ---- the image represents the ledger afterwards

    shown-done : Timely L time → Rep (with_file L i (written L i offset bytes time)) out
    unfolding updated_entry
    shown-done ht =
        subst (λ (v : File). Rep (with_file L i v) out) (sym (written_is L img rep i f offset bytes w time))
        (rep-replaced L img rep L.root i (some y) out (record {
          ready = ready;
          new-root = ap (root_in L.geometry.edition) (at_front 1 (omega arith) (λ e. omega arith) (λ e. omega arith)) ∙ rep.says.root;
          mark = mark-updated L img rep i f w.has z time out ready.volume.geometry at_entry;
          entry = entry-updated L img rep i f w.has z time out ready.volume.geometry at_entry (size-bounded L img rep i f offset bytes w) ht;
          entries = λ k l ne. at_front (entry_at k) (omega arith) (λ e. omega arith) (λ e. ne (omega arith));
          table = table-new;
          bytes = λ v e. subst (λ (u : File). file_bytes (catalogue_of (view out)) (view out) i 0 u.entry.size ≡ u.bytes) (some-injective y v e) bytes-new;
          kept = kept;
          sized = λ v e. subst (λ (u : File). length u.extents ≡ extents_for L.geometry u.entry.size) (some-injective y v e) (sized-written L img rep i f offset bytes w time);
          admissible = admissible-written L img rep i f offset bytes w time;
          disjoint = disjoint-written L img rep i f offset bytes w time;
        }))

  pub done : Timely L time → Rep (with_file L i (written L i offset bytes time)) (uncut L.geometry img plan)
  unfolding write_plan catalogue
  done ht = shown-done (uncut L.geometry img plan) (ready-uncut L.geometry img plan geo fits rep.ready) (done-shows L.geometry img plan geo fits rep.ready) ht
