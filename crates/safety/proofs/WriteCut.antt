-- A write that was cut before its start mark: the image represents the ledger in which the data sectors that landed hold their new bytes
-- up to the old size. Assumes nothing.
use Prim.Native.Nat.{ℕ, ◌+◌, ◌-◌, ◌/◌, ◌%◌, ◌≤◌, ◌<◌}
use mathlib.Core.Path.{◌≡◌, refl, sym, ap, ◌∙◌, subst}
use mathlib.Core.Logic.{◌≢◌}
use mathlib.Core.Bool.{Bool, true, false, cond, ◌&&◌}
use mathlib.Core.List.{List}
use mathlib.Core.Option.{some, some-injective}
use native.Mathlib.Omega.{arith}
use lib.Dec.{leb, ltb}
use lib.ListN.{length, get_or}
use lib.Seq.{ext_get_or}
use borrow.Author.Tests.{leb-true, ltb-true}
use Rattle.model.specs.Search.{tabulate}
use Rattle.model.specs.Geometry.{extent_sectors, entry_at, data_at, extents_for}
use Rattle.model.specs.Disk.{view}
use Rattle.model.specs.Root.{root_in}
use Rattle.model.specs.Table.{table_sector_of}
use Rattle.model.specs.Catalogue.{catalogue_of, lacks_reserve, is_part, entry_of, sector_of, file_byte, file_bytes}
use Rattle.model.specs.WriteList.{Plan, Group, stored, over}
use Rattle.model.specs.Write.{file_sector_at, data_sector, touched_sectors, write_plan}
use Rattle.model.specs.Cut.{data_by}
use Rattle.model.specs.Ledger.{Ledger, File, catalogue, with_file, partly_written}
use Rattle.laws.proofs.Booleans.{and_left, and_right}
use Rattle.laws.proofs.Search.{length-tabulate, get_or-tab0}
use Rattle.safety.proofs.Plan.{UsableGeometry, A}
use Rattle.safety.proofs.Commit.{Ready, part_of, ready-part}
use Rattle.safety.proofs.Frame.{Outside, part_at}
use Rattle.safety.proofs.Rep.{Rep, rep-geometry, bytes-length, no-mark-fault}
use Rattle.safety.proofs.Preserved.{out-front, out-table, out-data, entries-keep, table-keep, marks-keep, free-said, sector-data, entry-of}
use Rattle.safety.proofs.Rewritten.{bytes_of, rep-replaced}
use Rattle.safety.proofs.Extents.{sector-held}
use Rattle.safety.proofs.WriteLedger.{size_written, Writable, within, size_is, part_file, table-part, disjoint-part, admissible-part}
use Rattle.safety.proofs.Spliced.{part-miss}
use Rattle.safety.proofs.WritePlaces.{writes, writes-miss, low-miss, place-data, place-unstaged, place_other, sector-old, byte-landed}
use Rattle.safety.proofs.WriteDone.{fits}

module _ (L : Ledger) (img : List ℕ) (rep : Rep L img) (i : ℕ) (f : File) (offset : ℕ) (bytes : List ℕ) (w : Writable L i f offset bytes)
    (there : lacks_reserve (catalogue L) ≡ false) (time k : ℕ) (m : List Bool) where
  abbrev p : Plan
  p = write_plan (catalogue L) i (view img) offset bytes time

  abbrev ds : Group
  ds = writes L img i offset bytes

  -- of each data sector, whether it landed
  abbrev mask : List Bool
  mask = tabulate (data_by k m) 0 (length (write_plan (catalogue L) i (view img) offset bytes time).data_sectors)

  abbrev out : List ℕ
  out = stored (part_of k m (A L.geometry (view img) p)) img

  geo : UsableGeometry L.geometry
  geo = rep-geometry L img rep

  -- ---- the sectors of the image

  ready : Ready L.geometry out
  ready = ready-part L.geometry img p geo (fits L img rep i f offset bytes w there time) rep.ready k m

  shows : (j : ℕ) → Outside L.geometry (catalogue_of (view img)) j → view out j ≡ over (part_of k m ds) j (view img j)
  unfolding write_plan
  shows j o = part_at L.geometry img p geo (fits L img rep i f offset bytes w there time) rep.ready k m j o

  at_low : (j : ℕ) → Outside L.geometry (catalogue_of (view img)) j → j < data_at L.geometry → view out j ≡ view img j
  at_low j o l = shows j o ∙ part-miss k m ds j (view img j) (low-miss L img rep i f offset bytes w j l)

  table_same : (e : ℕ) → (catalogue_of (view out)).table e ≡ (catalogue L).table e
  table_same e =
      table-keep L.geometry (view img) (view out) rep.ready.volume.geometry ready.volume.geometry e
      (λ q. at_low (table_sector_of L.geometry e) (out-table L.geometry e q) (omega arith)) ∙ rep.says.table e

  kept : (j : ℕ) (v : File) → j ≢ i → L.slots j ≡ some v → (q : ℕ) → q < v.entry.size
      → view out (sector_of (catalogue L) j (q / 512)) ≡ view img (sector_of (catalogue L) j (q / 512))
  unfolding catalogue
  kept j v ne has q l =
      let u = sector-data L img rep (catalogue_of (view img)) (free-said L img rep) j v has q l in
      shows (sector_of (catalogue L) j (q / 512)) (out-data L.geometry (sector_of (catalogue L) j (q / 512)) u.0 u.1)
      ∙ part-miss k m ds (sector_of (catalogue L) j (q / 512)) _
      (writes-miss L img rep i f offset bytes w (sector_of (catalogue L) j (q / 512)) (λ s h. place_other L img rep i f offset bytes w j v (q / 512) s ne has (omega arith) h))

  -- ---- the bytes

  abbrev inside : ℕ → Bool
  inside q = leb offset q && ltb q (offset + length bytes)

  masked : (q : ℕ) → (inside q && get_or mask (q / 512 - offset / 512) false) ≡ (inside q && data_by k m (q / 512 - offset / 512))
  unfolding write_plan
  masked q = go (inside q) refl
    where
      go : (t : Bool) → inside q ≡ t → (t && get_or mask (q / 512 - offset / 512) false) ≡ (t && data_by k m (q / 512 - offset / 512))
      go true e =
          let u : offset ≤ q = leb-true offset q (and_left (leb offset q) (ltb q (offset + length bytes)) e) in
          let v : q < offset + length bytes = ltb-true q (offset + length bytes) (and_right (leb offset q) (ltb q (offset + length bytes)) e) in
          let c : length p.data_sectors ≡ touched_sectors offset (length bytes) = length-tabulate (data_sector (catalogue L) i (view img) offset bytes) (offset / 512)
          (touched_sectors offset (length bytes)) in
          get_or-tab0 (data_by k m) (length p.data_sectors) (q / 512 - offset / 512) false (omega arith)
      go false e = refl

  abbrev y : File
  y = part_file f (partly_written f offset bytes (tabulate (data_by k m) 0 (length (write_plan (catalogue L) i (view img) offset bytes time).data_sectors)))

  byte-part : (q : ℕ) → q < f.entry.size
      → file_byte (catalogue L) (view out) i q ≡ cond (inside q && get_or mask (q / 512 - offset / 512) false) (get_or bytes (q - offset) 0) (get_or f.bytes q 0)
  unfolding file_byte
  byte-part q l =
      let s : (entry_of (catalogue L) i).size ≡ f.entry.size = size_is L img rep i f offset bytes w in
      let c : length f.extents ≡ extents_for L.geometry f.entry.size = rep.sized i f w.has in
      let h : q / 512 / extent_sectors L.geometry < extents_for L.geometry f.entry.size = sector-held L.geometry rep.bounded f.entry.size (q / 512) (omega arith) in
      let g : q / 512 / extent_sectors L.geometry < extents_for L.geometry (size_written L i offset bytes) =
      sector-held L.geometry rep.bounded (size_written L i offset bytes) (q / 512) (omega arith) in
      let u = place-data L img rep i f offset bytes w (q / 512) g in
      let v = place-unstaged L img rep i f offset bytes w there (q / 512) g in
      ap (λ j. get_or (view out j) (q % 512) 0) (sector-old L img rep i f offset bytes w (q / 512) (omega arith))
      ∙ ap (λ (v : List ℕ). get_or v (q % 512) 0) (shows (file_sector_at (catalogue L) i (q / 512)) (out-data L.geometry (file_sector_at (catalogue L) i (q / 512)) u.0 v))
      ∙ byte-landed L img rep i f offset bytes w k m q (omega arith) (λ e. l)
      ∙ sym (ap (λ (t : Bool). cond t (get_or bytes (q - offset) 0) (get_or f.bytes q 0)) (masked q))

  bytes-part : file_bytes (catalogue_of (view out)) (view out) i 0 f.entry.size ≡ y.bytes
  unfolding file_bytes catalogue_of catalogue partly_written
  bytes-part =
      let c : length f.bytes ≡ f.entry.size = bytes-length L img rep i f w.has in
      bytes_of (catalogue L) (catalogue_of (view out)) (view out) i 0 f.entry.size ready.volume.geometry (λ o e. ap (is_part i o) (table_same e))
      ∙ ext_get_or 0 (file_bytes (catalogue L) (view out) i 0 f.entry.size) y.bytes
      (length-tabulate (file_byte (catalogue L) (view out) i) 0 f.entry.size ∙ sym (length-tabulate landed 0 (length f.bytes) ∙ c))
      (λ q l. let h : q < f.entry.size = rw (length-tabulate (file_byte (catalogue L) (view out) i) 0 f.entry.size) at l in
      get_or-tab0 (file_byte (catalogue L) (view out) i) f.entry.size q 0 h ∙ byte-part q h ∙ sym (get_or-tab0 landed (length f.bytes) q 0 (omega arith)))
    where
      landed : ℕ → ℕ
      landed q = cond (inside q && get_or mask (q / 512 - offset / 512) false) (get_or bytes (q - offset) 0) (get_or f.bytes q 0)

  -- ---- the image represents the ledger afterwards

  pub partly : Rep (with_file L i y) (stored (part_of k m (A L.geometry (view img) p)) img)
  unfolding catalogue
  partly =
      let l : i < L.geometry.files = within L img rep i f offset bytes w in
      rep-replaced L img rep L.root i (some y) out (record {
        ready = ready;
        new-root = ap (root_in L.geometry.edition) (at_low 1 (out-front L.geometry 1 (omega arith)) (omega arith)) ∙ rep.says.root;
        mark = marks-keep (view img) (view out) i (at_low (entry_at i) (out-front L.geometry (entry_at i) (omega arith)) (omega arith)) ∙ no-mark-fault L img rep.says i l;
        entry = entries-keep L.geometry (view img) (view out) rep.ready.volume.geometry ready.volume.geometry i
            (λ q. at_low (entry_at i) (out-front L.geometry (entry_at i) (omega arith)) (omega arith)) ∙ rep.says.directory i ∙ entry-of L img rep i f w.has;
        entries = λ j q ne. at_low (entry_at j) (out-front L.geometry (entry_at j) (omega arith)) (omega arith);
        table = λ e. table_same e ∙ sym (table-part L img rep i f offset bytes w _ e);
        bytes = λ v e. subst (λ (u : File). file_bytes (catalogue_of (view out)) (view out) i 0 u.entry.size ≡ u.bytes) (some-injective y v e) bytes-part;
        kept = kept;
        sized = λ v e. subst (λ (u : File). length u.extents ≡ extents_for L.geometry u.entry.size) (some-injective y v e) (rep.sized i f w.has);
        admissible = admissible-part L img rep i f offset bytes w _;
        disjoint = disjoint-part L img rep i f offset bytes w _;
      })
