-- What is preserved where sectors are: the catalogue slot by slot, files' bytes, entry marks, and the whole invariant. So a plan
-- without data sectors that was cut before its start mark changes nothing that is said. Assumes nothing.
use Prim.Native.Nat.{ℕ, zero, suc, ◌+◌, ◌*◌, ◌-◌, ◌/◌, ◌%◌, ◌≤◌, ◌<◌}
use mathlib.Core.Path.{◌≡◌, refl, sym, ap, ap₂, ◌∙◌, fun_ext}
use mathlib.Core.Logic.{◌≢◌}
use mathlib.Core.Bool.{Bool, true, false, cond, not, ◌&&◌, ◌||◌}
use mathlib.Core.List.{List, []}
use mathlib.Core.Option.{Option, none, some, some-injective, none-ne-some}
use native.Mathlib.Omega.{arith}
use native.Mathlib.Nat.{zero-add, div-add-mod}
use lib.Dec.{eqb, ltb}
use lib.ListN.{length, get_or, length-drop}
use borrow.Author.Tests.{ltb-true}
use Rattle.model.specs.declared.Geometry.{Geometry}
use Rattle.model.specs.Bytes.{number_in}
use Rattle.model.specs.Geometry.{superblock_at, extent_sectors, most_targets, reserve_extents, entry_at, journal_at, data_at, extents_for}
use Rattle.model.specs.Disk.{Disk, view}
use Rattle.model.specs.WriteList.{stored, Plan, Group, over}
use Rattle.model.specs.Superblock.{geometry_in}
use Rattle.model.specs.Root.{root_in}
use Rattle.model.specs.Entry.{entry_field, free_mark, Entry, entry_in, is_occupied}
use Rattle.model.specs.Table.{free_file, table_field, table_entry_start, table_sector_of, table_file, table_offset}
use Rattle.model.specs.Catalogue.{Catalogue, Owner, catalogue_of, is_free, free_extents, lacks_reserve, staging_extents, extent_of, sector_of, file_byte, file_bytes}
use Rattle.model.specs.Faults.{fault21}
use Rattle.model.specs.Ledger.{Ledger, File, entry_of_file, catalogue}
use Rattle.laws.proofs.Search.{tabulate-ext}
use Rattle.laws.proofs.Staging.{free, free-rises, staging-at, InExtent, one-extent}
use Rattle.safety.proofs.Apply.{over_none, kept-nil, All}
use Rattle.safety.proofs.Journal.{Rising}
use Rattle.safety.proofs.Plan.{Metadata, Whole, Unstaged, WellFormed, A}
use Rattle.safety.proofs.Commit.{Ready, part_of, ready-part}
use Rattle.safety.proofs.Frame.{Outside, part_at}
use Rattle.safety.proofs.Bounds.{copies-fit, count-waits}
use Rattle.safety.proofs.Rep.{Rep, says_of, cat-is, disk-geometry, rep-geometry, no-mark-fault}
use Rattle.safety.proofs.Extents.{owner, free-unowned, extent-owned, sector-held, rest_lt}

-- ---- areas lie outside journal and staging extents

module _ (g : Geometry) {c : Catalogue} where
  pub out-front : (j : ℕ) → j < journal_at g → Outside g c j
  out-front j h = record { journal = λ a b. omega arith; reserve = λ k l s. omega (arith, s.0) }

  pub out-table : (e : ℕ) → e < g.extents → Outside g c (table_sector_of g e)
  out-table e h = record { journal = λ a b. omega arith; reserve = λ k l s. omega (arith, s.0) }

  pub out-data : (j : ℕ) → data_at g ≤ j → Unstaged g c j → Outside g c j
  out-data j h u = record { journal = λ a b. omega arith; reserve = u }

-- ---- the catalogue, slot by slot

abbrev pub slot_in : Geometry → List ℕ → ℕ → Option Entry
slot_in g s i = cond (ltb i g.files && is_occupied s) (some (entry_in g.edition s)) none

abbrev pub owner_by : Bool → ℕ → ℕ → Option Owner
owner_by b f o = cond (b && not (eqb f free_file)) (some (record { file = f; offset = o })) none

abbrev owner_in : Geometry → ℕ → ℕ → ℕ → Option Owner
owner_in g f o e = owner_by (ltb e g.extents) f o

file-keep : (g : Geometry) (d d' : Disk) (e : ℕ) → d' (table_sector_of g e) ≡ d (table_sector_of g e) → table_file g d' e ≡ table_file g d e
unfolding table_file
file-keep g d d' e h = ap (λ (s : List ℕ). number_in s (table_field (table_entry_start e)).file) h

offset-keep : (g : Geometry) (d d' : Disk) (e : ℕ) → d' (table_sector_of g e) ≡ d (table_sector_of g e) → table_offset g d' e ≡ table_offset g d e
unfolding table_offset
offset-keep g d d' e h = ap (λ (s : List ℕ). number_in s (table_field (table_entry_start e)).offset) h

module _ (g : Geometry) (d d' : Disk) (eg : geometry_in (d superblock_at) ≡ g) (eg' : geometry_in (d' superblock_at) ≡ g) where
  pub entry-is : (i : ℕ) → (catalogue_of d).entries i ≡ slot_in g (d (entry_at i)) i
  unfolding catalogue_of
  entry-is i = ap (λ (x : Geometry). slot_in x (d (entry_at i)) i) eg

  pub owner-is : (e : ℕ) → (catalogue_of d).table e ≡ owner_by (ltb e g.extents) (table_file g d e) (table_offset g d e)
  unfolding catalogue_of
  owner-is e = ap (λ (x : Geometry). owner_in x (table_file x d e) (table_offset x d e) e) eg

  pub entries-keep : (i : ℕ) → (i < g.files → d' (entry_at i) ≡ d (entry_at i)) → (catalogue_of d').entries i ≡ (catalogue_of d).entries i
  unfolding catalogue_of
  entries-keep i h =
      ap (λ (x : Geometry). slot_in x (d' (entry_at i)) i) eg' ∙ go (ltb i g.files) refl ∙ sym (ap (λ (x : Geometry). slot_in x (d (entry_at i)) i) eg)
    where
      go : (b : Bool) → ltb i g.files ≡ b
          → cond (b && is_occupied (d' (entry_at i))) (some (entry_in g.edition (d' (entry_at i)))) none
          ≡ cond (b && is_occupied (d (entry_at i))) (some (entry_in g.edition (d (entry_at i)))) none
      go true e = ap (λ (s : List ℕ). cond (is_occupied s) (some (entry_in g.edition s)) none) (h (ltb-true i g.files e))
      go false e = refl

  pub table-keep : (e : ℕ) → (e < g.extents → d' (table_sector_of g e) ≡ d (table_sector_of g e)) → (catalogue_of d').table e ≡ (catalogue_of d).table e
  unfolding catalogue_of
  table-keep e h =
      ap (λ (x : Geometry). owner_in x (table_file x d' e) (table_offset x d' e) e) eg' ∙ go (ltb e g.extents) refl
      ∙ sym (ap (λ (x : Geometry). owner_in x (table_file x d e) (table_offset x d e) e) eg)
    where
      go : (b : Bool) → ltb e g.extents ≡ b
          → owner_by b (table_file g d' e) (table_offset g d' e) ≡ owner_by b (table_file g d e) (table_offset g d e)
      go true q =
          let l : e < g.extents = ltb-true e g.extents q in
          ap₂ (owner_by true) (file-keep g d d' e (h l)) (offset-keep g d d' e (h l))
      go false q = refl

-- ---- the entry of a file

-- what the sector of an occupied slot says
occupied-slot : (edition : ℕ) (b : Bool) (s : List ℕ) (e : Entry) → cond (b && is_occupied s) (some (entry_in edition s)) none ≡ some e
    → (b ≡ true) × (is_occupied s ≡ true) × (entry_in edition s ≡ e)
occupied-slot edition true s e q = go (is_occupied s) refl q
  where
    go : (o : Bool) → is_occupied s ≡ o → cond o (some (entry_in edition s)) none ≡ some e → (true ≡ true) × (is_occupied s ≡ true) × (entry_in edition s ≡ e)
    go true p r = (refl, p, some-injective (entry_in edition s) e r)
    go false p r = absurd (none-ne-some e r)
occupied-slot edition false s e q = absurd (none-ne-some e q)

module _ (L : Ledger) (img : List ℕ) (rep : Rep L img) (i : ℕ) (f : File) (has : L.slots i ≡ some f) where
  pub entry-of : (catalogue L).entries i ≡ some f.entry
  unfolding catalogue
  entry-of = ap entry_of_file has

  pub occupied : (ltb i L.geometry.files ≡ true) × (is_occupied (view img (entry_at i)) ≡ true) × (entry_in L.geometry.edition (view img (entry_at i)) ≡ f.entry)
  occupied =
      occupied-slot L.geometry.edition (ltb i L.geometry.files) (view img (entry_at i)) f.entry
      (sym (entry-is L.geometry (view img) (view img) rep.ready.volume.geometry rep.ready.volume.geometry i) ∙ rep.says.directory i ∙ entry-of)

  -- an occupied slot is one of the directory's
  pub slot-within : i < L.geometry.files
  slot-within = ltb-true i L.geometry.files occupied.0

-- ---- where a file's bytes stand

-- what catalogue c says is free is free in the ledger
abbrev pub FreeIn : Catalogue → Ledger → Type 0
FreeIn c L = (e : ℕ) → is_free (c.table e) ≡ true → is_free ((catalogue L).table e) ≡ true

-- the staging extents are free, also where they are fewer than the reserve
pub staging-free : (c : Catalogue) (k : ℕ) → k < length (staging_extents c) → is_free (c.table (get_or (staging_extents c) k 0)) ≡ true
unfolding staging_extents
staging-free c k h =
    let n = length (free_extents c) - reserve_extents c.geometry in
    ap (free c) (staging-at c k) ∙ (free-rises c c.geometry.extents).passes _ (omega (arith, length-drop n (free_extents c)))

module _ (L : Ledger) (img : List ℕ) (rep : Rep L img) where
  pub free-said : FreeIn (catalogue_of (view img)) L
  free-said e h = sym (ap is_free (rep.says.table e)) ∙ h

  module _ (c : Catalogue) (frees : FreeIn c L) where
    -- a sector of a file's extent is none of a staging extent
    pub held-unstaged : (e i o j : ℕ) → (catalogue L).table e ≡ owner i o → InExtent L.geometry e j → Unstaged L.geometry c j
    held-unstaged e i o j q h k l s =
        let z = one-extent L.geometry (get_or (staging_extents c) k 0) e j s h in
        free-unowned ((catalogue L).table e) i o (frees e (ap (free c) (sym z) ∙ staging-free c k l)) q

    -- so the sectors of a file's bytes
    pub sector-data : (i : ℕ) (f : File) → L.slots i ≡ some f → (b : ℕ) → b < f.entry.size
        → (data_at L.geometry ≤ sector_of (catalogue L) i (b / 512)) × Unstaged L.geometry c (sector_of (catalogue L) i (b / 512))
    unfolding sector_of catalogue
    sector-data i f has b l =
        let g = L.geometry in
        let s = b / 512 in
        let o = s / extent_sectors g in
        let h : o < extents_for g f.entry.size = sector-held g rep.bounded f.entry.size s (omega (arith, div-add-mod b 512)) in
        let q = extent-owned (catalogue L) rep.faultless i f.entry (slot-within L img rep i f has) (entry-of L img rep i f has) o h in
        (omega arith, held-unstaged (extent_of (catalogue L) i o) i o (sector_of (catalogue L) i s) q (omega arith, omega (arith, rest_lt g rep.bounded s)))

pub bytes-keep-at : (c : Catalogue) (d d' : Disk) (i off n : ℕ) → ((k : ℕ) → k < n → d' (sector_of c i ((off + k) / 512)) ≡ d (sector_of c i ((off + k) / 512)))
    → file_bytes c d' i off n ≡ file_bytes c d i off n
unfolding file_bytes file_byte
bytes-keep-at c d d' i off n h =
    tabulate-ext (λ k. get_or (d' (sector_of c i (k / 512))) (k % 512) 0) (λ k. get_or (d (sector_of c i (k / 512))) (k % 512) 0) off off n
    (λ k l. ap (λ (s : List ℕ). get_or s ((off + k) % 512) 0) (h k l))

-- a file's bytes, where no sector of the data area but staged copies changed
pub bytes-keep : (L : Ledger) (img img' : List ℕ) (rep : Rep L img) (c : Catalogue) → FreeIn c L
    → ((j : ℕ) → data_at L.geometry ≤ j → Unstaged L.geometry c j → view img' j ≡ view img j)
    → (i : ℕ) (f : File) → L.slots i ≡ some f → (b : ℕ) → b < f.entry.size
    → view img' (sector_of (catalogue L) i (b / 512)) ≡ view img (sector_of (catalogue L) i (b / 512))
bytes-keep L img img' rep c frees h i f has b l = let q = sector-data L img rep c frees i f has b l in h (sector_of (catalogue L) i (b / 512)) q.0 q.1

pub marks-keep : (d d' : Disk) (i : ℕ) → d' (entry_at i) ≡ d (entry_at i) → fault21 d' i ≡ fault21 d i
unfolding fault21
marks-keep d d' i e = ap (λ (s : List ℕ). not (eqb (number_in s entry_field.mark) free_mark || is_occupied s)) e

-- THE FRAME: a ready image that shows the same sectors outside journal and staging extents, which catalogue c says are free, says the same
module _ (L : Ledger) (img img' : List ℕ) (rep : Rep L img) (ready : Ready L.geometry img') (c : Catalogue) (frees : FreeIn c L)
    (keeps : (j : ℕ) → Outside L.geometry c j → j ≢ 0 → view img' j ≡ view img j) where
  abbrev g : Geometry
  g = L.geometry

  front : (j : ℕ) → j < journal_at g → Outside g c j
  front = out-front g {c = c}

  same-cat : catalogue_of (view img') ≡ catalogue_of (view img)
  unfolding catalogue_of
  same-cat =
      let eg : geometry_in (view img superblock_at) ≡ g = rep.ready.volume.geometry in
      let eg' : geometry_in (view img' superblock_at) ≡ g = ready.volume.geometry in
      λ i. record {
        geometry = (eg' ∙ sym eg) i;
        root = ap₂ (λ (x : Geometry) (s : List ℕ). root_in x.edition s) (eg' ∙ sym eg) (keeps 1 (front 1 (omega arith)) (λ e. omega arith)) i;
        entries = fun_ext (λ k. entries-keep g (view img) (view img') eg eg' k (λ l. keeps (entry_at k) (front (entry_at k) (omega arith)) (λ e. omega arith))) i;
        table = fun_ext (λ e. table-keep g (view img) (view img') eg eg' e (λ l. keeps (table_sector_of g e) (out-table g e l) (λ z. omega arith))) i;
      }

  pub rep-keep : Rep L img'
  rep-keep = record {
    ready = ready;
    bounded = rep.bounded;
    faultless = rep.faultless;
    disjoint = rep.disjoint;
    sized = rep.sized;
    says = says_of L img' ready (ap (root_in g.edition) (keeps 1 (front 1 (omega arith)) (λ e. omega arith)) ∙ rep.says.root)
        (λ i l. marks-keep (view img) (view img') i (keeps (entry_at i) (front (entry_at i) (omega arith)) (λ e. omega arith)) ∙ no-mark-fault L img rep.says i l)
        (λ i. ap (λ (c : Catalogue). c.entries i) same-cat ∙ rep.says.directory i)
        (λ e. ap (λ (c : Catalogue). c.table e) same-cat ∙ rep.says.table e)
        (λ i f e.
        ap (λ (c : Catalogue). file_bytes c (view img') i 0 f.entry.size) (same-cat ∙ cat-is L img rep)
        ∙ bytes-keep-at (catalogue L) (view img) (view img') i 0 f.entry.size (λ b l. rw zero-add
        (bytes-keep L img img' rep c frees (λ j p q. keeps j (out-data g j p q) (λ z. omega arith)) i f e b l))
        ∙ ap (λ (c : Catalogue). file_bytes c (view img) i 0 f.entry.size) (sym (cat-is L img rep)) ∙ rep.says.bytes i f e);
  }

-- a plan without data sectors, where the reserve is there and has a sector for each target
pub plan-fits : (L : Ledger) (img : List ℕ) → Rep L img → lacks_reserve (catalogue L) ≡ false → (ts : Group) → 0 < length ts
    → length ts ≤ reserve_extents L.geometry * extent_sectors L.geometry → length ts ≤ 1024
    → All (Metadata L.geometry) ts → Rising 0 ts → All Whole ts → WellFormed L.geometry (view img) (record { data_sectors = []; targets = ts })
plan-fits L img rep there ts nonempty few journalled metadata rising whole = record {
  geometry = disk-geometry L img rep;
  there = ap lacks_reserve (cat-is L img rep) ∙ there;
  nonempty = nonempty;
  few = few;
  journalled = journalled;
  metadata = metadata;
  rising = rising;
  in_data = tt;
  unstaged = tt;
  own = tt;
  short = omega arith;
  whole_data = tt;
  whole_targets = whole;
}

-- so has it for the most that a call has
pub targets-fit : (L : Ledger) (img : List ℕ) → Rep L img → lacks_reserve (catalogue L) ≡ false → (ts : Group) → 0 < length ts → length ts ≤ most_targets L.geometry
    → All (Metadata L.geometry) ts → Rising 0 ts → All Whole ts → WellFormed L.geometry (view img) (record { data_sectors = []; targets = ts })
targets-fit L img rep there ts nonempty most =
    plan-fits L img rep there ts nonempty (copies-fit L.geometry rep.bounded (length ts) most) (count-waits L.geometry rep.bounded (length ts) most)

-- so a plan without data sectors that was cut before its start mark changes nothing that is said
over-nil : (k : ℕ) (m : List Bool) (j : ℕ) (x : List ℕ) → over (part_of k m []) j x ≡ x
over-nil zero m j x = ap (λ (l : Group). over l j x) (kept-nil m) ∙ over_none j x
over-nil (suc k) m j x = over_none j x

pub part-keeps : (L : Ledger) (img : List ℕ) (p : Plan) → Rep L img → WellFormed L.geometry (view img) p → p.data_sectors ≡ [] → (k : ℕ) (m : List Bool)
    → Rep L (stored (part_of k m (A L.geometry (view img) p)) img)
part-keeps L img p rep ok e k m =
    let s = rep-geometry L img rep in
    rep-keep L img (stored (part_of k m (A L.geometry (view img) p)) img) rep (ready-part L.geometry img p s ok rep.ready k m)
    (catalogue_of (view img)) (free-said L img rep)
    (λ j o ne. part_at L.geometry img p s ok rep.ready k m j o ∙ ap (λ (f : Group). over (part_of k m f) j (view img j)) e ∙ over-nil k m j (view img j))
