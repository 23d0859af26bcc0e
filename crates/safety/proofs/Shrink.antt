-- A shrinking resize of file i to size z: the plan is well-formed, and carried out, whole or in part, it leaves an image that represents
-- the ledger in which slot i keeps its first bytes and extents, or the ledger as it was. Assumes nothing.
use Prim.Native.Nat.{ℕ, suc, ◌+◌, ◌*◌, ◌/◌, ◌%◌, ◌≤◌, ◌<◌, min}
use mathlib.Core.Path.{◌≡◌, refl, sym, ap, ap₂, ◌∙◌, subst, fun_ext}
use mathlib.Core.Logic.{◌≢◌}
use mathlib.Core.Bool.{Bool, true, false, cond, not, ◌&&◌}
use mathlib.Core.List.{List, [], ◌∷◌}
use mathlib.Core.Option.{Option, none, some, some-injective}
use native.Mathlib.Omega.{arith}
use native.Mathlib.Nat.{zero-add}
use lib.Dec.{eqb, leb}
use lib.ListN.{length, get_or, take, length-take}
use borrow.Author.Tests.{lt-leb, eqb-true}
use Rattle.model.specs.declared.Geometry.{Geometry}
use Rattle.model.specs.Bytes.{bytes_from}
use Rattle.model.specs.Search.{tabulate, first, count_below, index_of}
use Rattle.model.specs.Geometry.{extent_sectors, extent_bytes, root_at, entry_at, journal_at, table_at, data_at, table_sectors, extents_for}
use Rattle.model.specs.Disk.{Disk, view}
use Rattle.model.specs.Root.{root_in}
use Rattle.model.specs.Entry.{updated_entry_sector}
use Rattle.model.specs.Table.{sectors_holding}
use Rattle.model.specs.Catalogue.{Catalogue, Owner, catalogue_of, lacks_reserve, is_part, owned_from, extent_of, sector_of, file_byte, file_bytes, owns_from}
use Rattle.model.specs.Faults.{exact}
use Rattle.model.specs.WriteList.{Plan, Record, Group, sector_write, stored, groups_for, list_length, record_size, record_count, over}
use Rattle.model.specs.Resize.{shrink_plan}
use Rattle.model.specs.Ledger.{Ledger, File, file_or, catalogue, with_file, shrunk, updated_entry}
use Rattle.laws.proofs.Disk.{length-view}
use Rattle.laws.proofs.Booleans.{and_left, and_yes}
use Rattle.laws.proofs.Search.{all_below-yes, all_below-at, tabulate-ext, count_below-ext}
use Rattle.safety.proofs.Apply.{over-here, over_skip, over_none, All}
use Rattle.safety.proofs.Plan.{UsableGeometry, WellFormed, A, metadata-directory}
use Rattle.safety.proofs.Commit.{Ready, part_of, uncut, ready-uncut}
use Rattle.laws.proofs.WriteList.{plan-needs}
use Rattle.safety.proofs.Frame.{Shows, done-shows}
use Rattle.safety.proofs.Rep.{Rep, Timely, rep-geometry, cat-is, catalogue-geometry}
use Rattle.safety.proofs.Preserved.{bytes-keep-at, targets-fit, part-keeps, entry-of}
use Rattle.safety.proofs.Fields.{length-updated_entry_sector}
use Rattle.safety.proofs.Replaced.{replaced, Admissible}
use Rattle.safety.proofs.Rewritten.{Rewrites, rep-replaced}
use Rattle.safety.proofs.Extents.{exactly, extents-mono, sector-held}
use Rattle.safety.proofs.KeptFile.{size_small, entry-updated, mark-updated, admissible-kept}
use Rattle.safety.proofs.Read.{bytes-from}
use Rattle.safety.proofs.FreedFile.{table-freed, disjoint-freed, others-freed}
use Rattle.safety.proofs.FreedTable.{freed, length-freed, freed-few, freed-metadata, freed-whole, freed-rising, before-table, behind-table, table-after}

-- ---- extents of offset n or more freed

-- those of a lower offset stay the file's
pub part-freed : (i n o : ℕ) (t : Option Owner) → o < n → is_part i o (cond (owned_from i n t) none t) ≡ is_part i o t
part-freed i n o none l = refl
part-freed i n o (some w) l = go (eqb w.file i) refl (eqb w.offset o) refl
  where
    go : (a : Bool) → eqb w.file i ≡ a → (b : Bool) → eqb w.offset o ≡ b → is_part i o (cond (a && leb n w.offset) none (some w)) ≡ (a && b)
    go false p b q = ap₂ (λ x y. x && y) p q
    go true p true q =
        let e : w.offset ≡ o = eqb-true w.offset o q in
        ap (λ (b : Bool). is_part i o (cond b none (some w))) (lt-leb n w.offset (omega arith)) ∙ ap₂ (λ x y. x && y) p q
    go true p false q = choose (leb n w.offset)
      where
        choose : (b : Bool) → is_part i o (cond b none (some w)) ≡ false
        choose true = refl
        choose false = ap₂ (λ x y. x && y) p q

beyond-freed : (i n : ℕ) (t : Option Owner) → owned_from i n (cond (owned_from i n t) none t) ≡ false
beyond-freed i n t = go (owned_from i n t) refl
  where
    go : (b : Bool) → owned_from i n t ≡ b → owned_from i n (cond b none t) ≡ false
    go true e = refl
    go false e = e

-- where n bytes of file i stand depends on the geometry and on which extents of the offsets read are its
pub bytes-of-read : (c c' : Catalogue) (d : Disk) (i n : ℕ) → c'.geometry ≡ c.geometry
    → ((k e : ℕ) → k < n → is_part i (k / 512 / extent_sectors c.geometry) (c'.table e) ≡ is_part i (k / 512 / extent_sectors c.geometry) (c.table e))
    → file_bytes c' d i 0 n ≡ file_bytes c d i 0 n
unfolding file_bytes file_byte sector_of extent_of
bytes-of-read c c' d i n eg et =
    ap (λ (g : Geometry). tabulate (λ k.
    get_or (d (data_at g + index_of (first (λ e. is_part i (k / 512 / extent_sectors g) (c'.table e)) g.extents) * extent_sectors g + k / 512 % extent_sectors g)) (k % 512) 0) 0 n) eg
    ∙ tabulate-ext _ _ 0 0 n (λ k l. rw zero-add
    (ap (λ (t : ℕ → Bool). let g = c.geometry in
    get_or (d (data_at g + index_of (first t g.extents) * extent_sectors g + k / 512 % extent_sectors g)) (k % 512) 0) (fun_ext (λ e. et k e l))))

-- ---- the plan

module _ (L : Ledger) (img : List ℕ) (i z time : ℕ) where
  abbrev p : Plan
  p = shrink_plan (catalogue L) (view img) i z time

  abbrev n : ℕ
  n = extents_for L.geometry z

  abbrev w1 : Record
  w1 = sector_write (entry_at i) (updated_entry_sector L.geometry.edition z time (view img (entry_at i)))

  abbrev table-writes : Group
  table-writes = freed L img i (extents_for L.geometry z)

  -- the list's length
  pub shrink-length : list_length (groups_for (view img) (some p))
      ≡ record_count 0 (1 + sectors_holding (owns_from (catalogue L) i (extents_for L.geometry z)) L.geometry) * record_size
  unfolding shrink_plan catalogue
  shrink-length =
      plan-needs (view img) p
      ∙ ap (λ m. record_count 0 m * record_size)
      (let e : length table-writes ≡ sectors_holding (owns_from (catalogue L) i n) L.geometry = length-freed L img i n in
      let q : suc (length table-writes) ≡ 1 + sectors_holding (owns_from (catalogue L) i n) L.geometry = omega arith in q)

  module _ (rep : Rep L img) (reserve : lacks_reserve (catalogue L) ≡ false) (there : L.slots i ≡ some (file_or (L.slots i))) (within : i < L.geometry.files)
      (less : z < (file_or (L.slots i)).entry.size) (ht : Timely L time) where
    abbrev c : Catalogue
    c = catalogue L

    abbrev old : File
    old = file_or (L.slots i)

    abbrev new : File
    new = shrunk L i z time

    geo : UsableGeometry L.geometry
    geo = rep-geometry L img rep

    fewer : n ≤ extents_for L.geometry old.entry.size
    fewer = extents-mono L.geometry rep.bounded z old.entry.size (omega arith)

    pub shrink-fits : WellFormed L.geometry (view img) p
    unfolding shrink_plan catalogue
    shrink-fits =
        let m : length table-writes ≤ table_sectors L.geometry = freed-few L img i n in
        targets-fit L img rep reserve _ (omega arith) (omega arith)
        (metadata-directory L.geometry (entry_at i) (omega arith) (omega arith), freed-metadata L img i n)
        (omega arith, freed-rising L img i n (suc (entry_at i)) (omega arith))
        (length-updated_entry_sector L.geometry.edition z time (view img (entry_at i)) ∙ length-view img (entry_at i), freed-whole L img i n)

    size-most : z ≤ L.geometry.extents * extent_bytes L.geometry
    size-most = let s : old.entry.size ≤ L.geometry.extents * extent_bytes L.geometry = size_small L img rep i old there in omega arith

    -- ---- the table

    firsts : new.extents ≡ take n old.extents
    unfolding shrunk
    firsts = refl

    abbrev c' : Catalogue
    c' = catalogue (replaced L L.root i (some (shrunk L i z time)))

    table-new : (e : ℕ) → c'.table e ≡ cond (owned_from i n (c.table e)) none (c.table e)
    table-new e = table-freed L L.root i n (some new) firsts rep.disjoint e

    exact-old : exact c i (extents_for L.geometry old.entry.size) ≡ true
    unfolding catalogue
    exact-old = exactly c rep.faultless i old.entry within (entry-of L img rep i old there)

    exact-new : exact c' i n ≡ true
    unfolding exact catalogue
    exact-new =
        and_yes _ _
        (all_below-yes _ n (λ o l.
        ap (λ m. eqb m 1) (count_below-ext (λ e. is_part i o (c'.table e)) (λ e. is_part i o (c.table e)) L.geometry.extents
        (λ e q. ap (is_part i o) (table-new e) ∙ part-freed i n o (c.table e) l))
        ∙ all_below-at (λ o. eqb (count_below (λ e. is_part i o (c.table e)) L.geometry.extents) 1) (extents_for L.geometry old.entry.size) (and_left _ _ exact-old) o (omega (arith, fewer))))
        (all_below-yes _ L.geometry.extents (λ e l. ap not (ap (owned_from i n) (table-new e) ∙ beyond-freed i n (c.table e))))

    admissible : Admissible L L.root i (some (shrunk L i z time))
    unfolding shrunk updated_entry
    admissible =
        admissible-kept L img rep i old there (shrunk L i z time) refl refl size-most (others-freed L L.root i n (some new) firsts rep.disjoint) exact-new

    -- ---- the sectors of the new image

    low : All (λ w. w.sector < table_at L.geometry) (w1 ∷ [])
    low = (omega arith, tt)

    module _ (out : List ℕ) (ready : Ready L.geometry out) (shows : Shows L.geometry (catalogue_of (view img)) (w1 ∷ table-writes) img out) where
      at : (j : ℕ) → j < journal_at L.geometry → j ≢ 0 → view out j ≡ over (w1 ∷ []) j (view img j)
      at = before-table L img i n rep (w1 ∷ []) low out ready shows

      at_entry : view out (entry_at i) ≡ updated_entry_sector L.geometry.edition z time (view img (entry_at i))
      at_entry = at (entry_at i) (omega arith) (λ e. omega arith) ∙ over-here w1 [] _ ∙ over_none (entry_at i) _

      at_front : (j : ℕ) → j < journal_at L.geometry → j ≢ 0 → j ≢ entry_at i → view out j ≡ view img j
      at_front j l n0 ni = at j l n0 ∙ over_skip w1 [] j _ ni ∙ over_none j _

      at-data : (k : ℕ) (x : File) → L.slots k ≡ some x → (b : ℕ) → b < x.entry.size
          → view out (sector_of (catalogue L) k (b / 512)) ≡ view img (sector_of (catalogue L) k (b / 512))
      at-data = behind-table L img i n rep (w1 ∷ []) low out ready shows

      table_is : (e : ℕ) → (catalogue_of (view out)).table e ≡ cond (owned_from i n (c.table e)) none (c.table e)
      table_is = table-after L img i n rep (w1 ∷ []) low out ready shows

      -- ---- the bytes

      bytes-new : file_bytes (catalogue_of (view out)) (view out) i 0 z ≡ bytes_from old.bytes 0 z
      unfolding catalogue_of catalogue
      bytes-new =
          bytes-of-read c (catalogue_of (view out)) (view out) i z (ready.volume.geometry ∙ sym (catalogue-geometry L))
          (λ k e l. ap (is_part i _) (table_is e)
          ∙ part-freed i n _ (c.table e) (sector-held L.geometry rep.bounded z (k / 512) (omega arith)))
          ∙ bytes-keep-at c (view img) (view out) i 0 z (λ k l. rw zero-add (at-data i old there k (omega arith)))
          ∙ sym (bytes-from c (view img) i old.entry.size 0 z (omega arith))
          ∙ ap (λ (x : Catalogue). bytes_from (file_bytes x (view img) i 0 old.entry.size) 0 z) (sym (cat-is L img rep))
          ∙ ap (λ (b : List ℕ). bytes_from b 0 z) (rep.says.bytes i old there)

      bytes-are : (x : File) → some (shrunk L i z time) ≡ some x → file_bytes (catalogue_of (view out)) (view out) i 0 x.entry.size ≡ x.bytes
      unfolding shrunk updated_entry
      bytes-are x e = subst (λ (y : File). file_bytes (catalogue_of (view out)) (view out) i 0 y.entry.size ≡ y.bytes) (some-injective _ _ e) bytes-new

      sized_new : (x : File) → some (shrunk L i z time) ≡ some x → length x.extents ≡ extents_for L.geometry x.entry.size
      unfolding shrunk updated_entry
      sized_new x e =
          subst (λ (y : File). length y.extents ≡ extents_for L.geometry y.entry.size) (some-injective _ _ e)
          (length-take n old.extents ∙ (let h : min n (length old.extents) ≡ n = omega (arith, rep.sized i old there, fewer) in h))

      -- ---- the ledger in which slot i shrank

      rewrites : Rewrites L img L.root i (some (shrunk L i z time)) out
      unfolding shrunk
      rewrites = record {
        ready = ready;
        new-root = ap (root_in L.geometry.edition) (at_front root_at (omega arith) (λ e. omega arith) (λ e. omega arith)) ∙ rep.says.root;
        mark = mark-updated L img rep i old there z time out ready.volume.geometry at_entry;
        entry = entry-updated L img rep i old there z time out ready.volume.geometry at_entry size-most ht;
        entries = λ k q ne. at_front (entry_at k) (omega arith) (λ y. omega arith) (λ y. ne (omega arith));
        table = λ e. table_is e ∙ sym (table-new e);
        bytes = bytes-are;
        kept = λ k x ne e b q. at-data k x e b q;
        admissible = admissible;
        disjoint = disjoint-freed L L.root i n (some new) firsts rep.disjoint;
        sized = sized_new;
      }

    pub shrink-done : Rep (with_file L i (shrunk L i z time)) (uncut L.geometry img p)
    unfolding shrink_plan catalogue
    shrink-done =
        rep-replaced L img rep L.root i (some (shrunk L i z time)) (uncut L.geometry img p)
        (rewrites _ (ready-uncut L.geometry img p geo shrink-fits rep.ready) (done-shows L.geometry img p geo shrink-fits rep.ready))

    -- a cut before the start mark
    pub shrink-partly : (k : ℕ) (m : List Bool) → Rep L (stored (part_of k m (A L.geometry (view img) p)) img)
    unfolding shrink_plan
    shrink-partly k m = part-keeps L img p rep shrink-fits refl k m
