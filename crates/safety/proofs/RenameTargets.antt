-- The targets of a whole set of renames: each sector that one of them touches, once, with the contents that the last one leaves. Written over
-- the disk they leave the one after the last rename; and they are as many as the ledger counts. Assumes nothing.
use Prim.Native.Nat.{ℕ, zero, suc, ◌+◌, ◌<◌}
use mathlib.Core.Path.{◌≡◌, refl, sym, ap, ap₂, ◌∙◌, subst}
use mathlib.Core.Logic.{◌≢◌}
use mathlib.Core.Bool.{Bool, true, false, cond, true≢false}
use mathlib.Core.List.{List, [], ◌∷◌}
use native.Mathlib.Omega.{arith}
use native.Mathlib.Decide.{dec_lt}
use native.Mathlib.Nat.{zero-add}
use lib.Dec.{eqb}
use lib.ListN.{length}
use borrow.Author.Tests.{eq-eqb, ne_eqb}
use Rattle.model.specs.declared.Geometry.{Geometry}
use Rattle.model.specs.Search.{any_below, count_below, concatenated}
use Rattle.model.specs.Geometry.{superblock_at, root_at, entry_at, table_at, table_sectors, data_at}
use Rattle.model.specs.Disk.{Disk}
use Rattle.model.specs.Superblock.{geometry_in}
use Rattle.model.specs.Catalogue.{Catalogue, catalogue_of}
use Rattle.model.specs.Recovery.{is_metadata}
use Rattle.model.specs.WriteList.{Record, sector_write, over, apply, hits}
use Rattle.model.specs.RenameSet.{rename_targets, disk_before, is_touched, set_targets}
use Rattle.model.specs.Ledger.{Ledger, names_slot, frees_in}
use Rattle.laws.proofs.Booleans.{or-none}
use Rattle.laws.proofs.Disk.{length-view}
use Rattle.laws.proofs.Search.{none-at, any_below-no, count_below-ext, concatenated-ext}
use Rattle.laws.proofs.Count.{count_below-none, count_below-any_below}
use Rattle.laws.proofs.Renames.{count_below-parts, length-set}
use Rattle.laws.proofs.RenameSet.{any_from, any_from-all}
use Rattle.safety.proofs.Apply.{All, all-miss, over-miss}
use Rattle.safety.proofs.Journal.{Rising}
use Rattle.safety.proofs.Plan.{Metadata, Whole, metadata-no}
use Rattle.safety.proofs.FreedSectors.{pick, all-picks, rising-picks, over-picks}
use Rattle.safety.proofs.RenameSteps.{touches, renames_from, Reached}

module _ (d : Disk) (names lengths : List ℕ) (time : ℕ) where
  -- a sector that no rename touches
  untouched : (n s : ℕ) → is_touched d names lengths time n s ≡ false → disk_before d names lengths time n s ≡ d s
  unfolding is_touched any_below disk_before apply
  untouched zero s h = refl
  untouched (suc n) s h =
      let o = or-none (hits (rename_targets d names lengths time n (disk_before d names lengths time n)) s) (is_touched d names lengths time n s) h in
      over-miss (rename_targets d names lengths time n (disk_before d names lengths time n)) s (disk_before d names lengths time n s) o.0 ∙ untouched n s o.1

  module _ (c : Catalogue) (L : Ledger) (n : ℕ) (r : Reached d names lengths time c L 0 n) where
    abbrev g : Geometry
    g = geometry_in (d superblock_at)

    abbrev p : ℕ → Bool
    p s = is_touched d names lengths time n s

    abbrev last : ℕ → List ℕ
    last s = disk_before d names lengths time n s

    touched-is : (s : ℕ) → is_touched d names lengths time n s ≡ any_from (touches d names lengths time s) 0 n
    unfolding is_touched
    touched-is s = any_from-all (touches d names lengths time s) n

    -- only root, entries and table are touched
    unwritten : (s : ℕ) → is_metadata (geometry_in (d superblock_at)) s ≡ false → is_touched d names lengths time n s ≡ false
    unwritten s h = touched-is s ∙ r.nowhere s h

    touched-metadata : (s : ℕ) → is_touched d names lengths time n s ≡ true → is_metadata (geometry_in (d superblock_at)) s ≡ true
    touched-metadata s h = go (is_metadata g s) refl
      where
        go : (b : Bool) → is_metadata g s ≡ b → is_metadata g s ≡ true
        go true e = e
        go false e = absurd (true≢false (sym h ∙ unwritten s e))

    -- ---- the writes

    picks-are : set_targets d names lengths time n ≡ concatenated (pick 0 (is_touched d names lengths time n) (disk_before d names lengths time n)) 0 (data_at (geometry_in (d superblock_at)))
    unfolding set_targets catalogue_of
    picks-are = concatenated-ext _ _ 0 (data_at g) (λ t a b. ap (λ x. cond (p t) (sector_write x (last t) ∷ []) []) (sym (zero-add t)))

    pub set-metadata : All (Metadata (geometry_in (d superblock_at))) (set_targets d names lengths time n)
    set-metadata =
        subst (All (Metadata g)) (sym picks-are)
        (all-picks 0 p last (Metadata g) (data_at g) (λ t l e. ap (is_metadata g) (zero-add t) ∙ touched-metadata t e))

    pub set-rising : Rising 0 (set_targets d names lengths time n)
    set-rising = subst (Rising 0) (sym picks-are) (rising-picks 0 p last (data_at g) 0 0 (omega arith))

    -- they leave the disk after the last rename
    pub set-over : (j : ℕ) → over (set_targets d names lengths time n) j (d j) ≡ disk_before d names lengths time n j
    set-over j = ap (λ (ws : List Record). over ws j (d j)) picks-are ∙ go (dec_lt j (data_at g))
      where
        picked : (b : Bool) → p j ≡ b → cond b (last j) (d j) ≡ last j
        picked true e = refl
        picked false e = sym (untouched n j e)

        go : Dec (j < data_at g) → over (concatenated (pick 0 p last) 0 (data_at g)) j (d j) ≡ last j
        go (yes l) = ap (λ x. over (concatenated (pick 0 p last) 0 (data_at g)) x (d j)) (sym (zero-add j)) ∙ over-picks 0 p last (data_at g) j (d j) l ∙ picked (p j) refl
        go (no l) =
            over-miss (concatenated (pick 0 p last) 0 (data_at g)) j (d j)
            (all-miss j _ (all-picks 0 p last (λ w. j ≢ w.sector) (data_at g) (λ t q e z. omega arith)))
            ∙ sym (untouched n j (unwritten j (metadata-no g j (λ a b. omega arith) (λ a b. omega arith))))

    -- nothing touched, nothing changed
    pub set-none : any_below (is_touched d names lengths time n) (data_at (geometry_in (d superblock_at))) ≡ false → (j : ℕ) → disk_before d names lengths time n j ≡ d j
    set-none h j = go (dec_lt j (data_at g))
      where
        go : Dec (j < data_at g) → last j ≡ d j
        go (yes l) = untouched n j (none-at p (data_at g) h j l)
        go (no l) = untouched n j (unwritten j (metadata-no g j (λ a b. omega arith) (λ a b. omega arith)))

    pub set-whole : All Whole (set_targets d names lengths time n)
    set-whole =
        subst (All Whole) (sym picks-are)
        (all-picks 0 p last Whole (data_at g) (λ t l e. ap (λ (x : Disk). length (x t)) (sym (r.shows ∙ ap (disk_before d names lengths time) (zero-add n))) ∙ length-view r.image t))

    -- ---- how many they are

    abbrev entries : ℕ
    entries = count_below (names_slot L (renames_from d names lengths time 0 n) time) (geometry_in (d superblock_at)).files

    abbrev tables : ℕ
    tables = count_below (frees_in L (renames_from d names lengths time 0 n) time) (table_sectors (geometry_in (d superblock_at)))

    abbrev named : Bool
    named = any_below (names_slot L (renames_from d names lengths time 0 n) time) (geometry_in (d superblock_at)).files

    front : count_below p 2 ≡ cond named 1 0
    unfolding count_below
    front =
        ap₂ (λ (a b : Bool). cond a 1 0 + (cond b 1 0 + 0)) (touched-is root_at ∙ r.root) (unwritten 0 (metadata-no g 0 (λ a b. omega arith) (λ a b. omega arith)))
        ∙ (let e : cond named 1 0 + 0 ≡ cond named 1 0 = omega arith in e)

    gap : count_below (λ k. p (2 + g.files + k)) 32 ≡ 0
    gap =
        count_below-none (λ k. p (2 + g.files + k)) 32
        (any_below-no (λ k. p (2 + g.files + k)) 32 (λ k l. unwritten (2 + g.files + k) (metadata-no g (2 + g.files + k) (λ a b. omega arith) (λ a b. omega arith))))

    behind : count_below (λ k. p (2 + g.files + 32 + k)) (table_sectors g) ≡ tables
    behind =
        count_below-ext _ _ (table_sectors g)
        (λ t l. let e : 2 + g.files + 32 + t ≡ table_at g + t = omega arith in ap p e ∙ touched-is (table_at g + t) ∙ r.tables t l)

    all-parts : count_below p (data_at g) ≡ cond named 1 0 + entries + tables
    all-parts =
        let e : data_at g ≡ 2 + g.files + 32 + table_sectors g = omega arith in
        let sum : count_below p (data_at g) ≡ count_below p (2 + g.files + 32 + table_sectors g) = ap (count_below p) e in
        let middle : count_below (λ k. p (2 + k)) g.files ≡ entries = count_below-ext _ _ g.files (λ i l. touched-is (entry_at i) ∙ r.entries i l) in
        omega (arith, count_below-parts p (2 + g.files + 32) (table_sectors g), count_below-parts p (2 + g.files) 32, count_below-parts p 2 g.files, front, gap, behind)

    -- none where no slot is named
    none_named : named ≡ false → (entries ≡ 0) × (tables ≡ 0)
    none_named e =
        let bare = r.bare (r.root ∙ e) in
        (count_below-none _ g.files e, count_below-none _ (table_sectors g) (any_below-no _ (table_sectors g) (λ t l. bare t)))

    counted : (b : Bool) → named ≡ b → cond b 1 0 + entries + tables ≡ cond (eqb entries 0) 0 (1 + entries + tables)
    counted true e =
        let l : 0 < entries = count_below-any_below _ g.files e in
        sym (ap (λ (b : Bool). cond b 0 (1 + entries + tables)) (ne_eqb entries 0 (λ z. omega arith)))
    counted false e =
        let z = none_named e in
        let a : entries ≡ 0 = z.0 in
        let b : tables ≡ 0 = z.1 in
        (let q : 0 + entries + tables ≡ 0 = omega arith in q) ∙ sym (ap (λ (b : Bool). cond b 0 (1 + entries + tables)) (eq-eqb entries 0 a))

    pub set-count : length (set_targets d names lengths time n)
        ≡ cond (eqb (count_below (names_slot L (renames_from d names lengths time 0 n) time) (geometry_in (d superblock_at)).files) 0) 0
        (1 + count_below (names_slot L (renames_from d names lengths time 0 n) time) (geometry_in (d superblock_at)).files
        + count_below (frees_in L (renames_from d names lengths time 0 n) time) (table_sectors (geometry_in (d superblock_at))))
    set-count =
        length-set d names lengths time n ∙ all-parts ∙ counted named refl
