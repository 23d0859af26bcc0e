-- Laws of a set of renames: what one rename writes, sector by sector, the disk that a rename sees, and the names' places. Assumes nothing.
use Prim.Native.Nat.{ℕ, zero, suc, ◌+◌, ◌*◌, ◌≤◌, ◌<◌}
use mathlib.Core.Path.{◌≡◌, refl, ap, ap₂, ◌∙◌, subst}
use mathlib.Core.Logic.{◌≢◌, ⊎_elim}
use mathlib.Core.Bool.{Bool, true, false, cond, not, ◌||◌}
use mathlib.Core.List.{List, [], ◌∷◌}
use mathlib.Core.Option.{none, some}
use native.Mathlib.Nat.{eq-or-lt_of_le, le_of_suc-le-suc, add-zero, add-suc}
use native.Mathlib.Numerals.{add-one}
use native.Mathlib.Omega.{arith}
use lib.Dec.{eqb, ltb}
use lib.ListN.{length, get_or}
use borrow.Author.Tests.{eq-eqb, ne_eqb, eqb-true, eqb-false, ltb-true}
use Rattle.model.specs.declared.Geometry.{Geometry}
use Rattle.std.specs.Prelude.{Some, None}
use Rattle.model.specs.Bytes.{zero_sector}
use Rattle.model.specs.Search.{Lowest, index_of, equal_bytes, any_below, count_below}
use Rattle.model.specs.Geometry.{superblock_at, root_at, entry_at, journal_at, table_at, table_sectors, data_at}
use Rattle.model.specs.Disk.{Disk}
use Rattle.model.specs.Superblock.{geometry_in}
use Rattle.model.specs.Root.{updated_root_sector}
use Rattle.model.specs.Entry.{renamed_entry_sector}
use Rattle.model.specs.Table.{freed_in, holds_any}
use Rattle.model.specs.Catalogue.{Catalogue, catalogue_of, file_named, owns_from}
use Rattle.model.specs.WriteList.{Record, sector_write, over, apply, hits}
use Rattle.model.specs.Freeing.{freed_sectors}
use Rattle.model.specs.Rename.{renamed_record, replacing_records, renaming_records, rename_plan, rename_planned}
use Rattle.model.specs.RenameSet.{name_start, name_of, targets_of, rename_targets, disk_before, is_touched, set_targets}
use Rattle.laws.proofs.Booleans.{or-false, cond_same}
use Rattle.laws.proofs.Search.{any_below-no, count_below-ext}
use Rattle.laws.proofs.Count.{count_below-le, count_below-none, length-concatenated}
use Rattle.laws.proofs.WriteList.{over-append, hits-append}
use Rattle.laws.proofs.Freeing.{freed-outside, freed-inside}
use Rattle.laws.proofs.Named.{named-at}

-- ---- the entries that a rename writes

-- file i renamed, file j freed, by index
eqb-entry : (q i : ℕ) → eqb (entry_at q) (entry_at i) ≡ eqb i q
eqb-entry q i = go (eqb i q) refl
  where
    go : (b : Bool) → eqb i q ≡ b → eqb (entry_at q) (entry_at i) ≡ b
    go true e = eq-eqb (entry_at q) (entry_at i) (omega (arith, eqb-true i q e))
    go false e = let ne : i ≢ q = eqb-false i q e in ne_eqb (entry_at q) (entry_at i) (λ z. omega arith)

cond-swap : (a b : Bool) (u v y : List ℕ) → (a ≡ true → b ≡ true → ⊥) → cond b v (cond a u y) ≡ cond a u (cond b v y)
cond-swap true true u v y h = absurd (h refl refl)
cond-swap true false u v y h = refl
cond-swap false true u v y h = refl
cond-swap false false u v y h = refl

or_swap : (a b : Bool) → (b || a) ≡ (a || b)
or_swap true true = refl
or_swap true false = refl
or_swap false true = refl
or_swap false false = refl

module _ (i j : ℕ) (u v : List ℕ) where
  abbrev pair_of : Bool → List Record
  pair_of b =
      cond b (sector_write (entry_at i) u ∷ sector_write (entry_at j) v ∷ []) (sector_write (entry_at j) v ∷ sector_write (entry_at i) u ∷ [])

  pair-over : (q : ℕ) (y : List ℕ) → over (pair_of (ltb i j)) (entry_at q) y ≡ cond (eqb i q) u (cond (eqb j q) v y)
  unfolding over
  pair-over q y = go (ltb i j) refl
    where
      go : (b : Bool) → ltb i j ≡ b → over (pair_of b) (entry_at q) y ≡ cond (eqb i q) u (cond (eqb j q) v y)
      go true e =
          ap₂ (λ (a b : Bool). cond b v (cond a u y)) (eqb-entry q i) (eqb-entry q j)
          ∙ cond-swap (eqb i q) (eqb j q) u v y (λ a b. let l = ltb-true i j e in let f = eqb-true i q a in let h = eqb-true j q b in omega arith)
      go false e = ap₂ (λ (a b : Bool). cond a u (cond b v y)) (eqb-entry q i) (eqb-entry q j)

  pair-hits : (q : ℕ) (b : Bool) → hits (pair_of b) (entry_at q) ≡ (eqb i q || eqb j q)
  unfolding hits
  pair-hits q true = ap₂ (λ (a b : Bool). a || (b || false)) (eqb-entry q i) (eqb-entry q j) ∙ ap (λ (b : Bool). eqb i q || b) (or-false (eqb j q))
  pair-hits q false = ap₂ (λ (a b : Bool). b || (a || false)) (eqb-entry q i) (eqb-entry q j) ∙ ap (λ (b : Bool). eqb j q || b) (or-false (eqb i q)) ∙ or_swap (eqb i q) (eqb j q)

  -- at a sector that is no entry's
  pair-miss : (s : ℕ) (y : List ℕ) (b : Bool) → s ≢ entry_at i → s ≢ entry_at j → (over (pair_of b) s y ≡ y) × (hits (pair_of b) s ≡ false)
  unfolding over hits
  pair-miss s y true p q = rw (ne_eqb s (entry_at i) p, ne_eqb s (entry_at j) q) (refl, refl)
  pair-miss s y false p q = rw (ne_eqb s (entry_at i) p, ne_eqb s (entry_at j) q) (refl, refl)

-- ---- the targets of one rename

-- the file found is q
abbrev pub is_slot : Lowest → ℕ → Bool
is_slot None q = false
is_slot (Some j) q = eqb j q

-- a table sector where that file is replaced, and whether it holds one of its extents
abbrev pub freed_for : Lowest → Catalogue → ℕ → List ℕ → List ℕ
freed_for None c t s = s
freed_for (Some j) c t s = freed_in (λ k. owns_from c j 0 (128 * t + k)) s 128

abbrev pub held_for : Lowest → Catalogue → ℕ → Bool
held_for None c t = false
held_for (Some j) c t = holds_any (owns_from c j 0) t

pub found_below : (x : Disk) (n : List ℕ) → 0 < (geometry_in (x superblock_at)).files → index_of (file_named (catalogue_of x) n) < (geometry_in (x superblock_at)).files
found_below x n few = go (file_named (catalogue_of x) n) refl
  where
    go : (p : Lowest) → p ≡ file_named (catalogue_of x) n → index_of p < (geometry_in (x superblock_at)).files
    go None e = few
    go (Some j) e = (named-at x n j e).0

module _ (x : Disk) (i : ℕ) (new : List ℕ) (time : ℕ) where
  abbrev renamed_of : ℕ → List ℕ
  renamed_of q = renamed_entry_sector (catalogue_of x).geometry.edition new time (x (entry_at q))

  -- those behind the root
  abbrev behind : Lowest → List Record
  behind place = renaming_records (catalogue_of x) x i place new time

  -- the table sectors of file j, which it replaces
  abbrev tables : ℕ → List Record
  tables j = freed_sectors (owns_from (catalogue_of x) j 0) (catalogue_of x).geometry x

  own-entry : (q : ℕ) (z : List ℕ) → cond (eqb i q) (renamed_of i) z ≡ cond (eqb i q) (renamed_of q) z
  own-entry q z = go (eqb i q) refl
    where
      go : (b : Bool) → eqb i q ≡ b → cond b (renamed_of i) z ≡ cond b (renamed_of q) z
      go true e = ap renamed_of (eqb-true i q e)
      go false e = refl

  behind-entry : (place : Lowest) (q : ℕ) (y : List ℕ) → q < (catalogue_of x).geometry.files
      → (over (behind place) (entry_at q) y ≡ cond (eqb i q) (renamed_of q) (cond (is_slot place q) zero_sector y)) × (hits (behind place) (entry_at q) ≡ (eqb i q || is_slot place q))
  unfolding renamed_record replacing_records over hits
  behind-entry None q y l = (ap (λ (b : Bool). cond b (renamed_of i) y) (eqb-entry q i) ∙ own-entry q y, ap (λ (b : Bool). b || false) (eqb-entry q i))
  behind-entry (Some j) q y l =
      let pair = pair_of i j (renamed_of i) zero_sector (ltb i j) in
      let out = freed-outside (owns_from (catalogue_of x) j 0) (catalogue_of x).geometry x (entry_at q) (over pair (entry_at q) y) (omega arith) in (
        over-append pair (tables j) (entry_at q) y ∙ out.0 ∙ pair-over i j (renamed_of i) zero_sector q y ∙ own-entry q (cond (eqb j q) zero_sector y),
        hits-append pair (tables j) (entry_at q) ∙ ap₂ (λ (a b : Bool). a || b) (pair-hits i j (renamed_of i) zero_sector q (ltb i j)) out.1 ∙ or-false (eqb i q || eqb j q),
      )

  -- a sector that is neither an entry's nor of the table
  behind-miss : (place : Lowest) (s : ℕ) (y : List ℕ) → s < table_at (catalogue_of x).geometry → s ≢ entry_at i → s ≢ entry_at (index_of place)
      → (over (behind place) s y ≡ y) × (hits (behind place) s ≡ false)
  unfolding renamed_record replacing_records over hits
  behind-miss None s y l p q = rw (ne_eqb s (entry_at i) p) (refl, refl)
  behind-miss (Some j) s y l p q =
      let pair = pair_of i j (renamed_of i) zero_sector (ltb i j) in
      let m = pair-miss i j (renamed_of i) zero_sector s y (ltb i j) p q in
      let out = freed-outside (owns_from (catalogue_of x) j 0) (catalogue_of x).geometry x s (over pair s y) l in (
        over-append pair (tables j) s y ∙ out.0 ∙ m.0,
        hits-append pair (tables j) s ∙ ap₂ (λ (a b : Bool). a || b) m.1 out.1,
      )

  behind-table : (place : Lowest) (t : ℕ) → i < (catalogue_of x).geometry.files → index_of place < (catalogue_of x).geometry.files → t < table_sectors (catalogue_of x).geometry
      → (over (behind place) (table_at (catalogue_of x).geometry + t) (x (table_at (catalogue_of x).geometry + t)) ≡ freed_for place (catalogue_of x) t (x (table_at (catalogue_of x).geometry + t)))
      × (hits (behind place) (table_at (catalogue_of x).geometry + t) ≡ held_for place (catalogue_of x) t)
  unfolding renamed_record replacing_records over hits
  behind-table None t a b l = rw (ne_eqb (table_at (catalogue_of x).geometry + t) (entry_at i) (λ e. omega arith)) (refl, refl)
  behind-table (Some j) t a b l =
      let s = table_at (catalogue_of x).geometry + t in
      let pair = pair_of i j (renamed_of i) zero_sector (ltb i j) in
      let m = pair-miss i j (renamed_of i) zero_sector s (x s) (ltb i j) (λ e. omega arith) (λ e. omega arith) in
      let f = freed-inside (owns_from (catalogue_of x) j 0) (catalogue_of x).geometry x t l in (
        over-append pair (tables j) s (x s) ∙ ap (over (tables j) s) m.0 ∙ f.0,
        hits-append pair (tables j) s ∙ ap₂ (λ (a b : Bool). a || b) m.1 f.1,
      )

-- ---- the disk that rename k sees, step by step

pub same-geometry : (x d : Disk) → x superblock_at ≡ d superblock_at → (catalogue_of x).geometry ≡ geometry_in (d superblock_at)
unfolding catalogue_of
same-geometry x d e = ap geometry_in e

module _ (d : Disk) (names lengths : List ℕ) (time : ℕ) where
  abbrev pub seen : ℕ → Disk
  seen k = disk_before d names lengths time k

  -- rename k: to itself; the file that it moves; where the new name is
  abbrev pub is_same : ℕ → Bool
  is_same k = equal_bytes (name_of names lengths (2 * k)) (name_of names lengths (2 * k + 1))

  abbrev pub moved_of : ℕ → ℕ
  moved_of k = index_of (file_named (catalogue_of (seen k)) (name_of names lengths (2 * k)))

  abbrev pub replaced_of : ℕ → Lowest
  replaced_of k = file_named (catalogue_of (seen k)) (name_of names lengths (2 * k + 1))

  abbrev behind_of : ℕ → List Record
  behind_of k = renaming_records (catalogue_of (seen k)) (seen k) (moved_of k) (replaced_of k) (name_of names lengths (2 * k + 1)) time

  abbrev root_of : ℕ → Record
  root_of k = sector_write root_at (updated_root_sector (catalogue_of (seen k)).geometry.edition time (seen k root_at))

  targets-are : (k : ℕ) → rename_targets d names lengths time k (seen k) ≡ cond (is_same k) [] (root_of k ∷ behind_of k)
  unfolding rename_targets rename_planned rename_plan
  targets-are k = go (is_same k)
    where
      go : (b : Bool) → targets_of (cond b none (some (record { data_sectors = []; targets = root_of k ∷ behind_of k }))) ≡ cond b [] (root_of k ∷ behind_of k)
      go true = refl
      go false = refl

  seen_next : (k s : ℕ) → seen (suc k) s ≡ over (rename_targets d names lengths time k (seen k)) s (seen k s)
  unfolding disk_before apply
  seen_next k s = refl

  -- over the targets of rename k: none of them; the root's; another's
  targets-over : (k s : ℕ) (y : List ℕ) → s ≢ root_at → over (rename_targets d names lengths time k (seen k)) s y ≡ cond (is_same k) y (over (behind_of k) s y)
  unfolding over
  targets-over k s y ne = ap (λ (r : List Record). over r s y) (targets-are k) ∙ go (is_same k)
    where
      go : (b : Bool) → over (cond b [] (root_of k ∷ behind_of k)) s y ≡ cond b y (over (behind_of k) s y)
      go true = refl
      go false = ap (λ (b : Bool). over (behind_of k) s (cond b (root_of k).contents y)) (ne_eqb s root_at ne)

  targets-hits : (k s : ℕ) → s ≢ root_at → hits (rename_targets d names lengths time k (seen k)) s ≡ cond (is_same k) false (hits (behind_of k) s)
  unfolding hits
  targets-hits k s ne = ap (λ (r : List Record). hits r s) (targets-are k) ∙ go (is_same k)
    where
      go : (b : Bool) → hits (cond b [] (root_of k ∷ behind_of k)) s ≡ cond b false (hits (behind_of k) s)
      go true = refl
      go false = ap (λ (b : Bool). b || hits (behind_of k) s) (ne_eqb s root_at ne)

  -- no rename writes the superblock: the geometry stays
  superblock-missed : (k : ℕ) → over (rename_targets d names lengths time k (seen k)) superblock_at (seen k superblock_at) ≡ seen k superblock_at
  superblock-missed k =
      targets-over k superblock_at (seen k superblock_at) (λ e. omega arith)
      ∙ ap (cond (is_same k) (seen k superblock_at))
      (behind-miss (seen k) (moved_of k) (name_of names lengths (2 * k + 1)) time (replaced_of k) superblock_at (seen k superblock_at) (omega arith) (λ e. omega arith) (λ e. omega arith)).0
      ∙ cond_same (is_same k) (seen k superblock_at)

  pub seen-superblock : (k : ℕ) → seen k superblock_at ≡ d superblock_at
  unfolding disk_before
  seen-superblock zero = refl
  seen-superblock (suc k) = seen_next k superblock_at ∙ superblock-missed k ∙ seen-superblock k

  pub seen-geometry : (k : ℕ) → (catalogue_of (seen k)).geometry ≡ geometry_in (d superblock_at)
  seen-geometry k = same-geometry (seen k) d (seen-superblock k)

  -- ---- the root

  pub root-hit : (k : ℕ) → hits (rename_targets d names lengths time k (seen k)) root_at ≡ not (is_same k)
  unfolding hits
  root-hit k = ap (λ (r : List Record). hits r root_at) (targets-are k) ∙ go (is_same k)
    where
      go : (b : Bool) → hits (cond b [] (root_of k ∷ behind_of k)) root_at ≡ not b
      go true = refl
      go false = refl

  pub root-next : (k : ℕ) → seen (suc k) root_at ≡ cond (is_same k) (seen k root_at) (updated_root_sector (geometry_in (d superblock_at)).edition time (seen k root_at))
  unfolding over
  root-next k = seen_next k root_at ∙ ap (λ (r : List Record). over r root_at (seen k root_at)) (targets-are k) ∙ go (is_same k)
    where
      go : (b : Bool) → over (cond b [] (root_of k ∷ behind_of k)) root_at (seen k root_at)
          ≡ cond b (seen k root_at) (updated_root_sector (geometry_in (d superblock_at)).edition time (seen k root_at))
      go true = refl
      go false =
          (behind-miss (seen k) (moved_of k) (name_of names lengths (2 * k + 1)) time (replaced_of k) root_at (root_of k).contents (omega arith) (λ e. omega arith) (λ e. omega arith)).0
          ∙ ap (λ (g : Geometry). updated_root_sector g.edition time (seen k root_at)) (seen-geometry k)

  -- ---- an entry

  module _ (k q : ℕ) (l : q < (geometry_in (d superblock_at)).files) where
    inside : q < (catalogue_of (seen k)).geometry.files
    inside = rw (seen-geometry k) l

    pub entry_next : seen (suc k) (entry_at q)
        ≡ cond (is_same k) (seen k (entry_at q))
        (cond (eqb (moved_of k) q) (renamed_entry_sector (geometry_in (d superblock_at)).edition (name_of names lengths (2 * k + 1)) time (seen k (entry_at q)))
        (cond (is_slot (replaced_of k) q) zero_sector (seen k (entry_at q))))
    entry_next =
        seen_next k (entry_at q) ∙ targets-over k (entry_at q) (seen k (entry_at q)) (λ e. omega arith)
        ∙ ap (cond (is_same k) (seen k (entry_at q)))
        ((behind-entry (seen k) (moved_of k) (name_of names lengths (2 * k + 1)) time (replaced_of k) q (seen k (entry_at q)) inside).0
        ∙ ap (λ (g : Geometry). cond (eqb (moved_of k) q) (renamed_entry_sector g.edition (name_of names lengths (2 * k + 1)) time (seen k (entry_at q)))
        (cond (is_slot (replaced_of k) q) zero_sector (seen k (entry_at q)))) (seen-geometry k))

    pub entry-hit : hits (rename_targets d names lengths time k (seen k)) (entry_at q) ≡ cond (is_same k) false (eqb (moved_of k) q || is_slot (replaced_of k) q)
    entry-hit =
        targets-hits k (entry_at q) (λ e. omega arith)
        ∙ ap (cond (is_same k) false) (behind-entry (seen k) (moved_of k) (name_of names lengths (2 * k + 1)) time (replaced_of k) q (seen k (entry_at q)) inside).1

  -- ---- a table sector, and one that no rename writes

  module _ (few : 0 < (geometry_in (d superblock_at)).files) (k : ℕ) where
    moved-below : moved_of k < (catalogue_of (seen k)).geometry.files
    unfolding catalogue_of
    moved-below = found_below (seen k) (name_of names lengths (2 * k)) (rw (seen-superblock k) few)

    replaced-below : index_of (replaced_of k) < (catalogue_of (seen k)).geometry.files
    unfolding catalogue_of
    replaced-below = found_below (seen k) (name_of names lengths (2 * k + 1)) (rw (seen-superblock k) few)

    module _ (t : ℕ) (l : t < table_sectors (geometry_in (d superblock_at))) where
      table-both : (over (behind_of k) (table_at (catalogue_of (seen k)).geometry + t) (seen k (table_at (catalogue_of (seen k)).geometry + t))
          ≡ freed_for (replaced_of k) (catalogue_of (seen k)) t (seen k (table_at (catalogue_of (seen k)).geometry + t)))
          × (hits (behind_of k) (table_at (catalogue_of (seen k)).geometry + t) ≡ held_for (replaced_of k) (catalogue_of (seen k)) t)
      table-both =
          behind-table (seen k) (moved_of k) (name_of names lengths (2 * k + 1)) time (replaced_of k) t moved-below replaced-below
          (let h : t < table_sectors (catalogue_of (seen k)).geometry = rw (seen-geometry k) l in h)

      pub table-next : seen (suc k) (table_at (geometry_in (d superblock_at)) + t)
          ≡ cond (is_same k) (seen k (table_at (geometry_in (d superblock_at)) + t))
          (freed_for (replaced_of k) (catalogue_of (seen k)) t (seen k (table_at (geometry_in (d superblock_at)) + t)))
      table-next =
          let s = table_at (geometry_in (d superblock_at)) + t in
          seen_next k s ∙ targets-over k s (seen k s) (λ e. omega arith)
          ∙ ap (cond (is_same k) (seen k s))
          (subst
          (λ (g : Geometry). over (behind_of k) (table_at g + t) (seen k (table_at g + t)) ≡ freed_for (replaced_of k) (catalogue_of (seen k)) t (seen k (table_at g + t)))
          (seen-geometry k) table-both.0)

      pub table-hit : hits (rename_targets d names lengths time k (seen k)) (table_at (geometry_in (d superblock_at)) + t)
          ≡ cond (is_same k) false (held_for (replaced_of k) (catalogue_of (seen k)) t)
      table-hit =
          targets-hits k (table_at (geometry_in (d superblock_at)) + t) (λ e. omega arith)
          ∙ ap (cond (is_same k) false) (subst (λ (g : Geometry). hits (behind_of k) (table_at g + t) ≡ held_for (replaced_of k) (catalogue_of (seen k)) t) (seen-geometry k) table-both.1)

    -- the superblock and the journal
    pub gap-hit : (s : ℕ) → s ≢ root_at → (2 ≤ s → journal_at (geometry_in (d superblock_at)) ≤ s) → s < table_at (geometry_in (d superblock_at))
        → hits (rename_targets d names lengths time k (seen k)) s ≡ false
    gap-hit s ne out low =
        let f : (catalogue_of (seen k)).geometry.files ≡ (geometry_in (d superblock_at)).files = ap (λ (g : Geometry). g.files) (seen-geometry k) in
        let a : moved_of k < (geometry_in (d superblock_at)).files = omega (arith, moved-below) in
        let b : index_of (replaced_of k) < (geometry_in (d superblock_at)).files = omega (arith, replaced-below) in
        let h : s < table_at (catalogue_of (seen k)).geometry = omega arith in
        targets-hits k s ne
        ∙ ap (cond (is_same k) false)
        (behind-miss (seen k) (moved_of k) (name_of names lengths (2 * k + 1)) time (replaced_of k) s (seen k s) h
        (λ e. let j : journal_at (geometry_in (d superblock_at)) ≤ s = out (omega arith) in omega arith)
        (λ e. let j : journal_at (geometry_in (d superblock_at)) ≤ s = out (omega arith) in omega arith)).1
        ∙ cond_same (is_same k) false

-- ---- the names' places

pub start-more : (lengths : List ℕ) (k : ℕ) → name_start lengths (k + 1) ≡ name_start lengths k + get_or lengths k 0
unfolding name_start
start-more lengths k = rw add-one

pub start-mono : (lengths : List ℕ) (j k : ℕ) → j ≤ k → name_start lengths j ≤ name_start lengths k
unfolding name_start
start-mono lengths j zero h = let z : j ≡ 0 = omega arith in rw z (omega arith)
start-mono lengths j (suc k) h =
    ⊎_elim (λ (e : j ≡ suc k). rw e (omega arith)) (λ (l : j < suc k). omega (arith, start-mono lengths j k (le_of_suc-le-suc l))) (eq-or-lt_of_le h)

-- ---- how many targets a set has

-- a count in two parts; of a test that is one of two; of one index
pub count_below-parts : (p : ℕ → Bool) (a b : ℕ) → count_below p (a + b) ≡ count_below p a + count_below (λ k. p (a + k)) b
unfolding count_below
count_below-parts p a zero = rw add-zero (omega arith)
count_below-parts p a (suc b) = rw add-suc (omega (arith, count_below-parts p a b))

either-le : (a b : Bool) → cond (a || b) 1 0 ≤ cond a 1 0 + cond b 1 0
either-le true b = omega (arith, bit-low b)
  where
    bit-low : (b : Bool) → 0 ≤ cond b 1 0
    bit-low true = omega arith
    bit-low false = omega arith
either-le false b = omega arith

count_below-either : (p q : ℕ → Bool) (n : ℕ) → count_below (λ k. p k || q k) n ≤ count_below p n + count_below q n
unfolding count_below
count_below-either p q zero = omega arith
count_below-either p q (suc n) = omega (arith, count_below-either p q n, either-le (p n) (q n))

count_below-past : (i n : ℕ) → n ≤ i → count_below (λ k. eqb i k) n ≡ 0
count_below-past i n h = count_below-none (λ k. eqb i k) n (any_below-no (λ k. eqb i k) n (λ k l. ne_eqb i k (λ e. omega arith)))

count_below-one : (i n : ℕ) → count_below (λ k. eqb i k) n ≤ 1
unfolding count_below
count_below-one i zero = omega arith
count_below-one i (suc n) = go (eqb i n) refl (count_below-one i n)
  where
    go : (b : Bool) → eqb i n ≡ b → count_below (λ k. eqb i k) n ≤ 1 → cond b 1 0 + count_below (λ k. eqb i k) n ≤ 1
    go true e r = let z : i ≡ n = eqb-true i n e in omega (arith, count_below-past i n (omega arith))
    go false e r = omega arith

slot-one : (p : Lowest) (n : ℕ) → count_below (is_slot p) n ≤ 1
slot-one None n = omega (arith, count_below-none (λ k. false) n (any_below-no (λ k. false) n (λ k l. refl)))
slot-one (Some j) n = count_below-one j n

module _ (d : Disk) (names lengths : List ℕ) (time : ℕ) where
  abbrev geometry : Geometry
  geometry = geometry_in (d superblock_at)

  abbrev touches : ℕ → ℕ → Bool
  touches k s = hits (rename_targets d names lengths time k (seen d names lengths time k)) s

  -- a rename writes at most two entries, a set of n at most twice as many
  entries-one : (k : ℕ) → count_below (λ q. touches k (entry_at q)) geometry.files ≤ 2
  entries-one k =
      let i = moved_of d names lengths time k in
      let p = replaced_of d names lengths time k in
      let e : count_below (λ q. touches k (entry_at q)) geometry.files ≡ count_below (λ q. cond (is_same d names lengths time k) false (eqb i q || is_slot p q)) geometry.files =
      count_below-ext (λ q. touches k (entry_at q)) (λ q. cond (is_same d names lengths time k) false (eqb i q || is_slot p q)) geometry.files (λ q l. entry-hit d names lengths time k q l) in
      omega (arith, few i p (is_same d names lengths time k))
    where
      few : (i : ℕ) (p : Lowest) (b : Bool) → count_below (λ q. cond b false (eqb i q || is_slot p q)) geometry.files ≤ 2
      few i p true = omega (arith, count_below-none (λ q. false) geometry.files (any_below-no (λ q. false) geometry.files (λ k l. refl)))
      few i p false =
          omega (arith, count_below-either (eqb i) (is_slot p) geometry.files, count_below-one i geometry.files, slot-one p geometry.files)

  pub entries-few : (n : ℕ) → count_below (λ q. is_touched d names lengths time n (entry_at q)) geometry.files ≤ 2 * n
  unfolding is_touched any_below
  entries-few zero = omega (arith, count_below-none (λ q. false) geometry.files (any_below-no (λ q. false) geometry.files (λ k l. refl)))
  entries-few (suc n) =
      omega (
        arith,
        entries-one n,
        entries-few n,
        count_below-either (λ q. touches n (entry_at q)) (λ q. any_below (λ k. touches k (entry_at q)) n) geometry.files,
      )

  -- neither the superblock nor the journal is touched
  pub gap-untouched : 0 < geometry.files → (n s : ℕ) → s ≢ root_at → (2 ≤ s → journal_at geometry ≤ s) → s < table_at geometry → is_touched d names lengths time n s ≡ false
  unfolding is_touched
  gap-untouched few n s ne out low = any_below-no (λ k. touches k s) n (λ k l. gap-hit d names lengths time few k s ne out low)

  -- root, entries, table
  pub touched-few : 0 < geometry.files → (n : ℕ) → count_below (is_touched d names lengths time n) (data_at geometry) ≤ table_sectors geometry + (2 * n + 1)
  touched-few few n =
      let p = is_touched d names lengths time n in
      let f = geometry.files in
      let t = table_sectors geometry in
      let e : data_at geometry ≡ 2 + f + 32 + t = omega arith in
      let front : count_below p 2 ≤ 1 = front-one p (gap-untouched few n 0 (λ e. omega arith) (λ e. omega arith) (omega arith)) in
      let gap : count_below (λ k. p (2 + f + k)) 32 ≡ 0 =
      count_below-none (λ k. p (2 + f + k)) 32
      (any_below-no (λ k. p (2 + f + k)) 32 (λ k l. gap-untouched few n (2 + f + k) (λ e. omega arith) (λ e. omega arith) (omega arith))) in
      let sum : count_below p (data_at geometry) ≡ count_below p (2 + f + 32 + t) = ap (count_below p) e in
      omega (arith, count_below-parts p (2 + f + 32) t, count_below-parts p (2 + f) 32, count_below-parts p 2 f, entries-few n, count_below-le (λ k. p (2 + f + 32 + k)) t)
    where
      front-one : (p : ℕ → Bool) → p 0 ≡ false → count_below p 2 ≤ 1
      front-one p h = omega (arith, count_below-parts p 1 1, count_below-le (λ k. p (1 + k)) 1, count_below-none p 1 (any_below-no p 1 (λ k l. let z : k ≡ 0 = omega arith in rw z h)))

  pub length-set : (n : ℕ) → length (set_targets d names lengths time n) ≡ count_below (is_touched d names lengths time n) (data_at geometry)
  unfolding set_targets catalogue_of
  length-set n =
      length-concatenated (λ s. cond (is_touched d names lengths time n s) (sector_write s (seen d names lengths time n s) ∷ []) []) (is_touched d names lengths time n) (data_at geometry)
      (λ s. one (is_touched d names lengths time n s) (sector_write s (seen d names lengths time n s)))
    where
      one : (b : Bool) (w : Record) → length (cond b (w ∷ []) []) ≡ cond b 1 0
      one true w = refl
      one false w = refl
