-- Recovery's group C, of any journal whose entries are good: what it writes, how many records it has, and that a disk on which a part of
-- it landed shows the same journal and the same sources. Assumes nothing.
use Prim.Native.Nat.{ℕ, zero, suc, ◌+◌, ◌*◌, ◌/◌, ◌%◌, ◌≤◌, ◌<◌}
use mathlib.Core.Path.{◌≡◌, refl, sym, ap, ap₂, ◌∙◌, subst}
use mathlib.Core.Logic.{◌≢◌}
use mathlib.Core.Bool.{Bool, true, false, cond, not, ◌&&◌, ◌||◌, true≢false}
use mathlib.Core.List.{List, [], ◌∷◌}
use native.Mathlib.Omega.{arith}
use native.Mathlib.Decide.{dec_lt}
use native.Mathlib.Nat.{not-suc-le-zero, zero-add}
use lib.Dec.{eqb, ltb}
use lib.ListN.{length}
use borrow.Author.Tests.{eqb-true, eq-eqb, ne_eqb, leb-true}
use Rattle.model.specs.declared.Geometry.{Geometry}
use Rattle.std.specs.Prelude.{Some}
use Rattle.model.specs.declared.State.TheVariants.{Waiting}
use Rattle.model.specs.Bytes.{be_at}
use Rattle.model.specs.Search.{Lowest, first, any_below, count_below, concatenated, is_at, index_of}
use Rattle.model.specs.Geometry.{superblock_at, journal_at, table_sectors, data_at, volume_sectors}
use Rattle.model.specs.Disk.{Disk}
use Rattle.model.specs.Superblock.{state_on}
use Rattle.model.specs.Journal.{source_at, target_at}
use Rattle.model.specs.WriteList.{Record, Group, record_size, superblock_group, sector_write, closed, list_length, over, hits}
use Rattle.model.specs.Recovery.{is_data, is_metadata, good_entry, replayed_sector, replayed}
use Rattle.laws.proofs.Booleans.{and_left, and_right, or_left}
use Rattle.laws.proofs.Search.{all_below-yes, any_below-no, any_below-ext, first-ext, first-none, none-at, concatenated-ext}
use Rattle.laws.proofs.Seeking.{first-there, any_below-first}
use Rattle.safety.proofs.Searches.{place_found, not_yes}
use Rattle.safety.proofs.Apply.{over-append, over-here, over-miss, over_none, All, all-concatenated, all_map, all-miss}
use Rattle.safety.proofs.Superblock.{Volume, Recovers, recovers-by}
use Rattle.laws.proofs.Areas.{metadata-below}
use Rattle.safety.proofs.Plan.{metadata-no}
use Rattle.safety.proofs.Frame.{closed-cons}
use Rattle.laws.proofs.Count.{count_below-none, count_below-le, count_below-new, length-concatenated}
use Rattle.laws.proofs.Renames.{count_below-parts}

-- ---- lists made sector by sector

module _ (f : ℕ → Group) (own : (t : ℕ) → All (λ w. w.sector ≡ t) (f t)) where
  concatenated-over : (n t : ℕ) (x : List ℕ) → t < n → over (concatenated f 0 n) t x ≡ over (f t) t x
  unfolding concatenated
  concatenated-over zero t x l = absurd (not-suc-le-zero l)
  concatenated-over (suc n) t x l =
      over-append (concatenated f 0 n) (f (0 + n)) t x ∙ ap (λ (i : ℕ). over (f i) t (over (concatenated f 0 n) t x)) (zero-add n) ∙ go (dec_lt t n) (concatenated-over n t x)
    where
      go : Dec (t < n) → (t < n → over (concatenated f 0 n) t x ≡ over (f t) t x) → over (f n) t (over (concatenated f 0 n) t x) ≡ over (f t) t x
      go (yes h) ih = over-miss (f n) t _ (all-miss t (f n) (all_map (λ w. w.sector ≡ n) (λ w. t ≢ w.sector) (λ w e q. omega arith) (f n) (own n))) ∙ ih h
      go (no h) ih =
          let e : t ≡ n = omega arith in
          ap (over (f n) t) (over-miss (concatenated f 0 n) t x (all-miss t (concatenated f 0 n)
          (all-concatenated (λ w. t ≢ w.sector) f n (λ i k. all_map (λ w. w.sector ≡ i) (λ w. t ≢ w.sector) (λ w q z. omega arith) (f i) (own i)))))
          ∙ ap (λ (i : ℕ). over (f i) t x) (sym e)

-- ---- what recovery makes of sector t

length-if : (b : Bool) (w : Record) → length (cond b (w ∷ []) []) ≡ cond b 1 0
length-if true w = refl
length-if false w = refl

module _ (g : Geometry) (d : Disk) (n : ℕ) where
  replayed-own : (t : ℕ) → All (λ w. w.sector ≡ t) (replayed_sector g d n t)
  unfolding replayed_sector
  replayed-own t = go (is_at (first (λ j. eqb (target_at g d j) t) n))
    where
      go : (b : Bool) → All (λ w. w.sector ≡ t) (cond b (sector_write t (d (source_at g d (index_of (first (λ j. eqb (target_at g d j) t) n)))) ∷ []) [])
      go true = (refl, tt)
      go false = tt

  -- every record of group C is for the target of an entry, and holds a sector of the disk
  pub replayed-by : (P : Record → Type 0) → ((k : ℕ) → k < n → P (sector_write (target_at g d k) (d (source_at g d k)))) → All P (replayed g d n)
  unfolding replayed replayed_sector
  replayed-by P h = all-concatenated P (replayed_sector g d n) (data_at g) (λ t l. go t (is_at (first (λ j. eqb (target_at g d j) t) n)) refl)
    where
      go : (t : ℕ) (b : Bool) → is_at (first (λ j. eqb (target_at g d j) t) n) ≡ b
          → All P (cond b (sector_write t (d (source_at g d (index_of (first (λ j. eqb (target_at g d j) t) n)))) ∷ []) [])
      go t true e =
          let f = place_found (λ j. eqb (target_at g d j) t) n e in
          let k = index_of (first (λ j. eqb (target_at g d j) t) n) in
          (subst (λ (s : ℕ). P (sector_write s (d (source_at g d k)))) (eqb-true (target_at g d k) t f.1) (h k f.0), tt)
      go t false e = tt

  module _ (good : (k : ℕ) → k < n → good_entry g d k ≡ true) where
    source-data : (k : ℕ) → k < n → data_at g ≤ source_at g d k
    unfolding good_entry is_data
    source-data k l = leb-true (data_at g) (source_at g d k) (and_left _ (ltb (source_at g d k) (volume_sectors g)) (and_left _ (is_metadata g (target_at g d k)) (and_left _ _ (good k l))))

    pub target-metadata : (k : ℕ) → k < n → is_metadata g (target_at g d k) ≡ true
    unfolding good_entry
    target-metadata k l = and_right (is_data g (source_at g d k)) _ (and_left _ _ (good k l))

    pub target_once : (k : ℕ) → k < n → any_below (λ j. eqb (target_at g d j) (target_at g d k)) k ≡ false
    unfolding good_entry
    target_once k l =
        not_yes (any_below (λ j. eqb (target_at g d j) (target_at g d k)) k) (and_right (is_data g (source_at g d k) && is_metadata g (target_at g d k)) _ (good k l))

    target_found : (k : ℕ) → k < n → first (λ j. eqb (target_at g d j) (target_at g d k)) n ≡ Some k
    target_found k l =
        first-there (λ j. eqb (target_at g d j) (target_at g d k)) k n l
        (first-none (λ j. eqb (target_at g d j) (target_at g d k)) k (none-at _ k (target_once k l))) (eq-eqb (target_at g d k) _ refl)

    pub replayed-at : (k : ℕ) (x : List ℕ) → k < n → over (replayed g d n) (target_at g d k) x ≡ d (source_at g d k)
    unfolding replayed replayed_sector
    replayed-at k x l =
        concatenated-over (replayed_sector g d n) replayed-own (data_at g) (target_at g d k) x (metadata-below g _ (target-metadata k l))
        ∙ ap (λ (p : Lowest). over (cond (is_at p) (sector_write (target_at g d k) (d (source_at g d (index_of p))) ∷ []) []) (target_at g d k) x) (target_found k l)
        ∙ over-here (sector_write (target_at g d k) (d (source_at g d k))) [] x ∙ over_none (target_at g d k) (d (source_at g d k))

    pub replayed-miss : (j : ℕ) → ((k : ℕ) → k < n → target_at g d k ≢ j) → hits (replayed g d n) j ≡ false
    replayed-miss j h = all-miss j (replayed g d n) (replayed-by (λ w. j ≢ w.sector) (λ k l e. h k l (sym e)))

    no-metadata : (j : ℕ) → is_metadata g j ≡ false → hits (replayed g d n) j ≡ false
    no-metadata j e = replayed-miss j (λ k l q. true≢false (sym (target-metadata k l) ∙ ap (is_metadata g) q ∙ e))

    -- recovery of such a disk has group C to list, and group D
    pub waiting-recovers : (len : ℕ) → Volume g len (d superblock_at) → state_on d ≡ Waiting n → Recovers len d (replayed g d n ∷ superblock_group d 0 ∷ [])
    waiting-recovers len v st = recovers-by g len d (Waiting n) _ v st refl (ap not (all_below-yes (good_entry g d) n good)) refl

    -- and n targets
    count-targets : (m : ℕ) → m ≤ n → count_below (λ t. any_below (λ j. eqb (target_at g d j) t) m) (data_at g) ≡ m
    unfolding any_below
    count-targets zero l = count_below-none (λ t. false) (data_at g) (any_below-no (λ t. false) (data_at g) (λ k h. refl))
    count-targets (suc m) l =
        count_below-new (λ t. any_below (λ j. eqb (target_at g d j) t) m) (λ t. any_below (λ j. eqb (target_at g d j) t) (suc m)) (target_at g d m) (data_at g)
        (metadata-below g _ (target-metadata m l)) (target_once m l) (or_left _ _ (eq-eqb (target_at g d m) (target_at g d m) refl))
        (λ t ne. ap (λ (b : Bool). b || any_below (λ j. eqb (target_at g d j) t) m) (ne_eqb (target_at g d m) t (λ e. ne (sym e))))
        ∙ ap suc (count-targets m (omega arith))

    -- no more than there are sectors for them: root, directory and table
    pub entries-few : n ≤ 1 + g.files + table_sectors g
    entries-few =
        let p : ℕ → Bool = λ t. any_below (λ j. eqb (target_at g d j) t) n in
        let f = g.files in
        let e : data_at g ≡ 2 + f + 32 + table_sectors g = omega arith in
        let sum : count_below p (data_at g) ≡ count_below p (2 + f + 32 + table_sectors g) = ap (count_below p) e in
        let first : count_below p 1 ≡ 0 = count_below-none p 1 (any_below-no p 1 (λ k l. no_target k (metadata-no g k (λ a b. omega arith) (λ a b. omega arith)))) in
        let gap : count_below (λ k. p (2 + f + k)) 32 ≡ 0 =
        count_below-none (λ k. p (2 + f + k)) 32 (any_below-no (λ k. p (2 + f + k)) 32 (λ k l. no_target (2 + f + k) (metadata-no g (2 + f + k) (λ a b. omega arith) (λ a b. omega arith)))) in
        omega (
          arith,
          count-targets n (omega arith),
          count_below-parts p (2 + f + 32) (table_sectors g),
          count_below-parts p (2 + f) 32,
          count_below-parts p 2 f,
          count_below-parts p 1 1,
          count_below-le (λ k. p (1 + k)) 1,
          count_below-le (λ k. p (2 + k)) f,
          count_below-le (λ k. p (2 + f + 32 + k)) (table_sectors g),
        )
      where
        no_target : (t : ℕ) → is_metadata g t ≡ false → any_below (λ j. eqb (target_at g d j) t) n ≡ false
        no_target t h = any_below-no (λ j. eqb (target_at g d j) t) n (λ j l. ne_eqb (target_at g d j) t (λ e. true≢false (sym (target-metadata j l) ∙ ap (is_metadata g) e ∙ h)))

    pub length-replayed : length (replayed g d n) ≡ n
    unfolding replayed replayed_sector
    length-replayed =
        length-concatenated (replayed_sector g d n) (λ t. any_below (λ j. eqb (target_at g d j) t) n) (data_at g)
        (λ t. ap (λ (b : Bool). length (cond b (sector_write t (d (source_at g d (index_of (first (λ j. eqb (target_at g d j) t) n)))) ∷ []) []))
        (sym (any_below-first (λ j. eqb (target_at g d j) t) n)) ∙ length-if (any_below (λ j. eqb (target_at g d j) t) n) _)
        ∙ count-targets n (omega arith)

    pub length-recovery : list_length (replayed g d n ∷ superblock_group d 0 ∷ []) ≡ (n + 3) * record_size
    length-recovery =
        let e = closed-cons (replayed g d n) (superblock_group d 0 ∷ []) in
        let f = length-replayed in
        ap (λ (k : ℕ). k * record_size) (let q : length (closed (replayed g d n ∷ superblock_group d 0 ∷ [])) ≡ n + 3 = omega arith in q)

    -- a disk that differs only where group C writes shows the same journal and the same sources
    module _ (few : n ≤ 1024) (d' : Disk) (shows : (j : ℕ) → hits (replayed g d n) j ≡ false → d' j ≡ d j) where
      pub zero-stays : d' superblock_at ≡ d superblock_at
      zero-stays = shows 0 (no-metadata 0 (metadata-no g 0 (λ a b. omega arith) (λ a b. omega arith)))

      journal-stays : (k : ℕ) → k < n → d' (journal_at g + k / 32) ≡ d (journal_at g + k / 32)
      journal-stays k l = shows (journal_at g + k / 32) (no-metadata _ (metadata-no g _ (λ a b. omega arith) (λ a b. omega arith)))

      pub source-same : (k : ℕ) → k < n → source_at g d' k ≡ source_at g d k
      unfolding source_at
      source-same k l = ap (λ (s : List ℕ). be_at s (16 * (k % 32)) 8) (journal-stays k l)

      pub target-same : (k : ℕ) → k < n → target_at g d' k ≡ target_at g d k
      unfolding target_at
      target-same k l = ap (λ (s : List ℕ). be_at s (16 * (k % 32) + 8) 8) (journal-stays k l)

      pub contents-same : (k : ℕ) → k < n → d' (source_at g d' k) ≡ d (source_at g d k)
      contents-same k l =
          let h : data_at g ≤ source_at g d k = source-data k l in
          ap d' (source-same k l) ∙ shows (source_at g d k) (no-metadata _ (metadata-no g _ (λ a b. omega arith) (λ a b. omega arith)))

      pub good-again : (k : ℕ) → k < n → good_entry g d' k ≡ true
      unfolding good_entry
      good-again k l =
          (λ i. is_data g (source-same k l i) && is_metadata g (target-same k l i)
          && not (any_below-ext (λ j. eqb (target_at g d' j) (target_at g d' k)) (λ j. eqb (target_at g d j) (target_at g d k)) k
          (λ j h. ap₂ eqb (target-same j (omega arith)) (target-same k l)) i))
          ∙ good k l

      sector-same : (t : ℕ) → replayed_sector g d' n t ≡ replayed_sector g d n t
      unfolding replayed_sector
      sector-same t =
          ap (λ (p : Lowest). cond (is_at p) (sector_write t (d' (source_at g d' (index_of p))) ∷ []) [])
          (first-ext (λ j. eqb (target_at g d' j) t) (λ j. eqb (target_at g d j) t) n (λ k l. ap (λ (s : ℕ). eqb s t) (target-same k l)))
          ∙ go (is_at p) refl
        where
          p : Lowest
          p = first (λ j. eqb (target_at g d j) t) n

          go : (b : Bool) → is_at p ≡ b → cond b (sector_write t (d' (source_at g d' (index_of p))) ∷ []) [] ≡ cond b (sector_write t (d (source_at g d (index_of p))) ∷ []) []
          go true e = ap (λ (c : List ℕ). sector_write t c ∷ []) (contents-same (index_of p) (place_found (λ j. eqb (target_at g d j) t) n e).0)
          go false e = refl

      pub replayed-same : replayed g d' n ≡ replayed g d n
      unfolding replayed
      replayed-same = concatenated-ext (replayed_sector g d' n) (replayed_sector g d n) 0 (data_at g) (λ t a b. sector-same t)
