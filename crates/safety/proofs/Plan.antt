-- What commits need of a geometry and of a plan, where a plan's records go, and that recovery reads a waiting plan back from the
-- journal. Assumes nothing.
use Prim.Native.Nat.{ℕ, ◌+◌, ◌*◌, ◌/◌, ◌%◌, ◌^◌, ◌≤◌, ◌<◌}
use mathlib.Core.Path.{◌≡◌, refl, sym, ap, ap₂, ◌∙◌, subst}
use mathlib.Core.Logic.{◌≢◌}
use mathlib.Core.Bool.{true, false, cond, ◌&&◌, ◌||◌, not, true≢false}
use mathlib.Core.List.{List, [], ◌∷◌, ◌++◌}
use native.Mathlib.Omega.{arith}
use native.Mathlib.Nat.{zero-add, sub-zero}
use lib.Dec.{eqb, leb, ltb}
use lib.ListN.{length, get_or, length-map}
use borrow.Author.Tests.{ne_eqb}
use Rattle.model.specs.declared.Geometry.{Geometry}
use Rattle.model.specs.declared.State.TheVariants.{Waiting}
use Rattle.model.specs.Bytes.{be_at}
use Rattle.model.specs.Search.{tabulate, scan, any_below}
use Rattle.model.specs.Geometry.{superblock_at, extent_sectors, reserve_extents, journal_at, table_at, data_at, volume_sectors}
use Rattle.model.specs.Disk.{Disk}
use Rattle.model.specs.Catalogue.{Catalogue, catalogue_of, lacks_reserve, staging_extents}
use Rattle.model.specs.WriteList.{barrier_number, sectors_of, Record, sector_write, barrier, Plan, Group, stage_in, staging, copies, journal_of, group_a, over, apply, hits}
use Rattle.model.specs.Superblock.{journal_length, with_journal_length, state_of, state_on}
use Rattle.model.specs.Journal.{source_at, target_at, journal_sectors, journal_sector}
use Rattle.model.specs.Recovery.{is_data, is_metadata, good_entry, replayed_sector, replayed, bad_journal, replay_groups, entry_write, differs, copied}
use Rattle.laws.proofs.Booleans.{range-yes, range-no, and_yes, or_left, or_right}
use Rattle.laws.proofs.Areas.{metadata-below}
use Rattle.laws.proofs.WriteList.{sector-at, stage_at}
use Rattle.laws.proofs.Staging.{Rises, free, length-staging, staging-rises, InExtent, stage-inside, stage-extent, stage-in-data, stages-apart}
use Rattle.laws.proofs.Search.{all_below-yes, any_below-no, concatenated-ext}
use Rattle.safety.proofs.Apply.{over-append, over-miss, over_skip, over_none, All, all_map, all-at}
use Rattle.safety.proofs.Apply.{all-tab0, hits-append, all-miss, tabulate-miss, tabulate-at, placed_at, Own}
use Rattle.safety.proofs.Journal.{packed-source, packed-target, Rising, rising-lt, picked, concatenated-picked, made, made-picked}
use Rattle.safety.proofs.Superblock.{journal_length-with, with-with, state-waiting, Volume, volume-with, recovers-by, Recovers, slices-by, Slices}

-- ---- areas

pub metadata-directory : (g : Geometry) (j : ℕ) → 1 ≤ j → j < journal_at g → is_metadata g j ≡ true
unfolding is_metadata
metadata-directory g j h k = or_left _ _ (range-yes 1 (journal_at g) j h k)

pub metadata-table : (g : Geometry) (j : ℕ) → table_at g ≤ j → j < data_at g → is_metadata g j ≡ true
unfolding is_metadata
metadata-table g j h k = or_right (leb 1 j && ltb j (journal_at g)) _ (range-yes (table_at g) (data_at g) j h k)

pub metadata-no : (g : Geometry) (j : ℕ) → (1 ≤ j → j < journal_at g → ⊥) → (table_at g ≤ j → j < data_at g → ⊥) → is_metadata g j ≡ false
unfolding is_metadata
metadata-no g j h k = ap₂ (λ a b. a || b) (range-no 1 (journal_at g) j h) (range-no (table_at g) (data_at g) j k)

-- ---- what commits need of a geometry and of a plan

-- an extent has sectors, and sector numbers fit a record's 8 bytes
pub record UsableGeometry (g : Geometry) : Type 0 where
  pub wide : 0 < extent_sectors g
  pub small : volume_sectors g < barrier_number

abbrev pub Metadata : Geometry → Record → Type 0
Metadata g w = is_metadata g w.sector ≡ true

abbrev pub DataSector : Geometry → ℕ → Type 0
DataSector g j = (data_at g ≤ j) × (j < volume_sectors g)

abbrev pub Whole : Record → Type 0
Whole w = length w.contents ≡ 512

-- where copy k of a plan's targets goes on a disk
abbrev pub stages_on : Disk → Plan → List ℕ
stages_on d p = staging (catalogue_of d) (length p.targets)

abbrev pub stage_on : Disk → Plan → ℕ → ℕ
stage_on d p k = get_or (stages_on d p) k 0

-- a sector in none of the extents in which copies are staged
abbrev pub Unstaged : Geometry → Catalogue → ℕ → Type 0
Unstaged g c j = (k : ℕ) → k < length (staging_extents c) → InExtent g (get_or (staging_extents c) k 0) j → ⊥

-- the disk has the geometry, and its reserve; at least one target and no more than the reserve has copies of and a waiting volume's journal
-- entries; targets in rising order in root, directory and table; data sectors in the data area, none of them twice or where copies are staged, and
-- no more than 65,536 bytes can touch; all of 512 bytes
pub record WellFormed (g : Geometry) (d : Disk) (p : Plan) : Type 0 where
  pub geometry : (catalogue_of d).geometry ≡ g
  pub there : lacks_reserve (catalogue_of d) ≡ false
  pub nonempty : 0 < length p.targets
  pub few : length p.targets ≤ reserve_extents g * extent_sectors g
  pub journalled : length p.targets ≤ 1024
  pub metadata : All (Metadata g) p.targets
  pub rising : Rising 0 p.targets
  pub in_data : All (λ w. DataSector g w.sector) p.data_sectors
  pub unstaged : All (λ w. Unstaged g (catalogue_of d) w.sector) p.data_sectors
  pub own : Own p.data_sectors
  pub short : length p.data_sectors ≤ 129
  pub whole_data : All Whole p.data_sectors
  pub whole_targets : All Whole p.targets

-- ---- the groups

module _ (g : Geometry) (d0 : Disk) (p : Plan) where
  abbrev pub A : Group
  A = group_a g (stages_on d0 p) p

  -- the contents of target k's copy and of journal sector j
  unfoldable pub copy_contents : ℕ → List ℕ
  copy_contents k = (get_or p.targets k barrier).contents

  unfoldable pub journal_contents : ℕ → List ℕ
  journal_contents j = journal_sector (λ k. get_or (stages_on d0 p) k 0) (λ k. get_or (sectors_of p.targets) k 0) (length p.targets) j

  abbrev pub copy_writes : Group
  copy_writes = tabulate (λ k. sector_write (stage_on d0 p k) (copy_contents k)) 0 (length p.targets)

  abbrev pub journal_writes : Group
  journal_writes = tabulate (λ j. sector_write (journal_at g + j) (journal_contents j)) 0 (journal_sectors (length p.targets))

module _ (g : Geometry) (d0 : Disk) (p : Plan) where
  copies_as : copies (stages_on d0 p) p.targets ≡ copy_writes g d0 p
  unfolding copy_contents copies
  copies_as = refl

  journal-is : journal_of g (stages_on d0 p) (sectors_of p.targets) ≡ journal_writes g d0 p
  unfolding journal_of journal_contents
  journal-is =
      ap (λ n. tabulate (λ j. sector_write (journal_at g + j) (journal_sector (λ k. get_or (stages_on d0 p) k 0) (λ k. get_or (sectors_of p.targets) k 0) n j)) 0 (journal_sectors n))
      (length-map p.targets (λ (r : Record). r.sector))

  pub A-is : A g d0 p ≡ p.data_sectors ++ copy_writes g d0 p ++ journal_writes g d0 p
  unfolding group_a
  A-is = ap₂ (λ (c j : Group). p.data_sectors ++ c ++ j) copies_as journal-is

  pub over-A : (j : ℕ) (x : List ℕ) → over (A g d0 p) j x ≡ over (journal_writes g d0 p) j (over (copy_writes g d0 p) j (over p.data_sectors j x))
  over-A j x =
      ap (λ (a : Group). over a j x) A-is ∙ over-append (p.data_sectors ++ copy_writes g d0 p) (journal_writes g d0 p) j x
      ∙ ap (over (journal_writes g d0 p) j) (over-append p.data_sectors (copy_writes g d0 p) j x)

-- ---- the committed disk: group A landed, and the start mark

module _ (g : Geometry) (d0 : Disk) (p : Plan) where
  abbrev pub mark : Record
  mark = sector_write superblock_at (with_journal_length (length p.targets) (d0 superblock_at))

  abbrev pub clear : Record
  clear = sector_write superblock_at (with_journal_length 0 (d0 superblock_at))

  unfoldable pub committed : Disk
  committed = apply (mark ∷ []) (apply (A g d0 p) d0)

  unfoldable pub final : Disk
  unfolding committed
  final = apply (clear ∷ []) (apply p.targets committed)

  -- "the invariant while waiting speaks only of the sectors that group C misses"
  unfoldable pub Pending : Disk → Type 0
  unfolding committed
  Pending d = (j : ℕ) → hits p.targets j ≡ false → d j ≡ committed j

module _ (g : Geometry) (d0 : Disk) (p : Plan) (geo : UsableGeometry g) (ok : WellFormed g d0 p) where
  -- the stages lie in the data area, none of them twice, all of them in the extents for staging
  abbrev es : List ℕ
  es = staging_extents (catalogue_of d0)

  enough : length p.targets ≤ length es * extent_sectors g
  enough =
      let e : length es ≡ reserve_extents g = length-staging (catalogue_of d0) ok.there ∙ ap reserve_extents ok.geometry in
      rw e ok.few

  stage_is : (k : ℕ) → k < length p.targets → stage_on d0 p k ≡ stage_in g es k
  unfolding staging
  stage_is k h = stage_at (catalogue_of d0).geometry es (length p.targets) k h ∙ ap (λ (x : Geometry). stage_in x es k) ok.geometry

  within : (k : ℕ) → k < length p.targets → k / extent_sectors g < length es
  within k h = stage-extent g es geo.wide (length p.targets) k enough h

  rises : Rises (free (catalogue_of d0)) g.extents es
  rises = subst (λ (x : Geometry). Rises (free (catalogue_of d0)) x.extents es) ok.geometry (staging-rises (catalogue_of d0) ok.there)

  pub staged : (k : ℕ) → k < length p.targets → DataSector g (stage_on d0 p k)
  staged k h = subst (DataSector g) (sym (stage_is k h)) (stage-in-data g es geo.wide k (rises.below _ (within k h)))

  pub apart : (j k : ℕ) → j < length p.targets → k < length p.targets → stage_on d0 p j ≡ stage_on d0 p k → j ≡ k
  apart j k hj hk e =
      stages-apart g es geo.wide (free (catalogue_of d0)) rises (length p.targets) j k enough hj hk (sym (stage_is j hj) ∙ e ∙ stage_is k hk)

  pub no-stage : (j : ℕ) → Unstaged g (catalogue_of d0) j → (k : ℕ) → k < length p.targets → stage_on d0 p k ≢ j
  no-stage j u k h e =
      u (k / extent_sectors g) (within k h) (subst (InExtent g (get_or es (k / extent_sectors g) 0)) (sym (stage_is k h) ∙ e) (stage-inside g es geo.wide k))

  pub targets-miss : (j : ℕ) → is_metadata g j ≡ false → hits p.targets j ≡ false
  targets-miss j e =
      all-miss j p.targets (all_map (Metadata g) (λ w. j ≢ w.sector) (λ w h q. true≢false (sym h ∙ ap (is_metadata g) (sym q) ∙ e)) p.targets ok.metadata)

  targets-zero : hits p.targets 0 ≡ false
  targets-zero = targets-miss 0 (metadata-no g 0 (λ a b. omega arith) (λ a b. omega arith))

  targets-journal : (i : ℕ) → i < 32 → hits p.targets (journal_at g + i) ≡ false
  targets-journal i h = targets-miss (journal_at g + i) (metadata-no g (journal_at g + i) (λ a b. omega arith) (λ a b. omega arith))

  targets-stage : (k : ℕ) → k < length p.targets → hits p.targets (stage_on d0 p k) ≡ false
  targets-stage k h = let s = (staged k h).0 in targets-miss (stage_on d0 p k) (metadata-no g (stage_on d0 p k) (λ a b. omega arith) (λ a b. omega arith))

  pub data-miss : (j : ℕ) → (DataSector g j → ⊥) → hits p.data_sectors j ≡ false
  data-miss j h =
      all-miss j p.data_sectors
      (all_map (λ w. DataSector g w.sector) (λ w. j ≢ w.sector) (λ w u q. h (omega (arith, u.0), omega (arith, u.1))) p.data_sectors ok.in_data)

  pub journal-few : journal_sectors (length p.targets) ≤ 32
  journal-few = let h : length p.targets ≤ 1024 = ok.journalled in omega arith

  pub journal-miss : (j : ℕ) → (journal_at g ≤ j → j < journal_at g + 32 → ⊥) → hits (journal_writes g d0 p) j ≡ false
  journal-miss j h =
      let few : journal_sectors (length p.targets) ≤ 32 = journal-few in
      tabulate-miss (journal_at g) (journal_contents g d0 p) (journal_sectors (length p.targets)) j (λ a b. h a (omega arith))

  pub copies-miss : (j : ℕ) → ((k : ℕ) → k < length p.targets → stage_on d0 p k ≢ j) → hits (copy_writes g d0 p) j ≡ false
  copies-miss j h =
      all-miss j _ (all-tab0 (λ w. j ≢ w.sector) (λ k. sector_write (stage_on d0 p k) (copy_contents g d0 p k)) (length p.targets) (λ k l e. h k l (sym e)))

  -- outside journal and data area group A writes nothing
  pub A-miss : (j : ℕ) → (journal_at g ≤ j → j < journal_at g + 32 → ⊥) → (DataSector g j → ⊥) → hits (A g d0 p) j ≡ false
  A-miss j h k =
      ap (λ (a : Group). hits a j) (A-is g d0 p)
      ∙ hits-append (p.data_sectors ++ copy_writes g d0 p) (journal_writes g d0 p) j
      (hits-append p.data_sectors (copy_writes g d0 p) j (data-miss j k) (copies-miss j (λ i l e. k (subst (DataSector g) e (staged i l)))))
      (journal-miss j h)

  pub A-zero : hits (A g d0 p) 0 ≡ false
  A-zero = A-miss 0 (λ a b. omega arith) (λ u. omega (arith, u.0))

  committed-zero : committed g d0 p 0 ≡ with_journal_length (length p.targets) (d0 superblock_at)
  unfolding committed apply over
  committed-zero = refl

  committed-other : (j : ℕ) → j ≢ 0 → committed g d0 p j ≡ over (journal_writes g d0 p) j (over (copy_writes g d0 p) j (over p.data_sectors j (d0 j)))
  unfolding committed apply
  committed-other j ne = over_skip (mark g d0 p) [] j _ ne ∙ over_none j _ ∙ over-A g d0 p j (d0 j)

  committed-copy : (k : ℕ) → k < length p.targets → committed g d0 p (stage_on d0 p k) ≡ copy_contents g d0 p k
  committed-copy k h =
      let s = (staged k h).0 in
      committed-other (stage_on d0 p k) (λ e. omega arith)
      ∙ over-miss (journal_writes g d0 p) _ _ (journal-miss (stage_on d0 p k) (λ a b. omega arith))
      ∙ placed_at (stage_on d0 p) (copy_contents g d0 p) (length p.targets) k _ (λ j l e. apart j k l h e) h

  committed-journal : (i : ℕ) → i < journal_sectors (length p.targets) → committed g d0 p (journal_at g + i) ≡ journal_contents g d0 p i
  committed-journal i h = committed-other (journal_at g + i) (λ e. omega arith) ∙ tabulate-at (journal_at g) (journal_contents g d0 p) (journal_sectors (length p.targets)) i _ h

  module _ (d : Disk) (w : Pending g d0 p d) where
    pub pending-zero : d 0 ≡ with_journal_length (length p.targets) (d0 superblock_at)
    unfolding Pending
    pending-zero = w 0 targets-zero ∙ committed-zero

    pending-journal : (i : ℕ) → i < journal_sectors (length p.targets) → d (journal_at g + i) ≡ journal_contents g d0 p i
    unfolding Pending
    pending-journal i h =
        let few : journal_sectors (length p.targets) ≤ 32 = journal-few in
        w (journal_at g + i) (targets-journal i (omega arith)) ∙ committed-journal i h

    pending-copy : (k : ℕ) → k < length p.targets → d (stage_on d0 p k) ≡ copy_contents g d0 p k
    unfolding Pending
    pending-copy k h = w (stage_on d0 p k) (targets-stage k h) ∙ committed-copy k h

    source_is : (k : ℕ) → k < length p.targets → source_at g d k ≡ stage_on d0 p k
    unfolding source_at journal_contents
    source_is k h =
        let b : stage_on d0 p k < 256 ^ 8 = omega (arith, (staged k h).1, geo.small) in
        ap (λ x. be_at x (16 * (k % 32)) 8) (pending-journal (k / 32) (omega arith))
        ∙ packed-source (stage_on d0 p) (λ i. get_or (sectors_of p.targets) i 0) (length p.targets) k h b

    target_is : (k : ℕ) → k < length p.targets → target_at g d k ≡ (get_or p.targets k barrier).sector
    unfolding target_at journal_contents
    target_is k h =
        let t : (get_or p.targets k barrier).sector < data_at g = metadata-below g _ (all-at (Metadata g) p.targets k barrier ok.metadata h) in
        let e : get_or (sectors_of p.targets) k 0 ≡ (get_or p.targets k barrier).sector = sector-at p.targets k h in
        let b : get_or (sectors_of p.targets) k 0 < 256 ^ 8 = omega (arith, geo.small) in
        ap (λ x. be_at x (16 * (k % 32) + 8) 8) (pending-journal (k / 32) (omega arith))
        ∙ packed-target (stage_on d0 p) (λ i. get_or (sectors_of p.targets) i 0) (length p.targets) k h b
        ∙ e

    from-source : (k : ℕ) → k < length p.targets → d (source_at g d k) ≡ (get_or p.targets k barrier).contents
    unfolding copy_contents
    from-source k h = ap d (source_is k h) ∙ pending-copy k h

    -- the k-th entry writes the k-th target
    pub entry-writes : (k : ℕ) → k < length p.targets → entry_write g d k ≡ get_or p.targets k barrier
    entry-writes k h = λ i. sector_write (target_is k h i) (from-source k h i)

    entry-is : (t : ℕ) → replayed_sector g d (length p.targets) t ≡ picked p.targets t
    unfolding replayed_sector
    entry-is t =
        ap (λ m. made d (source_at g d) t (scan (λ k. eqb (target_at g d k) t) m 0)) (sub-zero (length p.targets))
        ∙ made-picked d (source_at g d) (target_at g d) t p.targets 0
        (λ k h. ap (target_at g d) (zero-add k) ∙ target_is k h) (λ k h. ap (λ x. d (source_at g d x)) (zero-add k) ∙ from-source k h)

    -- group C, read back
    replayed-is : replayed g d (length p.targets) ≡ p.targets
    unfolding replayed
    replayed-is =
        concatenated-ext (replayed_sector g d (length p.targets)) (picked p.targets) 0 (data_at g) (λ t a b. entry-is t)
        ∙ concatenated-picked (data_at g) 0 p.targets ok.rising
        (all_map (Metadata g) (λ x. x.sector < 0 + data_at g) (λ x h. let l : x.sector < data_at g = metadata-below g x.sector h in omega arith) p.targets ok.metadata)

    good : (k : ℕ) → k < length p.targets → good_entry g d k ≡ true
    unfolding good_entry is_data
    good k h =
        let once : any_below (λ j. eqb (target_at g d j) (target_at g d k)) k ≡ false =
        any_below-no (λ j. eqb (target_at g d j) (target_at g d k)) k
        (λ j q.
        let jn : j < length p.targets = omega arith in
        let r : (get_or p.targets j barrier).sector < (get_or p.targets k barrier).sector = rising-lt p.targets 0 j k barrier ok.rising q h in
        let ej = target_is j jn in
        let ek = target_is k h in
        ne_eqb (target_at g d j) (target_at g d k) (λ z. omega arith)) in
        and_yes _ (not (any_below (λ j. eqb (target_at g d j) (target_at g d k)) k))
        (and_yes _ (is_metadata g (target_at g d k))
        (ap (λ s. leb (data_at g) s && ltb s (volume_sectors g)) (source_is k h) ∙ range-yes (data_at g) (volume_sectors g) (stage_on d0 p k) (staged k h).0 (staged k h).1)
        (ap (is_metadata g) (target_is k h) ∙ all-at (Metadata g) p.targets k barrier ok.metadata h))
        (ap not once)

    module _ (len : ℕ) (v : Volume g len (d0 superblock_at)) (sec : length (d0 superblock_at) ≡ 512) where
      pub pending-volume : Volume g len (d superblock_at)
      pending-volume = rw pending-zero (volume-with g (length p.targets) len (d0 superblock_at) v)

      pub pending-waits : state_on d ≡ Waiting (length p.targets)
      pending-waits =
          let n = length p.targets in
          let few : n ≤ 1024 = ok.journalled in
          let len_is : journal_length (d superblock_at) ≡ n = ap journal_length pending-zero ∙ journal_length-with n (d0 superblock_at) sec (omega arith) in
          ap state_of len_is ∙ state-waiting n ok.nonempty (omega arith)

      pending-good : bad_journal g d (Waiting (length p.targets)) ≡ false
      pending-good = ap not (all_below-yes (good_entry g d) (length p.targets) good)

      reset-is : with_journal_length 0 (d superblock_at) ≡ with_journal_length 0 (d0 superblock_at)
      reset-is = ap (with_journal_length 0) pending-zero ∙ with-with 0 (length p.targets) (d0 superblock_at)

      -- recovery reads the waiting plan back, from any disk that is committed but for the targets
      pub recovers-pending : Recovers len d (p.targets ∷ (clear g d0 p ∷ []) ∷ [])
      recovers-pending =
          let gs : replay_groups g d (Waiting (length p.targets)) ≡ p.targets ∷ (clear g d0 p ∷ []) ∷ [] =
          ap₂ (λ (c : Group) (s : List ℕ). c ∷ (sector_write superblock_at s ∷ []) ∷ []) replayed-is reset-is in
          recovers-by g len d (Waiting (length p.targets)) _ pending-volume pending-waits refl pending-good gs

      -- and a slice what is left of it
      pub slices-pending : (budget : ℕ)
          → Slices len d budget (cond (any_below (differs g d) (length p.targets)) (copied g d budget (length p.targets)) (clear g d0 p ∷ []) ∷ [])
      slices-pending budget =
          slices-by g len d budget (Waiting (length p.targets)) _ pending-volume pending-waits refl pending-good
          (ap (λ (s : List ℕ). cond (any_below (differs g d) (length p.targets)) (copied g d budget (length p.targets)) (sector_write superblock_at s ∷ []) ∷ []) reset-is)
