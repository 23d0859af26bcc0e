-- Laws that this crate's own functions go by. Assumes nothing.
use Prim.Native.Nat.{ℕ, ◌+◌, ◌*◌, ◌/◌, ◌≤◌, ◌<◌}
use mathlib.Core.Path.{◌≡◌, ap, ◌∙◌}
use mathlib.Core.List.{List, [], ◌∷◌, ◌++◌, append_assoc}
use native.Mathlib.Nat.{zero-add, div-lt_iff_lt-mul}
use native.Mathlib.Numerals.{add-one}
use native.Mathlib.Omega.{arith}
use lib.ListN.{get_or}
use Rattle.model.specs.declared.Geometry.{Geometry}
use Rattle.model.specs.Bytes.{be_bytes, bytes_from, put}
use Rattle.model.specs.Search.{tabulate}
use Rattle.model.specs.Geometry.{superblock_at, extent_sectors, journal_at, extent_at}
use Rattle.model.specs.Disk.{Disk}
use Rattle.model.specs.Superblock.{with_journal_length}
use Rattle.model.specs.Journal.{journal_sectors, entries_in, journal_sector}
use Rattle.model.specs.WriteList.{Record, sector_write, barrier, record_size, contents_start, emit, Emitted, stage_in, stages_in, journal_of, closed}
use Rattle.model.specs.Opened.{Bounded}
use Rattle.model.proofs.Areas.{product}
use Rattle.laws.proofs.Bytes.{length-bytes_from, get_or-bytes_from}
use Rattle.laws.proofs.Search.{tabulate-ext}
use Rattle.laws.proofs.WriteList.{stage_at}
use Rattle.commit.specs.Commit.{staged_targets, commit_groups}
use Rattle.commit.proofs.Records.{bytes_from-before, emitted-more, journal_sector-ext}

-- an extent starts at a number of less than 50 bits
pub extent-fits : (g : Geometry) (e : ℕ) → Bounded g → e ≤ g.extents → extent_at g e < 562949953421312
extent-fits g e b h = omega (arith, product g e b h)

-- five extents have room for 640 copies
pub stage-five : (g : Geometry) (j : ℕ) → Bounded g → j < 640 → j / extent_sectors g < 5
stage-five g j b h = (div-lt_iff_lt-mul {k = extent_sectors g} (omega (arith, b.extent-low))).1 (omega (arith, b.extent-low))

-- ---- the journal

pub entries-more : (s t : ℕ → ℕ) (from i : ℕ)
    → entries_in s t from (i + 1) ≡ put (entries_in s t from i) (16 * i) (be_bytes 8 (s (from + i)) ++ be_bytes 8 (t (from + i)))
unfolding entries_in
entries-more s t from i = rw (add-one i)

-- journal sector j: copies stand in the extents es, and the numbers are read where they are noted
abbrev pub journal_record : Geometry → List ℕ → List ℕ → ℕ → ℕ → Record
journal_record g es numbers n j = sector_write (journal_at g + j) (journal_sector (stage_in g es) (λ k. get_or numbers k 0) n j)

pub journal-staged : (g : Geometry) (es numbers : List ℕ) (n : ℕ)
    → journal_of g (stages_in g es n) (bytes_from numbers 0 n) ≡ tabulate (journal_record g es numbers n) 0 (journal_sectors n)
unfolding journal_of
journal-staged g es numbers n =
    let stages : List ℕ = stages_in g es n in
    let noted : List ℕ = bytes_from numbers 0 n in
    ap (λ (m : ℕ). tabulate (λ j. sector_write (journal_at g + j) (journal_sector (λ k. get_or stages k 0) (λ k. get_or noted k 0) m j)) 0 (journal_sectors m)) (length-bytes_from numbers 0 n)
    ∙ tabulate-ext _ _ 0 0 (journal_sectors n)
    (λ j l. ap (λ (c : List ℕ). sector_write (journal_at g + (0 + j)) c)
    (journal_sector-ext (λ k. get_or stages k 0) (stage_in g es) (λ k. get_or noted k 0) (λ k. get_or numbers k 0) n (0 + j)
    (λ k h. stage_at g es n k h)
    (λ k h. get_or-bytes_from numbers 0 n k h ∙ ap (λ x. get_or numbers x 0) (zero-add k))))

-- ---- the targets

pub targets-more : {l m m' : List ℕ} {k r : ℕ} (from : ℕ) (numbers : List ℕ) (j : ℕ) → Emitted l k (staged_targets l from numbers j) m (k + j) → from + j < k
    → Emitted m (k + j) (sector_write (get_or numbers j 0) (bytes_from m ((from + j) * record_size + contents_start) 512) ∷ []) m' r
    → Emitted l k (staged_targets l from numbers (j + 1)) m' (k + (j + 1))
unfolding staged_targets
targets-more {l} {m} {m'} {k} {r} from numbers j p h q =
    let kept : bytes_from m ((from + j) * record_size + contents_start) 512 ≡ bytes_from l ((from + j) * record_size + contents_start) 512 =
    rw p.holds (bytes_from-before l k (staged_targets l from numbers j) ((from + j) * record_size + contents_start) 512 (omega arith)) in
    emitted-more (λ j. sector_write (get_or numbers j 0) (bytes_from l ((from + j) * record_size + contents_start) 512)) p (rw kept at q)

-- copies that stand before all that was put in since are read as if it weren't there
staged-before : (l : List ℕ) (k : ℕ) (rs : List Record) (from : ℕ) (numbers : List ℕ) (n : ℕ) → from + n ≤ k
    → staged_targets (emit l k rs) from numbers n ≡ staged_targets l from numbers n
unfolding staged_targets
staged-before l k rs from numbers n h =
    tabulate-ext _ _ 0 0 n (λ j i. ap (λ (c : List ℕ). sector_write (get_or numbers (0 + j) 0) c) (bytes_from-before l k rs ((from + (0 + j)) * record_size + contents_start) 512 (omega arith)))

pub targets-kept : {l m m' : List ℕ} {k i j : ℕ} {rs : List Record} (from : ℕ) (numbers : List ℕ) (n : ℕ) → from + n ≤ k → Emitted l k rs m i
    → Emitted m i (staged_targets m from numbers n) m' j → Emitted m i (staged_targets l from numbers n) m' j
targets-kept {l} {m} {m'} {k} {i} {j} {rs} from numbers n h p q =
    let e : staged_targets m from numbers n ≡ staged_targets l from numbers n = rw p.holds (staged-before l k rs from numbers n h) in
    rw e at q

-- ---- the four groups, as they are put in one after the other

pub commit-closed : (g : Geometry) (es : List ℕ) (d : Disk) (list : List ℕ) (from : ℕ) (numbers : List ℕ) (n : ℕ)
    → closed (commit_groups g es d list from numbers n)
    ≡ journal_of g (stages_in g es n) (bytes_from numbers 0 n) ++ (barrier ∷ []) ++ (sector_write superblock_at (with_journal_length n (d superblock_at)) ∷ barrier ∷ [])
    ++ staged_targets list from numbers n ++ (barrier ∷ []) ++ (sector_write superblock_at (with_journal_length 0 (d superblock_at)) ∷ barrier ∷ [])
unfolding commit_groups
commit-closed g es d list from numbers n = simp append_assoc
