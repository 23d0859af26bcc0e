-- "Recovery: clean gives an empty list. Waiting: every entry needs its source in the data area, its target in root, directory or
-- table, and no target twice; then group C from the sources, group D. Otherwise 6." "Recovery gives only 0 to 4, 6 and 14 and
-- doesn't judge soundness."
-- T-05: "a call that takes a budget, emits at most that many sector writes and reports how many. It copies the first entries, in journal
-- order and as many as the budget allows, whose target differs from its source, then a barrier. When none differ, it emits the superblock
-- with length 0 and a barrier."
use Rattle.std.specs.Prelude.{ℕ, Bool, true, false, cond, not, ◌&&◌, ◌||◌, List, [], ◌∷◌, eqb, leb, ltb, length}
use Rattle.model.specs.declared.Geometry.{Geometry}
use Rattle.model.specs.declared.State.{State}
use Rattle.model.specs.declared.State.TheVariants.{Clean, Waiting, Damaged, Unfinished}
use Rattle.model.specs.Answers.{Verdict, Recovered, Sliced}
use Rattle.model.specs.Search.{first, any_below, all_below, count_below, concatenated, is_at, index_of, equal_bytes}
use Rattle.model.specs.Geometry.{SectorNumber, superblock_at, root_at, journal_at, table_at, data_at, volume_sectors}
use Rattle.model.specs.Disk.{Disk}
use Rattle.model.specs.Superblock.{geometry_in, state_on}
use Rattle.model.specs.Journal.{source_at, target_at}
use Rattle.model.specs.Refusals.{and_then, is_done, refusal, image_verdict, state_number}
use Rattle.model.specs.WriteList.{Record, Group, sector_write, superblock_group, closed, list_length, emit, own_verdict}

-- in the data area; in root, directory or table
unfoldable pub is_data : Geometry → SectorNumber → Bool
is_data g s = leb (data_at g) s && ltb s (volume_sectors g)

unfoldable pub is_metadata : Geometry → SectorNumber → Bool
is_metadata g t = (leb root_at t && ltb t (journal_at g)) || (leb (table_at g) t && ltb t (data_at g))

module _ (g : Geometry) (d : Disk) where
  -- journal entry k is good
  unfoldable pub good_entry : ℕ → Bool
  good_entry k = is_data g (source_at g d k) && is_metadata g (target_at g d k) && not (any_below (λ j. eqb (target_at g d j) (target_at g d k)) k)

  -- sector t from its source, if one of the n entries has it as a target
  unfoldable pub replayed_sector : ℕ → SectorNumber → List Record
  replayed_sector n t =
      let k = first (λ j. eqb (target_at g d j) t) n in
      cond (is_at k) (sector_write t (d (source_at g d (index_of k))) ∷ []) []

  -- "group C from the sources": the targets of n entries in rising order
  unfoldable pub replayed : ℕ → Group
  replayed n = concatenated (replayed_sector n) 0 (data_at g)

  -- T-05: entry k's target from its source; they differ
  abbrev pub entry_write : ℕ → Record
  entry_write k = sector_write (target_at g d k) (d (source_at g d k))

  unfoldable pub differs : ℕ → Bool
  differs k = not (equal_bytes (d (target_at g d k)) (d (source_at g d k)))

  -- it is among "the first entries, in journal order and as many as the budget allows", that differ; those of n entries, copied
  unfoldable pub is_copied : ℕ → ℕ → Bool
  is_copied budget k = differs k && ltb (count_below differs k) budget

  unfoldable pub copied_entry : ℕ → ℕ → List Record
  copied_entry budget k = cond (is_copied budget k) (entry_write k ∷ []) []

  unfoldable pub copied : ℕ → ℕ → Group
  copied budget n = concatenated (copied_entry budget) 0 n

  -- 6 "state damaged, or in recovery a bad journal entry"
  abbrev pub bad_journal : State → Bool
  bad_journal Clean = false
  bad_journal (Waiting n) = not (all_below good_entry n)
  bad_journal Damaged = true
  bad_journal Unfinished = false

  abbrev pub replay_groups : State → List Group
  replay_groups Clean = []
  replay_groups (Waiting n) = replayed n ∷ superblock_group d 0 ∷ []
  replay_groups Damaged = []
  replay_groups Unfinished = []

  -- T-05: a slice copies as long as some differ, and sets the length back when none does
  abbrev pub some_differ : State → Bool
  some_differ Clean = false
  some_differ (Waiting n) = any_below differs n
  some_differ Damaged = false
  some_differ Unfinished = false

  abbrev pub sliced_groups : ℕ → State → List Group
  sliced_groups budget Clean = []
  sliced_groups budget (Waiting n) = cond (any_below differs n) (copied budget n) (superblock_group d 0) ∷ []
  sliced_groups budget Damaged = []
  sliced_groups budget Unfinished = []

  -- its sector writes
  abbrev pub sliced_writes : ℕ → State → ℕ
  sliced_writes budget Clean = 0
  sliced_writes budget (Waiting n) = cond (any_below differs n) (count_below (is_copied budget) n) 1
  sliced_writes budget Damaged = 0
  sliced_writes budget Unfinished = 0

-- the groups of a recovery that is not refused
unfoldable pub recovery_groups : Disk → List Group
recovery_groups d = replay_groups (geometry_in (d superblock_at)) d (state_on d)

-- 1 to 3, 4 unfinished, 6, 14 by the lent list's length
unfoldable pub recovery_verdict : ℕ → Disk → ℕ → Verdict
recovery_verdict len d room =
    and_then (image_verdict len d)
    (own_verdict
    ((eqb (state_number (state_on d)) 4, refusal 4) ∷ (bad_journal (geometry_in (d superblock_at)) d (state_on d), refusal 6) ∷ [])
    room (list_length (recovery_groups d)))

-- the groups that it really lists: none by a refusal
unfoldable pub recovery_listed : ℕ → Disk → ℕ → List Group
recovery_listed len d room = cond (is_done (recovery_verdict len d room)) (recovery_groups d) []

unfoldable pub recovery_answer : ℕ → Disk → ℕ → Recovered
recovery_answer len d room = record { number = (recovery_verdict len d room).number; length = list_length (recovery_listed len d room) }

unfoldable pub recovery_list : ℕ → Disk → List ℕ → List ℕ
recovery_list len d list = emit list 0 (closed (recovery_listed len d (length list)))

-- ---- T-05: recovery in slices

-- the groups of a slice that is not refused
unfoldable pub slice_groups : Disk → ℕ → List Group
slice_groups d budget = sliced_groups (geometry_in (d superblock_at)) d budget (state_on d)

-- as recovery's, and "Budget 0 is refused 8"
unfoldable pub slice_verdict : ℕ → Disk → ℕ → ℕ → Verdict
slice_verdict len d budget room =
    and_then (image_verdict len d)
    (own_verdict
    ((eqb (state_number (state_on d)) 4, refusal 4) ∷ (bad_journal (geometry_in (d superblock_at)) d (state_on d), refusal 6)
    ∷ (eqb budget 0, refusal 8) ∷ [])
    room (list_length (slice_groups d budget)))

unfoldable pub slice_listed : ℕ → Disk → ℕ → ℕ → List Group
slice_listed len d budget room = cond (is_done (slice_verdict len d budget room)) (slice_groups d budget) []

unfoldable pub slice_answer : ℕ → Disk → ℕ → ℕ → Sliced
slice_answer len d budget room = record {
  number = (slice_verdict len d budget room).number;
  length = list_length (slice_listed len d budget room);
  count = cond (is_done (slice_verdict len d budget room)) (sliced_writes (geometry_in (d superblock_at)) d budget (state_on d)) 0;
}

unfoldable pub slice_list : ℕ → Disk → ℕ → List ℕ → List ℕ
slice_list len d budget list = emit list 0 (closed (slice_listed len d budget (length list)))

-- ---- either of the two, lent a list of so many bytes

pub data Recovery : Type 0 where
  entire : (room : ℕ) → Recovery
  slice : (budget room : ℕ) → Recovery

abbrev pub verdict_by : Recovery → ℕ → Disk → Verdict
verdict_by (entire room) len d = recovery_verdict len d room
verdict_by (slice budget room) len d = slice_verdict len d budget room

abbrev pub listed_by : Recovery → ℕ → Disk → List Group
listed_by (entire room) len d = recovery_listed len d room
listed_by (slice budget room) len d = slice_listed len d budget room

-- its list is "empty or ended by group D": not that of a slice that copies
unfoldable pub is_last : Recovery → Disk → Bool
is_last (entire room) d = true
is_last (slice budget room) d = not (some_differ (geometry_in (d superblock_at)) d (state_on d))
