-- RECOVERY OF ANY GOOD JOURNAL, also of one that no run made: "Waiting: every entry needs its source in the data area, its target in
-- root, directory or table, and no target twice; then group C from the sources, group D."
use Rattle.std.specs.Prelude.{ℕ, ◌≤◌, ◌<◌, ◌≡◌, ◌≢◌, ◌⊎◌, List, length}
use Rattle.model.specs.declared.Geometry.{Geometry}
use Rattle.model.specs.declared.State.TheVariants.{Clean, Waiting}
use Rattle.model.specs.Geometry.{SectorNumber, superblock_at, root_at, journal_at, table_at, data_at, volume_sectors}
use Rattle.model.specs.Disk.{view}
use Rattle.model.specs.Superblock.{state_on, with_journal_length}
use Rattle.model.specs.Journal.{source_at, target_at}
use Rattle.model.specs.Summary.{summary_answer}
use Rattle.model.specs.WriteList.{stored, closed}
use Rattle.model.specs.Recovery.{recovery_listed, recovery_answer}
use Rattle.model.specs.Cut.{Cut, landed}
use Rattle.safety.specs.Room.{geometry_on}

-- the source and the target of entry k of an image's journal
abbrev pub source_on : List ℕ → ℕ → SectorNumber
source_on img k = source_at (geometry_on img) (view img) k

abbrev pub target_on : List ℕ → ℕ → SectorNumber
target_on img k = target_at (geometry_on img) (view img) k

-- in the data area; in root, directory or table
abbrev pub InData : Geometry → SectorNumber → Type 0
InData g s = (data_at g ≤ s) × (s < volume_sectors g)

abbrev pub InMetadata : Geometry → SectorNumber → Type 0
InMetadata g t = ((root_at ≤ t) × (t < journal_at g)) ⊎ ((table_at g ≤ t) × (t < data_at g))

-- n entries of a journal that recovery takes
pub record GoodEntries (n : ℕ) (img : List ℕ) : Type 0 where
  pub sources : (k : ℕ) → k < n → InData (geometry_on img) (source_on img k)
  pub targets : (k : ℕ) → k < n → InMetadata (geometry_on img) (target_on img k)
  pub once : (j k : ℕ) → j < n → k < n → target_on img j ≡ target_on img k → j ≡ k

-- what a recovery answers of an image, lent a list of this length; and the image on which its list landed whole
abbrev pub recovery_number : ℕ → List ℕ → ℕ
recovery_number room img = (recovery_answer (length img) (view img) room).number

abbrev pub recovered_by : ℕ → List ℕ → List ℕ
recovered_by room img = stored (closed (recovery_listed (length img) (view img) room)) img

-- each of n targets has its source's contents, the superblock says length 0 and else what it said, every other sector is as before; it
-- is a clean volume of the same geometry
pub record Replayed (n : ℕ) (img out : List ℕ) : Type 0 where
  pub same_length : length out ≡ length img
  pub targets : (k : ℕ) → k < n → view out (target_on img k) ≡ view img (source_on img k)
  pub superblock : view out superblock_at ≡ with_journal_length 0 (view img superblock_at)
  pub others : (j : ℕ) → j ≢ superblock_at → ((k : ℕ) → k < n → target_on img k ≢ j) → view out j ≡ view img j
  pub clean : summary_answer (length out) (view out) ≡ record { number = 0; summary = record { geometry = geometry_on img; state = Clean } }

-- recoveries one after the other, each with a list of any length and cut anywhere
pub data CutRecoveries (img : List ℕ) : List ℕ → Type 0 where
  none : CutRecoveries img img
  one_more : {out : List ℕ} → CutRecoveries img out → (room : ℕ) (x : Cut)
      → CutRecoveries img (stored (landed x (recovery_listed (length out) (view out) room)) out)

-- a volume that waits with the same n entries
pub record StillWaits (n : ℕ) (img cut : List ℕ) : Type 0 where
  pub state : state_on (view cut) ≡ Waiting n
  pub geometry : geometry_on cut ≡ geometry_on img
  pub sources : (k : ℕ) → k < n → source_on cut k ≡ source_on img k
  pub targets : (k : ℕ) → k < n → target_on cut k ≡ target_on img k

-- on a volume that waits with n entries, where recovery answers 0: carried out whole, it replays them; cut as often as one likes, the
-- volume still waits with the same entries, or all of it landed; recovery answers 0 again of a list of that length; and whenever it
-- answers 0, carried out whole, it gives the same image
unfoldable pub AnyJournal : Type 0
AnyJournal =
    (img : List ℕ) (n room : ℕ) → state_on (view img) ≡ Waiting n → recovery_number room img ≡ 0
    → Replayed n img (recovered_by room img)
    × ((cut : List ℕ) → CutRecoveries img cut
    → (StillWaits n img cut ⊎ (cut ≡ recovered_by room img)) × (recovery_number room cut ≡ 0)
    × ((r : ℕ) → recovery_number r cut ≡ 0 → recovered_by r cut ≡ recovered_by room img))
