-- T-13: "Accept up to eight renames as one call, applied in order, with one time and one transaction. The first rename that would be refused 8
-- or 9 fixes the answer, with its place, from 0, and nothing happens (within a set this goes before the rule of the lowest number ..); more
-- than eight, or none, is 8, before any rename is looked at. A target touched twice stands once, with its last contents. Versions rise once for
-- each rename applied; a rename to itself changes nothing and has no target. If the distinct targets number more than K x S, the answer is 13."
use Rattle.std.specs.Prelude.{ℕ, zero, suc, ◌+◌, ◌*◌, ◌/◌, ◌%◌, Bool, cond, not, ◌||◌, List, [], ◌∷◌, ◌++◌, map, eqb, ltb, length, get_or}
use Rattle.std.proofs.Math.Option.{Option, none, some}
use Rattle.model.specs.Answers.{Changed, Verdict}
use Rattle.model.specs.Bytes.{bytes_from}
use Rattle.model.specs.Search.{any_below, concatenated}
use Rattle.model.specs.Geometry.{SectorNumber, extent_sectors, reserve_extents, data_at}
use Rattle.model.specs.Disk.{Disk}
use Rattle.model.specs.Catalogue.{catalogue_of}
use Rattle.model.specs.Refusals.{Conditions, refusal}
use Rattle.model.specs.WriteList.{Record, Plan, Decision, sector_write, apply, hits, decided, answer_of, list_after}
use Rattle.model.specs.Rename.{rename_conditions, rename_planned}

-- ---- the names: all of them one after the other, old, new, old, new and so on, and the length of each

-- where name k starts: the sum of the lengths before it
unfoldable pub name_start : List ℕ → ℕ → ℕ
name_start lengths zero = 0
name_start lengths (suc k) = name_start lengths k + get_or lengths k 0

unfoldable pub name_of : List ℕ → List ℕ → ℕ → List ℕ
name_of names lengths k = bytes_from names (name_start lengths k) (get_or lengths k 0)

-- 8: "More than eight, or none", "an odd count of lengths and lengths that don't add up to the bytes of `names` (as whole numbers: no wrap)"
unfoldable pub bad_set : List ℕ → List ℕ → Bool
bad_set names lengths =
    eqb (length lengths) 0 || ltb 16 (length lengths) || eqb (length lengths % 2) 1 || not (eqb (name_start lengths (length lengths)) (length names))

-- ---- "applied in order", each seeing those before it

-- the targets of a plan; of none, none
abbrev pub targets_of : Option Plan → List Record
targets_of none = []
targets_of (some p) = p.targets

-- the same verdicts, with a place
abbrev pub placed_at : ℕ → Conditions → Conditions
placed_at k cs = map (λ (c : Bool × Verdict). (c.0, record { number = c.1.number; fault = c.1.fault; place = k })) cs

module _ (d : Disk) (names lengths : List ℕ) (time : ℕ) where
  -- what rename k writes on the disk x that it sees, and the disk that rename k sees
  unfoldable pub rename_targets : ℕ → Disk → List Record
  rename_targets k x = targets_of (rename_planned (catalogue_of x) x (name_of names lengths (2 * k)) (name_of names lengths (2 * k + 1)) time)

  unfoldable pub disk_before : ℕ → Disk
  disk_before zero = d
  disk_before (suc k) = apply (rename_targets k (disk_before k)) (disk_before k)

  -- 8 and 9 of the first n renames, each with its place. (A bad time is the first rename's: place 0)
  unfoldable pub renames_conditions : ℕ → Conditions
  renames_conditions n =
      concatenated (λ k. placed_at k (rename_conditions (catalogue_of (disk_before k)) (name_of names lengths (2 * k)) (name_of names lengths (2 * k + 1)) time)) 0 n

  -- sector s is a target of one of the first n renames; each such sector once, in rising order, with its last contents
  unfoldable pub is_touched : ℕ → SectorNumber → Bool
  is_touched n s = any_below (λ k. hits (rename_targets k (disk_before k)) s) n

  unfoldable pub set_targets : ℕ → List Record
  set_targets n = concatenated (λ s. cond (is_touched n s) (sector_write s (disk_before n s) ∷ []) []) 0 (data_at (catalogue_of d).geometry)

  -- nothing touched, no plan
  unfoldable pub set_planned : ℕ → Option Plan
  set_planned n = cond (any_below (is_touched n) (data_at (catalogue_of d).geometry)) (some (record { data_sectors = []; targets = set_targets n })) none

-- ---- what the call comes to

-- 8 of the whole set; 8 and 9 of its renames; 13 more distinct targets than the reserve has sectors
unfoldable pub rename_set_conditions : Disk → List ℕ → List ℕ → ℕ → Conditions
rename_set_conditions d names lengths time =
    let g = (catalogue_of d).geometry in
    let n = length lengths / 2 in
    ((bad_set names lengths, refusal 8) ∷ renames_conditions d names lengths time n)
    ++ ((ltb (reserve_extents g * extent_sectors g) (length (set_targets d names lengths time n)), refusal 13) ∷ [])

unfoldable pub rename_set_decision : ℕ → Disk → List ℕ → List ℕ → ℕ → ℕ → Decision
rename_set_decision len d names lengths time room =
    decided len d (rename_set_conditions d names lengths time) (set_planned d names lengths time (length lengths / 2)) room

unfoldable pub rename_set_answer : ℕ → Disk → List ℕ → List ℕ → ℕ → ℕ → Changed
rename_set_answer len d names lengths time room = answer_of d (rename_set_decision len d names lengths time room)

unfoldable pub rename_set_list : ℕ → Disk → List ℕ → List ℕ → ℕ → List ℕ → List ℕ
rename_set_list len d names lengths time list = list_after d (rename_set_decision len d names lengths time (length list)) list
