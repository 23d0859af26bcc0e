-- T-13: WHAT A SET OF RENAMES IS TO ITS USER: one of a single rename is that rename; how many targets there are at most, and when their count alone
-- refuses it; and after any cut "all or none" of it.
use Rattle.std.specs.Prelude.{ℕ, ◌+◌, ◌*◌, ◌/◌, ◌≤◌, ◌<◌, ◌≡◌, cond, true, false, ◌≢◌, ◌⊎◌, ◌↔◌, List, [], ◌∷◌, ◌++◌, length}
use Rattle.std.proofs.Math.Option.{Option, none, map}
use Rattle.model.specs.Search.{equal_bytes}
use Rattle.model.specs.Geometry.{extent_sectors, reserve_extents, table_sectors}
use Rattle.model.specs.Disk.{view}
use Rattle.model.specs.Refusals.{verdict_of}
use Rattle.model.specs.Cut.{Cut, start_mark}
use Rattle.model.specs.WriteList.{record_size}
use Rattle.model.specs.Rename.{rename_answer, rename_list}
use Rattle.model.specs.RenameSet.{renames_conditions, set_targets, rename_set_answer, rename_set_list}
use Rattle.model.specs.Ledger.{Ledger, rename, rename_set, names_of, pairs_of, step, answer}
use Rattle.safety.specs.Naming.{Contents, file_on}
use Rattle.safety.specs.Room.{geometry_on, Frozen}
use Rattle.safety.specs.Saving.{renamed_contents, SameFiles}

-- ---- "A set of one equals rename in every number"

-- the lengths of a single rename's names, which stand one after the other
abbrev pub lengths_of : List ℕ → List ℕ → List ℕ
lengths_of old new = length old ∷ length new ∷ []

-- on an image: its answer, and what it leaves in the lent list
pub record AsRename (img old new : List ℕ) (time : ℕ) : Type 0 where
  pub answers : (room : ℕ) → rename_set_answer (length img) (view img) (old ++ new) (lengths_of old new) time room ≡ rename_answer (length img) (view img) old new time room
  pub lists : (list : List ℕ) → rename_set_list (length img) (view img) (old ++ new) (lengths_of old new) time list ≡ rename_list (length img) (view img) old new time list

-- and on a ledger: its answer, and what it becomes
pub record AsRenamed (L : Ledger) (old new : List ℕ) (time room : ℕ) : Type 0 where
  pub answers : answer (rename_set (old ++ new) (lengths_of old new) time room) L ≡ answer (rename old new time room) L
  pub becomes : (step (rename_set (old ++ new) (lengths_of old new) time room) L).done ≡ (step (rename old new time room) L).done

-- ---- how many targets it has

-- how many sectors the reserve has, "K x S"
abbrev pub reserve_sectors : List ℕ → ℕ
reserve_sectors img = reserve_extents (geometry_on img) * extent_sectors (geometry_on img)

-- how many distinct targets a set has on an image
abbrev pub target_count : List ℕ → List ℕ → List ℕ → ℕ → ℕ
target_count img names lengths time = length (set_targets (view img) names lengths time (length lengths / 2))

-- "If the distinct targets number more than K x S", or there is one where fewer than K extents are free (T-12)
abbrev pub NoRoomFor : List ℕ → List ℕ → List ℕ → ℕ → Type 0
NoRoomFor img names lengths time = (reserve_sectors img < target_count img names lengths time) ⊎ ((0 < target_count img names lengths time) × Frozen img)

-- of a set of a good shape: root, two entries of each of eight and the table, "at most 529 targets, 1,081 records". 13 exactly if none of its renames is
-- refused and there is no room; which, where the volume isn't frozen, "needs T + 17 above K x S"
pub record Counted (img names lengths : List ℕ) (time room : ℕ) : Type 0 where
  pub targets : target_count img names lengths time ≤ table_sectors (geometry_on img) + 17
  pub most : target_count img names lengths time ≤ 529
  pub records : (rename_set_answer (length img) (view img) names lengths time room).length ≤ 1081 * record_size
  pub thirteen : ((rename_set_answer (length img) (view img) names lengths time room).verdict.number ≡ 13)
      ↔ (((verdict_of (renames_conditions (view img) names lengths time (length lengths / 2))).number ≡ 0) × NoRoomFor img names lengths time)
  pub needs : (rename_set_answer (length img) (view img) names lengths time room).verdict.number ≡ 13
      → (Frozen img → ⊥) → reserve_sectors img < table_sectors (geometry_on img) + 17

-- ---- the files after it

-- what is said of the file of each name
abbrev pub Files : Type 0
Files = List ℕ → Option Contents

abbrev pub renamed_or : List ℕ → ℕ → Option Contents → Option Contents
renamed_or new time = map (renamed_contents new time)

-- after one rename: the file of the old name has the new one, and the one that had it is gone; none has the old one; every other is as it was. A name
-- renamed to itself changes nothing
abbrev pub renamed_files : List ℕ → List ℕ → ℕ → Files → Files
renamed_files old new time files n =
    cond (equal_bytes old new) (files n) (cond (equal_bytes new n) (renamed_or new time (files old)) (cond (equal_bytes old n) none (files n)))

-- after each of them in turn
unfoldable pub files_after_renames : List (List ℕ × List ℕ) → ℕ → Files → Files
files_after_renames [] time files = files
files_after_renames (r ∷ rs) time files = files_after_renames rs time (renamed_files r.0 r.1 time files)

-- "a swap through a third name": each of two files has the other's name; one was renamed twice
pub record Swapped (a b third : List ℕ) (time : ℕ) (before after : Files) : Type 0 where
  pub first : after a ≡ renamed_or a time (before b)
  pub second : after b ≡ renamed_or b time (renamed_or third time (before a))
  pub gone : after third ≡ none
  pub others : (n : List ℕ) → a ≢ n → b ≢ n → third ≢ n → after n ≡ before n

-- "a to b then b to a (which is no swap)": a file has its name again, renamed twice, and the other is gone
pub record NotSwapped (a b : List ℕ) (time : ℕ) (before after : Files) : Type 0 where
  pub first : after a ≡ renamed_or a time (renamed_or b time (before a))
  pub gone : after b ≡ none
  pub others : (n : List ℕ) → a ≢ n → b ≢ n → after n ≡ before n

-- all of the set was done
abbrev pub AllRenamed : List ℕ → List ℕ → ℕ → List ℕ → List ℕ → Type 0
AllRenamed names lengths time img img' = (n : List ℕ) → file_on img' n ≡ files_after_renames (pairs_of (names_of names lengths)) time (file_on img) n

-- "all or none after any cut": all of it exactly if the start mark landed
abbrev pub AllOrNone : List ℕ → List ℕ → ℕ → Cut → List ℕ → List ℕ → Type 0
AllOrNone names lengths time x img img' =
    ((start_mark x ≡ true) × AllRenamed names lengths time img img') ⊎ ((start_mark x ≡ false) × SameFiles img img')
