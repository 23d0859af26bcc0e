-- A RENAME THAT WAS CUT: "after any cut either both old names stand or the new state does." And a save: a new file is made beside the old
-- one under a temporary name, and then renamed onto the old name.
use Rattle.std.specs.Prelude.{ℕ, ◌≡◌, ◌≢◌, List, [], ◌∷◌}
use Rattle.std.proofs.Math.Option.{none, some}
use Rattle.model.specs.Ledger.{Feed, call_of, renamed_entry}
use Rattle.model.specs.Run.{arguments}
use Rattle.safety.specs.Naming.{Contents, file_on}

-- a file with a new name, version up and change time set: the same bytes
abbrev pub renamed_contents : List ℕ → ℕ → Contents → Contents
renamed_contents name time x = record { entry = renamed_entry name time x.entry; bytes = x.bytes }

-- both old names stand, and every other file
abbrev pub SameFiles : List ℕ → List ℕ → Type 0
SameFiles img img' = (n : List ℕ) → file_on img' n ≡ file_on img n

-- the new state: the file x, which had the old name, has the new one; no file has the old name; every other file is as it was
pub record NewState (old new : List ℕ) (time : ℕ) (x : Contents) (img img' : List ℕ) : Type 0 where
  pub renamed : file_on img' new ≡ some (renamed_contents new time x)
  pub gone : file_on img' old ≡ none
  pub others : (n : List ℕ) → old ≢ n → new ≢ n → file_on img' n ≡ file_on img n

-- calls, whole or cut, each of which changes the file of this name alone, as a create of it and writes to it do
abbrev pub OnlyOf : List ℕ → List Feed → Type 0
OnlyOf name [] = Unit {0}
OnlyOf name (f ∷ fs) = ((arguments (call_of f)).files ≡ (name ∷ [])) × OnlyOf name fs
