-- Which files a call names to change them, and what an image, or the ledger, says of the file of a name.
use Rattle.std.specs.Prelude.{ℕ, ◌<◌, ◌≡◌, ◌≢◌, true, false, cond, List, [], ◌∷◌, eqb, Some, None}
use Rattle.std.proofs.Math.Option.{Option, none, some}
use Rattle.model.specs.Search.{Lowest, index_of}
use Rattle.model.specs.Geometry.{FileNumber}
use Rattle.model.specs.Disk.{Disk, view}
use Rattle.model.specs.Entry.{Entry}
use Rattle.model.specs.Catalogue.{catalogue_of, file_named, free_entry, entry_of, file_bytes}
use Rattle.model.specs.Ledger.{Ledger, file_or, holds_name, Call, Feed, call_of, new_entry, slot_named}
use Rattle.model.specs.Run.{arguments}

-- a name that is none of these; a call that is not to change the file of that name: summary, check, find and list change none
abbrev pub NotAmong : List ℕ → List (List ℕ) → Type 0
NotAmong name [] = Unit {0}
NotAmong name (m ∷ ms) = (m ≢ name) × NotAmong name ms

abbrev pub Spares : Call → List ℕ → Type 0
Spares c name = NotAmong name (arguments c).files

-- none of these calls, whole or cut, is to change the file of that name
abbrev pub NoneNames : List ℕ → List Feed → Type 0
NoneNames name [] = Unit {0}
NoneNames name (f ∷ fs) = Spares (call_of f) name × NoneNames name fs

-- what is said of a file: its entry and its bytes
pub record Contents : Type 0 where
  pub entry : Entry
  pub bytes : List ℕ

abbrev pub contents_at : Disk → Lowest → Option Contents
contents_at d None = none
contents_at d (Some i) =
    let c = catalogue_of d in
    some (record { entry = entry_of c i; bytes = file_bytes c d i 0 (entry_of c i).size })

-- what an image says of the file of a name: nothing, or its entry in the directory and, by the table, its bytes in the data area
unfoldable pub file_on : List ℕ → List ℕ → Option Contents
file_on img name = contents_at (view img) (file_named (catalogue_of (view img)) name)

abbrev pub contents_in : Ledger → Lowest → Option Contents
contents_in L None = none
contents_in L (Some i) = let f = file_or (L.slots i) in some (record { entry = f.entry; bytes = f.bytes })

-- what the ledger says of it
unfoldable pub file_in : Ledger → List ℕ → Option Contents
file_in L name = contents_in L (slot_named L name)

-- no two of its files have one name
abbrev pub OneName : Ledger → Type 0
OneName L =
    (m : List ℕ) (i k : FileNumber) → i < L.geometry.files → k < L.geometry.files → k ≢ i → holds_name m (L.slots i) ≡ true → holds_name m (L.slots k) ≡ false

-- the directory that an image shows: each slot free, or its entry's fields
abbrev pub directory_on : List ℕ → FileNumber → Option Entry
directory_on img = (catalogue_of (view img)).entries

-- a directory with the new entry of a create in its lowest free slot
abbrev pub with_new_entry : List ℕ → List ℕ → ℕ → ℕ → ℕ → FileNumber → Option Entry
with_new_entry img name id mode time i =
    cond (eqb i (index_of (free_entry (catalogue_of (view img))))) (some (new_entry name id mode time)) (directory_on img i)
