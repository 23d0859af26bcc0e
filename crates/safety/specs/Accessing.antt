-- T-02: WHAT A READ AND A LIST LEAVE on an image, whole or cut: access times, and nothing else. T-12: where fewer than K extents are free they "answer
-- there with an empty write list and the access time stays".
use Rattle.std.specs.Prelude.{ℕ, ◌*◌, ◌≡◌, ◌≢◌, Bool, true, false, cond, List, [], ◌∷◌}
use Rattle.std.proofs.Math.Option.{Option, none, some}
use Rattle.model.specs.Disk.{view}
use Rattle.model.specs.Root.{Root}
use Rattle.model.specs.Catalogue.{catalogue_of, lacks_reserve}
use Rattle.model.specs.WriteList.{record_size}
use Rattle.model.specs.Ledger.{Call, summary, check, find, list, read, create, delete, resize, write, rename, rename_set, Feed, call_of, accessed_entry, accessed_root}
use Rattle.safety.specs.Naming.{Contents, file_on}
use Rattle.safety.specs.Saving.{SameFiles}

-- what an image says of the root
abbrev pub root_on : List ℕ → Root
root_on img = (catalogue_of (view img)).root

-- a file whose access time was set: the rest of its entry and its bytes are the same
abbrev pub accessed_contents : ℕ → Contents → Contents
accessed_contents time x = record { entry = accessed_entry time x.entry; bytes = x.bytes }

-- the length of a read's or a list's write list: 9 records, or none
abbrev pub access_length : List ℕ → ℕ
access_length img = cond (lacks_reserve (catalogue_of (view img))) 0 (9 * record_size)

-- a read of the file x was done: it has its access time set, every other file and the root are as they were
pub record AfterRead (name : List ℕ) (time : ℕ) (x : Contents) (img img' : List ℕ) : Type 0 where
  pub file : file_on img' name ≡ some (accessed_contents time x)
  pub others : (n : List ℕ) → name ≢ n → file_on img' n ≡ file_on img n
  pub root : root_on img' ≡ root_on img

-- a list was done: the root has it set, every file is as it was
pub record AfterList (time : ℕ) (img img' : List ℕ) : Type 0 where
  pub files : SameFiles img img'
  pub root : root_on img' ≡ accessed_root time (root_on img)

-- neither was
pub record Unset (img img' : List ℕ) : Type 0 where
  pub files : SameFiles img img'
  pub root : root_on img' ≡ root_on img

-- a call that asks for something and changes no file but for access times; calls, whole or cut, that are all such
abbrev pub asks : Call → Bool
asks summary = true
asks check = true
asks (find name) = true
asks (list i time room space) = true
asks (read name offset count time room space) = true
asks (create name id mode time room) = false
asks (delete name time room) = false
asks (resize name size time room) = false
asks (write name offset bytes time room) = false
asks (rename old new time room) = false
asks (rename_set names lengths time room) = false

abbrev pub OnlyAsk : List Feed → Type 0
OnlyAsk [] = Unit {0}
OnlyAsk (f ∷ fs) = (asks (call_of f) ≡ true) × OnlyAsk fs

-- what is said of a file but for its access time
abbrev pub but_access : Option Contents → Option Contents
but_access none = none
but_access (some x) = some (accessed_contents 0 x)
