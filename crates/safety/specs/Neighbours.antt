-- T-14: NEIGHBOURS THAT DON'T DISTURB EACH OTHER. "Take two neighbouring calls by name (list is left out) that share no name, neither cut,
-- each accepted in either order. Exchange them, and the files by name have the same sizes, bytes, ids, modes, versions and times. Slot and
-- extent numbers and the root's times may differ." It is said of blocks of calls too: a save is one, and a block of one call is a call.
use Rattle.std.specs.Prelude.{ℕ, ◌+◌, max, ◌≡◌, ◌≢◌, Bool, cond, List, [], ◌∷◌, ◌++◌, eqb, length}
use Rattle.std.proofs.Math.Option.{Option, none, some, map}
use Rattle.model.specs.Bytes.{bytes_from, put}
use Rattle.model.specs.Search.{equal_bytes}
use Rattle.model.specs.Geometry.{FileNumber}
use Rattle.model.specs.Root.{Root}
use Rattle.model.specs.Format.{Format}
use Rattle.model.specs.Ledger.{Ledger, File, first_ledger, Call, summary, check, find, list, read, create, delete, resize, write, rename, rename_set, Answer}
use Rattle.model.specs.Ledger.{number_of, new_entry, updated_entry, names_of, pairs_of, answer, Feed, whole, cut_marked, cut_unmarked, ledger_from, answers_from}
use Rattle.model.specs.Run.{arguments}
use Rattle.safety.specs.Described.{SoundAs}
use Rattle.safety.specs.Naming.{NotAmong, Contents, file_in, OneName}
use Rattle.safety.specs.Saving.{OnlyOf}
use Rattle.safety.specs.Accessing.{accessed_contents}
use Rattle.safety.specs.RenameSet.{Files, renamed_files, files_after_renames}

-- ---- what the ledger was fed before

-- "A call with an empty list can't be cut": each of the cut calls was accepted
abbrev pub Accepted : Feed → Ledger → Type 0
Accepted (whole c) L = Unit {0}
Accepted (cut_marked c) L = number_of (answer c L) ≡ 0
Accepted (cut_unmarked c mask) L = number_of (answer c L) ≡ 0

abbrev pub AllAccepted : Ledger → List Feed → Type 0
AllAccepted L₀ [] = Unit {0}
AllAccepted L₀ (f ∷ fs) = Accepted f (ledger_from L₀ fs) × AllAccepted L₀ fs

-- ---- the neighbours, the latest first

-- "neither cut"
abbrev pub wholes : List Call → List Feed
wholes [] = []
wholes (c ∷ cs) = whole c ∷ wholes cs

-- the names that they take, of a rename both, of a set of renames all. Find changes no file: it has none to share
abbrev pub names_in : List Call → List (List ℕ)
names_in [] = []
names_in (c ∷ cs) = (arguments c).files ++ names_in cs

-- "that share no name"
abbrev pub ShareNone : List (List ℕ) → List (List ℕ) → Type 0
ShareNone [] ms = Unit {0}
ShareNone (n ∷ ns) ms = NotAmong n ms × ShareNone ns ms

-- "accepted": the latest answers, one for each of these calls, are 0
abbrev pub AllZero : List Call → List Answer → Type 0
AllZero [] rs = Unit {0}
AllZero (c ∷ cs) [] = ⊥
AllZero (c ∷ cs) (r ∷ rs) = (number_of r ≡ 0) × AllZero cs rs

-- "each accepted in either order": us were the answers where ds came after cs, and vs where cs came after ds
pub record EitherOrder (cs ds : List Call) (us vs : List Answer) : Type 0 where
  pub one : AllZero (ds ++ cs) us
  pub other : AllZero (cs ++ ds) vs

-- ---- what comes out the same

abbrev pub root_but_times : Root → Root
root_but_times r = record { version = r.version; id = r.id; mode = r.mode; access_time = 0; change_time = 0 }

-- of each name no file, or one with the same entry (size, version, id, mode, both times) and the same bytes; and the root but for its times
pub record SameByName (X Y : Ledger) : Type 0 where
  pub files : (name : List ℕ) → file_in X name ≡ file_in Y name
  pub root : root_but_times X.root ≡ root_but_times Y.root

-- THE CLAIM, of the ledger L₀ and whatever it was fed: c and then d, d and then c
abbrev pub NeighboursFrom : Ledger → Type 0
NeighboursFrom L₀ =
    (fs : List Feed) → AllAccepted L₀ fs → (c d : Call) → ShareNone (arguments c).files (arguments d).files
    → EitherOrder (c ∷ []) (d ∷ []) (answers_from L₀ (whole d ∷ whole c ∷ fs)) (answers_from L₀ (whole c ∷ whole d ∷ fs))
    → SameByName (ledger_from L₀ (whole d ∷ whole c ∷ fs)) (ledger_from L₀ (whole c ∷ whole d ∷ fs))

-- after a format, and from any sound volume on
unfoldable pub Neighbours : Type 0
Neighbours = (a : Format) → NeighboursFrom (first_ledger a)

unfoldable pub SoundNeighbours : Type 0
SoundNeighbours = (L : Ledger) (img : List ℕ) → SoundAs L img → NeighboursFrom L

-- ---- two saves

-- calls that change the file of a temporary name alone, and then its rename onto the name
pub record Save : Type 0 where
  pub temporary : List ℕ
  pub name : List ℕ
  pub making : List Call
  pub only : OnlyOf temporary (wholes making)
  pub time : ℕ
  pub room : ℕ

abbrev pub calls_of : Save → List Call
calls_of s = rename s.temporary s.name s.time s.room ∷ s.making

-- of different files, and no temporary name is the other's
abbrev pub Different : Save → Save → Type 0
Different s t = (s.temporary ≢ t.temporary) × (s.temporary ≢ t.name) × (s.name ≢ t.temporary) × (s.name ≢ t.name)

-- ---- the ledgers of which it holds

-- no two files of one name, and each has as many bytes as its size says: a format's ledger, that of a sound volume, and each that calls make of one
pub record Orderly (L : Ledger) : Type 0 where
  pub named : OneName L
  pub sized : (i : FileNumber) (f : File) → L.slots i ≡ some f → length f.bytes ≡ f.entry.size

-- ---- what a call that is accepted makes of the files by name

-- all as they were, but for one name
abbrev pub with_named : Files → List ℕ → Option Contents → Files
with_named files m o n = cond (equal_bytes m n) o (files n)

abbrev pub with_changed : Files → List ℕ → (Contents → Contents) → Files
with_changed files m f = with_named files m (map f (files m))

abbrev pub new_contents : List ℕ → ℕ → ℕ → ℕ → Contents
new_contents name id mode time = record { entry = new_entry name id mode time; bytes = [] }

abbrev pub resized_contents : ℕ → ℕ → Contents → Contents
resized_contents size time x = record { entry = cond (eqb size x.entry.size) x.entry (updated_entry size time x.entry); bytes = bytes_from x.bytes 0 size }

abbrev pub written_contents : ℕ → List ℕ → ℕ → Contents → Contents
written_contents offset bytes time x =
    let size = max x.entry.size (offset + length bytes) in
    record { entry = updated_entry size time x.entry; bytes = put (bytes_from x.bytes 0 size) offset bytes }

-- T-12: on a frozen ledger "the access time stays"
abbrev pub files_after : Bool → Call → Files → Files
files_after frozen summary files = files
files_after frozen check files = files
files_after frozen (find name) files = files
files_after frozen (list i time room space) files = files
files_after frozen (read name offset count time room space) files = cond frozen files (with_changed files name (accessed_contents time))
files_after frozen (create name id mode time room) files = with_named files name (some (new_contents name id mode time))
files_after frozen (delete name time room) files = with_named files name none
files_after frozen (resize name size time room) files = with_changed files name (resized_contents size time)
files_after frozen (write name offset bytes time room) files = cond (eqb (length bytes) 0) files (with_changed files name (written_contents offset bytes time))
files_after frozen (rename old new time room) files = renamed_files old new time files
files_after frozen (rename_set names lengths time room) files = files_after_renames (pairs_of (names_of names lengths)) time files
