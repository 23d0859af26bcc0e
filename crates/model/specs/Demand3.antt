-- "Demand 3 is a single claim about the run, not one for each call." "It fixes all answers but recovery's ..., what superblock, root,
-- directory and table say and the bytes of each file; journal, free extents, reserve and bytes past a file's end are outside it."
use Rattle.std.specs.Prelude.{ℕ, ◌<◌, ◌≡◌, true, cond, List, eqb, ltb, length}
use Rattle.std.proofs.Math.Option.{some}
use Rattle.model.specs.declared.State.TheVariants.{Clean}
use Rattle.model.specs.Bytes.{number_in}
use Rattle.model.specs.Geometry.{superblock_at, root_at, entry_at}
use Rattle.model.specs.Disk.{view}
use Rattle.model.specs.Superblock.{is_volume, geometry_in, state_on}
use Rattle.model.specs.Root.{root_in}
use Rattle.model.specs.Entry.{entry_field}
use Rattle.model.specs.Catalogue.{catalogue_of, is_free, file_bytes}
use Rattle.model.specs.WriteList.{list_length}
use Rattle.model.specs.Format.{Format}
use Rattle.model.specs.Recovery.{recovery_groups, recovery_answer, slice_groups, slice_answer}
use Rattle.model.specs.Ledger.{Ledger, File, catalogue, ledger_after, answers_to, Feed, Answer}
use Rattle.model.specs.Run.{Phase, steady, broken, Run}

-- the image says what the ledger says: the superblock magic, version, geometry and clean; the root its fields; the directory of
-- each slot its mark, 0 free or 65,535 occupied, and its entry's fields; the table of each extent free or whose it is; each file's
-- extents its bytes
pub record Says (L : Ledger) (img : List ℕ) : Type 0 where
  pub volume : is_volume (view img superblock_at) ≡ true
  pub geometry : geometry_in (view img superblock_at) ≡ L.geometry
  pub clean : state_on (view img) ≡ Clean
  pub root : root_in L.geometry.edition (view img root_at) ≡ L.root
  pub marks : (i : ℕ) → i < L.geometry.files → number_in (view img (entry_at i)) entry_field.mark ≡ cond (is_free (L.slots i)) 0 65535
  pub directory : (i : ℕ) → (catalogue_of (view img)).entries i ≡ (catalogue L).entries i
  pub table : (e : ℕ) → (catalogue_of (view img)).table e ≡ (catalogue L).table e
  pub bytes : (i : ℕ) (f : File) → L.slots i ≡ some f → file_bytes (catalogue_of (view img)) (view img) i 0 f.entry.size ≡ f.bytes

-- what is claimed at the end of a run; a run does not end in the broken phase
abbrev pub Settled : Phase → Ledger → List ℕ → Type 0
Settled steady L img = Says L img
Settled broken L img = Unit {0}

-- "Of recovery, demand 3 says that in a run it answers 0, or 14 exactly when its list is too short."
abbrev pub RecoveryAnswers : List ℕ → Type 0
RecoveryAnswers img = (room : ℕ) → (recovery_answer (length img) (view img) room).number ≡ cond (ltb room (list_length (recovery_groups (view img)))) 14 0

-- T-05: "Budget 0 is refused 8, .. in a run too"
abbrev pub SliceAnswers : List ℕ → Type 0
SliceAnswers img =
    (budget room : ℕ) → (slice_answer (length img) (view img) budget room).number
    ≡ cond (eqb budget 0) 8 (cond (ltb room (list_length (slice_groups (view img) budget))) 14 0)

-- DEMAND 3
unfoldable pub Demand3 : Type 0
Demand3 =
    (a : Format) (phase : Phase) (img : List ℕ) (fs : List Feed) (rs : List Answer) → Run a phase img fs rs
    → (rs ≡ answers_to a fs) × Settled phase (ledger_after a fs) img × RecoveryAnswers img × SliceAnswers img
