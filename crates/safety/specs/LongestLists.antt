-- NO LIST IS LONGER than the longest of its call by the geometry alone, and no call that is lent a list so long is refused for it.
use Rattle.std.specs.Prelude.{ℕ, ◌≤◌, ◌≢◌, List, length}
use Rattle.model.specs.Disk.{view}
use Rattle.model.specs.Catalogue.{catalogue_of, entry_of}
use Rattle.model.specs.WriteList.{groups_for, list_length}
use Rattle.model.specs.Repair.{repair_answer}
use Rattle.model.specs.Recovery.{recovery_answer, slice_answer}
use Rattle.model.specs.Lengths.{longest_list}
use Rattle.model.specs.Ledger.{Call, summary, check, find, list, read, create, delete, resize, write, rename, rename_set, number_of}
use Rattle.model.specs.Run.{volume_answer, volume_plan}
use Rattle.safety.specs.Room.{geometry_on}

-- a call's number there; 0 of one that gives no list. 8 is a repair's, 9 a recovery's, 10 a slice's
abbrev pub call_number : Call → ℕ
call_number summary = 0
call_number check = 0
call_number (find name) = 0
call_number (list i time room space) = 1
call_number (read name offset count time room space) = 1
call_number (create name id mode time room) = 2
call_number (delete name time room) = 3
call_number (rename old new time room) = 4
call_number (rename_set names lengths time room) = 5
call_number (resize name size time room) = 6
call_number (write name offset bytes time room) = 7

-- the length of the list that a call is lent
abbrev pub list_room : Call → ℕ
list_room summary = 0
list_room check = 0
list_room (find name) = 0
list_room (list i time room space) = space
list_room (read name offset count time room space) = space
list_room (create name id mode time room) = room
list_room (delete name time room) = room
list_room (rename old new time room) = room
list_room (rename_set names lengths time room) = room
list_room (resize name size time room) = room
list_room (write name offset bytes time room) = room

-- the output, of the calls that have one, is long enough: for the name that is listed, for the bytes that are asked for
abbrev pub OutputFits : Call → List ℕ → Type 0
OutputFits summary img = Unit {0}
OutputFits check img = Unit {0}
OutputFits (find name) img = Unit {0}
OutputFits (list i time room space) img = length (entry_of (catalogue_of (view img)) i).name ≤ room
OutputFits (read name offset count time room space) img = count ≤ room
OutputFits (create name id mode time room) img = Unit {0}
OutputFits (delete name time room) img = Unit {0}
OutputFits (rename old new time room) img = Unit {0}
OutputFits (rename_set names lengths time room) img = Unit {0}
OutputFits (resize name size time room) img = Unit {0}
OutputFits (write name offset bytes time room) img = Unit {0}

-- of any image, sound or not
pub record NoLonger (img : List ℕ) : Type 0 where
  pub calls : (c : Call) → list_length (groups_for (view img) (volume_plan c img)) ≤ longest_list (call_number c) (geometry_on img)
  pub never14 : (c : Call) → longest_list (call_number c) (geometry_on img) ≤ list_room c → OutputFits c img → number_of (volume_answer c img) ≢ 14
  pub repairs : (room : ℕ)
      → ((repair_answer (length img) (view img) room).length ≤ longest_list 8 (geometry_on img))
      × (longest_list 8 (geometry_on img) ≤ room → (repair_answer (length img) (view img) room).verdict.number ≢ 14)
  pub recoveries : (room : ℕ)
      → ((recovery_answer (length img) (view img) room).length ≤ longest_list 9 (geometry_on img))
      × (longest_list 9 (geometry_on img) ≤ room → (recovery_answer (length img) (view img) room).number ≢ 14)
  pub slices : (budget room : ℕ)
      → ((slice_answer (length img) (view img) budget room).length ≤ longest_list 10 (geometry_on img))
      × (longest_list 10 (geometry_on img) ≤ room → (slice_answer (length img) (view img) budget room).number ≢ 14)
