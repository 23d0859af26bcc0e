-- T-12: "at least K extents must stay free, anywhere", and staging "uses the K highest extents free before the call, in rising order". The sample, so K 1, with
-- volumes that another writer may make: a file "a" in the first entry, "b" in the fourth, and their extents anywhere.
use Rattle.std.specs.Prelude.{ℕ, ◌≡◌, true, false, cond, List, [], ◌∷◌, map, eqb, length, get_or, replicate}
use Rattle.std.proofs.Math.Option.{Option, none, some}
use Rattle.model.specs.Answers.{Changed, Verdict}
use Rattle.model.specs.Search.{any_below}
use Rattle.model.specs.Bytes.{ones_sector}
use Rattle.model.specs.Disk.{Disk}
use Rattle.model.specs.Entry.{new_entry_sector, updated_entry_sector}
use Rattle.model.specs.Table.{taken_in}
use Rattle.model.specs.Catalogue.{Catalogue, catalogue_of, free_extents, lacks_reserve, staging_extents}
use Rattle.model.specs.Refusals.{done, refusal}
use Rattle.model.specs.WriteList.{Decision, groups_for, stage_in}
use Rattle.model.specs.Summary.{check_answer}
use Rattle.model.specs.Listing.{list_answer}
use Rattle.model.specs.Read.{read_answer}
use Rattle.model.specs.Create.{create_decision, create_answer}
use Rattle.model.specs.Delete.{delete_decision, delete_answer}
use Rattle.model.specs.Resize.{resize_answer}
use Rattle.model.specs.Write.{no_room, write_decision, write_answer}
use Rattle.model.specs.Rename.{rename_answer}
use Rattle.model.specs.Repair.{repair_answer}
use Rattle.model.specs.Ledger.{File, Ledger, new_root, file_or, new_entry, updated_entry, Call, create, delete, resize, write, rename, list, read, listed, gave, answer, number_of, whole, ledger_from}
use Rattle.cases.specs.Cases.{shape, called, order, behind}
use Rattle.cases.specs.Literals.{sample_bytes}
use Rattle.cases.specs.Edges.{disk_of}
use Rattle.cases.specs.Repairs.{part}

-- ---- disks

abbrev pub entry_of_size : ℕ → ℕ → List ℕ
entry_of_size letter size = updated_entry_sector 1 size 0 (new_entry_sector 1 (called letter) letter 0 0)

-- "a" of this size with these two extents; "b" of this size with these
abbrev pub two_each : ℕ → ℕ → ℕ → ℕ → ℕ → ℕ → Disk
two_each size e f size2 e2 f2 = disk_of (entry_of_size 97 size) (entry_of_size 98 size2) (taken_in e 0 0 (taken_in f 0 1 (taken_in e2 3 0 (taken_in f2 3 1 ones_sector))))

-- all four extents are taken
abbrev pub none_free : Disk
none_free = two_each 65537 3 0 65537 2 1

-- only extent 0 is free: "a" has extents 3 and 2 and fills both, "b" has extent 1
abbrev pub one_free : Disk
one_free = disk_of (entry_of_size 97 131072) (entry_of_size 98 1) (taken_in 3 0 0 (taken_in 2 0 1 (taken_in 1 3 0 ones_sector)))

-- extents 0 and 2 are free: "a" has extent 1 and fills it, "b" has extent 3
abbrev pub two_free : Disk
two_free = disk_of (entry_of_size 97 65536) (entry_of_size 98 1) (taken_in 1 0 0 (taken_in 3 3 0 ones_sector))

-- "a" has extent 3 and "b" extent 2; extent 1 is no file's, and extent 0 too, or is free
abbrev pub strays : List ℕ → Disk
strays table = disk_of (entry_of_size 97 1) (entry_of_size 98 1) (taken_in 3 0 0 (taken_in 2 3 0 (taken_in 1 9 0 table)))

abbrev pub checks : Disk → Verdict
checks d = (check_answer sample_bytes d).verdict

-- calls that have a target: a create, a delete, a shrink, a rename, a write of one byte to "a"; with so many bytes of list
abbrev pub creates : Disk → ℕ → Changed
creates d room = create_answer sample_bytes d (called 99) 99 0 0 room

abbrev pub deletes : Disk → ℕ → Changed
deletes d room = delete_answer sample_bytes d (called 98) 0 room

abbrev pub shrinks : Disk → ℕ → Changed
shrinks d room = resize_answer sample_bytes d (called 97) 1 0 room

abbrev pub renames : Disk → ℕ → Changed
renames d room = rename_answer sample_bytes d (called 98) (called 99) 0 room

abbrev pub writes : Disk → ℕ → ℕ → Changed
writes d offset room = write_answer sample_bytes d (called 97) offset (7 ∷ []) 0 room

abbrev pub gives : ℕ → ℕ → Changed
gives number length = record { verdict = refusal number; length = length }

-- the order of the list that a call leaves
abbrev pub order_of : Disk → Decision → List ℕ
order_of d x = order (groups_for d x.plan)

-- ---- the same on the ledger

abbrev pub file_of_size : ℕ → ℕ → List ℕ → Option File
file_of_size letter size extents = some (record { entry = updated_entry size 0 (new_entry (called letter) letter 0 0); bytes = replicate size 0; extents = extents })

abbrev pub ledger_of : Option File → Option File → Ledger
ledger_of a b = record { geometry = shape 4 128; root = new_root 1 0 0; slots = λ i. cond (eqb i 0) a (cond (eqb i 3) b none) }

abbrev pub none_unheld : Ledger
none_unheld = ledger_of (file_of_size 97 65537 (3 ∷ 0 ∷ [])) (file_of_size 98 65537 (2 ∷ 1 ∷ []))

abbrev pub one_unheld : Ledger
one_unheld = ledger_of (file_of_size 97 131072 (3 ∷ 2 ∷ [])) (file_of_size 98 1 (1 ∷ []))

abbrev pub two_unheld : Ledger
two_unheld = ledger_of (file_of_size 97 65536 (1 ∷ [])) (file_of_size 98 1 (3 ∷ []))

abbrev pub numbers : Ledger → List Call → List ℕ
numbers L cs = map (λ c. number_of (answer c L)) cs

abbrev pub with_target : List Call
with_target =
    create (called 99) 99 0 0 9000 ∷ delete (called 98) 0 9000 ∷ resize (called 97) 1 0 9000 ∷ rename (called 98) (called 99) 0 9000
    ∷ write (called 97) 0 (7 ∷ []) 0 9000 ∷ []

-- the access times of the root and of "a" after a read of "a" and a list, both at 7, with so many bytes of list
abbrev pub times : Ledger → ℕ → List ℕ
times L space =
    let M = ledger_from L (whole (list 0 7 1 space) ∷ whole (read (called 97) 0 1 7 1 space) ∷ []) in
    M.root.access_time ∷ (file_or (M.slots 0)).entry.access_time ∷ []

-- ---- K 2: N 16,128, T 126, of which these extents are free

abbrev pub wide : List ℕ → Catalogue
wide free = record {
  geometry = shape 16128 128;
  root = record { version = 0; id = 1; mode = 0; access_time = 0; change_time = 0 };
  entries = λ i. none;
  table = λ e. cond (any_below (λ k. eqb (get_or free k 0) e) (length free)) none (part 0 e);
}

pub record Reserves : Type 0 where
  -- each of them is sound, and one with a file of N x E bytes; what is free, and where the staging is
  pub sound : (checks none_free ∷ checks one_free ∷ checks two_free ∷ []) ≡ (done ∷ done ∷ done ∷ [])
  pub most : checks (disk_of (entry_of_size 97 262144) (entry_of_size 98 0) (taken_in 0 0 3 (taken_in 1 0 0 (taken_in 2 0 1 (taken_in 3 0 2 ones_sector))))) ≡ done
  pub free : (free_extents (catalogue_of none_free) ∷ free_extents (catalogue_of one_free) ∷ free_extents (catalogue_of two_free) ∷ [])
      ≡ ([] ∷ (0 ∷ []) ∷ (0 ∷ 2 ∷ []) ∷ [])
  pub stages : (staging_extents (catalogue_of one_free) ∷ staging_extents (catalogue_of two_free) ∷ []) ≡ ((0 ∷ []) ∷ (2 ∷ []) ∷ [])
  -- "every call that has a target" is refused 13; before 14, and after 12 and 9
  pub frozen : (creates none_free 9000 ∷ deletes none_free 9000 ∷ shrinks none_free 9000 ∷ renames none_free 9000 ∷ writes none_free 0 9000 ∷ creates none_free 0 ∷ [])
      ≡ replicate 6 (gives 13 0)
  pub frozen-before : (writes none_free 65538 9000 ∷ delete_answer sample_bytes none_free (called 99) 0 9000 ∷ []) ≡ (gives 12 0 ∷ gives 9 0 ∷ [])
  -- none: a write of 0 bytes, a resize to the same size, a name renamed to itself
  pub frozen-idle : (write_answer sample_bytes none_free (called 97) 0 [] 0 0 ∷ resize_answer sample_bytes none_free (called 97) 65537 0 0
      ∷ rename_answer sample_bytes none_free (called 97) (called 97) 0 0 ∷ [])
      ≡ replicate 3 (gives 0 0)
  -- "read and list answer there with an empty write list"; 14 for the output
  pub frozen-read : (read_answer sample_bytes none_free (called 97) 0 1 7 1 0 ∷ read_answer sample_bytes none_free (called 97) 0 1 7 0 0 ∷ [])
      ≡ (record { verdict = done; count = 1; length = 0 } ∷ record { verdict = refusal 14; count = 0; length = 0 } ∷ [])
  pub frozen-list : list_answer sample_bytes none_free 0 7 1 0
      ≡ record {
        verdict = done;
        fields = record { size = 65537; version = 1; id = 97; mode = 0; access_time = 0; change_time = 0; name_length = 1 };
        length = 0;
      }
  -- K are free: what needs one more is refused 13, all else is done; 14 for its list
  pub exact : (writes one_free 131072 9000 ∷ creates one_free 5808 ∷ creates one_free 5807 ∷ deletes one_free 6864 ∷ writes one_free 0 5280 ∷ [])
      ≡ (gives 13 0 ∷ gives 0 5808 ∷ gives 14 0 ∷ gives 0 6864 ∷ gives 0 5280 ∷ [])
  -- its copies are in that extent
  pub exact-order : order_of one_free (create_decision sample_bytes one_free (called 99) 99 0 0 9000) ≡ (290 ∷ 291 ∷ 257 ∷ behind (1 ∷ 3 ∷ []))
  -- K + 1 are free: a write takes the lowest, extent 0, and its copies are in the highest, extent 2; those of a delete too
  pub grown-order : order_of two_free (write_decision sample_bytes two_free (called 97) 65536 (7 ∷ []) 0 9000) ≡ (290 ∷ 546 ∷ 547 ∷ 257 ∷ behind (2 ∷ 289 ∷ []))
  pub deleted-order : order_of two_free (delete_decision sample_bytes two_free (called 98) 0 9000) ≡ (546 ∷ 547 ∷ 548 ∷ 257 ∷ behind (1 ∷ 5 ∷ 289 ∷ []))
  -- the ledger gives the same numbers
  pub ledger-frozen : numbers none_unheld with_target ≡ replicate 5 13
  pub ledger-before : numbers none_unheld (create (called 99) 99 0 0 0 ∷ write (called 97) 65538 (7 ∷ []) 0 0 ∷ delete (called 99) 0 0 ∷ []) ≡ (13 ∷ 12 ∷ 9 ∷ [])
  pub ledger-idle : numbers none_unheld (write (called 97) 0 [] 0 0 ∷ resize (called 97) 65537 0 0 ∷ rename (called 97) (called 97) 0 0 ∷ []) ≡ replicate 3 0
  pub ledger-read : (answer (read (called 97) 0 1 7 1 0) none_unheld ∷ [])
      ≡ (gave (record { verdict = done; count = 1; length = 0 }) (0 ∷ []) ∷ [])
  pub ledger-list : answer (list 0 7 1 0) none_unheld
      ≡ listed (record {
        verdict = done;
        fields = record { size = 65537; version = 1; id = 97; mode = 0; access_time = 0; change_time = 0; name_length = 1 };
        length = 0;
      }) (called 97)
  -- "the access time stays", and is set where K are free
  pub ledger-times : (times none_unheld 0 ∷ times one_unheld 4752 ∷ []) ≡ ((0 ∷ 0 ∷ []) ∷ (7 ∷ 7 ∷ []) ∷ [])
  pub ledger-exact : numbers one_unheld (write (called 97) 131072 (7 ∷ []) 0 9000 ∷ with_target) ≡ (13 ∷ 0 ∷ 0 ∷ 0 ∷ 0 ∷ 0 ∷ [])
  pub ledger-grown : numbers two_unheld (write (called 97) 65536 (7 ∷ []) 0 9000 ∷ with_target) ≡ replicate 6 0
  -- repair: 13 where none is free, before 14; with one free it frees the other stray, and the last extent, which is a file's, stays
  pub repairs : (repair_answer sample_bytes (strays (taken_in 0 9 0 ones_sector)) 9000 ∷ repair_answer sample_bytes (strays (taken_in 0 9 0 ones_sector)) 0
      ∷ repair_answer sample_bytes (strays ones_sector) 4752 ∷ repair_answer sample_bytes (strays ones_sector) 4751 ∷ repair_answer sample_bytes none_free 0 ∷ [])
      ≡ (record { verdict = refusal 13; freed = 0; length = 0 } ∷ record { verdict = refusal 13; freed = 0; length = 0 }
      ∷ record { verdict = done; freed = 1; length = 4752 } ∷ record { verdict = refusal 14; freed = 0; length = 0 }
      ∷ record { verdict = done; freed = 0; length = 0 } ∷ [])
  -- K 2: the two highest, in rising order, and copies 0, 127, 128, 129 in them
  pub pair : staging_extents (wide (16000 ∷ 7 ∷ 9000 ∷ [])) ≡ (9000 ∷ 16000 ∷ [])
  pub pair-stages : map (stage_in (shape 16128 128) (9000 ∷ 16000 ∷ [])) (0 ∷ 127 ∷ 128 ∷ 129 ∷ []) ≡ (1152415 ∷ 1152542 ∷ 2048415 ∷ 2048416 ∷ [])
  pub pair-free : (lacks_reserve (wide (9000 ∷ [])) ∷ lacks_reserve (wide (9000 ∷ 16000 ∷ [])) ∷ []) ≡ (true ∷ false ∷ [])
  pub pair-room : (no_room (wide (9000 ∷ 16000 ∷ [])) 0 1 ∷ no_room (wide (7 ∷ 9000 ∷ 16000 ∷ [])) 0 1 ∷ []) ≡ (true ∷ false ∷ [])
