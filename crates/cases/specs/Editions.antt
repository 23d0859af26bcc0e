-- T-08: what differs on an edition 2 volume, as literal bytes and by both sides of each bound; and a wide time on one of edition 1.
-- Sample: 1,313 sectors, F 255, as in the other tables.
use Rattle.std.specs.Prelude.{ℕ, ◌-◌, ◌^◌, ◌≡◌, cond, List, [], ◌∷◌, eqb, replicate}
use Rattle.model.specs.declared.State.TheVariants.{Clean}
use Rattle.model.specs.declared.Geometry.{Geometry}
use Rattle.model.specs.Answers.{Verdict}
use Rattle.model.specs.Bytes.{bytes_from, zero_sector, ones_sector}
use Rattle.model.specs.Disk.{Disk}
use Rattle.model.specs.Superblock.{new_superblock}
use Rattle.model.specs.Root.{new_root_sector, updated_root_sector}
use Rattle.model.specs.Entry.{new_entry_sector, updated_entry_sector, renamed_entry_sector}
use Rattle.model.specs.Refusals.{done}
use Rattle.model.specs.Summary.{superblock_answer, check_answer}
use Rattle.model.specs.Format.{Format, geometry_for, format_answer}
use Rattle.model.specs.Ledger.{Ledger, find, list, read, create, delete, resize, write, rename, Call, answer, number_of, whole, ledger_after}
use Rattle.cases.specs.Cases.{called}
use Rattle.cases.specs.Literals.{padded, sample_bytes}

-- ---- literal bytes

-- the sample's geometry in an edition
abbrev pub shape_of : ℕ → Geometry
shape_of edition = record { files = 255; extents = 4; extent_sectors = 128; edition = edition }

-- its clean superblock, with a version given
abbrev pub superblock_of : ℕ → List ℕ
superblock_of version = padded (0 ∷ 255 ∷ 0 ∷ 4 ∷ 0 ∷ 0 ∷ 0 ∷ 128 ∷ 47 ∷ 71 ∷ 111 ∷ 111 ∷ 47 ∷ 70 ∷ 83 ∷ 47 ∷ 0 ∷ version ∷ [])

abbrev pub opens : ℕ → ℕ
opens version = (superblock_answer 512 (λ k. superblock_of version)).number

-- times whose eight bytes all differ: 1 to 8, and 17 to 24
abbrev pub made : ℕ
made = 72623859790382856

abbrev pub changed : ℕ
changed = 1230066625199609624

-- ---- a disk of either edition with one empty file, of that name

abbrev pub disk_of : ℕ → List ℕ → Disk
disk_of edition name k =
    cond (eqb k 0) (superblock_of edition)
    (cond (eqb k 1) (new_root_sector edition 1 0 0) (cond (eqb k 2) (new_entry_sector edition name 5 0 0) (cond (eqb k 289) ones_sector zero_sector)))

abbrev pub checks : ℕ → ℕ → Verdict
checks edition n = (check_answer sample_bytes (disk_of edition (replicate n 97))).verdict

-- ---- formats and calls

abbrev pub format_of : ℕ → ℕ → Format
format_of edition time = record { sectors = 1313; files = 255; edition = edition; id = 1; mode = 0; time = time }

abbrev pub formats : ℕ → ℕ → ℕ → ℕ
formats edition time position = (format_answer (format_of edition time) position 528).number

-- a volume of an edition with a file "a"
abbrev pub after : ℕ → Ledger
after edition = ledger_after (format_of edition 0) (whole (create (called 97) 97 0 0 5808) ∷ [])

abbrev pub gives : ℕ → Call → ℕ
gives edition c = number_of (answer c (after edition))

-- what each call that takes a time answers: create, delete, a resize to the same size, a write of 0 bytes, a rename, one to itself, a list, a
-- read of 0 bytes, and the delete of a name that isn't there
abbrev pub timed : ℕ → ℕ → List ℕ
timed edition time =
    gives edition (create (called 98) 98 0 time 5808) ∷ gives edition (delete (called 97) time 5808)
    ∷ gives edition (resize (called 97) 0 time 0) ∷ gives edition (write (called 97) 0 [] time 0)
    ∷ gives edition (rename (called 97) (called 98) time 5808) ∷ gives edition (rename (called 97) (called 97) time 0)
    ∷ gives edition (list 0 time 1 4752) ∷ gives edition (read (called 97) 0 0 time 0 4752) ∷ gives edition (delete (called 98) time 5808) ∷ []

-- names of so many bytes: found, created, and given by a rename
abbrev pub named : ℕ → ℕ → List ℕ
named edition n =
    gives edition (find (replicate n 97)) ∷ gives edition (create (replicate n 97) 98 0 0 5808)
    ∷ gives edition (rename (called 97) (replicate n 97) 0 5808) ∷ []

pub record Editions : Type 0 where
  -- the superblock's version is the edition; written, and read back with it
  pub superblock : new_superblock (shape_of 2) 0 ≡ superblock_of 2
  pub read_back : superblock_answer 512 (λ k. superblock_of 2) ≡ record { number = 0; summary = record { geometry = shape_of 2; state = Clean } }
  pub geometry : geometry_for 1313 255 2 ≡ shape_of 2
  -- "Any other version is refused 2"
  pub versions : (opens 0 ∷ opens 1 ∷ opens 2 ∷ opens 3 ∷ []) ≡ (2 ∷ 0 ∷ 0 ∷ 2 ∷ [])
  -- root: 0 version, 4 id, 12 mode, 16 access time (8), 24 change time (8); and its version up, its change time set
  pub root : new_root_sector 2 258 286397204 made
      ≡ padded (0 ∷ 0 ∷ 0 ∷ 0 ∷ 0 ∷ 0 ∷ 0 ∷ 0 ∷ 0 ∷ 0 ∷ 1 ∷ 2 ∷ 17 ∷ 18 ∷ 19 ∷ 20 ∷ 1 ∷ 2 ∷ 3 ∷ 4 ∷ 5 ∷ 6 ∷ 7 ∷ 8 ∷ 1 ∷ 2 ∷ 3 ∷ 4 ∷ 5 ∷ 6 ∷ 7 ∷ 8 ∷ [])
  pub root-updated : updated_root_sector 2 changed (new_root_sector 2 258 286397204 made)
      ≡ padded (0 ∷ 0 ∷ 0 ∷ 1 ∷ 0 ∷ 0 ∷ 0 ∷ 0 ∷ 0 ∷ 0 ∷ 1 ∷ 2 ∷ 17 ∷ 18 ∷ 19 ∷ 20 ∷ 1 ∷ 2 ∷ 3 ∷ 4 ∷ 5 ∷ 6 ∷ 7 ∷ 8 ∷ 17 ∷ 18 ∷ 19 ∷ 20 ∷ 21 ∷ 22 ∷ 23 ∷ 24 ∷ [])
  -- entry: 0 mark, 2 size, 10 version, 14 id, 22 mode, 26 access time (8), 34 change time (8), 42 name length, 44 name
  pub created : new_entry_sector 2 (104 ∷ 105 ∷ []) 258 286397204 made
      ≡ padded (255 ∷ 255 ∷ 0 ∷ 0 ∷ 0 ∷ 0 ∷ 0 ∷ 0 ∷ 0 ∷ 0 ∷ 0 ∷ 0 ∷ 0 ∷ 0 ∷ 0 ∷ 0 ∷ 0 ∷ 0 ∷ 0 ∷ 0 ∷ 1 ∷ 2 ∷ 17 ∷ 18 ∷ 19 ∷ 20
      ∷ 1 ∷ 2 ∷ 3 ∷ 4 ∷ 5 ∷ 6 ∷ 7 ∷ 8 ∷ 1 ∷ 2 ∷ 3 ∷ 4 ∷ 5 ∷ 6 ∷ 7 ∷ 8 ∷ 0 ∷ 2 ∷ 104 ∷ 105 ∷ [])
  -- a write's: size 258, version up, change time set; and a rename's, from "hi" to "a", with no byte of the old name behind the new one
  pub written : bytes_from (updated_entry_sector 2 258 changed (new_entry_sector 2 (104 ∷ 105 ∷ []) 258 286397204 made)) 0 46
      ≡ (255 ∷ 255 ∷ 0 ∷ 0 ∷ 0 ∷ 0 ∷ 0 ∷ 0 ∷ 1 ∷ 2 ∷ 0 ∷ 0 ∷ 0 ∷ 1 ∷ 0 ∷ 0 ∷ 0 ∷ 0 ∷ 0 ∷ 0 ∷ 1 ∷ 2 ∷ 17 ∷ 18 ∷ 19 ∷ 20
      ∷ 1 ∷ 2 ∷ 3 ∷ 4 ∷ 5 ∷ 6 ∷ 7 ∷ 8 ∷ 17 ∷ 18 ∷ 19 ∷ 20 ∷ 21 ∷ 22 ∷ 23 ∷ 24 ∷ 0 ∷ 2 ∷ 104 ∷ 105 ∷ [])
  pub renamed : renamed_entry_sector 2 (97 ∷ []) changed (new_entry_sector 2 (104 ∷ 105 ∷ []) 258 286397204 made)
      ≡ padded (255 ∷ 255 ∷ 0 ∷ 0 ∷ 0 ∷ 0 ∷ 0 ∷ 0 ∷ 0 ∷ 0 ∷ 0 ∷ 0 ∷ 0 ∷ 1 ∷ 0 ∷ 0 ∷ 0 ∷ 0 ∷ 0 ∷ 0 ∷ 1 ∷ 2 ∷ 17 ∷ 18 ∷ 19 ∷ 20
      ∷ 1 ∷ 2 ∷ 3 ∷ 4 ∷ 5 ∷ 6 ∷ 7 ∷ 8 ∷ 17 ∷ 18 ∷ 19 ∷ 20 ∷ 21 ∷ 22 ∷ 23 ∷ 24 ∷ 0 ∷ 1 ∷ 97 ∷ [])
  -- P10 on edition 2: names of 468 bytes and of 469, in any call by name, and 469 on edition 1; and fault 22
  pub names : (named 2 468 ∷ named 2 469 ∷ named 1 469 ∷ []) ≡ ((9 ∷ 0 ∷ 0 ∷ []) ∷ (8 ∷ 8 ∷ 8 ∷ []) ∷ (9 ∷ 0 ∷ 0 ∷ []) ∷ [])
  pub long-names : (checks 2 468 ∷ checks 2 469 ∷ checks 1 469 ∷ [])
      ≡ (done ∷ record { number = 7; fault = 22; place = 0 } ∷ done ∷ [])
  -- 4,294,967,295 and one more on edition 1, also where nothing would be stored; and the widest time on edition 2
  pub narrow : timed 1 4294967295 ≡ (0 ∷ 0 ∷ 0 ∷ 0 ∷ 0 ∷ 0 ∷ 0 ∷ 0 ∷ 9 ∷ [])
  pub wide : timed 1 4294967296 ≡ (8 ∷ 8 ∷ 8 ∷ 8 ∷ 8 ∷ 8 ∷ 8 ∷ 8 ∷ 8 ∷ [])
  pub widest : timed 2 (2 ^ 64 - 1) ≡ (0 ∷ 0 ∷ 0 ∷ 0 ∷ 0 ∷ 0 ∷ 0 ∷ 0 ∷ 9 ∷ [])
  -- formats of editions 0 to 3; a wide time; and 8 before 9
  pub formatted : (formats 0 0 0 ∷ formats 1 0 0 ∷ formats 2 0 0 ∷ formats 3 0 0 ∷ formats 1 4294967295 0 ∷ formats 1 4294967296 0
      ∷ formats 2 (2 ^ 64 - 1) 0 ∷ formats 3 0 262 ∷ formats 1 4294967296 262 ∷ formats 2 0 262 ∷ [])
      ≡ (8 ∷ 0 ∷ 0 ∷ 8 ∷ 0 ∷ 8 ∷ 0 ∷ 8 ∷ 8 ∷ 9 ∷ [])
