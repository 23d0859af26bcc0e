-- "P1 to P10 form a single table with a single statement about the definitions (P6 to P9 about the list's order and the four table
-- entries, not a whole image)." Sample: 1,313 sectors, F 255.
use Rattle.std.specs.Prelude.{ℕ, ◌*◌, ◌≡◌, List, [], ◌∷◌, ◌++◌, length, replicate, Some, None}
use Rattle.std.proofs.Math.Option.{Option, none, some}
use Rattle.model.specs.declared.Geometry.{Geometry}
use Rattle.model.specs.Search.{tabulate}
use Rattle.model.specs.Geometry.{table_sectors, reserve_extents, journal_at, table_at, data_at, reserve_at}
use Rattle.model.specs.Disk.{Disk}
use Rattle.model.specs.Catalogue.{Owner, Catalogue}
use Rattle.model.specs.Refusals.{done}
use Rattle.model.specs.WriteList.{Plan, Group, staging, groups_of, closed, list_length, record_count, sectors_of}
use Rattle.model.specs.Format.{Format, geometry_for, format_answer}
use Rattle.model.specs.Create.{create_plan}
use Rattle.model.specs.Write.{write_plan}
use Rattle.model.specs.Rename.{rename_plan}
use Rattle.model.specs.Ledger.{Ledger, catalogue, Call, create, delete, write, rename, changed, answer, number_of, Feed, whole, ledger_after}

-- a format with F 255, of edition 1, as all of this table
abbrev pub format_of : ℕ → Format
format_of sectors = record { sectors = sectors; files = 255; edition = 1; id = 1; mode = 0; time = 0 }

abbrev pub sample : Format
sample = format_of 1313

abbrev pub shape : ℕ → ℕ → Geometry
shape extents extent_sectors = record { files = 255; extents = extents; extent_sectors = extent_sectors; edition = 1 }

-- a format that is accepted: its first record is given
abbrev pub Accepted : ℕ → Type 0
Accepted sectors = format_answer (format_of sectors) 0 528 ≡ record { number = 0; length = 528 }

-- the numbers by which P1 is known: T, K, journal, table, data, reserve
abbrev pub areas : Geometry → List ℕ
areas g = table_sectors g ∷ reserve_extents g ∷ journal_at g ∷ table_at g ∷ data_at g ∷ reserve_at g ∷ []

-- ---- calls on the sample

-- a name of one letter
abbrev pub called : ℕ → List ℕ
called letter = letter ∷ []

abbrev pub makes : ℕ → Feed
makes letter = whole (create (called letter) letter 0 0 5808)

-- 65,536 bytes, which an extent of the sample holds
abbrev pub extentful : List ℕ
extentful = replicate 65536 0

abbrev pub fills : ℕ → Feed
fills letter = whole (write (called letter) 0 extentful 0 73392)

-- "three such files full", and one of them deleted; the latest call stands first
abbrev pub full : List Feed
full = fills 99 ∷ makes 99 ∷ fills 98 ∷ makes 98 ∷ fills 97 ∷ makes 97 ∷ []

abbrev pub deleted : List Feed
deleted = whole (delete (called 98) 0 10000) ∷ full

-- two files, of which the first is full; the second renamed onto the first
abbrev pub pair : List Feed
pair = makes 98 ∷ fills 97 ∷ makes 97 ∷ []

abbrev pub replaced : Feed
replaced = whole (rename (called 98) (called 97) 7 7920)

-- "one byte more"
abbrev pub one_more : Call
one_more = write (called 97) 65536 (1 ∷ []) 0 10000

abbrev pub after : List Feed → Ledger
after fs = ledger_after sample fs

abbrev pub known : List Feed → Catalogue
known fs = catalogue (after fs)

-- ---- what is said of them

-- the list of a plan that is made after these calls, and its order: its sector numbers, barriers among them
abbrev pub groups : List Feed → Disk → Plan → List Group
groups fs d p = groups_of (shape 4 128) (staging (known fs) (length p.targets)) d p

abbrev pub order : List Group → List ℕ
order gs = sectors_of (closed gs)

-- the order of groups B to D of a call with these targets, behind group A; a barrier's number is written out
abbrev pub behind : List ℕ → List ℕ
behind targets =
    18446744073709551615 ∷ 0 ∷ 18446744073709551615 ∷ (targets ++ (18446744073709551615 ∷ 0 ∷ 18446744073709551615 ∷ []))

-- the four table entries
abbrev pub owned : ℕ → ℕ → Option Owner
owned i offset = some (record { file = i; offset = offset })

abbrev pub table : List Feed → List (Option Owner)
table fs = tabulate (known fs).table 0 4

pub record Cases : Type 0 where
  -- P1 the geometry: journal 257, table 289, data 290, reserve from 674
  pub P1 : geometry_for 1313 255 1 ≡ shape 4 128
  pub P1-accepted : Accepted 1313
  pub P1-areas : areas (shape 4 128) ≡ (1 ∷ 1 ∷ 257 ∷ 289 ∷ 290 ∷ 674 ∷ [])
  -- P2 1,057 sectors give N 2; P3 1,056 refused 8
  pub P2 : geometry_for 1057 255 1 ≡ shape 2 128
  pub P2-accepted : Accepted 1057
  pub P3 : (format_answer (format_of 1056) 0 528).number ≡ 8
  -- P4 8,389,408 give S 128, N 65,535; P5 8,389,409 give S 256, N 32,768
  pub P4 : geometry_for 8389408 255 1 ≡ shape 65535 128
  pub P4-accepted : Accepted 8389408
  pub P5 : geometry_for 8389409 255 1 ≡ shape 32768 256
  pub P5-accepted : Accepted 8389409
  -- P6 first create in the sample writes sectors 674, 675, 257, barrier, 0, barrier, 1, 2, barrier, 0, barrier: 11 records, 5,720 bytes
  pub P6 : (d : Disk) → order (groups [] d (create_plan (known []) d (called 97) 97 0 0)) ≡ (674 ∷ 675 ∷ 257 ∷ behind (1 ∷ 2 ∷ []))
  pub P6-length : (d : Disk) → list_length (groups [] d (create_plan (known []) d (called 97) 97 0 0)) ≡ 5808
  pub P6-answer : answer (create (called 97) 97 0 0 5808) (after []) ≡ changed (record { verdict = done; length = 11 * 528 })
  -- P7 65,536 bytes into that empty file: 139 records; 65,537 is refused 8
  pub P7 : (d : Disk) → order (groups (makes 97 ∷ []) d (write_plan (known (makes 97 ∷ [])) 0 d 0 extentful 0))
      ≡ (tabulate (λ k. k) 290 128 ++ (674 ∷ 675 ∷ 257 ∷ behind (2 ∷ 289 ∷ [])))
  pub P7-length : answer (write (called 97) 0 extentful 0 73392) (after (makes 97 ∷ [])) ≡ changed (record { verdict = done; length = 139 * 528 })
  pub P7-table : table (fills 97 ∷ makes 97 ∷ []) ≡ (owned 0 0 ∷ none ∷ none ∷ none ∷ [])
  pub P7-refused : number_of (answer (write (called 97) 0 (replicate 65537 0) 0 73392) (after (makes 97 ∷ []))) ≡ 8
  -- P8 three such files full, then one byte more: 13
  pub P8 : number_of (answer one_more (after full)) ≡ 13
  pub P8-table : table full ≡ (owned 0 0 ∷ owned 1 0 ∷ owned 2 0 ∷ none ∷ [])
  -- P9 after a delete: 0
  pub P9 : number_of (answer one_more (after deleted)) ≡ 0
  pub P9-table : table deleted ≡ (owned 0 0 ∷ none ∷ owned 2 0 ∷ none ∷ [])
  pub P9-after : table (whole one_more ∷ deleted) ≡ (owned 0 0 ∷ owned 0 1 ∷ owned 2 0 ∷ none ∷ [])
  pub P9-order : (d : Disk) → order (groups deleted d (write_plan (known deleted) 0 d 65536 (1 ∷ []) 0)) ≡ (418 ∷ 674 ∷ 675 ∷ 257 ∷ behind (2 ∷ 289 ∷ []))
  -- P10 name of 476 bytes taken, of 477 refused 8
  pub P10 : number_of (answer (create (replicate 476 97) 97 0 0 5808) (after [])) ≡ 0
  pub P10-refused : number_of (answer (create (replicate 477 97) 97 0 0 5808) (after [])) ≡ 8
  -- longest delete: 514 targets, 17 journal sectors, 1,051 records
  pub longest : record_count 0 514 ≡ 1051
  -- T-01: "a" full and "b", then "a" to "b": root, "a" renamed, "b" zeroed; "b" to "a": the same entries, and the table sector of "a"
  pub rename-order : (d : Disk) → order (groups pair d (rename_plan (known pair) d 0 (Some 1) (called 98) 0)) ≡ (674 ∷ 675 ∷ 676 ∷ 257 ∷ behind (1 ∷ 2 ∷ 3 ∷ []))
  pub replace-order : (d : Disk) → order (groups pair d (rename_plan (known pair) d 1 (Some 0) (called 97) 0))
      ≡ (674 ∷ 675 ∷ 676 ∷ 677 ∷ 257 ∷ behind (1 ∷ 2 ∷ 3 ∷ 289 ∷ []))
  pub rename-new : (d : Disk) → order (groups pair d (rename_plan (known pair) d 1 None (called 99) 0)) ≡ (674 ∷ 675 ∷ 257 ∷ behind (1 ∷ 3 ∷ []))
  pub rename-answer : answer (rename (called 98) (called 97) 0 7920) (after pair) ≡ changed (record { verdict = done; length = 15 * 528 })
  pub rename-itself : answer (rename (called 98) (called 98) 0 0) (after pair) ≡ changed (record { verdict = done; length = 0 })
  pub rename-refused : (number_of (answer (rename [] (called 97) 0 7920) (after pair)) ∷ number_of (answer (rename (called 97) [] 0 7920) (after pair))
      ∷ number_of (answer (rename (called 99) (called 99) 0 7920) (after pair)) ∷ number_of (answer (rename (called 98) (called 97) 0 7919) (after pair)) ∷ [])
      ≡ (8 ∷ 8 ∷ 9 ∷ 14 ∷ [])
  pub rename-table : table (replaced ∷ pair) ≡ (none ∷ none ∷ none ∷ none ∷ [])
  pub rename-entries : tabulate (known (replaced ∷ pair)).entries 0 2
      ≡ (none ∷ some (record { size = 0; version = 1; id = 98; mode = 0; access_time = 0; change_time = 7; name = called 97 }) ∷ [])
  pub rename-root : (after (replaced ∷ pair)).root ≡ record { version = 3; id = 1; mode = 0; access_time = 0; change_time = 7 }
  -- T-07: names of one byte, of 33 and 126, and of 32, 127 and 47 (the slash); and "a" to 32
  pub typable : (number_of (answer (create (called 33) 97 0 0 5808) (after [])) ∷ number_of (answer (create (called 126) 97 0 0 5808) (after [])) ∷ [])
      ≡ (0 ∷ 0 ∷ [])
  pub untypable : (number_of (answer (create (called 32) 97 0 0 5808) (after [])) ∷ number_of (answer (create (called 127) 97 0 0 5808) (after []))
      ∷ number_of (answer (create (called 47) 97 0 0 5808) (after [])) ∷ number_of (answer (rename (called 97) (called 32) 0 7920) (after pair)) ∷ [])
      ≡ (8 ∷ 8 ∷ 8 ∷ 8 ∷ [])
  -- T-01: the longest rename, 515 targets: 1,053 records; K for T 126, 512 and 1 with S 128
  pub longest-rename : record_count 0 515 ≡ 1053
  pub reserves : (reserve_extents (shape 16128 128) ∷ reserve_extents (shape 65535 128) ∷ reserve_extents (shape 4 128) ∷ []) ≡ (2 ∷ 5 ∷ 1 ∷ [])
