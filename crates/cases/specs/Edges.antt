-- Both sides of each bound, one worked volume for each fault, and journals and lists that are refused: a third table, of what neither the
-- cases P1 to P10 nor a theorem decides.
use Rattle.std.specs.Prelude.{ℕ, ◌+◌, ◌^◌, ◌≡◌, cond, ◌&&◌, List, [], ◌∷◌, ◌++◌, eqb, ltb, get_or, replicate}
use Rattle.model.specs.declared.State.TheVariants.{Clean, Waiting, Damaged, Unfinished}
use Rattle.model.specs.declared.Area.TheVariants.{Journal, Table, Data, Reserve}
use Rattle.model.specs.declared.Summary.{Summary}
use Rattle.model.specs.Answers.{Summarized, Verdict, Sliced}
use Rattle.model.specs.Bytes.{zero_sector, ones_sector}
use Rattle.model.specs.Geometry.{table_sectors}
use Rattle.model.specs.Disk.{Disk}
use Rattle.model.specs.Superblock.{new_superblock}
use Rattle.model.specs.Root.{new_root_sector}
use Rattle.model.specs.Entry.{new_entry_sector, updated_entry_sector}
use Rattle.model.specs.Table.{taken_in}
use Rattle.model.specs.Journal.{journal_sector}
use Rattle.model.specs.Refusals.{refusal, done}
use Rattle.model.specs.WriteList.{barrier_number, barrier, sector_write, record_bytes, list_bytes, sectors_of, closed}
use Rattle.model.specs.Summary.{superblock_answer, state_code, located, area_at, check_answer}
use Rattle.model.specs.Scratch.{check_with_answer}
use Rattle.model.specs.Listing.{list_answer}
use Rattle.model.specs.Recovery.{recovery_verdict, slice_listed, slice_answer}
use Rattle.model.specs.Format.{format_answer}
use Rattle.model.specs.CarryOut.{carry_answer}
use Rattle.cases.specs.Cases.{shape, called, sample}
use Rattle.cases.specs.Literals.{padded, clean_superblock, sample_bytes}

-- ---- bounds

-- what format answers when asked for the first record of a volume of so many files and sectors
abbrev pub formats : ℕ → ℕ → ℕ
formats files sectors = (format_answer (record { sectors = sectors; files = files; edition = 1; id = 1; mode = 0; time = 0 }) 0 528).number

-- what the summary answers of a superblock
abbrev pub of_superblock : List ℕ → Summarized
of_superblock s = superblock_answer 512 (λ k. s)

abbrev pub superblock_of : ℕ → ℕ → ℕ → List ℕ
superblock_of files extents extent_sectors = new_superblock (record { files = files; extents = extents; extent_sectors = extent_sectors; edition = 1 }) 0

abbrev pub sample_summary : Summary
sample_summary = record { geometry = shape 4 128; state = Clean }

abbrev pub no_summary : Summary
no_summary = record { geometry = record { files = 0; extents = 0; extent_sectors = 0; edition = 0 }; state = Clean }

-- ---- faults: the sample's disk with a file of one name and id in its first entry, another in its fourth, and a table sector

abbrev pub disk_of : List ℕ → List ℕ → List ℕ → Disk
disk_of first fourth table k =
    cond (eqb k 0) clean_superblock
    (cond (eqb k 1) (new_root_sector 1 1 0 0) (cond (eqb k 2) first (cond (eqb k 5) fourth (cond (eqb k 289) table zero_sector))))

abbrev pub checks : List ℕ → List ℕ → List ℕ → Verdict
checks first fourth table = (check_answer sample_bytes (disk_of first fourth table)).verdict

-- an empty file of that name and id; one of so many bytes
abbrev pub empty : ℕ → ℕ → List ℕ
empty letter id = new_entry_sector 1 (called letter) id 0 0

abbrev pub sized : ℕ → List ℕ
sized size = updated_entry_sector 1 size 0 (empty 97 5)

abbrev pub fault : ℕ → ℕ → Verdict
fault n place = record { number = 7; fault = n; place = place }

-- a file "a" of id 5 and another one, checked with so many numbers of scratch
abbrev pub lends : ℕ → List ℕ → Verdict
lends numbers fourth = (check_with_answer sample_bytes (disk_of (empty 97 5) fourth ones_sector) numbers).verdict

-- ---- recovery: the sample's disk, waiting with two entries: their sources, their targets

abbrev pub waits : ℕ → ℕ → ℕ → ℕ → Disk
waits source target source2 target2 k =
    cond (eqb k 0) (new_superblock (shape 4 128) 2)
    (cond (eqb k 257) (journal_sector (λ j. cond (eqb j 0) source source2) (λ j. cond (eqb j 0) target target2) 2 0) zero_sector)

abbrev pub recovers : Disk → ℕ
recovers d = (recovery_verdict sample_bytes d 65536).number

-- ---- slices: the sample's disk, waiting with the first n of four entries. Their targets don't rise; the first's holds what its source
-- holds, the others' differ.

abbrev pub pending : ℕ → Disk
pending n k =
    cond (eqb k 0) (new_superblock (shape 4 128) n)
    (cond (eqb k 257) (journal_sector (λ j. 674 + j) (λ j. get_or (5 ∷ 3 ∷ 1 ∷ 2 ∷ []) j 0) 4 0) (cond (ltb 674 k && ltb k 678) ones_sector zero_sector))

abbrev pub slices : ℕ → ℕ → ℕ → Sliced
slices n budget room = slice_answer sample_bytes (pending n) budget room

abbrev pub slice_of : ℕ → ℕ → List ℕ
slice_of n budget = sectors_of (closed (slice_listed sample_bytes (pending n) budget 65536))

abbrev pub answers : ℕ → ℕ → ℕ → Sliced
answers number length count = record { number = number; length = length; count = count }

-- ---- carrying out on an image of one sector

abbrev pub carries : List ℕ → ℕ
carries list = (carry_answer zero_sector list).number

pub record Edges : Type 0 where
  -- T = (N + 127) / 128
  pub table-sectors : (table_sectors (shape 128 128) ∷ table_sectors (shape 129 128) ∷ []) ≡ (1 ∷ 2 ∷ [])
  -- F 255 to 65,535: what format answers, and the summary of a superblock, whose two bytes say no more
  pub files : (formats 254 1312 ∷ formats 255 1313 ∷ formats 1025 2083 ∷ formats 65535 66593 ∷ formats 65536 66594 ∷ []) ≡ (8 ∷ 0 ∷ 0 ∷ 0 ∷ 8 ∷ [])
  pub most-files : ((of_superblock (superblock_of 254 4 128)).number ∷ (of_superblock (superblock_of 65535 4 128)).number ∷ []) ≡ (3 ∷ 0 ∷ [])
  -- "up to 2^31": the most sectors, and one more
  pub most-sectors : (formats 255 (2 ^ 47 + 800) ∷ formats 255 (2 ^ 47 + 801) ∷ []) ≡ (0 ∷ 8 ∷ [])
  -- the last record of the sample's format, and the position after it
  pub positions : ((format_answer sample 261 528).number ∷ (format_answer sample 262 528).number ∷ (format_answer sample 261 527).number ∷ []) ≡ (0 ∷ 9 ∷ 14 ∷ [])
  -- 2 another magic, version 3; 3 F 254, N 1, S 127; none of the three
  pub superblocks : ((of_superblock (padded (0 ∷ 255 ∷ 0 ∷ 4 ∷ 0 ∷ 0 ∷ 0 ∷ 128 ∷ 47 ∷ 71 ∷ 79 ∷ 111 ∷ 47 ∷ 70 ∷ 83 ∷ 47 ∷ 0 ∷ 1 ∷ []))).number
      ∷ (of_superblock (padded (0 ∷ 255 ∷ 0 ∷ 4 ∷ 0 ∷ 0 ∷ 0 ∷ 128 ∷ 47 ∷ 71 ∷ 111 ∷ 111 ∷ 47 ∷ 70 ∷ 83 ∷ 47 ∷ 0 ∷ 3 ∷ []))).number
      ∷ (of_superblock (superblock_of 254 4 128)).number ∷ (of_superblock (superblock_of 255 1 128)).number ∷ (of_superblock (superblock_of 255 4 127)).number
      ∷ (of_superblock (superblock_of 255 2 128)).number ∷ [])
      ≡ (2 ∷ 2 ∷ 3 ∷ 3 ∷ 3 ∷ 0 ∷ [])
  -- "all other result numbers are then 0, a state reads clean"; the small program's 1
  pub refused : of_superblock zero_sector ≡ record { number = 2; summary = no_summary }
  pub short : superblock_answer 511 (λ k. clean_superblock) ≡ record { number = 1; summary = no_summary }
  pub codes : (state_code Clean ∷ state_code (Waiting 1) ∷ state_code Damaged ∷ state_code Unfinished ∷ []) ≡ (0 ∷ 1 ∷ 2 ∷ 3 ∷ [])
  -- where the summary puts the four areas; 3 for a geometry out of bounds
  pub areas : (located (area_at Journal) sample_summary ∷ located (area_at Table) sample_summary ∷ located (area_at Data) sample_summary
      ∷ located (area_at Reserve) sample_summary ∷ located (area_at Data) no_summary ∷ [])
      ≡ (record { number = 0; sector = record { 0 = 257 } } ∷ record { number = 0; sector = record { 0 = 289 } }
      ∷ record { number = 0; sector = record { 0 = 290 } } ∷ record { number = 0; sector = record { 0 = 674 } }
      ∷ record { number = 3; sector = record { 0 = 0 } } ∷ [])
  -- the lowest number: index 255 is bad (8), and no occupied entry (9)
  pub lowest : (list_answer sample_bytes (disk_of zero_sector zero_sector ones_sector) 255 0 0 0).verdict ≡ refusal 8
  -- "bytes not named here stay"
  pub tail-stays : get_or (updated_entry_sector 1 1 0 ones_sector) 511 0 ≡ 255
  -- two files without a fault; 21 mark 1; 22 no name, 65,536 x 4 + 1 bytes, but not one less, which lacks its extents (26); 23 the same name; 24 id 0, the root's, the same id
  pub entries : (checks (empty 97 5) (empty 98 6) ones_sector ∷ checks (empty 97 5) (padded (0 ∷ 1 ∷ [])) ones_sector
      ∷ checks (empty 97 5) (new_entry_sector 1 [] 6 0 0) ones_sector ∷ checks (sized 262145) (empty 98 6) ones_sector
      ∷ checks (sized 262144) (empty 98 6) ones_sector
      ∷ checks (empty 97 5) (empty 97 6) ones_sector ∷ checks (empty 97 5) (empty 98 0) ones_sector ∷ checks (empty 97 5) (empty 98 1) ones_sector
      ∷ checks (empty 97 5) (empty 98 5) ones_sector ∷ [])
      ≡ (done ∷ fault 21 3 ∷ fault 22 3 ∷ fault 22 0 ∷ fault 26 0 ∷ fault 23 3 ∷ fault 24 3 ∷ fault 24 3 ∷ fault 24 3 ∷ [])
  -- T-10: scratch on both sides of 4 x F + N, 1,024 numbers here; 14 before 7, and 5 before 14
  pub scratch : (lends 0 (empty 98 6) ∷ lends 1023 (empty 98 6) ∷ lends 1024 (empty 98 6) ∷ lends 1023 (empty 98 5) ∷ lends 1024 (empty 98 5)
      ∷ (check_with_answer sample_bytes (waits 674 1 675 2) 0).verdict ∷ [])
      ≡ (refusal 14 ∷ refusal 14 ∷ done ∷ refusal 14 ∷ fault 24 3 ∷ refusal 5 ∷ [])
  -- 25 an extent of no file, and none for a file's in the last extent (T-12); 26 none of two extents, one twice, one too many; and both where
  -- they belong
  pub table : (checks (empty 97 5) (empty 98 6) (taken_in 2 9 0 ones_sector) ∷ checks (sized 1) (empty 98 6) (taken_in 3 0 0 ones_sector)
      ∷ checks (sized 65537) (empty 98 6) (taken_in 1 0 0 ones_sector) ∷ checks (sized 1) (empty 98 6) (taken_in 1 0 0 (taken_in 2 0 0 ones_sector))
      ∷ checks (sized 65536) (empty 98 6) (taken_in 1 0 0 (taken_in 2 0 1 ones_sector)) ∷ checks (sized 65537) (empty 98 6) (taken_in 1 0 1 (taken_in 2 0 0 ones_sector)) ∷ [])
      ≡ (fault 25 2 ∷ done ∷ fault 26 0 ∷ fault 26 0 ∷ fault 26 0 ∷ done ∷ [])
  -- recovery: root and the last table sector from any data sectors; 6 a source before or behind the data area, a target that is superblock,
  -- journal or data, a target twice
  pub journals : (recovers (waits 290 1 801 289) ∷ recovers (waits 674 2 674 256) ∷ recovers (waits 289 1 675 2) ∷ recovers (waits 674 1 802 2)
      ∷ recovers (waits 674 0 675 2) ∷ recovers (waits 674 1 675 257) ∷ recovers (waits 674 288 675 2) ∷ recovers (waits 674 1 675 290)
      ∷ recovers (waits 674 1 675 1) ∷ recovers (λ k. new_superblock (shape 4 128) 1025) ∷ recovers (λ k. new_superblock (shape 4 128) 65535) ∷ [])
      ≡ (0 ∷ 0 ∷ 6 ∷ 6 ∷ 6 ∷ 6 ∷ 6 ∷ 6 ∷ 6 ∷ 6 ∷ 4 ∷ [])
  -- T-05: the sectors that a slice of a budget writes, and its barrier: the first entries that differ, in journal order, none past the
  -- journal's length; the superblock when none differ
  pub sliced : (slice_of 3 1 ∷ slice_of 3 2 ∷ slice_of 3 9 ∷ slice_of 4 3 ∷ slice_of 1 9 ∷ slice_of 0 9 ∷ [])
      ≡ ((3 ∷ barrier_number ∷ []) ∷ (3 ∷ 1 ∷ barrier_number ∷ []) ∷ (3 ∷ 1 ∷ barrier_number ∷ []) ∷ (3 ∷ 1 ∷ 2 ∷ barrier_number ∷ [])
      ∷ (0 ∷ barrier_number ∷ []) ∷ [] ∷ [])
  -- what it answers, lent a list that is just long enough; 14 one byte less; 8 budget 0, of a clean volume too; 6 before 8
  pub slice-answers : (slices 3 1 1056 ∷ slices 3 9 1584 ∷ slices 1 9 1056 ∷ slices 0 1 0 ∷ slices 3 9 1583 ∷ slices 1 9 1055 ∷ slices 3 0 1583
      ∷ slices 0 0 0 ∷ slice_answer sample_bytes (waits 674 1 675 1) 0 0 ∷ [])
      ≡ (answers 0 1056 1 ∷ answers 0 1584 2 ∷ answers 0 1056 1 ∷ answers 0 0 0 ∷ answers 14 0 0 ∷ answers 14 0 0 ∷ answers 8 0 0
      ∷ answers 8 0 0 ∷ answers 6 0 0 ∷ [])
  -- carrying out: an empty list, one write, a barrier; 8 part of a record, a sector outside the image, a barrier whose last byte is 1; 1
  pub lists : (carries [] ∷ carries (record_bytes 0 (sector_write 0 ones_sector)) ∷ carries (record_bytes 0 barrier)
      ∷ carries (record_bytes 0 barrier ++ (0 ∷ [])) ∷ carries (record_bytes 0 (sector_write 1 ones_sector))
      ∷ carries (replicate 8 0 ++ replicate 8 255 ++ replicate 511 0 ++ (1 ∷ [])) ∷ (carry_answer [] []).number ∷ [])
      ≡ (0 ∷ 0 ∷ 0 ∷ 8 ∷ 8 ∷ 8 ∷ 1 ∷ [])
  -- positions 0, 1 of two barriers; 8 the first dropped, doubled, both swapped, one that starts at 1; the last dropped isn't seen
  pub numbered : (carries (list_bytes 0 (barrier ∷ barrier ∷ [])) ∷ carries (record_bytes 1 barrier) ∷ carries (record_bytes 0 barrier ++ record_bytes 0 barrier)
      ∷ carries (record_bytes 1 barrier ++ record_bytes 0 barrier) ∷ carries (list_bytes 1 (barrier ∷ barrier ∷ [])) ∷ carries (list_bytes 0 (barrier ∷ [])) ∷ [])
      ≡ (0 ∷ 8 ∷ 8 ∷ 8 ∷ 8 ∷ 0 ∷ [])
