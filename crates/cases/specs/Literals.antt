-- Sectors and records of the sample, which is of edition 1, as literal bytes, the states by the journal's length, and every refusal of one call: a second table
-- beside P1 to P10, so that a wrong field, width or order in a definition is seen without reading it.
use Rattle.std.specs.Prelude.{ℕ, ◌+◌, ◌-◌, ◌≡◌, cond, List, [], ◌∷◌, ◌++◌, eqb, length, replicate}
use Rattle.model.specs.declared.State.TheVariants.{Clean, Waiting, Damaged, Unfinished}
use Rattle.model.specs.Answers.{Verdict}
use Rattle.model.specs.Bytes.{bytes_from, zero_sector, ones_sector}
use Rattle.model.specs.Disk.{Disk}
use Rattle.model.specs.Superblock.{new_superblock, state_of}
use Rattle.model.specs.Root.{new_root_sector, updated_root_sector}
use Rattle.model.specs.Entry.{new_entry_sector, updated_entry_sector, renamed_entry_sector}
use Rattle.model.specs.Table.{taken_in, freed_in}
use Rattle.model.specs.Journal.{journal_sector}
use Rattle.model.specs.Refusals.{done, refusal}
use Rattle.model.specs.WriteList.{barrier, sector_write, record_bytes}
use Rattle.model.specs.Summary.{superblock_answer}
use Rattle.model.specs.Read.{read_answer}
use Rattle.cases.specs.Cases.{shape, called}

-- these bytes, and zeros up to a sector's end
abbrev pub padded : List ℕ → List ℕ
padded front = front ++ replicate (512 - length front) 0

-- ---- the sample's superblocks: F 255, N 4, S 128, "/Goo/FS/", version 1, journal length

abbrev pub superblock_up_to : List ℕ → List ℕ
superblock_up_to end = padded ((0 ∷ 255 ∷ 0 ∷ 4 ∷ 0 ∷ 0 ∷ 0 ∷ 128 ∷ 47 ∷ 71 ∷ 111 ∷ 111 ∷ 47 ∷ 70 ∷ 83 ∷ 47 ∷ 0 ∷ 1 ∷ []) ++ end)

abbrev pub unfinished_superblock : List ℕ
unfinished_superblock = superblock_up_to (255 ∷ 255 ∷ [])

abbrev pub clean_superblock : List ℕ
clean_superblock = superblock_up_to (0 ∷ 0 ∷ [])

-- ---- a disk with the sample's geometry, and a file "a" of 1 byte in its first extent, of which every refusal of read can be had

abbrev pub entry : List ℕ
entry = updated_entry_sector 1 1 0 (new_entry_sector 1 (called 97) 97 0 0)

abbrev pub disk_of : List ℕ → List ℕ → Disk
disk_of superblock file k =
    cond (eqb k 0) superblock (cond (eqb k 1) (new_root_sector 1 1 0 0) (cond (eqb k 2) file (cond (eqb k 289) (taken_in 0 0 0 ones_sector) zero_sector)))

-- the verdict of a read of an image of so many bytes, at time 0 and with a list of 9 records
abbrev pub read_of : ℕ → List ℕ → List ℕ → ℕ → ℕ → ℕ → ℕ → Verdict
read_of len superblock file letter offset asked room = (read_answer len (disk_of superblock file) (called letter) offset asked 0 room 4752).verdict

abbrev pub sample_bytes : ℕ
sample_bytes = 672256

pub record Literals : Type 0 where
  -- superblock: 0 F, 2 N, 4 S, 8 magic, 16 version, 18 journal length; written, and read back
  pub unfinished : new_superblock (shape 4 128) 65535 ≡ unfinished_superblock
  pub clean : new_superblock (shape 4 128) 0 ≡ clean_superblock
  pub read_back : superblock_answer 512 (λ k. clean_superblock) ≡ record { number = 0; summary = record { geometry = shape 4 128; state = Clean } }
  -- root: 0 version, 4 id, 12 mode, 16 access time, 20 change time; and its version up, its change time set
  pub root : new_root_sector 1 72623859790382856 286397204 555885348
      ≡ padded (0 ∷ 0 ∷ 0 ∷ 0 ∷ 1 ∷ 2 ∷ 3 ∷ 4 ∷ 5 ∷ 6 ∷ 7 ∷ 8 ∷ 17 ∷ 18 ∷ 19 ∷ 20 ∷ 33 ∷ 34 ∷ 35 ∷ 36 ∷ 33 ∷ 34 ∷ 35 ∷ 36 ∷ [])
  pub root-updated : updated_root_sector 1 825373492 (new_root_sector 1 72623859790382856 286397204 555885348)
      ≡ padded (0 ∷ 0 ∷ 0 ∷ 1 ∷ 1 ∷ 2 ∷ 3 ∷ 4 ∷ 5 ∷ 6 ∷ 7 ∷ 8 ∷ 17 ∷ 18 ∷ 19 ∷ 20 ∷ 33 ∷ 34 ∷ 35 ∷ 36 ∷ 49 ∷ 50 ∷ 51 ∷ 52 ∷ [])
  -- entry: 0 mark, 2 size, 10 version, 14 id, 22 mode, 26 access time, 30 change time, 34 name length, 36 name
  pub created : new_entry_sector 1 (104 ∷ 105 ∷ []) 72623859790382856 286397204 555885348
      ≡ padded (255 ∷ 255 ∷ 0 ∷ 0 ∷ 0 ∷ 0 ∷ 0 ∷ 0 ∷ 0 ∷ 0 ∷ 0 ∷ 0 ∷ 0 ∷ 0 ∷ 1 ∷ 2 ∷ 3 ∷ 4 ∷ 5 ∷ 6 ∷ 7 ∷ 8 ∷ 17 ∷ 18 ∷ 19 ∷ 20
      ∷ 33 ∷ 34 ∷ 35 ∷ 36 ∷ 33 ∷ 34 ∷ 35 ∷ 36 ∷ 0 ∷ 2 ∷ 104 ∷ 105 ∷ [])
  -- and a write's: size 258, version up, change time set
  pub written : bytes_from (updated_entry_sector 1 258 825373492 (new_entry_sector 1 (104 ∷ 105 ∷ []) 1 0 555885348)) 0 38
      ≡ (255 ∷ 255 ∷ 0 ∷ 0 ∷ 0 ∷ 0 ∷ 0 ∷ 0 ∷ 1 ∷ 2 ∷ 0 ∷ 0 ∷ 0 ∷ 1 ∷ 0 ∷ 0 ∷ 0 ∷ 0 ∷ 0 ∷ 0 ∷ 0 ∷ 1 ∷ 0 ∷ 0 ∷ 0 ∷ 0
      ∷ 33 ∷ 34 ∷ 35 ∷ 36 ∷ 49 ∷ 50 ∷ 51 ∷ 52 ∷ 0 ∷ 2 ∷ 104 ∷ 105 ∷ [])
  -- T-01: and a rename's of it, from "hi" to "a": version up, change time set, name length 1, and no byte of the old name behind the new one
  pub renamed : renamed_entry_sector 1 (97 ∷ []) 825373492 (new_entry_sector 1 (104 ∷ 105 ∷ []) 72623859790382856 286397204 555885348)
      ≡ padded (255 ∷ 255 ∷ 0 ∷ 0 ∷ 0 ∷ 0 ∷ 0 ∷ 0 ∷ 0 ∷ 0 ∷ 0 ∷ 0 ∷ 0 ∷ 1 ∷ 1 ∷ 2 ∷ 3 ∷ 4 ∷ 5 ∷ 6 ∷ 7 ∷ 8 ∷ 17 ∷ 18 ∷ 19 ∷ 20
      ∷ 33 ∷ 34 ∷ 35 ∷ 36 ∷ 49 ∷ 50 ∷ 51 ∷ 52 ∷ 0 ∷ 1 ∷ 97 ∷ [])
  -- table entry of extent 1: file index, offset; given to file 258 as its extent 3, and freed again
  pub taken : bytes_from (taken_in 1 258 3 ones_sector) 0 12 ≡ (255 ∷ 255 ∷ 255 ∷ 255 ∷ 1 ∷ 2 ∷ 0 ∷ 3 ∷ 255 ∷ 255 ∷ 255 ∷ 255 ∷ [])
  pub freed : bytes_from (freed_in (λ k. eqb k 1) zero_sector 128) 0 12 ≡ (0 ∷ 0 ∷ 0 ∷ 0 ∷ 255 ∷ 255 ∷ 255 ∷ 255 ∷ 0 ∷ 0 ∷ 0 ∷ 0 ∷ [])
  -- journal of the sample's first create: source 674, target 1; source 675, target 2
  pub journal : journal_sector (λ k. 674 + k) (λ k. 1 + k) 2 0
      ≡ padded (0 ∷ 0 ∷ 0 ∷ 0 ∷ 0 ∷ 0 ∷ 2 ∷ 162 ∷ 0 ∷ 0 ∷ 0 ∷ 0 ∷ 0 ∷ 0 ∷ 0 ∷ 1 ∷ 0 ∷ 0 ∷ 0 ∷ 0 ∷ 0 ∷ 0 ∷ 2 ∷ 163 ∷ 0 ∷ 0 ∷ 0 ∷ 0 ∷ 0 ∷ 0 ∷ 0 ∷ 2 ∷ [])
  -- a barrier's 528 bytes: position 3, number 18446744073709551615; and a record's, position 258, for sector 674
  pub barrier-bytes : record_bytes 3 barrier ≡ (0 ∷ 0 ∷ 0 ∷ 0 ∷ 0 ∷ 0 ∷ 0 ∷ 3 ∷ 255 ∷ 255 ∷ 255 ∷ 255 ∷ 255 ∷ 255 ∷ 255 ∷ 255 ∷ []) ++ replicate 512 0
  pub record-bytes : record_bytes 258 (sector_write 674 ones_sector) ≡ (0 ∷ 0 ∷ 0 ∷ 0 ∷ 0 ∷ 0 ∷ 1 ∷ 2 ∷ 0 ∷ 0 ∷ 0 ∷ 0 ∷ 0 ∷ 0 ∷ 2 ∷ 162 ∷ []) ++ replicate 512 255
  -- states by the journal's length
  pub states : (state_of 0 ∷ state_of 1 ∷ state_of 1024 ∷ state_of 1025 ∷ state_of 65534 ∷ state_of 65535 ∷ [])
      ≡ (Clean ∷ Waiting 1 ∷ Waiting 1024 ∷ Damaged ∷ Damaged ∷ Unfinished ∷ [])
  -- the refusals of read, 1 to 7: no image, and one of no whole sectors; no magic; volume longer than image; unfinished; waiting; damaged;
  -- mark 1 in the first entry
  pub judged : (read_of 0 clean_superblock entry 97 0 1 1 ∷ read_of 672255 clean_superblock entry 97 0 1 1 ∷ read_of sample_bytes zero_sector entry 97 0 1 1
      ∷ read_of 410112 clean_superblock entry 97 0 1 1 ∷ read_of sample_bytes unfinished_superblock entry 97 0 1 1
      ∷ read_of sample_bytes (superblock_up_to (4 ∷ 0 ∷ [])) entry 97 0 1 1 ∷ read_of sample_bytes (superblock_up_to (4 ∷ 1 ∷ [])) entry 97 0 1 1
      ∷ read_of sample_bytes clean_superblock (padded (0 ∷ 1 ∷ [])) 97 0 1 1 ∷ [])
      ≡ (refusal 1 ∷ refusal 1 ∷ refusal 2 ∷ refusal 3 ∷ refusal 4 ∷ refusal 5 ∷ refusal 6 ∷ record { number = 7; fault = 21; place = 0 } ∷ [])
  -- and its own: 65,537 bytes asked; no such name; offset 2 in 1 byte; no room for it; and none
  pub refused : (read_of sample_bytes clean_superblock entry 97 0 65537 1 ∷ read_of sample_bytes clean_superblock entry 98 0 1 1
      ∷ read_of sample_bytes clean_superblock entry 97 2 1 1 ∷ read_of sample_bytes clean_superblock entry 97 0 1 0
      ∷ read_of 410624 clean_superblock entry 97 0 1 1 ∷ [])
      ≡ (refusal 8 ∷ refusal 9 ∷ refusal 12 ∷ refusal 14 ∷ done ∷ [])
