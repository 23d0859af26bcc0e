-- T-02: what a read and a list give and leave, as literal bytes and on both sides of each bound. Sample: 1,313 sectors, F 255, of edition 1 as
-- in the other tables; on a disk, a file "a" of 1 byte.
use Rattle.std.specs.Prelude.{ℕ, ◌≡◌, List, [], ◌∷◌, ◌++◌, replicate}
use Rattle.std.proofs.Math.Option.{some}
use Rattle.model.specs.Answers.{BytesRead, Listed}
use Rattle.model.specs.Bytes.{ones_sector}
use Rattle.model.specs.Disk.{Disk}
use Rattle.model.specs.Root.{accessed_root_sector}
use Rattle.model.specs.Entry.{accessed_entry_sector, no_fields}
use Rattle.model.specs.Refusals.{done, refusal}
use Rattle.model.specs.Listing.{list_plan, list_answer, list_output, listing_list}
use Rattle.model.specs.Read.{read_plan, read_answer, read_output, read_list}
use Rattle.model.specs.Ledger.{file_or, find, list, read, Call, Feed, whole, cut_marked, cut_unmarked}
use Rattle.cases.specs.Cases.{called, groups, order, behind, known, after, makes}
use Rattle.cases.specs.Literals.{clean_superblock, entry, disk_of, sample_bytes}

abbrev pub disk : Disk
disk = disk_of clean_superblock entry

-- a read of "a" from an offset, and a list of an index, with so many bytes of output and of list
abbrev pub reads : ℕ → ℕ → ℕ → ℕ → ℕ → BytesRead
reads offset asked time room space = read_answer sample_bytes disk (called 97) offset asked time room space

abbrev pub lists : ℕ → ℕ → ℕ → ℕ → Listed
lists i time room space = list_answer sample_bytes disk i time room space

abbrev pub gave : ℕ → BytesRead
gave n = record { verdict = done; count = n; length = 4752 }

abbrev pub not_read : ℕ → BytesRead
not_read n = record { verdict = refusal n; count = 0; length = 0 }

abbrev pub not_listed : ℕ → Listed
not_listed n = record { verdict = refusal n; fields = no_fields; length = 0 }

-- ---- on the ledger, with two files

abbrev pub two : List Feed
two = makes 98 ∷ makes 97 ∷ []

-- "b" read at 7, nothing of it; the directory listed at 7
abbrev pub reading : Call
reading = read (called 98) 0 0 7 0 4752

abbrev pub listing : Call
listing = list 0 7 1 4752

-- the access times of the root and of both files after a call, whole or cut
abbrev pub times : Feed → List ℕ
times f =
    let L = after (f ∷ two) in
    L.root.access_time ∷ (file_or (L.slots 0)).entry.access_time ∷ (file_or (L.slots 1)).entry.access_time ∷ []

pub record Accesses : Type 0 where
  -- the access time set, entry 26 and root 16, and every other byte as it was; 4 bytes on edition 1, 8 on edition 2
  pub entry-accessed : accessed_entry_sector 1 555885348 ones_sector ≡ replicate 26 255 ++ (33 ∷ 34 ∷ 35 ∷ 36 ∷ []) ++ replicate 482 255
  pub root-accessed : accessed_root_sector 1 555885348 ones_sector ≡ replicate 16 255 ++ (33 ∷ 34 ∷ 35 ∷ 36 ∷ []) ++ replicate 492 255
  pub entry-accessed-2 : accessed_entry_sector 2 72623859790382856 ones_sector
      ≡ replicate 26 255 ++ (1 ∷ 2 ∷ 3 ∷ 4 ∷ 5 ∷ 6 ∷ 7 ∷ 8 ∷ []) ++ replicate 478 255
  pub root-accessed-2 : accessed_root_sector 2 72623859790382856 ones_sector
      ≡ replicate 16 255 ++ (1 ∷ 2 ∷ 3 ∷ 4 ∷ 5 ∷ 6 ∷ 7 ∷ 8 ∷ []) ++ replicate 488 255
  -- "one target": 9 records, 4,752 bytes; of a read the entry, of a list the root
  pub read-order : (d : Disk) → order (groups two d (read_plan (known two) d 1 0)) ≡ (674 ∷ 257 ∷ behind (3 ∷ []))
  pub list-order : (d : Disk) → order (groups two d (list_plan (known two) d 0)) ≡ (674 ∷ 257 ∷ behind (1 ∷ []))
  -- a read of its byte; of 0 bytes, and at its end; 14 for either buffer, also of 0 bytes; 12 before 14; 8 before 12, for more than 65,536
  -- bytes and for a wide time
  pub reads-give : (reads 0 1 0 1 4752 ∷ reads 0 0 0 0 4752 ∷ reads 1 5 0 0 4752 ∷ []) ≡ (gave 1 ∷ gave 0 ∷ gave 0 ∷ [])
  pub reads-refuse : (reads 0 1 0 0 4752 ∷ reads 0 1 0 1 4751 ∷ reads 0 0 0 0 4751 ∷ reads 2 1 0 0 0 ∷ reads 2 65537 0 1 4752 ∷ reads 2 1 4294967296 1 4752 ∷ [])
      ≡ (not_read 14 ∷ not_read 14 ∷ not_read 14 ∷ not_read 12 ∷ not_read 8 ∷ not_read 8 ∷ [])
  -- list: the fields before the call; 14 for either buffer; 9 before it, 8 before 9
  pub lists-give : lists 0 7 1 4752 ≡ record {
    verdict = done;
    fields = record { size = 1; version = 1; id = 97; mode = 0; access_time = 0; change_time = 0; name_length = 1 };
    length = 4752;
  }
  pub lists-refuse : (lists 0 7 0 4752 ∷ lists 0 7 1 4751 ∷ lists 1 7 0 0 ∷ lists 255 7 1 4752 ∷ lists 1 4294967296 1 4752 ∷ [])
      ≡ (not_listed 14 ∷ not_listed 14 ∷ not_listed 9 ∷ not_listed 8 ∷ not_listed 8 ∷ [])
  -- "Refusal 14 covers both buffers and neither changes"; and what stands in the output where both suffice
  pub neither-changes : (read_output sample_bytes disk (called 97) 0 1 0 (5 ∷ 5 ∷ []) 4751 ∷ read_list sample_bytes disk (called 97) 0 1 0 0 (replicate 4752 5)
      ∷ list_output sample_bytes disk 0 0 (5 ∷ 5 ∷ []) 4751 ∷ listing_list sample_bytes disk 0 0 0 (replicate 4752 5) ∷ [])
      ≡ ((5 ∷ 5 ∷ []) ∷ replicate 4752 5 ∷ (5 ∷ 5 ∷ []) ∷ replicate 4752 5 ∷ [])
  pub outputs : (read_output sample_bytes disk (called 97) 0 1 0 (5 ∷ 5 ∷ []) 4752 ∷ list_output sample_bytes disk 0 0 (5 ∷ 5 ∷ []) 4752 ∷ [])
      ≡ ((0 ∷ 5 ∷ []) ∷ (97 ∷ 5 ∷ []) ∷ [])
  -- "The ledger records these times": version and change time stay; a cut call counts exactly if its start mark landed
  pub read-entry : (known (whole reading ∷ two)).entries 1
      ≡ some (record { size = 0; version = 0; id = 98; mode = 0; access_time = 7; change_time = 0; name = called 98 })
  pub list-root : (after (whole listing ∷ two)).root ≡ record { version = 2; id = 1; mode = 0; access_time = 7; change_time = 0 }
  pub set : (times (whole reading) ∷ times (cut_marked reading) ∷ times (whole listing) ∷ times (cut_marked listing) ∷ [])
      ≡ ((0 ∷ 0 ∷ 7 ∷ []) ∷ (0 ∷ 0 ∷ 7 ∷ []) ∷ (7 ∷ 0 ∷ 0 ∷ []) ∷ (7 ∷ 0 ∷ 0 ∷ []) ∷ [])
  -- find stays silent; 8, 9, 12 and 14 leave the times
  pub left : (times (cut_unmarked reading []) ∷ times (cut_unmarked listing []) ∷ times (whole (find (called 98))) ∷ times (whole (read (called 98) 0 65537 7 0 4752))
      ∷ times (whole (read (called 99) 0 0 7 0 4752)) ∷ times (whole (read (called 98) 1 0 7 0 4752)) ∷ times (whole (read (called 98) 0 0 7 0 4751))
      ∷ times (whole (list 2 7 1 4752)) ∷ times (whole (list 0 7 0 4752)) ∷ [])
      ≡ replicate 9 (0 ∷ 0 ∷ 0 ∷ [])
