-- T-11, the listing program: its lines by an entry's sector on both editions, each refusal of a superblock, and inputs that end at each bound.
-- Sample: F 255, N 4, S 128, as in the other tables, with one file in the first entry.
use Rattle.std.specs.Prelude.{ℕ, ◌≡◌, List, [], ◌∷◌, replicate}
use Rattle.model.specs.declared.Line.{Line}
use Rattle.model.specs.declared.Line.TheVariants.{Nothing, Refused, Fault, File}
use Rattle.model.specs.Bytes.{be_bytes, put, zero_sector}
use Rattle.model.specs.Entry.{new_entry_sector, updated_entry_sector}
use Rattle.model.specs.Lines.{entry_line, name_on, listing_lines}
use Rattle.cases.specs.Editions.{shape_of, superblock_of, disk_of}

-- the line of entry 7 by this sector
abbrev pub line : ℕ → List ℕ → Line
line edition s = entry_line (shape_of edition) 7 s

-- an entry "hi" of this size, and one with a name of so many bytes
abbrev pub sized : ℕ → ℕ → List ℕ
sized edition size = updated_entry_sector edition size 0 (new_entry_sector edition (104 ∷ 105 ∷ []) 5 0 0)

abbrev pub named : ℕ → ℕ → List ℕ
named edition n = new_entry_sector edition (replicate n 97) 5 0 0

-- one with another mark
abbrev pub marked : ℕ → ℕ → List ℕ
marked edition mark = put (sized edition 0) 0 (be_bytes 2 mark)

-- what is printed for an input of so many bytes: a superblock with this journal length; the volume with the file "hi"
abbrev pub waiting : ℕ → ℕ → List Line
waiting edition journal = listing_lines 131584 (λ k. put (superblock_of edition) 18 (be_bytes 2 journal))

abbrev pub prints : ℕ → List Line
prints len = listing_lines len (disk_of 1 (104 ∷ 105 ∷ []))

abbrev pub hi : Line
hi = File 0 0 36 2

pub record Lines : Type 0 where
  -- a free entry has no line; an occupied one its index, its size, and where its name stands
  pub entries : (line 1 zero_sector ∷ line 1 (sized 1 258) ∷ line 2 (sized 2 258) ∷ []) ≡ (Nothing ∷ File 7 258 36 2 ∷ File 7 258 44 2 ∷ [])
  pub names : (name_on (sized 1 258) (line 1 (sized 1 258)) ∷ name_on (sized 2 258) (line 2 (sized 2 258)) ∷ []) ≡ ((104 ∷ 105 ∷ []) ∷ (104 ∷ 105 ∷ []) ∷ [])
  -- "An entry with fault 21, or with 22 by its own sector and the geometry": marks, sizes of N x E and one more, longest names and no name, a byte 0
  pub marks : (line 1 (marked 1 1) ∷ line 2 (marked 2 65534) ∷ []) ≡ (Fault 21 7 ∷ Fault 21 7 ∷ [])
  pub sizes : (line 1 (sized 1 262144) ∷ line 1 (sized 1 262145) ∷ line 2 (sized 2 262145) ∷ []) ≡ (File 7 262144 36 2 ∷ Fault 22 7 ∷ Fault 22 7 ∷ [])
  pub lengths : (line 1 (named 1 476) ∷ line 2 (named 2 468) ∷ line 2 (named 2 469) ∷ line 1 (named 1 0) ∷ [])
      ≡ (File 7 0 36 476 ∷ File 7 0 44 468 ∷ Fault 22 7 ∷ Fault 22 7 ∷ [])
  pub zeros : line 1 (put (sized 1 0) 37 (0 ∷ [])) ≡ Fault 22 7
  -- "prints only "refused " and its number": a short superblock, the version, F, and the states unfinished, waiting and damaged
  pub refusals : (prints 511 ∷ listing_lines 131584 (λ k. superblock_of 3) ∷ listing_lines 131584 (λ k. put (superblock_of 1) 1 (254 ∷ []))
      ∷ waiting 1 65535 ∷ waiting 2 1 ∷ waiting 1 1025 ∷ [])
      ≡ ((Refused 1 ∷ []) ∷ (Refused 2 ∷ []) ∷ (Refused 3 ∷ []) ∷ (Refused 4 ∷ []) ∷ (Refused 5 ∷ []) ∷ (Refused 6 ∷ []) ∷ [])
  -- "input that ends after the superblock but before the directory's end adds "refused 1"": before and in the root, in the first entry, behind it, in the last
  pub ended : (prints 512 ∷ prints 1024 ∷ prints 1535 ∷ prints 1536 ∷ prints 131583 ∷ [])
      ≡ ((Refused 1 ∷ []) ∷ (Refused 1 ∷ []) ∷ (Refused 1 ∷ []) ∷ (hi ∷ Refused 1 ∷ []) ∷ (hi ∷ Refused 1 ∷ []) ∷ [])
  -- the whole directory, 257 sectors; what follows is ignored, and "length untested": the volume has more sectors than either input
  pub whole : (prints 131584 ∷ prints 200000 ∷ []) ≡ ((hi ∷ []) ∷ (hi ∷ []) ∷ [])
