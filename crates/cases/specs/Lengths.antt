-- How long a list each call can give, by the geometry: on the sample, on the largest volume, and where a set of renames is held back by the reserve.
use Rattle.std.specs.Prelude.{ℕ, ◌*◌, ◌≡◌, List, [], ◌∷◌, map}
use Rattle.model.specs.declared.Geometry.{Geometry}
use Rattle.model.specs.Answers.{Longest}
use Rattle.model.specs.Lengths.{longest_answer}

abbrev pub sized : ℕ → ℕ → ℕ → Geometry
sized files extents sectors = record { files = files; extents = extents; extent_sectors = sectors; edition = 1 }

abbrev pub gives : ℕ → ℕ → Longest
gives number length = record { number = number; length = length }

-- access, create, delete, rename, a set of renames, resize, write, repair, recover, a slice
abbrev pub longest : Geometry → List Longest
longest g = map (longest_answer g) (1 ∷ 2 ∷ 3 ∷ 4 ∷ 5 ∷ 6 ∷ 7 ∷ 8 ∷ 9 ∷ 10 ∷ [])

-- so many records of 528 bytes each
abbrev pub records : List ℕ → List Longest
records ns = map (λ n. gives 0 (n * 528)) ns

pub record Lengths : Type 0 where
  -- T 1: 1, 2, 3, 4, 18 and 1 targets; 129 sectors of data; 257 sectors for a journal's targets
  pub sample : longest (sized 255 4 128) ≡ records (9 ∷ 11 ∷ 13 ∷ 15 ∷ 43 ∷ 140 ∷ 140 ∷ 9 ∷ 260 ∷ 258 ∷ [])
  -- T 512: T-01's 515 targets, and 514, 529, 513 and 512; a journal's 1,024
  pub largest : longest (sized 65535 65535 128) ≡ records (9 ∷ 11 ∷ 1051 ∷ 1053 ∷ 1081 ∷ 1049 ∷ 140 ∷ 1046 ∷ 1027 ∷ 1025 ∷ [])
  -- T 120: the reserve is one extent, with 128 sectors for the 137 of a set, or with 137; a resize that frees in all sectors is the longer one
  pub reserved : (longest_answer (sized 255 15360 128) 5 ∷ longest_answer (sized 255 15360 137) 5 ∷ longest_answer (sized 255 15360 128) 6 ∷ []) ≡ records (266 ∷ 285 ∷ 252 ∷ [])
  -- a journal's targets reach 1,024 with F 1,022 and T 1
  pub entries : (longest_answer (sized 1021 4 128) 9 ∷ longest_answer (sized 1022 4 128) 9 ∷ longest_answer (sized 1023 4 128) 9 ∷ []) ≡ records (1026 ∷ 1027 ∷ 1027 ∷ [])
  -- 8 a number that is no call's; 3 on both sides of the bounds, before 8
  pub refused : (longest_answer (sized 255 4 128) 0 ∷ longest_answer (sized 255 4 128) 11 ∷ longest_answer (sized 254 4 128) 1 ∷ longest_answer (sized 65536 4 128) 1
      ∷ longest_answer (sized 255 1 128) 1 ∷ longest_answer (sized 255 65536 128) 1 ∷ longest_answer (sized 255 4 127) 0 ∷ longest_answer (sized 255 4 4294967296) 1 ∷ [])
      ≡ (gives 8 0 ∷ gives 8 0 ∷ gives 3 0 ∷ gives 3 0 ∷ gives 3 0 ∷ gives 3 0 ∷ gives 3 0 ∷ gives 3 0 ∷ [])
  pub wide : longest_answer (sized 255 4 4294967295) 1 ≡ gives 0 4752
