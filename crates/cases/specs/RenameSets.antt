-- T-13: "Tried: a swap through a third name, a chain, a to b then b to a (which is no swap), a name renamed onto and away again, one replaced twice."
-- And the places of 8 and 9, the shapes that are refused, and 13 by the count: on a ledger of four slots and four extents, of which the first three
-- slots have the files "a", "b" and "c"; "b" has extent 0. (A volume has more slots; the ledger counts none.)
use Rattle.std.specs.Prelude.{ℕ, ◌+◌, ◌*◌, ◌^◌, ◌≡◌, true, false, cond, List, [], ◌∷◌, eqb, length, replicate}
use Rattle.std.proofs.Math.Option.{Option, none, some}
use Rattle.model.specs.Search.{tabulate, concatenated}
use Rattle.model.specs.Geometry.{table_sectors, reserve_extents}
use Rattle.model.specs.Catalogue.{is_free}
use Rattle.model.specs.WriteList.{record_count}
use Rattle.model.specs.Ledger.{File, Ledger, new_root, catalogue, names_of, pairs_of, renamed_targets, rename_set, Answer, summarized, checked, found, listed, gave, changed, step, answer}
use Rattle.cases.specs.Cases.{called}

abbrev pub file : ℕ → List ℕ → File
file letter extents = record {
  entry = record { size = length extents; version = 0; id = letter; mode = 0; access_time = 0; change_time = 0; name = called letter };
  bytes = replicate (length extents) 7;
  extents = extents;
}

-- with extents of so many sectors
abbrev pub three : ℕ → Ledger
three sectors = record {
  geometry = record { files = 4; extents = 4; extent_sectors = sectors; edition = 1 };
  root = new_root 1 0 0;
  slots = λ i. cond (eqb i 0) (some (file 97 [])) (cond (eqb i 1) (some (file 98 (0 ∷ []))) (cond (eqb i 2) (some (file 99 [])) none));
}

abbrev pub L : Ledger
L = three 128

-- sixteen files, "a" to "p", of which "a" has an extent in each of 112 table sectors; and of the last eight the first k renamed onto the first eight
abbrev pub sixteen : Ledger
sixteen = record {
  geometry = record { files = 16; extents = 14336; extent_sectors = 128; edition = 1 };
  root = new_root 1 0 0;
  slots = λ i. some (file (97 + i) (cond (eqb i 0) (tabulate (λ t. 128 * t + 127) 0 112) []));
}

abbrev pub letters_of : ℕ → List ℕ
letters_of k = concatenated (λ i. (105 + i) ∷ (97 + i) ∷ []) 0 k

abbrev pub count_of : ℕ → ℕ
count_of k = renamed_targets sixteen (pairs_of (names_of (letters_of k) (replicate (2 * k) 1))) 7

-- ---- what a set of one-letter names answers: its number, its place and its list's length; and what it leaves in each slot: version and name

abbrev pub told : Answer → List ℕ
told (summarized a) = []
told (checked a) = []
told (found a) = []
told (listed a bytes) = []
told (gave a bytes) = []
told (changed a) = a.verdict.number ∷ a.verdict.place ∷ a.length ∷ []

abbrev pub asked : List ℕ → List ℕ → ℕ → ℕ → List ℕ
asked names lengths time room = told (answer (rename_set names lengths time room) L)

abbrev pub does : List ℕ → List ℕ
does letters = asked letters (replicate (length letters) 1) 7 10000

abbrev pub said : Option File → List ℕ
said none = []
said (some f) = f.entry.version ∷ f.entry.name

abbrev pub after : List ℕ → Ledger
after letters = (step (rename_set letters (replicate (length letters) 1) 7 10000) L).done

abbrev pub left : List ℕ → List (List ℕ)
left letters = tabulate (λ i. said ((after letters).slots i)) 0 4

-- done, with a list of so many records; refused
abbrev pub done : ℕ → List ℕ
done records = 0 ∷ 0 ∷ records * 528 ∷ []

abbrev pub refused : ℕ → ℕ → List ℕ
refused number place = number ∷ place ∷ 0 ∷ []

pub record RenameSets : Type 0 where
  -- a swap through a third name, "x": "a" to "x", "b" to "a", "x" to "b". Root and two entries: three targets, 13 records; the root's version rises by 3
  pub swap : does (97 ∷ 120 ∷ 98 ∷ 97 ∷ 120 ∷ 98 ∷ []) ≡ done 13
  pub swap-left : left (97 ∷ 120 ∷ 98 ∷ 97 ∷ 120 ∷ 98 ∷ []) ≡ ((2 ∷ 98 ∷ []) ∷ (1 ∷ 97 ∷ []) ∷ (0 ∷ 99 ∷ []) ∷ [] ∷ [])
  pub swap-root : (after (97 ∷ 120 ∷ 98 ∷ 97 ∷ 120 ∷ 98 ∷ [])).root ≡ record { version = 3; id = 1; mode = 0; access_time = 0; change_time = 7 }
  -- a chain, each to the next one's name: "c" to "d", "b" to "c", "a" to "b"; and one file along three names, which has its entry written once
  pub chain : does (99 ∷ 100 ∷ 98 ∷ 99 ∷ 97 ∷ 98 ∷ []) ≡ done 15
  pub chain_left : left (99 ∷ 100 ∷ 98 ∷ 99 ∷ 97 ∷ 98 ∷ []) ≡ ((1 ∷ 98 ∷ []) ∷ (1 ∷ 99 ∷ []) ∷ (1 ∷ 100 ∷ []) ∷ [] ∷ [])
  pub along : does (97 ∷ 120 ∷ 120 ∷ 121 ∷ 121 ∷ 122 ∷ []) ≡ done 11
  pub along-left : left (97 ∷ 120 ∷ 120 ∷ 121 ∷ 121 ∷ 122 ∷ []) ≡ ((3 ∷ 122 ∷ []) ∷ (0 ∷ 98 ∷ []) ∷ (0 ∷ 99 ∷ []) ∷ [] ∷ [])
  -- "a" to "b", then "b" to "a", is no swap: "a" has its name again, its version up by 2, and "b" is gone, with its extent: root, two entries and the
  -- table sector
  pub back : does (97 ∷ 98 ∷ 98 ∷ 97 ∷ []) ≡ done 15
  pub back-left : left (97 ∷ 98 ∷ 98 ∷ 97 ∷ []) ≡ ((2 ∷ 97 ∷ []) ∷ [] ∷ (0 ∷ 99 ∷ []) ∷ [] ∷ [])
  pub back-table : (is_free ((catalogue L).table 0) ∷ is_free ((catalogue (after (97 ∷ 98 ∷ 98 ∷ 97 ∷ []))).table 0) ∷ []) ≡ (false ∷ true ∷ [])
  -- a name renamed onto and away again: "a" to "b", then "b" to "x": "b" is gone, and no file has its name
  pub away : does (97 ∷ 98 ∷ 98 ∷ 120 ∷ []) ≡ done 15
  pub away-left : left (97 ∷ 98 ∷ 98 ∷ 120 ∷ []) ≡ ((2 ∷ 120 ∷ []) ∷ [] ∷ (0 ∷ 99 ∷ []) ∷ [] ∷ [])
  -- one replaced twice: "a" to "c", then "b" to "c": two are gone
  pub twice : does (97 ∷ 99 ∷ 98 ∷ 99 ∷ []) ≡ done 15
  pub twice-left : left (97 ∷ 99 ∷ 98 ∷ 99 ∷ []) ≡ ([] ∷ (1 ∷ 99 ∷ []) ∷ [] ∷ [] ∷ [])
  -- to itself: no target, alone and beside another, and no version rises for it; but 9 where there is no such file
  pub itself : (does (97 ∷ 97 ∷ []) ∷ does (97 ∷ 97 ∷ 97 ∷ 120 ∷ []) ∷ does (122 ∷ 122 ∷ []) ∷ []) ≡ (done 0 ∷ done 11 ∷ refused 9 0 ∷ [])
  pub itself-root : ((after (97 ∷ 97 ∷ [])).root.version ∷ (after (97 ∷ 97 ∷ 97 ∷ 120 ∷ [])).root.version ∷ []) ≡ (0 ∷ 1 ∷ [])
  -- the place of the first that is refused: no file "z" at 0, 1 and 2; a blank as the new name at 1; "a" no longer there at 1; "x" there at 1. And 9 at 0
  -- before 8 at 1, though 8 is the lower number
  pub places : (does (122 ∷ 120 ∷ 97 ∷ 120 ∷ []) ∷ does (97 ∷ 120 ∷ 122 ∷ 121 ∷ []) ∷ does (97 ∷ 120 ∷ 98 ∷ 121 ∷ 122 ∷ 100 ∷ []) ∷ does (97 ∷ 120 ∷ 98 ∷ 32 ∷ [])
      ∷ does (97 ∷ 120 ∷ 97 ∷ 121 ∷ []) ∷ does (97 ∷ 120 ∷ 120 ∷ 121 ∷ []) ∷ does (122 ∷ 120 ∷ 98 ∷ 32 ∷ []) ∷ [])
      ≡ (refused 9 0 ∷ refused 9 1 ∷ refused 9 2 ∷ refused 8 1 ∷ refused 9 1 ∷ done 11 ∷ refused 9 0 ∷ [])
  -- a time that edition 1 hasn't: 8 at 0
  pub late : (asked (97 ∷ 120 ∷ []) (1 ∷ 1 ∷ []) 4294967295 5808 ∷ asked (97 ∷ 120 ∷ []) (1 ∷ 1 ∷ []) 4294967296 5808 ∷ []) ≡ (done 11 ∷ refused 8 0 ∷ [])
  -- "More than eight, or none", "an odd count of lengths and lengths that don't add up": eight and nine renames of "a" to itself; none; one and three
  -- lengths; a byte less and a byte more than the names have; and 2^64 more
  pub shapes : (does (replicate 16 97) ∷ does (replicate 18 97) ∷ does [] ∷ asked (97 ∷ []) (1 ∷ []) 7 0 ∷ asked (97 ∷ 97 ∷ 97 ∷ []) (1 ∷ 1 ∷ 1 ∷ []) 7 0
      ∷ asked (97 ∷ 97 ∷ []) (1 ∷ 0 ∷ []) 7 0 ∷ asked (97 ∷ 97 ∷ []) (1 ∷ 2 ∷ []) 7 0 ∷ asked (97 ∷ 97 ∷ []) (1 ∷ (2 ^ 64 + 1) ∷ []) 7 0 ∷ [])
      ≡ (done 0 ∷ refused 8 0 ∷ refused 8 0 ∷ refused 8 0 ∷ refused 8 0 ∷ refused 8 0 ∷ refused 8 0 ∷ refused 8 0 ∷ [])
  -- names of several letters: "a" to "bc", "bc" to "d"
  pub lengths : asked (97 ∷ 98 ∷ 99 ∷ 98 ∷ 99 ∷ 100 ∷ []) (1 ∷ 2 ∷ 2 ∷ 1 ∷ []) 7 5808 ≡ done 11
  -- 14: a byte less
  pub short : (asked (97 ∷ 120 ∷ []) (1 ∷ 1 ∷ []) 7 5807 ∷ asked (97 ∷ 97 ∷ []) (1 ∷ 1 ∷ []) 7 0 ∷ []) ≡ (refused 14 0 ∷ done 0 ∷ [])
  -- 13 by the count, with extents of 4 sectors, where K is 1: four targets, and five ("c" to "d", "b" to "a"); before 14
  pub counted : (told (answer (rename_set (99 ∷ 100 ∷ 97 ∷ 120 ∷ []) (1 ∷ 1 ∷ 1 ∷ 1 ∷ []) 7 10000) (three 4))
      ∷ told (answer (rename_set (99 ∷ 100 ∷ 97 ∷ 98 ∷ []) (1 ∷ 1 ∷ 1 ∷ 1 ∷ []) 7 10000) (three 4))
      ∷ told (answer (rename_set (99 ∷ 100 ∷ 97 ∷ 98 ∷ []) (1 ∷ 1 ∷ 1 ∷ 1 ∷ []) 7 0) (three 4)) ∷ [])
      ≡ (done 13 ∷ refused 13 0 ∷ refused 13 0 ∷ [])
  -- and on a volume's own geometry, where T + 17 is above K x S: T 112 and S 128, so K is 1, and eight renames with 129 targets for 128 sectors; seven of
  -- them have 127
  pub reached : (table_sectors sixteen.geometry ∷ reserve_extents sixteen.geometry ∷ count_of 8 ∷ count_of 7 ∷ []) ≡ (112 ∷ 1 ∷ 129 ∷ 127 ∷ [])
  pub reached-refused : told (answer (rename_set (letters_of 8) (replicate 16 1) 7 600000) sixteen) ≡ refused 13 0
  -- the longest set: 529 targets, 1,081 records
  pub longest : record_count 0 529 ≡ 1081
