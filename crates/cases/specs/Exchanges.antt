-- T-14: what differs between two orders of two calls, so that the claim can't ask for more or do with less. Sample: 1,313 sectors, F 255, of edition 1
-- as in the other tables; in each order the latest call stands first.
use Rattle.std.specs.Prelude.{ℕ, ◌≡◌, List, [], ◌∷◌}
use Rattle.std.proofs.Math.Option.{none}
use Rattle.model.specs.Ledger.{file_or, file_of, Call, list, create, delete, write, rename_set, Feed, whole, answer, number_of}
use Rattle.cases.specs.Cases.{called, makes, after, table, owned}

-- "a" made at 5 and "b" at 7, and both orders
abbrev pub makes_a : Call
makes_a = create (called 97) 97 0 5 5808

abbrev pub makes_b : Call
makes_b = create (called 98) 98 0 7 5808

abbrev pub a_first : List Feed
a_first = whole makes_b ∷ whole makes_a ∷ []

abbrev pub b_first : List Feed
b_first = whole makes_a ∷ whole makes_b ∷ []

-- the files "a" and "b", and a byte written to one of them
abbrev pub two : List Feed
two = makes 98 ∷ makes 97 ∷ []

abbrev pub putting : ℕ → ℕ → Call
putting letter byte = write (called letter) 0 (byte ∷ []) 0 10000

abbrev pub puts : ℕ → ℕ → Feed
puts letter byte = whole (putting letter byte)

-- "b" deleted, and "c" made with its id
abbrev pub removal : Call
removal = delete (called 98) 0 10000

abbrev pub makes_c : Call
makes_c = create (called 99) 98 0 0 5808

-- "d" beside them; and "a" renamed to "c", "b" to "d", in one set
abbrev pub three : List Feed
three = makes 100 ∷ two

abbrev pub moves : Call
moves = rename_set (97 ∷ 99 ∷ 98 ∷ 100 ∷ []) (1 ∷ 1 ∷ 1 ∷ 1 ∷ []) 0 20000

abbrev pub listing : ℕ → Feed
listing time = whole (list 0 time 1 4752)

-- the names in slots 0 and 1; the root's version and times
abbrev pub slots : List Feed → List (List ℕ)
slots fs = (file_or ((after fs).slots 0)).entry.name ∷ (file_or ((after fs).slots 1)).entry.name ∷ []

abbrev pub root : List Feed → List ℕ
root fs = let r = (after fs).root in r.version ∷ r.access_time ∷ r.change_time ∷ []

pub record Exchanges : Type 0 where
  -- "Slot and extent numbers .. may differ"
  pub slots-differ : (slots a_first ∷ slots b_first ∷ []) ≡ ((called 97 ∷ called 98 ∷ []) ∷ (called 98 ∷ called 97 ∷ []) ∷ [])
  pub extents-differ : (table (puts 98 1 ∷ puts 97 1 ∷ two) ∷ table (puts 97 1 ∷ puts 98 1 ∷ two) ∷ [])
      ≡ ((owned 0 0 ∷ owned 1 0 ∷ none ∷ none ∷ []) ∷ (owned 1 0 ∷ owned 0 0 ∷ none ∷ none ∷ []) ∷ [])
  -- "and the root's times": its change time, and its access time where list is not left out; its version is the same
  pub root-differs : (root a_first ∷ root b_first ∷ []) ≡ ((2 ∷ 0 ∷ 7 ∷ []) ∷ (2 ∷ 0 ∷ 5 ∷ []) ∷ [])
  pub lists-differ : (root (listing 7 ∷ listing 5 ∷ two) ∷ root (listing 5 ∷ listing 7 ∷ two) ∷ []) ≡ ((2 ∷ 7 ∷ 0 ∷ []) ∷ (2 ∷ 5 ∷ 0 ∷ []) ∷ [])
  -- "that share no name": two writes of one file
  pub shared-differ : ((file_of (after (puts 97 2 ∷ puts 97 1 ∷ two)) (called 97)).bytes ∷ (file_of (after (puts 97 1 ∷ puts 97 2 ∷ two)) (called 97)).bytes ∷ [])
      ≡ ((2 ∷ []) ∷ (1 ∷ []) ∷ [])
  -- "A set .. counts with all its names": one that shares its last name alone with a write. Both are accepted in either order
  pub set-differs : ((file_of (after (puts 100 1 ∷ whole moves ∷ three)) (called 100)).bytes ∷ (file_of (after (whole moves ∷ puts 100 1 ∷ three)) (called 100)).bytes ∷ [])
      ≡ ((1 ∷ []) ∷ [] ∷ [])
  pub set-accepted : (number_of (answer moves (after three)) ∷ number_of (answer (putting 100 1) (after (whole moves ∷ three)))
      ∷ number_of (answer (putting 100 1) (after three)) ∷ number_of (answer moves (after (puts 100 1 ∷ three))) ∷ []) ≡ (0 ∷ 0 ∷ 0 ∷ 0 ∷ [])
  -- "A delete may .. release the id that the other needs": 10, and 0 after it; of the room P8 and P9 say it. Where only one order is accepted, the
  -- other leaves other files
  pub id-released : (number_of (answer makes_c (after two)) ∷ number_of (answer makes_c (after (whole removal ∷ two))) ∷ []) ≡ (10 ∷ 0 ∷ [])
  pub one-order : (slots (whole makes_c ∷ whole removal ∷ two) ∷ slots (whole removal ∷ whole makes_c ∷ two) ∷ []) ≡ ((called 97 ∷ called 99 ∷ []) ∷ (called 97 ∷ [] ∷ []) ∷ [])
