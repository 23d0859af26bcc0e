-- A list of bytes as it is carried out: its groups are what its barriers close, and a cut of it is a cut of these groups. And a
-- format whose records are asked for one after the other and joined.
use Rattle.std.specs.Prelude.{ℕ, cond, List, [], ◌∷◌, eqb, length}
use Rattle.model.specs.Bytes.{bytes_from}
use Rattle.model.specs.Search.{concatenated}
use Rattle.model.specs.WriteList.{Record, Group, barrier_number, stored}
use Rattle.model.specs.CarryOut.{records_in}
use Rattle.model.specs.Cut.{Cut, landed}
use Rattle.model.specs.Format.{Format, formatted_geometry, format_count, format_answer, format_output}

-- a record put in front of the first group
abbrev pub with_record : Record → List Group → List Group
with_record r [] = (r ∷ []) ∷ []
with_record r (g ∷ gs) = (r ∷ g) ∷ gs

-- "each closed by a barrier": cut after each record of the barrier's number, which no group keeps; records behind the last barrier
-- are a group of their own
unfoldable pub groups_in : List Record → List Group
groups_in [] = []
groups_in (r ∷ rs) = let rest = groups_in rs in cond (eqb r.sector barrier_number) ([] ∷ rest) (with_record r rest)

-- the image on which a cut of a list's bytes landed
unfoldable pub cut_image : Cut → List ℕ → List ℕ → List ℕ
cut_image x list img = stored (landed x (groups_in (records_in list))) img

-- a format's records joined to a list, in order, each asked for with the buffer outs gives
unfoldable pub format_list : Format → (ℕ → List ℕ) → List ℕ
format_list a outs =
    concatenated (λ p. bytes_from (format_output a p (outs p)) 0 (format_answer a p (length (outs p))).length) 0 (format_count (formatted_geometry a))
