-- A resize of a file that was found: the part of the decision that rests on the file alone.
use Rattle.std.specs.Prelude.{ℕ, ◌+◌, List, [], ◌∷◌, ltb, length}
use Rattle.std.proofs.Math.Option.{some}
use Rattle.model.specs.Answers.{Changed}
use Rattle.model.specs.Geometry.{FileNumber}
use Rattle.model.specs.Disk.{Disk, view}
use Rattle.model.specs.Catalogue.{Catalogue, catalogue_of, entry_of}
use Rattle.model.specs.Refusals.{Conditions, refusal}
use Rattle.model.specs.Read.{longest_transfer}
use Rattle.model.specs.WriteList.{Plan, Decision, decided}
use Rattle.model.specs.Write.{no_room}
use Rattle.model.specs.Resize.{shrink_plan, resize_planned}
use Rattle.model.specs.Opened.{in_volume}
use Rattle.commit.specs.Decided.{fitted, ComesTo}

-- 8 "a resize that grows a file by more than 65,536", 13
unfoldable pub size_conditions : Catalogue → FileNumber → ℕ → Conditions
size_conditions c i z = (ltb ((entry_of c i).size + longest_transfer) z, refusal 8) ∷ (no_room c i z, refusal 13) ∷ []

unfoldable pub size_decision : ℕ → Disk → FileNumber → ℕ → ℕ → ℕ → Decision
size_decision len d i z time room = decided len d (size_conditions (catalogue_of d) i z) (resize_planned (catalogue_of d) d i z time) room

-- in an image: what the decision comes to; and where the file shrinks, its plan, and what that comes to
module _ (img : List ℕ) (i : FileNumber) (z time : ℕ) where
  abbrev pub shrink_for : Plan
  shrink_for = shrink_plan (catalogue_of (view img)) (view img) i z time

  abbrev pub FileResizesTo : List ℕ → Changed → List ℕ → Type 0
  FileResizesTo list answer after = ComesTo (view img) (in_volume size_decision img i z time (length list)) list answer after

  abbrev pub FileShrinksTo : List ℕ → Changed → List ℕ → Type 0
  FileShrinksTo list answer after = ComesTo (view img) (fitted (view img) (some shrink_for) (length list)) list answer after
