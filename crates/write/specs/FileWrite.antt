-- A write to a file that was found: what its new size needs, and the part of the decision that rests on the file alone.
use Rattle.std.specs.Prelude.{ℕ, ◌≤◌, ◌<◌, ◌^◌, ◌≡◌, List, [], ◌∷◌, ltb, length, Result, Ok, Err}
use Rattle.model.specs.Answers.{Changed}
use Rattle.model.specs.declared.Refusal.{Refusal}
use Rattle.model.specs.declared.Geometry.{Geometry}
use Rattle.model.specs.Search.{index_of}
use Rattle.model.specs.Geometry.{FileNumber}
use Rattle.model.specs.Disk.{Disk, view}
use Rattle.model.specs.Table.{free_file}
use Rattle.model.specs.Catalogue.{Catalogue, catalogue_of, file_named, free_extent, entry_of}
use Rattle.model.specs.Refusals.{Conditions, refusal, done}
use Rattle.model.specs.Results.{verdict_for}
use Rattle.model.specs.Read.{longest_transfer}
use Rattle.model.specs.WriteList.{Plan, Decision, decided}
use Rattle.model.specs.Write.{held_extents, grows, no_room, size_after, write_plan, write_planned}
use Rattle.model.specs.Opened.{Opened, in_volume, Accepted}
use Rattle.commit.specs.Decided.{ComesTo}
use Rattle.write.specs.declared.Growth.{Growth}
use Rattle.write.specs.declared.Begun.{Begun}

-- w says of file i what a new size z needs
pub record Grown (c : Catalogue) (i z : ℕ) (w : Growth) : Type 0 where
  pub extents : w.held ≡ held_extents c i
  pub needs-one : w.more ≡ grows c i z
  pub taken : w.next.0 ≡ index_of (free_extent c)

-- on a judged image of geometry g: file i is in the directory, its size is known, and n bytes are not too many
pub record Asked (img : List ℕ) (g : Geometry) (i size n : ℕ) : Type 0 where
  pub judgment : Accepted img
  pub opened : Opened img g
  pub file : i < g.files
  pub says : size ≡ (entry_of (catalogue_of (view img)) i).size
  pub fits : size < 2 ^ 62
  pub short : n ≤ longest_transfer

-- file i has this size, and a span in it ends where a write can end
pub record Spans (c : Catalogue) (i size end : ℕ) : Type 0 where
  pub file : i < free_file
  pub says : size ≡ (entry_of c i).size
  pub ends : end < 2 ^ 63

-- what is begun or refused, as an answer
abbrev pub begun_in : Result Begun Refusal → Changed
begun_in (Ok b) = record { verdict = done; length = b.length }
begun_in (Err r) = record { verdict = verdict_for r; length = 0 }

-- b is of the file that has the name
abbrev pub Named : List ℕ → List ℕ → ℕ → Begun → Type 0
Named img name end b =
    let c = catalogue_of (view img) in
    (b.index.0 ≡ index_of (file_named c name)) × Spans c b.index.0 b.size end

-- 12, 13
unfoldable pub file_conditions : Catalogue → FileNumber → ℕ → ℕ → Conditions
file_conditions c i offset n = (ltb (entry_of c i).size offset, refusal 12) ∷ (no_room c i (size_after c i offset n), refusal 13) ∷ []

-- the decision by these conditions
unfoldable pub file_decision : ℕ → Disk → FileNumber → ℕ → List ℕ → ℕ → ℕ → Decision
file_decision len d i offset bytes time room =
    decided len d (file_conditions (catalogue_of d) i offset (length bytes)) (write_planned (catalogue_of d) i d offset bytes time) room

-- in an image: the plan of a write of some bytes, and what the decision comes to
module _ (img : List ℕ) (i : FileNumber) (offset : ℕ) (bytes : List ℕ) (time : ℕ) where
  abbrev pub plan_for : Plan
  plan_for = write_plan (catalogue_of (view img)) i (view img) offset bytes time

  abbrev pub FileWritesTo : List ℕ → Changed → List ℕ → Type 0
  FileWritesTo list answer after = ComesTo (view img) (in_volume file_decision img i offset bytes time (length list)) list answer after
