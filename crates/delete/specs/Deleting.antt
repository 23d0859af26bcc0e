-- A delete of a file that was found: its plan, and what it comes to.
use Rattle.std.specs.Prelude.{ℕ, List, length}
use Rattle.std.proofs.Math.Option.{some}
use Rattle.model.specs.Answers.{Changed}
use Rattle.model.specs.Geometry.{FileNumber}
use Rattle.model.specs.Disk.{view}
use Rattle.model.specs.Catalogue.{catalogue_of}
use Rattle.model.specs.WriteList.{Plan}
use Rattle.model.specs.Delete.{delete_plan}
use Rattle.commit.specs.Decided.{fitted, ComesTo}

abbrev pub plan_for : List ℕ → FileNumber → ℕ → Plan
plan_for img i time = delete_plan (catalogue_of (view img)) (view img) i time

abbrev pub DeletesTo : List ℕ → FileNumber → ℕ → List ℕ → Changed → List ℕ → Type 0
DeletesTo img i time list answer after = ComesTo (view img) (fitted (view img) (some (plan_for img i time)) (length list)) list answer after
