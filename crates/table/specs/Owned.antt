-- A file's extents from an offset on, and bytes that mark extents.
use Rattle.std.specs.Prelude.{ℕ, ◌<◌, ◌≡◌, Bool, cond, List, eqb, get_or}
use Rattle.model.specs.Geometry.{FileNumber, ExtentNumber}
use Rattle.model.specs.Disk.{view}
use Rattle.model.specs.Catalogue.{catalogue_of, owns_from}

-- extent e of an image is file i's, of offset o or more
abbrev pub owned_in : List ℕ → FileNumber → ℕ → ExtentNumber → Bool
owned_in img i o = owns_from (catalogue_of (view img)) i o

-- byte k marks by 1
abbrev pub is_marked : List ℕ → ℕ → Bool
is_marked marks k = eqb (get_or marks k 0) 1

-- the first n bytes mark what p picks
abbrev pub Marks : (ℕ → Bool) → ℕ → List ℕ → Type 0
Marks p n marks = (k : ℕ) → k < n → get_or marks k 0 ≡ cond (p k) 1 0
