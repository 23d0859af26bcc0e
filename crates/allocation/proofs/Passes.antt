-- A pass over one extent. Assumes nothing.
use Prim.Native.Nat.{ℕ, ◌+◌, ◌≤◌}
use mathlib.Core.Path.{◌≡◌}
use mathlib.Core.Bool.{false}
use mathlib.Core.List.{List}
use native.Mathlib.Omega.{arith}
use Rattle.model.specs.declared.Geometry.{Geometry}
use Rattle.model.specs.Disk.{Disk}
use Rattle.model.specs.Catalogue.{catalogue_of}
use Rattle.model.specs.Faults.{fault25}
use Rattle.allocation.specs.Marks.{Marks, Reached}

module _ (g : Geometry) (d : Disk) where
  pub one-placed : (e f m : ℕ) (seen : List ℕ) → fault25 (catalogue_of d) e ≡ false → Marks g d (e + 1) m seen → m ≤ f → Reached g d e (e + 1) f m seen
  one-placed e f m seen p M l = record {
    placed = λ j a b. let z : j ≡ e = omega arith in rw z p;
    marks = M;
    lower = l;
  }
