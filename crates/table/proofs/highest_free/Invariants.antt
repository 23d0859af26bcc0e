-- `table::highest_free` meets its contract. The loop's invariant: no extent from e on is free.
use Prim.Native.Nat.{◌≤◌}
use mathlib.Core.Path.{◌≡◌}
use Rattle.model.specs.Disk.{view}
use Rattle.model.specs.Catalogue.{catalogue_of, free_below}
use Rattle.table.proofs.highest_free.Given as goal

abbrev pub invariant-loop-e : goal.invariant-loop-e
invariant-loop-e l = (l.e ≤ l.end) × (free_below (catalogue_of (view l.img)) l.end ≡ free_below (catalogue_of (view l.img)) l.e)

abbrev pub decreases-loop-e : goal.decreases-loop-e
decreases-loop-e l = l.e
