-- `table::staging` meets its contract. The loop's invariant: the free extents from e on stand in the last places of the reserve's, from place k on.
use Prim.Native.Nat.{◌≤◌}
use mathlib.Core.Path.{◌≡◌}
use lib.ListN.{length}
use Rattle.model.specs.Disk.{view}
use Rattle.model.specs.Catalogue.{catalogue_of}
use Rattle.table.proofs.Stages.{Searching}
use Rattle.table.proofs.staging.Given as goal

abbrev pub invariant-loop-k : goal.invariant-loop-k
invariant-loop-k l = (l.k ≤ 5) × (length l.stages ≡ 5) × Searching l.g (catalogue_of (view l.img)) l.stages l.k l.e
