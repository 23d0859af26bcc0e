-- `repair::mark_strays` meets its contract. The loop's invariant: the chains and the bytes are those of the extents passed.
use Prim.Native.Nat.{ℕ, ◌≤◌}
use mathlib.Core.Path.{◌≡◌}
use lib.ListN.{get_or}
use Rattle.model.specs.Search.{count_below}
use Rattle.model.specs.Disk.{view}
use Rattle.model.specs.Catalogue.{catalogue_of}
use Rattle.model.specs.Repair.{is_stray}
use Rattle.table.specs.Owned.{Marks}
use Rattle.repair.specs.Strays.{Linked}
use Rattle.repair.proofs.mark_strays.Given as goal

abbrev pub invariant-loop-e : goal.invariant-loop-e
invariant-loop-e l = Linked l.g (view l.img) l.e l.chains × Marks (is_stray (catalogue_of (view l.img))) l.e l.marks × ((k : ℕ) → l.e ≤ k → get_or l.marks k 0 ≡ 0)
    × (l.found ≡ count_below (is_stray (catalogue_of (view l.img))) l.e)
