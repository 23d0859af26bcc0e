-- `repair::marked_sectors` meets its contract. The loop's invariant: how many of the sectors passed hold one.
use mathlib.Core.Path.{◌≡◌}
use Rattle.model.specs.Search.{count_below}
use Rattle.model.specs.Table.{holds_any}
use Rattle.table.specs.Owned.{is_marked}
use Rattle.repair.proofs.marked_sectors.Given as goal

abbrev pub invariant-loop-t : goal.invariant-loop-t
invariant-loop-t l = l.found ≡ count_below (holds_any (is_marked l.marks)) l.t
