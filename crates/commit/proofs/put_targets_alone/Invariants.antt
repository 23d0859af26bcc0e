-- `commit::put_targets_alone` meets its contract. The loop's invariant: the targets passed are staged.
use mathlib.Core.Path.{◌≡◌}
use mathlib.Core.List.{List, map}
use Prim.Native.Nat.{ℕ}
use lib.ListN.{length, take}
use Rattle.model.specs.declared.Sector.{Sector}
use Rattle.model.specs.WriteList.{Record, sector_write}
use Rattle.commit.specs.Commit.{Added}
use Rattle.commit.proofs.put_targets_alone.Given as goal

-- a target: a sector and its new contents
abbrev pub target_write : Sector × List ℕ → Record
target_write t = sector_write t.0.0 t.1

abbrev pub invariant-loop-sector : goal.invariant-loop-sector
invariant-loop-sector g l =
    Added l.g l.stages l.initial.numbers l.initial.list 0 (map target_write (take l.sector-index l.targets)) l.numbers l.list l.k
    × (length l.numbers ≡ g.row.N) × (l.k ≡ l.sector-index)
