-- `allocation::fill_starts` meets its contract. The loop's invariant: the starts below i stand in the array, and the sum is the start of file i.
use Prim.Native.Nat.{ℕ, ◌≤◌, ◌<◌}
use mathlib.Core.Path.{◌≡◌}
use lib.ListN.{length, get_or}
use Rattle.model.specs.Disk.{view}
use Rattle.allocation.specs.Marks.{start_of}
use Rattle.allocation.proofs.fill_starts.Given as goal

abbrev pub invariant-loop-i : goal.invariant-loop-i
invariant-loop-i g l =
    let n = g.S.Start.numbers in
    (length (n l.starts) ≡ length (n l.initial.starts)) × (l.sum ≡ start_of l.g (view l.img) l.i) × (l.sum ≤ l.g.extents)
    × ((j : ℕ) → j < l.i → get_or (n l.starts) j 0 ≡ start_of l.g (view l.img) j)
