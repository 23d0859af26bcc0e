-- `spans::put_piece` meets its contract. The loop's invariant: the first j sectors are emitted.
-- the record of file sector x, where sector s stands at start
use Prim.Native.Nat.{ℕ, ◌+◌, ◌-◌}
use mathlib.Core.Path.{◌≡◌}
use mathlib.Core.List.{List}
use Rattle.model.specs.Search.{tabulate}
use Rattle.model.specs.Disk.{view}
use Rattle.model.specs.WriteList.{Record, sector_write, Emitted}
use Rattle.model.specs.Write.{spliced}
use Rattle.spans.specs.Touched.{span_of}
use Rattle.spans.proofs.put_piece.Given as goal

abbrev pub sector_at : List ℕ → ℕ → ℕ → List ℕ → ℕ → ℕ → Record
sector_at img start offset bytes s x = sector_write (start + (x - s)) (spliced offset bytes x (view img (start + (x - s))))

abbrev pub invariant-loop-j : goal.invariant-loop-j
invariant-loop-j l = (l.at ≡ l.k + l.j) × Emitted l.initial.list l.k (tabulate (sector_at l.img l.start.0 l.offset (span_of l.bytes l.len) l.s) l.s l.j) l.list l.at
