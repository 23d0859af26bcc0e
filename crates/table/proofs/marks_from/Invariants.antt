-- `table::marks_from` meets its contract. The loop's invariant: the entries passed are marked.
use Rattle.std.proofs.Common.{◌+◌, ◌*◌, ◌≡◌, length}
use Rattle.table.specs.Owned.{owned_in, Marks}
use Rattle.table.proofs.marks_from.Given as goal

abbrev pub invariant-loop-k : goal.invariant-loop-k
invariant-loop-k l = Marks (λ k. owned_in l.img l.i.0 l.o (128 * l.t + k)) l.k l.marks × (length l.marks ≡ 128)
