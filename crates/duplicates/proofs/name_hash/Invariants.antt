-- `duplicates::name_hash` meets its contract. The loop's invariant: `sum` is that of the first i words.
use Prim.Native.Nat.{◌*◌, ◌≤◌}
use mathlib.Core.Path.{◌≡◌}
use Rattle.duplicates.specs.Keys.{words_sum}
use Rattle.duplicates.proofs.name_hash.Given as goal

abbrev pub invariant-loop-i : goal.invariant-loop-i
invariant-loop-i l = (l.sum ≡ words_sum l.name l.i) × (l.sum ≤ l.i * 281474976710656)
