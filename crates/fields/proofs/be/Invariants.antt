-- `fields::be` meets its contract. The loop's invariant: v is the number of the first bytes, and below 256 to their count.
use mathlib.Core.Path.{◌≡◌}
use Prim.Native.Nat.{◌^◌, ◌<◌}
use Rattle.model.specs.Bytes.{be_at}
use Rattle.fields.proofs.be.Given as goal

abbrev pub invariant-loop-b : goal.invariant-loop-b
invariant-loop-b l = (l.v ≡ be_at l.b-items 0 l.b-index) × (l.v < 256 ^ l.b-index)
