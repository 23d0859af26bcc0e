-- `fields::put_be` meets its contract. The loop's invariant: x stored in the first i bytes gives what the whole store gives.
use mathlib.Core.Path.{◌≡◌}
use Rattle.model.specs.Bytes.{be_bytes, put}
use Rattle.fields.proofs.put_be.Given as goal

abbrev pub invariant-loop-i : goal.invariant-loop-i
invariant-loop-i l = put l.b l.at (be_bytes l.i l.x) ≡ put l.initial.b l.at (be_bytes l.width l.v)
