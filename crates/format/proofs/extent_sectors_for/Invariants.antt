-- `format::extent_sectors_for` meets its contract. The loop's invariant: s is 128 doubled so many times, and the doublings that
-- are left give what all 24 give.
use Prim.Native.Nat.{◌+◌, ◌-◌, ◌^◌}
use mathlib.Core.Path.{◌≡◌}
use Rattle.model.specs.Format.{doubled}
use Rattle.format.proofs.extent_sectors_for.Given as goal

abbrev pub invariant-loop-i : goal.invariant-loop-i
invariant-loop-i l = (l.s ≡ 2 ^ (7 + l._i)) × (doubled l.room (24 - l._i) l.s ≡ doubled l.room 24 128)
