-- `format::extent_sectors_for` meets its contract. The loop's invariant: s is 128 doubled so many times, and the doublings that
-- are left give what all 24 give.
use Prim.Native.Nat.{◌-◌}
use mathlib.Core.Path.{refl, sym, ◌∙◌}
use native.Mathlib.Omega.{arith}
use Rattle.format.proofs.Laws.{width_low, width-high, wider, doubled-stop, doubled-next, doubled-end}
use Rattle.format.proofs.extent_sectors_for.Goals as goal

pub loop-i-init : goal.loop-i-init
loop-i-init c = (refl, refl)

pub nonzero_div-room : goal.nonzero_div-room
nonzero_div-room c = omega (arith, width_low c.loop-i._i)

pub returns-then-room-from-le65535 : goal.returns-then-room-from-le65535
returns-then-room-from-le65535 c =
    let l = c.loop-i in record {
      value = sym (sym l.invariant.1 ∙ doubled-stop c.args.room l.s (24 - l._i) (rw (← c.from.ensures) c.if-room-from-le65535.true));
      result_nonzero = omega (arith, width_low l._i);
    }

pub overflow_mul-s : goal.overflow_mul-s
overflow_mul-s c = omega (arith, width-high c.loop-i._i 23 (omega arith))

pub loop-i-preserved : goal.loop-i-preserved
loop-i-preserved c =
    let l = c.loop-i in
    (wider l._i l.s l.invariant.0, sym (doubled-next c.args.room l.s l._i c.loop-i-test.true (rw (← c.from.ensures) c.if-room-from-le65535.false)) ∙ l.invariant.1)

pub returns : goal.returns
returns c =
    let l = c.loop-i in record {
      value = sym (sym l.invariant.1 ∙ doubled-end c.args.room l.s l._i c.loop-i-test.false);
      result_nonzero = omega (arith, width_low l._i);
    }
