-- `repair::marked_sectors` meets its contract. The loop's invariant: how many of the sectors passed hold one.
use Prim.Native.Nat.{◌+◌}
use mathlib.Core.Path.{◌≡◌, refl}
use native.Mathlib.Omega.{arith}
use Rattle.model.specs.Search.{count_below}
use Rattle.model.specs.Table.{holds_any, sectors_holding}
use Rattle.laws.proofs.Count.{count_below-le}
use Rattle.table.specs.Owned.{is_marked}
use Rattle.repair.proofs.Strays.{counted-next}
use Rattle.repair.proofs.marked_sectors.Goals as goal

pub loop-t-init : goal.loop-t-init
unfolding count_below
loop-t-init c = refl

pub overflow_add-found : goal.overflow_add-found
overflow_add-found c =
    let p = holds_any (is_marked c.args.marks.now) in
    let more = counted-next p c.loop-t.t c.loop-t.invariant c.from-found.ensures c.holds_marked.ensures in
    omega (arith, more, count_below-le p (c.loop-t.t + 1))

pub loop-t-preserved : goal.loop-t-preserved
loop-t-preserved c = counted-next (holds_any (is_marked c.args.marks.now)) c.loop-t.t c.loop-t.invariant c.from-found.ensures c.holds_marked.ensures

pub returns : goal.returns
unfolding sectors_holding
returns c =
    let e : c.loop-t.t ≡ c.table_sectors-t-end.result = omega arith in record {
      value = rw (← c.table_sectors-t-end.ensures, ← e) c.loop-t.invariant;
      upper_bound = omega (arith, c.loop-t.invariant, count_below-le (holds_any (is_marked c.args.marks.now)) c.loop-t.t);
    }
