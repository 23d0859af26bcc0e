-- `spans::put_piece` meets its contract. The loop's invariant: the first j sectors are emitted.
use Prim.Native.Nat.{◌+◌, ◌-◌}
use mathlib.Core.Path.{◌≡◌}
use native.Mathlib.Omega.{arith}
use Rattle.model.specs.Search.{tabulate}
use Rattle.laws.proofs.Search.{tabulate-more}
use Rattle.laws.proofs.WriteList.{emitted-none, emitted_then}
use Rattle.spans.proofs.put_piece.Goals as goal

pub loop-j-init : goal.loop-j-init
unfolding tabulate
loop-j-init c = (omega arith, emitted-none _ _)

pub put_data_sector-at-requires : goal.put_data_sector-at-requires
put_data_sector-at-requires c =
    let p = c.requires in
    let t = p.touched in record {
      record_size_in_bounds = omega arith;
      place_bound = omega (arith, p.n_bound);
      touched = record { small = t.small; low = omega (arith, t.low); high = omega (arith, t.high) };
      source = p.source;
    }

pub loop-j-preserved : goal.loop-j-preserved
loop-j-preserved c =
    let l = c.loop-j in
    let a = c.args in
    let e : a.start.0 + l.j ≡ a.start.0 + (a.s + l.j - a.s) = omega arith in
    let n = c.put_data_sector-at.ensures.next in
    (omega arith, rw tabulate-more (emitted_then l.invariant.1 (rw e at c.put_data_sector-at.ensures)))

pub returns : goal.returns
returns c =
    let l = c.loop-j in
    let e : l.j ≡ c.args.n = omega arith in record {
      value = omega arith;
      emitted = rw (← e) l.invariant.1;
    }
