-- `allocation::fill_starts` meets its contract. The loop's invariant: the starts below i stand in the array, and the sum is the start of file i.
use mathlib.Core.Path.{◌≡◌, refl, ◌∙◌}
use native.Mathlib.Omega.{arith}
use lib.ListN.{length-set}
use Rattle.model.specs.Disk.{view}
use Rattle.laws.proofs.Bytes.{set_next}
use Rattle.allocation.specs.Marks.{sum_to, start_of}
use Rattle.allocation.proofs.Marks.{start-next}
use Rattle.allocation.proofs.fill_starts.Goals as goal

pub loop-i-init : goal.loop-i-init
unfolding start_of sum_to
loop-i-init g c = (refl, refl, omega arith, λ j l. absurd (omega arith))

pub put_start-requires : goal.put_start-requires
put_start-requires g c = (omega (arith, c.loop-i.invariant.0), omega (arith, c.requires.opened.bounded.extents-high))

pub returns-then-g-sum : goal.returns-then-g-sum
returns-then-g-sum g c =
    let l = c.loop-i in
    let a = c.args in
    let n = g.S.Start.numbers l.starts in
    record {
      starts = rw c.put_start.ensures record {
        size = omega (arith, length-set n l.i l.sum, l.invariant.0);
        files = omega arith;
        at = λ j k. set_next (start_of a.g (view a.img.now)) n l.i l.sum (omega (arith, l.invariant.0)) l.invariant.1 l.invariant.3 j (omega arith);
        fits = omega arith;
      };
      extents_bound = λ r. omega (arith, start-next a.g (view a.img.now) l.i);
    }

pub loop-i-preserved : goal.loop-i-preserved
loop-i-preserved g c =
    let l = c.loop-i in
    let a = c.args in
    let n = g.S.Start.numbers l.starts in (
      rw c.put_start.ensures (length-set n l.i l.sum ∙ l.invariant.0),
      omega (arith, start-next a.g (view a.img.now) l.i),
      omega arith,
      rw c.put_start.ensures (λ j k. set_next (start_of a.g (view a.img.now)) n l.i l.sum (omega (arith, l.invariant.0)) l.invariant.1 l.invariant.3 j k),
    )

pub returns : goal.returns
returns g c =
    let l = c.loop-i in
    let a = c.args in
    let n = g.S.Start.numbers l.starts in
    let e : l.i ≡ a.g.files = omega arith in
    record {
      starts = rw c.put_start-2.ensures record {
        size = omega (arith, length-set n a.g.files l.sum, l.invariant.0);
        files = omega arith;
        at = λ j k. set_next (start_of a.g (view a.img.now)) n a.g.files l.sum (omega (arith, l.invariant.0)) (rw e at l.invariant.1) (rw e at l.invariant.3) j (omega arith);
        fits = omega (arith, rw e at l.invariant.1);
      };
      extents_bound = λ r. absurd (omega arith);
    }
