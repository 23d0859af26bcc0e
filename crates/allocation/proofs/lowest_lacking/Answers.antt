-- `allocation::lowest_lacking` meets its contract. The loop's invariant: the search has passed the files below i.
use Prim.Native.Nat.{◌+◌}
use mathlib.Core.Path.{sym, ◌∙◌}
use native.Mathlib.Omega.{arith}
use Rattle.laws.proofs.Seeking.{seek-start, seek-here, seek-next, seek-end}
use Rattle.allocation.proofs.lowest_lacking.Goals as goal

pub loop-i-init : goal.loop-i-init
loop-i-init g c = seek-start

pub lacks_mark-requires : goal.lacks_mark-requires
lacks_mark-requires g c =
    let r = c.requires.rising in
    let i = c.loop-i.i in
    (omega (arith, r.rises i (omega arith)), omega (arith, r.last (i + 1) (omega arith), r.within))

pub returns-then-lacks_mark : goal.returns-then-lacks_mark
returns-then-lacks_mark g c =
    seek-here c.loop-i.invariant (omega arith) (rw (c.start.ensures, c.start-in-loop-i.ensures) at (sym c.lacks_mark.ensures ∙ c.if-lacks_mark.true))

pub loop-i-preserved : goal.loop-i-preserved
loop-i-preserved g c =
    seek-next c.loop-i.invariant (omega arith) (rw (c.start.ensures, c.start-in-loop-i.ensures) at (sym c.lacks_mark.ensures ∙ c.if-lacks_mark.false))

pub returns : goal.returns
returns g c = seek-end c.loop-i.invariant (omega arith)
