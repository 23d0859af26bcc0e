-- `commit::entries_in` meets its contract. The loop's invariant: the first i entries are put in.
use mathlib.Core.Path.{◌≡◌, refl}
use native.Mathlib.Omega.{arith}
use Rattle.model.specs.Bytes.{zero_sector}
use Rattle.model.specs.Journal.{entries_in}
use Rattle.commit.proofs.Turns.{entries-more}
use Rattle.commit.proofs.entries_in.Goals as goal

pub loop-i-init : goal.loop-i-init
unfolding entries_in zero_sector
loop-i-init c = refl

pub loop-i-preserved : goal.loop-i-preserved
loop-i-preserved c = rw (entries-more, ← c.loop-i.invariant, ← c.stage_at-source.ensures) c.put.ensures

pub returns : goal.returns
returns c =
    let e : c.loop-i.i ≡ c.args.n = omega arith in
    rw (← e) c.loop-i.invariant
