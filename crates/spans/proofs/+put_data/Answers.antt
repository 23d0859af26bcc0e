-- By induction on n: the sectors in one extent, and then the rest, are the whole span.
use Rattle.std.proofs.Common.{◌≡◌, ◌+◌, ◌-◌, arith}
use Rattle.model.specs.Search.{tabulate}
use Rattle.laws.proofs.Search.{tabulate-split}
use Rattle.laws.proofs.WriteList.{emitted-none, emitted_then}
use Rattle.spans.proofs.+put_data.Goals as goal

pub returns-then-n-eq0-clause-emitted : goal.returns-then-n-eq0-clause-emitted
unfolding tabulate
returns-then-n-eq0-clause-emitted t c = rw c.if-n-eq0.true (emitted-none _ _)

pub returns-clause-emitted : goal.returns-clause-emitted
returns-clause-emitted t c =
    let n = c.args.n in
    let m = c.put_in_extent-m in
    let e : n ≡ m.result + (n - m.result) = omega arith in
    rw (e, tabulate-split) (emitted_then m.ensures.emitted c.put_data.ensures.emitted)
