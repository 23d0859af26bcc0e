-- `commit::put_commit` meets its contract. The parts, emitted one after the other, are the groups; none of them changes a copy.
use Prim.Native.Nat.{◌-◌}
use native.Mathlib.Omega.{arith}
use Rattle.laws.proofs.WriteList.{emitted_then}
use Rattle.commit.proofs.Turns.{targets-kept, commit-closed}
use Rattle.commit.proofs.put_commit.Goals as goal

pub returns-clause-emitted : goal.returns-clause-emitted
returns-clause-emitted c =
    let a = c.args in
    let front = emitted_then (emitted_then c.put_journal-k1.ensures.emitted c.put_barrier-k2.ensures) c.put_superblock-k3.ensures in
    let targets = targets-kept (a.k - a.n) a.numbers.now a.n (omega arith) front c.put_targets-k4.ensures.emitted in
    rw commit-closed (emitted_then (emitted_then (emitted_then front targets) c.put_barrier-k5.ensures) c.put_superblock.ensures)
