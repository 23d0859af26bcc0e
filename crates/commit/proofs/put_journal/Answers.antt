-- `commit::put_journal` meets its contract. The loop's invariant: the first j journal sectors are emitted.
use mathlib.Core.Path.{◌≡◌}
use Prim.Native.Nat.{◌+◌, ◌/◌}
use native.Mathlib.Nat.{add-zero}
use native.Mathlib.Omega.{arith}
use Rattle.model.specs.Search.{tabulate}
use Rattle.laws.proofs.WriteList.{emitted-none}
use Rattle.commit.proofs.Records.{emitted-more}
use Rattle.commit.proofs.Turns.{journal_record, journal-staged}
use Rattle.commit.proofs.put_journal.Goals as goal

pub loop-j-init : goal.loop-j-init
unfolding tabulate
loop-j-init c = rw add-zero (emitted-none _ _)

pub loop-j-preserved : goal.loop-j-preserved
loop-j-preserved c =
    let a = c.args in
    emitted-more {r = c.put_sector.result} (journal_record a.g a.stages.now a.numbers.now a.n) c.loop-j.invariant
    (rw (← c.journal_at-at.ensures, ← c.journal_sector-s.ensures) c.put_sector.ensures)

pub returns : goal.returns
returns c =
    let a = c.args in
    let e : c.loop-j.j ≡ (a.n + 31) / 32 = omega arith in
    let m : c.div_ceil-m.result ≡ c.loop-j.j = omega arith in record {
      emitted = rw (journal-staged, ← e, m) c.loop-j.invariant;
      value = omega arith;
    }
