-- `commit::put_targets` meets its contract. The loop's invariant: the first j targets are emitted, with their copies' contents.
use mathlib.Core.Path.{◌≡◌, refl}
use native.Mathlib.Nat.{add-zero}
use native.Mathlib.Omega.{arith}
use Rattle.model.specs.Search.{tabulate}
use Rattle.laws.proofs.WriteList.{emitted-none}
use Rattle.commit.specs.Commit.{staged_targets}
use Rattle.commit.proofs.Turns.{targets-more}
use borrow.Author.Rules.{rules}
use Rattle.commit.proofs.put_targets.Goals as goal

pub loop-j-init : goal.loop-j-init
unfolding staged_targets tabulate
loop-j-init c = rw add-zero (emitted-none _ _)

pub loop-j-preserved : goal.loop-j-preserved
loop-j-preserved c = targets-more c.args.from c.args.numbers.now c.loop-j.j c.loop-j.invariant (search rules) c.put_target.ensures

pub returns : goal.returns
returns c =
    let e : c.loop-j.j ≡ c.args.n = omega arith in record {
      emitted = rw (← e) c.loop-j.invariant;
      value = refl;
    }
