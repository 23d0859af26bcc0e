-- `duplicates::name_hash` meets its contract. The loop's invariant: `sum` is that of the first i words.
use Prim.Native.Nat.{◌/◌}
use mathlib.Core.Path.{◌≡◌, refl, ◌∙◌}
use borrow.Author.Tests.{lt-ltb, le-ltb}
use native.Mathlib.Omega.{arith}
use lib.ListN.{length}
use Rattle.duplicates.specs.Keys.{words_sum, name_hash}
use Rattle.duplicates.proofs.Keys.{words_more}
use Rattle.duplicates.proofs.name_hash.Goals as goal

pub returns-then-n-lt8 : goal.returns-then-n-lt8
unfolding name_hash
returns-then-n-lt8 c = c.mixed.ensures ∙ rw (lt-ltb _ _ c.if-n-lt8.true, ← c.be.ensures.value)

pub loop-i-init : goal.loop-i-init
unfolding words_sum
loop-i-init c = (refl, omega arith)

pub loop-i-preserved : goal.loop-i-preserved
loop-i-preserved c =
    let l = c.loop-i in
    (rw (words_more, ← l.invariant.0, ← c.part-sum.ensures.value), omega (arith, l.invariant.1, c.part-sum.ensures.upper_bound))

pub returns : goal.returns
unfolding name_hash
returns c =
    let l = c.loop-i in
    let n = length c.args.name.now in
    let e : l.i ≡ n / 8 = omega arith in
    c.mixed-2.ensures ∙ rw (le-ltb n 8 (omega arith), ← e, ← l.invariant.0, e, ← c.part.ensures.value)
