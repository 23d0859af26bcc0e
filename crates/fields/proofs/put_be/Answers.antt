-- `fields::put_be` meets its contract. The loop's invariant: x stored in the first i bytes gives what the whole store gives.
use mathlib.Core.Path.{◌≡◌, refl, sym, ◌∙◌}
use Prim.Native.Nat.{◌+◌, ◌-◌, ◌/◌, ◌%◌}
use native.Mathlib.Omega.{arith}
use lib.ListN.{set}
use Rattle.model.specs.Bytes.{be_bytes, put}
use Rattle.laws.proofs.Bytes.{be_bytes-more, put_back, put-nil, length-be_bytes}
use Rattle.fields.proofs.put_be.Goals as goal

pub loop-i-preserved : goal.loop-i-preserved
loop-i-preserved c =
    let l = c.loop-i in
    let at = c.args.at in
    let more : put (set l.b (at + (l.i - 1)) (l.x % 256)) at (be_bytes (l.i - 1) (l.x / 256)) ≡ put l.b at (be_bytes l.i l.x) =
    rw (be_bytes-more l.i l.x c.loop-i-test.true, ← put_back, length-be_bytes) refl in
    more ∙ l.invariant

pub returns : goal.returns
unfolding be_bytes
returns c =
    let e : c.loop-i.i ≡ 0 = omega arith in
    sym (put-nil _ c.args.at) ∙ rw e at c.loop-i.invariant
