-- `fields::be` meets its contract. The loop's invariant: v is the number of the first bytes, and below 256 to their count.
use mathlib.Core.Path.{◌≡◌, refl}
use Prim.Native.Nat.{◌+◌, ◌<◌}
use native.Mathlib.Nat.{zero-add, add-zero}
use native.Mathlib.Omega.{arith}
use Rattle.model.specs.Bytes.{be_at}
use Rattle.laws.proofs.Bytes.{be_at-more, be_at-bytes_from, pow_more, pow-seven}
use Rattle.fields.proofs.Slices.{part, length-part, byte-part}
use Rattle.fields.proofs.be.Goals as goal

pub loop-b-init : goal.loop-b-init
unfolding be_at
loop-b-init c = (refl, omega arith)

pub overflow_mul-v : goal.overflow_mul-v
overflow_mul-v c =
    let a = c.args in
    let l = c.loop-b in
    let n = length-part a.s.now a.at a.width c.requires.width_in_bounds in
    omega (arith, pow-seven l.b-index l.v l.invariant.1 (omega arith))

pub overflow_add-v : goal.overflow_add-v
overflow_add-v c =
    let a = c.args in
    let l = c.loop-b in
    let h = c.requires.width_in_bounds in
    let i : l.b-index < a.width = omega (arith, length-part a.s.now a.at a.width h) in
    omega (arith, pow-seven l.b-index l.v l.invariant.1 (omega arith), byte-part a.s.now a.at a.width l.b-index h i, c.type_inv.s (a.at + l.b-index))

pub loop-b-preserved : goal.loop-b-preserved
loop-b-preserved c =
    let a = c.args in
    let l = c.loop-b in
    let h = c.requires.width_in_bounds in
    let i : l.b-index < a.width = omega (arith, length-part a.s.now a.at a.width h) in
    let b : c.from.result < 256 = omega (arith, byte-part a.s.now a.at a.width l.b-index h i, c.type_inv.s (a.at + l.b-index)) in
    (rw (be_at-more, zero-add, ← l.invariant.0, ← c.from.ensures) refl, pow_more l.b-index l.v c.from.result l.invariant.1 b)

pub returns-clause-value : goal.returns-clause-value
returns-clause-value c =
    let a = c.args in
    let h = c.requires.width_in_bounds in
    let e : c.loop-b.b-index ≡ a.width = omega (arith, length-part a.s.now a.at a.width h) in
    rw (← add-zero a.at, ← be_at-bytes_from a.s.now a.at a.width 0 a.width (omega arith), ← part a.s.now a.at a.width h) (rw e at c.loop-b.invariant.0)
