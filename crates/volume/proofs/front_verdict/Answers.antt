-- `volume::front_verdict` meets its contract. By the count, or, where the front ends early, by what is lent.
use Rattle.std.proofs.Common.{max, ◌≡◌, sym}
use mathlib.Core.Path.{◌∙◌}
use native.Mathlib.Omega.{arith}
use Rattle.model.specs.Lent.{lent_length}
use Rattle.laws.proofs.Refusals.{front-holds}
use Rattle.volume.proofs.front_verdict.Goals as goal

pub sectors_verdict-requires : goal.sectors_verdict-requires
sectors_verdict-requires c =
    let f = front-holds _ _ (sym c.is_front.ensures ∙ c.if-is_front.true) in
    (omega (arith, f.1), omega (arith, c.max.ensures))

pub returns-then-is_front : goal.returns-then-is_front
unfolding lent_length
returns-then-is_front c =
    let m : max 1 c.args.count ≡ c.max.result = omega (arith, c.max.ensures) in
    rw (← c.is_front.ensures, c.if-is_front.true, m) c.sectors_verdict.ensures

pub returns : goal.returns
unfolding lent_length
returns c = rw (← c.is_front.ensures, c.if-is_front.false) c.image_verdict.ensures
