-- `volume::image_verdict` meets its contract. Refusal 1, or the verdict by the image's sectors.
-- an image of whole sectors
use Prim.Native.Nat.{ℕ, ◌*◌, ◌%◌, ◌/◌}
use mathlib.Core.Path.{◌≡◌, sym, ◌∙◌}
use mathlib.Core.Bool.{true}
use native.Mathlib.Omega.{arith}
use lib.Dec.{eqb, ltb}
use borrow.Author.Tests.{eqb-true}
use Rattle.model.specs.Refusals.{verdict_of, is_whole, image_verdict}
use Rattle.laws.proofs.Booleans.{and_right}
use Rattle.laws.proofs.Refusals.{whole-true}
use Rattle.volume.proofs.image_verdict.Goals as goal

sectors-of : (len : ℕ) → is_whole len ≡ true → 512 * (len / 512) ≡ len
unfolding is_whole
sectors-of len h = omega (arith, eqb-true (len % 512) 0 (and_right (ltb 0 len) (eqb (len % 512) 0) h))

pub returns-then-not-is_whole : goal.returns-then-not-is_whole
unfolding image_verdict verdict_of
returns-then-not-is_whole c = rw (← c.is_whole.ensures, c.if-not-is_whole.true)

pub sectors_verdict-requires : goal.sectors_verdict-requires
sectors_verdict-requires c =
    let h = whole-true _ (sym c.is_whole.ensures ∙ c.if-not-is_whole.false) in
    (h, omega (arith, h))

pub returns : goal.returns
returns c = rw (sectors-of _ (sym c.is_whole.ensures ∙ c.if-not-is_whole.false)) at c.sectors_verdict.ensures
