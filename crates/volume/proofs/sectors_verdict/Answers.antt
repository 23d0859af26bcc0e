-- `volume::sectors_verdict` meets its contract. Refusal 2 or 3 by the first condition that holds, or none.
-- so many sectors are whole ones
use Prim.Native.Nat.{ℕ, ◌*◌, ◌%◌, ◌<◌}
use mathlib.Core.Path.{◌≡◌}
use mathlib.Core.Bool.{true}
use native.Mathlib.Omega.{arith}
use borrow.Author.Tests.{lt-ltb, eq-eqb}
use Rattle.model.specs.Refusals.{verdict_of, is_whole, image_verdict}
use Rattle.laws.proofs.Booleans.{and_yes}
use Rattle.volume.proofs.sectors_verdict.Goals as goal

whole : (n : ℕ) → 0 < n → is_whole (512 * n) ≡ true
unfolding is_whole
whole n h = and_yes _ _ (lt-ltb 0 (512 * n) (omega arith)) (eq-eqb (512 * n % 512) 0 (omega arith))

pub returns-then-not-is_volume : goal.returns-then-not-is_volume
unfolding image_verdict verdict_of
returns-then-not-is_volume c = rw (whole c.args.sectors c.requires.1, ← c.is_volume.ensures, c.if-not-is_volume.true)

pub returns-then-not-fits_in : goal.returns-then-not-fits_in
unfolding image_verdict verdict_of
returns-then-not-fits_in c =
    rw (whole c.args.sectors c.requires.1, ← c.is_volume.ensures, c.if-not-is_volume.false, ← c.fits_in.ensures, c.if-not-fits_in.true)

pub returns : goal.returns
unfolding image_verdict verdict_of
returns c = rw (whole c.args.sectors c.requires.1, ← c.is_volume.ensures, c.if-not-is_volume.false, ← c.fits_in.ensures, c.if-not-fits_in.false)
