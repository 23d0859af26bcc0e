-- `volume::fits_in` meets its contract. In bounds the volume's length is compared; out of bounds it doesn't fit.
use Prim.Native.Nat.{◌*◌, ◌/◌}
use Rattle.model.proofs.Areas.{bounds}
use Rattle.model.specs.Refusals.{fits_image}
use native.Mathlib.Omega.{arith}
use mathlib.Core.Path.{◌≡◌, sym, ◌∙◌}
use Rattle.volume.proofs.fits_in.Goals as goal

pub volume_sectors-requires : goal.volume_sectors-requires
volume_sectors-requires c = bounds _ (sym c.in_bounds.ensures ∙ c.if-in_bounds.true) (omega arith)

pub returns-then-in_bounds : goal.returns-then-in_bounds
unfolding fits_image
returns-then-in_bounds c =
    let n = c.args.sectors in
    let q : 512 * n / 512 ≡ n = omega arith in
    rw (← c.geometry_in-g.ensures, ← c.in_bounds.ensures, c.if-in_bounds.true, ← c.volume_sectors.ensures, q)

pub returns-else-in_bounds : goal.returns-else-in_bounds
unfolding fits_image
returns-else-in_bounds c = rw (← c.geometry_in-g.ensures, ← c.in_bounds.ensures, c.if-in_bounds.false)
