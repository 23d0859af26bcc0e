-- `volume::is_front` meets its contract. Whole sectors, a geometry in bounds, and the data area's start compared.
use mathlib.Core.Path.{sym, ◌∙◌}
use native.Mathlib.Omega.{arith}
use Rattle.model.proofs.Areas.{bounds}
use Rattle.model.specs.Lent.{is_front}
use Rattle.laws.proofs.Refusals.{whole-true}
use Rattle.volume.proofs.is_front.Goals as goal

pub returns-then-not-is_whole : goal.returns-then-not-is_whole
unfolding is_front
returns-then-not-is_whole c = rw (← c.is_whole.ensures, c.if-not-is_whole.true)

pub geometry_in-g-requires : goal.geometry_in-g-requires
geometry_in-g-requires c = whole-true _ (sym c.is_whole.ensures ∙ c.if-not-is_whole.false)

pub returns-then-not-in_bounds : goal.returns-then-not-in_bounds
unfolding is_front
returns-then-not-in_bounds c =
    rw (← c.is_whole.ensures, c.if-not-is_whole.false, ← c.geometry_in-g.ensures, ← c.in_bounds.ensures, c.if-not-in_bounds.true)

pub data_at-data-requires : goal.data_at-data-requires
data_at-data-requires c = bounds _ (sym c.in_bounds.ensures ∙ c.if-not-in_bounds.false) (omega arith)

pub returns : goal.returns
unfolding is_front
returns c = rw (
  ← c.is_whole.ensures,
  c.if-not-is_whole.false,
  ← c.geometry_in-g.ensures,
  ← c.in_bounds.ensures,
  c.if-not-in_bounds.false,
  ← c.data_at-data.ensures,
)
