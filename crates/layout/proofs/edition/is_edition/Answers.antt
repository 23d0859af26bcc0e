-- `layout::edition::is_edition` meets its contract.
use Rattle.std.proofs.Common.{eq-eqb, ne_eqb}
use Rattle.model.specs.Edition.{is_edition}
use Rattle.layout.proofs.edition.is_edition.Goals as goal

pub returns-then-version-eq1 : goal.returns-then-version-eq1
unfolding is_edition
returns-then-version-eq1 c = rw (eq-eqb _ _ c.if-version-eq1.true)

pub returns-else-version-eq1 : goal.returns-else-version-eq1
unfolding is_edition
returns-else-version-eq1 c = rw (ne_eqb _ _ c.if-version-eq1.false)
