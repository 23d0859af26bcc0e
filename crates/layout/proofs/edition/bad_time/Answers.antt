-- `layout::edition::bad_time` meets its contract.
use Rattle.std.proofs.Common.{eq-eqb, ne_eqb}
use Rattle.model.specs.Edition.{bad_time}
use Rattle.layout.proofs.edition.bad_time.Goals as goal

pub returns-then-edition-ne2 : goal.returns-then-edition-ne2
unfolding bad_time
returns-then-edition-ne2 c = rw (ne_eqb _ _ c.if-edition-ne2.true, c.from.ensures)

pub returns-else-edition-ne2 : goal.returns-else-edition-ne2
unfolding bad_time
returns-else-edition-ne2 c = rw (eq-eqb _ _ c.if-edition-ne2.false)
