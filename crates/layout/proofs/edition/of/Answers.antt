-- `layout::edition::of` meets its contract. The second edition's layout is the second, and any other's the first.
use Rattle.std.proofs.Common.{eq-eqb, ne_eqb}
use Rattle.model.specs.Edition.{layout_of}
use Rattle.layout.proofs.edition.of.Goals as goal

pub returns-then-edition-eq2-clause-result_value : goal.returns-then-edition-eq2-clause-result_value
unfolding layout_of
returns-then-edition-eq2-clause-result_value c = rw (eq-eqb _ _ c.if-edition-eq2.true)

pub returns-else-edition-eq2-clause-result_value : goal.returns-else-edition-eq2-clause-result_value
unfolding layout_of
returns-else-edition-eq2-clause-result_value c = rw (ne_eqb _ _ c.if-edition-eq2.false)
