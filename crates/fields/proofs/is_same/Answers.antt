-- `fields::is_same` meets its contract.
use mathlib.Core.Path.{◌∙◌}
use Rattle.fields.proofs.Slices.{equal-pointwise}
use Rattle.fields.proofs.is_same.Goals as goal

pub returns : goal.returns
returns c = c.eq.ensures ∙ equal-pointwise _ _
