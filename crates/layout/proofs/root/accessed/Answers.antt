-- `layout::root::accessed` meets its contract. The store is that of the definition.
use Rattle.std.proofs.Common.{◌∙◌}
use Rattle.model.specs.Root.{accessed_root_sector}
use Rattle.layout.proofs.root.accessed.Goals as goal

pub returns : goal.returns
unfolding accessed_root_sector
returns c = c.set_to.ensures ∙ rw (c.owned-a.ensures, ← c.of.ensures.result_value)
