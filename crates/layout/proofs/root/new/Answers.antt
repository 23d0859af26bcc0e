-- `layout::root::new` meets its contract. The four stores are those of the definition.
use Rattle.model.specs.Root.{new_root_sector}
use Rattle.std.proofs.Common.{◌∙◌}
use Rattle.layout.proofs.root.new.Goals as goal

pub returns : goal.returns
unfolding new_root_sector
returns c =
    c.set_to-4.ensures ∙ rw (
      c.set_to-3.ensures,
      c.set_to-2.ensures,
      c.set_to.ensures,
      c.zero_sector-a.ensures,
      ← c.of-e.ensures.result_value,
    )
