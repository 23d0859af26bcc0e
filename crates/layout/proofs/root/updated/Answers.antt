-- `layout::root::updated` meets its contract. The stores are those of the definition.
use Rattle.model.specs.Root.{updated_root_sector}
use Rattle.std.proofs.Common.{◌∙◌}
use Rattle.layout.proofs.root.updated.Goals as goal

pub returns : goal.returns
unfolding updated_root_sector
returns c =
    c.set_to-2.ensures ∙ rw (
      c.set_to.ensures,
      c.owned-a.ensures,
      c.raised_version-version.ensures,
      c.number_in.ensures.value,
      ← c.of.ensures.result_value,
    )
