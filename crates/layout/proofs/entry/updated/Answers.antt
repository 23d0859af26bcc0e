-- `layout::entry::updated` meets its contract. The stores are those of the definition.
use Rattle.model.specs.Entry.{updated_entry_sector}
use Rattle.std.proofs.Common.{◌∙◌}
use Rattle.layout.proofs.entry.updated.Goals as goal

pub returns : goal.returns
unfolding updated_entry_sector
returns c =
    c.set_to-3.ensures ∙ rw (
      c.set_to-2.ensures,
      c.set_to.ensures,
      c.owned-a.ensures,
      c.raised_version-version.ensures,
      c.number_in.ensures.value,
      ← c.of-e.ensures.result_value,
    )
