-- `layout::entry::fields_in` meets its contract. Each number is a field of the sector, the name's length too.
use Rattle.model.specs.Entry.{fields_of, entry_in}
use Rattle.laws.proofs.Entry.{length-name_in}
use Rattle.layout.proofs.entry.fields_in.Goals as goal

pub returns : goal.returns
unfolding fields_of entry_in
returns c =
    rw (
      length-name_in,
      ← c.of-e.ensures.result_value,
      ← c.number_in.ensures.value,
      ← c.number_in-2.ensures.value,
      ← c.number_in-3.ensures.value,
      ← c.number_in-4.ensures.value,
      ← c.number_in-5.ensures.value,
      ← c.size.ensures,
      ← c.id.ensures,
    )
