-- `layout::entry::new` meets its contract. The stores are those of the definition, and the bytes copied are the whole name.
use Rattle.std.proofs.Common.{◌≤◌, length, refl, arith}
use Rattle.model.specs.Entry.{new_entry_sector}
use Rattle.fields.proofs.Slices.{overwritten}
use Rattle.layout.proofs.entry.new.Goals as goal

pub returns : goal.returns
unfolding new_entry_sector
returns c =
    let n = c.args.name.now in
    let h : length n ≤ c.of-e.result.longest_name = rw (← c.of-e.ensures.result_value) at c.requires in
    let e = overwritten c.set_to-6.new.s c.of-e.result.name (length n) n refl (omega arith) in
    rw (
      c.copy_from_slice.ensures.after,
      e,
      c.set_to-6.ensures,
      c.set_to-5.ensures,
      c.set_to-4.ensures,
      c.set_to-3.ensures,
      c.set_to-2.ensures,
      c.set_to.ensures,
      c.zero_sector-a.ensures,
      ← c.of-e.ensures.result_value,
    )
