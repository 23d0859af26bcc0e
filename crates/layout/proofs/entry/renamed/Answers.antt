-- `layout::entry::renamed` meets its contract. The bytes copied are the whole name.
use Rattle.std.proofs.Common.{◌≤◌, length, refl, arith}
use Rattle.model.specs.Entry.{renamed_entry_sector}
use Rattle.fields.proofs.Slices.{overwritten}
use Rattle.layout.proofs.entry.renamed.Goals as goal

pub returns : goal.returns
unfolding renamed_entry_sector
returns c =
    let n = c.args.name.now in
    let h : length n ≤ c.of-e.result.longest_name = rw (← c.of-e.ensures.result_value) at c.requires.name_len_bound in
    let e = overwritten c.put_zeros.new.b c.of-e.result.name (length n) n refl (omega arith) in
    rw (
      c.copy_from_slice.ensures.after,
      e,
      c.put_zeros.ensures,
      c.set_to-3.ensures,
      c.set_to-2.ensures,
      c.set_to.ensures,
      c.owned-a.ensures,
      c.raised_version-version.ensures,
      c.number_in.ensures.value,
      ← c.of-e.ensures.result_value,
    )
