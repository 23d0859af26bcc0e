-- `table::table_offset` meets its contract. The entry's last two bytes.
use Rattle.table.proofs.Laws.{offset_at}
use Rattle.table.proofs.table_offset.Goals as goal

pub returns : goal.returns
returns c =
    let a = c.args in record {
      value = rw (← offset_at a.img.now a.g a.e.0, ← c.table_entry_at.ensures) c.offset.ensures.value;
      upper_bound = c.offset.ensures.upper_bound;
    }
