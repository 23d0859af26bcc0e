-- `table::table_file` meets its contract. The entry's first two bytes.
use Rattle.table.proofs.Laws.{file-at}
use Rattle.table.proofs.table_file.Goals as goal

pub returns : goal.returns
returns c =
    let a = c.args in record {
      value = rw (← file-at a.img.now a.g a.e.0, ← c.table_entry_at.ensures) c.file.ensures.value;
      upper_bound = c.file.ensures.upper_bound;
    }
