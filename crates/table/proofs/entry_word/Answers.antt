-- `table::entry_word` meets its contract. Its two numbers stand one after the other.
use native.Mathlib.Omega.{arith}
use Rattle.table.proofs.Laws.{file-at, offset_at}
use Rattle.table.proofs.entry_word.Goals as goal

pub returns : goal.returns
returns c =
    let a = c.args in
    let at = c.table_entry_at-at.ensures in
    let f = rw (at, file-at a.img.now a.g a.e.0) at c.pair.ensures in
    let o = rw (at, offset_at a.img.now a.g a.e.0) at c.pair-2.ensures in record {
      value = omega (arith, f.value, o.value);
      e_bound = (f.at_bound, o.at_bound);
    }
