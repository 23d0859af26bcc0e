-- `table::is_free` meets its contract.
use mathlib.Core.Path.{ap, ◌∙◌}
use Prim.Native.Nat.{ℕ, ◌%◌}
use lib.Dec.{eqb}
use Rattle.model.specs.Disk.{view}
use Rattle.model.specs.Table.{table_file, table_offset}
use Rattle.table.proofs.Laws.{word-free}
use Rattle.table.proofs.is_free.Goals as goal

pub returns : goal.returns
returns c =
    let a = c.args in
    let w = c.entry_word.ensures in
    ap (λ (n : ℕ). eqb (n % 65536) 65535) w.value
    ∙ word-free (table_file a.g (view a.img.now) a.e.0) (table_offset a.g (view a.img.now) a.e.0) w.e_bound.0
