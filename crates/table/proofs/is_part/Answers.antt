-- `table::is_part` meets its contract. An offset past 65535 is no entry's.
use native.Mathlib.Omega.{arith}
use borrow.Author.Tests.{ne_eqb}
use Rattle.model.specs.Disk.{view}
use Rattle.model.specs.Table.{table_file, table_offset}
use Rattle.laws.proofs.Booleans.{and-false}
use Rattle.table.proofs.Laws.{part-on, word-is}
use borrow.Author.Tests.{le-ltb}
use Rattle.table.proofs.is_part.Goals as goal

pub returns-then-o-lt65536 : goal.returns-then-o-lt65536
returns-then-o-lt65536 c =
    let a = c.args in
    let d = view a.img.now in
    let w = c.entry_word-word.ensures in
    rw (
      part-on d a.g c.requires.opened.is a.i.0 a.o a.e.0 c.requires.i_lt_free_file.0 c.requires.i_lt_free_file.1,
      w.value,
      c.swapped.ensures,
      c.swapped-then-o-lt65536.ensures,
    )
    (word-is (table_file a.g d a.e.0) (table_offset a.g d a.e.0) a.i.0 a.o w.e_bound.0 w.e_bound.1 (omega arith) c.if-o-lt65536.true)

pub returns-else-o-lt65536 : goal.returns-else-o-lt65536
returns-else-o-lt65536 c =
    let a = c.args in
    let d = view a.img.now in
    let o = table_offset a.g d a.e.0 in
    rw (
      part-on d a.g c.requires.opened.is a.i.0 a.o a.e.0 c.requires.i_lt_free_file.0 c.requires.i_lt_free_file.1,
      ne_eqb o a.o (λ q. omega (arith, c.entry_word-word.ensures.e_bound.1)),
      and-false,
    )
    (le-ltb _ _ c.if-o-lt65536.false)
