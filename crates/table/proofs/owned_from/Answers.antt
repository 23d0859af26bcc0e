-- `table::owned_from` meets its contract. Past the last extent stands nothing.
use mathlib.Core.Bool.{false≢true}
use borrow.Author.Tests.{le-ltb}
use mathlib.Core.Path.{sym}
use Rattle.model.specs.Disk.{view}
use Rattle.table.proofs.Laws.{beyond-on, beyond-past}
use mathlib.Core.Path.{sym, ◌∙◌}
use Rattle.table.proofs.owned_from.Goals.{then-e-g, else-e-g}
use Rattle.table.proofs.owned_from.Goals as goal

pub returns-then-table_file-i : goal.returns-then-table_file-i
returns-then-table_file-i c =
    let a = c.args in
    elim c.if-e-g.branch [
      | then-e-g w ↦
          rw (
            beyond-on (view a.img.now) a.g c.requires.opened.is a.i.0 a.o a.e.0 c.requires.i_lt_free_file w.if-e-g.true,
            ← w.table_file.ensures.value,
            sym w.value-is ∙ c.if-table_file-i.true,
            ← c.table_offset.ensures.value,
          )
      | else-e-g w ↦ absurd (false≢true (sym (w.value-is ∙ le-ltb _ _ w.if-e-g.false) ∙ c.if-table_file-i.true))
    ]

pub returns-else-table_file-i : goal.returns-else-table_file-i
returns-else-table_file-i c =
    let a = c.args in
    elim c.if-e-g.branch [
      | then-e-g w ↦
          rw (
            beyond-on (view a.img.now) a.g c.requires.opened.is a.i.0 a.o a.e.0 c.requires.i_lt_free_file w.if-e-g.true,
            ← w.table_file.ensures.value,
            sym w.value-is ∙ c.if-table_file-i.false,
          )
          c.if-table_file-i.false
      | else-e-g w ↦ c.if-table_file-i.false ∙ sym (beyond-past (view a.img.now) a.g c.requires.opened.is a.i.0 a.o a.e.0 w.if-e-g.false)
    ]
