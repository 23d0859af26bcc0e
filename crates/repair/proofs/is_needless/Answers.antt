-- `repair::is_needless` meets its contract.
use mathlib.Core.Path.{sym, ◌∙◌}
use borrow.Author.Tests.{le-leb}
use Rattle.repair.proofs.Strays.{stray-outside, stray-unoccupied, stray-beyond, stray-repeated}
use Rattle.repair.proofs.is_needless.Goals as goal
use Rattle.repair.proofs.is_needless.Goals.{then-f-g-via-then-f-g, then-f-g-via-else-f-g+then-not-is_occupied}

pub returns-then-f-g : goal.returns-then-f-g
returns-then-f-g c =
    let s = c.requires in
    let q = c.table_file-f.ensures.value in
    elim c.then-f-g.branch [
      | then-f-g-via-then-f-g w ↦ stray-outside _ _ s.opened.is s.opened.bounded _ s.e_lt_extents s.free_file_value _ q w.if-f-g.true
      | then-f-g-via-else-f-g+then-not-is_occupied w ↦
          stray-unoccupied _ _ s.opened.is s.opened.bounded _ s.e_lt_extents s.free_file_value _ q w.if-f-g.false (sym w.is_occupied.ensures ∙ w.if-not-is_occupied.true)
    ]

pub returns-then-size_at-before : goal.returns-then-size_at-before
returns-then-size_at-before c =
    let s = c.requires in
    let q = c.table_file-f.ensures.value in
    let there = sym c.is_occupied.ensures ∙ c.if-not-is_occupied.false in
    let past = rw c.from.ensures at c.if-size_at-before.true in
    le-leb _ _ c.if-size_at-before.true
    ∙ stray-beyond _ _ s.opened.is s.opened.bounded _ s.e_lt_extents s.free_file_value _ q c.if-f-g.false there _ _ c.table_offset.ensures.value c.size_at.ensures past

pub returns-else-size_at-before : goal.returns-else-size_at-before
returns-else-size_at-before c =
    let s = c.requires in
    let q = c.table_file-f.ensures.value in
    let there = sym c.is_occupied.ensures ∙ c.if-not-is_occupied.false in
    let within = rw c.from.ensures at c.if-size_at-before.false in
    s.again_value
    ∙ stray-repeated _ _ s.opened.is s.opened.bounded _ s.e_lt_extents s.free_file_value _ q c.if-f-g.false there _ _ c.table_offset.ensures.value c.size_at.ensures within
