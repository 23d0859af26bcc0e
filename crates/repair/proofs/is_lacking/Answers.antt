-- `repair::is_lacking` meets its contract.
use mathlib.Core.Path.{sym, ◌∙◌}
use Rattle.repair.proofs.Kept.{lacking-free, lacking-on}
use Rattle.repair.proofs.is_lacking.Goals as goal

pub returns-then-is_occupied : goal.returns-then-is_occupied
returns-then-is_occupied c =
    let o = c.requires.opened in
    let low = c.requires.i_lt_files.0 in
    let said = lacking-on _ _ o.is o.bounded _ low (sym c.is_occupied.ensures ∙ c.if-is_occupied.true) in
    rw (c.from.ensures, c.requires.kept c.args.i low, c.extents_for.ensures.value, c.size_at.ensures) (sym said)

pub returns-else-is_occupied : goal.returns-else-is_occupied
returns-else-is_occupied c =
    let o = c.requires.opened in
    c.if-is_occupied.false ∙ lacking-free _ _ o.is o.bounded _ c.requires.i_lt_files.0 (sym c.is_occupied.ensures ∙ c.if-is_occupied.false)
