-- `layout::entry::name` meets its contract. The name ends in the sector, and the slice is the name.
use Rattle.std.proofs.Common.{◌≤◌, ap, arith}
use Rattle.model.specs.Edition.{EditionLayout}
use Rattle.model.specs.Entry.{name_in}
use Rattle.fields.proofs.Slices.{part}
use Rattle.layout.proofs.entry.name.Goals as goal

pub returns : goal.returns
unfolding name_in
returns c =
    let n = c.name_length-n.result in
    let e = c.of-at.result in
    let h : n ≤ e.longest_name =
    rw (c.name_length-n.ensures, ap (λ (l : EditionLayout). l.longest_name) c.of-at.ensures.result_value) c.requires.edition_bound in
    rw (← c.name_length-n.ensures, ← c.of-at.ensures.result_value) (part c.args.s.now e.name n (omega arith))
