-- `layout::entry::name_part` meets its contract. The part is the rest of the sector.
use Rattle.std.proofs.Common.{◌≡◌, ◌-◌, length, arith}
use Rattle.laws.proofs.Bytes.{bytes_from-eq}
use Rattle.layout.proofs.entry.name_part.Goals as goal

pub returns-clause-result_value : goal.returns-clause-result_value
returns-clause-result_value c =
    let s = c.args.s.now in
    let e = c.of-at.result in
    let w : length s - e.name ≡ e.longest_name = omega arith in
    rw (← c.of-at.ensures.result_value, w, ← bytes_from-eq s e.name e.longest_name (omega arith))
