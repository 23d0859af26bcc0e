-- `reading::copy_name` meets its contract. The bytes copied are the whole name.
use Rattle.std.proofs.Common.{◌≡◌, length, arith, ap, sym}
use mathlib.Core.Path.{◌∙◌}
use Rattle.laws.proofs.Bytes.{bytes_from-all}
use Rattle.laws.proofs.Entry.{length-name_in}
use Rattle.reading.proofs.copy_name.Goals as goal

pub copy_bytes-requires-clause-from_in_bounds : goal.copy_bytes-requires-clause-from_in_bounds
copy_bytes-requires-clause-from_in_bounds c =
    let e : length c.name_at.result.now ≡ c.args.n = ap length c.name_at.ensures ∙ length-name_in _ _ ∙ sym c.requires.n_value.0 in
    omega arith

pub returns : goal.returns
returns c =
    let e : length c.name_at.result.now ≡ c.args.n = ap length c.name_at.ensures ∙ length-name_in _ _ ∙ sym c.requires.n_value.0 in
    rw (← c.name_at.ensures, ← bytes_from-all c.name_at.result.now c.args.n e) c.copy_bytes.ensures
