-- `fields::put_zeros` meets its contract.
use mathlib.Core.List.{[]}
use Rattle.std.proofs.Common.{rules}
use Rattle.model.specs.Bytes.{bytes_from}
use Rattle.laws.proofs.Bytes.{length-bytes_from}
use Rattle.fields.proofs.Slices.{overwritten, length-part, zeros}
use Rattle.fields.proofs.put_zeros.Goals as goal

pub returns : goal.returns
returns c =
    let a = c.args in
    let filled = c.fill.ensures.after (λ y e. search rules) in
    rw (filled, length-part a.b.now a.at a.n c.requires, zeros)
    (overwritten a.b.now a.at a.n (bytes_from [] 0 a.n) (length-bytes_from [] 0 a.n) c.requires)
