-- `fields::copy_bytes` meets its contract.
use Rattle.model.specs.Bytes.{bytes_from}
use Rattle.laws.proofs.Bytes.{length-bytes_from}
use Rattle.fields.proofs.Slices.{part, overwritten}
use Rattle.fields.proofs.copy_bytes.Goals as goal

pub returns : goal.returns
returns c =
    let a = c.args in
    rw (c.copy_from_slice.ensures.after, part a.src.now a.from a.n c.requires.from_in_bounds)
    (overwritten a.dst.now a.at a.n (bytes_from a.src.now a.from a.n) (length-bytes_from a.src.now a.from a.n) c.requires.at_in_bounds)
