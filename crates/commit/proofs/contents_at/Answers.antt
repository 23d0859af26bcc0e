-- `commit::contents_at` meets its contract.
use Prim.Native.Nat.{◌+◌, ◌*◌}
use mathlib.Core.Path.{◌∙◌}
use native.Mathlib.Omega.{arith}
use Rattle.model.specs.WriteList.{record_size, contents_start}
use Rattle.fields.proofs.Slices.{part}
use Rattle.commit.proofs.contents_at.Goals as goal

pub returns : goal.returns
returns c =
    let a = c.args in
    c.copy_from_slice.ensures.after ∙ part a.list.now (a.k * record_size + contents_start) 512 (omega arith)
