-- `commit::stage_at` meets its contract.
use mathlib.Core.Path.{ap}
use Prim.Native.Nat.{◌+◌, ◌%◌}
use Rattle.model.specs.Geometry.{extent_sectors}
use Rattle.model.specs.WriteList.{stage_in}
use Rattle.commit.proofs.stage_at.Goals as goal

pub returns : goal.returns
unfolding stage_in
returns c = ap (λ n. n + c.args.j % extent_sectors c.args.g) c.extent_at-first.ensures
