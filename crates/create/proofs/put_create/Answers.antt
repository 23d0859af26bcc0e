-- `create::put_create` meets its contract. The two targets are those of the plan: the root, and the lowest free entry.
use Rattle.std.proofs.Common.{◌<◌, arith}
use Rattle.model.specs.Disk.{view}
use Rattle.model.specs.Create.{create_plan}
use Rattle.commit.proofs.Decided.{edition-is}
use Rattle.create.proofs.Laws.{free-below}
use Rattle.create.proofs.put_create.Goals as goal

pub sector-requires : goal.sector-requires
sector-requires c =
    let h : c.args.i.0 < c.args.g.files = rw c.requires.opened.is (free-below (view c.args.img.now) c.args.i.0 c.requires.entry) in
    omega arith

pub returns : goal.returns
unfolding create_plan
returns c =
    rw (
      c.requires.entry,
      ← c.sector.ensures,
      edition-is c.args.img.now c.args.g c.requires.opened.is,
      ← c.updated_root-root.ensures,
      ← c.new-entry.ensures,
    )
    c.put_targets_alone.ensures
