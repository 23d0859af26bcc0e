-- `freeing::put_freed` meets its contract. The loop's invariant: those of the table sectors passed are staged.
use native.Mathlib.Omega.{arith}
use Rattle.model.specs.Search.{concatenated}
use Rattle.model.specs.Disk.{view}
use Rattle.commit.proofs.Laws.{added_none}
use Rattle.table.specs.Owned.{owned_in}
use Rattle.freeing.proofs.Laws.{freed-next, freed-room, freed-all}
use Rattle.freeing.proofs.put_freed.Goals as goal

pub loop-t-init : goal.loop-t-init
unfolding concatenated
loop-t-init c = added_none _ _ _ _ _

pub put_file_sector-j-requires : goal.put_file_sector-j-requires
put_file_sector-j-requires c =
    let l = c.loop-t in
    let a = c.args in
    let room = freed-room (owned_in a.img.now a.i.0 a.o) a.g (view a.img.now) l.t (omega arith) l.invariant in
    let few = c.requires.opened.bounded.extents-high in record {
      stages = c.requires.stages;
      opened = c.requires.opened;
      i_lt_free_file = (omega arith, omega arith);
      record_size_in_bounds = (omega (arith, room.0), omega (arith, few, room.1), omega (arith, room.1));
    }

pub loop-t-preserved : goal.loop-t-preserved
loop-t-preserved c =
    let a = c.args in
    freed-next (owned_in a.img.now a.i.0 a.o) a.g (view a.img.now) c.loop-t.t c.loop-t.invariant c.put_file_sector-j.ensures

pub returns : goal.returns
returns c =
    let l = c.loop-t in
    let a = c.args in
    let all = freed-all (owned_in a.img.now a.i.0 a.o) a.g (view a.img.now) l.t (omega arith) l.invariant in record {
      added = all.0;
      value = (all.1, all.2);
    }
