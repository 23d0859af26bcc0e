-- `repair::put_marked` meets its contract. The loop's invariant: those of the table sectors passed are staged.
use native.Mathlib.Omega.{arith}
use Rattle.model.specs.Search.{concatenated}
use Rattle.commit.proofs.Laws.{added_none}
use Rattle.freeing.proofs.Laws.{freed-next, freed-room, freed-all}
use Rattle.repair.proofs.put_marked.Goals as goal

pub loop-t-init : goal.loop-t-init
unfolding concatenated
loop-t-init c = added_none _ _ _ _ _

pub put_marked_sector-j-requires-clause-record_size_in_bounds : goal.put_marked_sector-j-requires-clause-record_size_in_bounds
put_marked_sector-j-requires-clause-record_size_in_bounds c =
    let room = freed-room _ _ _ c.loop-t.t (omega arith) c.loop-t.invariant in
    (omega (arith, room.0), omega (arith, c.requires.opened.bounded.extents-high, room.1), omega (arith, room.1))

pub loop-t-preserved : goal.loop-t-preserved
loop-t-preserved c = freed-next _ _ _ _ c.loop-t.invariant c.put_marked_sector-j.ensures

pub returns : goal.returns
returns c =
    let all = freed-all _ _ _ c.loop-t.t (omega arith) c.loop-t.invariant in record {
      added = all.0;
      value = (omega (arith, all.1), omega (arith, all.2));
    }
