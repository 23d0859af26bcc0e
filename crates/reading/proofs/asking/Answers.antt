-- `reading::asking` meets its contract. The first byte's sector, and where the span goes on behind its extent's edge.
use Rattle.model.specs.Refusals.{done}
use Rattle.reading.proofs.Steps.{asking-is}
use Rattle.reading.proofs.asking.Goals as goal

pub returns : goal.returns
returns c =
    let x = c.args in
    let e = c.extent_of in
    let n = c.extent_of-2 in
    asking-is x.img.now x.g c.requires.opened x.i.0 x.offset (record { verdict = done; count = x.bytes.count; length = x.bytes.length }) e.result.0 n.result.0
    c.extent_at-start.result.0 c.extent_at-next.result.0
    e.ensures.result_value c.extent_at-start.ensures n.ensures.result_value c.extent_at-next.ensures
