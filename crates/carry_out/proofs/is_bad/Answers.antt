-- `carry_out::is_bad` meets its contract. The position is compared first; then a barrier's bytes with 0, a sector's number with the
-- image's length.
use mathlib.Core.Path.{◌∙◌}
use Rattle.carry_out.proofs.Laws.{position-bad, barrier-bad, sector-bad}
use Rattle.carry_out.proofs.is_bad.Goals as goal

pub returns-then-be64-k : goal.returns-then-be64-k
returns-then-be64-k c = position-bad c.args.list.now c.args.k c.be64.result c.args.sectors c.be64.ensures c.if-be64-k.true

pub returns-then-s : goal.returns-then-s
returns-then-s c =
    c.has_other.ensures
    ∙ barrier-bad c.args.list.now c.args.k c.be64-s.result c.be64-s.ensures c.args.sectors c.be64.result c.be64.ensures c.if-be64-k.false c.if-s.true

pub returns-else-s : goal.returns-else-s
returns-else-s c =
    sector-bad c.args.list.now c.args.k c.be64-s.result c.be64-s.ensures c.args.sectors c.be64.result c.be64.ensures c.if-be64-k.false c.if-s.false
