-- `carry_out::put_record` meets its contract. A barrier writes nothing; a good record's sector lies in the image.
use Prim.Native.Nat.{◌/◌}
use mathlib.Core.Path.{◌∙◌}
use native.Mathlib.Omega.{arith}
use lib.ListN.{length}
use Rattle.carry_out.proofs.Laws.{sector-inside, barrier-stored, sector-stored}
use Rattle.carry_out.proofs.put_record.Goals as goal

pub overflow_mul-s : goal.overflow_mul-s
overflow_mul-s c =
    let a = c.args in
    let inside = sector-inside a.list.now a.k c.be64-s.result c.be64-s.ensures (length a.img.now / 512) c.if-s.true c.requires.k_value in
    omega arith

pub copy_sector-requires-clause-at_in_bounds : goal.copy_sector-requires-clause-at_in_bounds
copy_sector-requires-clause-at_in_bounds c =
    let a = c.args in
    let inside = sector-inside a.list.now a.k c.be64-s.result c.be64-s.ensures (length a.img.now / 512) c.if-s.true c.requires.k_value in
    omega arith

pub returns-then-s : goal.returns-then-s
returns-then-s c = c.copy_sector.ensures ∙ sector-stored c.args.list.now c.args.k c.be64-s.result c.be64-s.ensures c.args.img.now c.if-s.true

pub returns-else-s : goal.returns-else-s
returns-else-s c = barrier-stored c.args.list.now c.args.k c.be64-s.result c.be64-s.ensures c.args.img.now c.if-s.false
