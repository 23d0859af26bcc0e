-- `reading::read_step` meets its contract. The step changes nothing, or the sector's part of the span is copied out.
use Rattle.std.proofs.Common.{arith, sym}
use mathlib.Core.Path.{◌∙◌}
use Rattle.reading.proofs.Steps.{takes, part-fits, step-taken, step-refused}
use Rattle.reading.proofs.read_step.Goals as goal

pub returns-then-not-takes_read : goal.returns-then-not-takes_read
returns-then-not-takes_read c =
    let both = step-refused c.args.r c.args.bytes.now c.args.out.now (sym c.takes_read.ensures ∙ c.if-not-takes_read.true) in record {
      value = both.0;
      out_after = both.1;
    }

pub overflow_sub-r : goal.overflow_sub-r
overflow_sub-r c = let t = takes _ _ _ (sym c.takes_read.ensures ∙ c.if-not-takes_read.false) in omega (arith, t.inside)

pub overflow_sub-r-2 : goal.overflow_sub-r-2
overflow_sub-r-2 c = let t = takes _ _ _ (sym c.takes_read.ensures ∙ c.if-not-takes_read.false) in omega (arith, t.left)

pub wanted_after-wanted-requires : goal.wanted_after-wanted-requires
wanted_after-wanted-requires c = (takes _ _ _ (sym c.takes_read.ensures ∙ c.if-not-takes_read.false)).below

pub copy_bytes-requires : goal.copy_bytes-requires
copy_bytes-requires c =
    let all = part-fits _ _ _ _ (takes _ _ _ (sym c.takes_read.ensures ∙ c.if-not-takes_read.false)) c.min-part.ensures in record {
      from_in_bounds = all.1.0;
      at_in_bounds = all.1.1;
    }

pub returns : goal.returns
returns c =
    let a = c.args in
    let both = step-taken a.r a.bytes.now a.out.now _ c.min-part.result c.wanted_after-wanted.result (sym c.takes_read.ensures ∙ c.if-not-takes_read.false)
    c.min-part.ensures c.wanted_after-wanted.ensures c.copy_bytes.ensures in record {
      value = both.0;
      out_after = both.1;
    }
