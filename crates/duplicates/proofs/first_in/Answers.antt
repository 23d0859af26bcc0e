-- `duplicates::first_in` meets its contract. The loop's invariant: the search has passed the entries below i, and the chains are
-- those of these entries.
use mathlib.Core.Path.{sym, ◌∙◌}
use native.Mathlib.Omega.{arith}
use Rattle.laws.proofs.Seeking.{seek-start, seek-here, seek-next, seek-end}
use Rattle.duplicates.proofs.Chained.{chained-none}
use Rattle.duplicates.proofs.first_in.Goals as goal

pub loop-i-init : goal.loop-i-init
loop-i-init c = (chained-none _ _ _ c.requires.by_index, seek-start)

pub is_faulty-requires : goal.is_faulty-requires
is_faulty-requires c = record {
  i_in_bounds = omega arith;
  keys_fit = (λ j h o. c.requires.keys_fit j (omega arith) o);
  chains_len_bound = (omega arith, omega (arith, c.requires.opened.bounded.files-low), omega arith, omega arith);
  chained = c.loop-i.invariant.0;
}

pub returns-then-is_faulty : goal.returns-then-is_faulty
returns-then-is_faulty c = seek-here c.loop-i.invariant.1 (omega arith) (sym c.is_faulty.ensures.value ∙ c.if-is_faulty.true)

pub loop-i-preserved : goal.loop-i-preserved
loop-i-preserved c =
    let k = c.is_faulty.ensures in
    (k.chained_2 c.if-is_faulty.false, seek-next c.loop-i.invariant.1 (omega arith) (sym k.value ∙ c.if-is_faulty.false))

pub returns : goal.returns
returns c = seek-end c.loop-i.invariant.1 (omega arith)
