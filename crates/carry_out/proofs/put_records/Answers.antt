-- `carry_out::put_records` meets its contract. The loop's invariant: the records passed are written.
use Prim.Native.Nat.{◌/◌}
use mathlib.Core.Path.{◌≡◌, refl}
use native.Mathlib.Omega.{arith}
use lib.ListN.{length}
use borrow.Author.Rules.{rules}
use Rattle.model.specs.Search.{tabulate}
use Rattle.model.specs.WriteList.{stored, record_size}
use Rattle.model.specs.CarryOut.{records_in, bad_record}
use Rattle.laws.proofs.Search.{none-at}
use Rattle.carry_out.proofs.Laws.{stored_more}
use Rattle.carry_out.proofs.put_records.Goals as goal

pub loop-k-init : goal.loop-k-init
unfolding tabulate stored
loop-k-init c = refl

pub put_record-requires : goal.put_record-requires
put_record-requires c =
    let a = c.args in
    let l = c.loop-k in record {
      record_size_in_bounds = search rules;
      k_value = rw l.auto.img
          (none-at (bad_record (length a.img.now / 512) a.list.now) (length a.list.now / record_size) c.requires l.k c.loop-k-test.true);
    }

pub loop-k-preserved : goal.loop-k-preserved
loop-k-preserved c = rw (stored_more, ← c.loop-k.invariant) c.put_record.ensures

pub returns : goal.returns
unfolding records_in
returns c =
    let e : c.loop-k.k ≡ length c.args.list.now / record_size = omega arith in
    rw (← e) c.loop-k.invariant
