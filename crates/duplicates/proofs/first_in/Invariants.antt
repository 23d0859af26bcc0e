-- `duplicates::first_in` meets its contract. The loop's invariant: the search has passed the entries below i, and the chains are
-- those of these entries.
use Rattle.model.specs.Disk.{view}
use Rattle.laws.proofs.Seeking.{Seeking}
use Rattle.duplicates.specs.Keys.{is_faulty}
use Rattle.duplicates.specs.Chains.{Chained}
use Rattle.duplicates.proofs.first_in.Given as goal

abbrev pub invariant-loop-i : goal.invariant-loop-i
invariant-loop-i l = Chained l.key (view l.img) l.i l.chains × Seeking (is_faulty l.key (view l.img)) l.fn.g.files l.i
