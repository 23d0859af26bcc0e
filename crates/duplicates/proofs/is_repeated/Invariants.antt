-- `duplicates::is_repeated` meets its contract. The loop's invariant: an occupied entry below i has the key exactly if one below
-- j has it, and j is 0 or entry j - 1 stands in the bucket.
use Prim.Native.Nat.{◌/◌}
use lib.ListN.{length}
use Rattle.model.specs.Disk.{view}
use Rattle.duplicates.specs.Keys.{shares}
use Rattle.duplicates.specs.Chains.{member}
use Rattle.duplicates.proofs.Chains.{Walk}
use Rattle.duplicates.proofs.is_repeated.Given as goal

abbrev pub invariant-loop-j : goal.invariant-loop-j
invariant-loop-j l = Walk (shares l.key (view l.img) l.i) (member l.key (view l.img) (length l.chains / 2) (l.place / 256)) l.i l.j

abbrev pub decreases-loop-j : goal.decreases-loop-j
decreases-loop-j l = l.j
