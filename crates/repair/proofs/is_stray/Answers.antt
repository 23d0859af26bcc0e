-- `repair::is_stray` meets its contract. A free extent is passed over; any other joins its chain.
use mathlib.Core.Path.{sym, ◌∙◌}
use borrow.Author.Tests.{ne_eqb}
use Rattle.duplicates.proofs.Chains.{chains-pass, chains-join}
use Rattle.repair.proofs.Strays.{stray-free, member-own, member-other, member-none}
use Rattle.repair.proofs.is_stray.Goals as goal

pub returns-then-table_file-eq-FREE_FILE : goal.returns-then-table_file-eq-FREE_FILE
returns-then-table_file-eq-FREE_FILE c =
    let s = c.requires in
    let z = sym c.table_file.ensures.value ∙ c.if-table_file-eq-FREE_FILE.true in record {
      value = stray-free _ _ s.opened.is s.opened.bounded _ s.e_lt_extents.0 z;
      linked_2 = chains-pass _ _ _ _ _ s.linked (member-none _ _ _ _ z);
    }

pub returns-clause-linked_2 : goal.returns-clause-linked_2
returns-clause-linked_2 c =
    let b = c.bucket_of-b.ensures in
    let taken = ne_eqb _ _ (λ q. c.if-table_file-eq-FREE_FILE.false (c.table_file.ensures.value ∙ q)) in
    rw c.enter.auto.chains
    (chains-join _ _ _ _ _ _ c.requires.linked c.enter.ensures b.upper_bound (member-own _ _ _ _ _ b.value taken) (member-other _ _ _ _ _ b.value taken))
