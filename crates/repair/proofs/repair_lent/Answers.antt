-- `repair::repair_lent` meets its contract. Refused by 1 to 6, or repaired as its volume.
use lib.ListN.{length}
use Rattle.model.specs.Disk.{view}
use Rattle.model.specs.Lent.{lent_length}
use Rattle.laws.proofs.Refusals.{lent-readable}
use Rattle.laws.proofs.Results.{handed-on}
use Rattle.commit.proofs.Clauses.{value_and_list}
use Rattle.repair.proofs.Decisions.{clean-image, own-comes, repair-early}
use Rattle.repair.proofs.repair_lent.Goals as goal

pub returns-in_err-clean_verdict_lent : goal.returns-in_err-clean_verdict_lent
returns-in_err-clean_verdict_lent c =
    let a = c.args in
    let d = view a.front.now in
    let len = lent_length (length a.front.now) a.count d in
    rw (handed-on _ c.from_residual.ensures.1) (value_and_list (repair-early len d a.list.now _ c.in_err-clean_verdict_lent.ensures))

pub repair_in-requires-clause-readable : goal.repair_in-requires-clause-readable
repair_in-requires-clause-readable c =
    let a = c.args in
    let d = view a.front.now in
    let len = lent_length (length a.front.now) a.count d in
    lent-readable a.front.now a.count (clean-image len d a.list.now c.in_ok-clean_verdict_lent.ensures)

pub returns : goal.returns
returns c =
    let a = c.args in
    let d = view a.front.now in
    let len = lent_length (length a.front.now) a.count d in
    let image = clean-image len d a.list.now c.in_ok-clean_verdict_lent.ensures in
    value_and_list (own-comes len d a.list.now image (c.repair_in.ensures.value, c.repair_in.ensures.list_after))
