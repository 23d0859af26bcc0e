-- `repair::repair_in` meets its contract. Mended, with the first fault that remains, or refused.
use mathlib.Core.Path.{ap, ◌∙◌}
use native.Mathlib.Omega.{arith}
use Rattle.model.specs.Disk.{view}
use Rattle.model.specs.Results.{soundness_in}
use Rattle.model.specs.Opened.{volume_length}
use Rattle.laws.proofs.Refusals.{opened}
use Rattle.laws.proofs.Results.{handed-on}
use Rattle.commit.proofs.Clauses.{value_and_list}
use Rattle.repair.proofs.Decisions.{clean-both, all-remaining, repair-refused, repair-done}
use Rattle.repair.proofs.repair_in.Goals as goal

pub mend-requires : goal.mend-requires
mend-requires c = let g = c.geometry_in-g in opened _ _ g.ensures (omega (arith, g.type_inv)) c.requires.readable

pub returns-in_err-repair : goal.returns-in_err-repair
returns-in_err-repair c =
    let a = c.args in
    let d = view a.img.now in
    let clean = clean-both (volume_length d) d a.list.now c.requires.readable.verdict c.requires.img_value in
    let m = rw c.in_err-repair.was at c.mend.ensures in
    rw (handed-on _ c.from_residual.ensures.1) (value_and_list (repair-refused (volume_length d) d a.list.now clean m))

pub directory_fault-requires : goal.directory_fault-requires
directory_fault-requires c = let g = c.geometry_in-g in opened _ _ g.ensures (omega (arith, g.type_inv)) c.requires.readable

pub returns : goal.returns
returns c =
    let a = c.args in
    let d = view a.img.now in
    let g = c.geometry_in-g in
    let o = opened a.img.now g.result g.ensures (omega (arith, g.type_inv)) c.requires.readable in
    let clean = clean-both (volume_length d) d a.list.now c.requires.readable.verdict c.requires.img_value in
    let m = rw c.in_ok-repair.was at c.mend.ensures in
    let left = ap soundness_in c.and-remaining.ensures ∙ all-remaining d g.result o.is _ _ c.directory_fault.ensures m.finds.1 in
    value_and_list (repair-done (volume_length d) d a.list.now clean _ m left)
