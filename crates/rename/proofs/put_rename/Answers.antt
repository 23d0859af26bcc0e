-- `rename::put_rename` meets its contract.
use mathlib.Core.Path.{sym}
use native.Mathlib.Omega.{arith}
use lib.ListN.{replicate}
use Rattle.model.specs.Disk.{view}
use Rattle.commit.proofs.Laws.{added_then, added-copy, added-committed}
use Rattle.rename.specs.Renaming.{plan_for}
use Rattle.rename.proofs.Laws.{rename-targets, rename-alone}
use Rattle.rename.proofs.put_rename.Goals as goal

pub returns : goal.returns
returns c =
    let a = c.args in
    let d = view a.img.now in
    let is = c.requires.opened.is in
    let root = added-copy {numbers = replicate 1024 0} c.put_copy-k.ensures.emitted c.put_copy-k.ensures.numbers_after (omega arith) in
    let staged = added_then {numbers = replicate 1024 0} root c.put_renaming-n.ensures.added in
    added-committed d (plan_for a.img.now a.i.0 a.place a.name.now a.time) staged c.put_commit.ensures.emitted is c.requires.stages_of
    (rw c.updated_root-root.ensures (sym (rename-targets d a.g is a.i.0 a.place a.name.now a.time)))
    (rename-alone d a.i.0 a.place a.name.now a.time)
    (omega (arith, c.put_copy-k.ensures.emitted.next, c.put_renaming-n.ensures.value.0))
