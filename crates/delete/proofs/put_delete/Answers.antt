-- `delete::put_delete` meets its contract. The root and the entry, then the table sectors that hold extents of the file.
use Rattle.std.proofs.Common.{ℕ, List, length, ◌≡◌, arith, ap, sym}
use lib.ListN.{replicate}
use Rattle.model.specs.Bytes.{zero_sector}
use Rattle.model.specs.Disk.{view}
use Rattle.commit.proofs.Laws.{left, added_then, added-copy, added-committed}
use Rattle.delete.specs.Deleting.{plan_for}
use Rattle.delete.proofs.Laws.{delete-targets, delete-alone}
use Rattle.delete.proofs.put_delete.Goals as goal

pub returns : goal.returns
unfolding zero_sector
returns c =
    let a = c.args in
    let d = view a.img.now in
    let o = c.requires.opened.is in
    let first = c.put_copy-k.ensures in
    let second = c.put_copy-j.ensures in
    let root = added-copy {numbers = replicate 1024 0} first.emitted first.numbers_after (omega arith) in
    let many : length (left first.numbers_after) ≡ 1024 = ap (λ (l : List ℕ). length l) first.numbers_after in
    let entry = added-copy {numbers = left first.numbers_after} {k = c.put_copy-k.result} {s = c.sector.result.0} second.emitted second.numbers_after
    (omega (arith, many, first.emitted.next)) in
    let staged = added_then {numbers = replicate 1024 0} (added_then {numbers = replicate 1024 0} root entry) c.put_freed-n.ensures.added in
    added-committed d (plan_for a.img.now a.i.0 a.time) staged c.put_commit.ensures.emitted o c.requires.stages_of
    (rw (c.sector.ensures, c.updated_root-root.ensures) (sym (delete-targets d a.g o a.i.0 a.time)))
    (delete-alone d a.i.0 a.time)
    (omega (arith, first.emitted.next, second.emitted.next, c.put_freed-n.ensures.value.0))
