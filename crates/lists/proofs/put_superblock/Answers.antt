-- `lists::put_superblock` meets its contract. The journal length is stored into the contents of the record.
use mathlib.Core.Path.{◌∙◌}
use native.Mathlib.Omega.{arith}
use Rattle.model.specs.Bytes.{be_bytes, bytes_from}
use Rattle.model.specs.Disk.{view}
use Rattle.model.specs.Superblock.{superblock_field, with_journal_length}
use Rattle.laws.proofs.Bytes.{length-bytes_from, length-be_bytes}
use Rattle.laws.proofs.WriteList.{emit-patched, emitted_then}
use Rattle.lists.proofs.put_superblock.Goals as goal

pub returns : goal.returns
unfolding view with_journal_length
returns c =
    let copy = c in
    let a = copy.args in
    let patched = rw copy.put_from-j.ensures.holds at c.put_journal_length.ensures in
    let new =
    patched
    ∙ emit-patched a.list.now a.k 0 (bytes_from a.img.now 0 512) superblock_field.journal_length.offset (be_bytes 2 a.n)
    (length-bytes_from a.img.now 0 512) (omega (arith, length-be_bytes 2 a.n)) in
    emitted_then (record { holds = new; next = copy.put_from-j.ensures.next }) c.put_barrier.ensures
