-- `lists::put_at` meets its contract. The stores of the position, of the number and of the contents are the bytes of the record.
use Rattle.model.specs.Bytes.{bytes_from}
use Rattle.laws.proofs.Bytes.{bytes_from-all, length-bytes_from}
use Rattle.laws.proofs.WriteList.{record-put}
use Rattle.lists.proofs.put_at.Goals as goal

pub returns : goal.returns
returns c =
    let a = c.args in
    rw (record-put, bytes_from-all (bytes_from a.src.now a.from 512) 512 (length-bytes_from a.src.now a.from 512)) (cc)
