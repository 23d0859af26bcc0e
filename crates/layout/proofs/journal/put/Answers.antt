-- `layout::journal::put` meets its contract. The two stores are one store of both numbers.
use Rattle.laws.proofs.Bytes.{put-append, length-be_bytes}
use Rattle.layout.proofs.journal.put.Goals as goal

pub returns : goal.returns
returns c = rw (put-append, length-be_bytes) cc
