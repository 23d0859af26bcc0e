-- `lists::put_sector` meets its contract. 512 bytes from the front of an array of 512 are the whole array.
use mathlib.Core.Path.{◌≡◌}
use lib.ListN.{length}
use Rattle.laws.proofs.Bytes.{bytes_from-all}
use borrow.Author.Rules.{rules}
use Rattle.lists.proofs.put_sector.Goals as goal

pub returns : goal.returns
returns c =
    let s = c.args.s in
    let e : length s ≡ 512 = search rules in
    rw (bytes_from-all s 512 e) at c.put_from.ensures
