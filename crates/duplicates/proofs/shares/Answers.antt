-- `duplicates::shares` meets its contract. A name that ends in its sector is as long as its entry says.
use borrow.Author.Tests.{leb-true}
use Rattle.laws.proofs.Entry.{length-name_in}
use Rattle.duplicates.proofs.shares.Goals as goal

pub has_name-requires-clause-name_len_bound : goal.has_name-requires-clause-name_len_bound
has_name-requires-clause-name_len_bound c = rw (c.name_at.ensures, length-name_in) (leb-true _ _ (rw c.in-Name.is at c.requires.i_value))
