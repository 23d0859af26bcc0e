-- `duplicates::key_hash` meets its contract. A name that ends in its sector is short enough for its hash.
use Rattle.duplicates.proofs.Keys.{name-short}
use Rattle.duplicates.proofs.key_hash.Goals as goal

pub name_hash-requires : goal.name_hash-requires
name_hash-requires c = rw c.name_at.ensures (name-short _ _ (rw c.in-Name.is at c.requires.i_value))
