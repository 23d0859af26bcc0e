-- `commit::put_target` meets its contract. The record is put in by `lists::put_sector`, with the contents of the copy.
use Rattle.commit.proofs.put_target.Goals as goal

pub returns : goal.returns
returns c = rw (← c.contents_at-s.ensures) c.put_sector.ensures
