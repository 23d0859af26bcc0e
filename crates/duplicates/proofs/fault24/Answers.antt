-- `duplicates::fault24` meets its contract. Fault 24 is a reserved or a repeated id.
use mathlib.Core.Path.{◌∙◌}
use Rattle.model.specs.Disk.{view}
use Rattle.duplicates.proofs.Keys.{ids-faulty}
use Rattle.duplicates.proofs.fault24.Goals as goal

pub returns : goal.returns
returns c = c.first_faulty.ensures ∙ ids-faulty (view c.args.img.now) c.args.g c.requires.is
