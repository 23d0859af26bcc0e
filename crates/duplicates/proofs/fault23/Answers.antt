-- `duplicates::fault23` meets its contract. Fault 23 is a repeated name; without fault 22 every name ends in its sector.
use mathlib.Core.Path.{◌∙◌}
use Rattle.model.specs.Disk.{view}
use Rattle.duplicates.proofs.Keys.{names-faulty, names-fit}
use Rattle.duplicates.proofs.fault23.Goals as goal

pub first_faulty-requires-clause-keys_fit : goal.first_faulty-requires-clause-keys_fit
first_faulty-requires-clause-keys_fit c = names-fit (view c.args.img.now) c.args.g c.requires.opened.is c.requires.files_value

pub returns : goal.returns
returns c = c.first_faulty.ensures ∙ names-faulty (view c.args.img.now) c.args.g c.requires.opened.is
