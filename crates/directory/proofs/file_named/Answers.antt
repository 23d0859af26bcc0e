-- `directory::file_named` meets its contract. All files are searched.
use Rattle.model.specs.Disk.{view}
use Rattle.laws.proofs.Catalogue.{named-on}
use Rattle.directory.proofs.file_named.Goals as goal

pub returns : goal.returns
returns c = rw (named-on (view c.args.img.now) c.args.name.now, ← c.requires.opened.is) c.file_named_between.ensures
