-- `directory::free_entry` meets its contract.
use Rattle.std.proofs.Common.{rules, tests}
use mathlib.Core.Bool.{not}
use Rattle.model.specs.Geometry.{entry_at}
use Rattle.model.specs.Disk.{view}
use Rattle.model.specs.Entry.{is_occupied}
use Rattle.laws.proofs.Ranges.{find-scan}
use Rattle.laws.proofs.Catalogue.{free_on}
use Rattle.directory.proofs.free_entry.Goals as goal

pub returns : goal.returns
returns c =
    rw (free_on (view c.args.img.now), ← c.requires.is)
    (find-scan _ _ _ _ (λ i. not (is_occupied (view c.args.img.now (entry_at i)))) c.find.ensures.ran
    (λ x q k. search (rules, tests)) (λ x q k. search (rules, tests)))
