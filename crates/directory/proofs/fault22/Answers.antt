-- `directory::fault22` meets its contract.
use Rattle.std.proofs.Common.{rules, tests}
use Rattle.model.specs.Disk.{view}
use Rattle.laws.proofs.Ranges.{find-scan}
use Rattle.directory.proofs.Laws.{is_bad, fault22-on}
use Rattle.directory.proofs.fault22.Goals as goal

pub returns : goal.returns
returns c =
    rw (c.requires.is, fault22-on (view c.args.img.now), ← c.requires.is, ← c.most_bytes-most.ensures)
    (find-scan _ _ _ _ (is_bad (view c.args.img.now) c.args.g.edition c.most_bytes-most.result) c.find.ensures.ran
    (λ x q k. search (rules, tests)) (λ x q k. search (rules, tests)))
