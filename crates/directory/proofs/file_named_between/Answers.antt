-- `directory::file_named_between` meets its contract.
use Rattle.std.proofs.Common.{rules, tests}
use Rattle.model.specs.Geometry.{entry_at}
use Rattle.model.specs.Disk.{view}
use Rattle.laws.proofs.Ranges.{find-scan}
use Rattle.directory.specs.Named.{is_named}
use Rattle.directory.proofs.file_named_between.Goals as goal

pub returns : goal.returns
returns c =
    find-scan _ _ _ _ (λ i. is_named c.args.g.edition c.args.name.now (view c.args.img.now (entry_at i))) c.find.ensures.ran
    (λ x q k. search (rules, tests)) (λ x q k. search (rules, tests))
