-- `directory::fault21` meets its contract.
use Rattle.std.proofs.Common.{rules, tests}
use Rattle.model.specs.Disk.{view}
use Rattle.model.specs.Faults.{fault21}
use Rattle.laws.proofs.Ranges.{find-scan}
use Rattle.directory.proofs.fault21.Goals as goal

pub returns : goal.returns
returns c = find-scan _ _ _ _ (fault21 (view c.args.img.now)) c.find.ensures.ran (λ x q k. search (rules, tests)) (λ x q k. search (rules, tests))
