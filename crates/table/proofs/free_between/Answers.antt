-- `table::free_between` meets its contract.
use Rattle.std.proofs.Common.{rules, tests}
use Rattle.table.proofs.Laws.{free_in}
use Rattle.laws.proofs.Ranges.{find-scan}
use Rattle.table.proofs.free_between.Goals as goal

pub returns : goal.returns
returns c = find-scan _ _ _ _ (free_in c.args.img.now c.args.g) c.find.ensures.ran (λ x q k. search (rules, tests)) (λ x q k. search (rules, tests))
