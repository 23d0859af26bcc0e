-- `table::free_below` meets its contract.
use Rattle.std.proofs.Common.{rules, tests}
use native.Mathlib.Omega.{arith}
use Rattle.model.specs.Disk.{view}
use Rattle.model.specs.Catalogue.{catalogue_of}
use Rattle.table.proofs.Laws.{free_in, free_on}
use Rattle.laws.proofs.Folds.{find-last}
use Rattle.table.proofs.Stages.{highest-is}
use Rattle.table.proofs.free_below.Goals as goal

pub returns : goal.returns
returns c =
    let last = find-last _ _ _ _ (free_in c.args.img.now c.args.g) c.args.end c.find.ensures.ran c.rev.ensures.source
    (λ x q k. search (rules, tests)) (λ x q k. search (rules, tests)) in
    highest-is (catalogue_of (view c.args.img.now)) (free_in c.args.img.now c.args.g) c.args.end c.find.result
    (λ e l. free_on (view c.args.img.now) c.args.g c.requires.opened.is e (omega arith)) last
