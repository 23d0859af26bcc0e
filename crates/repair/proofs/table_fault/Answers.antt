-- `repair::table_fault` meets its contract.
use mathlib.Core.Path.{sym, ap, ◌∙◌}
use Rattle.std.proofs.Common.{rules, tests}
use Rattle.model.specs.Answers.{Sound}
use Rattle.model.specs.Search.{Lowest}
use Rattle.model.specs.Disk.{view}
use Rattle.model.specs.Catalogue.{catalogue_of}
use Rattle.model.specs.Faults.{fault26, or_else}
use Rattle.model.specs.Repair.{repaired}
use Rattle.laws.proofs.Ranges.{find-scan}
use Rattle.repair.proofs.table_fault.Goals as goal

pub returns-in-Some : goal.returns-in-Some
returns-in-Some c =
    let found = find-scan _ _ _ _ (fault26 (repaired (catalogue_of (view c.args.img.now)))) c.find.ensures.ran (λ x q k. search (rules, tests)) (λ x q k. search (rules, tests)) in
    ap (λ (r : Lowest). or_else 26 r Sound) (sym c.in-Some.is ∙ found)

pub returns-in-None : goal.returns-in-None
returns-in-None c =
    let found = find-scan _ _ _ _ (fault26 (repaired (catalogue_of (view c.args.img.now)))) c.find.ensures.ran (λ x q k. search (rules, tests)) (λ x q k. search (rules, tests)) in
    ap (λ (r : Lowest). or_else 26 r Sound) (sym c.in-None.is ∙ found)
