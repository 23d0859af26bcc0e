-- `table::part_from` meets its contract.
use Rattle.std.proofs.Common.{rules, tests}
use mathlib.Core.Path.{ap, ◌∙◌}
use Rattle.model.specs.Search.{index_of}
use Rattle.model.specs.Disk.{view}
use Rattle.model.specs.Catalogue.{catalogue_of, is_part}
use Rattle.laws.proofs.Ranges.{find-scan}
use Rattle.table.proofs.part_from.Goals as goal

pub returns-clause-result_value : goal.returns-clause-result_value
returns-clause-result_value c =
    let found = find-scan _ _ _ _ (λ e. is_part c.args.i.0 c.args.o ((catalogue_of (view c.args.img.now)).table e)) c.find-found.ensures.ran
    (λ x q k. search (rules, tests)) (λ x q k. search (rules, tests)) in
    c.unwrap_or.ensures ∙ ap index_of found
