-- `table::sectors_from` meets its contract.
use Rattle.std.proofs.Common.{rules, tests}
use mathlib.Core.Path.{◌∙◌}
use native.Mathlib.Nat.{sub-zero}
use Rattle.model.specs.Table.{holds_any, sectors_holding}
use Rattle.table.specs.Owned.{owned_in}
use Rattle.std.proofs.lemmas.Iterator.{YieldsList-from_range}
use Rattle.std.proofs.lemmas.Iterator.Consumers.{count_from_yields_List, YieldsList-from_filter}
use Rattle.laws.proofs.Folds.{counted}
use Rattle.table.proofs.sectors_from.Goals as goal

pub returns-clause-value : goal.returns-clause-value
unfolding sectors_holding
returns-clause-value c =
    let n = c.table_sectors.result in
    let holds = holds_any (owned_in c.args.img.now c.args.i.0 c.args.o) in
    rw (← c.table_sectors.ensures)
    (count_from_yields_List c.filter.result c.count.result c.count.ensures.ran
    (YieldsList-from_filter _ holds (YieldsList-from_range 0 n n c.filter.ensures.source (sub-zero n)) c.filter.ensures.closure (λ x r q k. search (rules, tests)))
    ∙ counted holds n)
