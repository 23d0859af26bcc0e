-- `directory::has_untypable` meets its contract.
use Rattle.std.proofs.Common.{rules, tests}
use mathlib.Core.Bool.{not}
use Rattle.model.specs.Entry.{is_typable}
use Rattle.laws.proofs.Slices.{any-within}
use Rattle.directory.proofs.has_untypable.Goals as goal

pub returns : goal.returns
returns c = any-within _ _ _ c.args.name.now (λ b. not (is_typable b)) c.any.ensures.ran (cc) (λ x q k. search (rules, tests)) (λ x q k. search (rules, tests))
