-- `table::holds_free` meets its contract.
use Rattle.std.proofs.Common.{rules, tests}
use Prim.Native.Nat.{◌+◌}
use mathlib.Core.Path.{refl}
use Rattle.table.proofs.Laws.{free_in}
use Rattle.laws.proofs.Folds.{fold-any}
use Rattle.table.proofs.holds_free.Goals as goal

pub returns : goal.returns
returns c = fold-any _ _ _ (λ k. free_in c.args.img.now c.args.g (c.args.e + k)) 128 c.fold.ensures.ran (refl) (λ a x b q k. search (rules, tests))
