-- `table::all_free` meets its contract.
use Rattle.std.proofs.Common.{rules, tests}
use Prim.Native.Nat.{◌+◌}
use mathlib.Core.Path.{refl}
use Rattle.table.proofs.Laws.{free_in}
use Rattle.laws.proofs.Folds.{fold-all}
use Rattle.table.proofs.all_free.Goals as goal

pub returns : goal.returns
returns c = fold-all _ _ _ (λ k. free_in c.args.img.now c.args.g (c.args.e + k)) 128 c.fold.ensures.ran refl (λ a x b q k. search (rules, tests))
