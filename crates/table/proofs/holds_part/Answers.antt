-- `table::holds_part` meets its contract.
use Rattle.std.proofs.Common.{rules, tests}
use Prim.Native.Nat.{◌+◌}
use mathlib.Core.Path.{refl}
use Rattle.model.specs.Disk.{view}
use Rattle.model.specs.Catalogue.{catalogue_of, is_part}
use Rattle.laws.proofs.Folds.{fold-any}
use Rattle.table.proofs.holds_part.Goals as goal

pub returns : goal.returns
returns c =
    fold-any _ _ _ (λ k. is_part c.args.i.0 c.args.o ((catalogue_of (view c.args.img.now)).table (c.args.e + k))) 128 c.fold.ensures.ran refl (λ a x b q k. search (rules, tests))
