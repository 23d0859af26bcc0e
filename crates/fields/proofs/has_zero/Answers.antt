-- `fields::has_zero` meets its contract.
use Prim.Native.Nat.{ℕ, min}
use mathlib.Core.Path.{ap, ◌∙◌}
use lib.Dec.{eqb}
use Rattle.std.proofs.Common.{rules}
use Rattle.std.proofs.lemmas.Iterator.{YieldsList-from_slice}
use Rattle.std.proofs.lemmas.Iterator.Consumers.{fold_from_yields_List}
use Rattle.model.specs.Entry.{has_zero}
use Rattle.fields.proofs.Slices.{least-zero}
use Rattle.fields.proofs.has_zero.Goals as goal

pub returns : goal.returns
unfolding has_zero
returns c =
    let bytes = c.args.bytes.now in
    ap (λ (n : ℕ). eqb n 0) (fold_from_yields_List _ min 255 _ c.fold.ensures.ran (YieldsList-from_slice bytes cc) (λ a x b q k. search rules))
    ∙ least-zero bytes
