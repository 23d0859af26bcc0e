-- `carry_out::has_other` meets its contract. The greatest byte is 0 exactly if every byte is.
use Prim.Native.Nat.{ℕ, max}
use mathlib.Core.Path.{◌≡◌, ap, ◌∙◌}
use mathlib.Core.Bool.{not}
use lib.Dec.{eqb}
use Rattle.std.specs.List.{fold}
use Rattle.std.proofs.Common.{rules}
use Rattle.std.proofs.lemmas.Iterator.{YieldsList-from_slice}
use Rattle.std.proofs.lemmas.Iterator.Consumers.{fold_from_yields_List}
use Rattle.model.specs.Bytes.{bytes_from}
use Rattle.laws.proofs.Bytes.{get_or-bytes_from, length-bytes_from}
use Rattle.laws.proofs.Search.{all_below-ext}
use Rattle.fields.proofs.Slices.{part, greatest-zero, zero_at}
use Rattle.carry_out.proofs.has_other.Goals as goal

pub returns : goal.returns
returns c =
    let list = c.args.list.now in
    let at = c.args.at in
    let bytes = bytes_from list at 512 in
    let greatest : c.fold.result ≡ fold max 0 bytes =
    fold_from_yields_List _ max 0 _ c.fold.ensures.ran (YieldsList-from_slice bytes (c.iter.ensures.rest ∙ part list at 512 c.requires)) (λ a x b q k. search rules) in
    ap not
    (ap (λ (n : ℕ). eqb n 0) greatest ∙ greatest-zero bytes
    ∙ rw (length-bytes_from list at 512) (all_below-ext (zero_at bytes) _ 512 (λ b l. ap (λ (x : ℕ). eqb x 0) (get_or-bytes_from list at 512 b l))))
