-- `fields::starts_with` meets its contract.
use Prim.Native.Nat.{ℕ}
use mathlib.Core.Path.{sym, ap, ◌∙◌}
use mathlib.Core.List.{List}
use lib.ListN.{length}
use native.Mathlib.Omega.{arith}
use Rattle.model.specs.Search.{equal_bytes}
use Rattle.laws.proofs.Bytes.{bytes_from-eq}
use Rattle.fields.proofs.starts_with.Goals as goal

pub returns : goal.returns
returns c =
    let s = c.args.part.now in
    let text = c.args.text.now in
    c.is_same.ensures ∙ ap (λ (r : List ℕ). equal_bytes r text) (sym (bytes_from-eq s 0 (length text) (omega (arith, c.requires))))
