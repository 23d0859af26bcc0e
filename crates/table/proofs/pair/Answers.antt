-- `table::pair` meets its contract.
use Prim.Native.Nat.{ℕ, ◌+◌, ◌*◌}
use mathlib.Core.Path.{◌≡◌, ap}
use mathlib.Core.List.{List}
use native.Mathlib.Omega.{arith}
use lib.ListN.{get_or}
use Rattle.model.specs.Bytes.{be_at}
use Rattle.table.proofs.pair.Goals as goal

two_bytes : (s : List ℕ) (at : ℕ) → be_at s at 2 ≡ get_or s at 0 * 256 + get_or s (at + 1) 0
unfolding be_at
two_bytes s at = let k : get_or s (at + 0) 0 ≡ get_or s at 0 = ap (λ (n : ℕ). get_or s n 0) (omega arith) in omega (arith, k)

pub returns : goal.returns
returns c =
    let x = c.type_inv.s c.args.at in
    let y = c.type_inv.s (c.args.at + 1) in
    rw (two_bytes c.args.s.now c.args.at) record {
      value = omega arith;
      at_bound = omega arith;
    }
