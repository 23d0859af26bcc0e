-- The answer by the code's tests. Assumes nothing.
use Prim.Native.Nat.{ℕ, ◌*◌, ◌≤◌, ◌<◌}
use mathlib.Core.Path.{◌≡◌, refl, sym, ◌∙◌}
use mathlib.Core.Bool.{true, false}
use native.Mathlib.Omega.{arith}
use lib.Dec.{eqb}
use borrow.Author.Tests.{eq-eqb, ne_eqb, le-leb, lt-leb}
use Rattle.model.specs.declared.Geometry.{Geometry}
use Rattle.model.specs.Geometry.{extent_sectors, in_bounds}
use Rattle.model.specs.Refusals.{verdict_of}
use Rattle.model.specs.WriteList.{record_size}
use Rattle.model.specs.Lengths.{longest_records, longest_list, longest_answer}
use Rattle.laws.proofs.Booleans.{and-false}
use Rattle.lengths.specs.declared.Call.{Call}
use Rattle.lengths.specs.Calls.{call_number}

-- a number that is no call's
pub none-called : (n : ℕ) (g : Geometry) → ((c : Call) → call_number c ≡ n → ⊥) → longest_records n g ≡ 0
unfolding longest_records
none-called n g h =
    let no : (k : ℕ) (c : Call) → call_number c ≡ k → eqb n k ≡ false = λ k c e. ne_eqb n k (λ q. h c (e ∙ sym q)) in
    rw (
      no 1 Call.Access refl,
      no 2 Call.Create refl,
      no 3 Call.Delete refl,
      no 4 Call.Rename refl,
      no 5 Call.RenameSet refl,
      no 6 Call.Resize refl,
      no 7 Call.Write refl,
      no 8 Call.Repair refl,
      no 9 Call.Recover refl,
      no 10 Call.RecoverSlice refl,
    )

module _ (g : Geometry) (call : ℕ) where
  pub too_wide : 4294967295 < extent_sectors g → longest_answer g call ≡ record { number = 3; length = 0 }
  unfolding longest_answer verdict_of
  too_wide h = rw (lt-leb (extent_sectors g) 4294967295 h, and-false (in_bounds g))

  pub out-of-bounds : in_bounds g ≡ false → longest_answer g call ≡ record { number = 3; length = 0 }
  unfolding longest_answer verdict_of
  out-of-bounds h = rw h

  pub no_call : in_bounds g ≡ true → extent_sectors g ≤ 4294967295 → longest_records call g ≡ 0 → longest_answer g call ≡ record { number = 8; length = 0 }
  unfolding longest_answer verdict_of
  no_call b s e = rw (b, le-leb (extent_sectors g) 4294967295 s, eq-eqb (longest_records call g) 0 e)

  pub answered : in_bounds g ≡ true → extent_sectors g ≤ 4294967295 → 0 < longest_records call g
      → longest_answer g call ≡ record { number = 0; length = longest_records call g * record_size }
  unfolding longest_answer verdict_of longest_list
  answered b s e = rw (b, le-leb (extent_sectors g) 4294967295 s, ne_eqb (longest_records call g) 0 (λ z. omega (arith, e, z)))
