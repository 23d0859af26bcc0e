-- The library's search of a slice for an element that passes is that of `Search` by index. Assumes nothing.
use Prim.Native.Nat.{ℕ, ◌<◌}
use mathlib.Core.Path.{◌≡◌, sym}
use mathlib.Core.Bool.{Bool, true, false}
use mathlib.Core.List.{List}
use native.Mathlib.Omega.{arith}
use lib.ListN.{length, get_or}
use denote.Param.Members.{Mut}
use denote.Ref.{Bor}
use Rattle.std.specs.declared.slice.Iter.{Iter}
use Rattle.std.specs.declared.option.Option.{Option}
use Rattle.std.specs.Bool.{MatchBool}
use Rattle.std.specs.Fn.{Called}
use Rattle.std.specs.Iterator.{YieldsThen}
use Rattle.std.specs.List.{FoldsTo, AllWithin, HoldsAt}
use Rattle.std.specs.Option.{MatchOption}
use Rattle.std.specs.Slice.Iter.{iter_rest}
use Rattle.std.proofs.iter.Yields.{fronts}
use Rattle.std.proofs.lemmas.Iterator.{cases_from_any, YieldsList-from_slice}
use Rattle.model.specs.Search.{any_below}
use Rattle.laws.proofs.Search.{any_below-true, any_below-no}

module _ (p : ℕ → Bool) (all : List ℕ) where
  abbrev Found : Bool → Type 0
  Found r = MatchBool r ((k : ℕ) × (k < length all) × HoldsAt (λ x. p x ≡ true) all k) (AllWithin (λ x. p x ≡ false) all 0 (length all))

  found-any : (r : Bool) → Found r → r ≡ any_below (λ k. p (get_or all k 0)) (length all)
  found-any true h = sym (any_below-true (λ k. p (get_or all k 0)) h.0 (length all) h.1 (h.2 0))
  found-any false h = sym (any_below-no (λ k. p (get_or all k 0)) (length all) (λ k l. h k 0 (omega arith) l))

pub any-within : {F : Type 0} {g : Mut F (Bor ℕ × Unit {0}) Bool} {s : Iter ℕ} (u : Iter ℕ) (f : F) (r : Bool) (all : List ℕ) (p : ℕ → Bool)
    → (xs : List (Bor ℕ)) × (o : Option (Bor ℕ)) × (j : F) × YieldsThen fronts s xs o u × FoldsTo (λ p x q. Called g p (x, tt) false q) f xs j
    × MatchOption o (r ≡ false) (λ x. (r ≡ true) × ((h : F) × Called g j (x, tt) true h))
    → iter_rest s ≡ all → ((x : Bor ℕ) (q : F) → Called g f (x, tt) true q → p x.now ≡ true)
    → ((x : Bor ℕ) (q : F) → Called g f (x, tt) false q → (q ≡ f) × (p x.now ≡ false)) → r ≡ any_below (λ k. p (get_or all k 0)) (length all)
any-within u f r all p ran is yes' no' =
    found-any p all r (cases_from_any u f r (λ x. p x ≡ true) (λ x. p x ≡ false) ran (YieldsList-from_slice all is) yes' no')
