-- What two sets leave of the files of their names: A SWAP THROUGH A THIRD NAME, and one name to another and back, WHICH IS NO SWAP. Assumes nothing.
use Prim.Native.Nat.{ℕ}
use mathlib.Core.Path.{◌≡◌, sym}
use mathlib.Core.Logic.{◌≢◌}
use mathlib.Core.Bool.{false}
use mathlib.Core.List.{List, [], ◌∷◌}
use Rattle.model.specs.Search.{equal_bytes}
use Rattle.safety.specs.RenameSet.{Files, files_after_renames, Swapped, NotSwapped}
use Rattle.safety.proofs.Searches.{same-apart, same_refl}

apart : (a b : List ℕ) → a ≢ b → b ≢ a
apart a b ne e = ne (sym e)

pub swap-files : (a b third : List ℕ) (time : ℕ) (files : Files) → a ≢ b → a ≢ third → b ≢ third
    → Swapped a b third time files (files_after_renames ((a, third) ∷ (b, a) ∷ (third, b) ∷ []) time files)
unfolding files_after_renames
swap-files a b third time files ab at bt =
    let e1 : equal_bytes a third ≡ false = same-apart a third at in
    let e2 : equal_bytes b a ≡ false = same-apart b a (apart a b ab) in
    let e3 : equal_bytes third b ≡ false = same-apart third b (apart b third bt) in
    let e4 : equal_bytes a b ≡ false = same-apart a b ab in
    let e5 : equal_bytes b third ≡ false = same-apart b third bt in
    let e6 : equal_bytes third a ≡ false = same-apart third a (apart a third at) in
    record {
      first = rw (e3, e2, e6, same_refl a, e1, e4);
      second = rw (e3, same_refl b, e2, e1, e5, same_refl third);
      gone = rw (e3, e5, same_refl third);
      others = λ n p q r. rw (e3, same-apart b n q, same-apart third n r, e2, same-apart a n p, e1);
    }

pub no-swap : (a b : List ℕ) (time : ℕ) (files : Files) → a ≢ b → NotSwapped a b time files (files_after_renames ((a, b) ∷ (b, a) ∷ []) time files)
unfolding files_after_renames
no-swap a b time files ab =
    let e1 : equal_bytes a b ≡ false = same-apart a b ab in
    let e2 : equal_bytes b a ≡ false = same-apart b a (apart a b ab) in
    record {
      first = rw (e2, same_refl a, e1, same_refl b);
      gone = rw (e2, e1, same_refl b);
      others = λ n p q. rw (e2, same-apart a n p, same-apart b n q, e1);
    }
