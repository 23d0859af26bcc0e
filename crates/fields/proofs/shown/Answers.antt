-- `fields::shown` meets its contract. What lies past the image's end reads 0, as the array does before the copy.
-- those of the 512 bytes from at on that s has, put over an array of zeros
use Prim.Native.Nat.{ℕ, ◌+◌, ◌-◌, ◌≤◌, ◌<◌, min}
use mathlib.Core.Path.{◌≡◌, refl, sym, ap, ◌∙◌}
use mathlib.Core.Bool.{Bool, true, false}
use mathlib.Core.List.{List}
use native.Mathlib.Omega.{arith}
use lib.Dec.{ltb}
use lib.ListN.{length, get_or, get_or-eq_default}
use borrow.Author.Tests.{ltb-true, ltb-false}
use Rattle.model.specs.Bytes.{bytes_from, put}
use Rattle.model.specs.Disk.{view}
use Rattle.laws.proofs.Bytes.{length-bytes_from, length-put, bytes_from-all, bytes_from-ext, get_or-bytes_from, get_or-put-same, get_or-put-other, zeros-at}
use Rattle.fields.proofs.shown.Goals as goal

filled : (z s : List ℕ) (at from n : ℕ) → length z ≡ 512 → ((p : ℕ) → get_or z p 0 ≡ 0) → from ≡ min at (length s) → n ≡ min (length s - from) 512
    → put z 0 (bytes_from s from n) ≡ bytes_from s at 512
filled z s at from n l zero f m =
    sym (bytes_from-all (put z 0 (bytes_from s from n)) 512 (length-put z 0 (bytes_from s from n) ∙ l))
    ∙ bytes_from-ext (put z 0 (bytes_from s from n)) s 0 at 512 (λ i h. same i h (ltb i n) refl)
  where
    same : (i : ℕ) → i < 512 → (b : Bool) → ltb i n ≡ b → get_or (put z 0 (bytes_from s from n)) (0 + i) 0 ≡ get_or s (at + i) 0
    same i h true e =
        let k = ltb-true i n e in
        let w = length-bytes_from s from n in
        let p : from + i ≡ at + i = omega (arith, f, m, k) in
        get_or-put-same z 0 (bytes_from s from n) i (omega (arith, w, k)) (omega (arith, l, h)) ∙ get_or-bytes_from s from n i k ∙ ap (λ (x : ℕ). get_or s x 0) p
    same i h false e =
        let k = ltb-false i n e in
        let w = length-bytes_from s from n in
        get_or-put-other z 0 (bytes_from s from n) (0 + i) (λ (x : 0 ≤ 0 + i) (y : 0 + i < 0 + length (bytes_from s from n)). omega (arith, w, k, y))
        ∙ zero (0 + i) ∙ sym (get_or-eq_default s 0 (omega (arith, f, m, k, h)))

pub returns : goal.returns
unfolding view
returns c =
    c.copy_bytes.ensures
    ∙ filled _ _ _ _ _ refl (zeros-at 512) c.min-from.ensures c.min-n.ensures
