-- Laws for write: a byte of a spliced sector, and which data sectors landed. Assumes nothing.
use Prim.Native.Nat.{ℕ, zero, suc, ◌+◌, ◌*◌, ◌-◌, ◌≤◌, ◌<◌, min, max}
use mathlib.Core.Path.{◌≡◌, refl, sym, ap, ◌∙◌, subst}
use mathlib.Core.Logic.{◌≢◌}
use mathlib.Core.Bool.{Bool, true, false, cond, ◌&&◌, true≢false}
use mathlib.Core.List.{List, [], ◌∷◌}
use native.Mathlib.Omega.{arith}
use native.Mathlib.Nat.{not-suc-le-zero}
use lib.Dec.{leb, ltb}
use lib.ListN.{length, get_or}
use borrow.Author.Tests.{leb-true, ltb-true}
use Rattle.model.specs.Bytes.{bytes_from, put}
use Rattle.model.specs.WriteList.{Record, Group, over, hits}
use Rattle.model.specs.Write.{spliced, spliced_from}
use Rattle.model.specs.Cut.{kept, data_by}
use Rattle.model.specs.Search.{tabulate}
use Rattle.laws.proofs.Booleans.{and_left, and_right, range-yes}
use Rattle.laws.proofs.Bytes.{length-bytes_from, length-put, get_or-bytes_from, get_or-put-same, get_or-put-other}
use Rattle.laws.proofs.Search.{length-tabulate, get_d_tabulate}
use Rattle.safety.proofs.Apply.{over-here, over_skip, over_none, over-miss, kept-miss, all-miss, all-at, All, Own, own-tabulate}
use Rattle.safety.proofs.Commit.{part_of}

-- bytes from `from` to `to` of a file, put into the sector that starts at base
module _ (bytes old : List ℕ) (offset base from to j : ℕ) (a : base ≤ from) (b : offset ≤ from) (c : to ≤ offset + length bytes) (d : to ≤ base + 512)
    (l : length old ≡ 512) (h : j < 512) (into : offset ≤ base + j → base + j < offset + length bytes → (from ≤ base + j) × (base + j < to)) where
  abbrev piece : List ℕ
  piece = bytes_from bytes (from - offset) (to - from)

  inside : from ≤ base + j → base + j < to → get_or (put old (from - base) piece) j 0 ≡ get_or bytes (base + j - offset) 0
  inside x y =
      let n : length piece ≡ to - from = length-bytes_from bytes (from - offset) (to - from) in
      let e : from - base + (j - (from - base)) ≡ j = omega arith in
      let k : from - offset + (j - (from - base)) ≡ base + j - offset = omega arith in
      ap (λ i. get_or (put old (from - base) piece) i 0) (sym e)
      ∙ get_or-put-same old (from - base) piece (j - (from - base)) (omega arith) (omega arith)
      ∙ get_or-bytes_from bytes (from - offset) (to - from) (j - (from - base)) (omega arith) ∙ ap (λ i. get_or bytes i 0) k

  outside : (from ≤ base + j → base + j < to → ⊥) → get_or (put old (from - base) piece) j 0 ≡ get_or old j 0
  outside x =
      let n : length piece ≡ to - from = length-bytes_from bytes (from - offset) (to - from) in
      get_or-put-other old (from - base) piece j (λ p q. x (omega arith) (omega arith))

  pub piece-at : get_or (put old (from - base) piece) j 0 ≡ cond (leb offset (base + j) && ltb (base + j) (offset + length bytes)) (get_or bytes (base + j - offset) 0) (get_or old j 0)
  piece-at = go (leb offset (base + j) && ltb (base + j) (offset + length bytes)) refl
    where
      go : (t : Bool) → (leb offset (base + j) && ltb (base + j) (offset + length bytes)) ≡ t → get_or (put old (from - base) piece) j 0 ≡ cond t (get_or bytes (base + j - offset) 0) (get_or old j 0)
      go true e =
          let q = into (leb-true offset (base + j) (and_left _ _ e)) (ltb-true (base + j) (offset + length bytes) (and_right (leb offset (base + j)) _ e)) in
          inside q.0 q.1
      go false e = outside (λ x y. true≢false (sym (range-yes offset (offset + length bytes) (base + j) (omega arith) (omega arith)) ∙ e))

-- byte j of file sector s after a span was put in
pub spliced-at : (offset : ℕ) (bytes : List ℕ) (s : ℕ) (old : List ℕ) (j : ℕ) → length old ≡ 512 → j < 512
    → get_or (spliced offset bytes s old) j 0 ≡ cond (leb offset (512 * s + j) && ltb (512 * s + j) (offset + length bytes)) (get_or bytes (512 * s + j - offset) 0) (get_or old j 0)
unfolding spliced spliced_from
spliced-at offset bytes s old j l h =
    piece-at bytes old offset (512 * s) (max offset (512 * s)) (min (offset + length bytes) (512 * s + 512)) j
    (omega arith) (omega arith) (omega arith) (omega arith) l h (λ x y. (omega arith, omega arith))

-- ---- data sectors: each is for a sector of its own

own-other : (w : Record) (ws : Group) (k : ℕ) (z : Record) → All (λ v. w.sector ≢ v.sector) ws → k < length ws → (get_or ws k z).sector ≢ w.sector
own-other w ws k z a l e = all-at (λ v. w.sector ≢ v.sector) ws k z a l (sym e)

-- of the records that landed, the k-th decides what its sector holds
pub kept_at : (m : List Bool) (ws : Group) (k : ℕ) (z : Record) (x : List ℕ) → Own ws → k < length ws
    → over (kept m ws) (get_or ws k z).sector x ≡ cond (get_or m k false) (get_or ws k z).contents x
unfolding kept
kept_at m [] k z x o l = absurd (not-suc-le-zero l)
kept_at [] (w ∷ ws) k z x o l = over_none _ x
kept_at (true ∷ m) (w ∷ ws) zero z x o l = over-here w (kept m ws) x ∙ over-miss (kept m ws) w.sector w.contents (kept-miss m ws w.sector (all-miss w.sector ws o.0))
kept_at (false ∷ m) (w ∷ ws) zero z x o l = over-miss (kept m ws) w.sector x (kept-miss m ws w.sector (all-miss w.sector ws o.0))
kept_at (true ∷ m) (w ∷ ws) (suc k) z x o l =
    over_skip w (kept m ws) (get_or ws k z).sector x (own-other w ws k z o.0 (omega arith)) ∙ kept_at m ws k z x o.1 (omega arith)
kept_at (false ∷ m) (w ∷ ws) (suc k) z x o l = kept_at m ws k z x o.1 (omega arith)

all-over : (ws : Group) (k : ℕ) (z : Record) (x : List ℕ) → Own ws → k < length ws → over ws (get_or ws k z).sector x ≡ (get_or ws k z).contents
all-over [] k z x o l = absurd (not-suc-le-zero l)
all-over (w ∷ ws) zero z x o l = over-here w ws x ∙ over-miss ws w.sector w.contents (all-miss w.sector ws o.0)
all-over (w ∷ ws) (suc k) z x o l = over_skip w ws (get_or ws k z).sector x (own-other w ws k z o.0 (omega arith)) ∙ all-over ws k z x o.1 (omega arith)

-- of a cut's part of them
part-over : (k : ℕ) (m : List Bool) (ws : Group) (j : ℕ) (z : Record) (x : List ℕ) → Own ws → j < length ws
    → over (part_of k m ws) (get_or ws j z).sector x ≡ cond (data_by k m j) (get_or ws j z).contents x
part-over zero m ws j z x o l = kept_at m ws j z x o l
part-over (suc k) m ws j z x o l = all-over ws j z x o l

pub part-miss : (k : ℕ) (m : List Bool) (ws : Group) (j : ℕ) (x : List ℕ) → hits ws j ≡ false → over (part_of k m ws) j x ≡ x
part-miss zero m ws j x h = over-miss (kept m ws) j x (kept-miss m ws j h)
part-miss (suc k) m ws j x h = over-miss ws j x h

-- ---- data sectors by index

pub part-tabulate : (k : ℕ) (m : List Bool) (f : ℕ → Record) (a n j : ℕ) (x : List ℕ) → ((j k : ℕ) → j < n → k < n → (f (a + j)).sector ≡ (f (a + k)).sector → j ≡ k) → j < n
    → over (part_of k m (tabulate f a n)) (f (a + j)).sector x ≡ cond (data_by k m j) (f (a + j)).contents x
part-tabulate k m f a n j x h l =
    subst (λ (r : Record). over (part_of k m (tabulate f a n)) r.sector x ≡ cond (data_by k m j) r.contents x) (get_d_tabulate f a n j (f a) l)
    (part-over k m (tabulate f a n) j (f a) x (own-tabulate f a n h) (let e : length (tabulate f a n) ≡ n = length-tabulate f a n in omega arith))

pub length-spliced : (offset : ℕ) (bytes : List ℕ) (s : ℕ) (old : List ℕ) → length (spliced offset bytes s old) ≡ length old
unfolding spliced spliced_from
length-spliced offset bytes s old = length-put old _ _
