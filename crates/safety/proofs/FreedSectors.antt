-- Table sectors of which some are rewritten, and what a table sector says after entries were freed. Assumes nothing.
use Prim.Native.Nat.{ℕ, zero, suc, ◌+◌, ◌*◌, ◌≤◌, ◌<◌}
use mathlib.Core.Path.{◌≡◌, refl, sym, ap, ◌∙◌, subst}
use mathlib.Core.Logic.{◌≢◌}
use mathlib.Core.Bool.{Bool, true, false, cond}
use mathlib.Core.List.{List, [], ◌∷◌, ◌++◌}
use native.Mathlib.Omega.{arith}
use native.Mathlib.Decide.{dec_lt}
use native.Mathlib.Nat.{not-suc-le-zero, zero-add, add-zero}
use lib.ListN.{length, length-append}
use Rattle.model.specs.Bytes.{Field, number_in, be_at, be_bytes, put}
use Rattle.model.specs.Search.{concatenated, count_below}
use Rattle.model.specs.WriteList.{Record, sector_write, Group, over}
use Rattle.model.specs.Table.{table_field, table_entry_bytes, freed_in}
use Rattle.laws.proofs.Search.{concatenated-front}
use Rattle.laws.proofs.Bytes.{length-put, be_at-put-other, be_at-put-in}
use Rattle.safety.proofs.Apply.{over-append, over-here, over_skip, over_none, over-miss, All, all_append, all-miss}
use Rattle.safety.proofs.Journal.{Rising}

-- ---- of the sectors from base on, those that p picks are written

module _ (base : ℕ) (p : ℕ → Bool) (r : ℕ → List ℕ) where
  abbrev pub pick : ℕ → Group
  pick t = cond (p t) (sector_write (base + t) (r t) ∷ []) []

  pub length-picks : (n : ℕ) → length (concatenated pick 0 n) ≡ count_below p n
  unfolding concatenated count_below
  length-picks zero = refl
  length-picks (suc n) =
      let e : length (concatenated pick 0 n) ≡ count_below p n = length-picks n in
      let q : length (pick (0 + n)) ≡ cond (p n) 1 0 = ap (λ x. length (pick x)) (zero-add n) ∙ go (p n) in
      length-append (concatenated pick 0 n) (pick (0 + n)) ∙ (let z : length (concatenated pick 0 n) + length (pick (0 + n)) ≡ cond (p n) 1 0 + count_below p n = omega arith in z)
    where
      go : (b : Bool) → length (cond b (sector_write (base + n) (r n) ∷ []) []) ≡ cond b 1 0
      go true = refl
      go false = refl

  pub all-picks : (P : Record → Type 0) (n : ℕ) → ((t : ℕ) → t < n → p t ≡ true → P (sector_write (base + t) (r t))) → All P (concatenated pick 0 n)
  unfolding concatenated
  all-picks P zero h = tt
  all-picks P (suc n) h = all_append P (concatenated pick 0 n) (pick (0 + n)) (all-picks P n (λ t l. h t (omega arith))) (go (p (0 + n)) refl)
    where
      go : (b : Bool) → p (0 + n) ≡ b → All P (cond b (sector_write (base + (0 + n)) (r (0 + n)) ∷ []) [])
      go true e = (h (0 + n) (omega arith) e, tt)
      go false e = tt

  pub rising-picks : (n a lo : ℕ) → lo ≤ base + a → Rising lo (concatenated pick a n)
  unfolding concatenated
  rising-picks zero a lo h = tt
  rising-picks (suc n) a lo h = subst (Rising lo) (sym (concatenated-front pick a n)) (go (p a) (rising-picks n (suc a) (suc (base + a)) (omega arith)) (rising-picks n (suc a) lo (omega arith)))
    where
      go : (b : Bool) → Rising (suc (base + a)) (concatenated pick (suc a) n) → Rising lo (concatenated pick (suc a) n)
          → Rising lo (cond b (sector_write (base + a) (r a) ∷ []) [] ++ concatenated pick (suc a) n)
      go true x y = (h, x)
      go false x y = y

  pub over-picks : (n t : ℕ) (x : List ℕ) → t < n → over (concatenated pick 0 n) (base + t) x ≡ cond (p t) (r t) x
  unfolding concatenated
  over-picks zero t x h = absurd (not-suc-le-zero h)
  over-picks (suc n) t x h =
      over-append (concatenated pick 0 n) (pick (0 + n)) (base + t) x
      ∙ ap (λ k. over (pick k) (base + t) (over (concatenated pick 0 n) (base + t) x)) (zero-add n) ∙ go (dec_lt t n) (λ l. over-picks n t x l)
    where
      skip : (b : Bool) (y : List ℕ) → t ≢ n → over (cond b (sector_write (base + n) (r n) ∷ []) []) (base + t) y ≡ y
      skip true y ne = over_skip (sector_write (base + n) (r n)) [] (base + t) y (λ e. ne (omega arith)) ∙ over_none (base + t) y
      skip false y ne = over_none (base + t) y

      here : (b : Bool) (y : List ℕ) → over (cond b (sector_write (base + n) (r n) ∷ []) []) (base + n) y ≡ cond b (r n) y
      here true y = over-here (sector_write (base + n) (r n)) [] y ∙ over_none (base + n) (r n)
      here false y = over_none (base + n) y

      go : Dec (t < n) → (t < n → over (concatenated pick 0 n) (base + t) x ≡ cond (p t) (r t) x)
          → over (pick n) (base + t) (over (concatenated pick 0 n) (base + t) x) ≡ cond (p t) (r t) x
      go (yes l) ih = skip (p n) _ (λ e. omega arith) ∙ ih l
      go (no l) ih =
          let e : t ≡ n = omega arith in
          let m : over (concatenated pick 0 n) (base + n) x ≡ x = over-miss (concatenated pick 0 n) (base + n) x
          (all-miss (base + n) (concatenated pick 0 n) (all-picks (λ w. base + n ≢ w.sector) n (λ k u e z. omega arith))) in
          ap (λ k. over (pick n) (base + k) (over (concatenated pick 0 n) (base + k) x)) e ∙ ap (over (pick n) (base + n)) m ∙ here (p n) x ∙ ap (λ k. cond (p k) (r k) x) (sym e)

-- ---- freed entries

abbrev free4 : List ℕ
free4 = table_entry_bytes 65535 65535

length-free4 : length free4 ≡ 4
unfolding be_bytes
length-free4 = refl

module _ (p : ℕ → Bool) (s : List ℕ) where
  pub length-freed_in : (n : ℕ) → length (freed_in p s n) ≡ length s
  unfolding freed_in
  length-freed_in zero = refl
  length-freed_in (suc n) = go (p n) (length-freed_in n)
    where
      go : (b : Bool) → length (freed_in p s n) ≡ length s → length (cond b (put (freed_in p s n) (4 * n) free4) (freed_in p s n)) ≡ length s
      go true h = length-put (freed_in p s n) (4 * n) free4 ∙ h
      go false h = h

  freed-past : (n k o : ℕ) → n ≤ k → be_at (freed_in p s n) (4 * k + o) 2 ≡ be_at s (4 * k + o) 2
  unfolding freed_in
  freed-past zero k o h = refl
  freed-past (suc n) k o h = go (p n) (freed-past n k o (omega arith))
    where
      go : (b : Bool) → be_at (freed_in p s n) (4 * k + o) 2 ≡ be_at s (4 * k + o) 2 → be_at (cond b (put (freed_in p s n) (4 * n) free4) (freed_in p s n)) (4 * k + o) 2 ≡ be_at s (4 * k + o) 2
      go true ih =
          let l : length free4 ≡ 4 = length-free4 in
          be_at-put-other (freed_in p s n) (4 * n) free4 (4 * k + o) 2 (λ j a b c d. omega arith) ∙ ih
      go false ih = ih

  -- a half of entry k
  freed-half : (n k o : ℕ) → k < n → n ≤ 128 → length s ≡ 512 → o + 2 ≤ 4 → be_at free4 o 2 ≡ 65535
      → be_at (freed_in p s n) (4 * k + o) 2 ≡ cond (p k) 65535 (be_at s (4 * k + o) 2)
  unfolding freed_in
  freed-half zero k o h m l b f = absurd (not-suc-le-zero h)
  freed-half (suc n) k o h m l b f = go (dec_lt k n) (λ q. freed-half n k o q (omega arith) l b f)
    where
      skip : (t : Bool) → k < n → be_at (cond t (put (freed_in p s n) (4 * n) free4) (freed_in p s n)) (4 * k + o) 2 ≡ be_at (freed_in p s n) (4 * k + o) 2
      skip true q =
          let e : length free4 ≡ 4 = length-free4 in
          be_at-put-other (freed_in p s n) (4 * n) free4 (4 * k + o) 2 (λ j u v w x. omega arith)
      skip false q = refl

      here : (t : Bool) → be_at (cond t (put (freed_in p s n) (4 * n) free4) (freed_in p s n)) (4 * n + o) 2 ≡ cond t 65535 (be_at s (4 * n + o) 2)
      here true =
          let e : length free4 ≡ 4 = length-free4 in
          let z : length (freed_in p s n) ≡ length s = length-freed_in n in
          be_at-put-in (freed_in p s n) (4 * n) free4 o 2 (omega arith) (omega arith) ∙ f
      here false = freed-past n n o (omega arith)

      go : Dec (k < n) → (k < n → be_at (freed_in p s n) (4 * k + o) 2 ≡ cond (p k) 65535 (be_at s (4 * k + o) 2))
          → be_at (cond (p n) (put (freed_in p s n) (4 * n) free4) (freed_in p s n)) (4 * k + o) 2 ≡ cond (p k) 65535 (be_at s (4 * k + o) 2)
      go (yes q) ih = skip (p n) q ∙ ih q
      go (no q) ih =
          let e : k ≡ n = omega arith in
          ap (λ j. be_at (cond (p n) (put (freed_in p s n) (4 * n) free4) (freed_in p s n)) (4 * j + o) 2) e ∙ here (p n) ∙ ap (λ j. cond (p j) 65535 (be_at s (4 * j + o) 2)) (sym e)

free-file : be_at free4 0 2 ≡ 65535
unfolding be_at be_bytes
free-file = refl

free-offset : be_at free4 2 2 ≡ 65535
unfolding be_at be_bytes
free-offset = refl

-- what a field of entry k holds after a sector's entries that p picks were freed
abbrev pub FreedField : (ℕ → Field) → Type 0
FreedField f =
    (p : ℕ → Bool) (s : List ℕ) (k : ℕ) → k < 128 → length s ≡ 512 → number_in (freed_in p s 128) (f (4 * k)) ≡ cond (p k) 65535 (number_in s (f (4 * k)))

pub freed-file : FreedField (λ at. (table_field at).file)
freed-file p s k h l = rw add-zero at (freed-half p s 128 k 0 h (omega arith) l (omega arith) free-file)

pub freed-offset : FreedField (λ at. (table_field at).offset)
freed-offset p s k h l = freed-half p s 128 k 2 h (omega arith) l (omega arith) free-offset
