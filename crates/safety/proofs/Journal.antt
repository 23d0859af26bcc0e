-- Recovery reads back from the journal what a plan wrote there, in rising order. Assumes nothing.
use Prim.Native.Nat.{ℕ, zero, suc, ◌+◌, ◌*◌, ◌-◌, ◌/◌, ◌%◌, ◌^◌, ◌≤◌, ◌<◌, min}
use mathlib.Core.Path.{◌≡◌, refl, sym, ap, ap₂, ◌∙◌}
use mathlib.Core.Logic.{◌≢◌}
use mathlib.Core.Bool.{Bool, true, false, cond}
use mathlib.Core.List.{List, [], ◌∷◌, ◌++◌}
use native.Mathlib.Omega.{arith}
use native.Mathlib.Decide.{dec_lt}
use native.Mathlib.Nat.{not-suc-le-zero, add-zero}
use lib.Dec.{eqb}
use lib.ListN.{length, get_or, length-append}
use borrow.Author.Tests.{eqb-true, eqb-false, ne_eqb}
use Rattle.std.specs.Prelude.{Some}
use Rattle.model.specs.Bytes.{put, be_at, be_bytes}
use Rattle.model.specs.Search.{Lowest, scan, concatenated, is_at, index_of}
use Rattle.model.specs.Disk.{Disk}
use Rattle.model.specs.WriteList.{Record, sector_write, barrier, Group}
use Rattle.model.specs.Journal.{entries_in, journal_sector}
use Rattle.laws.proofs.Search.{concatenated-front, concatenated-ext}
use Rattle.laws.proofs.Bytes.{length-put, length-be_bytes, length-zero_sector, be_at-put-other, be_at-put-in, be_at-left, be_at-right, be_at-be_bytes}
use Rattle.safety.proofs.Apply.{All, all_map}

-- ---- the journal's bytes

module _ (source target : ℕ → ℕ) (from : ℕ) where
  abbrev pair : ℕ → List ℕ
  pair k = be_bytes 8 (source (from + k)) ++ be_bytes 8 (target (from + k))

  length-pair : (k : ℕ) → length (pair k) ≡ 16
  length-pair k = simp (length-append, length-be_bytes)

  pub length-entries_in : (n : ℕ) → length (entries_in source target from n) ≡ 512
  unfolding entries_in
  length-entries_in zero = length-zero_sector
  length-entries_in (suc n) = length-put (entries_in source target from n) (16 * n) (pair n) ∙ length-entries_in n

  -- the 8 bytes at o of entry k
  entry_at : (n k o : ℕ) → k < n → n ≤ 32 → o + 8 ≤ 16 → be_at (entries_in source target from n) (16 * k + o) 8 ≡ be_at (pair k) o 8
  unfolding entries_in
  entry_at zero k o h l b = absurd (not-suc-le-zero h)
  entry_at (suc n) k o h l b = go (dec_lt k n) (λ q. entry_at n k o q (omega arith) b)
    where
      go : Dec (k < n) → (k < n → be_at (entries_in source target from n) (16 * k + o) 8 ≡ be_at (pair k) o 8)
          → be_at (put (entries_in source target from n) (16 * n) (pair n)) (16 * k + o) 8 ≡ be_at (pair k) o 8
      go (yes q) t =
          let e : length (pair n) ≡ 16 = length-pair n in
          be_at-put-other (entries_in source target from n) (16 * n) (pair n) (16 * k + o) 8 (λ i p1 p2 p3 p4. omega arith) ∙ t q
      go (no q) t =
          let f : k ≡ n = omega arith in
          let e : length (pair n) ≡ 16 = length-pair n in
          let m : length (entries_in source target from n) ≡ 512 = length-entries_in n in
          rw f (be_at-put-in (entries_in source target from n) (16 * n) (pair n) o 8 (omega arith) (omega arith))

  pub entry-source : (n k : ℕ) → k < n → n ≤ 32 → source (from + k) < 256 ^ 8 → be_at (entries_in source target from n) (16 * k) 8 ≡ source (from + k)
  entry-source n k h l b =
      let e : length (be_bytes 8 (source (from + k))) ≡ 8 = length-be_bytes 8 (source (from + k)) in
      ap (λ o. be_at (entries_in source target from n) o 8) (sym (add-zero (16 * k)))
      ∙ entry_at n k 0 h l (omega arith)
      ∙ be_at-left (be_bytes 8 (source (from + k))) (be_bytes 8 (target (from + k))) 0 8 (omega arith)
      ∙ be_at-be_bytes 8 (source (from + k)) b

  pub entry-target : (n k : ℕ) → k < n → n ≤ 32 → target (from + k) < 256 ^ 8 → be_at (entries_in source target from n) (16 * k + 8) 8 ≡ target (from + k)
  entry-target n k h l b =
      entry_at n k 8 h l (omega arith)
      ∙ be_at-right (be_bytes 8 (source (from + k))) (be_bytes 8 (target (from + k))) 8 0 8 (length-be_bytes 8 (source (from + k)))
      ∙ be_at-be_bytes 8 (target (from + k)) b

-- entry k of n, read back from the sector that holds it
module _ (source target : ℕ → ℕ) (n k : ℕ) (h : k < n) where
  place : 32 * (k / 32) + k % 32 ≡ k
  place = omega arith

  pub packed-source : source k < 256 ^ 8 → be_at (journal_sector source target n (k / 32)) (16 * (k % 32)) 8 ≡ source k
  unfolding journal_sector
  packed-source b =
      entry-source source target (32 * (k / 32)) (min 32 (n - 32 * (k / 32))) (k % 32) (omega arith) (omega arith) (rw place b) ∙ ap source place

  pub packed-target : target k < 256 ^ 8 → be_at (journal_sector source target n (k / 32)) (16 * (k % 32) + 8) 8 ≡ target k
  unfolding journal_sector
  packed-target b =
      entry-target source target (32 * (k / 32)) (min 32 (n - 32 * (k / 32))) (k % 32) (omega arith) (omega arith) (rw place b) ∙ ap target place

-- ---- targets in rising order

abbrev pub Rising : ℕ → Group → Type 0
Rising a [] = Unit {0}
Rising a (w ∷ ws) = (a ≤ w.sector) × Rising (suc w.sector) ws

pub rising-from : (ws : Group) (a k : ℕ) (z : Record) → Rising a ws → k < length ws → a ≤ (get_or ws k z).sector
rising-from [] a k z h l = absurd (not-suc-le-zero l)
rising-from (w ∷ ws) a zero z h l = h.0
rising-from (w ∷ ws) a (suc k) z h l =
    let q : suc w.sector ≤ (get_or ws k z).sector = rising-from ws (suc w.sector) k z h.1 (omega arith) in
    omega (arith, h.0)

pub rising-lt : (ws : Group) (a j k : ℕ) (z : Record) → Rising a ws → j < k → k < length ws → (get_or ws j z).sector < (get_or ws k z).sector
rising-lt [] a j k z h l r = absurd (not-suc-le-zero r)
rising-lt (w ∷ ws) a j zero z h l r = absurd (not-suc-le-zero l)
rising-lt (w ∷ ws) a zero (suc k) z h l r = rising-from ws (suc w.sector) k z h.1 (omega arith)
rising-lt (w ∷ ws) a (suc j) (suc k) z h l r = rising-lt ws (suc w.sector) j k z h.1 (omega arith) (omega arith)

-- the record for sector t
unfoldable pub picked : Group → ℕ → Group
picked [] t = []
picked (w ∷ ws) t = cond (eqb w.sector t) (w ∷ []) (picked ws t)

picked-miss : (ws : Group) (a t : ℕ) → Rising a ws → t < a → picked ws t ≡ []
unfolding picked
picked-miss [] a t h l = refl
picked-miss (w ∷ ws) a t h l =
    let q : a ≤ w.sector = h.0 in
    ap (λ (b : Bool). cond b (w ∷ []) (picked ws t)) (ne_eqb w.sector t (λ e. omega arith)) ∙ picked-miss ws (suc w.sector) t h.1 (omega arith)

picked-skip : (w : Record) (ws : Group) (t : ℕ) → w.sector ≢ t → picked (w ∷ ws) t ≡ picked ws t
unfolding picked
picked-skip w ws t ne = ap (λ (b : Bool). cond b (w ∷ []) (picked ws t)) (ne_eqb w.sector t ne)

pub concatenated-picked : (n a : ℕ) (ws : Group) → Rising a ws → All (λ w. w.sector < a + n) ws → concatenated (picked ws) a n ≡ ws
unfolding concatenated picked
concatenated-picked zero a [] r h = refl
concatenated-picked zero a (w ∷ ws) r h = absurd (let p : a ≤ w.sector = r.0 in let q : w.sector < a + 0 = h.0 in omega arith)
concatenated-picked (suc n) a [] r h = concatenated-front (picked []) a n ∙ concatenated-picked n (suc a) [] tt tt
concatenated-picked (suc n) a (w ∷ ws) r h = concatenated-front (picked (w ∷ ws)) a n ∙ go (eqb w.sector a) refl (concatenated-picked n (suc a) ws) (concatenated-picked n (suc a) (w ∷ ws))
  where
    go : (b : Bool) → eqb w.sector a ≡ b
        → (Rising (suc a) ws → All (λ v. v.sector < suc a + n) ws → concatenated (picked ws) (suc a) n ≡ ws)
        → (Rising (suc a) (w ∷ ws) → All (λ v. v.sector < suc a + n) (w ∷ ws) → concatenated (picked (w ∷ ws)) (suc a) n ≡ w ∷ ws)
        → cond (eqb w.sector a) (w ∷ []) (picked ws a) ++ concatenated (picked (w ∷ ws)) (suc a) n ≡ w ∷ ws
    go true e f g =
        let q : w.sector ≡ a = eqb-true w.sector a e in
        ap₂ (λ x y. x ++ y) (ap (λ (b : Bool). cond b (w ∷ []) (picked ws a)) e)
        (concatenated-ext (picked (w ∷ ws)) (picked ws) (suc a) n (λ t u v. picked-skip w ws t (λ z. omega arith))
        ∙ f (rw q at r.1) (all_map (λ v. v.sector < a + suc n) (λ v. v.sector < suc a + n) (λ v l. omega arith) ws h.1))
    go false e f g =
        let q : a ≤ w.sector = r.0 in
        let ne : w.sector ≢ a = eqb-false w.sector a e in
        let lt : a < w.sector = omega arith in
        ap₂ (λ x y. x ++ y) (ap (λ (b : Bool). cond b (w ∷ []) (picked ws a)) e ∙ picked-miss ws (suc w.sector) a r.1 (omega arith))
        (g (lt, r.1) (all_map (λ v. v.sector < a + suc n) (λ v. v.sector < suc a + n) (λ v l. omega arith) (w ∷ ws) h))

-- ---- what recovery makes of sector t, from entries that tell of ws

pub write-path : (s : ℕ) (c : List ℕ) (w : Record) → s ≡ w.sector → c ≡ w.contents → sector_write s c ≡ w
write-path s c w e f = λ i. record { sector = e i; contents = f i }

abbrev pub made : Disk → (ℕ → ℕ) → ℕ → Lowest → Group
made d source t k = cond (is_at k) (sector_write t (d (source (index_of k))) ∷ []) []

module _ (d : Disk) (source target : ℕ → ℕ) (t : ℕ) where
  made-case : (b : Bool) (i : ℕ) (w : Record) (ws : Group) (rest : Lowest) → eqb w.sector t ≡ b → d (source i) ≡ w.contents
      → made d source t rest ≡ picked ws t → made d source t (cond b (Some i) rest) ≡ cond b (w ∷ []) (picked ws t)
  made-case true i w ws rest e c h = ap (λ (r : Record). r ∷ []) (write-path t (d (source i)) w (sym (eqb-true w.sector t e)) c)
  made-case false i w ws rest e c h = h

  pub made-picked : (ws : Group) (i : ℕ) → ((k : ℕ) → k < length ws → target (i + k) ≡ (get_or ws k barrier).sector)
      → ((k : ℕ) → k < length ws → d (source (i + k)) ≡ (get_or ws k barrier).contents)
      → made d source t (scan (λ k. eqb (target k) t) (length ws) i) ≡ picked ws t
  unfolding scan picked
  made-picked [] i p q = refl
  made-picked (w ∷ ws) i p q =
      let e : target i ≡ w.sector = rw (add-zero i) at (p 0 (omega arith)) in
      let c : d (source i) ≡ w.contents = rw (add-zero i) at (q 0 (omega arith)) in
      let rest = scan (λ k. eqb (target k) t) (length ws) (suc i) in
      let ih : made d source t rest ≡ picked ws t =
      made-picked ws (suc i)
      (λ k l. let f : suc i + k ≡ i + suc k = omega arith in ap target f ∙ p (suc k) (omega arith))
      (λ k l. let f : suc i + k ≡ i + suc k = omega arith in ap (λ x. d (source x)) f ∙ q (suc k) (omega arith)) in
      ap (λ x. made d source t (cond (eqb x t) (Some i) rest)) e ∙ made-case (eqb w.sector t) i w ws rest refl c ih
