-- Where a write's data sectors stand, and what they hold where all or some landed: file i's sectors, the taken extent's included, are
-- in the data area, each at a place of its own, none of another file's and none where copies are staged. Assumes nothing.
use Prim.Native.Nat.{ℕ, suc, ◌+◌, ◌*◌, ◌-◌, ◌/◌, ◌%◌, ◌≤◌, ◌<◌}
use mathlib.Core.Path.{◌≡◌, refl, sym, ap, ◌∙◌, subst}
use mathlib.Core.Logic.{◌≢◌}
use mathlib.Core.Bool.{Bool, true, false, cond, ◌&&◌}
use mathlib.Core.List.{List}
use mathlib.Core.Option.{some}
use native.Mathlib.Omega.{arith}
use native.Mathlib.Decide.{dec_lt, dec_le}
use lib.Dec.{eqb, leb, ltb}
use lib.ListN.{length, get_or}
use borrow.Author.Tests.{eqb-true, eq-eqb, ltb-true, ltb-false, lt-ltb}
use Rattle.model.specs.Search.{tabulate, index_of}
use Rattle.model.specs.Geometry.{extent_sectors, extent_at, extents_for, data_at}
use Rattle.model.specs.Disk.{view}
use Rattle.model.specs.Catalogue.{Catalogue, catalogue_of, lacks_reserve, staging_extents, is_part, owned_from, extent_of, sector_of, file_byte, file_bytes}
use Rattle.model.specs.WriteList.{Group, over, hits}
use Rattle.model.specs.Write.{held_extents, file_sector_at, data_sector, touched_sectors, spliced}
use Rattle.model.specs.Cut.{data_by}
use Rattle.model.specs.Ledger.{Ledger, File, catalogue}
use Rattle.laws.proofs.Booleans.{and-false, range-no}
use Rattle.laws.proofs.Search.{first-ext, get_or-tab0}
use Rattle.laws.proofs.Disk.{length-view}
use Rattle.laws.proofs.Staging.{InExtent, one-extent, lowest-below}
use Rattle.safety.proofs.Apply.{All, all-tabulate, all-miss, Own, own-tabulate}
use Rattle.safety.proofs.Plan.{DataSector, Unstaged, Whole}
use Rattle.safety.proofs.Commit.{part_of}
use Rattle.safety.proofs.Rep.{Rep, cat-is}
use Rattle.safety.proofs.Preserved.{free-said, held-unstaged, entry-of, slot-within}
use Rattle.safety.proofs.Replaced.{replaced}
use Rattle.safety.proofs.Extents.{owner, owner-file, owner-offset, free-unowned, extent-owned, extent-inside, none-beyond, sector-held, extent-sector, rest_lt, same-extent, same-sector}
use Rattle.safety.proofs.TakenFile.{first-only, part-old, part-new}
use Rattle.safety.proofs.WriteLedger.{size_written, takes_one, next_extent, Writable, within, held-is, needs, plenty, taken, written_file}
use Rattle.safety.proofs.Spliced.{spliced-at, length-spliced, part-tabulate, part-miss}

-- the data sectors of a write into file i
abbrev pub writes : Ledger → List ℕ → ℕ → ℕ → List ℕ → Group
writes L img i offset bytes = tabulate (data_sector (catalogue L) i (view img) offset bytes) (offset / 512) (touched_sectors offset (length bytes))

module _ (L : Ledger) (img : List ℕ) (rep : Rep L img) (i : ℕ) (f : File) (offset : ℕ) (bytes : List ℕ) (w : Writable L i f offset bytes) where
  abbrev z : ℕ
  z = size_written L i offset bytes

  abbrev b : Bool
  b = takes_one L i offset bytes

  abbrev x : ℕ
  x = next_extent L

  abbrev n : ℕ
  n = length f.extents

  abbrev S : ℕ
  S = extent_sectors L.geometry

  -- the extent of offset o, and that of file sector s
  abbrev ext : ℕ → ℕ
  ext o = cond (ltb o (held_extents (catalogue L) i)) (extent_of (catalogue L) i o) (next_extent L)

  abbrev Held : ℕ → Type 0
  Held o = o < extents_for L.geometry (size_written L i offset bytes)

  place_is : (s : ℕ) → file_sector_at (catalogue L) i s ≡ extent_at L.geometry (ext (s / S)) + s % S
  unfolding file_sector_at catalogue
  place_is s = refl

  -- an extent that the file had, or the one that is taken
  by-extent : (P : ℕ → ℕ → Type 0) → ((o : ℕ) → o < n → P o (extent_of (catalogue L) i o)) → (b ≡ true → P n x) → (o : ℕ) → Held o → P o (ext o)
  by-extent P old new o h = go (ltb o (held_extents (catalogue L) i)) refl b refl (subst (λ (m : ℕ). o < m) (needs L img rep i f offset bytes w) h)
    where
      go : (t : Bool) → ltb o (held_extents (catalogue L) i) ≡ t → (q : Bool) → b ≡ q → o < cond q (suc n) n → P o (cond t (extent_of (catalogue L) i o) x)
      go true e q y l = old o (let u : o < held_extents (catalogue L) i = ltb-true _ _ e in let v : held_extents (catalogue L) i ≡ n = held-is L img rep i f offset bytes w in omega arith)
      go false e true y l =
          let u : held_extents (catalogue L) i ≤ o = ltb-false _ _ e in
          let v : held_extents (catalogue L) i ≡ n = held-is L img rep i f offset bytes w in
          subst (λ (m : ℕ). P m x) (let r : n ≡ o = omega arith in r) (new y)
      go false e false y l =
          let u : held_extents (catalogue L) i ≤ o = ltb-false _ _ e in
          let v : held_extents (catalogue L) i ≡ n = held-is L img rep i f offset bytes w in
          absurd (omega arith)

  owned : (o : ℕ) → o < n → (catalogue L).table (extent_of (catalogue L) i o) ≡ owner i o
  unfolding catalogue
  owned o l =
      let s : n ≡ extents_for L.geometry f.entry.size = rep.sized i f w.has in
      extent-owned (catalogue L) rep.faultless i f.entry (within L img rep i f offset bytes w) (entry-of L img rep i f w.has) o (omega arith)

  old-inside : (o : ℕ) → o < n → extent_of (catalogue L) i o < L.geometry.extents
  unfolding catalogue
  old-inside o l =
      let s : n ≡ extents_for L.geometry f.entry.size = rep.sized i f w.has in
      extent-inside (catalogue L) rep.faultless i f.entry (within L img rep i f offset bytes w) (entry-of L img rep i f w.has) o (omega arith)

  ext-inside : (o : ℕ) → Held o → ext o < L.geometry.extents
  ext-inside = by-extent (λ o e. e < L.geometry.extents) old-inside (λ t. (taken L img rep i f offset bytes w t).0)

  -- "one that the call itself allocates is never among them": it is below them all
  taken-unstaged : lacks_reserve (catalogue L) ≡ false → b ≡ true → (j : ℕ) → InExtent L.geometry x j → Unstaged L.geometry (catalogue L) j
  unfolding catalogue
  taken-unstaged there t j h k l s =
      let e = one-extent L.geometry (get_or (staging_extents (catalogue L)) k 0) x j s h in
      omega (arith, lowest-below (catalogue L) there (plenty L img rep i f offset bytes w t) k l)

  ext-unstaged : lacks_reserve (catalogue L) ≡ false → (o : ℕ) → Held o → (j : ℕ) → InExtent L.geometry (ext o) j → Unstaged L.geometry (catalogue_of (view img)) j
  ext-unstaged there =
      by-extent (λ o e. (j : ℕ) → InExtent L.geometry e j → Unstaged L.geometry (catalogue_of (view img)) j)
      (λ o l j. held-unstaged L img rep (catalogue_of (view img)) (free-said L img rep) (extent_of (catalogue L) i o) i o j (owned o l))
      (λ t j h. subst (λ (c : Catalogue). Unstaged L.geometry c j) (sym (cat-is L img rep)) (taken-unstaged there t j h))

  -- two offsets have two extents
  ext-apart : (o p : ℕ) → Held o → Held p → ext o ≡ ext p → o ≡ p
  ext-apart o p h k =
      by-extent (λ o e. e ≡ ext p → o ≡ p)
      (λ o l. by-extent (λ p d. extent_of (catalogue L) i o ≡ d → o ≡ p)
      (λ p m e. owner-offset _ i i o p (owned o l) (ap (catalogue L).table e ∙ owned p m))
      (λ t e. absurd (free-unowned ((catalogue L).table x) i o (taken L img rep i f offset bytes w t).1 (ap (catalogue L).table (sym e) ∙ owned o l))) p k)
      (λ t. by-extent (λ p d. x ≡ d → n ≡ p)
      (λ p m e. absurd (free-unowned ((catalogue L).table x) i p (taken L img rep i f offset bytes w t).1 (ap (catalogue L).table e ∙ owned p m)))
      (λ u e. refl) p k) o h

  -- ---- places

  pub place-data : (s : ℕ) → s / extent_sectors L.geometry < extents_for L.geometry (size_written L i offset bytes) → DataSector L.geometry (file_sector_at (catalogue L) i s)
  place-data s h = rw (place_is s) (extent-sector L.geometry rep.bounded (ext (s / S)) (s % S) (ext-inside (s / S) h) (rest_lt L.geometry rep.bounded s))

  pub place-unstaged : lacks_reserve (catalogue L) ≡ false → (s : ℕ) → s / extent_sectors L.geometry < extents_for L.geometry (size_written L i offset bytes)
      → Unstaged L.geometry (catalogue_of (view img)) (file_sector_at (catalogue L) i s)
  place-unstaged there s h = rw (place_is s) (ext-unstaged there (s / S) h _ (omega arith, omega (arith, rest_lt L.geometry rep.bounded s)))

  pub place-apart : (s t : ℕ) → s / extent_sectors L.geometry < extents_for L.geometry (size_written L i offset bytes)
      → t / extent_sectors L.geometry < extents_for L.geometry (size_written L i offset bytes) → file_sector_at (catalogue L) i s ≡ file_sector_at (catalogue L) i t → s ≡ t
  place-apart s t h k e =
      let q = same-extent L.geometry rep.bounded (ext (s / S)) (ext (t / S)) s t (sym (place_is s) ∙ e ∙ place_is t) in
      same-sector L.geometry rep.bounded s t (ext-apart (s / S) (t / S) h k q.0) q.1

  -- another file's sector
  pub place_other : (k : ℕ) (y : File) (s t : ℕ) → k ≢ i → L.slots k ≡ some y → 512 * s < y.entry.size
      → t / extent_sectors L.geometry < extents_for L.geometry (size_written L i offset bytes) → sector_of (catalogue L) k s ≢ file_sector_at (catalogue L) i t
  unfolding sector_of catalogue
  place_other k y s t ne has l h e =
      by-extent (λ o d. extent_of (catalogue L) k (s / S) ≡ d → ⊥)
      (λ o m q. ne (owner-file _ k i (s / S) o theirs (ap (catalogue L).table q ∙ owned o m)))
      (λ u q. free-unowned ((catalogue L).table x) k (s / S) (taken L img rep i f offset bytes w u).1 (ap (catalogue L).table (sym q) ∙ theirs))
      (t / S) h (same-extent L.geometry rep.bounded (extent_of (catalogue L) k (s / S)) (ext (t / S)) s t (e ∙ place_is t)).0
    where
      theirs : (catalogue L).table (extent_of (catalogue L) k (s / S)) ≡ owner k (s / S)
      theirs =
          extent-owned (catalogue L) rep.faultless k y.entry (slot-within L img rep k y has) (entry-of L img rep k y has) (s / S)
          (sector-held L.geometry rep.bounded y.entry.size s l)

  -- the file's own, before and after
  pub sector-old : (s : ℕ) → s / extent_sectors L.geometry < length f.extents → sector_of (catalogue L) i s ≡ file_sector_at (catalogue L) i s
  unfolding sector_of file_sector_at catalogue
  sector-old s l =
      ap (λ (t : Bool). extent_at L.geometry (cond t (extent_of (catalogue L) i (s / S)) x) + s % S)
      (sym (lt-ltb (s / S) (held_extents (catalogue L) i) (let v : held_extents (catalogue L) i ≡ n = held-is L img rep i f offset bytes w in omega arith)))

  module _ (time : ℕ) where
    abbrev M : Ledger
    M = replaced L L.root i (some (written_file L i f offset bytes time))

    extent-new : (o : ℕ) → Held o → extent_of (catalogue M) i o ≡ ext o
    unfolding extent_of catalogue
    extent-new =
        by-extent (λ o e. extent_of (catalogue M) i o ≡ e)
        (λ o l. ap index_of (first-ext (λ e. is_part i o ((catalogue M).table e)) (λ e. is_part i o ((catalogue L).table e)) L.geometry.extents
        (λ e u. part-old L L.root i f w.has here rep.disjoint b x (λ t. (taken L img rep i f offset bytes w t).1) y refl o e l)))
        (λ t. ap index_of (first-only (λ e. is_part i n ((catalogue M).table e)) L.geometry.extents x (taken L img rep i f offset bytes w t).0
        (new t x (taken L img rep i f offset bytes w t).0 ∙ eq-eqb x x refl) (λ e u q. eqb-true e x (sym (new t e u) ∙ q))))
      where
        y : File
        y = written_file L i f offset bytes time

        here : i < L.geometry.files
        here = within L img rep i f offset bytes w

        new : b ≡ true → (e : ℕ) → e < L.geometry.extents → is_part i n ((catalogue M).table e) ≡ eqb e x
        new t e u =
            part-new L L.root i f w.has here rep.disjoint b x (λ t. (taken L img rep i f offset bytes w t).1) y refl e t
            (ap (λ m. owned_from i m ((catalogue L).table e)) (rep.sized i f w.has) ∙ none-beyond (catalogue L) rep.faultless i f.entry here (entry-of L img rep i f w.has) e (omega arith))

    pub sector-new : (s : ℕ) → s / extent_sectors L.geometry < extents_for L.geometry (size_written L i offset bytes) → sector_of (catalogue M) i s ≡ file_sector_at (catalogue L) i s
    unfolding sector_of catalogue
    sector-new s h = ap (λ e. extent_at L.geometry e + s % S) (extent-new (s / S) h) ∙ sym (place_is s)

  -- ---- the data sectors

  abbrev ds : Group
  ds = writes L img i offset bytes

  abbrev t : ℕ
  t = touched_sectors offset (length bytes)

  touched-held : (j : ℕ) → j < t → Held ((offset / 512 + j) / S)
  touched-held j l = sector-held L.geometry rep.bounded z (offset / 512 + j) (omega arith)

  -- no two of them are for one sector
  touched-apart : (j k : ℕ) → j < touched_sectors offset (length bytes) → k < touched_sectors offset (length bytes)
      → file_sector_at (catalogue L) i (offset / 512 + j) ≡ file_sector_at (catalogue L) i (offset / 512 + k) → j ≡ k
  touched-apart j k l m e =
      let d : offset / 512 + j ≡ offset / 512 + k = place-apart (offset / 512 + j) (offset / 512 + k) (touched-held j l) (touched-held k m) e in
      omega arith

  pub writes-data : All (λ r. DataSector L.geometry r.sector) (writes L img i offset bytes)
  unfolding data_sector
  writes-data =
      all-tabulate (λ r. DataSector L.geometry r.sector) (data_sector (catalogue L) i (view img) offset bytes) (offset / 512) t
      (λ k l. place-data (offset / 512 + k) (touched-held k l))

  pub writes-unstaged : lacks_reserve (catalogue L) ≡ false → All (λ r. Unstaged L.geometry (catalogue_of (view img)) r.sector) (writes L img i offset bytes)
  unfolding data_sector
  writes-unstaged there =
      all-tabulate (λ r. Unstaged L.geometry (catalogue_of (view img)) r.sector) (data_sector (catalogue L) i (view img) offset bytes) (offset / 512) t
      (λ k l. place-unstaged there (offset / 512 + k) (touched-held k l))

  pub writes-own : Own (writes L img i offset bytes)
  unfolding data_sector
  writes-own = own-tabulate (data_sector (catalogue L) i (view img) offset bytes) (offset / 512) t touched-apart

  pub writes-whole : All Whole (writes L img i offset bytes)
  unfolding data_sector
  writes-whole =
      all-tabulate Whole (data_sector (catalogue L) i (view img) offset bytes) (offset / 512) t
      (λ k l. length-spliced offset bytes (offset / 512 + k) (view img (file_sector_at (catalogue L) i (offset / 512 + k))) ∙ length-view img (file_sector_at (catalogue L) i (offset / 512 + k)))

  -- a sector that is none of the file's
  pub writes-miss : (j : ℕ) → ((s : ℕ) → s / extent_sectors L.geometry < extents_for L.geometry (size_written L i offset bytes) → j ≢ file_sector_at (catalogue L) i s)
      → hits (writes L img i offset bytes) j ≡ false
  unfolding data_sector
  writes-miss j h =
      all-miss j ds (all-tabulate (λ r. j ≢ r.sector) (data_sector (catalogue L) i (view img) offset bytes) (offset / 512) t (λ k l. h (offset / 512 + k) (touched-held k l)))

  pub low-miss : (j : ℕ) → j < data_at L.geometry → hits (writes L img i offset bytes) j ≡ false
  low-miss j l = writes-miss j (λ s h e. let q = place-data s h in omega (arith, q.0))

  at-touched : (k : ℕ) (m : List Bool) (s : ℕ) (v : List ℕ) → offset / 512 ≤ s → s - offset / 512 < t
      → over (part_of k m ds) (file_sector_at (catalogue L) i s) v ≡ cond (data_by k m (s - offset / 512)) (spliced offset bytes s (view img (file_sector_at (catalogue L) i s))) v
  unfolding data_sector
  at-touched k m s v p q =
      let e : offset / 512 + (s - offset / 512) ≡ s = omega arith in
      subst (λ (u : ℕ). over (part_of k m ds) (file_sector_at (catalogue L) i u) v ≡ cond (data_by k m (s - offset / 512)) (spliced offset bytes u (view img (file_sector_at (catalogue L) i u))) v) e
      (part-tabulate k m (data_sector (catalogue L) i (view img) offset bytes) (offset / 512) t (s - offset / 512) v touched-apart q)

  at-missed : (k : ℕ) (m : List Bool) (s : ℕ) (v : List ℕ) → Held (s / S) → (offset / 512 ≤ s → s - offset / 512 < t → ⊥) → over (part_of k m ds) (file_sector_at (catalogue L) i s) v ≡ v
  unfolding data_sector
  at-missed k m s v h out =
      part-miss k m ds (file_sector_at (catalogue L) i s) v
      (all-miss (file_sector_at (catalogue L) i s) ds (all-tabulate (λ r. file_sector_at (catalogue L) i s ≢ r.sector) (data_sector (catalogue L) i (view img) offset bytes) (offset / 512) t
      (λ j l e. let q : s ≡ offset / 512 + j = place-apart s (offset / 512 + j) h (touched-held j l) e in out (omega arith) (omega arith))))

  -- BYTE j OF FILE SECTOR s where a part landed: new if the span has it and its sector landed, else old
  pub landed-byte : (k : ℕ) (m : List Bool) (s j : ℕ) → s / extent_sectors L.geometry < extents_for L.geometry (size_written L i offset bytes) → j < 512
      → get_or (over (part_of k m (writes L img i offset bytes)) (file_sector_at (catalogue L) i s) (view img (file_sector_at (catalogue L) i s))) j 0
      ≡ cond (leb offset (512 * s + j) && ltb (512 * s + j) (offset + length bytes) && data_by k m (s - offset / 512)) (get_or bytes (512 * s + j - offset) 0)
      (get_or (view img (file_sector_at (catalogue L) i s)) j 0)
  landed-byte k m s j h l = go (dec_le (offset / 512) s) (dec_lt (s - offset / 512) t)
    where
      old : List ℕ
      old = view img (file_sector_at (catalogue L) i s)

      inside : Bool
      inside = leb offset (512 * s + j) && ltb (512 * s + j) (offset + length bytes)

      hit : (v : Bool) → get_or (cond v (spliced offset bytes s old) old) j 0 ≡ cond (inside && v) (get_or bytes (512 * s + j - offset) 0) (get_or old j 0)
      hit true = spliced-at offset bytes s old j (length-view img _) l ∙ ap (λ (q : Bool). cond q (get_or bytes (512 * s + j - offset) 0) (get_or old j 0)) (all inside)
        where
          all : (q : Bool) → q ≡ (q && true)
          all true = refl
          all false = refl
      hit false = sym (ap (λ (q : Bool). cond q (get_or bytes (512 * s + j - offset) 0) (get_or old j 0)) (and-false inside))

      missed : (offset / 512 ≤ s → s - offset / 512 < t → ⊥)
          → get_or (over (part_of k m ds) (file_sector_at (catalogue L) i s) old) j 0 ≡ cond (inside && data_by k m (s - offset / 512)) (get_or bytes (512 * s + j - offset) 0) (get_or old j 0)
      missed out =
          ap (λ (v : List ℕ). get_or v j 0) (at-missed k m s old h out)
          ∙ sym (ap (λ (q : Bool). cond (q && data_by k m (s - offset / 512)) (get_or bytes (512 * s + j - offset) 0) (get_or old j 0))
          (range-no offset (offset + length bytes) (512 * s + j) (λ p q. out (omega arith) (omega arith))))

      go : Dec (offset / 512 ≤ s) → Dec (s - offset / 512 < t)
          → get_or (over (part_of k m ds) (file_sector_at (catalogue L) i s) old) j 0 ≡ cond (inside && data_by k m (s - offset / 512)) (get_or bytes (512 * s + j - offset) 0) (get_or old j 0)
      go (yes p) (yes q) = ap (λ (v : List ℕ). get_or v j 0) (at-touched k m s old p q) ∙ hit (data_by k m (s - offset / 512))
      go (yes p) (no q) = missed (λ u v. q v)
      go (no p) q = missed (λ u v. p u)

  -- ---- the file's bytes

  old-byte : (q : ℕ) → q < f.entry.size → get_or (view img (file_sector_at (catalogue L) i (q / 512))) (q % 512) 0 ≡ get_or f.bytes q 0
  unfolding file_bytes file_byte
  old-byte q l =
      let s : n ≡ extents_for L.geometry f.entry.size = rep.sized i f w.has in
      let h : q / 512 / S < extents_for L.geometry f.entry.size = sector-held L.geometry rep.bounded f.entry.size (q / 512) (omega arith) in
      ap (λ k. get_or (view img k) (q % 512) 0) (sym (sector-old (q / 512) (omega arith)))
      ∙ sym (get_or-tab0 (λ k. get_or (view img (sector_of (catalogue L) i (k / 512))) (k % 512) 0) f.entry.size q 0 l)
      ∙ ap (λ (c : Catalogue). get_or (file_bytes c (view img) i 0 f.entry.size) q 0) (sym (cat-is L img rep)) ∙ ap (λ (v : List ℕ). get_or v q 0) (rep.says.bytes i f w.has)

  -- byte q of the file where a part landed, if it is below the old size or was written
  pub byte-landed : (k : ℕ) (m : List Bool) (q : ℕ) → q < size_written L i offset bytes
      → ((leb offset q && ltb q (offset + length bytes) && data_by k m (q / 512 - offset / 512)) ≡ false → q < f.entry.size)
      → get_or (over (part_of k m (writes L img i offset bytes)) (file_sector_at (catalogue L) i (q / 512)) (view img (file_sector_at (catalogue L) i (q / 512)))) (q % 512) 0
      ≡ cond (leb offset q && ltb q (offset + length bytes) && data_by k m (q / 512 - offset / 512)) (get_or bytes (q - offset) 0) (get_or f.bytes q 0)
  byte-landed k m q l low =
      let e : 512 * (q / 512) + q % 512 ≡ q = omega arith in
      landed-byte k m (q / 512) (q % 512) (sector-held L.geometry rep.bounded z (q / 512) (omega arith)) (omega arith)
      ∙ ap (λ p. cond (leb offset p && ltb p (offset + length bytes) && data_by k m (q / 512 - offset / 512)) (get_or bytes (p - offset) 0)
      (get_or (view img (file_sector_at (catalogue L) i (q / 512))) (q % 512) 0)) e
      ∙ go (leb offset q && ltb q (offset + length bytes) && data_by k m (q / 512 - offset / 512)) low
    where
      go : (v : Bool) → (v ≡ false → q < f.entry.size)
          → cond v (get_or bytes (q - offset) 0) (get_or (view img (file_sector_at (catalogue L) i (q / 512))) (q % 512) 0) ≡ cond v (get_or bytes (q - offset) 0) (get_or f.bytes q 0)
      go true r = refl
      go false r = old-byte q (r refl)
