-- The table sector that a write changes where it takes an extent: it says afterwards that the extent is file i's, and of all others what
-- it said. Assumes nothing.
use Prim.Native.Nat.{ℕ, ◌+◌, ◌/◌, ◌%◌, ◌≤◌, ◌<◌}
use mathlib.Core.Path.{◌≡◌, refl, sym, ap, ap₂, ◌∙◌}
use mathlib.Core.Logic.{◌≢◌}
use mathlib.Core.Bool.{Bool, true, false, cond, not, ◌&&◌}
use mathlib.Core.List.{List}
use mathlib.Core.Option.{none}
use native.Mathlib.Omega.{arith}
use native.Mathlib.Nat.{add-zero}
use lib.Dec.{eqb, ltb}
use lib.ListN.{length, length-append}
use borrow.Author.Tests.{eqb-true, eqb-false, eq-eqb, ne_eqb, ltb-true, lt-ltb}
use Rattle.model.specs.Bytes.{Field, number_in, be_at, be_bytes, put}
use Rattle.model.specs.Geometry.{superblock_at}
use Rattle.model.specs.Disk.{view}
use Rattle.model.specs.Superblock.{geometry_in}
use Rattle.model.specs.Table.{free_file, table_field, table_entry_start, table_sector_of, table_file, table_offset, table_entry_bytes, taken_in}
use Rattle.model.specs.Catalogue.{catalogue_of}
use Rattle.model.specs.Ledger.{Ledger, catalogue}
use Rattle.laws.proofs.Bytes.{length-be_bytes, length-put, be_at-put-in, be_at-put-other, be_at-left, be_at-right, be_at-be_bytes}
use Rattle.laws.proofs.Disk.{length-view}
use Rattle.safety.proofs.Rep.{Rep}
use Rattle.safety.proofs.Preserved.{owner_by, owner-is}
use Rattle.safety.proofs.Extents.{owner}

length-entry : (i o : ℕ) → length (table_entry_bytes i o) ≡ 4
length-entry i o = length-append (be_bytes 2 i) (be_bytes 2 o) ∙ ap₂ (λ a b. a + b) (length-be_bytes 2 i) (length-be_bytes 2 o)

pub length-taken_in : (x i o : ℕ) (s : List ℕ) → length (taken_in x i o s) ≡ length s
unfolding taken_in
length-taken_in x i o s = length-put s (table_entry_start x) (table_entry_bytes i o)

-- a field within the four bytes of the entry that starts at a place
record InEntryAt (at : ℕ) (f : Field) : Type 0 where
  pub starts : at ≤ f.offset
  pub ends : f.offset + f.width ≤ at + 4

abbrev InEntry : (ℕ → Field) → Type 0
InEntry f = (at : ℕ) → InEntryAt at (f at)

module _ (x i o : ℕ) (s : List ℕ) (l : length s ≡ 512) where
  taken-file : i < 65536 → number_in (taken_in x i o s) (table_field (table_entry_start x)).file ≡ i
  unfolding taken_in
  taken-file h =
      let e : length (table_entry_bytes i o) ≡ 4 = length-entry i o in
      let a : length (be_bytes 2 i) ≡ 2 = length-be_bytes 2 i in
      ap (λ k. be_at (put s (table_entry_start x) (table_entry_bytes i o)) k 2) (sym (add-zero (table_entry_start x)))
      ∙ be_at-put-in s (table_entry_start x) (table_entry_bytes i o) 0 2 (omega arith) (omega arith) ∙ be_at-left (be_bytes 2 i) (be_bytes 2 o) 0 2 (omega arith) ∙ be_at-be_bytes 2 i h

  taken-offset : o < 65536 → number_in (taken_in x i o s) (table_field (table_entry_start x)).offset ≡ o
  unfolding taken_in
  taken-offset h =
      let e : length (table_entry_bytes i o) ≡ 4 = length-entry i o in
      be_at-put-in s (table_entry_start x) (table_entry_bytes i o) 2 2 (omega arith) (omega arith) ∙ be_at-right (be_bytes 2 i) (be_bytes 2 o) 2 0 2 (length-be_bytes 2 i) ∙ be_at-be_bytes 2 o h

  -- a field of another entry
  taken-other : (f : ℕ → Field) → InEntry f → (e : ℕ) → e / 128 ≡ x / 128 → e ≢ x
      → number_in (taken_in x i o s) (f (table_entry_start e)) ≡ number_in s (f (table_entry_start e))
  unfolding taken_in
  taken-other f within e q ne =
      let m : length (table_entry_bytes i o) ≡ 4 = length-entry i o in
      let z : e % 128 ≢ x % 128 = (λ u. ne (omega arith)) in
      let at : InEntryAt (table_entry_start e) (f (table_entry_start e)) = within (table_entry_start e) in
      be_at-put-other s (table_entry_start x) (table_entry_bytes i o) (f (table_entry_start e)).offset (f (table_entry_start e)).width (λ j u v r t. z (omega arith))

-- ---- the table of an image in which extent x was given to file i, if b

module _ (L : Ledger) (img out : List ℕ) (rep : Rep L img) (eg : geometry_in (view out superblock_at) ≡ L.geometry) (b : Bool) (x i n : ℕ)
    (bound : b ≡ true → x < L.geometry.extents) (few : i < free_file) (small : n < 65536)
    (shows : (e : ℕ) → e < L.geometry.extents
    → view out (table_sector_of L.geometry e) ≡ cond (b && eqb (e / 128) (x / 128)) (taken_in x i n (view img (table_sector_of L.geometry x))) (view img (table_sector_of L.geometry e))) where
  abbrev T : List ℕ
  T = view img (table_sector_of L.geometry x)

  -- the extent that was given
  here : b ≡ true → (catalogue_of (view out)).table x ≡ owner i n
  unfolding table_file table_offset
  here t =
      let s : view out (table_sector_of L.geometry x) ≡ taken_in x i n T =
      shows x (bound t) ∙ ap₂ (λ (p q : Bool). cond (p && q) (taken_in x i n T) T) t (eq-eqb (x / 128) (x / 128) refl) in
      let fi : table_file L.geometry (view out) x ≡ i = ap (λ (v : List ℕ). number_in v (table_field (table_entry_start x)).file) s ∙ taken-file x i n T (length-view img _) (omega arith) in
      let of : table_offset L.geometry (view out) x ≡ n = ap (λ (v : List ℕ). number_in v (table_field (table_entry_start x)).offset) s ∙ taken-offset x i n T (length-view img _) small in
      owner-is L.geometry (view out) (view out) eg eg x ∙ (λ j. owner_by (lt-ltb x L.geometry.extents (bound t) j) (fi j) (of j))
      ∙ ap (λ (q : Bool). cond (not q) (owner i n) none) (ne_eqb i free_file (λ e. omega arith))

  -- a field of another entry
  field-kept : (f : ℕ → Field) → InEntry f → (e : ℕ) → e < L.geometry.extents → (b && eqb e x) ≡ false
      → number_in (view out (table_sector_of L.geometry e)) (f (table_entry_start e)) ≡ number_in (view img (table_sector_of L.geometry e)) (f (table_entry_start e))
  field-kept f within e l t = ap (λ (v : List ℕ). number_in v (f (table_entry_start e))) (shows e l) ∙ go b (eqb (e / 128) (x / 128)) refl t
    where
      go : (p q : Bool) → eqb (e / 128) (x / 128) ≡ q → (p && eqb e x) ≡ false
          → number_in (cond (p && q) (taken_in x i n T) (view img (table_sector_of L.geometry e))) (f (table_entry_start e))
          ≡ number_in (view img (table_sector_of L.geometry e)) (f (table_entry_start e))
      go true true q u =
          let z : e / 128 ≡ x / 128 = eqb-true (e / 128) (x / 128) q in
          taken-other x i n T (length-view img _) f within e z (eqb-false e x u)
          ∙ ap (λ m. number_in (view img m) (f (table_entry_start e))) (let r : table_sector_of L.geometry x ≡ table_sector_of L.geometry e = omega arith in r)
      go true false q u = refl
      go false q v u = refl

  there : (e : ℕ) → (b && eqb e x) ≡ false → (catalogue_of (view out)).table e ≡ (catalogue_of (view img)).table e
  unfolding table_file table_offset
  there e t =
      owner-is L.geometry (view out) (view out) eg eg e ∙ go (ltb e L.geometry.extents) refl
      ∙ sym (owner-is L.geometry (view img) (view img) rep.ready.volume.geometry rep.ready.volume.geometry e)
    where
      go : (q : Bool) → ltb e L.geometry.extents ≡ q
          → owner_by q (table_file L.geometry (view out) e) (table_offset L.geometry (view out) e) ≡ owner_by q (table_file L.geometry (view img) e) (table_offset L.geometry (view img) e)
      go true q =
          let l : e < L.geometry.extents = ltb-true e L.geometry.extents q in
          ap₂ (owner_by true)
          (field-kept (λ at. (table_field at).file) (λ at. record { starts = omega arith; ends = omega arith }) e l t)
          (field-kept (λ at. (table_field at).offset) (λ at. record { starts = omega arith; ends = omega arith }) e l t)
      go false q = refl

  pub table-changed : (e : ℕ) → (catalogue_of (view out)).table e ≡ cond (b && eqb e x) (owner i n) ((catalogue L).table e)
  table-changed e = go b (eqb e x) refl refl
    where
      go : (p q : Bool) → b ≡ p → eqb e x ≡ q → (catalogue_of (view out)).table e ≡ cond (p && q) (owner i n) ((catalogue L).table e)
      go true true t q = ap (catalogue_of (view out)).table (eqb-true e x q) ∙ here t
      go true false t q = there e (ap₂ (λ (u v : Bool). u && v) t q) ∙ rep.says.table e
      go false q t v = there e (ap₂ (λ (u v : Bool). u && v) t v) ∙ rep.says.table e
