-- Freed table sectors as targets: one that is marked, and all of a loop over the table's sectors, by any test of extents. Assumes nothing.
use Prim.Native.Nat.{ℕ, ◌+◌, ◌*◌, ◌≤◌, ◌<◌}
use mathlib.Core.Path.{◌≡◌, sym, ap, ◌∙◌}
use mathlib.Core.Bool.{Bool, true}
use mathlib.Core.List.{List, [], ◌∷◌}
use native.Mathlib.Nat.{zero-add}
use native.Mathlib.Omega.{arith}
use Rattle.model.specs.declared.Geometry.{Geometry}
use Rattle.model.specs.Search.{concatenated, count_below}
use Rattle.model.specs.Geometry.{table_at, table_sectors}
use Rattle.model.specs.Disk.{Disk}
use Rattle.model.specs.Table.{holds_any, sectors_holding}
use Rattle.model.specs.WriteList.{sector_write}
use Rattle.model.specs.Freeing.{freed_sector, freed_sectors}
use Rattle.laws.proofs.Search.{concatenated-more}
use Rattle.laws.proofs.Count.{count_below-le, count_below-mono}
use Rattle.laws.proofs.Freeing.{freed-hit, freed-ext, length-firsts}
use Rattle.commit.specs.Commit.{Added}
use Rattle.commit.proofs.Laws.{added_then}
use Rattle.table.specs.Owned.{is_marked}
use Rattle.freeing.specs.Marked.{marked_sector}

module _ (freed : ℕ → Bool) (g : Geometry) (d : Disk) where
  -- the sector that holds one, by marks of its entries
  pub marked-sector : (marks : List ℕ) (t : ℕ) → holds_any freed t ≡ true → ((k : ℕ) → k < 128 → is_marked marks k ≡ freed (128 * t + k))
      → marked_sector marks g d t ∷ [] ≡ freed_sector freed g d t
  marked-sector marks t held same =
      ap (λ (s : List ℕ). sector_write (table_at g + t) s ∷ []) (freed-ext (is_marked marks) (λ k. freed (128 * t + k)) (d (table_at g + t)) 128 same)
      ∙ sym (freed-hit freed g d t held)

  -- ---- a loop over the table's sectors: t of them passed

  module _ {es numbers₀ list₀ numbers list : List ℕ} {k j : ℕ} where
    pub freed-next : {numbers' list' : List ℕ} {j' : ℕ} (t : ℕ) → Added g es numbers₀ list₀ k (concatenated (freed_sector freed g d) 0 t) numbers list j
        → Added g es numbers list j (freed_sector freed g d t) numbers' list' j'
        → Added g es numbers₀ list₀ k (concatenated (freed_sector freed g d) 0 (t + 1)) numbers' list' j'
    freed-next t a b = rw (concatenated-more (freed_sector freed g d) 0 t, zero-add t) (added_then a b)

    pub freed-room : (t : ℕ) → t ≤ table_sectors g → Added g es numbers₀ list₀ k (concatenated (freed_sector freed g d) 0 t) numbers list j
        → (j ≤ k + sectors_holding freed g) × (j ≤ k + t)
    unfolding sectors_holding
    freed-room t h a =
        let n : j ≡ k + count_below (holds_any freed) t = a.next ∙ ap (λ x. k + x) (length-firsts freed g d t) in
        (omega (arith, count_below-mono (holds_any freed) t (table_sectors g) h), omega (arith, count_below-le (holds_any freed) t))

    -- all of them passed
    pub freed-all : (t : ℕ) → t ≡ table_sectors g → Added g es numbers₀ list₀ k (concatenated (freed_sector freed g d) 0 t) numbers list j
        → Added g es numbers₀ list₀ k (freed_sectors freed g d) numbers list j × (j ≡ k + sectors_holding freed g) × (j ≤ k + table_sectors g)
    unfolding freed_sectors sectors_holding
    freed-all t e a =
        let whole = rw e at a in
        let n : j ≡ k + sectors_holding freed g = whole.next ∙ ap (λ x. k + x) (length-firsts freed g d (table_sectors g)) in
        (whole, n, omega (arith, (freed-room t (omega arith) a).1))
