-- Table sectors in which the extents that a test picks are freed: the records' shape, and that the table says afterwards that these are free
-- and all others whose they were. Assumes nothing.
use Prim.Native.Nat.{ℕ, ◌+◌, ◌*◌, ◌/◌, ◌%◌, ◌≤◌, ◌<◌}
use mathlib.Core.Path.{◌≡◌, refl, sym, ap, ap₂, ◌∙◌}
use mathlib.Core.Logic.{◌≢◌}
use mathlib.Core.Bool.{Bool, true, false, cond}
use mathlib.Core.List.{List}
use mathlib.Core.Option.{Option, none}
use native.Mathlib.Omega.{arith}
use lib.Dec.{ltb}
use borrow.Author.Tests.{ltb-true}
use Rattle.model.specs.declared.Geometry.{Geometry}
use Rattle.model.specs.Bytes.{Field, number_in}
use Rattle.model.specs.Search.{concatenated}
use Rattle.model.specs.Geometry.{superblock_at, table_at, data_at, table_sectors}
use Rattle.model.specs.Disk.{view}
use Rattle.model.specs.Superblock.{geometry_in}
use Rattle.model.specs.Table.{table_field, table_entry_start, table_sector_of, table_file, table_offset, freed_in, holds_any}
use Rattle.model.specs.Catalogue.{Owner, catalogue_of}
use Rattle.model.specs.WriteList.{Group, over, hits}
use Rattle.model.specs.Freeing.{freed_sector, freed_sectors}
use Rattle.laws.proofs.Disk.{length-view}
use Rattle.safety.proofs.Searches.{any_below-none}
use Rattle.safety.proofs.Apply.{All, all-miss}
use Rattle.safety.proofs.Journal.{Rising}
use Rattle.safety.proofs.Plan.{Metadata, Whole, metadata-table}
use Rattle.safety.proofs.Preserved.{owner_by, owner-is}
use Rattle.safety.proofs.FreedSectors.{pick, all-picks, rising-picks, over-picks, length-freed_in, FreedField, freed-file, freed-offset}

module _ (g : Geometry) (img : List ℕ) (p : ℕ → Bool) where
  -- table sector t, in which the extents are freed
  abbrev contents : ℕ → List ℕ
  contents t = freed_in (λ k. p (128 * t + k)) (view img (table_at g + t)) 128

  -- ---- the records

  abbrev pub freed : Group
  freed = freed_sectors p g (view img)

  abbrev T : ℕ
  T = table_sectors g

  freed-is : freed_sectors p g (view img) ≡ concatenated (pick (table_at g) (holds_any p) contents) 0 (table_sectors g)
  unfolding freed_sectors freed_sector
  freed-is = refl

  pub freed-metadata : All (Metadata g) (freed_sectors p g (view img))
  freed-metadata =
      rw freed-is (all-picks (table_at g) (holds_any p) contents (Metadata g) T (λ t q e. metadata-table g (table_at g + t) (omega arith) (omega arith)))

  pub freed-whole : All Whole (freed_sectors p g (view img))
  freed-whole =
      rw freed-is (all-picks (table_at g) (holds_any p) contents Whole T
      (λ t q e. length-freed_in _ (view img (table_at g + t)) 128 ∙ length-view img (table_at g + t)))

  pub freed-rising : (lo : ℕ) → lo ≤ table_at g → Rising lo (freed_sectors p g (view img))
  freed-rising lo h = rw freed-is (rising-picks (table_at g) (holds_any p) contents T 0 lo (omega arith))

  pub freed-miss : (j : ℕ) → (table_at g ≤ j → j < data_at g → ⊥) → hits (freed_sectors p g (view img)) j ≡ false
  freed-miss j h =
      rw freed-is (all-miss j _ (all-picks (table_at g) (holds_any p) contents (λ w. j ≢ w.sector) T (λ t l p e. h (omega arith) (omega arith))))

  -- ---- the table

  module _ (out : List ℕ) (eg : geometry_in (view img superblock_at) ≡ g) (eg' : geometry_in (view out superblock_at) ≡ g)
      (shows : (t : ℕ) → t < table_sectors g → view out (table_at g + t) ≡ over (freed_sectors p g (view img)) (table_at g + t) (view img (table_at g + t))) where
    at_table : (t : ℕ) → t < T → view out (table_at g + t) ≡ cond (holds_any p t) (contents t) (view img (table_at g + t))
    at_table t l =
        shows t l ∙ ap (λ (ws : Group). over ws (table_at g + t) (view img (table_at g + t))) freed-is
        ∙ over-picks (table_at g) (holds_any p) contents T t _ l

    -- a field of a table entry
    field_is : (f : ℕ → Field) → FreedField f → (e : ℕ) → e < g.extents
        → number_in (view out (table_sector_of g e)) (f (table_entry_start e)) ≡ cond (p e) 65535 (number_in (view img (table_sector_of g e)) (f (table_entry_start e)))
    unfolding holds_any
    field_is f law e l =
        let q : 128 * (e / 128) + e % 128 ≡ e = omega arith in
        ap (λ (s : List ℕ). number_in s (f (table_entry_start e))) (at_table (e / 128) (omega arith)) ∙ go (holds_any p (e / 128)) refl
        ∙ ap (λ x. cond (p x) 65535 (number_in (view img (table_sector_of g e)) (f (table_entry_start e)))) q
      where
        go : (t : Bool) → holds_any p (e / 128) ≡ t
            → number_in (cond t (contents (e / 128)) (view img (table_sector_of g e))) (f (table_entry_start e))
            ≡ cond (p (128 * (e / 128) + e % 128)) 65535 (number_in (view img (table_sector_of g e)) (f (table_entry_start e)))
        go true z = law (λ k. p (128 * (e / 128) + k)) (view img (table_sector_of g e)) (e % 128) (omega arith) (length-view img (table_sector_of g e))
        go false z =
            sym (ap (λ (x : Bool). cond x 65535 (number_in (view img (table_sector_of g e)) (f (table_entry_start e))))
            (any_below-none (λ k. p (128 * (e / 128) + k)) 128 z (e % 128) (omega arith)))

    file-is : (e : ℕ) → e < g.extents → table_file g (view out) e ≡ cond (p e) 65535 (table_file g (view img) e)
    unfolding table_file
    file-is = field_is (λ at. (table_field at).file) freed-file

    offset-is : (e : ℕ) → e < g.extents → table_offset g (view out) e ≡ cond (p e) 65535 (table_offset g (view img) e)
    unfolding table_offset
    offset-is = field_is (λ at. (table_field at).offset) freed-offset

    pub table-after : (e : ℕ) → (catalogue_of (view out)).table e ≡ cond (p e) none ((catalogue_of (view img)).table e)
    table-after e =
        owner-is g (view out) (view out) eg' eg' e ∙ go (ltb e g.extents) refl (p e) refl
        ∙ ap (λ (t : Option Owner). cond (p e) none t) (sym (owner-is g (view img) (view img) eg eg e))
      where
        both : (b : Bool) → ◌≡◌ {A = Option Owner} none (cond b none none)
        both true = refl
        both false = refl

        go : (x : Bool) → ltb e g.extents ≡ x → (b : Bool) → p e ≡ b
            → owner_by x (table_file g (view out) e) (table_offset g (view out) e) ≡ cond b none (owner_by x (table_file g (view img) e) (table_offset g (view img) e))
        go false ex b eb = both b
        go true ex true eb =
            let l : e < g.extents = ltb-true e g.extents ex in
            ap (λ f. owner_by true f (table_offset g (view out) e)) (file-is e l ∙ ap (λ (b : Bool). cond b 65535 (table_file g (view img) e)) eb)
        go true ex false eb =
            let l : e < g.extents = ltb-true e g.extents ex in
            ap₂ (λ f o. owner_by true f o) (file-is e l ∙ ap (λ (b : Bool). cond b 65535 (table_file g (view img) e)) eb)
            (offset-is e l ∙ ap (λ (b : Bool). cond b 65535 (table_offset g (view img) e)) eb)
