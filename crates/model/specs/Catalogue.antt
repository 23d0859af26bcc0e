-- What a volume says, apart from its files' bytes: the geometry, the root, each directory entry, each table entry. What a call
-- decides is a function of this, so that a disk and the ledger can be asked the same question.
use Rattle.std.specs.Prelude.{ℕ, ◌+◌, ◌-◌, ◌/◌, ◌%◌, Bool, true, false, cond, not, ◌&&◌, List, [], ◌∷◌, eqb, leb, ltb, length, get_or, drop}
use Rattle.std.proofs.Math.Option.{Option, none, some}
use Rattle.model.specs.declared.Geometry.{Geometry}
use Rattle.model.specs.Search.{Lowest, first, tabulate, concatenated, index_of, equal_bytes}
use Rattle.model.specs.Geometry.{SectorNumber, ExtentNumber, FileNumber, extent_sectors, reserve_extents, superblock_at, root_at, entry_at, extent_at}
use Rattle.model.specs.Disk.{Disk}
use Rattle.model.specs.Superblock.{geometry_in}
use Rattle.model.specs.Root.{Root, root_in}
use Rattle.model.specs.Entry.{Entry, entry_in, is_occupied}
use Rattle.model.specs.Table.{free_file, table_file, table_offset}

-- whose an extent is, and which of the file's extents
pub record Owner : Type 0 where
  pub file : FileNumber
  pub offset : ℕ

pub record Catalogue : Type 0 where
  pub geometry : Geometry
  pub root : Root
  pub entries : FileNumber → Option Entry
  pub table : ExtentNumber → Option Owner

-- a disk's: nothing stands past the directory's and the table's end; "unused bytes, a free table entry's offset and table
-- padding are not judged"
unfoldable pub catalogue_of : Disk → Catalogue
catalogue_of d =
    let g = geometry_in (d superblock_at) in
    record {
      geometry = g;
      root = root_in g.edition (d root_at);
      entries = λ i. cond (ltb i g.files && is_occupied (d (entry_at i))) (some (entry_in g.edition (d (entry_at i)))) none;
      table = λ e.
          cond (ltb e g.extents && not (eqb (table_file g d e) free_file))
          (some (record { file = table_file g d e; offset = table_offset g d e })) none;
    }

-- ---- tests of one entry, of one table entry

abbrev pub is_free {ℓ} : {A : Type ℓ} → Option A → Bool
is_free none = true
is_free (some a) = false

abbrev pub has_name : List ℕ → Option Entry → Bool
has_name n none = false
has_name n (some e) = equal_bytes e.name n

abbrev pub has_id : ℕ → Option Entry → Bool
has_id n none = false
has_id n (some e) = eqb e.id n

-- file i's, of offset o; file i's, of offset o or more
abbrev pub is_part : FileNumber → ℕ → Option Owner → Bool
is_part i o none = false
is_part i o (some w) = eqb w.file i && eqb w.offset o

abbrev pub owned_from : FileNumber → ℕ → Option Owner → Bool
owned_from i o none = false
owned_from i o (some w) = eqb w.file i && leb o w.offset

abbrev pub no_entry : Entry
no_entry = record { size = 0; version = 0; id = 0; mode = 0; access_time = 0; change_time = 0; name = [] }

abbrev pub entry_or : Option Entry → Entry
entry_or none = no_entry
entry_or (some e) = e

module _ (c : Catalogue) where
  -- the file of that name; the lowest free entry; the lowest free extent
  unfoldable pub file_named : List ℕ → Lowest
  file_named n = first (λ i. has_name n (c.entries i)) c.geometry.files

  unfoldable pub free_entry : Lowest
  free_entry = first (λ i. is_free (c.entries i)) c.geometry.files

  unfoldable pub free_extent : Lowest
  free_extent = first (λ e. is_free (c.table e)) c.geometry.extents

  -- the free extents below extent n, in rising order; all of them
  unfoldable pub free_below : ℕ → List ExtentNumber
  free_below n = concatenated (λ e. cond (is_free (c.table e)) (e ∷ []) []) 0 n

  abbrev pub free_extents : List ExtentNumber
  free_extents = free_below c.geometry.extents

  -- T-12: "at least K extents must stay free": fewer are; "the K highest extents free .., in rising order"
  unfoldable pub lacks_reserve : Bool
  lacks_reserve = ltb (length free_extents) (reserve_extents c.geometry)

  unfoldable pub staging_extents : List ExtentNumber
  staging_extents = drop (length free_extents - reserve_extents c.geometry) free_extents

  -- what entry i says; where it is free, nothing but zeros
  unfoldable pub entry_of : FileNumber → Entry
  entry_of i = entry_or (c.entries i)

  -- file i's extent of offset o; where the file's sector s stands
  unfoldable pub extent_of : FileNumber → ℕ → ExtentNumber
  extent_of i o = index_of (first (λ e. is_part i o (c.table e)) c.geometry.extents)

  unfoldable pub sector_of : FileNumber → ℕ → SectorNumber
  sector_of i s = extent_at c.geometry (extent_of i (s / extent_sectors c.geometry)) + s % extent_sectors c.geometry

  -- extent e is file i's, of offset o or more
  abbrev pub owns_from : FileNumber → ℕ → ExtentNumber → Bool
  owns_from i o e = owned_from i o (c.table e)

-- byte k of file i, and n of its bytes from byte offset on
unfoldable pub file_byte : Catalogue → Disk → FileNumber → ℕ → ℕ
file_byte c d i k = get_or (d (sector_of c i (k / 512))) (k % 512) 0

unfoldable pub file_bytes : Catalogue → Disk → FileNumber → ℕ → ℕ → List ℕ
file_bytes c d i offset n = tabulate (file_byte c d i) offset n
