-- "The volume on the medium": F = files, N = extents, S = sectors per extent, and where each area starts. "Sector, extent and
-- file numbers are never mixed: each is its own kind": types name the kind, and only the rules here turn a file or an extent
-- number into a sector number. In the code each kind is a struct of its own.
use Rattle.std.specs.Prelude.{ℕ, ◌+◌, ◌*◌, ◌-◌, ◌/◌, Bool, ◌&&◌, leb}
use Rattle.model.specs.declared.Geometry.{Geometry}

abbrev pub SectorNumber : Type 0
SectorNumber = ℕ

abbrev pub ExtentNumber : Type 0
ExtentNumber = ℕ

abbrev pub FileNumber : Type 0
FileNumber = ℕ

-- S; E = 512 x S; T = (N + 127) / 128 rounded down
abbrev pub extent_sectors : Geometry → ℕ
extent_sectors g = g.extent_sectors

abbrev pub extent_bytes : Geometry → ℕ
extent_bytes g = 512 * extent_sectors g

abbrev pub table_sectors : Geometry → ℕ
table_sectors g = (g.extents + 127) / 128

-- the most targets that a list has: a rename's root, two entries and all table sectors. T-01: "Longest list: 515 targets"
abbrev pub most_targets : Geometry → ℕ
most_targets g = table_sectors g + 3

-- T-01: "K = (T + 3) / S rounded up". T-12: "the reserve is a count: at least K extents must stay free, anywhere". The summary puts it at the last
-- K extents, where it stands on a volume of our own format
abbrev pub reserve_extents : Geometry → ℕ
reserve_extents g = (most_targets g + (extent_sectors g - 1)) / extent_sectors g

abbrev pub usable : Geometry → ℕ
usable g = g.extents - reserve_extents g

-- the table of areas: superblock 0, root record 1, directory 2, and
abbrev pub superblock_at : SectorNumber
superblock_at = 0

abbrev pub root_at : SectorNumber
root_at = 1

abbrev pub entry_at : FileNumber → SectorNumber
entry_at i = 2 + i

abbrev pub journal_at : Geometry → SectorNumber
journal_at g = 2 + g.files

abbrev pub table_at : Geometry → SectorNumber
table_at g = 34 + g.files

abbrev pub data_at : Geometry → SectorNumber
data_at g = 34 + g.files + table_sectors g

abbrev pub extent_at : Geometry → ExtentNumber → SectorNumber
extent_at g e = data_at g + e * extent_sectors g

abbrev pub reserve_at : Geometry → SectorNumber
reserve_at g = extent_at g (usable g)

-- how many sectors the volume has: the data area holds N x S
abbrev pub volume_sectors : Geometry → ℕ
volume_sectors g = extent_at g g.extents

-- C = z / E rounded up: how many extents a size needs
abbrev pub extents_for : Geometry → ℕ → ℕ
extents_for g z = (z + (extent_bytes g - 1)) / extent_bytes g

-- "Bounds: N 2 to 65,535; S at least 128"; F 255 to 65,535, the most that its two bytes say (request T-03)
abbrev pub least_files : ℕ
least_files = 255

abbrev pub most_files : ℕ
most_files = 65535

unfoldable pub in_bounds : Geometry → Bool
in_bounds g =
    leb least_files g.files && leb g.files most_files && leb 2 g.extents && leb g.extents 65535 && leb 128 (extent_sectors g)
