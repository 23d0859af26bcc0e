-- A table sector whose entries are freed by a byte for each.
use Rattle.std.specs.Prelude.{ℕ, ◌+◌, List}
use Rattle.model.specs.declared.Geometry.{Geometry}
use Rattle.model.specs.Geometry.{table_at}
use Rattle.model.specs.Disk.{Disk}
use Rattle.model.specs.Table.{freed_in}
use Rattle.model.specs.WriteList.{Record, sector_write}
use Rattle.table.specs.Owned.{is_marked}

-- table sector t with its marked entries freed
abbrev pub marked_sector : List ℕ → Geometry → Disk → ℕ → Record
marked_sector marks g d t = sector_write (table_at g + t) (freed_in (is_marked marks) (d (table_at g + t)) 128)
