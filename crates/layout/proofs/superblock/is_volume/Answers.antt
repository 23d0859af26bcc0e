-- `layout::superblock::is_volume` meets its contract. The magic is wrong, or the version is looked at.
use Rattle.std.proofs.Common.{◌≡◌, ◌-◌, List, ℕ, length, take, drop, arith, length-take, length-drop}
use Rattle.std.specs.List.{starts_with}
use lib.Dec.{eqb}
use Rattle.model.specs.Bytes.{bytes_from}
use Rattle.model.specs.Search.{equal_bytes}
use Rattle.model.specs.Superblock.{is_volume, magic}
use Rattle.laws.proofs.Bytes.{bytes_from-part}
use Rattle.fields.proofs.Slices.{starts-bytes}
use Rattle.layout.proofs.superblock.is_volume.Goals as goal

has_magic : (s : List ℕ) → length s ≡ 512 → starts_with eqb (take (length s - 8) (drop 8 s)) magic ≡ equal_bytes (bytes_from s 8 8) magic
has_magic s h =
    rw (← bytes_from-part s 8 (length s - 8) 8 (omega arith))
    (starts-bytes (take (length s - 8) (drop 8 s)) magic (omega (arith, length-take {A = ℕ}, length-drop {A = ℕ})))

pub returns-then-starts_with : goal.returns-then-starts_with
unfolding is_volume
returns-then-starts_with c =
    rw (← has_magic _ c.requires, ← c.starts_with.ensures.value, c.if-starts_with.true, ← c.number_in.ensures.value, ← c.is_edition.ensures)

pub returns-else-starts_with : goal.returns-else-starts_with
unfolding is_volume
returns-else-starts_with c = rw (← has_magic _ c.requires, ← c.starts_with.ensures.value, c.if-starts_with.false)
