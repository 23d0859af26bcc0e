-- A table entry as one number, its lowest byte first.
use Rattle.std.specs.Prelude.{ℕ, ◌+◌, ◌*◌, ◌/◌, ◌%◌}

-- a number of two bytes, read in the other order
abbrev pub swapped : ℕ → ℕ
swapped v = v / 256 + 256 * (v % 256)

abbrev pub entry_word : ℕ → ℕ → ℕ
entry_word file offset = swapped file + 65536 * swapped offset
