-- The test of a search by name.
use Rattle.std.specs.Prelude.{ℕ, Bool, ◌&&◌, List}
use Rattle.model.specs.Search.{equal_bytes}
use Rattle.model.specs.Entry.{is_occupied, name_in}

-- an entry's sector is occupied and has the name
abbrev pub is_named : ℕ → List ℕ → List ℕ → Bool
is_named edition name s = is_occupied s && equal_bytes (name_in edition s) name
