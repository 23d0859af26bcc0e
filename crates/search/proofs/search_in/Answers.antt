-- `search::search_in` meets its contract. An extent is free, or none is.
use mathlib.Core.Path.{sym, ap, ◌∙◌}
use native.Mathlib.Omega.{arith}
use Rattle.laws.proofs.Refusals.{readable-length, opened}
use Rattle.search.specs.Numbers.{extent_numbers}
use Rattle.search.proofs.search_in.Goals as goal

pub geometry_in-g-requires : goal.geometry_in-g-requires
geometry_in-g-requires c = readable-length _ c.requires

pub free_extent-requires : goal.free_extent-requires
free_extent-requires c = opened _ _ c.geometry_in-g.ensures (omega arith) c.requires

pub returns-in-Some : goal.returns-in-Some
returns-in-Some c = ap extent_numbers (sym c.in-Some.is ∙ c.free_extent.ensures)

pub returns-in-None : goal.returns-in-None
returns-in-None c = ap extent_numbers (sym c.in-None.is ∙ c.free_extent.ensures)
