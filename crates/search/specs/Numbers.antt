-- What the exported search gives: document 01's numbers and the extent.
use Rattle.std.specs.Prelude.{ℕ, Some, None}
use Rattle.model.specs.Search.{Lowest}
use Rattle.model.specs.Disk.{Disk}
use Rattle.model.specs.Refusals.{given, image_verdict}
use Rattle.model.specs.Catalogue.{catalogue_of, free_extent}
use Rattle.search.specs.declared.FreeExtentResult.{FreeExtentResult}

-- no extent is free: 13
abbrev pub extent_numbers : Lowest → FreeExtentResult
extent_numbers (Some e) = record { code = 0; extent = e }
extent_numbers None = record { code = 13; extent = 0 }

abbrev pub free_extent_numbers : ℕ → Disk → FreeExtentResult
free_extent_numbers len d = given (image_verdict len d) (extent_numbers (free_extent (catalogue_of d))) (λ v. record { code = v.number; extent = 0 })
