-- What the search for the highest free extent below a bound comes to.
use Rattle.std.specs.Prelude.{ℕ, ◌<◌, ◌≡◌, [], ◌∷◌, ◌++◌, Option, MatchOption}
use Rattle.model.specs.Catalogue.{Catalogue, free_below}

-- it finds the last of the free extents below the bound, or there is none
abbrev pub IsHighest : Catalogue → ℕ → Option ℕ → Type 0
IsHighest c bound r = MatchOption r (free_below c bound ≡ []) (λ e. (e < bound) × (free_below c bound ≡ free_below c e ++ (e ∷ [])))
