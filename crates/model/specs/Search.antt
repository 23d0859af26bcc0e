-- Tests over the indexes below a number, and lists made by index. `scan` peels from the front, as a search does; the others
-- from the top, as a loop's growing prefix does.
use Rattle.std.specs.Prelude.{ℕ, zero, suc, ◌+◌, ◌-◌, Bool, true, false, cond, ◌&&◌, ◌||◌, List, [], ◌∷◌, ◌++◌, eqb, length, get_or, Option, Some, None, is_some, unwrap_or}

-- what a search over indexes answers
abbrev pub Lowest : Type 0
Lowest = Option ℕ

-- the lowest of i, i + 1, .., i + k - 1 at which p holds
unfoldable pub scan : (ℕ → Bool) → ℕ → ℕ → Lowest
scan p zero i = None
scan p (suc k) i = let rest = scan p k (suc i) in cond (p i) (Some i) rest

-- the lowest index below n at which p holds (n - 0, so that a loop at index i has the same form)
abbrev pub first : (ℕ → Bool) → ℕ → Lowest
first p n = scan p (n - 0) 0

abbrev pub is_at : Lowest → Bool
is_at = is_some

-- the index found; 0 where there is none
abbrev pub index_of : Lowest → ℕ
index_of p = unwrap_or p 0

-- the test holds at some index below n; at every one; at how many
unfoldable pub any_below : (ℕ → Bool) → ℕ → Bool
any_below p zero = false
any_below p (suc n) = p n || any_below p n

unfoldable pub all_below : (ℕ → Bool) → ℕ → Bool
all_below p zero = true
all_below p (suc n) = p n && all_below p n

unfoldable pub count_below : (ℕ → Bool) → ℕ → ℕ
count_below p zero = 0
count_below p (suc n) = cond (p n) 1 0 + count_below p n

-- f from, f (from + 1), .., n of them
unfoldable pub tabulate {ℓ} : {A : Type ℓ} → (ℕ → A) → ℕ → ℕ → List A
tabulate f from zero = []
tabulate f from (suc n) = tabulate f from n ++ (f (from + n) ∷ [])

-- the lists f from, f (from + 1), .., n of them, one after the other
unfoldable pub concatenated {ℓ} : {A : Type ℓ} → (ℕ → List A) → ℕ → ℕ → List A
concatenated f from zero = []
concatenated f from (suc n) = concatenated f from n ++ f (from + n)

-- two strings of bytes are the same
unfoldable pub equal_bytes : List ℕ → List ℕ → Bool
equal_bytes a b = eqb (length a) (length b) && all_below (λ k. eqb (get_or a k 0) (get_or b k 0)) (length b)
