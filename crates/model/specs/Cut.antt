-- "A cut: all groups before some group landed, any subset of that group's records, nothing later."
use Rattle.std.specs.Prelude.{ℕ, zero, suc, Bool, true, false, cond, List, [], ◌∷◌, ◌++◌, get_or}
use Rattle.model.specs.Search.{tabulate}
use Rattle.model.specs.WriteList.{Record, Group}

-- how many groups landed before, and of each record of the next whether it did
pub record Cut : Type 0 where
  pub before : ℕ
  pub mask : List Bool

unfoldable pub kept : List Bool → Group → Group
kept [] g = []
kept (b ∷ m) [] = []
kept (b ∷ m) (r ∷ g) = cond b (r ∷ kept m g) (kept m g)

unfoldable pub landed_of : ℕ → List Bool → List Group → List Record
landed_of k m [] = []
landed_of zero m (g ∷ gs) = kept m g
landed_of (suc k) m (g ∷ gs) = g ++ landed_of k m gs

abbrev pub landed : Cut → List Group → List Record
landed x gs = landed_of x.before x.mask gs

-- "The start mark is group B's superblock."
abbrev pub marked_by : ℕ → List Bool → Bool
marked_by zero m = false
marked_by (suc zero) m = get_or m 0 false
marked_by (suc (suc k)) m = true

abbrev pub start_mark : Cut → Bool
start_mark x = marked_by x.before x.mask

-- whether the k-th data sector landed: they stand first in group A
abbrev pub data_by : ℕ → List Bool → ℕ → Bool
data_by zero m k = get_or m k false
data_by (suc n) m k = true

-- of each of a call's n data sectors, whether it landed
abbrev pub data_landed : Cut → ℕ → List Bool
data_landed x n = tabulate (data_by x.before x.mask) 0 n
