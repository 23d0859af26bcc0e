-- FROM OUR OWN FORMAT ON (T-12): "demand 3's sum is unchanged: N - K extents can be held, and staging begins where the summary puts the reserve".
use Rattle.std.specs.Prelude.{ℕ, ◌+◌, ◌≤◌, ◌<◌, ◌≡◌, ◌↔◌, not, List}
use Rattle.std.proofs.Math.Option.{none}
use Rattle.model.specs.Search.{count_below, tabulate}
use Rattle.model.specs.Geometry.{most_targets, reserve_extents, usable, reserve_at}
use Rattle.model.specs.Disk.{view}
use Rattle.model.specs.Catalogue.{catalogue_of, is_free}
use Rattle.model.specs.WriteList.{staging}
use Rattle.model.specs.Format.{Format}
use Rattle.model.specs.Ledger.{Feed, Answer}
use Rattle.model.specs.Run.{Run, steady}
use Rattle.safety.specs.Room.{geometry_on, free_on}

-- how many extents the table gives to files
unfoldable pub held_on : List ℕ → ℕ
held_on img = count_below (λ e. not (is_free ((catalogue_of (view img)).table e))) (geometry_on img).extents

pub record OwnVolume (img : List ℕ) : Type 0 where
  -- no file has one of the last K extents, so at least K are free: the volume is never frozen
  pub last : (e : ℕ) → usable (geometry_on img) ≤ e → (catalogue_of (view img)).table e ≡ none
  pub free : reserve_extents (geometry_on img) ≤ free_on img
  -- fewer than K + 1 are free exactly if N - K are held
  pub full : (free_on img < reserve_extents (geometry_on img) + 1) ↔ (held_on img ≡ usable (geometry_on img))
  -- the copies of a call's targets stand one behind the other from the reserve's first sector on
  pub staged : (n : ℕ) → n ≤ most_targets (geometry_on img) → staging (catalogue_of (view img)) n ≡ tabulate (λ k. reserve_at (geometry_on img) + k) 0 n

-- so at the end of every run after a format of ours
unfoldable pub FromOwnFormat : Type 0
FromOwnFormat = (a : Format) (img : List ℕ) (fs : List Feed) (rs : List Answer) → Run a steady img fs rs → OwnVolume img
