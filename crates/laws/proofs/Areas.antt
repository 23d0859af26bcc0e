-- Laws of the areas: what is metadata or data lies below the area's end. Assumes nothing.
use Prim.Native.Nat.{ℕ, ◌<◌}
use mathlib.Core.Path.{◌≡◌, refl}
use mathlib.Core.Bool.{Bool, true, false, ◌&&◌, ◌||◌}
use native.Mathlib.Omega.{arith}
use lib.Dec.{leb, ltb}
use borrow.Author.Tests.{ltb-true}
use Rattle.model.specs.declared.Geometry.{Geometry}
use Rattle.model.specs.Geometry.{journal_at, table_at, data_at, volume_sectors}
use Rattle.model.specs.Recovery.{is_data, is_metadata}
use Rattle.laws.proofs.Booleans.{and_right}

pub data-below : (g : Geometry) (s : ℕ) → is_data g s ≡ true → s < volume_sectors g
unfolding is_data
data-below g s e = ltb-true s (volume_sectors g) (and_right (leb (data_at g) s) (ltb s (volume_sectors g)) e)

pub metadata-below : (g : Geometry) (t : ℕ) → is_metadata g t ≡ true → t < data_at g
unfolding is_metadata
metadata-below g t e = go (leb 1 t && ltb t (journal_at g)) refl e
  where
    go : (b : Bool) → (leb 1 t && ltb t (journal_at g)) ≡ b → (b || (leb (table_at g) t && ltb t (data_at g))) ≡ true → t < data_at g
    go true q f = omega (arith, ltb-true t (journal_at g) (and_right (leb 1 t) (ltb t (journal_at g)) q))
    go false q f = ltb-true t (data_at g) (and_right (leb (table_at g) t) (ltb t (data_at g)) f)
