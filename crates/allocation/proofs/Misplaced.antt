-- Fault 25 in the terms that the code tests. Assumes nothing.
use Prim.Native.Nat.{ℕ, ◌+◌, ◌≤◌, ◌<◌}
use mathlib.Core.Path.{◌≡◌, refl, sym, ◌∙◌}
use mathlib.Core.Bool.{Bool, true, false, not, ◌&&◌}
use mathlib.Core.List.{List}
use native.Mathlib.Omega.{arith}
use lib.Dec.{eqb, ltb}
use lib.ListN.{get_or}
use borrow.Author.Tests.{eq-eqb, ne_eqb, lt-ltb}
use Rattle.model.specs.declared.Geometry.{Geometry}
use Rattle.model.specs.Geometry.{entry_at}
use Rattle.model.specs.Disk.{Disk}
use Rattle.model.specs.Superblock.{geometry_in}
use Rattle.model.specs.Entry.{is_occupied}
use Rattle.model.specs.Table.{free_file, table_file}
use Rattle.model.specs.Catalogue.{catalogue_of}
use Rattle.model.specs.Faults.{fault25}
use Rattle.laws.proofs.Catalogue.{fault25-is}
use Rattle.allocation.specs.Marks.{needed, Starts}
use Rattle.allocation.proofs.Marks.{range}

pub needs-none : (g : Geometry) (d : Disk) (i : ℕ) → is_occupied (d (entry_at i)) ≡ false → needed g d i ≡ 0
unfolding needed
needs-none g d i e = rw e

-- a file that needs extents is occupied
occupied : (g : Geometry) (d : Disk) (i : ℕ) → 0 < needed g d i → is_occupied (d (entry_at i)) ≡ true
occupied g d i l = go (is_occupied (d (entry_at i))) refl
  where
    go : (b : Bool) → is_occupied (d (entry_at i)) ≡ b → b ≡ true
    go true e = refl
    go false e = absurd (omega (arith, needs-none g d i e))

module _ (d : Disk) (g : Geometry) (is : g ≡ geometry_in (d 0)) where
  pub fault25-on : (e : ℕ) → e < g.extents
      → fault25 (catalogue_of d) e ≡ (not (eqb (table_file g d e) free_file) && not (ltb (table_file g d e) g.files && is_occupied (d (entry_at (table_file g d e)))))
  fault25-on e l = rw is (fault25-is d e (rw is at l))

  pub free-sound : (e : ℕ) → e < g.extents → table_file g d e ≡ free_file → fault25 (catalogue_of d) e ≡ false
  free-sound e l q = rw (fault25-on e l, eq-eqb (table_file g d e) free_file q)

  -- an extent whose file has a byte for its offset isn't misplaced: the file needs extents
  pub fault-met : (e f m o : ℕ) (starts : List ℕ) → e < g.extents → f ≡ table_file g d e → g.files ≤ free_file
      → Starts g d m starts → f < m → get_or starts f 0 + o < get_or starts (f + 1) 0 → false ≡ fault25 (catalogue_of d) e
  fault-met e f m o starts l q few S h x =
      let r = range g d m f starts S h in
      sym (fault25-on e l ∙ rw (← q, ne_eqb f free_file (λ z. omega (arith, S.files)), lt-ltb f g.files (omega (arith, S.files)), occupied g d f (omega arith)))
