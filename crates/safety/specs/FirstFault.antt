-- WHICH FAULT CHECK NAMES: "Faults, lowest number first, then lowest place."
use Rattle.std.specs.Prelude.{ℕ, ◌≤◌, ◌<◌, ◌≡◌, Bool, true, false, cond, eqb}
use Rattle.model.specs.Disk.{Disk}
use Rattle.model.specs.Catalogue.{catalogue_of}
use Rattle.model.specs.Faults.{fault21, fault22, fault23, fault24, fault25, fault26}

-- the test of fault n at place p; and how many places there are: "Places are file indexes, for 25 an extent."
abbrev pub fault_test : Disk → ℕ → ℕ → Bool
fault_test d n p =
    cond (eqb n 21) (fault21 d p)
    (cond (eqb n 22) (fault22 (catalogue_of d) p)
    (cond (eqb n 23) (fault23 (catalogue_of d) p)
    (cond (eqb n 24) (fault24 (catalogue_of d) p)
    (cond (eqb n 25) (fault25 (catalogue_of d) p)
    (cond (eqb n 26) (fault26 (catalogue_of d) p) false)))))

abbrev pub places_of : Disk → ℕ → ℕ
places_of d n = cond (eqb n 25) (catalogue_of d).geometry.extents (catalogue_of d).geometry.files

-- fault n is nowhere
abbrev pub NoFault : Disk → ℕ → Type 0
NoFault d n = (p : ℕ) → p < places_of d n → fault_test d n p ≡ false

-- fault n is at place p, at none before it, and no fault of a lower number is anywhere
pub record FirstFault (d : Disk) (n p : ℕ) : Type 0 where
  pub number : (21 ≤ n) × (n ≤ 26)
  pub place : p < places_of d n
  pub holds : fault_test d n p ≡ true
  pub lowest : (q : ℕ) → q < p → fault_test d n q ≡ false
  pub none-lower : (m : ℕ) → 21 ≤ m → m < n → NoFault d m
