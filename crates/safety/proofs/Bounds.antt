-- A geometry within the bounds is one that commits can use; an empty file needs no extent. Assumes nothing.
use Prim.Native.Nat.{ℕ, ◌+◌, ◌*◌, ◌-◌, ◌/◌, ◌≤◌, ◌<◌}
use mathlib.Core.Path.{◌≡◌}
use native.Mathlib.Omega.{arith}
use native.Mathlib.Nat.{mul-le-mul, div-eq_of_lt, suc-mul, lt-mul-div-succ, mul_comm}
use native.Mathlib.Numerals.{add-one}
use Rattle.model.specs.declared.Geometry.{Geometry}
use Rattle.model.specs.Geometry.{extent_sectors, most_targets, reserve_extents, extents_for}
use Rattle.model.specs.Opened.{Bounded}
use Rattle.safety.proofs.Plan.{UsableGeometry}

-- t / s, rounded up, times s
pub rounded-up : (t s : ℕ) → 0 < s → t ≤ ((t + (s - 1)) / s) * s
rounded-up t s h =
    let q : t + (s - 1) < s * ((t + (s - 1)) / s + 1) = lt-mul-div-succ (t + (s - 1)) h in
    let c : s * ((t + (s - 1)) / s + 1) ≡ ((t + (s - 1)) / s + 1) * s = mul_comm s ((t + (s - 1)) / s + 1) in
    let r : ((t + (s - 1)) / s + 1) * s ≡ ((t + (s - 1)) / s) * s + s = rw (add-one ((t + (s - 1)) / s)) (suc-mul ((t + (s - 1)) / s) s) in
    omega arith

module _ (g : Geometry) (b : Bounded g) where
  -- the reserve has room for a copy of each of the most targets, and their count is a waiting one's
  pub copies-fit : (n : ℕ) → n ≤ most_targets g → n ≤ reserve_extents g * extent_sectors g
  copies-fit n h = let r = rounded-up (most_targets g) (extent_sectors g) (omega (arith, b.extent-low)) in omega arith

  pub count-waits : (n : ℕ) → n ≤ most_targets g → n ≤ 1024
  count-waits n h = omega (arith, b.extents-high)

  pub no-extent : extents_for g 0 ≡ 0
  no-extent = div-eq_of_lt (omega (arith, b.extent-low))

  pub usable-geometry : UsableGeometry g
  usable-geometry =
      let s : g.extents * extent_sectors g ≤ 65535 * 4294967295 = mul-le-mul b.extents-high b.extent-high in
      record { wide = omega (arith, b.extent-low); small = omega (arith, b.files-high, b.extents-high) }
