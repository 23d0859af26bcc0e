-- Laws of the layout: what bounds say, that no area's start overflows, that the reserve is smaller than the volume. Assumes nothing.
use Prim.Native.Nat.{ℕ, suc, ◌+◌, ◌-◌, ◌*◌, ◌≤◌, ◌<◌}
use mathlib.Core.Path.{◌≡◌, refl, ap, ◌∙◌}
use mathlib.Core.Bool.{Bool, true, false, ◌&&◌, false≢true}
use native.Mathlib.Nat.{mul-le-mul, mul-le-mul_left, div-lt_iff_lt-mul, suc-mul}
use native.Mathlib.Omega.{arith}
use lib.Dec.{leb}
use borrow.Author.Tests.{leb-true}
use Rattle.model.specs.declared.Geometry.{Geometry}
use Rattle.model.specs.Geometry.{extent_sectors, most_targets, reserve_extents, most_files, in_bounds}
use Rattle.model.specs.Opened.{Bounded}

pub and-true : (a b : Bool) → (a && b) ≡ true → (a ≡ true) × (b ≡ true)
and-true true b h = (refl, h)
and-true false b h = absurd (false≢true h)

pub bounds : (g : Geometry) → in_bounds g ≡ true → extent_sectors g ≤ 4294967295 → Bounded g
unfolding in_bounds
bounds g h s =
    let p4 = and-true (leb 255 g.files && leb g.files most_files && leb 2 g.extents && leb g.extents 65535) (leb 128 (extent_sectors g)) h in
    let p3 = and-true (leb 255 g.files && leb g.files most_files && leb 2 g.extents) (leb g.extents 65535) p4.0 in
    let p2 = and-true (leb 255 g.files && leb g.files most_files) (leb 2 g.extents) p3.0 in
    let p1 = and-true (leb 255 g.files) (leb g.files most_files) p2.0 in
    record {
      files-low = leb-true 255 g.files p1.0;
      files-high = leb-true g.files most_files p1.1;
      extents-low = leb-true 2 g.extents p2.1;
      extents-high = leb-true g.extents 65535 p3.1;
      extent-low = leb-true 128 (extent_sectors g) p4.1;
      extent-high = s;
    }

-- so many extents have a number of sectors that fits 48 bits
pub product : (g : Geometry) (e : ℕ) → Bounded g → e ≤ g.extents → e * extent_sectors g ≤ 65535 * 4294967295
product g e b h = mul-le-mul (let q : e ≤ 65535 = omega (arith, b.extents-high) in q) b.extent-high

-- the reserve is smaller than the volume
pub reserve-small : (g : Geometry) → Bounded g → reserve_extents g < g.extents
reserve-small g b =
    let n = g.extents in
    let s = extent_sectors g in
    let a : 2 ≤ n = b.extents-low in
    let h : 128 ≤ s = b.extent-low in
    let m : n ≡ suc (n - 1) = omega arith in
    let e : n * s ≡ (n - 1) * s + s = ap (λ x. x * s) m ∙ suc-mul (n - 1) s in
    let p : (n - 1) * 128 ≤ (n - 1) * s = mul-le-mul_left (n - 1) h in
    let q : most_targets g + (s - 1) < n * s = omega arith in
    (div-lt_iff_lt-mul {k = s} (omega arith)).1 q
