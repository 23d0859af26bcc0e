-- Laws of the refusals: what tests that passed say, up to a volume that is open. Assumes nothing.
use Prim.Native.Nat.{ℕ, ◌*◌, ◌%◌, ◌/◌, ◌≤◌}
use mathlib.Core.Path.{◌≡◌, refl, sym, ap, ◌∙◌}
use mathlib.Core.Bool.{Bool, true, false, cond, not, ◌&&◌}
use mathlib.Core.List.{List}
use native.Mathlib.Omega.{arith}
use lib.Dec.{eqb, leb, ltb}
use lib.ListN.{length}
use borrow.Author.Tests.{ltb-true, ltb-false, eqb-true, leb-true, lt-ltb, le-leb, eq-eqb}
use Rattle.model.specs.declared.Geometry.{Geometry}
use Rattle.model.specs.Answers.{Verdict}
use Rattle.model.specs.Geometry.{extent_sectors, superblock_at, in_bounds, data_at, volume_sectors}
use Rattle.model.specs.Disk.{Disk, view}
use Rattle.model.specs.Superblock.{geometry_in, is_volume}
use Rattle.model.specs.Refusals.{verdict_of, refusal, done, is_done, and_then, is_whole, fits_image, image_verdict}
use Rattle.model.specs.Summary.{superblock_verdict}
use Rattle.model.specs.Lent.{is_front, lent_length}
use Rattle.model.specs.Opened.{Opened, volume_length, Readable}
use Rattle.model.proofs.Areas.{bounds}
use Rattle.laws.proofs.Booleans.{and_left, and_right, and_yes}

-- where no condition of three holds, and where one does
abbrev by3 : ℕ → ℕ → ℕ → Bool → Bool → Bool → Verdict
by3 k l m a b c = cond a (refusal k) (cond b (refusal l) (cond c (refusal m) done))

none-of-3 : (a b c : Bool) → (by3 1 2 3 a b c).number ≡ 0 → (a ≡ false) × (b ≡ false) × (c ≡ false)
none-of-3 true b c e = let z : ◌≡◌ {A = ℕ} 1 0 = e in absurd (omega arith)
none-of-3 false true c e = let z : ◌≡◌ {A = ℕ} 2 0 = e in absurd (omega arith)
none-of-3 false false true e = let z : ◌≡◌ {A = ℕ} 3 0 = e in absurd (omega arith)
none-of-3 false false false e = (refl, refl, refl)

yes_of : (b : Bool) → not b ≡ false → b ≡ true
yes_of true e = refl
yes_of false e = sym e

pub whole-true : (len : ℕ) → is_whole len ≡ true → 512 ≤ len
unfolding is_whole
whole-true len h =
    omega (arith, ltb-true 0 len (and_left (ltb 0 len) (eqb (len % 512) 0) h), eqb-true (len % 512) 0 (and_right (ltb 0 len) (eqb (len % 512) 0) h))

-- an image that 1 to 3 let pass
pub record Passed (len : ℕ) (s : List ℕ) : Type 0 where
  pub whole : is_whole len ≡ true
  pub volume : is_volume s ≡ true
  pub fits : fits_image len s ≡ true

pub image-passed : (len : ℕ) (d : Disk) → (image_verdict len d).number ≡ 0 → Passed len (d superblock_at)
unfolding image_verdict verdict_of
image-passed len d e =
    let p = none-of-3 (not (is_whole len)) (not (is_volume (d superblock_at))) (not (fits_image len (d superblock_at))) e in
    record { whole = yes_of _ p.0; volume = yes_of _ p.1; fits = yes_of _ p.2 }

pub image-length : (len : ℕ) (d : Disk) → (image_verdict len d).number ≡ 0 → 512 ≤ len
image-length len d e = whole-true len (image-passed len d e).whole

pub superblock-length : (len : ℕ) (d : Disk) → (superblock_verdict len d).number ≡ 0 → 512 ≤ len
unfolding superblock_verdict verdict_of
superblock-length len d e =
    ltb-false len 512 (none-of-3 (ltb len 512) (not (is_volume (d superblock_at))) (not (in_bounds (geometry_in (d superblock_at)))) e).0

pub superblock-bounds : (len : ℕ) (d : Disk) → (superblock_verdict len d).number ≡ 0 → in_bounds (geometry_in (d superblock_at)) ≡ true
unfolding superblock_verdict verdict_of
superblock-bounds len d e =
    yes_of _ (none-of-3 (ltb len 512) (not (is_volume (d superblock_at))) (not (in_bounds (geometry_in (d superblock_at)))) e).2

-- where neither of two verdicts refuses, the first doesn't
pub first_done : (v w : Verdict) → (and_then v w).number ≡ 0 → v.number ≡ 0
first_done v w h = go (is_done v) refl h
  where
    go : (b : Bool) → is_done v ≡ b → (cond b w v).number ≡ 0 → v.number ≡ 0
    go true e h = eqb-true v.number 0 e
    go false e h = h

-- what passes is done
passed-done : (len : ℕ) (d : Disk) → Passed len (d superblock_at) → image_verdict len d ≡ done
unfolding image_verdict verdict_of
passed-done len d p = rw (p.whole, p.volume, p.fits) refl

pub image-done : (len : ℕ) (d : Disk) → (image_verdict len d).number ≡ 0 → image_verdict len d ≡ done
image-done len d e = passed-done len d (image-passed len d e)

-- an image that is just as long as its volume passes where a longer one does
own-passed : (len : ℕ) (s : List ℕ) → Passed len s → Passed (512 * volume_sectors (geometry_in s)) s
unfolding is_whole fits_image
own-passed len s p =
    let v = volume_sectors (geometry_in s) in
    record {
      whole = and_yes _ _ (lt-ltb 0 (512 * v) (omega arith)) (eq-eqb (512 * v % 512) 0 (omega arith));
      volume = p.volume;
      fits = and_yes _ _ (and_left (in_bounds (geometry_in s)) (leb v (len / 512)) p.fits) (le-leb v (512 * v / 512) (omega arith));
    }

pub own-done : (len : ℕ) (d : Disk) → (image_verdict len d).number ≡ 0 → image_verdict (volume_length d) d ≡ done
unfolding volume_length
own-done len d e = passed-done (512 * volume_sectors (geometry_in (d superblock_at))) d (own-passed len (d superblock_at) (image-passed len d e))

-- in bounds, and the volume no longer than the image
pub image-fits : (len : ℕ) (d : Disk) → (image_verdict len d).number ≡ 0 → (in_bounds (geometry_in (d superblock_at)) ≡ true) × (volume_sectors (geometry_in (d superblock_at)) ≤ len / 512)
unfolding fits_image
image-fits len d e =
    let g = geometry_in (d superblock_at) in
    let f = (image-passed len d e).fits in
    (and_left (in_bounds g) (leb (volume_sectors g) (len / 512)) f, leb-true (volume_sectors g) (len / 512) (and_right (in_bounds g) (leb (volume_sectors g) (len / 512)) f))

pub readable : (img : List ℕ) → (image_verdict (length img) (view img)).number ≡ 0 → Readable img
readable img e =
    let f = image-fits (length img) (view img) e in
    record { held = omega (arith, f.1); verdict = ap (λ (v : Verdict). v.number) (own-done (length img) (view img) e) }

-- its volume is open
pub opened : (img : List ℕ) (g : Geometry) → g ≡ geometry_in (view img superblock_at) → extent_sectors g ≤ 4294967295 → Readable img → Opened img g
opened img g e s h =
    let f = image-fits (volume_length (view img)) (view img) h.verdict in
    let a : in_bounds g ≡ true = rw e f.0 in
    let b : 512 * data_at g ≤ length img = rw e h.held in
    record { is = e; bounded = bounds g a s; held = b }

pub readable-length : (img : List ℕ) → Readable img → 512 ≤ length img
readable-length img h = omega (arith, h.held)

-- ---- T-11: lent sectors

false-front : (len : ℕ) (d : Disk) → is_front len d ≡ false → is_whole len ≡ true → in_bounds (geometry_in (d superblock_at)) ≡ true
    → volume_sectors (geometry_in (d superblock_at)) ≤ len / 512 → ⊥
unfolding is_front
false-front len d e w b v =
    let g = geometry_in (d superblock_at) in
    let l = le-leb (data_at g) (len / 512) (omega (arith, v)) in
    let z : true ≡ false = sym (and_yes _ _ (and_yes _ _ w b) l) ∙ e in
    let y : ◌≡◌ {A = ℕ} 0 1 = cc in omega arith

-- the sectors before the data area are lent where nothing refuses them
front_by : (len count : ℕ) (d : Disk) (b : Bool) → is_front len d ≡ b → (image_verdict (lent_length len count d) d).number ≡ 0 → b ≡ true
unfolding lent_length
front_by len count d true e h = refl
front_by len count d false e h =
    let p : Passed len (d superblock_at) = image-passed len d (rw e at h) in
    let f = image-fits len d (rw e at h) in
    absurd (false-front len d e p.whole f.0 f.1)

pub lent-front : (len count : ℕ) (d : Disk) → (image_verdict (lent_length len count d) d).number ≡ 0 → is_front len d ≡ true
lent-front len count d e = front_by len count d (is_front len d) refl e

pub front-holds : (len : ℕ) (d : Disk) → is_front len d ≡ true → (in_bounds (geometry_in (d superblock_at)) ≡ true) × (512 * data_at (geometry_in (d superblock_at)) ≤ len)
unfolding is_front
front-holds len d e =
    let g = geometry_in (d superblock_at) in
    let l = leb-true (data_at g) (len / 512) (and_right (is_whole len && in_bounds g) (leb (data_at g) (len / 512)) e) in
    (and_right (is_whole len) (in_bounds g) (and_left (is_whole len && in_bounds g) (leb (data_at g) (len / 512)) e), omega (arith, l))

pub lent-readable : (front : List ℕ) (count : ℕ) → (image_verdict (lent_length (length front) count (view front)) (view front)).number ≡ 0 → Readable front
lent-readable front count e =
    record {
      held = (front-holds (length front) (view front) (lent-front (length front) count (view front) e)).1;
      verdict = ap (λ (v : Verdict). v.number) (own-done (lent_length (length front) count (view front)) (view front) e);
    }
