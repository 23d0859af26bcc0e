-- A file's bytes on an image: what of a span lies in one extent is a run of the image, and lies in the volume. Assumes nothing.
use Prim.Native.Nat.{ℕ, zero, suc, ◌+◌, ◌*◌, ◌-◌, ◌/◌, ◌%◌, ◌≤◌, ◌<◌}
use mathlib.Core.Path.{◌≡◌, refl, sym, ap, ◌∙◌}
use mathlib.Core.Bool.{Bool}
use mathlib.Core.List.{List, [], ◌∷◌, ◌++◌}
use native.Mathlib.Nat.{suc-mul, mod-lt, div-add-mod', mul-le-mul_right, mul_comm, mul_assoc}
use native.Mathlib.Omega.{arith}
use lib.Arith.{digits_div, digits_mod}
use lib.ListN.{length, get_or}
use Rattle.model.specs.declared.Geometry.{Geometry}
use Rattle.std.specs.Prelude.{Some, None}
use Rattle.model.specs.Bytes.{bytes_from}
use Rattle.model.specs.Search.{Lowest, scan, tabulate, index_of}
use Rattle.model.specs.Geometry.{extent_sectors, extent_bytes, extent_at, superblock_at, volume_sectors}
use Rattle.model.specs.Disk.{view}
use Rattle.model.specs.Superblock.{geometry_in}
use Rattle.model.specs.Catalogue.{Catalogue, catalogue_of, is_part, extent_of, sector_of, file_byte, file_bytes}
use Rattle.model.specs.Opened.{Bounded, Opened}
use Rattle.table.proofs.Laws.{extent-of-is}
use Rattle.laws.proofs.Search.{Hit, scan-hit, length-tabulate, tabulate-split}
use Rattle.laws.proofs.Disk.{get_or-view}

-- ---- one extent's bytes

byte_at : (c : Catalogue) (img : List ℕ) (i o x : ℕ) → x < extent_bytes c.geometry →
    file_byte c (view img) i (512 * (o * extent_sectors c.geometry) + x) ≡ get_or img (512 * extent_at c.geometry (extent_of c i o) + x) 0
unfolding file_byte sector_of
byte_at c img i o x h =
    let s = extent_sectors c.geometry in
    let y : x / 512 < s = omega arith in
    let e1 : (512 * (o * s) + x) / 512 ≡ o * s + x / 512 = omega arith in
    let e2 : (512 * (o * s) + x) % 512 ≡ x % 512 = omega arith in
    let e3 : 512 * (extent_at c.geometry (extent_of c i o) + x / 512) + x % 512 ≡ 512 * extent_at c.geometry (extent_of c i o) + x = omega arith in
    let z : x % 512 < 512 = omega arith in
    rw (e1, e2, digits_div o {m = s} {r = x / 512} y, digits_mod o {m = s} {r = x / 512} y, get_or-view img (extent_at c.geometry (extent_of c i o) + x / 512) (x % 512) z, e3)

-- n bytes from byte x on of the extent of offset o
pub piece : (c : Catalogue) (img : List ℕ) (i o x n : ℕ) → x + n ≤ extent_bytes c.geometry →
    file_bytes c (view img) i (512 * (o * extent_sectors c.geometry) + x) n ≡ bytes_from img (512 * extent_at c.geometry (extent_of c i o) + x) n
unfolding file_bytes tabulate bytes_from
piece c img i o x zero h = refl
piece c img i o x (suc n) h =
    let s = extent_sectors c.geometry in
    let e : 512 * (o * s) + x + n ≡ 512 * (o * s) + (x + n) = omega arith in
    let f : 512 * extent_at c.geometry (extent_of c i o) + x + n ≡ 512 * extent_at c.geometry (extent_of c i o) + (x + n) = omega arith in
    rw (e, f, byte_at c img i o (x + n) (omega arith)) (ap (λ (l : List ℕ). l ++ (get_or img (512 * extent_at c.geometry (extent_of c i o) + (x + n)) 0 ∷ [])) (piece c img i o x n (omega arith)))

pub length-file_bytes : (img : List ℕ) (i offset n : ℕ) → length (file_bytes (catalogue_of (view img)) (view img) i offset n) ≡ n
unfolding file_bytes
length-file_bytes img i offset n = length-tabulate (file_byte (catalogue_of (view img)) (view img) i) offset n

-- a span cut in two
pub span-cut : (img : List ℕ) (i offset n m : ℕ)
    → file_bytes (catalogue_of (view img)) (view img) i offset (n + m)
    ≡ file_bytes (catalogue_of (view img)) (view img) i offset n ++ file_bytes (catalogue_of (view img)) (view img) i (offset + n) m
unfolding file_bytes
span-cut img i offset n m = tabulate-split (file_byte (catalogue_of (view img)) (view img) i) offset n m

-- ---- an extent lies in the volume

pub found_below : (p : ℕ → Bool) (n : ℕ) (r : Lowest) → 0 < n → Hit p n 0 r → index_of r < n
found_below p n (Some k) h q = omega (arith, q.1)
found_below p n None h q = h

pub extent-below : (img : List ℕ) (g : Geometry) → Opened img g → (i o : ℕ) → extent_of (catalogue_of (view img)) i o < g.extents
extent-below img g h i o =
    let n = g.extents in
    let p : ℕ → Bool = λ x. is_part i o ((catalogue_of (view img)).table x) in
    let r : index_of (scan p (n - 0) 0) < n - 0 = found_below p (n - 0) (scan p (n - 0) 0) (omega (arith, h.bounded.extents-low)) (scan-hit p (n - 0) 0) in
    rw (extent-of-is (view img) g h.is i o) (omega (arith, r))

-- so do its sectors
pub extent-inside : (g : Geometry) (x : ℕ) → x < g.extents → extent_at g x + extent_sectors g ≤ volume_sectors g
extent-inside g x l =
    let m : suc x * extent_sectors g ≤ g.extents * extent_sectors g = mul-le-mul_right (extent_sectors g) l in
    omega (arith, suc-mul x (extent_sectors g))

-- ---- where an offset stands: in the extent offset / E, at byte offset % E

offset-split : (g : Geometry) → Bounded g → (offset : ℕ) → offset ≡ 512 * (offset / extent_bytes g * extent_sectors g) + offset % extent_bytes g
offset-split g b offset =
    let d : offset / extent_bytes g * extent_bytes g + offset % extent_bytes g ≡ offset = div-add-mod' offset (extent_bytes g) in
    let q : offset / extent_bytes g * (512 * extent_sectors g) ≡ 512 * (offset / extent_bytes g * extent_sectors g) =
    sym (mul_assoc (offset / extent_bytes g) 512 (extent_sectors g)) ∙ ap (λ (k : ℕ). k * extent_sectors g) (mul_comm (offset / extent_bytes g) 512)
    ∙ mul_assoc 512 (offset / extent_bytes g) (extent_sectors g) in
    omega arith

pub offset-within : (g : Geometry) → Bounded g → (offset : ℕ) → offset % extent_bytes g < extent_bytes g
offset-within g b offset = mod-lt offset (omega (arith, b.extent-low))

pub sector-within : (g : Geometry) → Bounded g → (s : ℕ) → s % extent_sectors g < extent_sectors g
sector-within g b s = mod-lt s (omega (arith, b.extent-low))

-- ---- the piece of a span that lies in one extent x, which starts at sector start

module _ (img : List ℕ) (g : Geometry) (h : Opened img g) (i offset x start : ℕ)
    (found : x ≡ extent_of (catalogue_of (view img)) i (offset / extent_bytes g)) (at : start ≡ extent_at g x) where
  piece-below : x < g.extents
  piece-below = omega (arith, extent-below img g h i (offset / extent_bytes g))

  pub piece_inside : 512 * volume_sectors g ≤ length img → 512 * start + extent_bytes g ≤ length img
  piece_inside w = rw at (omega (arith, w, extent-inside g x piece-below))

  pub piece_is : (m : ℕ) → offset % extent_bytes g + m ≤ extent_bytes g
      → file_bytes (catalogue_of (view img)) (view img) i offset m ≡ bytes_from img (512 * start + offset % extent_bytes g) m
  unfolding catalogue_of
  piece_is m l =
      let s0 = geometry_in (view img superblock_at) in
      let b : offset % extent_bytes s0 + m ≤ extent_bytes s0 = rw h.is at l in
      let k : start ≡ extent_at s0 (extent_of (catalogue_of (view img)) i (offset / extent_bytes s0)) =
      at ∙ ap (extent_at g) found ∙ ap (λ (q : Geometry). extent_at q (extent_of (catalogue_of (view img)) i (offset / extent_bytes q))) h.is in
      ap (λ (z : ℕ). file_bytes (catalogue_of (view img)) (view img) i z m)
      (offset-split g h.bounded offset ∙ ap (λ (q : Geometry). 512 * (offset / extent_bytes q * extent_sectors q) + offset % extent_bytes q) h.is)
      ∙ piece (catalogue_of (view img)) img i (offset / extent_bytes s0) (offset % extent_bytes s0) m b
      ∙ ap (λ (z : ℕ). bytes_from img (512 * z + offset % extent_bytes s0) m) (sym k)
      ∙ ap (λ (q : Geometry). bytes_from img (512 * start + offset % extent_bytes q) m) (sym h.is)
