-- A read that is given its data sectors one after the other (T-11): what it asks for first, and a step. Assumes nothing.
use Prim.Native.Nat.{ℕ, ◌+◌, ◌*◌, ◌-◌, ◌/◌, ◌%◌, ◌≤◌, ◌<◌}
use mathlib.Core.Path.{◌≡◌, sym, ap, ap₂, ◌∙◌}
use mathlib.Core.Bool.{true, false, cond, ◌&&◌}
use mathlib.Core.List.{List}
use native.Mathlib.Nat.{div-le_self, div-div-eq-div-mul, mul_comm}
use native.Mathlib.Omega.{arith}
use lib.Arith.{mod-mul}
use lib.Dec.{eqb, leb, ltb}
use lib.ListN.{length}
use borrow.Author.Tests.{eqb-true, ltb-true, leb-true, eq-eqb, ne_eqb}
use Rattle.model.specs.Answers.{BytesRead}
use Rattle.model.specs.declared.Geometry.{Geometry}
use Rattle.model.specs.declared.Reading.{Reading}
use Rattle.model.specs.Bytes.{bytes_from, put}
use Rattle.model.specs.Geometry.{extent_sectors, extent_bytes, superblock_at, extent_at}
use Rattle.model.specs.Disk.{view}
use Rattle.model.specs.Superblock.{geometry_in}
use Rattle.model.specs.Catalogue.{Catalogue, catalogue_of, extent_of, sector_of}
use Rattle.model.specs.WriteList.{barrier_number}
use Rattle.model.specs.Lent.{is_asked, read_idle, read_asking, read_begun, read_part, takes_read, read_step, read_step_output}
use Rattle.model.specs.Opened.{Opened}
use Rattle.laws.proofs.Booleans.{and_left, and_right}

-- ---- the first sector

-- there are fewer extents than sectors before an offset
pub extents-few : (size offset : ℕ) → offset / (512 * size) ≤ offset / 512
extents-few size offset = rw (← div-div-eq-div-mul offset 512 size) (div-le_self (offset / 512) size)

sector-in : (size offset : ℕ) → 0 < size → offset % (512 * size) / 512 ≡ offset / 512 % size
sector-in size offset w =
    let e : offset % (512 * size) ≡ offset / 512 % size * 512 + offset % 512 =
    ap (λ (z : ℕ). offset % z) (mul_comm 512 size) ∙ mod-mul offset {m = size} {c = 512} w (let z : 0 < 512 = omega arith in z) in
    omega (arith, e)

first-sector : (c : Catalogue) (i offset : ℕ) → 0 < extent_sectors c.geometry
    → extent_at c.geometry (extent_of c i (offset / extent_bytes c.geometry)) + offset % extent_bytes c.geometry / 512 ≡ sector_of c i (offset / 512)
unfolding sector_of
first-sector c i offset w =
    let size = extent_sectors c.geometry in
    ap₂ (λ (x y : ℕ). extent_at c.geometry (extent_of c i x) + y) (sym (div-div-eq-div-mul offset 512 size)) (sector-in size offset w)

geometry-on : (img : List ℕ) (g : Geometry) → g ≡ geometry_in (view img superblock_at) → g ≡ (catalogue_of (view img)).geometry
unfolding catalogue_of
geometry-on img g is = is

asking-by : (c : Catalogue) (i offset : ℕ) (a : BytesRead) (wanted edge next : ℕ) → wanted ≡ sector_of c i (offset / 512)
    → edge ≡ extent_bytes c.geometry - offset % extent_bytes c.geometry → next ≡ extent_at c.geometry (extent_of c i (offset / extent_bytes c.geometry + 1))
    → record {
      code = a.verdict.number;
      fault = a.verdict.fault;
      place = a.verdict.place;
      count = a.count;
      length = a.length;
      wanted = wanted;
      skip = offset % 512;
      done = 0;
      edge = edge;
      next = next;
    } ≡ read_asking c i offset a
asking-by c i offset a wanted edge next p q r = rw (p, q, r)

-- x is the extent of the first byte and starts at sector start; y is the file's next and starts at sector next
pub asking-is : (img : List ℕ) (g : Geometry) → Opened img g → (i offset : ℕ) (a : BytesRead) (x y start next : ℕ)
    → x ≡ extent_of (catalogue_of (view img)) i (offset / extent_bytes g) → start ≡ extent_at g x
    → y ≡ extent_of (catalogue_of (view img)) i (offset / extent_bytes g + 1) → next ≡ extent_at g y
    → record {
      code = a.verdict.number;
      fault = a.verdict.fault;
      place = a.verdict.place;
      count = a.count;
      length = a.length;
      wanted = start + offset % extent_bytes g / 512;
      skip = offset % 512;
      done = 0;
      edge = extent_bytes g - offset % extent_bytes g;
      next = next;
    } ≡ read_asking (catalogue_of (view img)) i offset a
asking-is img g h i offset a x y start next ex es ey en =
    let c = catalogue_of (view img) in
    let same = geometry-on img g h.is in
    let w : 0 < extent_sectors c.geometry = let s = ap (λ (q : Geometry). extent_sectors q) same in omega (arith, h.bounded.extent-low, s) in
    asking-by c i offset a _ _ _
    (ap (λ (z : ℕ). z + offset % extent_bytes g / 512) (es ∙ ap (extent_at g) ex)
    ∙ ap (λ (q : Geometry). extent_at q (extent_of c i (offset / extent_bytes q)) + offset % extent_bytes q / 512) same ∙ first-sector c i offset w)
    (ap (λ (q : Geometry). extent_bytes q - offset % extent_bytes q) same)
    (en ∙ ap (extent_at g) ey ∙ ap (λ (q : Geometry). extent_at q (extent_of c i (offset / extent_bytes q + 1))) same)

-- bytes are given, or none
module _ (c : Catalogue) (i offset : ℕ) (a : BytesRead) where
  pub begun-none : a.count ≡ 0 → read_idle a ≡ read_begun c i offset a
  unfolding read_begun
  begun-none e = rw (eq-eqb a.count 0 e)

  pub begun-some : (a.count ≡ 0 → ⊥) → read_asking c i offset a ≡ read_begun c i offset a
  unfolding read_begun
  begun-some h = rw (ne_eqb a.count 0 h)

-- ---- a step

-- what a step that is taken tells
pub record Takes (r : Reading) (n room : ℕ) : Type 0 where
  pub asks : 0 < r.wanted
  pub below : r.wanted < barrier_number
  pub whole : n ≡ 512
  pub inside : r.skip < 512
  pub left : r.done < r.count
  pub fits : r.count ≤ room

module _ (r : Reading) (n room : ℕ) where
  pub takes : takes_read r n room ≡ true → Takes r n room
  unfolding takes_read is_asked
  takes t =
      let asked = ltb 0 r.wanted && ltb r.wanted barrier_number in
      let sector = asked && eqb n 512 in
      let inside = sector && ltb r.skip 512 in
      let some = inside && ltb r.done r.count in
      let s = and_left some (leb r.count room) t in
      let i = and_left inside (ltb r.done r.count) s in
      let k = and_left sector (ltb r.skip 512) i in
      let a = and_left asked (eqb n 512) k in
      record {
        asks = ltb-true 0 r.wanted (and_left (ltb 0 r.wanted) (ltb r.wanted barrier_number) a);
        below = ltb-true r.wanted barrier_number (and_right (ltb 0 r.wanted) (ltb r.wanted barrier_number) a);
        whole = eqb-true n 512 (and_right asked (eqb n 512) k);
        inside = ltb-true r.skip 512 (and_right sector (ltb r.skip 512) i);
        left = ltb-true r.done r.count (and_right inside (ltb r.done r.count) s);
        fits = leb-true r.count room (and_right some (leb r.count room) t);
      }

-- the part of the sector that is copied stands in it, and in the output
pub part-fits : (r : Reading) (n room p : ℕ) → Takes r n room → p ≡ read_part r → (p ≤ 512) × ((r.skip + p ≤ n) × (r.done + p ≤ room))
part-fits r n room p t e = (omega (arith, e), (omega (arith, t.whole, t.inside, e), omega (arith, t.left, t.fits, e)))

pub step-taken : (r : Reading) (bytes out o : List ℕ) (p w : ℕ) → takes_read r (length bytes) (length out) ≡ true → p ≡ read_part r
    → w ≡ cond (eqb (r.done + p) r.count) 0 (cond (eqb (r.done + p) r.edge) r.next (r.wanted + 1)) → o ≡ put out r.done (bytes_from bytes r.skip p)
    → (record {
      code = 0;
      fault = r.fault;
      place = r.place;
      count = r.count;
      length = r.length;
      wanted = w;
      skip = 0;
      done = r.done + p;
      edge = r.edge;
      next = r.next;
    } ≡ read_step r (length bytes) (length out)) × (o ≡ read_step_output r bytes out)
unfolding read_step read_step_output
step-taken r bytes out o p w t e f m = (rw (t, f, e), rw t (m ∙ ap (λ (z : ℕ). put out r.done (bytes_from bytes r.skip z)) e))

pub step-refused : (r : Reading) (bytes out : List ℕ) → takes_read r (length bytes) (length out) ≡ false
    → (record {
      code = 8;
      fault = r.fault;
      place = r.place;
      count = r.count;
      length = r.length;
      wanted = r.wanted;
      skip = r.skip;
      done = r.done;
      edge = r.edge;
      next = r.next;
    } ≡ read_step r (length bytes) (length out)) × (out ≡ read_step_output r bytes out)
unfolding read_step read_step_output
step-refused r bytes out t = (rw t, rw t)
