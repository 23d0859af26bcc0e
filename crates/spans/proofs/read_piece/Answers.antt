-- `spans::read_piece` meets its contract. What of a span lies in one extent is a run of bytes of the image.
use Prim.Native.Nat.{◌+◌, ◌/◌, ◌%◌, ◌≤◌}
use native.Mathlib.Omega.{arith}
use Rattle.model.specs.Geometry.{extent_bytes}
use Rattle.spans.proofs.Laws.{extent-below, offset-within, piece_inside, piece_is}
use Rattle.spans.proofs.read_piece.Goals as goal

pub extent_at-start-requires : goal.extent_at-start-requires
extent_at-start-requires c =
    let a = c.args in
    let opened = c.requires.opened in record {
      bounded = opened.bounded;
      e_le_extents = omega (arith, c.extent_of.ensures.result_value, extent-below a.img.now a.g opened a.i.0 (a.offset / extent_bytes a.g));
    }

pub overflow_sub-e : goal.overflow_sub-e
overflow_sub-e c = omega (arith, offset-within c.args.g c.requires.opened.bounded c.args.offset)

pub overflow_mul-start : goal.overflow_mul-start
overflow_mul-start c =
    let a = c.args in
    let e = c.extent_of in
    let at = c.extent_at-start in
    omega (arith, piece_inside a.img.now a.g c.requires.opened a.i.0 a.offset e.result.0 at.result.0 e.ensures.result_value at.ensures c.requires.g_in_bounds)

pub overflow_add-start : goal.overflow_add-start
overflow_add-start c =
    let a = c.args in
    let e = c.extent_of in
    let at = c.extent_at-start in
    let w = offset-within a.g c.requires.opened.bounded a.offset in
    omega (arith, piece_inside a.img.now a.g c.requires.opened a.i.0 a.offset e.result.0 at.result.0 e.ensures.result_value at.ensures c.requires.g_in_bounds)

pub copy_bytes-requires : goal.copy_bytes-requires
copy_bytes-requires c =
    let a = c.args in
    let e = c.extent_of in
    let at = c.extent_at-start in
    let w = offset-within a.g c.requires.opened.bounded a.offset in
    omega (arith, piece_inside a.img.now a.g c.requires.opened a.i.0 a.offset e.result.0 at.result.0 e.ensures.result_value at.ensures c.requires.g_in_bounds)

pub returns : goal.returns
returns c =
    let a = c.args in
    let m = c.min-m.result in
    let w = offset-within a.g c.requires.opened.bounded a.offset in
    let l : a.offset % extent_bytes a.g + m ≤ extent_bytes a.g = omega arith in
    let e = c.extent_of in
    let at = c.extent_at-start in record {
      result_nonzero = (omega arith, omega arith);
      out_after = rw (piece_is a.img.now a.g c.requires.opened a.i.0 a.offset e.result.0 at.result.0 e.ensures.result_value at.ensures m l) c.copy_bytes.ensures;
    }
