-- `spans::put_in_extent` meets its contract. The sectors in one extent stand one after the other.
use Prim.Native.Nat.{◌+◌, ◌%◌, ◌≤◌}
use native.Mathlib.Omega.{arith}
use Rattle.model.specs.Geometry.{extent_sectors}
use Rattle.spans.specs.Touched.{span_of}
use Rattle.spans.proofs.Laws.{sector-within}
use Rattle.spans.proofs.Splices.{piece-records}
use Rattle.spans.proofs.put_in_extent.Goals as goal

pub overflow_sub-size : goal.overflow_sub-size
overflow_sub-size c =
    let w = sector-within c.args.g c.requires.opened.bounded c.args.s in
    omega arith

pub put_piece-requires : goal.put_piece-requires
put_piece-requires c =
    let q = c.min-m.ensures in
    let t = c.requires.touched in record {
      record_size_in_bounds = omega arith;
      n_bound = omega (arith, q, c.sector_at-place.ensures.g_bound);
      touched = record { small = t.small; low = t.low; high = omega (arith, t.high) };
      source = c.requires.source;
    }

pub returns : goal.returns
returns c =
    let a = c.args in
    let w = sector-within a.g c.requires.opened.bounded a.s in
    let at = c.sector_at-place in
    let q = c.min-m.ensures in
    let m = c.min-m.result in
    let l : a.s % extent_sectors a.g + m ≤ extent_sectors a.g = omega (arith, w, q) in
    let f = piece-records a.img.now a.g c.requires.opened a.i.0 a.s at.result.0 at.ensures.result_value a.offset (span_of a.bytes.now a.len) m l in
    let p = c.put_piece.ensures in record {
      result_nonzero = (omega (arith, w, q, c.requires.n_nonzero), omega (arith, q));
      emitted = rw (f, p.value) at p.emitted;
    }
