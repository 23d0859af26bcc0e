-- `spans::put_data_sector` meets its contract. The span covers the sector, or is spliced into its old bytes.
use Prim.Native.Nat.{ℕ, ◌+◌, ◌*◌, min}
use mathlib.Core.Path.{sym, ap, ◌∙◌}
use Rattle.model.specs.Disk.{view}
use Rattle.laws.proofs.Disk.{length-view}
use Rattle.spans.specs.Touched.{span_of}
use Rattle.spans.proofs.Sources.{length-span}
use Rattle.spans.proofs.Splices.{splice-part, splice-whole}
use Rattle.spans.proofs.put_data_sector.Goals as goal

pub returns-then-to-from-eq512 : goal.returns-then-to-from-eq512
returns-then-to-from-eq512 c =
    let a = c.args in
    let d = view a.img.now a.place.0 in
    let span = span_of a.bytes.now a.len in
    let from = c.max-from in
    let to = c.min-to in
    let last = to.ensures ∙ ap (λ (x : ℕ). min (a.offset + x) (512 * a.s + 512)) (sym (length-span a.bytes.now a.len)) in
    let whole = c.if-to-from-eq512.true in
    rw (
      ← splice-whole a.offset a.s span d from.result to.result from.ensures last (length-view a.img.now a.place.0) whole,
      ← rw whole at c.place_in-at.ensures.n_value,
    )
    c.put_from.ensures

pub returns : goal.returns
returns c =
    let a = c.args in
    let d = view a.img.now a.place.0 in
    let span = span_of a.bytes.now a.len in
    let from = c.max-from in
    let to = c.min-to in
    let last = to.ensures ∙ ap (λ (x : ℕ). min (a.offset + x) (512 * a.s + 512)) (sym (length-span a.bytes.now a.len)) in
    rw (
      ← splice-part a.offset a.s span d from.result to.result from.ensures last,
      ← c.place_in-at.ensures.n_value,
      ← c.shown-a.ensures,
      ← c.copy_bytes.ensures,
    )
    c.put_sector.ensures
