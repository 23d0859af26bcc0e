-- `allocation::pass_sector` meets its contract. Free extents have no fault 25, and leave the marks as they are.
use Prim.Native.Nat.{ℕ, ◌+◌, ◌-◌, ◌<◌}
use mathlib.Core.Path.{◌≡◌, sym, ap, ◌∙◌}
use native.Mathlib.Omega.{arith}
use lib.Dec.{eqb}
use borrow.Author.Tests.{eqb-true}
use Rattle.model.specs.Disk.{view}
use Rattle.model.specs.Table.{table_file, free_file}
use Rattle.laws.proofs.Search.{all_below-at}
use Rattle.allocation.proofs.Marks.{marks-over}
use Rattle.allocation.proofs.Misplaced.{free-sound}
use Rattle.allocation.proofs.pass_sector.Goals as goal

pub returns-then-all_free : goal.returns-then-all_free
returns-then-all_free g c =
    let a = c.args in
    let d = view a.img.now in
    let f : ℕ → ℕ = table_file a.g d in
    let free : (k : ℕ) → k < 128 → f (a.e + k) ≡ free_file =
    λ k l. eqb-true (f (a.e + k)) free_file (all_below-at (λ j. eqb (f (a.e + j)) free_file) 128 (sym c.all_free.ensures ∙ c.if-all_free.true) k l) in record {
      placed = λ k x y.
          let z : a.e + (k - a.e) ≡ k = omega arith in
          free-sound d a.g c.requires.opened.is k (omega arith) (sym (ap f z) ∙ free (k - a.e) (omega arith));
      marks = marks-over a.g d a.e a.f 128 _ (omega (arith, c.requires.starts.files, c.requires.opened.bounded.files-high)) free c.requires.marks;
      lower = omega arith;
    }
