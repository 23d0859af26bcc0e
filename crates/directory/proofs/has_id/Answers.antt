-- `directory::has_id` meets its contract.
use Rattle.std.proofs.Common.{rules, tests}
use native.Mathlib.Nat.{zero-add, sub-zero}
use Prim.Native.Nat.{ℕ}
use mathlib.Core.Bool.{Bool, ◌&&◌}
use mathlib.Core.List.{List}
use lib.Dec.{eqb}
use Rattle.model.specs.Bytes.{number_in}
use Rattle.model.specs.Geometry.{entry_at}
use Rattle.model.specs.Disk.{view}
use Rattle.model.specs.Entry.{entry_field, is_occupied}
use Rattle.laws.proofs.Ranges.{any-below}
use Rattle.directory.proofs.Laws.{id-on}
use Rattle.directory.proofs.has_id.Goals as goal

abbrev hit : List ℕ → ℕ → ℕ → Bool
hit img id i = is_occupied (view img (entry_at i)) && eqb (number_in (view img (entry_at i)) entry_field.id) id

pub returns : goal.returns
returns c =
    let found = any-below _ _ _ _ (hit c.args.img.now c.args.id) c.any.ensures.ran (λ x q k. search (rules, tests)) (λ x q k. search (rules, tests)) in
    rw (id-on (view c.args.img.now) c.args.id, ← c.requires.is) (simp (zero-add, sub-zero) at found)
