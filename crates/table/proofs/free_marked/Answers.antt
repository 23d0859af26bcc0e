-- `table::free_marked` meets its contract. The loop's invariant: the entries passed are freed where they are marked.
use Rattle.std.proofs.Common.{rules}
use mathlib.Core.Path.{refl}
use Rattle.model.specs.Table.{freed_in}
use Rattle.laws.proofs.Freeing.{freed-more}
use Rattle.table.proofs.free_marked.Goals as goal

pub loop-k-init : goal.loop-k-init
unfolding freed_in
loop-k-init c = (refl, search rules)

pub loop-k-preserved : goal.loop-k-preserved
loop-k-preserved c = (rw (freed-more, ← c.loop-k.invariant.0) c.free_one.ensures, search rules)
