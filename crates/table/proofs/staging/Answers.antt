-- `table::staging` meets its contract. The loop's invariant: the free extents from e on stand in the last places of the reserve's, from place k on.
use Prim.Native.Nat.{◌≤◌}
use mathlib.Core.Path.{refl}
use native.Mathlib.Omega.{arith}
use Rattle.model.specs.Disk.{view}
use Rattle.model.specs.Catalogue.{catalogue_of}
use Rattle.table.proofs.Laws.{geometry-of}
use Rattle.table.proofs.Stages.{reserve-five, search-start, search-more, search-failed, search-done, search-found}
use Rattle.table.proofs.staging.Goals as goal

pub loop-k-init : goal.loop-k-init
loop-k-init c =
    let most : c.reserve_extents-k.result ≤ 5 = rw c.reserve_extents-k.ensures (reserve-five c.args.g c.requires.bounded) in
    (most, refl, rw c.reserve_extents-k.ensures (search-start c.args.g (catalogue_of (view c.args.img.now)) c.requires.bounded))

pub highest_free-requires-clause-end_le_extents : goal.highest_free-requires-clause-end_le_extents
highest_free-requires-clause-end_le_extents c = c.loop-k.invariant.2.within

pub returns-in_err-e-clause-lacking : goal.returns-in_err-e-clause-lacking
returns-in_err-e-clause-lacking c =
    let d = view c.args.img.now in
    rw c.from_residual.ensures
    (search-failed c.args.g (catalogue_of d) c.requires.bounded c.loop-k.invariant.2 (geometry-of d c.args.g c.requires.is) (omega arith) c.in_err-e.ensures)

pub loop-k-preserved : goal.loop-k-preserved
loop-k-preserved c =
    let more = search-more c.args.g (catalogue_of (view c.args.img.now)) c.requires.bounded c.loop-k.invariant.2 c.in_ok-e.e (omega arith) c.in_ok-e.ensures in
    (omega arith, more.five, more)

pub returns-clause-lacking : goal.returns-clause-lacking
returns-clause-lacking c =
    let d = view c.args.img.now in
    search-done c.args.g (catalogue_of d) c.requires.bounded c.loop-k.invariant.2 (geometry-of d c.args.g c.requires.is) (λ l. omega arith)

pub returns-clause-stages_of : goal.returns-clause-stages_of
returns-clause-stages_of c =
    let d = view c.args.img.now in
    search-found c.args.g d c.requires.bounded c.loop-k.invariant.2 (geometry-of d c.args.g c.requires.is) (λ l. omega arith)
