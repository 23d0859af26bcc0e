-- `volume::superblock_verdict` meets its contract. Refusal 1, 2 or 3 by the first condition that holds, or none.
use borrow.Author.Tests.{lt-ltb, le-ltb}
use Rattle.model.specs.Refusals.{verdict_of}
use Rattle.model.specs.Summary.{superblock_verdict}
use Rattle.volume.proofs.superblock_verdict.Goals as goal

pub returns-then-s-lt512 : goal.returns-then-s-lt512
unfolding superblock_verdict verdict_of
returns-then-s-lt512 c = rw (lt-ltb _ _ c.if-s-lt512.true)

pub returns-then-not-is_volume : goal.returns-then-not-is_volume
unfolding superblock_verdict verdict_of
returns-then-not-is_volume c = rw (le-ltb _ _ c.if-s-lt512.false, ← c.is_volume.ensures, c.if-not-is_volume.true)

pub returns-then-not-in_bounds : goal.returns-then-not-in_bounds
unfolding superblock_verdict verdict_of
returns-then-not-in_bounds c =
    rw (le-ltb _ _ c.if-s-lt512.false, ← c.is_volume.ensures, c.if-not-is_volume.false, ← c.geometry_in-g.ensures, ← c.in_bounds.ensures, c.if-not-in_bounds.true)

pub returns : goal.returns
unfolding superblock_verdict verdict_of
returns c =
    rw (le-ltb _ _ c.if-s-lt512.false, ← c.is_volume.ensures, c.if-not-is_volume.false, ← c.geometry_in-g.ensures, ← c.in_bounds.ensures, c.if-not-in_bounds.false)
