-- The loop ends: each turn leaves fewer sectors to be read, at most F + 2 of them. What it keeps: what is awaited is in bounds.
use Rattle.lines.specs.Steps.{Kept, left}
use Rattle.listing.proofs.main.Given as goal

abbrev pub invariant-loop-rt : goal.invariant-loop-rt
invariant-loop-rt l = Kept l.next

abbrev pub decreases-loop-rt : goal.decreases-loop-rt
decreases-loop-rt l = left l.next
