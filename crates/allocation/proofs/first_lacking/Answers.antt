-- `allocation::first_lacking` meets its contract. Where no mark of all is missing, none of a file's is.
use Prim.Native.Nat.{◌+◌, ◌-◌}
use mathlib.Core.Path.{◌≡◌, sym, ◌∙◌}
use native.Mathlib.Omega.{arith}
use lib.Dec.{eqb}
use lib.ListN.{get_or}
use Rattle.laws.proofs.Search.{first-none, any_below-no, none-at}
use Rattle.allocation.specs.Marks.{lacks}
use Rattle.allocation.proofs.first_lacking.Goals as goal

pub returns : goal.returns
returns g c =
    let starts = g.S.Start.numbers c.args.starts.now in
    let seen = g.M.Mark.numbers c.args.seen.now in
    let none = none-at (λ k. eqb (get_or seen (0 + k) 0) 0) (c.start.result - 0) (sym c.lacks_mark.ensures ∙ c.if-lacks_mark.false) in
    sym (first-none (lacks starts seen) c.args.m (λ i l.
    any_below-no (λ k. eqb (get_or seen (get_or starts i 0 + k) 0) 0) (get_or starts (i + 1) 0 - get_or starts i 0) (λ k h.
    let z : 0 + (get_or starts i 0 + k) ≡ get_or starts i 0 + k = omega arith in
    rw z at (none (get_or starts i 0 + k) (omega (arith, c.requires.rising.last (i + 1) (omega arith)))))))
