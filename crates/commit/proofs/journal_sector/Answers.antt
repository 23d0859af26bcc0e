-- `commit::journal_sector` meets its contract. The entries are those of `entries_in`: 32, or as many as are left.
use Prim.Native.Nat.{ℕ, ◌-◌, ◌*◌, min}
use mathlib.Core.Path.{◌≡◌, ap, ◌∙◌}
use native.Mathlib.Omega.{arith}
use lib.ListN.{get_or}
use Rattle.model.specs.Journal.{entries_in, journal_sector}
use Rattle.model.specs.WriteList.{stage_in}
use Rattle.commit.proofs.journal_sector.Goals as goal

pub returns : goal.returns
unfolding journal_sector
returns c =
    let a = c.args in
    let m : c.min.result ≡ min 32 (a.n - 32 * a.j) = omega arith in
    c.entries_in.ensures ∙ ap (λ (m : ℕ). entries_in (stage_in a.g a.stages.now) (λ k. get_or a.numbers.now k 0) (32 * a.j) m) m
