-- `soundness::sound_verdict_with` meets its contract. The state is refused, or the scratch is too short, or the first fault gives the verdict.
use Rattle.std.proofs.Common.{arith, ◌<◌, ◌≤◌, length}
use borrow.Author.Tests.{lt-ltb, le-ltb}
use Rattle.model.specs.Scratch.{scratch_numbers}
use Rattle.model.specs.Opened.{Opened}
use Rattle.laws.proofs.Refusals.{opened}
use Rattle.laws.proofs.Results.{refused, handed-on}
use Rattle.soundness.proofs.Laws.{unsound, sound-with-by}
use Rattle.soundness.proofs.sound_verdict_with.Goals as goal

pub returns-in_err-state_verdict-clause-value : goal.returns-in_err-state_verdict-clause-value
returns-in_err-state_verdict-clause-value c =
    rw (handed-on _ c.from_residual.ensures.1, sound-with-by _ _ _ c.state_on.ensures c.in_err-state_verdict.ensures _, refused c.in_err-state_verdict.field-0.0)

pub scratch_numbers-requires : goal.scratch_numbers-requires
scratch_numbers-requires c =
    let o : Opened c.args.img.now c.geometry_in-g.result = opened _ _ c.geometry_in-g.ensures (omega arith) c.requires in
    (o.bounded.files-high, o.bounded.extents-high)

pub returns-then-scratch-scratch_numbers-clause-value : goal.returns-then-scratch-scratch_numbers-clause-value
returns-then-scratch-scratch_numbers-clause-value c =
    let l : length c.args.scratch.now < scratch_numbers c.geometry_in-g.result = omega (arith, c.scratch_numbers.ensures) in
    rw (
      sound-with-by _ _ _ c.state_on.ensures c.in_ok-state_verdict.ensures _,
      ← c.geometry_in-g.ensures,
      lt-ltb (length c.args.scratch.now) (scratch_numbers c.geometry_in-g.result) l,
    )

pub first_fault_with-requires-clause-opened : goal.first_fault_with-requires-clause-opened
first_fault_with-requires-clause-opened c = opened _ _ c.geometry_in-g.ensures (omega arith) c.requires

pub returns-in_err-first_fault_with-clause-value : goal.returns-in_err-first_fault_with-clause-value
returns-in_err-first_fault_with-clause-value c =
    let l : scratch_numbers c.geometry_in-g.result ≤ length c.args.scratch.now = omega (arith, c.scratch_numbers.ensures) in
    rw (
      unsound _ c.from_residual-in_err-first_fault_with.ensures.1,
      sound-with-by _ _ _ c.state_on.ensures c.in_ok-state_verdict.ensures _,
      ← c.geometry_in-g.ensures,
      le-ltb (length c.args.scratch.now) (scratch_numbers c.geometry_in-g.result) l,
      ← c.in_err-first_fault_with.ensures,
    )

pub returns-clause-value : goal.returns-clause-value
returns-clause-value c =
    let l : scratch_numbers c.geometry_in-g.result ≤ length c.args.scratch.now = omega (arith, c.scratch_numbers.ensures) in
    rw (
      sound-with-by _ _ _ c.state_on.ensures c.in_ok-state_verdict.ensures _,
      ← c.geometry_in-g.ensures,
      le-ltb (length c.args.scratch.now) (scratch_numbers c.geometry_in-g.result) l,
      ← c.in_ok-first_fault_with.ensures,
    )
