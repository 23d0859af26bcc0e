-- `allocation::faults_in` meets its contract. A misplaced extent, a file that lacks an extent, the file at which the marks ended, or none.
use mathlib.Core.Path.{sym, ◌∙◌}
use Rattle.model.specs.Disk.{view}
use Rattle.allocation.proofs.Marks.{no-marks, starts-down, starts-rise}
use Rattle.allocation.proofs.Verdict.{misplaced-at, lacking-at, stopped-at, nowhere}
use Rattle.allocation.proofs.faults_in.Goals as goal

pub pass_over-requires-clause-marks : goal.pass_over-requires-clause-marks
pass_over-requires-clause-marks g c =
    let f = c.fill_starts-f in
    no-marks c.args.g (view c.args.img.now) f.result _ _ f.ensures.starts c.requires.files_in_bounds.1 c.requires.by_index f.ensures.extents_bound

pub returns-in-Err : goal.returns-in-Err
returns-in-Err g c =
    misplaced-at c.args.g (view c.args.img.now) c.requires.opened.is c.requires.opened.bounded.files-high c.in-Err.e.0 (rw c.in-Err.is at c.pass_over.ensures)

pub first_lacking-requires-clause-rising : goal.first_lacking-requires-clause-rising
first_lacking-requires-clause-rising g c =
    let a = c.args in
    let d = view a.img.now in
    let f = c.fill_starts-f in
    let r = rw c.in-Ok.is at c.pass_over.ensures in
    starts-rise a.g d c.in-Ok.m _ _ (starts-down a.g d f.result c.in-Ok.m _ f.ensures.starts r.lower) r.marks.size

pub returns-in-Some : goal.returns-in-Some
returns-in-Some g c =
    let f = c.fill_starts-f in
    lacking-at c.args.g (view c.args.img.now) c.requires.opened.is c.requires.opened.bounded.files-high f.result c.in-Ok.m _ _ f.ensures.starts
    (rw c.in-Ok.is at c.pass_over.ensures) c.in-Some.i (sym c.in-Some.is ∙ c.first_lacking.ensures)

pub returns-then-m-g : goal.returns-then-m-g
returns-then-m-g g c =
    let f = c.fill_starts-f in
    stopped-at c.args.g (view c.args.img.now) c.requires.opened.is c.requires.opened.bounded.files-high f.result c.in-Ok.m _ _ f.ensures.starts
    (rw c.in-Ok.is at c.pass_over.ensures) (sym c.in_default.is ∙ c.first_lacking.ensures) c.if-m-g.true

pub returns : goal.returns
returns g c =
    let f = c.fill_starts-f in
    nowhere c.args.g (view c.args.img.now) c.requires.opened.is c.requires.opened.bounded.files-high f.result c.in-Ok.m _ _ f.ensures.starts
    (rw c.in-Ok.is at c.pass_over.ensures) (sym c.in_default.is ∙ c.first_lacking.ensures) c.if-m-g.false
