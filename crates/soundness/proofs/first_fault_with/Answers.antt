-- `soundness::first_fault_with` meets its contract. As `first_fault`; the scratch keeps its length from pass to pass.
use mathlib.Core.Path.{sym, ◌∙◌}
use native.Mathlib.Omega.{arith}
use Rattle.model.specs.Disk.{view}
use Rattle.allocation.specs.Marks.{table_fault}
use Rattle.soundness.proofs.Laws.{in_order, at-21, at-22, at-23, at-24, from-25}
use Rattle.soundness.proofs.first_fault_with.Goals as goal

pub returns-in-Some : goal.returns-in-Some
returns-in-Some c =
    let s = c in
    rw (in_order (view s.args.img.now) s.args.g s.requires.opened.is)
    (at-21 (view s.args.img.now) s.args.g (table_fault s.args.g (view s.args.img.now)) c.in-Some.i (sym c.fault21.ensures
    ∙ c.in-Some.is))

pub returns-in-Some-fault22 : goal.returns-in-Some-fault22
returns-in-Some-fault22 c =
    let s = c in
    rw (in_order (view s.args.img.now) s.args.g s.requires.opened.is)
    (at-22 (view s.args.img.now) s.args.g (table_fault s.args.g (view s.args.img.now)) (sym c.fault21.ensures
    ∙ c.in_default.is)
    c.in-Some-fault22.i (sym c.fault22.ensures ∙ c.in-Some-fault22.is))

pub fault23_with-requires : goal.fault23_with-requires
fault23_with-requires c = let s = c in record {
  opened = s.requires.opened;
  files_value = sym c.fault22.ensures
      ∙ c.in_default-fault22.is;
  files_in_bounds = omega (arith, s.requires.g_in_bounds);
}

pub returns-in-Some-fault23_with : goal.returns-in-Some-fault23_with
returns-in-Some-fault23_with c =
    let s = c in
    rw (in_order (view s.args.img.now) s.args.g s.requires.opened.is)
    (at-23 (view s.args.img.now) s.args.g (table_fault s.args.g (view s.args.img.now))
    (sym c.fault21.ensures
    ∙ c.in_default.is)
    (sym c.fault22.ensures
    ∙ c.in_default-fault22.is) c.in-Some-fault23_with.i
    (sym c.fault23_with.ensures ∙ c.in-Some-fault23_with.is))

pub fault24_with-requires : goal.fault24_with-requires
fault24_with-requires c =
    let s = c in record {
      opened = s.requires.opened;
      files_in_bounds = omega (arith, s.requires.g_in_bounds, c.fault23_with.auto.scratch);
    }

pub returns-in-Some-fault24_with : goal.returns-in-Some-fault24_with
returns-in-Some-fault24_with c =
    let s = c in
    rw (in_order (view s.args.img.now) s.args.g s.requires.opened.is)
    (at-24 (view s.args.img.now) s.args.g (table_fault s.args.g (view s.args.img.now))
    (sym c.fault21.ensures
    ∙ c.in_default.is)
    (sym c.fault22.ensures
    ∙ c.in_default-fault22.is)
    (sym c.fault23_with.ensures
    ∙ c.in_default-fault23_with.is) c.in-Some-fault24_with.file
    (sym c.fault24_with.ensures ∙ c.in-Some-fault24_with.is))

pub faults_by-requires : goal.faults_by-requires
faults_by-requires c =
    let s = c in
    let kept = c.fault23_with.auto.scratch in record {
      opened = s.requires.opened;
      extents_in_bounds = omega (arith, s.requires.g_in_bounds, s.requires.opened.bounded.files-low, kept, c.fault24_with.auto.scratch);
    }

pub returns : goal.returns
returns c =
    let b = c in
    let s = b in
    rw (in_order (view s.args.img.now) s.args.g s.requires.opened.is)
    (c.faults_by.ensures ∙ from-25 (view s.args.img.now) s.args.g (table_fault s.args.g (view s.args.img.now))
    (sym c.fault21.ensures
    ∙ c.in_default.is)
    (sym c.fault22.ensures
    ∙ c.in_default-fault22.is)
    (sym c.fault23_with.ensures
    ∙ c.in_default-fault23_with.is)
    (sym c.fault24_with.ensures ∙ c.in_default-fault24_with.is))
