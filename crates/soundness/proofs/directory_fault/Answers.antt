-- `soundness::directory_fault` meets its contract. A pass that finds its fault ends the search; the next may rest on its finding none.
use mathlib.Core.Path.{sym, ◌∙◌}
use Rattle.model.specs.Answers.{Sound}
use Rattle.model.specs.Disk.{view}
use Rattle.soundness.proofs.Laws.{at-21, at-22, at-23, at-24, from-25}
use Rattle.soundness.proofs.directory_fault.Goals as goal

pub returns-in-Some : goal.returns-in-Some
returns-in-Some c =
    let s = c in
    at-21 (view s.args.img.now) s.args.g Sound c.in-Some.i (sym c.fault21.ensures ∙ c.in-Some.is)

pub returns-in-Some-fault22 : goal.returns-in-Some-fault22
returns-in-Some-fault22 c =
    let s = c in
    at-22 (view s.args.img.now) s.args.g Sound (sym c.fault21.ensures ∙ c.in_default.is)
    c.in-Some-fault22.i (sym c.fault22.ensures ∙ c.in-Some-fault22.is)

pub fault23-requires : goal.fault23-requires
fault23-requires c = record {
  opened = c.requires;
  files_value = sym c.fault22.ensures ∙ c.in_default-fault22.is;
}

pub returns-in-Some-fault23 : goal.returns-in-Some-fault23
returns-in-Some-fault23 c =
    let s = c in
    at-23 (view s.args.img.now) s.args.g Sound
    (sym c.fault21.ensures ∙ c.in_default.is)
    (sym c.fault22.ensures ∙ c.in_default-fault22.is) c.in-Some-fault23.i
    (sym c.fault23.ensures ∙ c.in-Some-fault23.is)

pub returns-in-Some-fault24 : goal.returns-in-Some-fault24
returns-in-Some-fault24 c =
    let s = c in
    at-24 (view s.args.img.now) s.args.g Sound
    (sym c.fault21.ensures
    ∙ c.in_default.is)
    (sym c.fault22.ensures ∙ c.in_default-fault22.is)
    (sym c.fault23.ensures ∙ c.in_default-fault23.is) c.in-Some-fault24.i
    (sym c.fault24.ensures ∙ c.in-Some-fault24.is)

pub returns : goal.returns
returns c =
    let s = c in
    from-25 (view s.args.img.now) s.args.g Sound
    (sym c.fault21.ensures
    ∙ c.in_default.is)
    (sym c.fault22.ensures ∙ c.in_default-fault22.is)
    (sym c.fault23.ensures ∙ c.in_default-fault23.is)
    (sym c.fault24.ensures ∙ c.in_default-fault24.is)
