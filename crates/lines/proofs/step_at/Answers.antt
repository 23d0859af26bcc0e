-- `lines::step_at` meets its contract. A case for each sector awaited.
use Rattle.std.proofs.Common.{sym, subst}
use Rattle.std.specs.Prelude.{Some}
use Rattle.lines.specs.declared.Awaited.{Awaited}
use Rattle.lines.specs.declared.Step.{Step}
use Rattle.lines.specs.Steps.{Kept}
use Rattle.lines.proofs.Laws.{root_kept, entry-step-kept}
use Rattle.lines.proofs.step_at.Goals as goal

abbrev KeptBy : Awaited → Type 0
KeptBy w = Kept (Some w)

abbrev KeptAfter : Step → Type 0
KeptAfter r = Kept r.next

pub entry_step-requires : goal.entry_step-requires
entry_step-requires c =
    let k = subst KeptBy c.in-Entry.is c.requires.kept in record {
      bounded = k.0;
      i_lt_files = k.1;
      s_len_bound = c.requires.s_len_bound;
    }

pub returns-in-Root : goal.returns-in-Root
returns-in-Root c =
    let a = c.in-Root in
    let k = subst KeptAfter (sym c.root_step.ensures) (root_kept c.args.s.now a.g (subst KeptBy a.is c.requires.kept)) in
    rw a.is record { value = c.root_step.ensures; kept_2 = k }

pub returns-in-Entry : goal.returns-in-Entry
returns-in-Entry c =
    let a = c.in-Entry in
    let k = subst KeptBy a.is c.requires.kept in
    let r = subst KeptAfter (sym c.entry_step.ensures) (entry-step-kept c.args.s.now a.g a.i k.0) in
    rw a.is record { value = c.entry_step.ensures; kept_2 = r }
