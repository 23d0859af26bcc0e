-- `rename::rename_in` meets its contract. A bad name or time, no file, the same name, or another.
use mathlib.Core.Path.{sym, ap, ◌∙◌}
use mathlib.Core.Bool.{◌||◌}
use native.Mathlib.Omega.{arith}
use Rattle.model.specs.declared.Geometry.{Geometry}
use Rattle.model.specs.Disk.{view}
use Rattle.model.specs.Edition.{bad_time}
use Rattle.model.specs.Entry.{bad_name, bad_new_name}
use Rattle.laws.proofs.Booleans.{or-none}
use Rattle.laws.proofs.Judged.{accepted-opened}
use Rattle.laws.proofs.Named.{named-at, short-name}
use Rattle.laws.proofs.Entry.{new-name-good}
use Rattle.commit.proofs.Decided.{named-short}
use Rattle.commit.proofs.Clauses.{value_and_list}
use Rattle.rename.proofs.Decisions.{rename-bad, rename-missing, rename-itself, rename-other}
use Rattle.rename.proofs.rename_in.Goals as goal

pub returns-then-bad_argument : goal.returns-then-bad_argument
returns-then-bad_argument c =
    let a = c.args in
    value_and_list (rename-bad a.img.now a.list.now a.old.now a.new.now a.time c.requires.verdict
    (rw c.geometry_in-g.ensures at (sym c.bad_argument.ensures ∙ c.if-bad_argument.true)))

pub file_named-requires : goal.file_named-requires
file_named-requires c =
    let a = c.args in
    let e = c.geometry_in-g.result.edition in
    let good = or-none (bad_time e a.time || bad_name e a.old.now) (bad_new_name e a.new.now) (sym c.bad_argument.ensures ∙ c.if-bad_argument.false) in record {
      opened = accepted-opened _ _ c.geometry_in-g.ensures (omega arith) c.requires;
      name_len_bound = named-short e a.old.now a.time good.0;
    }

pub returns-in_default : goal.returns-in_default
returns-in_default c =
    let a = c.args in
    let good = rw c.geometry_in-g.ensures at (sym c.bad_argument.ensures ∙ c.if-bad_argument.false) in
    value_and_list (rename-missing a.img.now a.list.now a.old.now a.new.now a.time c.requires.verdict good (sym c.in_default.ensures))

pub returns-then-is_same : goal.returns-then-is_same
returns-then-is_same c =
    let a = c.args in
    let good = rw c.geometry_in-g.ensures at (sym c.bad_argument.ensures ∙ c.if-bad_argument.false) in
    value_and_list (rename-itself a.img.now a.list.now a.old.now a.new.now a.time c.requires.verdict c.in-Some.i good (sym c.in-Some.ensures)
    (sym c.is_same.ensures ∙ c.if-is_same.true))

pub rename_file-requires : goal.rename_file-requires
rename_file-requires c =
    let a = c.args in
    let e = c.geometry_in-g.result.edition in
    let good = or-none (bad_time e a.time || bad_name e a.old.now) (bad_new_name e a.new.now) (sym c.bad_argument.ensures ∙ c.if-bad_argument.false) in
    let o = accepted-opened _ _ c.geometry_in-g.ensures (omega (arith, c.geometry_in-g.type_inv)) c.requires in
    let low = named-at (view a.img.now) a.old.now c.in-Some.i c.in-Some.ensures in
    let h = ap (λ (x : Geometry). x.files) o.is in record {
      opened = o;
      i_lt_files = (omega arith, short-name e a.new.now (new-name-good e a.new.now good.1));
    }

pub returns : goal.returns
returns c =
    let a = c.args in
    let good = rw c.geometry_in-g.ensures at (sym c.bad_argument.ensures ∙ c.if-bad_argument.false) in
    value_and_list (rename-other a.img.now a.list.now a.old.now a.new.now a.time c.requires.verdict c.in-Some.i good (sym c.in-Some.ensures)
    (sym c.is_same.ensures ∙ c.if-is_same.false) c.rename_file.ensures)
