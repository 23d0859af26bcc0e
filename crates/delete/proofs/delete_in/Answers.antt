-- `delete::delete_in` meets its contract. An argument is bad, no file has the name, or the file is deleted.
use Rattle.std.proofs.Common.{arith, ap, sym}
use mathlib.Core.Path.{◌∙◌}
use Rattle.model.specs.declared.Geometry.{Geometry}
use Rattle.model.specs.Disk.{view}
use Rattle.laws.proofs.Judged.{accepted-opened}
use Rattle.laws.proofs.Named.{named-at}
use Rattle.commit.proofs.Decided.{named-short}
use Rattle.delete.proofs.Decisions.{delete-bad, delete-missing, delete-found}
use Rattle.commit.proofs.Clauses.{value_and_list}
use Rattle.delete.proofs.delete_in.Goals as goal

pub returns-then-bad_name_or_time : goal.returns-then-bad_name_or_time
returns-then-bad_name_or_time c =
    let a = c.args in value_and_list (delete-bad a.img.now a.list.now a.name.now a.time c.requires.verdict
    (rw c.geometry_in-g.ensures at (sym c.bad_name_or_time.ensures ∙ c.if-bad_name_or_time.true)))

pub file_named-requires : goal.file_named-requires
file_named-requires c = record {
  opened = accepted-opened _ _ c.geometry_in-g.ensures (omega arith) c.requires;
  name_len_bound = named-short _ _ c.args.time (sym c.bad_name_or_time.ensures ∙ c.if-bad_name_or_time.false);
}

pub returns-in_default : goal.returns-in_default
returns-in_default c =
    let a = c.args in
    let good = rw c.geometry_in-g.ensures at (sym c.bad_name_or_time.ensures ∙ c.if-bad_name_or_time.false) in
    value_and_list (delete-missing a.img.now a.list.now a.name.now a.time c.requires.verdict good (sym c.file_named.ensures ∙ c.in_default.is))

pub delete_file-requires : goal.delete_file-requires
delete_file-requires c =
    let a = c.args in
    let o = accepted-opened _ _ c.geometry_in-g.ensures (omega (arith, c.geometry_in-g.type_inv)) c.requires in
    let low = named-at (view a.img.now) a.name.now c.in-Some.i (sym (sym c.file_named.ensures ∙ c.in-Some.is)) in
    let e = ap (λ (x : Geometry). x.files) o.is in record {
      opened = o;
      i_lt_files = omega arith;
    }

pub returns : goal.returns
returns c =
    let a = c.args in
    let good = rw c.geometry_in-g.ensures at (sym c.bad_name_or_time.ensures ∙ c.if-bad_name_or_time.false) in
    let found = sym c.file_named.ensures ∙ c.in-Some.is in value_and_list (delete-found a.img.now a.list.now a.name.now a.time c.requires.verdict c.in-Some.i good found c.delete_file.ensures)
