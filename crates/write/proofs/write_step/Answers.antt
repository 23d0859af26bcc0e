-- `write::write_step` meets its contract. The sector is taken into the list, or nothing changes.
use Rattle.std.proofs.Common.{refl, sym, ◌∙◌, length, arith}
use Rattle.model.specs.Lent.{write_step, write_step_list}
use Rattle.write.proofs.Lent.{takes-yes}
use Rattle.write.proofs.write_step.Goals as goal

pub complete-requires : goal.complete-requires
complete-requires c =
    let a = c.args in
    let t = takes-yes a.w (length a.bytes.now) (length a.list.now) (sym c.takes_write.ensures ∙ c.if-takes_write.true) in record {
      bytes_len = t.0;
      from_le_to = (t.1, t.2, omega (arith, t.3));
    }

pub returns-then-takes_write : goal.returns-then-takes_write
unfolding write_step write_step_list
returns-then-takes_write c = rw (sym c.takes_write.ensures ∙ c.if-takes_write.true) record { value = c.write_taken.ensures; list_after = c.complete.ensures }

pub returns : goal.returns
unfolding write_step write_step_list
returns c = rw (sym c.takes_write.ensures ∙ c.if-takes_write.false) record { value = c.write_not_taken.ensures; list_after = refl }
