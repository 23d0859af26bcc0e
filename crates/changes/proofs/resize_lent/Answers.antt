-- `changes::resize_lent` meets its contract. The judgement refuses, or `write::resize_lent_in` gives the state and the list.
use mathlib.Core.Path.{◌∙◌}
use lib.ListN.{length}
use Rattle.model.specs.Disk.{view}
use Rattle.model.specs.Lent.{lent_length}
use Rattle.model.specs.Opened.{volume_length}
use Rattle.laws.proofs.Judged.{judged-own, lent-accepted}
use Rattle.write.proofs.Lent.{refused-resize-lent, same-resize-lent, same-resize-list}
use Rattle.changes.proofs.Lengths.{done-number, refusing}
use Rattle.changes.proofs.resize_lent.Goals as goal

pub resize_lent_in-requires : goal.resize_lent_in-requires
resize_lent_in-requires c =
    let a = c.args in
    lent-accepted a.front.now a.count (done-number c.in-Ok.ensures)

pub returns-in-Ok : goal.returns-in-Ok
returns-in-Ok c =
    let a = c.args in
    let d = view a.front.now in
    let len = lent_length (length a.front.now) a.count d in
    let e = judged-own len d (done-number c.in-Ok.ensures) in
    let k = c.resize_lent_in.ensures in record {
      value = k.value ∙ same-resize-lent (volume_length d) len d e a.name.now a.size a.time (length a.list.now);
      list_after = k.list_after ∙ same-resize-list (volume_length d) len d e a.name.now a.size a.time a.list.now;
    }

pub returns-in-Err : goal.returns-in-Err
returns-in-Err c =
    let a = c.args in
    let d = view a.front.now in
    let h =
    refused-resize-lent (lent_length (length a.front.now) a.count d) d a.name.now a.size a.time a.list.now
    _ c.in-Err.ensures (refusing c.in-Err.refusal) in record {
      value = c.refused_writing.ensures ∙ h.0;
      list_after = h.1;
    }
