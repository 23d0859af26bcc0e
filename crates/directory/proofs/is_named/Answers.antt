-- `directory::is_named` meets its contract. The bytes are compared, or the lengths differ.
use Prim.Native.Nat.{◌+◌}
use mathlib.Core.Path.{◌≡◌, sym, ◌∙◌}
use native.Mathlib.Omega.{arith}
use lib.ListN.{length}
use borrow.Author.Tests.{eqb-true, eqb-false}
use Rattle.model.specs.Bytes.{bytes_from}
use Rattle.model.specs.Edition.{layout_of}
use Rattle.model.specs.Entry.{name_in}
use Rattle.laws.proofs.Search.{same_length}
use Rattle.laws.proofs.Bytes.{bytes_from-bytes_from}
use Rattle.laws.proofs.Entry.{length-name_in}
use Rattle.directory.proofs.is_named.Goals as goal
use Rattle.directory.proofs.is_named.Goals.{then-is_occupied, else-is_occupied}

pub returns-then-name_length-name : goal.returns-then-name_length-name
unfolding name_in
returns-then-name_length-name c =
    let s = c.args.s.now in
    let n = length c.args.name.now in
    let l = layout_of c.args.edition in
    let whole : l.name + 0 ≡ l.name = omega arith in
    let e : bytes_from s l.name n ≡ bytes_from (bytes_from s l.name l.longest_name) 0 n =
    sym (rw whole at (bytes_from-bytes_from s l.name l.longest_name 0 n (omega arith))) in
    elim c.if-is_occupied.branch [
      | then-is_occupied w ↦
          let same = eqb-true _ _ (sym w.value-is ∙ c.if-name_length-name.true) in
          rw (← c.is_occupied.ensures, w.if-is_occupied.true, ← w.name_length.ensures, same, e, ← c.name_part.ensures.result_value) c.starts_with.ensures
      | else-is_occupied w ↦ cc
    ]

pub returns-else-name_length-name : goal.returns-else-name_length-name
returns-else-name_length-name c =
    let name = name_in c.args.edition c.args.s.now in
    elim c.if-is_occupied.branch [
      | then-is_occupied w ↦
          let other = eqb-false _ _ (sym w.value-is ∙ c.if-name_length-name.false) in
          let e : length name ≡ w.name_length.result = length-name_in c.args.edition c.args.s.now ∙ sym w.name_length.ensures in
          rw (c.if-name_length-name.false, ← c.is_occupied.ensures, w.if-is_occupied.true) (sym (same_length name c.args.name.now (λ h. other (sym e ∙ h))))
      | else-is_occupied w ↦ rw (w.value-is, ← c.is_occupied.ensures, w.if-is_occupied.false)
    ]
