-- `lines::entry_line` meets its contract. Fault 21, fault 22, an occupied entry's line, or a free entry.
use Rattle.model.specs.Entry.{entry_in}
use Rattle.model.specs.Lines.{entry_line}
use Rattle.laws.proofs.Entry.{length-name_in}
use Rattle.lines.proofs.entry_line.Goals as goal

pub returns-then-bad_mark_in : goal.returns-then-bad_mark_in
unfolding entry_line
returns-then-bad_mark_in c = rw (← c.bad_mark_in.ensures, c.if-bad_mark_in.true)

pub returns-then-bad_entry_in : goal.returns-then-bad_entry_in
unfolding entry_line entry_in
returns-then-bad_entry_in c =
    let b = c in
    let o = b in
    rw (
      ← o.bad_mark_in.ensures,
      o.if-bad_mark_in.false,
      ← o.is_occupied.ensures,
      b.if-is_occupied.true,
      ← b.most_bytes.ensures,
      ← b.bad_entry_in.ensures,
      c.if-bad_entry_in.true,
    )

pub returns-then-is_occupied : goal.returns-then-is_occupied
unfolding entry_line entry_in
returns-then-is_occupied c =
    let b = c in
    let o = b in
    let a = o.args in
    rw (
      ← o.bad_mark_in.ensures,
      o.if-bad_mark_in.false,
      ← o.is_occupied.ensures,
      b.if-is_occupied.true,
      ← b.most_bytes.ensures,
      ← b.bad_entry_in.ensures,
      c.if-bad_entry_in.false,
      length-name_in a.g.edition a.s.now,
    ) c.file_line.ensures

pub returns : goal.returns
unfolding entry_line
returns c = rw (← c.bad_mark_in.ensures, c.if-bad_mark_in.false, ← c.is_occupied.ensures, c.if-is_occupied.false)
