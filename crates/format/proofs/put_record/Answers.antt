-- `format::put_record` meets its contract. Each return is a case of the definition.
use Prim.Native.Nat.{◌+◌, ◌-◌}
use mathlib.Core.Path.{◌≡◌}
use native.Mathlib.Omega.{arith}
use borrow.Author.Tests.{eq-eqb, ne_eqb, lt-ltb, le-ltb}
use Rattle.model.specs.Format.{format_record}
use Rattle.format.proofs.put_record.Goals as goal

pub returns-then-p-eq0 : goal.returns-then-p-eq0
unfolding format_record
returns-then-p-eq0 c = λ a i m t. rw (eq-eqb _ _ c.if-p-eq0.true, ← c.new.ensures) c.put_sector.ensures

pub returns-then-p-eq1 : goal.returns-then-p-eq1
unfolding format_record
returns-then-p-eq1 c = λ a i m t. rw (ne_eqb _ _ c.if-p-eq0.false, eq-eqb _ _ c.if-p-eq1.true) c.put_barrier.ensures

pub returns-then-p-eq2 : goal.returns-then-p-eq2
unfolding format_record
returns-then-p-eq2 c = λ a i m t.
    rw (ne_eqb _ _ c.if-p-eq0.false, ne_eqb _ _ c.if-p-eq1.false, eq-eqb _ _ c.if-p-eq2.true, i, m, t, ← c.new-then-p-eq2.ensures)
    c.put_sector-then-p-eq2.ensures

pub returns-then-p-table : goal.returns-then-p-table
unfolding format_record
returns-then-p-table c = λ a i m t.
    rw (
      ne_eqb _ _ c.if-p-eq0.false,
      ne_eqb _ _ c.if-p-eq1.false,
      ne_eqb _ _ c.if-p-eq2.false,
      lt-ltb _ _ c.if-p-table.true,
      ← c.sector.ensures,
      ← c.zero_sector.ensures,
    )
    c.put_sector-then-p-table.ensures

pub returns-then-p-table_end : goal.returns-then-p-table_end
unfolding format_record
returns-then-p-table_end c = λ a i m t.
    let at : c.args.p - 3 - c.args.g.files ≡ c.args.p - (3 + c.args.g.files) = omega arith in
    rw (
      ne_eqb _ _ c.if-p-eq0.false,
      ne_eqb _ _ c.if-p-eq1.false,
      ne_eqb _ _ c.if-p-eq2.false,
      le-ltb _ _ c.if-p-table.false,
      ← c.table_sectors.ensures,
      lt-ltb _ _ c.if-p-table_end.true,
      at,
      ← c.table_sector.ensures,
      ← c.free_table_sector.ensures,
    )
    c.put_sector-then-p-table_end.ensures

pub returns-then-p-table_end-2 : goal.returns-then-p-table_end-2
unfolding format_record
returns-then-p-table_end-2 c = λ a i m t.
    let last : c.args.p ≡ 4 + c.args.g.files + c.table_sectors.result = omega arith in
    rw (
      ne_eqb _ _ c.if-p-eq0.false,
      ne_eqb _ _ c.if-p-eq1.false,
      ne_eqb _ _ c.if-p-eq2.false,
      le-ltb _ _ c.if-p-table.false,
      ← c.table_sectors.ensures,
      le-ltb _ _ c.if-p-table_end.false,
      eq-eqb _ _ last,
      ← c.new-then-p-table_end-2.ensures,
    )
    c.put_sector-then-p-table_end-2.ensures

pub returns-else-p-table_end-2 : goal.returns-else-p-table_end-2
unfolding format_record
returns-else-p-table_end-2 c = λ a i m t.
    let last : c.args.p ≡ 4 + c.args.g.files + c.table_sectors.result → ⊥ = λ q. c.if-p-table_end-2.false (omega arith) in
    rw (
      ne_eqb _ _ c.if-p-eq0.false,
      ne_eqb _ _ c.if-p-eq1.false,
      ne_eqb _ _ c.if-p-eq2.false,
      le-ltb _ _ c.if-p-table.false,
      ← c.table_sectors.ensures,
      le-ltb _ _ c.if-p-table_end.false,
      ne_eqb _ _ last,
    )
    c.put_barrier-else-p-table_end-2.ensures
