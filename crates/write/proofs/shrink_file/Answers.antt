-- `write::shrink_file` meets its contract. Fewer than K extents are free, the list is too short, or the records are put in.
use Rattle.std.proofs.Common.{arith}
use Rattle.write.proofs.Resizes.{shrink-full, shrink-short, shrink-count, shrink-done}
use Rattle.write.proofs.shrink_file.Goals as goal

pub returns-in_default : goal.returns-in_default
returns-in_default c =
    let a = c.args in
    shrink-full a.img.now a.g c.requires.opened a.list.now a.i.0 a.z a.time c.in_default.ensures.lacking

pub returns-then-list-shrink_count : goal.returns-then-list-shrink_count
returns-then-list-shrink_count c =
    let a = c.args in
    shrink-short a.img.now a.g c.requires.opened a.list.now a.i.0 a.z a.time c.in-Some.ensures.lacking
    (rw c.shrink_count.ensures.value at c.if-list-shrink_count.true)

pub overflow_mul-result : goal.overflow_mul-result
overflow_mul-result c =
    let a = c.args in
    omega (
      arith,
      c.shrink_count.ensures.value,
      c.shrink_count.ensures.upper_bound,
      shrink-count a.img.now a.g c.requires.opened a.list.now a.i.0 a.z a.time c.put_shrink-n.ensures,
    )

pub returns : goal.returns
returns c =
    let a = c.args in
    shrink-done a.img.now a.g c.requires.opened a.list.now a.i.0 a.z a.time c.in-Some.ensures.lacking
    (omega (arith, c.shrink_count.ensures.value, c.if-list-shrink_count.false)) c.put_shrink-n.ensures
