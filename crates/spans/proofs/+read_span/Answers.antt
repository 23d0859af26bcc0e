-- By induction on n: the bytes in one extent, and then the rest, are the whole span.
use Rattle.std.proofs.Common.{◌≡◌, ◌+◌, ◌-◌, arith, sym}
use Rattle.model.specs.Search.{tabulate}
use Rattle.model.specs.Catalogue.{file_bytes}
use Rattle.laws.proofs.Bytes.{put-nil, put-append}
use Rattle.spans.proofs.Laws.{span-cut, length-file_bytes}
use Rattle.spans.proofs.+read_span.Goals as goal

pub returns-then-n-eq0 : goal.returns-then-n-eq0
unfolding file_bytes tabulate
returns-then-n-eq0 t c = rw c.if-n-eq0.true (sym (put-nil _ _))

pub returns : goal.returns
returns t c =
    let r = c.read_piece-m in
    let n = c.args.n in
    let e : n ≡ r.result + (n - r.result) = omega arith in
    rw (e, span-cut, put-append, length-file_bytes, ← r.ensures.out_after) c.read_span.ensures
