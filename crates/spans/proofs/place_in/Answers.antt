-- `spans::place_in` meets its contract. The span's own bytes are lent, or zeros that stand for it.
use native.Mathlib.Omega.{arith}
use Rattle.spans.proofs.Sources.{own-run, other-run}
use Rattle.spans.proofs.place_in.Goals as goal

pub returns-then-bytes-len : goal.returns-then-bytes-len
returns-then-bytes-len c =
    let a = c.args in record {
      n_in_bounds = omega (arith, c.if-bytes-len.true, c.requires.n_bound.0);
      n_value = own-run a.bytes.now a.len a.at a.n c.if-bytes-len.true;
    }

pub returns-else-bytes-len : goal.returns-else-bytes-len
returns-else-bytes-len c =
    let a = c.args in
    let o = c.if-bytes-len.false in record {
      n_in_bounds = omega (arith, c.requires.source.sector o, c.requires.n_bound.1);
      n_value = other-run a.bytes.now a.len c.requires.source a.at a.n o c.requires.n_bound.0;
    }
