-- `spans::read_span` meets its contract. By induction on n: the bytes in one extent, and then the rest, are the whole span.
use Rattle.spans.proofs.+read_span.Given as goal

abbrev pub decreases-read_span : goal.decreases-read_span
decreases-read_span l = l.n
