-- `spans::put_data` meets its contract. By induction on n: the sectors in one extent, and then the rest, are the whole span.
use Rattle.spans.proofs.+put_data.Given as goal

abbrev pub decreases-put_data : goal.decreases-put_data
decreases-put_data l = l.n
