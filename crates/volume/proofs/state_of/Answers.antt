-- `volume::state_of` meets its contract. A case for each state.
use Rattle.model.specs.Superblock.{state_of}
use borrow.Author.Tests.{eq-eqb, ne_eqb, le-leb, lt-leb}
use Rattle.volume.proofs.state_of.Goals as goal

pub returns-then-length-eq0 : goal.returns-then-length-eq0
unfolding state_of
returns-then-length-eq0 c = rw (eq-eqb _ _ c.if-length-eq0.true)

pub returns-then-length-le1024 : goal.returns-then-length-le1024
unfolding state_of
returns-then-length-le1024 c = rw (ne_eqb _ _ c.if-length-eq0.false, le-leb _ _ c.if-length-le1024.true)

pub returns-then-length-le65534 : goal.returns-then-length-le65534
unfolding state_of
returns-then-length-le65534 c = rw (ne_eqb _ _ c.if-length-eq0.false, lt-leb _ _ c.if-length-le1024.false, le-leb _ _ c.if-length-le65534.true)

pub returns : goal.returns
unfolding state_of
returns c = rw (ne_eqb _ _ c.if-length-eq0.false, lt-leb _ _ c.if-length-le1024.false, lt-leb _ _ c.if-length-le65534.false)
