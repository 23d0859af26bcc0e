-- `duplicates::is_repeated` meets its contract. The loop's invariant: an occupied entry below i has the key exactly if one below
-- j has it, and j is 0 or entry j - 1 stands in the bucket.
use Prim.Native.Nat.{◌-◌, ◌/◌, ◌%◌, ◌<◌}
use mathlib.Core.Path.{sym, ap, ◌∙◌}
use native.Mathlib.Omega.{arith}
use lib.ListN.{length}
use Rattle.model.specs.Disk.{view}
use Rattle.duplicates.specs.Keys.{is_repeated}
use Rattle.duplicates.proofs.Chains.{walk_start, walk-found, walk-falls, walk-next, walk_end}
use Rattle.duplicates.proofs.Keys.{shares-place, shares-member}
use Rattle.model.specs.Geometry.{entry_at}
use Rattle.model.specs.Entry.{is_occupied}
use Rattle.laws.proofs.Booleans.{and_left}
use Rattle.duplicates.proofs.is_repeated.Goals as goal

pub loop-j-init : goal.loop-j-init
loop-j-init c =
    let a = c.args in
    let n = length a.chains.now / 2 in
    let only = shares-member a.key (view a.img.now) n a.i (a.place / 256) (ap (λ p. p / 256) c.requires.place_value) in
    let C = c.requires.chained.chains.chain (a.place / 256) c.requires.place_in_bounds.0 in
    rw c.last-j.ensures.value (walk_start only C)

pub is_shared-requires : goal.is_shared-requires
is_shared-requires c =
    let a = c.args in
    let d = view a.img.now in
    let n = length a.chains.now / 2 in
    let j = c.loop-j.j in
    let more : 0 < j = omega (arith, c.loop-j-test.true) in
    let below : j - 1 < a.i = omega (arith, c.loop-j.invariant.within) in record {
      i_in_bounds = c.requires.i_in_bounds;
      j_in_bounds = omega arith;
      i_value = c.requires.i_value;
      link_value = λ e. c.requires.chained.tags (j - 1) below (and_left (is_occupied (d (entry_at (j - 1)))) _ e)
          ∙ ap (λ p. p % 256) (shares-place a.key d n a.i (j - 1) e ∙ sym c.requires.place_value);
    }

pub returns-then-is_shared : goal.returns-then-is_shared
unfolding is_repeated
returns-then-is_shared c = sym (walk-found c.loop-j.invariant c.loop-j-test.true (sym c.is_shared.ensures ∙ c.if-is_shared.true))

pub loop-j-smaller : goal.loop-j-smaller
loop-j-smaller c =
    let a = c.args in
    let n = length a.chains.now / 2 in
    let only = shares-member a.key (view a.img.now) n a.i (a.place / 256) (ap (λ p. p / 256) c.requires.place_value) in
    let C = c.requires.chained.chains.chain (a.place / 256) c.requires.place_in_bounds.0 in
    walk-falls only C c.loop-j.invariant c.loop-j-test.true

pub loop-j-preserved : goal.loop-j-preserved
loop-j-preserved c =
    let a = c.args in
    let n = length a.chains.now / 2 in
    let only = shares-member a.key (view a.img.now) n a.i (a.place / 256) (ap (λ p. p / 256) c.requires.place_value) in
    let C = c.requires.chained.chains.chain (a.place / 256) c.requires.place_in_bounds.0 in
    walk-next only C c.loop-j.invariant c.loop-j-test.true (sym c.is_shared.ensures ∙ c.if-is_shared.false)

pub returns : goal.returns
unfolding is_repeated
returns c = sym (walk_end c.loop-j.invariant c.loop-j-test.false)
