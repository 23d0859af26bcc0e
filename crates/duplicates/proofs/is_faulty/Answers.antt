-- `duplicates::is_faulty` meets its contract. The entry is free, or its key is reserved or repeated, or it joins its chain.
use Prim.Native.Nat.{◌+◌}
use mathlib.Core.Path.{◌≡◌, sym, ◌∙◌}
use mathlib.Core.Bool.{true, false, true≢false}
use native.Mathlib.Omega.{arith}
use Rattle.model.specs.Geometry.{entry_at}
use Rattle.model.specs.Disk.{view}
use Rattle.model.specs.Entry.{is_occupied}
use Rattle.duplicates.specs.Keys.{is_faulty}
use Rattle.duplicates.specs.Chains.{Chained}
use Rattle.duplicates.proofs.Chained.{chained-pass, chained-join}
use Rattle.duplicates.proofs.is_faulty.Goals as goal

pub returns-then-not-is_occupied : goal.returns-then-not-is_occupied
unfolding is_faulty
returns-then-not-is_occupied c =
    let a = c.args in
    let o : is_occupied (view a.img.now (entry_at a.i)) ≡ false = sym c.is_occupied.ensures ∙ c.if-not-is_occupied.true in record {
      value = rw o;
      chained_2 = λ e. chained-pass a.key (view a.img.now) a.i a.chains.now c.requires.chained o;
    }

pub returns-then-is_reserved : goal.returns-then-is_reserved
unfolding is_faulty
returns-then-is_reserved c = record {
  value = rw (← c.is_occupied.ensures, c.if-not-is_occupied.false, ← c.is_reserved.ensures, c.if-is_reserved.true);
  chained_2 = λ e. absurd (true≢false e);
}

pub place_of-place-requires : goal.place_of-place-requires
place_of-place-requires c = record {
  i_in_bounds = c.requires.i_in_bounds;
  i_value = c.requires.keys_fit c.args.i (omega arith) (sym c.is_occupied.ensures ∙ c.if-not-is_occupied.false);
  buckets_nonzero = (omega arith, omega arith);
}

pub is_repeated-requires : goal.is_repeated-requires
is_repeated-requires c = record {
  i_in_bounds = c.requires.i_in_bounds;
  i_value = c.requires.keys_fit c.args.i (omega arith) (sym c.is_occupied.ensures ∙ c.if-not-is_occupied.false);
  place_in_bounds = (c.place_of-place.ensures.result_bound, omega arith);
  place_value = c.place_of-place.ensures.value;
  chained = c.requires.chained;
}

pub returns-then-is_repeated : goal.returns-then-is_repeated
unfolding is_faulty
returns-then-is_repeated c = record {
  value = rw (← c.is_occupied.ensures, c.if-not-is_occupied.false, ← c.is_reserved.ensures, c.if-is_reserved.false, ← c.is_repeated.ensures, c.if-is_repeated.true);
  chained_2 = λ e. absurd (true≢false e);
}

pub returns : goal.returns
unfolding is_faulty
returns c =
    let a = c.args in
    let d = view a.img.now in
    let o : is_occupied (d (entry_at a.i)) ≡ true = sym c.is_occupied.ensures ∙ c.if-not-is_occupied.false in
    let p = c.place_of-place.ensures in
    let joined : Chained a.key d (a.i + 1) c.join.new.chains =
    chained-join a.key d a.i a.chains.now c.requires.chained c.join.new.chains c.place_of-place.result c.join.auto.chains o p.value p.result_bound c.join.ensures in record {
      value = rw (o, ← c.is_reserved.ensures, c.if-is_reserved.false, ← c.is_repeated.ensures, c.if-is_repeated.false);
      chained_2 = λ e. joined;
    }
