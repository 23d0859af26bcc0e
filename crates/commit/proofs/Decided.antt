-- What a changing call answers and leaves in the list, by its tests: refused as the image is, refused for its own reasons, fewer
-- than K extents free, list too short, done. Each law gives the two clauses of the call's promise. Assumes nothing.
use Prim.Native.Nat.{ℕ, ◌≤◌, ◌<◌}
use mathlib.Core.Path.{◌≡◌, refl, sym}
use mathlib.Core.Bool.{Bool, true, false, cond, ◌&&◌, ◌||◌}
use mathlib.Core.List.{List}
use mathlib.Core.Option.{Option, none, some}
use native.Mathlib.Omega.{arith}
use lib.Dec.{eqb}
use lib.ListN.{length}
use borrow.Author.Tests.{eq-eqb, ne_eqb, lt-ltb, le-ltb}
use Rattle.model.specs.declared.Geometry.{Geometry}
use Rattle.model.specs.Answers.{Verdict}
use Rattle.model.specs.Geometry.{superblock_at}
use Rattle.model.specs.Disk.{Disk, view}
use Rattle.model.specs.Superblock.{geometry_in}
use Rattle.model.specs.Edition.{layout_of, bad_time}
use Rattle.model.specs.Entry.{bad_name}
use Rattle.model.specs.Catalogue.{catalogue_of, lacks_reserve}
use Rattle.model.specs.Refusals.{Conditions, verdict_of, and_then, refusal, done, is_done, judged}
use Rattle.model.specs.WriteList.{Plan, Emitted, groups_for, closed, list_length, Decision, is_planned, plan_conditions, decided}
use Rattle.laws.proofs.Booleans.{or-none}
use Rattle.laws.proofs.Named.{short-name}
use Rattle.laws.proofs.WriteList.{emit-nil, emitted-none}
use Rattle.commit.specs.Decided.{fitted, ComesTo}

-- the edition by which the code reads is the catalogue's
pub edition-is : (img : List ℕ) (g : Geometry) → g ≡ geometry_in (view img superblock_at) → (catalogue_of (view img)).geometry.edition ≡ g.edition
unfolding catalogue_of
edition-is img g is = rw is

-- a bad time and the other bad arguments are one test of the code's
pub same-refusal : (a b : Bool) (v rest : Verdict) → cond a v (cond b v rest) ≡ cond (a || b) v rest
same-refusal true b v rest = refl
same-refusal false b v rest = refl

pub same-refusals : (a b c : Bool) (v rest : Verdict) → cond a v (cond (b || c) v rest) ≡ cond (a || b) v (cond c v rest)
same-refusals true b c v rest = refl
same-refusals false true c v rest = refl
same-refusals false false c v rest = refl

-- a name that it lets pass
pub named-short : (edition : ℕ) (name : List ℕ) (time : ℕ) → (bad_time edition time || bad_name edition name) ≡ false → length name ≤ (layout_of edition).longest_name
named-short edition name time h = short-name edition name (or-none (bad_time edition time) (bad_name edition name) h).1

comes-refused : (d : Disk) (x : Decision) (list : List ℕ) (v : Verdict) → x ≡ record { verdict = v; plan = none }
    → ComesTo d x list (record { verdict = v; length = 0 }) list
unfolding groups_for
comes-refused d x list v e = rw e (refl, sym (emit-nil list 0))

-- a call on an image that 1 to 7 refuse; and on one that they let pass, by its own refusals
module _ (len : ℕ) (d : Disk) (cs : Conditions) (plan : Option Plan) (space : ℕ) where
  pub decided-judged : (v : Verdict) → v ≡ judged len d → (v.number ≡ 0 → ⊥) → decided len d cs plan space ≡ record { verdict = v; plan = none }
  unfolding decided
  decided-judged v e h =
      let a : eqb (judged len d).number 0 ≡ false = rw (← e) (ne_eqb v.number 0 h) in
      rw (a, a, e)

  pub decided-own : (judged len d).number ≡ 0 → (v : Verdict) → v ≡ and_then (verdict_of cs) (verdict_of (plan_conditions d plan space))
      → decided len d cs plan space ≡ record { verdict = v; plan = cond (is_done v) plan none }
  unfolding decided
  decided-own ok v e = rw (eq-eqb _ _ ok, e)

module _ (len : ℕ) (d : Disk) (cs : Conditions) (plan : Option Plan) (list : List ℕ) where
  -- 1 to 7
  pub refused-as-judged : (v : Verdict) → v ≡ judged len d → (v.number ≡ 0 → ⊥)
      → ComesTo d (decided len d cs plan (length list)) list (record { verdict = v; length = 0 }) list
  refused-as-judged v e h = comes-refused d (decided len d cs plan (length list)) list v (decided-judged len d cs plan (length list) v e h)

  -- v is what its own conditions come to
  module _ (ok : (judged len d).number ≡ 0) (v : Verdict) (own : v ≡ verdict_of cs) where
    pub refused-by-own : (v.number ≡ 0 → ⊥) → ComesTo d (decided len d cs plan (length list)) list (record { verdict = v; length = 0 }) list
    unfolding decided
    refused-by-own h =
        let a : eqb (verdict_of cs).number 0 ≡ false = rw (← own) (ne_eqb v.number 0 h) in
        comes-refused d (decided len d cs plan (length list)) list v (rw (eq-eqb _ _ ok, a, a, own))

    -- 13, by the plan
    pub refused-as-full : v.number ≡ 0 → (is_planned plan && lacks_reserve (catalogue_of d)) ≡ true
        → ComesTo d (decided len d cs plan (length list)) list (record { verdict = refusal 13; length = 0 }) list
    unfolding decided verdict_of plan_conditions
    refused-as-full z f =
        let a : eqb (verdict_of cs).number 0 ≡ true = rw (← own) (eq-eqb v.number 0 z) in
        comes-refused d (decided len d cs plan (length list)) list (refusal 13) (rw (eq-eqb _ _ ok, a, f))

    module _ (there : (is_planned plan && lacks_reserve (catalogue_of d)) ≡ false) where
      -- 14
      pub refused-as-short : v.number ≡ 0 → length list < list_length (groups_for d plan)
          → ComesTo d (decided len d cs plan (length list)) list (record { verdict = refusal 14; length = 0 }) list
      unfolding decided verdict_of plan_conditions
      refused-as-short z h =
          let a : eqb (verdict_of cs).number 0 ≡ true = rw (← own) (eq-eqb v.number 0 z) in
          comes-refused d (decided len d cs plan (length list)) list (refusal 14) (rw (eq-eqb _ _ ok, a, there, lt-ltb _ _ h))

      done-by : v.number ≡ 0 → list_length (groups_for d plan) ≤ length list → decided len d cs plan (length list) ≡ record { verdict = done; plan = plan }
      unfolding decided verdict_of plan_conditions
      done-by z h =
          let a : eqb (verdict_of cs).number 0 ≡ true = rw (← own) (eq-eqb v.number 0 z) in
          rw (eq-eqb _ _ ok, a, there, le-ltb _ _ h)

      pub done-as-planned : {m : List ℕ} {j : ℕ} → v.number ≡ 0 → list_length (groups_for d plan) ≤ length list → Emitted list 0 (closed (groups_for d plan)) m j
          → ComesTo d (decided len d cs plan (length list)) list (record { verdict = done; length = list_length (groups_for d plan) }) m
      done-as-planned z h e = rw (done-by z h) (refl, e.holds)

-- a call that is done with an empty list
pub done-with-nothing : (len : ℕ) (d : Disk) (cs : Conditions) (list : List ℕ) → (judged len d).number ≡ 0 → (v : Verdict) → v ≡ verdict_of cs → v.number ≡ 0
    → ComesTo d (decided len d cs none (length list)) list (record { verdict = done; length = 0 }) list
unfolding groups_for
done-with-nothing len d cs list ok v own z =
    let few : list_length (groups_for d none) ≤ length list = omega arith in
    done-as-planned len d cs none list ok v own refl {j = 0} z few (emitted-none list 0)

-- ---- a call that its own conditions let pass

pub decided-fitted : (len : ℕ) (d : Disk) (cs : Conditions) (plan : Option Plan) (room : ℕ) → (judged len d).number ≡ 0 → done ≡ verdict_of cs
    → decided len d cs plan room ≡ fitted d plan room
unfolding decided
decided-fitted len d cs plan room ok own = rw (eq-eqb _ _ ok, ← own)

-- no plan, and an empty list
pub fitted_none : (d : Disk) (list : List ℕ) → ComesTo d (fitted d none (length list)) list (record { verdict = done; length = 0 }) list
unfolding groups_for verdict_of plan_conditions
fitted_none d list = rw (le-ltb (length list) 0 (omega arith)) (refl, sym (emit-nil list 0))

module _ (d : Disk) (plan : Plan) (list : List ℕ) where
  pub fitted-full : lacks_reserve (catalogue_of d) ≡ true
      → ComesTo d (fitted d (some plan) (length list)) list (record { verdict = refusal 13; length = 0 }) list
  unfolding groups_for verdict_of plan_conditions
  fitted-full f = rw f (refl, sym (emit-nil list 0))

  module _ (there : lacks_reserve (catalogue_of d) ≡ false) where
    pub fitted_short : length list < list_length (groups_for d (some plan))
        → ComesTo d (fitted d (some plan) (length list)) list (record { verdict = refusal 14; length = 0 }) list
    unfolding groups_for verdict_of plan_conditions
    fitted_short h = rw (there, lt-ltb _ _ h) (refl, sym (emit-nil list 0))

    pub fitted-done : {m : List ℕ} {j n : ℕ} → n ≡ list_length (groups_for d (some plan)) → n ≤ length list
        → Emitted list 0 (closed (groups_for d (some plan))) m j → ComesTo d (fitted d (some plan) (length list)) list (record { verdict = done; length = n }) m
    unfolding verdict_of plan_conditions
    fitted-done q h e = rw (there, le-ltb (length list) (list_length (groups_for d (some plan))) (omega arith), q) (refl, e.holds)
