-- What a repair comes to, test by test. Assumes nothing.
use Prim.Native.Nat.{ℕ, ◌*◌, ◌≤◌, ◌<◌}
use mathlib.Core.Path.{◌≡◌, refl, sym, ap, ◌∙◌}
use mathlib.Core.Logic.{◌≢◌}
use mathlib.Core.Bool.{Bool, true, false, cond}
use mathlib.Core.List.{List}
use mathlib.Core.Option.{Option, none, some}
use native.Mathlib.Omega.{arith}
use lib.ListN.{length}
use borrow.Author.Tests.{eq-eqb, eqb-true}
use Rattle.model.specs.declared.Geometry.{Geometry}
use Rattle.std.specs.Prelude.{None, Result, Ok, Err, ⊤}
use Rattle.std.specs.Result.{result_and}
use Rattle.model.specs.declared.Fault.{Fault}
use Rattle.model.specs.declared.Refusal.{Refusal}
use Rattle.model.specs.declared.Repair.{Repair}
use Rattle.model.specs.Answers.{Soundness, Sound, Verdict, Changed, Repaired}
use Rattle.model.specs.Search.{Lowest, first, count_below}
use Rattle.model.specs.Disk.{Disk}
use Rattle.model.specs.Superblock.{geometry_in, state_on}
use Rattle.model.specs.Table.{sectors_holding}
use Rattle.model.specs.Catalogue.{Catalogue, catalogue_of, lacks_reserve}
use Rattle.model.specs.Faults.{fault21, fault22, fault23, fault24, fault25, fault26, or_else, faults_in}
use Rattle.model.specs.Refusals.{and_then, done, is_done, refusal, image_verdict, state_number}
use Rattle.model.specs.Results.{verdict_for, soundness_in}
use Rattle.model.specs.WriteList.{Plan, Decision, Emitted, closed, record_size, record_count, groups_for, list_length, list_after}
use Rattle.model.specs.Repair.{is_stray, strays, repaired, repair_plan, repair_planned, repair_verdict, repair_decision, done_but, not_repaired, repair_answer, repair_list}
use Rattle.model.specs.Opened.{volume_length}
use Rattle.laws.proofs.Search.{first-none}
use Rattle.laws.proofs.Refusals.{image-done, own-done}
use Rattle.laws.proofs.WriteList.{emit-nil}
use Rattle.laws.proofs.Repaired.{fault25-repaired}
use Rattle.laws.proofs.Results.{refused}
use Rattle.soundness.specs.Directory.{directory_fault}
use Rattle.soundness.proofs.Laws.{directory-found, directory-none}
use Rattle.commit.specs.Decided.{fitted, ComesTo}
use Rattle.commit.proofs.Decided.{fitted_none, fitted-full, fitted_short, fitted-done}
use Rattle.repair.specs.Mending.{Mends, changed, lacking}
use Rattle.repair.proofs.Planned.{geometry-is, repair-needs, planned-none, planned-some}

-- ---- behind the refusals 1 to 6

module _ (d : Disk) (g : Geometry) (is : g ≡ geometry_in (d 0)) (list : List ℕ) (n : ℕ) (counted : n ≡ count_below (is_stray (catalogue_of d)) g.extents)
    (rest : Result ⊤ Fault) (left : soundness_in rest ≡ or_else 26 (first (fault26 (repaired (catalogue_of d))) g.files) Sound) where
  abbrev c : Catalogue
  c = catalogue_of d

  freed-are : n ≡ strays (catalogue_of d)
  unfolding strays
  freed-are = counted ∙ ap (λ (x : Geometry). count_below (is_stray (catalogue_of d)) x.extents) (sym (geometry-is d g is))

  lacking-is : soundness_in rest ≡ lacking d
  lacking-is = left ∙ ap (λ (x : Geometry). or_else 26 (first (fault26 (repaired (catalogue_of d))) x.files) Sound) (sym (geometry-is d g is))

  comes : {o : Option Plan} {a : Changed} {after : List ℕ} → repair_planned (catalogue_of d) d ≡ o → ComesTo d (fitted d o (length list)) list a after
      → ComesTo d (fitted d (repair_planned (catalogue_of d) d) (length list)) list a after
  comes q h = rw q h

  -- nothing is freed
  pub mends-none : n ≡ 0 → Mends d list (Ok (record { freed = n; length = 0; remaining = rest })) list
  mends-none z = record { comes = comes (planned-none d g is (sym counted ∙ z)) (fitted_none d list); finds = (freed-are, lacking-is) }

  module _ (more : n ≢ 0) where
    abbrev plan : Plan
    plan = repair_plan (catalogue_of d) d

    -- how many bytes its list takes
    abbrev needed : ℕ
    needed = record_count 0 (sectors_holding (is_stray (catalogue_of d)) g) * record_size

    planned : repair_planned c d ≡ some plan
    planned = planned-some d g is (λ z. more (counted ∙ z))

    pub mends-some : {after : List ℕ} {j : ℕ} (k : ℕ) → lacks_reserve (catalogue_of d) ≡ false → k ≡ needed → k ≤ length list
        → Emitted list 0 (closed (groups_for d (some (repair_plan (catalogue_of d) d)))) after j
        → Mends d list (Ok (record { freed = n; length = k; remaining = rest })) after
    mends-some k has q room e =
        record { comes = comes planned (fitted-done d plan list has (q ∙ sym (repair-needs d g is)) room e); finds = (freed-are, lacking-is) }

    pub mends-short : lacks_reserve (catalogue_of d) ≡ false → length list < needed → Mends d list (Err Refusal.TooShort) list
    mends-short has room = record { comes = comes planned (fitted_short d plan list has (omega (arith, repair-needs d g is))); finds = tt }

    pub mends-frozen : lacks_reserve (catalogue_of d) ≡ true → Mends d list (Err Refusal.VolumeFull) list
    mends-frozen lack = record { comes = comes planned (fitted-full d plan list lack); finds = tt }

-- ---- the first fault that remains

module _ (d : Disk) (g : Geometry) (is : g ≡ geometry_in (d 0)) where
  abbrev k : Catalogue
  k = catalogue_of d

  no-25 : first (fault25 (repaired (catalogue_of d))) (catalogue_of d).geometry.extents ≡ None
  no-25 = first-none (fault25 (repaired k)) k.geometry.extents (λ e l. fault25-repaired k e)

  -- the directory's, then a file that lacks an extent
  remains : faults_in (fault21 d) (repaired (catalogue_of d)) ≡ directory_fault g d (lacking d)
  unfolding repaired fault22 fault23 fault24
  remains =
      ap (λ (r : Lowest). let n = k.geometry.files in or_else 21 (first (fault21 d) n) (or_else 22 (first (fault22 k) n) (or_else 23 (first (fault23 k) n) (or_else 24 (first (fault24 k) n)
      (or_else 25 r (or_else 26 (first (fault26 (repaired k)) n) Sound)))))) no-25
      ∙ ap (λ (x : Geometry). directory_fault x d (or_else 26 (first (fault26 (repaired k)) k.geometry.files) Sound)) (geometry-is d g is)

  pub all-remaining : (a b : Result ⊤ Fault) → soundness_in a ≡ directory_fault g d Sound → soundness_in b ≡ lacking d
      → soundness_in (result_and a b) ≡ faults_in (fault21 d) (repaired (catalogue_of d))
  all-remaining (Ok x) b h later = later ∙ directory-none d g (lacking d) (sym h) ∙ sym remains
  all-remaining (Err f) b h later = directory-found d g (lacking d) _ _ (sym h) ∙ sym remains

-- ---- the call

abbrev pub Comes : ℕ → Disk → List ℕ → Repaired → List ℕ → Type 0
Comes len d list answer after = (answer ≡ repair_answer len d (length list)) × (after ≡ repair_list len d list)

then-then : (a b x : Verdict) → and_then a (and_then b x) ≡ and_then (and_then a b) x
then-then a b x = go (is_done a) refl
  where
    go : (t : Bool) → is_done a ≡ t → cond t (and_then b x) a ≡ and_then (cond t b a) x
    go true e = refl
    go false e = sym (ap (λ (t : Bool). cond t x a) e)

module _ (len : ℕ) (d : Disk) (list : List ℕ) where
  -- 1 to 6
  abbrev pub early : Verdict
  early = and_then (image_verdict len d) (refusal (state_number (state_on d)))

  -- 13 and 14, or the plan
  abbrev pub later : Decision
  later = fitted d (repair_planned (catalogue_of d) d) (length list)

  verdict-is : repair_verdict len d (length list) ≡ and_then early later.verdict
  unfolding repair_verdict
  verdict-is = then-then (image_verdict len d) (refusal (state_number (state_on d))) later.verdict

  -- a clean volume's image passed 1 to 3
  pub clean-image : done ≡ early → (image_verdict len d).number ≡ 0
  clean-image q = go (is_done (image_verdict len d)) refl
    where
      go : (b : Bool) → is_done (image_verdict len d) ≡ b → (image_verdict len d).number ≡ 0
      go true t = eqb-true (image_verdict len d).number 0 t
      go false t = ap (λ (b : Bool). (cond b (refusal (state_number (state_on d))) (image_verdict len d)).number) (sym t) ∙ ap (λ (v : Verdict). v.number) (sym q)

  pub clean-state : done ≡ early → state_number (state_on d) ≡ 0
  clean-state q =
      ap (λ (b : Bool). (cond b (refusal (state_number (state_on d))) (image_verdict len d)).number) (sym (eq-eqb (image_verdict len d).number 0 (clean-image q)))
      ∙ ap (λ (v : Verdict). v.number) (sym q)

  pub clean-both : (image_verdict len d).number ≡ 0 → state_number (state_on d) ≡ 0 → early.number ≡ 0
  clean-both i s = ap (λ (b : Bool). (cond b (refusal (state_number (state_on d))) (image_verdict len d)).number) (eq-eqb (image_verdict len d).number 0 i) ∙ s

  -- what 1 to 3 let pass is repaired whatever its length
  module _ (i : (image_verdict len d).number ≡ 0) where
    own-decision : repair_decision (volume_length d) d (length list) ≡ repair_decision len d (length list)
    unfolding repair_decision repair_verdict
    own-decision = rw (own-done len d i, image-done len d i) refl

    pub own-comes : {answer : Repaired} {after : List ℕ} → Comes (volume_length d) d list answer after → Comes len d list answer after
    unfolding repair_answer repair_list
    own-comes p = rw own-decision at p

  refused-by : (w : Verdict) → repair_verdict len d (length list) ≡ w → is_done w ≡ false → Comes len d list (not_repaired w) list
  unfolding repair_answer repair_list repair_decision groups_for
  refused-by w e n = (rw (e, n), rw (e, n) (sym (emit-nil list 0)))

  pub repair-early : (e : Refusal) → verdict_for e ≡ early → Comes len d list (not_repaired (verdict_for e)) list
  repair-early e q =
      refused-by (verdict_for e)
      (verdict-is ∙ ap (λ (x : Verdict). and_then x later.verdict) (sym q) ∙ ap (λ (b : Bool). cond b later.verdict (verdict_for e)) (refused e))
      (refused e)

  module _ (clean : early.number ≡ 0) where
    from-later : repair_decision len d (length list) ≡ later
    unfolding repair_decision
    from-later =
        ap (λ (w : Verdict). let p = repair_planned (catalogue_of d) d in record { verdict = w; plan = cond (is_done w) p none })
        (verdict-is ∙ ap (λ (b : Bool). cond b later.verdict early) (eq-eqb early.number 0 clean))

    module _ (r : Result Repair Refusal) {after : List ℕ} (m : Mends d list r after) where
      leaves : after ≡ repair_list len d list
      unfolding repair_list
      leaves = m.comes.1 ∙ ap (λ (x : Decision). list_after d x list) (sym from-later)

      verdict-was : (repair_decision len d (length list)).verdict ≡ (changed r).verdict
      verdict-was = ap (λ (x : Decision). x.verdict) from-later ∙ sym (ap (λ (a : Changed). a.verdict) m.comes.0)

      length-was : (changed r).length ≡ list_length (groups_for d (repair_decision len d (length list)).plan)
      length-was = ap (λ (a : Changed). a.length) m.comes.0 ∙ ap (λ (x : Decision). list_length (groups_for d x.plan)) (sym from-later)

    pub repair-refused : {e : Refusal} {after : List ℕ} → Mends d list (Err e) after → Comes len d list (not_repaired (verdict_for e)) after
    unfolding repair_answer
    repair-refused {e} m = (rw (verdict-was (Err e) m, refused e), leaves (Err e) m)

    pub repair-done : {a : Repair} {after : List ℕ} (s : Soundness) → Mends d list (Ok a) after → s ≡ faults_in (fault21 d) (repaired (catalogue_of d))
        → Comes len d list (record { verdict = done_but s; freed = a.freed; length = a.length }) after
    unfolding repair_answer
    repair-done {a} s m q = (rw (verdict-was (Ok a) m, q, m.finds.0, length-was (Ok a) m), leaves (Ok a) m)
