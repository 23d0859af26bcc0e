-- What a set of renames has to show: the ledger's answer, with the place of the rename that is refused, and its effect. Assumes nothing.
use Prim.Native.Nat.{ℕ, zero, suc, ◌+◌, ◌*◌, ◌/◌, ◌^◌, ◌≤◌, ◌<◌}
use mathlib.Core.Path.{◌≡◌, refl, sym, ap, ap₂, ◌∙◌, subst}
use mathlib.Core.Logic.{◌≢◌}
use mathlib.Core.Bool.{Bool, true, false, cond, not, ◌&&◌, true≢false}
use mathlib.Core.List.{List, [], ◌∷◌, ◌++◌}
use mathlib.Core.Option.{Option, none, some}
use native.Mathlib.Omega.{arith}
use native.Mathlib.Nat.{zero-add}
use lib.Dec.{eqb, ltb}
use lib.ListN.{length}
use borrow.Author.Tests.{ne_eqb, eq-eqb, eqb-true, eqb-false, lt-ltb, ltb-false}
use Rattle.model.specs.declared.Geometry.{Geometry}
use Rattle.model.specs.Answers.{Verdict}
use Rattle.model.specs.Search.{any_below, count_below, concatenated}
use Rattle.model.specs.Geometry.{superblock_at, extent_sectors, reserve_extents, table_sectors, data_at}
use Rattle.model.specs.Disk.{Disk, view}
use Rattle.model.specs.Superblock.{geometry_in}
use Rattle.model.specs.Edition.{bad_time}
use Rattle.model.specs.Catalogue.{catalogue_of, lacks_reserve}
use Rattle.model.specs.Refusals.{Conditions, verdict_of, and_then, is_done, refusal, done}
use Rattle.model.specs.WriteList.{Plan, Record, groups_for, list_length, record_size, record_count, Decision, is_planned, plan_conditions, decided, answer_of}
use Rattle.model.specs.Rename.{rename_conditions}
use Rattle.model.specs.RenameSet.{bad_set, disk_before, renames_conditions, is_touched, set_targets, set_planned, rename_set_conditions, rename_set_decision}
use Rattle.model.specs.Ledger.{Ledger, catalogue, rename_set, changed, number_of, Answer, Refusals, lowest, names_of, pairs_of, after_renames, names_slot}
use Rattle.model.specs.Ledger.{is_frozen, frees_in, renamed_targets, set_records, unfit_set, rename_refusals, refused_at, no_reserve, too_short, step, answer, whole, fed}
use Rattle.model.specs.Run.{on_volume, volume_answer}
use Rattle.laws.proofs.Booleans.{and_left, and_right, and_yes}
use Rattle.laws.proofs.Search.{concatenated-front}
use Rattle.laws.proofs.Count.{count_below-none, count_below-any_below}
use Rattle.laws.proofs.WriteList.{plan-needs}
use Rattle.laws.proofs.Renames.{seen-superblock, touched-few, length-set}
use Rattle.laws.proofs.RenameSet.{Pairs, GoodSet, good-set, pairs-are, bad-is}
use Rattle.safety.proofs.OwnWords.{verdicts, verdict-is, number_is}
use Rattle.safety.proofs.Apply.{All}
use Rattle.safety.proofs.Plan.{UsableGeometry, WellFormed, Metadata}
use Rattle.safety.proofs.Commit.{Ready, uncut, ready-uncut}
use Rattle.safety.proofs.Frame.{Outside, done-shows}
use Rattle.safety.proofs.Rep.{Rep, opens, rep-geometry}
use Rattle.safety.proofs.Changing.{Passed, refuses, passed-by, verdict-append, last_conditions, last-is, Carries, Carried, effect-changing, Decides, same-changing}
use Rattle.safety.proofs.Preserved.{free-said, plan-fits, part-keeps, rep-keep}
use Rattle.safety.proofs.Induction.{Effect, nothing}
use Rattle.safety.proofs.RenameSteps.{conditions_of, renames_from, Stepped, stops, reaches, Reached, steps}
use Rattle.safety.proofs.RenameTargets.{set-metadata, set-rising, set-over, set-none, set-whole, set-count}

-- ---- conditions one after the other

refuses-append : (a b : Conditions) → refuses a ≡ true → refuses b ≡ true → refuses (a ++ b) ≡ true
refuses-append [] b p q = q
refuses-append (c ∷ a) b p q =
    and_yes (not (is_done c.1)) (refuses (a ++ b)) (and_left (not (is_done c.1)) (refuses a) p) (refuses-append a b (and_right (not (is_done c.1)) (refuses a) p) q)

verdicts-append : (a b : Refusals) → verdicts (a ++ b) ≡ verdicts a ++ verdicts b
verdicts-append [] b = refl
verdicts-append (r ∷ a) b = ap (λ (cs : Conditions). (r.0, refusal r.1) ∷ cs) (verdicts-append a b)

renames-refuse : (d : Disk) (names lengths : List ℕ) (time n : ℕ) → refuses (renames_conditions d names lengths time n) ≡ true
unfolding renames_conditions concatenated rename_conditions
renames-refuse d names lengths time zero = refl
renames-refuse d names lengths time (suc n) = refuses-append (renames_conditions d names lengths time n) _ (renames-refuse d names lengths time n) refl

-- the verdict: 8 of the set, else that of its renames, else 13 by the count of targets
pub set-verdict : (d : Disk) (names lengths : List ℕ) (time : ℕ) → verdict_of (rename_set_conditions d names lengths time)
    ≡ cond (bad_set names lengths) (refusal 8)
    (and_then (verdict_of (renames_conditions d names lengths time (length lengths / 2)))
    (cond (ltb (reserve_extents (geometry_in (d superblock_at)) * extent_sectors (geometry_in (d superblock_at))) (length (set_targets d names lengths time (length lengths / 2)))) (refusal 13) done))
unfolding rename_set_conditions verdict_of catalogue_of
set-verdict d names lengths time =
    let n = length lengths / 2 in
    ap (λ (v : Verdict). cond (bad_set names lengths) (refusal 8) v) (verdict-append (renames_conditions d names lengths time n) _ (renames-refuse d names lengths time n))

ledger-refuses : (time : ℕ) (rs : Pairs) (L : Ledger) → refuses (verdicts (rename_refusals time L rs)) ≡ true
unfolding rename_refusals
ledger-refuses time [] L = refl
ledger-refuses time (r ∷ rs) L = ledger-refuses time rs _

-- the lowest number is the first's, if one holds there
first-lowest : (a b : Refusals) → lowest a ≢ 0 → lowest (a ++ b) ≡ lowest a
unfolding lowest
first-lowest [] b ne = absurd (ne refl)
first-lowest (r ∷ a) b ne = go r.0 (first-lowest a b) ne
  where
    go : (t : Bool) → (lowest a ≢ 0 → lowest (a ++ b) ≡ lowest a) → cond t r.1 (lowest a) ≢ 0 → cond t r.1 (lowest (a ++ b)) ≡ cond t r.1 (lowest a)
    go true h n = refl
    go false h n = h n

-- else the others'
later-verdict : (a b : Refusals) → refuses (verdicts a) ≡ true → lowest a ≡ 0 → verdict_of (verdicts (a ++ b)) ≡ verdict_of (verdicts b)
later-verdict a b ok e =
    ap verdict_of (verdicts-append a b) ∙ verdict-append (verdicts a) (verdicts b) ok
    ∙ ap (λ (v : Verdict). and_then v (verdict_of (verdicts b))) (verdict-is a ∙ ap refusal e)

later-lowest : (a b : Refusals) → refuses (verdicts a) ≡ true → lowest a ≡ 0 → lowest (a ++ b) ≡ lowest b
later-lowest a b ok e = ap (λ (v : Verdict). v.number) (sym (verdict-is (a ++ b)) ∙ later-verdict a b ok e ∙ verdict-is b)

-- 13 and 14 of the whole set
abbrev last : Ledger → List ℕ → List ℕ → ℕ → ℕ → Refusals
last L names lengths time room =
    let targets = renamed_targets L (pairs_of (names_of names lengths)) time in
    (ltb (reserve_extents L.geometry * L.geometry.extent_sectors) targets, 13) ∷ no_reserve L (set_records targets) ∷ too_short room (set_records targets) ∷ []

module _ (L : Ledger) (img : List ℕ) (rep : Rep L img) (names lengths : List ℕ) (time room : ℕ) where
  abbrev d : Disk
  d = view img

  abbrev n : ℕ
  n = length lengths / 2

  abbrev conditions : Conditions
  conditions = rename_set_conditions (view img) names lengths time

  abbrev plan : Option Plan
  plan = set_planned (view img) names lengths time (length lengths / 2)

  abbrev writes : List Record
  writes = set_targets (view img) names lengths time (length lengths / 2)

  abbrev rs : Pairs
  rs = pairs_of (names_of names lengths)

  abbrev targets : ℕ
  targets = renamed_targets L (pairs_of (names_of names lengths)) time

  abbrev records : ℕ
  records = set_records (renamed_targets L (pairs_of (names_of names lengths)) time)

  geometry : geometry_in (view img superblock_at) ≡ L.geometry
  geometry = rep.ready.volume.geometry

  -- more distinct targets than the reserve has sectors, on either side
  abbrev too_many : Bool
  too_many = ltb (reserve_extents (geometry_in (view img superblock_at)) * extent_sectors (geometry_in (view img superblock_at)))
      (length (set_targets (view img) names lengths time (length lengths / 2)))

  abbrev more : Bool
  more = ltb (reserve_extents L.geometry * L.geometry.extent_sectors) (renamed_targets L (pairs_of (names_of names lengths)) time)

  verdict-of : verdict_of conditions
      ≡ cond (bad_set names lengths) (refusal 8) (and_then (verdict_of (renames_conditions (view img) names lengths time n)) (cond too_many (refusal 13) done))
  verdict-of = set-verdict d names lengths time

  refusing : refuses conditions ≡ true
  unfolding rename_set_conditions
  refusing = refuses-append ((bad_set names lengths, refusal 8) ∷ renames_conditions d names lengths time n) _ (renames-refuse d names lengths time n) refl

  -- ---- the ledger's answer

  abbrev lasts : Refusals
  lasts = last L names lengths time room

  abbrev answered : Bool → ℕ → ℕ → Answer
  answered u l p =
      cond (eqb (cond u 8 l) 0) (changed (record { verdict = record { number = 0; fault = 0; place = cond u 0 p }; length = records * record_size }))
      (changed (record { verdict = record { number = cond u 8 l; fault = 0; place = cond u 0 p }; length = 0 }))

  answer-is : answer (rename_set names lengths time room) L ≡ answered (unfit_set L names lengths) (lowest (rename_refusals time L rs ++ lasts)) (refused_at time L rs 0)
  unfolding step lowest
  answer-is = refl

  -- where it refuses, with a number and a place
  Refuses : ℕ → ℕ → Type 0
  Refuses low place = (low ≢ 0) × (verdict_of conditions ≡ record { number = low; fault = 0; place = place })
      × (answer (rename_set names lengths time room) L ≡ changed (record { verdict = record { number = low; fault = 0; place = place }; length = 0 }))

  refused-decision : (v : Verdict) → verdict_of conditions ≡ v → is_done v ≡ false → rename_set_decision (length img) (view img) names lengths time room ≡ record { verdict = v; plan = none }
  unfolding rename_set_decision decided
  refused-decision v e q =
      (λ i.
      let w = and_then (opens L img rep i) (and_then (e i) (verdict_of (plan_conditions d plan room))) in
      record { verdict = w; plan = cond (is_done w) plan none })
      ∙ ap (λ (b : Bool). let w = cond b (verdict_of (plan_conditions d plan room)) v in record { verdict = w; plan = cond (is_done w) plan none }) q
      ∙ ap (λ (b : Bool). record { verdict = v; plan = cond b plan none }) q

  Shown : Type 0
  Shown = (volume_answer (rename_set names lengths time room) img ≡ answer (rename_set names lengths time room) L) × Effect Rep (rename_set names lengths time room) L img

  shown-refused : (low place : ℕ) → Refuses low place → Shown
  unfolding Refuses Shown on_volume groups_for
  shown-refused low place h =
      let v : Verdict = record { number = low; fault = 0; place = place } in
      let x = refused-decision v h.1 (ne_eqb low 0 h.0) in
      let f : fed (whole (rename_set names lengths time room)) L ≡ L = ap (λ (b : Bool). cond b (step (rename_set names lengths time room) L).done L)
      (ap (λ (a : Answer). eqb (number_of a) 0) h.2 ∙ ne_eqb low 0 h.0) in (
        ap (λ (y : Decision). changed (answer_of (view img) y)) x ∙ sym h.2,
        nothing (ap (λ (y : Decision). y.plan) x) (subst (λ (X : Ledger). Rep X img) (sym f) rep),
      )

  -- ---- a bad set

  bad-refused : bad_set names lengths ≡ true → Refuses 8 0
  unfolding Refuses
  bad-refused e =
      let u : unfit_set L names lengths ≡ true = sym (bad-is L names lengths) ∙ e in (
        (λ z. omega arith),
        verdict-of ∙ ap (λ (b : Bool). cond b (refusal 8) (and_then (verdict_of (renames_conditions d names lengths time n)) (cond too_many (refusal 13) done))) e,
        answer-is ∙ ap (λ (b : Bool). answered b (lowest (rename_refusals time L rs ++ lasts)) (refused_at time L rs 0)) u,
      )

  module _ (ht : time < 2 ^ 64) (fitting : bad_set names lengths ≡ false) where
    good : GoodSet names lengths
    good = good-set names lengths fitting

    unfit : unfit_set L names lengths ≡ false
    unfit = sym (bad-is L names lengths) ∙ fitting

    pairs : pairs_of (names_of names lengths) ≡ renames_from d names lengths time 0 n
    pairs = pairs-are names lengths good

    -- ---- a rename is refused

    stopped : verdict_of (concatenated (conditions_of d names lengths time) 0 n)
        ≡ record { number = lowest (rename_refusals time L (renames_from d names lengths time 0 n)); fault = 0; place = refused_at time L (renames_from d names lengths time 0 n) 0 }
        → lowest (rename_refusals time L (renames_from d names lengths time 0 n)) ≢ 0
        → Refuses (lowest (rename_refusals time L (renames_from d names lengths time 0 n))) (refused_at time L (renames_from d names lengths time 0 n) 0)
    unfolding Refuses renames_conditions
    stopped e ne =
        let qs = renames_from d names lengths time 0 n in
        let low = lowest (rename_refusals time L qs) in
        let v : Verdict = record { number = low; fault = 0; place = refused_at time L qs 0 } in (
          ne,
          verdict-of ∙ ap₂ (λ (b : Bool) (w : Verdict). cond b (refusal 8) (and_then w (cond too_many (refusal 13) done))) fitting e
              ∙ ap (λ (b : Bool). cond b (cond too_many (refusal 13) done) v) (ne_eqb low 0 ne),
          answer-is ∙ ap₂ (λ (u : Bool) (q : Pairs). answered u (lowest (rename_refusals time L q ++ lasts)) (refused_at time L q 0)) unfit pairs
              ∙ ap (λ x. answered false x (refused_at time L qs 0)) (first-lowest (rename_refusals time L qs) lasts ne)
              ∙ ap (λ (b : Bool). cond b (changed (record { verdict = record { number = 0; fault = 0; place = refused_at time L qs 0 }; length = records * record_size }))
              (changed (record { verdict = v; length = 0 }))) (ne_eqb low 0 ne),
        )

    -- ---- none is

    module _ (passes : verdict_of (concatenated (conditions_of d names lengths time) 0 n) ≡ done) (zero-low : lowest (rename_refusals time L (renames_from d names lengths time 0 n)) ≡ 0)
        (no_place : refused_at time L (renames_from d names lengths time 0 n) 0 ≡ 0) (r : Reached d names lengths time (catalogue_of d) L 0 n) where
      abbrev M : Ledger
      M = after_renames L (renames_from d names lengths time 0 n) time

      -- as many targets as the ledger counts
      targets-are : length writes ≡ targets
      unfolding renamed_targets
      targets-are =
          set-count d names lengths time (catalogue_of d) L n r
          ∙ ap₂ (λ (x : Geometry) (q : Pairs). let entries = count_below (names_slot L q time) x.files in
          cond (eqb entries 0) 0 (1 + entries + count_below (frees_in L q time) (table_sectors x))) geometry (sym pairs)

      many_is : too_many ≡ more
      many_is = ap₂ (λ (x : Geometry) (k : ℕ). ltb (reserve_extents x * extent_sectors x) k) geometry targets-are

      own-verdict : verdict_of conditions ≡ cond too_many (refusal 13) done
      unfolding renames_conditions
      own-verdict = verdict-of ∙ ap₂ (λ (b : Bool) (w : Verdict). cond b (refusal 8) (and_then w (cond too_many (refusal 13) done))) fitting passes

      rest-lowest : lowest (rename_refusals time L rs ++ lasts) ≡ lowest lasts
      rest-lowest = later-lowest (rename_refusals time L rs) lasts (ledger-refuses time rs L) (ap (λ (q : Pairs). lowest (rename_refusals time L q)) pairs ∙ zero-low)

      -- 13 by the count
      refuses-many : too_many ≡ true → Refuses 13 0
      unfolding Refuses lowest
      refuses-many e = (
        (λ z. omega arith),
        own-verdict ∙ ap (λ (b : Bool). cond b (refusal 13) done) e,
        answer-is ∙ ap₂ (λ (u : Bool) (q : Pairs). answered u (lowest (rename_refusals time L rs ++ lasts)) (refused_at time L q 0)) unfit pairs
            ∙ ap₂ (answered false) rest-lowest no_place
            ∙ ap (λ (b : Bool). answered false (cond b 13 (lowest (no_reserve L records ∷ too_short room records ∷ []))) 0) (sym many_is ∙ e),
      )

      -- ---- it is done, or refused by its list alone

      module _ (few : too_many ≡ false) where
        abbrev touched : Bool
        touched = any_below (is_touched d names lengths time n) (data_at (geometry_in (view img superblock_at)))

        count-is : count_below (is_touched d names lengths time n) (data_at (geometry_in (view img superblock_at))) ≡ targets
        count-is = sym (length-set d names lengths time n) ∙ targets-are

        some-targets : touched ≡ true → 0 < targets
        some-targets e = subst (λ k. 0 < k) count-is (count_below-any_below (is_touched d names lengths time n) _ e)

        no_targets : touched ≡ false → targets ≡ 0
        no_targets e = sym count-is ∙ count_below-none (is_touched d names lengths time n) _ e

        abbrev p : Plan
        p = record { data_sectors = []; targets = set_targets (view img) names lengths time (length lengths / 2) }

        plan-is : (b : Bool) → touched ≡ b → plan ≡ cond b (some p) none
        unfolding set_planned catalogue_of
        plan-is b e = ap (λ (t : Bool). cond t (some p) none) e

        records-by : (b : Bool) → touched ≡ b → records ≡ cond b (record_count 0 targets) 0
        records-by true e = let l = some-targets e in ap (λ (b : Bool). cond b 0 (record_count 0 targets)) (ne_eqb targets 0 (λ z. omega arith))
        records-by false e = ap (λ (b : Bool). cond b 0 (record_count 0 targets)) (eq-eqb targets 0 (no_targets e))

        size : list_length (groups_for (view img) plan) ≡ records * record_size
        unfolding groups_for
        size = go touched refl
          where
            go : (b : Bool) → touched ≡ b → list_length (groups_for (view img) plan) ≡ records * record_size
            go true e =
                ap (λ (o : Option Plan). list_length (groups_for (view img) o)) (plan-is true e) ∙ plan-needs (view img) p
                ∙ ap (λ k. record_count 0 k * record_size) targets-are ∙ ap (λ k. k * record_size) (sym (records-by true e))
            go false e = ap (λ (o : Option Plan). list_length (groups_for (view img) o)) (plan-is false e) ∙ ap (λ k. k * record_size) (sym (records-by false e))

        planned : is_planned plan ≡ ltb 0 records
        planned = go touched refl
          where
            go : (b : Bool) → touched ≡ b → is_planned plan ≡ ltb 0 records
            go true e = ap is_planned (plan-is true e) ∙ sym (ap (ltb 0) (records-by true e) ∙ lt-ltb 0 (record_count 0 targets) (omega arith))
            go false e = ap is_planned (plan-is false e) ∙ sym (ap (ltb 0) (records-by false e))

        passed-all : verdict_of conditions ≡ done
        passed-all = own-verdict ∙ ap (λ (b : Bool). cond b (refusal 13) done) few

        decides-set : Decides L img (rename_set names lengths time room) (λ x. conditions) (λ x. plan) room records
        unfolding on_volume rename_set_decision step verdict_of
        decides-set = record {
          volume = refl;
          reply = ap₂ (λ (u : Bool) (k : ℕ). changed (record { verdict = record { number = 0; fault = 0; place = cond u 0 k }; length = records * record_size }))
              unfit (ap (λ (q : Pairs). refused_at time L q 0) pairs ∙ no_place);
          judges = record {
            conditions =
                verdict-append conditions (last_conditions L plan room records) refusing
                ∙ ap (λ (v : Verdict). and_then v (verdict_of (last_conditions L plan room records))) passed-all
                ∙ ap verdict_of (last-is L plan room records planned)
                ∙ sym (ap (λ (b : Bool). cond b (refusal 8) (verdict_of (verdicts (rename_refusals time L rs ++ lasts)))) unfit
                ∙ later-verdict (rename_refusals time L rs) lasts (ledger-refuses time rs L) (ap (λ (q : Pairs). lowest (rename_refusals time L q)) pairs ∙ zero-low)
                ∙ ap (λ (b : Bool). cond b (refusal 13) (verdict_of (verdicts (no_reserve L records ∷ too_short room records ∷ [])))) (sym many_is ∙ few));
            refusing = refusing;
            size = size;
          };
        }

        -- ---- what it leaves

        after-geometry : L.geometry ≡ M.geometry
        after-geometry =
            sym geometry ∙ ap geometry_in (sym (seen-superblock d names lengths time n) ∙ sym (ap (λ (x : Disk). x superblock_at) (r.shows ∙ ap (disk_before d names lengths time) (zero-add n))))
            ∙ r.rep.ready.volume.geometry

        -- an image that shows the disk after the last rename, outside journal and staging extents
        leaves : (out : List ℕ) → Ready L.geometry out → ((j : ℕ) → Outside L.geometry (catalogue_of d) j → j ≢ 0 → view out j ≡ disk_before d names lengths time n j)
            → Rep (after_renames L rs time) out
        leaves out ready shows =
            subst (λ (q : Pairs). Rep (after_renames L q time) out) (sym pairs)
            (rep-keep M r.image out r.rep (subst (λ (x : Geometry). Ready x out) after-geometry ready) (catalogue_of d) r.frees
            (subst (λ (x : Geometry). (j : ℕ) → Outside x (catalogue_of d) j → j ≢ 0 → view out j ≡ view r.image j) after-geometry
            (λ j o ne. shows j o ne ∙ sym (ap (λ (x : Disk). x j) (r.shows ∙ ap (disk_before d names lengths time) (zero-add n))))))

        geo : UsableGeometry L.geometry
        geo = rep-geometry L img rep

        journalled : length writes ≤ 1024
        journalled =
            let e = ap (λ (x : Geometry). x.extents) geometry in
            let f = ap (λ (x : Geometry). x.files) geometry in
            let h = touched-few d names lengths time (omega (arith, rep.bounded.files-low)) n in
            omega (arith, length-set d names lengths time n, good.few, rep.bounded.extents-high)

        fits : touched ≡ true → lacks_reserve (catalogue L) ≡ false → WellFormed L.geometry (view img) p
        fits e reserve =
            let t = some-targets e in
            plan-fits L img rep reserve writes (omega (arith, targets-are))
            (subst (λ (x : Geometry). length writes ≤ reserve_extents x * extent_sectors x) geometry (ltb-false _ (length writes) few)) journalled
            (subst (λ (x : Geometry). All (Metadata x) writes) geometry (set-metadata d names lengths time (catalogue_of d) L n r))
            (set-rising d names lengths time (catalogue_of d) L n r) (set-whole d names lengths time (catalogue_of d) L n r)

        carries : touched ≡ true → lacks_reserve (catalogue L) ≡ false → Carries L img (rename_set names lengths time room) p
        unfolding step
        carries e reserve =
            let ok = fits e reserve in
            record {
              fits = ok;
              done = leaves (uncut L.geometry img p) (ready-uncut L.geometry img p geo ok rep.ready)
                  (λ j o ne. done-shows L.geometry img p geo ok rep.ready j o ne ∙ set-over d names lengths time (catalogue_of d) L n r j);
              partly = λ k m. part-keeps L img p rep ok refl k m;
            }

        carried : (is_planned plan && lacks_reserve (catalogue L)) ≡ false → Carried L img (rename_set names lengths time room) plan
        unfolding step
        carried = go touched refl
          where
            go : (b : Bool) → touched ≡ b → (is_planned plan && lacks_reserve (catalogue L)) ≡ false → Carried L img (rename_set names lengths time room) plan
            go true e h =
                subst (Carried L img (rename_set names lengths time room)) (sym (plan-is true e))
                (carries e (sym (ap (λ (o : Option Plan). is_planned o && lacks_reserve (catalogue L)) (plan-is true e)) ∙ h))
            go false e h =
                subst (Carried L img (rename_set names lengths time room)) (sym (plan-is false e))
                (leaves img rep.ready (λ j o ne. sym (set-none d names lengths time (catalogue_of d) L n r e j)))

        shown-done : Shown
        unfolding Shown
        shown-done = (
          same-changing L img rep _ _ _ room records decides-set,
          effect-changing L img rep _ _ _ room records decides-set (λ passed never. carried never),
        )

      shown-counted : (b : Bool) → too_many ≡ b → Shown
      shown-counted true e = shown-refused 13 0 (refuses-many e)
      shown-counted false e = shown-done e

    shown-fitting : Shown
    unfolding disk_before
    shown-fitting = go (steps d names lengths time ht (catalogue_of d) n 0 L img rep (free-said L img rep) refl)
      where
        go : Stepped (verdict_of (concatenated (conditions_of d names lengths time) 0 n)) (lowest (rename_refusals time L (renames_from d names lengths time 0 n)))
            (refused_at time L (renames_from d names lengths time 0 n) 0) (Reached d names lengths time (catalogue_of d) L 0 n) → Shown
        go (stops e ne) = shown-refused _ _ (stopped e ne)
        go (reaches e l k r) = shown-counted e l k r too_many refl

  shown : time < 2 ^ 64 → Shown
  shown ht = go (bad_set names lengths) refl
    where
      go : (b : Bool) → bad_set names lengths ≡ b → Shown
      go true e = shown-refused 8 0 (bad-refused e)
      go false e = shown-fitting ht e

  -- THE LEDGER'S ANSWER, and what a set of renames does
  pub set_same : time < 2 ^ 64 → volume_answer (rename_set names lengths time room) img ≡ answer (rename_set names lengths time room) L
  unfolding Shown
  set_same ht = (shown ht).0

  pub set-effect : time < 2 ^ 64 → Effect Rep (rename_set names lengths time room) L img
  unfolding Shown
  set-effect ht = (shown ht).1

-- ---- what follows where the ledger answers 0, and where the time is bad

module _ (L : Ledger) (names lengths : List ℕ) (time room : ℕ) (zero_number : number_of (answer (rename_set names lengths time room) L) ≡ 0) where
  abbrev all : Refusals
  all = rename_refusals time L (pairs_of (names_of names lengths))

  set-low : cond (unfit_set L names lengths) 8 (lowest (all ++ last L names lengths time room)) ≡ 0
  unfolding step lowest
  set-low =
      ap (λ (v : Verdict). v.number) (sym (verdict-is (step (rename_set names lengths time room) L).refusals))
      ∙ sym (number_is (step (rename_set names lengths time room) L) refl) ∙ zero_number

  set-fits : unfit_set L names lengths ≡ false
  set-fits = go (unfit_set L names lengths) refl set-low
    where
      go : (b : Bool) → unfit_set L names lengths ≡ b → cond b 8 (lowest (all ++ last L names lengths time room)) ≡ 0 → unfit_set L names lengths ≡ false
      go true e h = absurd (let z : ◌≡◌ {A = ℕ} 8 0 = h in omega arith)
      go false e h = e

  none-refused : lowest all ≡ 0
  none-refused = go (eqb (lowest all) 0) refl
    where
      never : (b : Bool) (k : ℕ) → k ≢ 0 → cond b 8 k ≢ 0
      never true k ne e = omega arith
      never false k ne e = ne e

      go : (b : Bool) → eqb (lowest all) 0 ≡ b → lowest all ≡ 0
      go true e = eqb-true (lowest all) 0 e
      go false e =
          let ne : lowest all ≢ 0 = eqb-false (lowest all) 0 e in
          absurd (never (unfit_set L names lengths) (lowest (all ++ last L names lengths time room)) (λ q. ne (sym (first-lowest all (last L names lengths time room) ne) ∙ q)) set-low)

  pub set-passed : Passed (verdicts (rename_refusals time L (pairs_of (names_of names lengths))))
  set-passed = passed-by (verdicts all) (ledger-refuses time (pairs_of (names_of names lengths)) L) (ap is_done (verdict-is all) ∙ ap (λ n. eqb n 0) none-refused)

  -- and it isn't frozen, if the set has a target
  pub set-reserved : (ltb 0 (set_records (renamed_targets L (pairs_of (names_of names lengths)) time)) && is_frozen L) ≡ false
  set-reserved =
      let lasts = last L names lengths time room in
      let low : lowest lasts ≡ 0 =
      sym (later-lowest all lasts (ledger-refuses time (pairs_of (names_of names lengths)) L) none-refused)
      ∙ sym (ap (λ (b : Bool). cond b 8 (lowest (all ++ lasts))) set-fits) ∙ set-low in
      (passed-by (verdicts lasts) refl (ap is_done (verdict-is lasts) ∙ ap (λ n. eqb n 0) low)).1.0

first-8 : (b : Bool) → b ≡ true → (v : Verdict) → (cond b (refusal 8) v).number ≡ 8
first-8 true e v = refl
first-8 false e v = absurd (true≢false (sym e))

-- the first of the set is refused then, at the latest
pub set-wide : (d : Disk) (names lengths : List ℕ) (time : ℕ) → bad_time (geometry_in (d superblock_at)).edition time ≡ true
    → (verdict_of (rename_set_conditions d names lengths time)).number ≡ 8
unfolding rename_set_conditions renames_conditions rename_conditions catalogue_of disk_before verdict_of
set-wide d names lengths time h = go (bad_set names lengths) refl
  where
    n : ℕ
    n = length lengths / 2

    last : Conditions
    last = (ltb (reserve_extents (catalogue_of d).geometry * extent_sectors (catalogue_of d).geometry) (length (set_targets d names lengths time (length lengths / 2))), refusal 13) ∷ []

    one : (m : ℕ) → 0 < m → (verdict_of (renames_conditions d names lengths time m ++ last)).number ≡ 8
    one zero l = absurd (let z : 0 < 0 = l in omega arith)
    one (suc m) l =
        ap (λ (cs : Conditions). (verdict_of (cs ++ last)).number) (concatenated-front (conditions_of d names lengths time) 0 m)
        ∙ first-8 _ h _

    go : (b : Bool) → bad_set names lengths ≡ b → (cond b (refusal 8) (verdict_of (renames_conditions d names lengths time n ++ last))).number ≡ 8
    go true e = refl
    go false e = one n (good-set names lengths e).some
