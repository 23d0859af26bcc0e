-- A SET OF ONE RENAME IS THAT RENAME: the same answer, the same list, and the same to the ledger. Assumes nothing.
use Prim.Native.Nat.{ℕ, ◌+◌, ◌*◌, ◌^◌, ◌≤◌, ◌<◌}
use mathlib.Core.Path.{◌≡◌, refl, sym, ap, ap₂, ◌∙◌, subst}
use mathlib.Core.Bool.{Bool, true, false, cond, not, ◌||◌}
use mathlib.Core.List.{List, [], ◌∷◌, ◌++◌}
use mathlib.Core.Option.{Option, none, some}
use native.Mathlib.Omega.{arith}
use native.Mathlib.Nat.{zero-add}
use lib.Dec.{eqb, ltb}
use lib.ListN.{length, take, length-append}
use lib.Seq.{take-append_seam, drop-append_seam, take_all}
use borrow.Author.Tests.{eq-eqb, eqb-false, eqb-true, le-ltb}
use Rattle.model.specs.declared.Geometry.{Geometry}
use Rattle.model.specs.Answers.{Verdict}
use Rattle.model.specs.Bytes.{bytes_from}
use Rattle.model.specs.Search.{any_below, concatenated, equal_bytes, index_of}
use Rattle.model.specs.Geometry.{superblock_at, root_at, extent_sectors, reserve_extents, data_at}
use Rattle.model.specs.Disk.{Disk, view}
use Rattle.model.specs.Superblock.{geometry_in}
use Rattle.model.specs.Catalogue.{Catalogue, catalogue_of, file_named}
use Rattle.model.specs.Refusals.{Conditions, verdict_of, and_then, is_done, refusal, done, judged}
use Rattle.model.specs.WriteList.{Record, Plan, Decision, sector_write, over, apply, hits, plan_conditions, decided, answer_of, list_after}
use Rattle.model.specs.Summary.{check_answer}
use Rattle.model.specs.Rename.{rename_conditions, rename_plan, rename_planned, rename_decision, rename_answer, rename_list}
use Rattle.model.specs.RenameSet.{name_start, name_of, bad_set, targets_of, rename_targets, disk_before, renames_conditions, is_touched, set_targets, set_planned, rename_set_conditions}
use Rattle.model.specs.RenameSet.{rename_set_decision, rename_set_answer, rename_set_list}
use Rattle.model.specs.Ledger.{Ledger, catalogue, changed, Answer, Feed, names_of, pairs_of, after_renames, step, ledger_from}
use Rattle.model.specs.Run.{on_volume, steady}
use Rattle.model.specs.Opened.{Bounded}
use Rattle.laws.proofs.Bytes.{bytes_from-eq}
use Rattle.laws.proofs.Search.{any_below-no, any_below-true, concatenated-ext}
use Rattle.laws.proofs.Count.{count_below-none}
use Rattle.laws.proofs.Renames.{length-set}
use Rattle.laws.proofs.RenameSet.{Pairs}
use Rattle.laws.proofs.Areas.{metadata-below}
use Rattle.safety.specs.Described.{SoundRun, ledger_of}
use Rattle.safety.specs.RenameSet.{lengths_of, AsRename, AsRenamed}
use Rattle.safety.proofs.Apply.{all_map}
use Rattle.safety.proofs.Journal.{picked, concatenated-picked}
use Rattle.safety.proofs.Order.{picked-is}
use Rattle.safety.proofs.Plan.{Metadata}
use Rattle.safety.proofs.Bounds.{copies-fit}
use Rattle.safety.proofs.Rep.{Rep, cat-is}
use Rattle.safety.proofs.Changing.{Passed, refuses, passed-by}
use Rattle.safety.proofs.Renamed.{Fits, renaming-fits}
use Rattle.safety.proofs.Rename.{rename-same}
use Rattle.safety.proofs.RenameSet.{set-verdict, set_same}
use Rattle.safety.proofs.Described.{described}
use Rattle.safety.proofs.Theorem.{represents}
use Rattle.safety.proofs.Refused.{decides}

-- ---- its names

module _ (old new : List ℕ) where
  old-is : name_of (old ++ new) (lengths_of old new) 0 ≡ old
  unfolding name_of name_start
  old-is = bytes_from-eq (old ++ new) 0 (length old) (omega (arith, length-append old new)) ∙ take-append_seam old new

  new_is : name_of (old ++ new) (lengths_of old new) 1 ≡ new
  unfolding name_of name_start
  new_is =
      ap (λ k. bytes_from (old ++ new) k (length new)) (zero-add (length old)) ∙ bytes_from-eq (old ++ new) (length old) (length new) (omega (arith, length-append old new))
      ∙ ap (take (length new)) (drop-append_seam old new) ∙ take_all (length new) new (omega arith)

  well-shaped : bad_set (old ++ new) (lengths_of old new) ≡ false
  unfolding bad_set name_start
  well-shaped = ap not (eq-eqb (0 + length old + length new) (length (old ++ new)) (omega (arith, length-append old new)))

  pair_is : pairs_of (names_of (old ++ new) (lengths_of old new)) ≡ (old, new) ∷ []
  unfolding names_of pairs_of
  pair_is = ap₂ (λ (a b : List ℕ). (a, b) ∷ []) (take-append_seam old new) (ap (take (length new)) (drop-append_seam old new) ∙ take_all (length new) new (omega arith))

-- ---- decisions

-- by the verdict of the conditions and the plan; the plan makes no difference where they refuse
same-decision : (len : ℕ) (d : Disk) (cs ds : Conditions) (p q : Option Plan) (room : ℕ) → verdict_of cs ≡ verdict_of ds → p ≡ q → decided len d cs p room ≡ decided len d ds q room
unfolding decided
same-decision len d cs ds p q room e f =
    ap₂ (λ (v : Verdict) (o : Option Plan). let w = and_then (judged len d) (and_then v (verdict_of (plan_conditions d o room))) in record { verdict = w; plan = cond (is_done w) o none }) e f

refused-decision : (len : ℕ) (d : Disk) (cs : Conditions) (p : Option Plan) (room : ℕ) → is_done (verdict_of cs) ≡ false → decided len d cs p room ≡ decided len d cs none room
unfolding decided
refused-decision len d cs p room e = via p ∙ sym (via none)
  where
    v : Verdict
    v = verdict_of cs

    last : Verdict
    last = and_then (judged len d) (verdict_of cs)

    never : (b : Bool) (o : Option Plan) → is_done (judged len d) ≡ b → cond (is_done (cond b v (judged len d))) o none ≡ none
    never true o q = ap (λ (b : Bool). cond b o none) e
    never false o q = ap (λ (b : Bool). cond b o none) q

    via : (o : Option Plan) → decided len d cs o room ≡ record { verdict = last; plan = none }
    via o =
        ap (λ (b : Bool). let w = and_then (judged len d) (cond b (verdict_of (plan_conditions d o room)) v) in record { verdict = w; plan = cond (is_done w) o none }) e
        ∙ ap (λ (x : Option Plan). record { verdict = last; plan = x }) (never (is_done (judged len d)) o refl)

passed-done : (cs : Conditions) → Passed cs → verdict_of cs ≡ done
unfolding verdict_of
passed-done [] h = refl
passed-done (c ∷ cs) h = ap (λ (b : Bool). cond b c.1 (verdict_of cs)) h.0 ∙ passed-done cs h.1

conditions-refuse : (c : Catalogue) (old new : List ℕ) (time : ℕ) → refuses (rename_conditions c old new time) ≡ true
unfolding rename_conditions
conditions-refuse c old new time = refl

module _ (L : Ledger) (img : List ℕ) (rep : Rep L img) (old new : List ℕ) (time : ℕ) (ht : time < 2 ^ 64) where
  abbrev d : Disk
  d = view img

  abbrev c : Catalogue
  c = catalogue_of (view img)

  abbrev names : List ℕ
  names = old ++ new

  abbrev lengths : List ℕ
  lengths = lengths_of old new

  abbrev g : Geometry
  g = geometry_in (view img superblock_at)

  -- ---- what it writes

  abbrev ts : List Record
  ts = targets_of (rename_planned (catalogue_of (view img)) (view img) old new time)

  targets-are : rename_targets d names lengths time 0 d ≡ ts
  unfolding rename_targets
  targets-are = ap₂ (λ (a b : List ℕ). targets_of (rename_planned c d a b time)) (old-is old new) (new_is old new)

  touched-is : (s : ℕ) → is_touched d names lengths time 1 s ≡ hits ts s
  unfolding is_touched any_below disk_before
  touched-is s = ap (λ (ws : List Record). hits ws s || false) targets-are ∙ go (hits ts s)
    where
      go : (b : Bool) → (b || false) ≡ b
      go true = refl
      go false = refl

  left_is : (s : ℕ) → disk_before d names lengths time 1 s ≡ over ts s (d s)
  unfolding disk_before apply
  left_is s = ap (λ (ws : List Record). over ws s (d s)) targets-are

  -- the same conditions
  renames-are : verdict_of (renames_conditions d names lengths time 1) ≡ verdict_of (rename_conditions c old new time)
  unfolding renames_conditions concatenated rename_conditions verdict_of disk_before
  renames-are = ap₂ (λ (a b : List ℕ). verdict_of (rename_conditions c a b time)) (old-is old new) (new_is old new)

  abbrev too_many : Bool
  too_many = ltb (reserve_extents g * extent_sectors g) (length (set_targets d names lengths time 1))

  own-verdict : verdict_of (rename_set_conditions d names lengths time) ≡ and_then (verdict_of (rename_conditions c old new time)) (cond too_many (refusal 13) done)
  own-verdict =
      set-verdict d names lengths time
      ∙ ap₂ (λ (b : Bool) (v : Verdict). cond b (refusal 8) (and_then v (cond too_many (refusal 13) done))) (well-shaped old new) renames-are

  abbrev Same : ℕ → Type 0
  Same room = rename_set_decision (length img) d names lengths time room ≡ rename_decision (length img) d old new time room

  -- ---- where the rename is refused

  refused : (room : ℕ) → is_done (verdict_of (rename_conditions c old new time)) ≡ false → Same room
  unfolding rename_set_decision rename_decision
  refused room e =
      let v : verdict_of (rename_set_conditions d names lengths time) ≡ verdict_of (rename_conditions c old new time) =
      own-verdict ∙ ap (λ (b : Bool). cond b (cond too_many (refusal 13) done) (verdict_of (rename_conditions c old new time))) e in
      refused-decision (length img) d (rename_set_conditions d names lengths time) _ room (ap is_done v ∙ e)
      ∙ same-decision (length img) d (rename_set_conditions d names lengths time) (rename_conditions c old new time) none none room v refl
      ∙ sym (refused-decision (length img) d (rename_conditions c old new time) (rename_planned c d old new time) room e)

  -- ---- where it isn't

  module _ (passes : Passed (rename_conditions (catalogue L) old new time)) where
    geometry : g ≡ L.geometry
    geometry = rep.ready.volume.geometry

    abbrev planned : Bool → Option Plan
    planned b = cond b none (some (rename_plan (catalogue_of (view img)) (view img) (index_of (file_named (catalogue_of (view img)) old)) (file_named (catalogue_of (view img)) new) new time))

    fits : equal_bytes old new ≡ false → Fits g (targets_of (planned false))
    fits e =
        subst (λ (x : Geometry). Fits x (targets_of (planned false))) (sym geometry)
        (subst (λ (x : Catalogue). Fits L.geometry (rename_plan x d (index_of (file_named x old)) (file_named x new) new time).targets) (sym (cat-is L img rep))
        (renaming-fits L img rep old new time ht passes e))

    ts-is : (b : Bool) → equal_bytes old new ≡ b → rename_planned c d old new time ≡ planned b
    unfolding rename_planned
    ts-is b e = ap planned e

    -- the merged targets are the rename's own
    merged : (ws : List Record) → ts ≡ ws → Fits g ws → set_targets d names lengths time 1 ≡ ws
    unfolding set_targets catalogue_of
    merged ws q x =
        concatenated-ext _ (picked ws) 0 (data_at g) (λ s a b.
        ap₂ (λ (t : Bool) (y : List ℕ). cond t (sector_write s y ∷ []) []) (touched-is s ∙ ap (λ (o : List Record). hits o s) q) (left_is s ∙ ap (λ (o : List Record). over o s (d s)) q)
        ∙ sym (picked-is ws 0 s (d s) x.rising))
        ∙ concatenated-picked (data_at g) 0 ws x.rising
        (all_map (Metadata g) (λ w. w.sector < 0 + data_at g) (λ w h. let l = metadata-below g w.sector h in omega arith) ws x.metadata)

    nothing-hit : equal_bytes old new ≡ true → (s : ℕ) → is_touched d names lengths time 1 s ≡ false
    unfolding hits
    nothing-hit e s = touched-is s ∙ ap (λ (o : Option Plan). hits (targets_of o) s) (ts-is true e)

    plans-are : (b : Bool) → equal_bytes old new ≡ b → set_planned d names lengths time 1 ≡ rename_planned c d old new time
    unfolding set_planned catalogue_of rename_plan hits
    plans-are true e =
        ap (λ (t : Bool). cond t (some (record { data_sectors = []; targets = set_targets d names lengths time 1 })) none)
        (any_below-no (is_touched d names lengths time 1) (data_at g) (λ s l. nothing-hit e s))
        ∙ sym (ts-is true e)
    plans-are false e =
        let q : ts ≡ targets_of (planned false) = ap targets_of (ts-is false e) in
        let hit : is_touched d names lengths time 1 root_at ≡ true = touched-is root_at ∙ ap (λ (o : List Record). hits o root_at) q in
        ap (λ (t : Bool). cond t (some (record { data_sectors = []; targets = set_targets d names lengths time 1 })) none)
        (any_below-true (is_touched d names lengths time 1) root_at (data_at g) (omega arith) hit)
        ∙ ap (λ (o : List Record). some (record { data_sectors = []; targets = o })) (merged (targets_of (planned false)) q (fits e))
        ∙ sym (ts-is false e)

    few : too_many ≡ false
    few = le-ltb _ _ (go (equal_bytes old new) refl)
      where
        go : (b : Bool) → equal_bytes old new ≡ b → length (set_targets d names lengths time 1) ≤ reserve_extents g * extent_sectors g
        go true e =
            let z : length (set_targets d names lengths time 1) ≡ 0 = length-set d names lengths time 1
            ∙ count_below-none (is_touched d names lengths time 1) (data_at g) (any_below-no (is_touched d names lengths time 1) (data_at g) (λ s l. nothing-hit e s)) in
            omega arith
        go false e =
            let x = fits e in
            subst (λ (k : ℕ). k ≤ reserve_extents g * extent_sectors g) (sym (ap length (merged (targets_of (planned false)) (ap targets_of (ts-is false e)) x)))
            (copies-fit g (subst Bounded (sym geometry) rep.bounded) (length (targets_of (planned false))) x.few)

    done-same : (room : ℕ) → Same room
    unfolding rename_set_decision rename_decision
    done-same room =
        let v : verdict_of (rename_conditions c old new time) ≡ done = passed-done (rename_conditions c old new time)
        (subst (λ (x : Catalogue). Passed (rename_conditions x old new time)) (sym (cat-is L img rep)) passes) in
        same-decision (length img) d (rename_set_conditions d names lengths time) (rename_conditions c old new time) _ _ room
        (own-verdict ∙ ap₂ (λ (x : Verdict) (b : Bool). and_then x (cond b (refusal 13) done)) v few ∙ sym v) (plans-are (equal_bytes old new) refl)

  one : (room : ℕ) → Same room
  one room = go (is_done (verdict_of (rename_conditions c old new time))) refl
    where
      go : (b : Bool) → is_done (verdict_of (rename_conditions c old new time)) ≡ b → Same room
      go true e =
          done-same (passed-by (rename_conditions (catalogue L) old new time) (conditions-refuse (catalogue L) old new time)
          (sym (ap (λ (x : Catalogue). is_done (verdict_of (rename_conditions x old new time))) (cat-is L img rep)) ∙ e)) room
      go false e = refused room e

-- ---- ON AN IMAGE, whatever its state

pub one-rename : (img old new : List ℕ) (time : ℕ) → time < 2 ^ 64 → extent_sectors (geometry_in (view img superblock_at)) < 2 ^ 32 → AsRename img old new time
unfolding rename_set_answer rename_answer rename_set_list rename_list rename_set_decision rename_decision check_answer
one-rename img old new time ht narrow = record {
  answers = λ room. ap (answer_of (view img)) (same room (eqb (check_answer (length img) (view img)).verdict.number 0) refl);
  lists = λ list. ap (λ (x : Decision). list_after (view img) x list) (same (length list) (eqb (check_answer (length img) (view img)).verdict.number 0) refl);
}
  where
    same : (room : ℕ) (b : Bool) → eqb (check_answer (length img) (view img)).verdict.number 0 ≡ b
        → rename_set_decision (length img) (view img) (old ++ new) (lengths_of old new) time room ≡ rename_decision (length img) (view img) old new time room
    same room true e = one (ledger_of img) img (described img (eqb-true (check_answer (length img) (view img)).verdict.number 0 e) narrow) old new time ht room
    same room false e =
        let ne = eqb-false (check_answer (length img) (view img)).verdict.number 0 e in
        decides img ne _ _ room ∙ sym (decides img ne _ _ room)

-- AND ON THE LEDGER of a run

pub one-renamed : {L₀ : Ledger} {img : List ℕ} {fs : List Feed} {rs : List Answer} → SoundRun L₀ steady img fs rs → (old new : List ℕ) (time room : ℕ) → time < 2 ^ 64
    → AsRenamed (ledger_from L₀ fs) old new time room
unfolding step on_volume after_renames
one-renamed {L₀} {img} {fs} r old new time room ht =
    let L = ledger_from L₀ fs in
    let rep = represents r in
    record {
      answers = sym (set_same L img rep (old ++ new) (lengths_of old new) time room ht)
          ∙ ap (λ (x : Decision). changed (answer_of (view img) x)) (one L img rep old new time ht room) ∙ rename-same L img rep old new time room;
      becomes = ap (λ (q : Pairs). after_renames L q time) (pair_is old new);
    }
