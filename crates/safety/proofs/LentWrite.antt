-- T-11: a write or resize to which the partly covered sectors that it asks for are supplied answers and leaves its list as the call does on the image: all
-- else of its plan rests on the sectors before the data area. Assumes nothing.
use Prim.Native.Nat.{ℕ, suc, ◌*◌, ◌-◌, ◌/◌, ◌≤◌, ◌<◌}
use mathlib.Core.Path.{◌≡◌, refl, sym, ap, ap₂, ◌∙◌, subst}
use mathlib.Core.Logic.{◌≢◌}
use mathlib.Core.Bool.{Bool, true, false, cond, ◌&&◌, ◌||◌}
use mathlib.Core.List.{List, [], ◌∷◌, ◌++◌, append_assoc}
use mathlib.Core.Option.{Option, none, some}
use native.Mathlib.Omega.{arith}
use lib.Dec.{eqb, ltb}
use lib.ListN.{length}
use borrow.Author.Tests.{eqb-true, eqb-false, ne_eqb, ltb-false}
use Rattle.model.specs.declared.Part.{Part}
use Rattle.model.specs.declared.Writing.{Writing}
use Rattle.model.specs.Answers.{Changed, Verdict}
use Rattle.model.specs.Search.{index_of}
use Rattle.model.specs.Geometry.{extents_for, superblock_at, entry_at}
use Rattle.model.specs.Disk.{Disk, view}
use Rattle.model.specs.Superblock.{geometry_in}
use Rattle.model.specs.Entry.{updated_entry_sector}
use Rattle.model.specs.Table.{table_sector_of, taken_in}
use Rattle.model.specs.Catalogue.{Catalogue, catalogue_of, is_free, file_named, free_extent, lacks_reserve, entry_of, owns_from}
use Rattle.model.specs.Refusals.{Conditions, verdict_of, and_then, is_done, refusal, judged}
use Rattle.model.specs.WriteList.{Record, sector_write, barrier, record_size, emit, Plan, Group, staging, copies, sectors_of, journal_of, group_a}
use Rattle.model.specs.WriteList.{superblock_group, groups_of, groups_for, closed, list_length, record_count, Decision, is_planned, plan_conditions, decided, answer_of}
use Rattle.model.specs.Read.{size_named}
use Rattle.model.specs.Write.{touched_sectors, held_extents, grows, file_sector_at, data_sector, size_after, write_plan, write_planned, write_conditions, write_decision, write_answer}
use Rattle.model.specs.Resize.{zeros, shrink_plan, resize_planned, resize_conditions, resize_decision, resize_answer}
use Rattle.model.specs.Lent.{partly_covered, write_asking, write_lent, resize_lent}
use Rattle.model.specs.Ledger.{write, resize, changed}
use Rattle.model.specs.Run.{on_volume, volume_answer, volume_plan}
use Rattle.model.specs.Opened.{Bounded}
use Rattle.laws.proofs.Booleans.{or_right}
use Rattle.laws.proofs.Bytes.{length-bytes_from, length-put}
use Rattle.laws.proofs.Search.{length-tabulate}
use Rattle.laws.proofs.Disk.{length-view}
use Rattle.laws.proofs.WriteList.{plan-needs}
use Rattle.safety.specs.LentForms.{Lends, goes_by, write_fed, write_steps, write_answered, lent_answer, lent_list, LentCall}
use Rattle.safety.proofs.Bridge.{closed_is}
use Rattle.safety.proofs.Changing.{Passed, passed-by, earlier-done, later-done}
use Rattle.safety.proofs.LentFront.{Agrees, same-catalogue, same-groups, lent-agrees, lent-image}
use Rattle.safety.proofs.LentCalls.{named-entry, same-freed, same-decided, same_answer}
use Rattle.safety.proofs.LentRead.{lowest-inside, judged-bounded}
use Rattle.safety.proofs.LentParts.{steps-none, settled, filled, AllAsk, listed, Fills, fills-covered}

-- ---- the groups of a plan with data sectors

-- what stands behind them in the list
abbrev behind_data : Disk → Group → List Record
behind_data d ts =
    let g = geometry_in (d superblock_at) in
    let stages = staging (catalogue_of d) (length ts) in
    copies stages ts ++ (journal_of g stages (sectors_of ts) ++ (barrier ∷ closed (superblock_group d (length ts) ∷ ts ∷ superblock_group d 0 ∷ [])))

data-first : (d : Disk) (p : Plan) → closed (groups_for d (some p)) ≡ p.data_sectors ++ behind_data d p.targets
unfolding groups_for groups_of group_a
data-first d p =
    let ts = p.targets in
    let g = geometry_in (d superblock_at) in
    let stages = staging (catalogue_of d) (length ts) in
    let gs = superblock_group d (length ts) ∷ ts ∷ superblock_group d 0 ∷ [] in
    closed_is (group_a g stages p) gs
    ∙ append_assoc (p.data_sectors ++ copies stages ts) (journal_of g stages (sectors_of ts)) (barrier ∷ closed gs)
    ∙ append_assoc p.data_sectors (copies stages ts) (journal_of g stages (sectors_of ts) ++ (barrier ∷ closed gs))

-- ---- a call that decides on the lent sectors, by what it decides there and on the image

module _ (img : List ℕ) where
  -- x with the old bytes of the lent sectors, y with the image's; ps are asked for
  record Same (x y : Decision) (ps : List Part) (room : ℕ) : Type 0 where
    answers : answer_of (view img) x ≡ answer_of (view img) y
    settles : (l : List ℕ) → length l ≡ room → write_answered (write_fed write_steps (view img) (write_asking (answer_of (view img) y) ps) l).0 ≡ answer_of (view img) y
    leaves-list : (l : List ℕ) → length l ≡ room
        → (write_fed write_steps (view img) (write_asking (answer_of (view img) y) ps) (emit l 0 (closed (groups_for (view img) x.plan)))).1 ≡ emit l 0 (closed (groups_for (view img) y.plan))

  -- one decision, and nothing is asked for
  same-at-once : (y : Decision) (room : ℕ) → Same y y [] room
  unfolding write_asking
  same-at-once y room = record {
    answers = refl;
    settles = λ l e. ap (λ (x : Writing × List ℕ). write_answered x.0) (steps-none (view img) 2 (write_asking (answer_of (view img) y) []) l refl);
    leaves-list = λ l e.
        ap (λ (x : Writing × List ℕ). x.1) (steps-none (view img) 2 (write_asking (answer_of (view img) y) []) (emit l 0 (closed (groups_for (view img) y.plan))) refl);
  }

-- ---- a write, by its conditions

module _ (img front : List ℕ) (count : ℕ) (lends : Lends img front count) (i : ℕ) (entry : view front (entry_at i) ≡ view img (entry_at i))
    (offset : ℕ) (bytes : List ℕ) (time : ℕ) (cs : Conditions) (room : ℕ) where
  abbrev cat : Catalogue
  cat = catalogue_of (view img)

  -- with the old bytes of a disk
  abbrev planned : Disk → Option Plan
  planned d = write_planned cat i d offset bytes time

  abbrev verdict : Disk → Verdict
  verdict d = and_then (judged (length img) (view img)) (and_then (verdict_of cs) (verdict_of (plan_conditions (view img) (planned d) room)))

  abbrev decision : Disk → Decision
  decision d = record { verdict = verdict d; plan = cond (is_done (verdict d)) (planned d) none }

  targets-long : (d : Disk) → length (write_plan cat i d offset bytes time).targets ≡ suc (cond (grows cat i (size_after cat i offset (length bytes))) 1 0)
  unfolding write_plan
  targets-long d = ap suc (go (grows cat i (size_after cat i offset (length bytes))))
    where
      x : ℕ
      x = index_of (free_extent cat)

      go : (b : Bool) → length (cond b (sector_write (table_sector_of cat.geometry x) (taken_in x i (held_extents cat i) (d (table_sector_of cat.geometry x))) ∷ []) []) ≡ cond b 1 0
      go true = refl
      go false = refl

  data-long : (d : Disk) → length (write_plan cat i d offset bytes time).data_sectors ≡ touched_sectors offset (length bytes)
  unfolding write_plan
  data-long d = length-tabulate (data_sector cat i d offset bytes) (offset / 512) (touched_sectors offset (length bytes))

  -- its list's length rests on no old byte
  abbrev records : ℕ
  records = record_count (touched_sectors offset (length bytes)) (suc (cond (grows cat i (size_after cat i offset (length bytes))) 1 0))

  plan-long : (d : Disk) → list_length (groups_for (view img) (some (write_plan cat i d offset bytes time))) ≡ records * record_size
  plan-long d = plan-needs (view img) (write_plan cat i d offset bytes time) ∙ ap₂ (λ (m n : ℕ). record_count m n * record_size) (data-long d) (targets-long d)

  planned-long : (d : Disk) → list_length (groups_for (view img) (planned d)) ≡ cond (eqb (length bytes) 0) 0 (records * record_size)
  unfolding write_planned groups_for
  planned-long d = go (eqb (length bytes) 0)
    where
      go : (b : Bool) → list_length (groups_for (view img) (cond b none (some (write_plan cat i d offset bytes time)))) ≡ cond b 0 (records * record_size)
      go true = refl
      go false = plan-long d

  is-planned : (d : Disk) → is_planned (planned d) ≡ cond (eqb (length bytes) 0) false true
  unfolding write_planned
  is-planned d = go (eqb (length bytes) 0)
    where
      go : (b : Bool) → is_planned (cond b none (some (write_plan cat i d offset bytes time))) ≡ cond b false true
      go true = refl
      go false = refl

  same-verdict : (d e : Disk) → verdict d ≡ verdict e
  unfolding plan_conditions
  same-verdict d e =
      ap₂ (λ (b : Bool) (n : ℕ). and_then (judged (length img) (view img)) (and_then (verdict_of cs) (verdict_of ((b && lacks_reserve cat, refusal 13) ∷ (ltb room n, refusal 14) ∷ []))))
      (is-planned d ∙ sym (is-planned e)) (planned-long d ∙ sym (planned-long e))

  same-answers : (d e : Disk) → answer_of (view img) (decision d) ≡ answer_of (view img) (decision e)
  same-answers d e =
      ap (λ (v : Verdict). record { verdict = v; length = list_length (groups_for (view img) (cond (is_done v) (planned d) none)) }) (same-verdict d e)
      ∙ ap (λ (n : ℕ). record { verdict = verdict e; length = n }) (go (is_done (verdict e)))
    where
      go : (b : Bool) → list_length (groups_for (view img) (cond b (planned d) none)) ≡ list_length (groups_for (view img) (cond b (planned e) none))
      go true = planned-long d ∙ sym (planned-long e)
      go false = refl

  -- ---- where it is done and has bytes

  abbrev old : Disk → ℕ → List ℕ
  old d s = d (file_sector_at cat i s)

  abbrev plan : Disk → Plan
  plan d = write_plan cat i d offset bytes time

  abbrev covered : List Part
  covered = partly_covered cat i offset (length bytes)

  module _ (some_bytes : 0 < length bytes) (e : is_done (verdict (view img)) ≡ true) where
    bounded : Bounded (catalogue_of (view img)).geometry
    bounded =
        judged-bounded img lends.field
        (eqb-true _ 0 (earlier-done (judged (length img) (view img)) (and_then (verdict_of cs) (verdict_of (plan_conditions (view img) (planned (view img)) room))) e))

    -- not refused with 14: the records have room
    roomy : records * record_size ≤ room
    unfolding plan_conditions
    roomy =
        let last = plan_conditions (view img) (planned (view img)) room in
        let p : Passed last = passed-by last refl
        (later-done (verdict_of cs) (verdict_of last) (later-done (judged (length img) (view img)) (and_then (verdict_of cs) (verdict_of last)) e)) in
        let q : list_length (groups_for (view img) (planned (view img))) ≤ room = ltb-false room _ p.1.0 in
        let z : list_length (groups_for (view img) (planned (view img))) ≡ records * record_size =
        planned-long (view img) ∙ ap (λ (b : Bool). cond b 0 (records * record_size)) (ne_eqb (length bytes) 0 (λ x. omega arith)) in
        omega arith

    fits : touched_sectors offset (length bytes) ≤ room / record_size
    fits = omega (arith, roomy)

    table_same : view front (table_sector_of cat.geometry (index_of (free_extent cat))) ≡ view img (table_sector_of cat.geometry (index_of (free_extent cat)))
    unfolding free_extent catalogue_of
    table_same =
        let h : 0 < cat.geometry.extents = omega (arith, bounded.extents-low) in
        lends.same (table_sector_of cat.geometry (index_of (free_extent cat)))
        (omega (arith, lowest-inside (λ x. is_free (cat.table x)) cat.geometry.extents h))

    same-targets : (plan (view front)).targets ≡ (plan (view img)).targets
    unfolding write_plan
    same-targets =
        ap₂ (λ (s t : List ℕ).
        sector_write (entry_at i) (updated_entry_sector cat.geometry.edition (size_after cat i offset (length bytes)) time s)
        ∷ cond (grows cat i (size_after cat i offset (length bytes)))
        (sector_write (table_sector_of cat.geometry (index_of (free_extent cat))) (taken_in (index_of (free_extent cat)) i (held_extents cat i) t) ∷ []) [])
        entry table_same

    list-is : (d : Disk) (l : List ℕ) → emit l 0 (closed (groups_for (view img) (some (plan d)))) ≡ listed cat i offset bytes some_bytes (old d) l (behind_data (view img) (plan d).targets)
    unfolding write_plan data_sector
    list-is d l = ap (emit l 0) (data-first (view img) (plan d))

    fill : Fills cat i offset bytes some_bytes bounded (view img) (length-view img) (old (view front)) (λ s. length-view front (file_sector_at cat i s)) room fits covered
    fill = fills-covered cat i offset bytes some_bytes bounded (view img) (length-view img) (old (view front)) (λ s. length-view front (file_sector_at cat i s)) room fits

    filled_is : (l : List ℕ) → filled (view img) covered (emit l 0 (closed (groups_for (view img) (some (plan (view front)))))) ≡ emit l 0 (closed (groups_for (view img) (some (plan (view img)))))
    filled_is l =
        ap (filled (view img) covered) (list-is (view front) l)
        ∙ fill.fills l (behind_data (view img) (plan (view front)).targets)
        ∙ ap (λ (ts : Group). listed cat i offset bytes some_bytes (old (view img)) l (behind_data (view img) ts)) same-targets
        ∙ sym (list-is (view img) l)

    done-plan : (d : Disk) → cond (is_done (verdict d)) (planned d) none ≡ some (plan d)
    unfolding write_planned
    done-plan d =
        ap (λ (b : Bool). cond b (planned d) none) (ap is_done (same-verdict d (view img)) ∙ e)
        ∙ ap (λ (b : Bool). cond b none (some (plan d))) (ne_eqb (length bytes) 0 (λ x. omega arith))

    abbrev answer : Changed
    answer = answer_of (view img) (decision (view img))

    answer-long : eqb answer.length 0 ≡ false
    answer-long =
        let q : answer.length ≡ records * record_size = ap (λ (o : Option Plan). list_length (groups_for (view img) o)) (done-plan (view img)) ∙ plan-long (view img) in
        ne_eqb answer.length 0 (λ x. omega arith)

    room_of : (l : List ℕ) → length l ≡ room → AllAsk (length l) covered
    room_of l q = subst (λ n. AllAsk n covered) (sym q) fill.asks

    emitted-long : (l : List ℕ) (rs : List Record) → length l ≡ room → length (emit l 0 rs) ≡ room
    unfolding emit
    emitted-long l rs q = length-put l _ _ ∙ q

    write_done : Same img (decision (view front)) (decision (view img)) (cond (eqb answer.length 0) [] covered) room
    write_done =
        let z : cond (eqb answer.length 0) [] covered ≡ covered = ap (λ (b : Bool). cond b [] covered) answer-long in
        let run = settled (view img) (length-view img) answer (eqb-true _ 0 e) covered in
        subst (λ ps. Same img (decision (view front)) (decision (view img)) ps room) (sym z)
        (record {
          answers = same-answers (view front) (view img);
          settles = λ l q. (run l fill.few (room_of l q)).0;
          leaves-list = λ l q.
              let m = emit l 0 (closed (groups_for (view img) (decision (view front)).plan)) in
              (run m fill.few (room_of m (emitted-long l _ q))).1
              ∙ ap (λ (o : Option Plan). filled (view img) covered (emit l 0 (closed (groups_for (view img) o)))) (done-plan (view front))
              ∙ filled_is l
              ∙ ap (λ (o : Option Plan). emit l 0 (closed (groups_for (view img) o))) (sym (done-plan (view img)));
        })

  -- ---- where it refuses or has no bytes there is no plan

  abbrev asked : List Part
  asked = cond (eqb (answer_of (view img) (decision (view img))).length 0) [] covered

  unplanned : ((d : Disk) → (decision d).plan ≡ none) → Same img (decision (view front)) (decision (view img)) asked room
  unfolding groups_for
  unplanned h =
      let x : decision (view front) ≡ decision (view img) = λ j. record { verdict = same-verdict (view front) (view img) j; plan = (h (view front) ∙ sym (h (view img))) j } in
      let z : asked ≡ [] = ap (λ (o : Option Plan). cond (eqb (list_length (groups_for (view img) o)) 0) [] covered) (h (view img)) in
      subst (λ ps. Same img (decision (view front)) (decision (view img)) ps room) (sym z)
      (subst (λ y. Same img y (decision (view img)) [] room) (sym x) (same-at-once img (decision (view img)) room))

  by_bytes : (b : Bool) → is_done (verdict (view img)) ≡ b → (n : Bool) → eqb (length bytes) 0 ≡ n → Same img (decision (view front)) (decision (view img)) asked room
  unfolding write_planned
  by_bytes false e n q = unplanned (λ d. ap (λ (b : Bool). cond b (planned d) none) (ap is_done (same-verdict d (view img)) ∙ e))
  by_bytes true e true q =
      unplanned (λ d. ap (λ (b : Bool). cond b (planned d) none) (ap is_done (same-verdict d (view img)) ∙ e) ∙ ap (λ (b : Bool). cond b none (some (plan d))) q)
  by_bytes true e false q =
      let ne : length bytes ≢ 0 = eqb-false (length bytes) 0 q in
      write_done (omega arith) e

  write_same : Same img (decision (view front)) (decision (view img)) asked room
  write_same = by_bytes (is_done (verdict (view img))) refl (eqb (length bytes) 0) refl

or-false : (b : Bool) → (b || false) ≡ b
or-false true = refl
or-false false = refl

-- ---- THE FORMS ARE THE CALLS

module _ (img front : List ℕ) (count : ℕ) (lends : Lends img front count) (name : List ℕ) where
  abbrev of : Catalogue
  of = catalogue_of (view img)

  abbrev file : ℕ
  file = index_of (file_named of name)

  abbrev agree : Agrees (view img) (view front)
  agree = lent-agrees img front count lends

  abbrev by : ℕ
  by = goes_by front count

  same-catalogues : catalogue_of (view front) ≡ of
  same-catalogues = same-catalogue (view img) (view front) agree

  file-entry : view front (entry_at file) ≡ view img (entry_at file)
  file-entry = named-entry (view img) (view front) agree name

  -- decisions and answers on the lent sectors, by the image's refusals and geometry
  decided-lent : (cs : Conditions) (p : Option Plan) (room : ℕ) → decided by (view front) cs p room ≡ decided (length img) (view img) cs p room
  decided-lent = same-decided (length img) by (view img) (view front) agree (lent-image img front count lends)

  answer-lent : (x y : Decision) (ps : List Part) (room : ℕ) → Same img x y ps room → answer_of (view front) x ≡ answer_of (view img) y
  answer-lent x y ps room s = same_answer (length img) by (view img) (view front) agree (lent-image img front count lends) x ∙ s.answers

  -- the list that a decision leaves
  emitted-lent : (x : Decision) (l : List ℕ) → emit l 0 (closed (groups_for (view front) x.plan)) ≡ emit l 0 (closed (groups_for (view img) x.plan))
  emitted-lent x l = ap (λ (gs : List Group). emit l 0 (closed gs)) (same-groups (view img) (view front) agree x.plan)

  module _ (offset : ℕ) (bytes : List ℕ) (time : ℕ) where
    abbrev conditions : Conditions
    conditions = write_conditions of name offset (length bytes) time

    abbrev decision_by : Disk → ℕ → Decision
    decision_by d room = decided (length img) (view img) conditions (write_planned of file d offset bytes time) room

    abbrev answer_by : ℕ → Changed
    answer_by room = answer_of (view img) (decision_by (view img) room)

    abbrev asks_by : ℕ → List Part
    asks_by room = cond (eqb (answer_by room).length 0) [] (partly_covered of file offset (length bytes))

    write-by : (room : ℕ) → Same img (decision_by (view front) room) (decision_by (view img) room) (asks_by room) room
    unfolding decided
    write-by room = write_same img front count lends file file-entry offset bytes time conditions room

    write-decision : (room : ℕ) → write_decision by (view front) name offset bytes time room ≡ decision_by (view front) room
    unfolding write_decision
    write-decision room =
        ap (λ (c : Catalogue).
        decided by (view front) (write_conditions c name offset (length bytes) time) (write_planned c (index_of (file_named c name)) (view front) offset bytes time) room) same-catalogues
        ∙ decided-lent conditions (write_planned of file (view front) offset bytes time) room

    write-begun : (room : ℕ) → write_lent by (view front) name offset bytes time room ≡ write_asking (answer_by room) (asks_by room)
    unfolding write_lent write_answer
    write-begun room =
        ap₂ (λ (c : Catalogue) (a : Changed). write_asking a (cond (eqb a.length 0) [] (partly_covered c (index_of (file_named c name)) offset (length bytes)))) same-catalogues
        (ap (answer_of (view front)) (write-decision room) ∙ answer-lent (decision_by (view front) room) (decision_by (view img) room) (asks_by room) room (write-by room))

    write-answer : (room : ℕ) → lent_answer front count (view img) (write name offset bytes time room) ≡ volume_answer (write name offset bytes time room) img
    unfolding lent_answer on_volume write_decision
    write-answer room =
        ap (λ (w : Writing). changed (write_answered (write_fed write_steps (view img) w (zeros room)).0)) (write-begun room)
        ∙ ap changed ((write-by room).settles (zeros room) (length-bytes_from [] 0 room))

    write-list : (room : ℕ) (l : List ℕ) → length l ≡ room
        → lent_list front count (view img) (write name offset bytes time room) l ≡ emit l 0 (closed (groups_for (view img) (volume_plan (write name offset bytes time room) img)))
    unfolding lent_list on_volume write_decision
    write-list room l e =
        ap₂ (λ (w : Writing) (m : List ℕ). (write_fed write_steps (view img) w m).1) (write-begun (length l))
        (ap (λ (x : Decision). emit l 0 (closed (groups_for (view front) x.plan))) (write-decision (length l)) ∙ emitted-lent (decision_by (view front) (length l)) l)
        ∙ (write-by (length l)).leaves-list l refl
        ∙ ap (λ (n : ℕ). emit l 0 (closed (groups_for (view img) (decision_by (view img) n).plan))) e

    -- A WRITE'S LENT FORM IS THE WRITE
    pub lent-write : (room : ℕ) → LentCall img front count (write name offset bytes time room)
    lent-write room = record { answer = write-answer room; leaves-list = write-list room }

  -- ---- resize: it shrinks, or it is a write of zeros at the end

  module _ (z time : ℕ) where
    abbrev size : ℕ
    size = (entry_of of file).size

    abbrev resizing : Conditions
    resizing = resize_conditions of name z time

    abbrev grown : List ℕ
    grown = zeros (z - size)

    -- by whether it shrinks
    abbrev resized : Bool → Disk → ℕ → Decision
    resized b d room = decided (length img) (view img) resizing (cond b (some (shrink_plan of d file z time)) (write_planned of file d size grown time)) room

    abbrev resize_asks : Bool → ℕ → List Part
    resize_asks b room = cond (eqb (answer_of (view img) (resized b (view img) room)).length 0 || b) [] (partly_covered of file size (z - size))

    same-shrink : shrink_plan of (view front) file z time ≡ shrink_plan of (view img) file z time
    unfolding shrink_plan
    same-shrink =
        ap₂ (λ (s : List ℕ) (rs : Group). record { data_sectors = []; targets = sector_write (entry_at file) (updated_entry_sector of.geometry.edition z time s) ∷ rs }) file-entry
        (same-freed (view img) (view front) agree (owns_from of file (extents_for of.geometry z)))

    resize-by : (b : Bool) (room : ℕ) → Same img (resized b (view front) room) (resized b (view img) room) (resize_asks b room) room
    unfolding decided
    resize-by true room =
        let a : resize_asks true room ≡ [] =
        ap (λ (t : Bool). cond t [] (partly_covered of file size (z - size))) (or_right (eqb (answer_of (view img) (resized true (view img) room)).length 0) true refl) in
        subst (λ ps. Same img (resized true (view front) room) (resized true (view img) room) ps room) (sym a)
        (subst (λ x. Same img x (resized true (view img) room) [] room) (ap (λ (p : Plan). decided (length img) (view img) resizing (some p) room) (sym same-shrink))
        (same-at-once img (resized true (view img) room) room))
    resize-by false room =
        let a : resize_asks false room ≡ cond (eqb (answer_of (view img) (resized false (view img) room)).length 0) [] (partly_covered of file size (length grown)) =
        ap₂ (λ (t : Bool) (n : ℕ). cond t [] (partly_covered of file size n)) (or-false (eqb (answer_of (view img) (resized false (view img) room)).length 0))
        (sym (length-bytes_from [] 0 (z - size))) in
        subst (λ ps. Same img (resized false (view front) room) (resized false (view img) room) ps room) (sym a)
        (write_same img front count lends file file-entry size grown time resizing room)

    abbrev shrinks : Bool
    shrinks = ltb z size

    resize-decision : (room : ℕ) → resize_decision by (view front) name z time room ≡ resized shrinks (view front) room
    unfolding resize_decision resize_planned
    resize-decision room =
        ap (λ (c : Catalogue). decided by (view front) (resize_conditions c name z time) (resize_planned c (view front) (index_of (file_named c name)) z time) room) same-catalogues
        ∙ decided-lent resizing (resize_planned of (view front) file z time) room

    resize-begun : (room : ℕ) → resize_lent by (view front) name z time room ≡ write_asking (answer_of (view img) (resized shrinks (view img) room)) (resize_asks shrinks room)
    unfolding resize_lent resize_answer size_named
    resize-begun room =
        ap₂ (λ (c : Catalogue) (a : Changed).
        write_asking a (cond (eqb a.length 0 || ltb z (size_named c name)) [] (partly_covered c (index_of (file_named c name)) (size_named c name) (z - size_named c name)))) same-catalogues
        (ap (answer_of (view front)) (resize-decision room)
        ∙ answer-lent (resized shrinks (view front) room) (resized shrinks (view img) room) (resize_asks shrinks room) room (resize-by shrinks room))

    resize-answer : (room : ℕ) → lent_answer front count (view img) (resize name z time room) ≡ volume_answer (resize name z time room) img
    unfolding lent_answer on_volume resize_decision resize_planned
    resize-answer room =
        ap (λ (w : Writing). changed (write_answered (write_fed write_steps (view img) w (zeros room)).0)) (resize-begun room)
        ∙ ap changed ((resize-by shrinks room).settles (zeros room) (length-bytes_from [] 0 room))

    resize-list : (room : ℕ) (l : List ℕ) → length l ≡ room
        → lent_list front count (view img) (resize name z time room) l ≡ emit l 0 (closed (groups_for (view img) (volume_plan (resize name z time room) img)))
    unfolding lent_list on_volume resize_decision resize_planned
    resize-list room l e =
        ap₂ (λ (w : Writing) (m : List ℕ). (write_fed write_steps (view img) w m).1) (resize-begun (length l))
        (ap (λ (x : Decision). emit l 0 (closed (groups_for (view front) x.plan))) (resize-decision (length l)) ∙ emitted-lent (resized shrinks (view front) (length l)) l)
        ∙ (resize-by shrinks (length l)).leaves-list l refl
        ∙ ap (λ (n : ℕ). emit l 0 (closed (groups_for (view img) (resized shrinks (view img) n).plan))) e

    -- A RESIZE'S LENT FORM IS THE RESIZE
    pub lent-resize : (room : ℕ) → LentCall img front count (resize name z time room)
    lent-resize room = record { answer = resize-answer room; leaves-list = resize-list room }
