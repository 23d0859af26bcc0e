-- THE CLAIMS OF REQUEST T-06 about an accepted repair, carried out whole, on an image of bytes.
--   `keeps_entry`, `keeps-data`, `keeps-bytes`, `keeps-named`   no byte of a file changes, nor its entry: of a file free of faults, and of
--                      every other that lacks no extent; nor any byte of an extent that was not free
--   `keeps-extents`    a file without fault 26 keeps each of its table entries
--   `keeps-faultless`  the request's words: a file free of faults is the same
--   `sound-exactly`    the volume is sound afterwards exactly if it had no fault 21 to 24 and no occupied file lacked an extent
--   `repaired-demand3`  from a repaired, sound volume on demand 3 holds
--   `answers-rest`     the answer's fault and place are the first fault of the repaired volume
--   `again-none`, `again-answer`, `again-list`    repairing again gives an empty list
--   `repair-bytes`, `repair-carried`   the repaired image is that on which the bytes of its list were carried out
--   `sound-alone`, `run_alone`   a sound volume is left alone, and so is every volume of a run
--   `repair-13`        T-12: it is refused 13 exactly if it has a target and fewer than K extents are free; `refused-same`: then nothing changes
-- Assumes nothing.
use Prim.Native.Nat.{ℕ, ◌+◌, ◌*◌, ◌-◌, ◌/◌, ◌%◌, ◌<◌}
use mathlib.Core.Path.{◌≡◌, refl, sym, ap, ◌∙◌, subst}
use mathlib.Core.Logic.{◌≢◌, ◌↔◌}
use mathlib.Core.Bool.{Bool, true, false, cond, not, ◌&&◌, true≢false, false≢true}
use mathlib.Core.List.{List}
use mathlib.Core.Option.{Option, none, some, none-ne-some}
use native.Mathlib.Omega.{arith}
use lib.Dec.{ltb}
use lib.ListN.{length, get_or}
use borrow.Author.Tests.{eqb-true, eq-eqb, ne_eqb, ltb-true, le-ltb, not-false}
use Rattle.model.specs.declared.Geometry.{Geometry}
use Rattle.std.specs.Prelude.{Some, None}
use Rattle.model.specs.Answers.{Soundness, Sound, Faulty, Verdict, Checked}
use Rattle.model.specs.declared.State.{State}
use Rattle.model.specs.declared.State.TheVariants.{Clean, Waiting, Damaged, Unfinished}
use Rattle.model.specs.Bytes.{bytes_from}
use Rattle.model.specs.Search.{Lowest, first, any_below, count_below, is_at}
use Rattle.model.specs.Geometry.{superblock_at, entry_at, extent_sectors, extents_for, extent_at}
use Rattle.model.specs.Disk.{Disk, view}
use Rattle.model.specs.Entry.{Entry, entry_in, is_occupied}
use Rattle.model.specs.Superblock.{geometry_in, state_on}
use Rattle.model.specs.Catalogue.{Catalogue, Owner, catalogue_of, is_free, lacks_reserve, has_name, is_part, entry_of, entry_or, file_named, extent_of, sector_of, file_byte, file_bytes}
use Rattle.model.specs.Faults.{holds_of, fault21, fault22, fault23, fault24, fault25, fault26, exact, or_else, faults_in, first_fault}
use Rattle.model.specs.Refusals.{verdict_of, and_then, is_done, given, done, refusal, image_verdict, state_number, fault_verdict, sound_verdict, judged}
use Rattle.model.specs.WriteList.{Plan, Group, is_planned, plan_conditions, stored, groups_for, list_length, list_bytes, emit, closed, Decision, list_after}
use Rattle.model.specs.CarryOut.{carry_image}
use Rattle.model.specs.Summary.{check_answer}
use Rattle.model.specs.Ledger.{Ledger, Feed, Answer, ledger_from, answers_from}
use Rattle.model.specs.Run.{Phase, steady, RunFrom}
use Rattle.model.specs.Demand3.{Settled, RecoveryAnswers, SliceAnswers}
use Rattle.model.specs.Opened.{Bounded}
use Rattle.model.specs.Repair.{is_stray, strays, repaired, repair_plan, repair_planned, repair_verdict, repair_decision, done_but, repair_answer, not_repaired, repair_list}
use Rattle.laws.proofs.Booleans.{and_left, and_right, and_yes}
use Rattle.laws.proofs.Count.{count_below-none, count_below-any_below}
use Rattle.laws.proofs.Judged.{judged-sound}
use Rattle.laws.proofs.Repaired.{stray_by, extent-repaired, stray-again, repaired-again, fault25-repaired, exact-repaired, exact-kept}
use Rattle.laws.proofs.Search.{Hit, scan-hit, first-ext, first-missed, all_below-yes, all_below-at, any_below-no, tabulate-ext}
use Rattle.laws.proofs.Seeking.{any_below-first}
use Rattle.laws.proofs.Staging.{InExtent}
use Rattle.laws.proofs.WriteList.{emit-nil}
use Rattle.safety.specs.Described.{ledger_of, SoundAs, SoundRun, SoundDemand3}
use Rattle.safety.specs.Naming.{contents_at, file_on}
use Rattle.safety.specs.Room.{Frozen}
use Rattle.safety.specs.Repairing.{OfBytes, Repairs, repaired_image, Complete, Mendable, FreeOfFaults, Same}
use Rattle.safety.proofs.Searches.{place_found}
use Rattle.safety.proofs.Superblock.{volume-accepted}
use Rattle.safety.proofs.Rep.{NoFaults, sound-of}
use Rattle.safety.proofs.Preserved.{marks-keep}
use Rattle.safety.proofs.Extents.{part-owner, exact_one, sector-held, rest_lt}
use Rattle.safety.proofs.Commit.{stored-none}
use Rattle.safety.proofs.Changing.{earlier-done, later-done}
use Rattle.safety.proofs.Bridge.{emitted-bytes}
use Rattle.safety.proofs.Passes.{none_found, no-faults}
use Rattle.safety.proofs.Theorem.{sound-demand3, restarted}
use Rattle.safety.proofs.Corollaries.{sound}
use Rattle.safety.proofs.NoRoom.{not-given, last-13, frozen-on}
use Rattle.safety.proofs.RepairDone.{clean-by, Passes, Leaves, passes, leaves, carries, long-enough, verdict-done, unstrayed-same}

module _ (img : List ℕ) (room : ℕ) (bytes : OfBytes img) (accepted : Repairs img room) where
  abbrev out : List ℕ
  out = repaired_image img room

  abbrev c : Catalogue
  c = catalogue_of (view img)

  abbrev g : Geometry
  g = geometry_in (view img superblock_at)

  after : Leaves img (repaired_image img room) (repaired (catalogue_of (view img)))
  after = leaves img room bytes accepted

  pass : Passes img
  pass = passes img room bytes accepted

  bounded : Bounded g
  unfolding catalogue_of
  bounded = pass.bounded

  -- ---- NO BYTE OF A FILE CHANGES, NOR ITS ENTRY

  pub keeps_entry : (i : ℕ) → i < (geometry_in (view img superblock_at)).files → view (repaired_image img room) (entry_at i) ≡ view img (entry_at i)
  keeps_entry i l = after.front (entry_at i) (omega arith) (omega arith)

  -- every sector of an extent that was not free is what it was
  pub keeps-data : (e j : ℕ) → is_free ((catalogue_of (view img)).table e) ≡ false → InExtent (geometry_in (view img superblock_at)) e j → view (repaired_image img room) j ≡ view img j
  keeps-data e j f h = after.files e j f h

  keeps-sector : (i : ℕ) (x : Entry) → c.entries i ≡ some x → (s : ℕ) → 512 * s < x.size → sector_of (repaired c) i s ≡ sector_of c i s
  unfolding sector_of repaired catalogue_of
  keeps-sector i x has s l =
      ap (λ e. extent_at g e + s % extent_sectors g) (extent-repaired c i x has (s / extent_sectors g) (sector-held g bounded x.size s l))

  -- by the index of a file that lacks no extent
  pub keeps-bytes : (i : ℕ) (x : Entry) → (catalogue_of (view img)).entries i ≡ some x → Complete (view img) i x
      → file_bytes (catalogue_of (view (repaired_image img room))) (view (repaired_image img room)) i 0 x.size ≡ file_bytes (catalogue_of (view img)) (view img) i 0 x.size
  unfolding file_bytes file_byte catalogue_of sector_of extent_of
  keeps-bytes i x has complete =
      ap (λ (k : Catalogue). file_bytes k (view out) i 0 x.size) after.says
      ∙ tabulate-ext (file_byte (repaired c) (view out) i) (file_byte c (view img) i) 0 0 x.size (λ k l. at (0 + k) (omega arith))
    where
      at : (k : ℕ) → k < x.size → file_byte (repaired c) (view out) i k ≡ file_byte c (view img) i k
      at k l =
          let s = k / 512 in
          let o = s / extent_sectors g in
          let p : ℕ → Bool = λ e. is_part i o (c.table e) in
          let there : is_at (first p g.extents) ≡ true = sym (any_below-first p g.extents) ∙ complete o (sector-held g bounded x.size s (omega arith)) in
          ap (λ j. get_or (view out j) (k % 512) 0) (keeps-sector i x has s (omega arith))
          ∙ ap (λ (b : List ℕ). get_or b (k % 512) 0)
          (after.files (extent_of c i o) (sector_of c i s) (ap is_free (part-owner i o (c.table (extent_of c i o)) (place_found p g.extents there).1))
          (omega arith, omega (arith, rest_lt g bounded s)))

  -- by a name: the file is where it was, and its entry and bytes are what they were
  pub keeps-named : (name : List ℕ)
      → ((i : ℕ) (x : Entry) → file_named (catalogue_of (view img)) name ≡ Some i → (catalogue_of (view img)).entries i ≡ some x → Complete (view img) i x)
      → file_on (repaired_image img room) name ≡ file_on img name
  unfolding file_on file_named entry_of repaired
  keeps-named name complete =
      ap (λ (k : Catalogue). contents_at (view out) (file_named k name)) after.says
      ∙ go (file_named c name) (scan-hit (λ i. has_name name (c.entries i)) (c.geometry.files - 0) 0) refl
    where
      there : (o : Option Entry) → has_name name o ≡ true → o ≡ some (entry_or o)
      there none e = absurd (false≢true e)
      there (some x) e = refl

      go : (r : Lowest) → Hit (λ i. has_name name (c.entries i)) (c.geometry.files - 0) 0 r → file_named c name ≡ r → contents_at (view out) r ≡ contents_at (view img) r
      go None h q = refl
      go (Some i) h q =
          let has = there (c.entries i) h.2 in
          ap (λ (k : Catalogue). some (record { entry = entry_or (k.entries i); bytes = file_bytes (catalogue_of (view out)) (view out) i 0 (entry_or (k.entries i)).size })) after.says
          ∙ ap (λ (b : List ℕ). some (record { entry = entry_or (c.entries i); bytes = b })) (keeps-bytes i (entry_or (c.entries i)) has (complete i (entry_or (c.entries i)) q has))

  -- a file without fault 26 has exactly its extents, so it lacks none
  exact-by : (i : ℕ) (x : Entry) → c.entries i ≡ some x → fault26 c i ≡ false → exact c i (extents_for c.geometry x.size) ≡ true
  unfolding fault26
  exact-by i x has f = not-false _ (sym (ap (λ (o : Option Entry). holds_of o (λ y. not (exact c i (extents_for c.geometry y.size)))) has) ∙ f)

  complete-by : (i : ℕ) (x : Entry) → c.entries i ≡ some x → fault26 c i ≡ false → Complete (view img) i x
  complete-by i x has f o l = go (any_below p c.geometry.extents) refl
    where
      p : ℕ → Bool
      p e = is_part i o (c.table e)

      go : (b : Bool) → any_below p c.geometry.extents ≡ b → b ≡ true
      go true q = refl
      go false q = absurd (omega (arith, exact_one c i (extents_for c.geometry x.size) (exact-by i x has f) o l, count_below-none p c.geometry.extents q))

  -- and it keeps each table entry
  pub keeps-extents : (i : ℕ) (x : Entry) → (catalogue_of (view img)).entries i ≡ some x → fault26 (catalogue_of (view img)) i ≡ false
      → (e : ℕ) → e < (catalogue_of (view img)).geometry.extents → (w : Owner) → (catalogue_of (view img)).table e ≡ some w → w.file ≡ i
      → (catalogue_of (view (repaired_image img room))).table e ≡ (catalogue_of (view img)).table e
  unfolding repaired
  keeps-extents i x has f e l w z q =
      ap (λ (k : Catalogue). k.table e) after.says ∙ ap (λ (b : Bool). cond b none (c.table e)) (exact-kept c i x has (exact-by i x has f) e l w z q)

  -- the claim of the request
  pub keeps-faultless : (i : ℕ) (x : Entry) → i < (catalogue_of (view img)).geometry.files → (catalogue_of (view img)).entries i ≡ some x → FreeOfFaults (view img) i
      → Same img (repaired_image img room) i x
  unfolding catalogue_of
  keeps-faultless i x l has f = record {
    entry = keeps_entry i l;
    extents = λ e w m z q. keeps-extents i x has f.f26 e m w z q ∙ z;
    bytes = keeps-bytes i x has (complete-by i x has f.f26);
  }

  -- ---- SOUND AFTERWARDS EXACTLY IF

  files-are : (catalogue_of (view out)).geometry ≡ c.geometry
  unfolding repaired
  files-are = ap (λ (k : Catalogue). k.geometry) after.says

  marks-same : (i : ℕ) → i < c.geometry.files → fault21 (view out) i ≡ fault21 (view img) i
  unfolding catalogue_of
  marks-same i l = marks-keep (view img) (view out) i (keeps_entry i l)

  -- the faults of the repaired volume are those that the answer judges
  pub faults-are : first_fault (view (repaired_image img room)) ≡ faults_in (fault21 (view img)) (repaired (catalogue_of (view img)))
  unfolding first_fault repaired
  faults-are =
      ap (λ (k : Catalogue). faults_in (fault21 (view out)) k) after.says
      ∙ ap (λ (r : Lowest). let n = c.geometry.files in or_else 21 r (or_else 22 (first (fault22 (repaired c)) n) (or_else 23 (first (fault23 (repaired c)) n)
      (or_else 24 (first (fault24 (repaired c)) n) (or_else 25 (first (fault25 (repaired c)) c.geometry.extents) (or_else 26 (first (fault26 (repaired c)) n) Sound))))))
      (first-ext (fault21 (view out)) (fault21 (view img)) c.geometry.files marks-same)

  mended : Mendable (view img) → first_fault (view out) ≡ Sound
  unfolding repaired fault22 fault23 fault24 fault26
  mended m =
      sound-of (view out) (repaired c) after.says (λ i l. marks-same i l ∙ m.f21 i l)
      (record { f22 = m.f22; f23 = m.f23; f24 = m.f24; f25 = λ e l. fault25-repaired c e; f26 = λ i l. whole i l (c.entries i) refl })
    where
      whole : (i : ℕ) → i < c.geometry.files → (o : Option Entry) → c.entries i ≡ o → holds_of o (λ x. not (exact (repaired c) i (extents_for c.geometry x.size))) ≡ false
      whole i l none z = refl
      whole i l (some x) z =
          ap not (exact-repaired c i x z
          ∙ all_below-yes (λ o. any_below (λ e. is_part i o (c.table e)) c.geometry.extents) (extents_for c.geometry x.size) (λ o k. m.held i x l z o k))

  mends : first_fault (view out) ≡ Sound → Mendable (view img)
  unfolding repaired fault22 fault23 fault24 fault26
  mends e =
      let n = subst NoFaults after.says (no-faults (view out) e) in
      record {
        f21 = first-missed (fault21 (view img)) c.geometry.files (none_found 21 (first (fault21 (view img)) c.geometry.files) _ (sym faults-are ∙ e)).0;
        f22 = n.f22;
        f23 = n.f23;
        f24 = n.f24;
        held = λ i x l z o k.
            all_below-at (λ o. any_below (λ e. is_part i o (c.table e)) c.geometry.extents) (extents_for c.geometry x.size)
            (sym (exact-repaired c i x z) ∙ not-false _ (sym (ap (λ (y : Option Entry). holds_of y (λ x. not (exact (repaired c) i (extents_for c.geometry x.size)))) z) ∙ n.f26 i l)) o k;
      }

  opens : first_fault (view out) ≡ Sound → check_answer (length out) (view out) ≡ record { verdict = done }
  unfolding check_answer judged sound_verdict
  opens e =
      let v = volume-accepted g (length out) (view out) after.ready.volume in
      λ i. record { verdict = and_then (v i) (and_then (refusal (state_number (after.ready.clean i))) (fault_verdict (e i))) }

  pub sound-exactly : (check_answer (length (repaired_image img room)) (view (repaired_image img room)) ≡ record { verdict = done } → Mendable (view img))
      × (Mendable (view img) → check_answer (length (repaired_image img room)) (view (repaired_image img room)) ≡ record { verdict = done })
  unfolding check_answer
  sound-exactly =
      ((λ e. mends (judged-sound (length out) (view out) (ap (λ (k : Checked). k.verdict.number) e))), (λ m. opens (mended m)))

  -- ---- FROM A REPAIRED VOLUME ON, where it is sound, demand 3 holds: every run that starts on it answers as the ledger that it describes

  starts : Mendable (view img) → SoundAs (ledger_of (repaired_image img room)) (repaired_image img room)
  unfolding catalogue_of
  starts m = record {
    passes = ap (λ (k : Checked). k.verdict.number) (sound-exactly.1 m);
    fits = omega (arith, ap (λ (x : Geometry). extent_sectors x) files-are, bounded.extent-high);
    describes = refl;
  }

  pub repaired-demand3 : Mendable (view img) → (phase : Phase) (end : List ℕ) (fs : List Feed) (rs : List Answer)
      → RunFrom (λ (o : List ℕ). o ≡ repaired_image img room) phase end fs rs
      → (rs ≡ answers_from (ledger_of (repaired_image img room)) fs) × Settled phase (ledger_from (ledger_of (repaired_image img room)) fs) end × RecoveryAnswers end × SliceAnswers end
  unfolding SoundDemand3
  repaired-demand3 m phase end fs rs r = sound-demand3 (ledger_of out) phase end fs rs (restarted (λ o e. subst (SoundAs (ledger_of out)) (sym e) (starts m)) r)

  -- ---- "the first fault that remains with its place"

  pub answers-rest : repair_answer (length img) (view img) room
      ≡ record {
        verdict = done_but (first_fault (view (repaired_image img room)));
        freed = strays (catalogue_of (view img));
        length = list_length (groups_for (view img) (repair_planned (catalogue_of (view img)) (view img)));
      }
  unfolding repair_answer repair_decision
  answers-rest =
      ap (λ (b : Bool).
      cond b (record { verdict = done_but (faults_in (fault21 (view img)) (repaired c)); freed = strays c; length = needed (cond b (repair_planned c (view img)) none) })
      (not_repaired (repair_verdict (length img) (view img) room))) (verdict-done img room bytes accepted)
      ∙ ap (λ (s : Soundness). record { verdict = done_but s; freed = strays c; length = needed (repair_planned c (view img)) }) (sym faults-are)
    where
      needed : Option Plan → ℕ
      needed o = list_length (groups_for (view img) o)

  -- ---- REPAIRING AGAIN GIVES AN EMPTY LIST

  module _ (room' : ℕ) where
    abbrev found : Catalogue
    found = catalogue_of (view out)

    nothing-stray : any_below (is_stray (catalogue_of (view out))) (catalogue_of (view out)).geometry.extents ≡ false
    nothing-stray =
        subst (λ (k : Catalogue). any_below (is_stray k) k.geometry.extents ≡ false) (sym after.says)
        (any_below-no (is_stray (repaired c)) (repaired c).geometry.extents (λ e l. stray-again c e))

    nothing-planned : repair_planned (catalogue_of (view out)) (view out) ≡ none
    unfolding repair_planned
    nothing-planned = ap (λ (b : Bool). cond b (some (repair_plan found (view out))) none) nothing-stray

    verdict-again : repair_verdict (length out) (view out) room' ≡ done
    unfolding repair_verdict plan_conditions verdict_of groups_for
    verdict-again =
        let v = volume-accepted g (length out) (view out) after.ready.volume in
        (λ i. and_then (v i) (and_then (refusal (state_number (after.ready.clean i))) (verdict_of (plan_conditions (view out) (nothing-planned i) room'))))
        ∙ ap (λ (b : Bool). cond b (refusal 14) done) (le-ltb room' 0 (omega arith))

    pub again-none : repair_decision (length (repaired_image img room)) (view (repaired_image img room)) room' ≡ record { verdict = done; plan = none }
    unfolding repair_decision
    again-none = λ i. let v = verdict-again i in record { verdict = v; plan = cond (is_done v) (nothing-planned i) none }

    pub again-answer : repair_answer (length (repaired_image img room)) (view (repaired_image img room)) room'
        ≡ record { verdict = done_but (first_fault (view (repaired_image img room))); freed = 0; length = 0 }
    unfolding repair_answer first_fault groups_for strays repaired
    again-answer =
        (λ i. given (again-none i).verdict
        (record { verdict = done_but (faults_in (fault21 (view out)) (kept i)); freed = strays found; length = list_length (groups_for (view out) (again-none i).plan) }) not_repaired)
        ∙ ap (λ n. record { verdict = done_but (first_fault (view out)); freed = n; length = 0 }) (count_below-none (is_stray found) found.geometry.extents nothing-stray)
      where
        kept : repaired found ≡ found
        kept = ap repaired after.says ∙ repaired-again c ∙ sym after.says

  pub again-list : (list : List ℕ) → repair_list (length (repaired_image img room)) (view (repaired_image img room)) list ≡ list
  unfolding repair_list groups_for
  again-list list = ap (λ (x : Decision). list_after (view out) x list) (again-none (length list)) ∙ emit-nil list 0

-- ---- CARRIED OUT: the bytes that a repair leaves in a lent list, carried out, give the repaired image

module _ (img list : List ℕ) (bytes : OfBytes img) (accepted : Repairs img (length list)) where
  pub repair-bytes : bytes_from (repair_list (length img) (view img) list) 0 (repair_answer (length img) (view img) (length list)).length
      ≡ list_bytes 0 (closed (groups_for (view img) (repair_decision (length img) (view img) (length list)).plan))
  unfolding repair_list repair_answer repair_decision
  repair-bytes =
      subst (λ (b : Bool).
      bytes_from (emit list 0 (closed (planned b))) 0
      (cond b (record { verdict = done_but (faults_in (fault21 (view img)) (repaired k)); freed = strays k; length = list_length (planned b) }) (not_repaired v)).length
      ≡ list_bytes 0 (closed (planned b)))
      (sym (verdict-done img (length list) bytes accepted)) (emitted-bytes list (closed (planned true)) (long-enough img (length list) bytes accepted))
    where
      k : Catalogue
      k = catalogue_of (view img)

      v : Verdict
      v = repair_verdict (length img) (view img) (length list)

      planned : Bool → List Group
      planned b = groups_for (view img) (cond b (repair_planned k (view img)) none)

  pub repair-carried : carry_image img (bytes_from (repair_list (length img) (view img) list) 0 (repair_answer (length img) (view img) (length list)).length) ≡ repaired_image img (length list)
  unfolding repaired_image
  repair-carried = ap (carry_image img) repair-bytes ∙ (carries img (length list) bytes accepted).whole.image

-- ---- A SOUND VOLUME IS LEFT ALONE, and so is every volume of a run

-- where there is no fault, none is stray
sound-unstrayed : (c : Catalogue) → NoFaults c → ((i : ℕ) (x : Entry) → c.entries i ≡ some x → i < c.geometry.files) → (e : ℕ) → e < c.geometry.extents → is_stray c e ≡ false
unfolding fault25 fault26 is_stray
sound-unstrayed c h inside e l = by (c.table e) refl (h.f25 e l)
  where
    occupied : (o : Option Entry) → is_free o ≡ false → o ≡ some (entry_or o)
    occupied none q = absurd (true≢false q)
    occupied (some x) q = refl

    by : (t : Option Owner) → c.table e ≡ t → holds_of t (λ w. is_free (c.entries w.file)) ≡ false → is_stray c e ≡ false
    by none z q = ap (λ (t : Option Owner). holds_of t (stray_by c e)) z
    by (some w) z q =
        let has = occupied (c.entries w.file) q in
        let x = entry_or (c.entries w.file) in
        exact-kept c w.file x has
        (not-false _ (sym (ap (λ (o : Option Entry). holds_of o (λ y. not (exact c w.file (extents_for c.geometry y.size)))) has) ∙ h.f26 w.file (inside w.file x has)))
        e l w z refl

module _ (img : List ℕ) (room : ℕ) (checks : check_answer (length img) (view img) ≡ record { verdict = done }) where
  abbrev s : Catalogue
  s = catalogue_of (view img)

  judged-done : is_done (judged (length img) (view img)) ≡ true
  unfolding check_answer
  judged-done = ap (λ (k : Checked). is_done k.verdict) checks

  faultless : NoFaults s
  faultless = no-faults (view img) (judged-sound (length img) (view img) (eqb-true (judged (length img) (view img)).number 0 judged-done))

  inside : (i : ℕ) (x : Entry) → s.entries i ≡ some x → i < s.geometry.files
  unfolding catalogue_of
  inside i x q = go (ltb i s.geometry.files) refl q
    where
      go : (b : Bool) → ltb i s.geometry.files ≡ b
          → cond (b && is_occupied (view img (entry_at i))) (some (entry_in s.geometry.edition (view img (entry_at i)))) none ≡ some x → i < s.geometry.files
      go true e z = ltb-true i s.geometry.files e
      go false e z = absurd (none-ne-some x z)

  unstrayed : any_below (is_stray s) s.geometry.extents ≡ false
  unstrayed = any_below-no (is_stray s) s.geometry.extents (λ e l. sound-unstrayed s faultless inside e l)

  unplanned : repair_planned s (view img) ≡ none
  unfolding repair_planned
  unplanned = ap (λ (b : Bool). cond b (some (repair_plan s (view img))) none) unstrayed

  verdict-alone : repair_verdict (length img) (view img) room ≡ done
  unfolding repair_verdict plan_conditions judged sound_verdict verdict_of groups_for
  verdict-alone =
      let image = earlier-done (image_verdict (length img) (view img)) _ judged-done in
      let state = earlier-done (refusal (state_number (state_on (view img)))) _ (later-done (image_verdict (length img) (view img)) _ judged-done) in
      (λ i. cond (image i) (cond (state i) (verdict_of (plan_conditions (view img) (unplanned i) room))
      (refusal (state_number (state_on (view img))))) (image_verdict (length img) (view img)))
      ∙ ap (λ (b : Bool). cond b (refusal 14) done) (le-ltb room 0 (omega arith))

  decided-alone : repair_decision (length img) (view img) room ≡ record { verdict = done; plan = none }
  unfolding repair_decision
  decided-alone = λ i. let v = verdict-alone i in record { verdict = v; plan = cond (is_done v) (unplanned i) none }

  pub sound-alone : repair_answer (length img) (view img) room ≡ record { verdict = done; freed = 0; length = 0 }
  unfolding repair_answer first_fault groups_for strays
  sound-alone =
      let e = judged-sound (length img) (view img) (eqb-true (judged (length img) (view img)).number 0 judged-done) in
      (λ i. given (decided-alone i).verdict
      (record { verdict = done_but (faults_in (fault21 (view img)) (unchanged i)); freed = strays s; length = list_length (groups_for (view img) (decided-alone i).plan) }) not_repaired)
      ∙ ap (λ (f : Soundness). record { verdict = done_but f; freed = strays s; length = 0 }) e
      ∙ ap (λ n. record { verdict = done; freed = n; length = 0 }) (count_below-none (is_stray s) s.geometry.extents unstrayed)
    where
      unchanged : repaired s ≡ s
      unchanged = unstrayed-same img unstrayed

pub run_alone : {L : Ledger} {img : List ℕ} {fs : List Feed} {rs : List Answer} → SoundRun L steady img fs rs → (room : ℕ)
    → repair_answer (length img) (view img) room ≡ record { verdict = done; freed = 0; length = 0 }
run_alone {L} {img} r room = sound-alone img room (sound r)

-- ---- T-12: A REPAIR IS REFUSED 13 exactly if the volume is clean, something is to be freed and fewer than K extents are free

module _ (img : List ℕ) (room : ℕ) where
  abbrev d : Disk
  d = view img

  number_is : (repair_answer (length img) (view img) room).verdict.number ≡ (repair_verdict (length img) (view img) room).number
  unfolding repair_answer repair_decision
  number_is = go (is_done v) refl (faults_in (fault21 d) (repaired (catalogue_of d))) _ _
    where
      v : Verdict
      v = repair_verdict (length img) (view img) room

      go : (b : Bool) → is_done v ≡ b → (s : Soundness) (freed needed : ℕ)
          → (cond b (record { verdict = done_but s; freed = freed; length = needed }) (not_repaired v)).verdict.number ≡ v.number
      go true e Sound freed needed = sym (eqb-true v.number 0 e)
      go true e (Faulty n p) freed needed = sym (eqb-true v.number 0 e)
      go false e s freed needed = refl

  -- 1 to 6
  abbrev first6 : Verdict
  first6 = and_then (image_verdict (length img) (view img)) (refusal (state_number (state_on (view img))))

  lower : first6.number ≢ 13
  unfolding image_verdict
  lower = go (is_done (image_verdict (length img) d))
    where
      state : (s : State) → state_number s ≢ 13
      state Clean e = let z : ◌≡◌ {A = ℕ} 0 13 = e in omega arith
      state (Waiting n) e = let z : ◌≡◌ {A = ℕ} 5 13 = e in omega arith
      state Damaged e = let z : ◌≡◌ {A = ℕ} 6 13 = e in omega arith
      state Unfinished e = let z : ◌≡◌ {A = ℕ} 4 13 = e in omega arith

      go : (b : Bool) → (cond b (refusal (state_number (state_on d))) (image_verdict (length img) d)).number ≢ 13
      go true e = state (state_on d) e
      go false e = not-given 13 (omega arith) _ refl e

  then_is : (a b v : Verdict) → and_then a (and_then b v) ≡ and_then (and_then a b) v
  then_is a b v = go (is_done a) refl
    where
      go : (t : Bool) → is_done a ≡ t → cond t (and_then b v) a ≡ and_then (cond t b a) v
      go true e = refl
      go false e = sym (ap (λ (t : Bool). cond t v a) e)

  has-target : (is_planned (repair_planned (catalogue_of (view img)) (view img)) ≡ true) ↔ (0 < strays (catalogue_of (view img)))
  unfolding repair_planned strays
  has-target = go (any_below (is_stray (catalogue_of d)) (catalogue_of d).geometry.extents) refl
    where
      go : (b : Bool) → any_below (is_stray (catalogue_of d)) (catalogue_of d).geometry.extents ≡ b
          → (is_planned (cond b (some (repair_plan (catalogue_of d) d)) none) ≡ true) ↔ (0 < count_below (is_stray (catalogue_of d)) (catalogue_of d).geometry.extents)
      go true q = (λ e. count_below-any_below (is_stray (catalogue_of d)) (catalogue_of d).geometry.extents q, λ l. refl)
      go false q = (λ e. absurd (false≢true e), λ l. absurd (omega (arith, count_below-none (is_stray (catalogue_of d)) (catalogue_of d).geometry.extents q)))

  pub repair-13 : ((repair_answer (length img) (view img) room).verdict.number ≡ 13)
      ↔ (((image_verdict (length img) (view img)).number ≡ 0) × (state_on (view img) ≡ Clean) × (0 < strays (catalogue_of (view img))) × Frozen img)
  unfolding repair_verdict plan_conditions
  repair-13 =
      let plan = repair_planned (catalogue_of d) d in
      let e = number_is ∙ ap (λ (v : Verdict). v.number) (then_is (image_verdict (length img) d) (refusal (state_number (state_on d))) _) in
      let q = last-13 first6 (is_planned plan && lacks_reserve (catalogue_of d)) (ltb room (list_length (groups_for d plan))) lower in (
        λ z.
            let h = q.0 (sym e ∙ z) in
            let zero : is_done first6 ≡ true = eq-eqb first6.number 0 h.0 in (
              eqb-true _ 0 (earlier-done (image_verdict (length img) d) _ zero),
              clean-by (state_on d) (later-done (image_verdict (length img) d) _ zero),
              has-target.0 (and_left _ _ h.1),
              (frozen-on img).0 (and_right (is_planned plan) _ h.1),
            ),
        λ h.
            e ∙ q.1 (
              ap (λ (b : Bool). (cond b (refusal (state_number (state_on d))) (image_verdict (length img) d)).number) (eq-eqb _ 0 h.0) ∙ ap state_number h.1,
              and_yes (is_planned plan) _ (has-target.1 h.2) ((frozen-on img).1 h.3),
            ),
      )

  -- a repair that is refused, with 13 or another number, changes nothing
  pub refused-same : (repair_answer (length img) (view img) room).verdict.number ≢ 0 → repaired_image img room ≡ img
  unfolding repaired_image repair_decision groups_for
  refused-same ne =
      ap (λ (b : Bool). stored (closed (groups_for d (cond b (repair_planned (catalogue_of d) d) none))) img)
      (ne_eqb (repair_verdict (length img) d room).number 0 (λ z. ne (number_is ∙ z)))
      ∙ stored-none img
