-- An accepted repair carried out whole: the volume was clean, with its reserve where something is freed, and afterwards the catalogue is the
-- repaired one and every sector of root, directory and extents that were not free what it was. Assumes nothing.
use Prim.Native.Nat.{ℕ, zero, suc, ◌+◌, ◌*◌, ◌/◌, ◌%◌, ◌^◌, ◌≤◌, ◌<◌}
use mathlib.Core.Path.{◌≡◌, refl, sym, ap, ap₂, ◌∙◌, subst, fun_ext}
use mathlib.Core.Logic.{◌≢◌}
use mathlib.Core.Bool.{Bool, true, false, cond, not, ◌&&◌, true≢false, false≢true}
use mathlib.Core.List.{List, []}
use mathlib.Core.Option.{Option, none, some, some-injective, none-ne-some}
use native.Mathlib.Omega.{arith}
use native.Mathlib.Numerals.{add-one}
use native.Mathlib.Decide.{dec_lt}
use lib.Dec.{eqb, ltb}
use lib.ListN.{length, get_or, get_or-eq_default}
use borrow.Author.Tests.{eqb-true, eq-eqb, ltb-true, ltb-false}
use Rattle.model.specs.declared.Geometry.{Geometry}
use Rattle.model.specs.declared.State.{State}
use Rattle.model.specs.declared.State.TheVariants.{Clean, Waiting, Damaged, Unfinished}
use Rattle.model.specs.Answers.{Verdict, Repaired}
use Rattle.model.specs.Bytes.{be_at}
use Rattle.model.specs.Search.{first, any_below, count_below, index_of}
use Rattle.model.specs.Geometry.{superblock_at, entry_at, extent_sectors, journal_at, table_at, data_at, table_sectors}
use Rattle.model.specs.Disk.{Disk, view}
use Rattle.model.specs.Superblock.{geometry_in, state_on}
use Rattle.model.specs.Root.{root_in}
use Rattle.model.specs.Table.{free_file, table_sector_of, table_file, table_offset, holds_any, sectors_holding}
use Rattle.model.specs.Catalogue.{Catalogue, Owner, catalogue_of, is_free, lacks_reserve, staging_extents}
use Rattle.model.specs.Refusals.{is_done, refusal, image_verdict, state_number}
use Rattle.model.specs.WriteList.{Plan, Group, stored, groups_for, groups_of, closed, list_length, is_planned, plan_conditions, over}
use Rattle.model.specs.Cut.{Cut, landed, start_mark}
use Rattle.model.specs.Opened.{Bounded}
use Rattle.model.specs.Repair.{is_stray, repaired, repair_plan, repair_planned, repair_verdict, repair_decision, repair_answer, not_repaired}
use Rattle.laws.proofs.Bytes.{pow_more}
use Rattle.laws.proofs.Count.{count_below-any_below}
use Rattle.laws.proofs.Disk.{length-view, get_or-view}
use Rattle.laws.proofs.Refusals.{image-passed, readable, opened}
use Rattle.laws.proofs.Search.{any_below-true, none-at}
use Rattle.laws.proofs.Seeking.{any_below-first}
use Rattle.laws.proofs.Freeing.{length-freed, freed-few}
use Rattle.laws.proofs.Staging.{free, InExtent, one-extent}
use Rattle.safety.specs.Repairing.{OfBytes, Repairs, repaired_image}
use Rattle.safety.proofs.Searches.{place_found}
use Rattle.safety.proofs.Apply.{over-append, over_none, over-miss, kept-nil, length-stored}
use Rattle.safety.proofs.Plan.{UsableGeometry, WellFormed, stages_on, A}
use Rattle.safety.proofs.Commit.{Ready, uncut, part_of, ready-part, ready-uncut, stored-none, RecoveredTo, commit}
use Rattle.safety.proofs.Frame.{Outside, part_at, done-shows}
use Rattle.safety.proofs.Bounds.{usable-geometry, copies-fit, count-waits}
use Rattle.safety.proofs.Bridge.{ListCarries, plan-carries, none-carries}
use Rattle.safety.proofs.Changing.{Passed, passed-by, earlier-done, later-done}
use Rattle.safety.proofs.Preserved.{out-front, out-table, out-data, staging-free, entries-keep, table-keep}
use Rattle.safety.proofs.FreedBy as by

-- ---- an image of bytes

be_at-lt : (s : List ℕ) → ((k : ℕ) → get_or s k 0 < 256) → (at w : ℕ) → be_at s at w < 256 ^ w
unfolding be_at
be_at-lt s h at zero = omega arith
be_at-lt s h at (suc w) = let q = pow_more w (be_at s at w) (get_or s (at + w) 0) (be_at-lt s h at w) (h (at + w)) in rw (add-one w) at q

-- ---- what it says that a repair is accepted

pub clean-by : (s : State) → is_done (refusal (state_number s)) ≡ true → s ≡ Clean
clean-by Clean e = refl
clean-by (Waiting n) e = absurd (false≢true e)
clean-by Damaged e = absurd (false≢true e)
clean-by Unfinished e = absurd (false≢true e)

-- the volume is clean and lies in the image, and has its reserve where something is freed
pub record Passes (img : List ℕ) : Type 0 where
  pub ready : Ready (catalogue_of (view img)).geometry img
  pub bounded : Bounded (catalogue_of (view img)).geometry
  pub there : any_below (is_stray (catalogue_of (view img))) (catalogue_of (view img)).geometry.extents ≡ true → lacks_reserve (catalogue_of (view img)) ≡ false

-- ---- what it leaves: a clean volume that says k, and every sector of root, directory and extents that were not free as it was

pub record Leaves (img out : List ℕ) (k : Catalogue) : Type 0 where
  pub ready : Ready (geometry_in (view img superblock_at)) out
  pub long : length out ≡ length img
  pub says : catalogue_of (view out) ≡ k
  pub front : (j : ℕ) → 1 ≤ j → j < journal_at (geometry_in (view img superblock_at)) → view out j ≡ view img j
  pub files : (e j : ℕ) → is_free ((catalogue_of (view img)).table e) ≡ false → InExtent (geometry_in (view img superblock_at)) e j → view out j ≡ view img j

module _ (img : List ℕ) where
  abbrev d : Disk
  d = view img

  abbrev c : Catalogue
  c = catalogue_of (view img)

  abbrev g : Geometry
  g = geometry_in (view img superblock_at)

  past_end : (e : ℕ) → ltb e g.extents ≡ false → c.table e ≡ none
  unfolding catalogue_of
  past_end e z = ap (λ (b : Bool). cond (b && not (eqb (table_file g d e) free_file)) (some (record { file = table_file g d e; offset = table_offset g d e })) none) z

  -- nothing to free
  pub unstrayed-same : any_below (is_stray (catalogue_of (view img))) (catalogue_of (view img)).geometry.extents ≡ false → repaired (catalogue_of (view img)) ≡ catalogue_of (view img)
  unfolding repaired catalogue_of
  unstrayed-same q = λ j. record { geometry = c.geometry; root = c.root; entries = c.entries; table = fun_ext (λ e. at e (ltb e g.extents) refl) j }
    where
      drop : (b : Bool) (t : Option Owner) → t ≡ none → cond b none t ≡ t
      drop true t z = sym z
      drop false t z = refl

      at : (e : ℕ) (b : Bool) → ltb e g.extents ≡ b → cond (is_stray c e) none (c.table e) ≡ c.table e
      at e true z = ap (λ (b : Bool). cond b none (c.table e)) (none-at (is_stray c) g.extents q e (ltb-true e g.extents z))
      at e false z = drop (is_stray c e) (c.table e) (past_end e z)

  -- ---- what it says that a repair is accepted

  module _ (room : ℕ) (bytes : OfBytes img) (accepted : Repairs img room) where
    pub verdict-done : is_done (repair_verdict (length img) (view img) room) ≡ true
    unfolding repair_answer repair_decision
    verdict-done = go (is_done v) refl _ accepted
      where
        v : Verdict
        v = repair_verdict (length img) (view img) room

        go : (b : Bool) → is_done v ≡ b → (x : Repaired) → (cond b x (not_repaired v)).verdict.number ≡ 0 → is_done v ≡ true
        go true e x q = e
        go false e x q = eq-eqb v.number 0 q

    small : extent_sectors g ≤ 4294967295
    unfolding geometry_in view
    small = let q : be_at (view img superblock_at) 4 4 < 256 ^ 4 = be_at-lt (view img superblock_at) byte 4 4 in omega arith
      where
        byte : (k : ℕ) → get_or (view img superblock_at) k 0 < 256
        byte k = go (dec_lt k 512)
          where
            go : Dec (k < 512) → get_or (view img superblock_at) k 0 < 256
            go (yes l) = omega (arith, get_or-view img superblock_at k l, bytes (512 * superblock_at + k))
            go (no l) =
                let e : length (view img superblock_at) ≤ k = omega (arith, length-view img superblock_at) in
                let z : get_or (view img superblock_at) k 0 ≡ 0 = get_or-eq_default (view img superblock_at) 0 e in
                omega arith

    -- 13 and 14 passed
    pub plan-passed : Passed (plan_conditions (view img) (repair_planned (catalogue_of (view img)) (view img)) room)
    unfolding repair_verdict plan_conditions
    plan-passed =
        passed-by (plan_conditions d (repair_planned c d) room) refl
        (later-done (refusal (state_number (state_on d))) _ (later-done (image_verdict (length img) d) _ verdict-done))

    pub passes : Passes img
    unfolding repair_verdict catalogue_of plan_conditions repair_planned
    passes =
        let image = earlier-done (image_verdict (length img) d) _ verdict-done in
        let rest = later-done (image_verdict (length img) d) _ verdict-done in
        let state = earlier-done (refusal (state_number (state_on d))) _ rest in
        let number = eqb-true (image_verdict (length img) d).number 0 image in
        let p = image-passed (length img) d number in
        record {
          ready = record { volume = record { whole = p.whole; marked = p.volume; geometry = refl; fits = p.fits }; clean = clean-by (state_on d) state };
          bounded = (opened img g refl small (readable img number)).bounded;
          there = λ q. sym (ap (λ (b : Bool). is_planned (cond b (some (repair_plan c d)) none) && lacks_reserve c) q) ∙ plan-passed.0;
        }

  -- ---- carried out whole

  module _ (pass : Passes img) where
    ready : Ready g img
    unfolding catalogue_of
    ready = pass.ready

    bounded : Bounded g
    unfolding catalogue_of
    bounded = pass.bounded

    geo : UsableGeometry g
    unfolding catalogue_of
    geo = usable-geometry g pass.bounded

    unchanged : any_below (is_stray c) c.geometry.extents ≡ false → Leaves img img (repaired (catalogue_of (view img)))
    unchanged q = record { ready = ready; long = refl; says = sym (unstrayed-same q); front = λ j a b. refl; files = λ e j f h. refl }

    -- copies are staged in extents that were free
    held_out : (e j : ℕ) → is_free (c.table e) ≡ false → InExtent g e j → Outside g c j
    held_out e j f h =
        out-data g j (omega (arith, h.0))
        (λ k l s. true≢false (sym (staging-free c k l) ∙ ap (free c) (one-extent g (get_or (staging_extents c) k 0) e j s h) ∙ f))

    -- table sectors written
    abbrev p : Plan
    p = repair_plan (catalogue_of (view img)) (view img)

    targets-are : p.targets ≡ by.freed g img (is_stray (catalogue_of (view img)))
    unfolding repair_plan catalogue_of
    targets-are = refl

    no-data : p.data_sectors ≡ []
    unfolding repair_plan
    no-data = refl

    module _ (q : any_below (is_stray (catalogue_of (view img))) (catalogue_of (view img)).geometry.extents ≡ true) where
      -- the sector of a stray is among them
      has-target : 0 < length p.targets
      unfolding catalogue_of holds_any sectors_holding
      has-target =
          let r = place_found (is_stray c) g.extents (sym (any_below-first (is_stray c) g.extents) ∙ q) in
          let e = index_of (first (is_stray c) g.extents) in
          let z : 128 * (e / 128) + e % 128 ≡ e = omega arith in
          let h : any_below (λ k. is_stray c (128 * (e / 128) + k)) 128 ≡ true = any_below-true (λ k. is_stray c (128 * (e / 128) + k)) (e % 128) 128 (omega arith) (ap (is_stray c) z ∙ r.1) in
          let n : 0 < count_below (holds_any (is_stray c)) (table_sectors g) =
          count_below-any_below (holds_any (is_stray c)) (table_sectors g) (any_below-true (holds_any (is_stray c)) (e / 128) (table_sectors g) (omega (arith, r.0)) h) in
          rw (targets-are, length-freed (is_stray c) g (view img)) n

      fits : WellFormed g (view img) p
      unfolding repair_plan catalogue_of
      fits =
          let few = freed-few (is_stray c) g (view img) in
          record {
            geometry = refl;
            there = pass.there q;
            nonempty = has-target;
            few = rw targets-are (copies-fit g bounded _ (omega arith));
            journalled = rw targets-are (count-waits g bounded _ (omega arith));
            metadata = rw targets-are (by.freed-metadata g img (is_stray c));
            rising = rw targets-are (by.freed-rising g img (is_stray c) 0 (omega arith));
            in_data = tt;
            unstaged = tt;
            own = tt;
            short = omega arith;
            whole_data = tt;
            whole_targets = rw targets-are (by.freed-whole g img (is_stray c));
          }

      abbrev out : List ℕ
      out = uncut (geometry_in (view img superblock_at)) img (repair_plan (catalogue_of (view img)) (view img))

      shows : (j : ℕ) → Outside g c j → j ≢ 0 → view out j ≡ over (by.freed g img (is_stray c)) j (view img j)
      shows j o ne =
          done-shows g img p geo fits ready j o ne ∙ over-append p.data_sectors p.targets j (view img j)
          ∙ ap₂ (λ (t s : Group). over t j (over s j (view img j))) targets-are no-data
          ∙ ap (over (by.freed g img (is_stray c)) j) (over_none j (view img j))

      kept : (j : ℕ) → Outside g c j → j ≢ 0 → (table_at g ≤ j → j < data_at g → ⊥) → view out j ≡ view img j
      kept j o ne h = shows j o ne ∙ over-miss (by.freed g img (is_stray c)) j (view img j) (by.freed-miss g img (is_stray c) j h)

      repairs : Leaves img out (repaired (catalogue_of (view img)))
      unfolding catalogue_of repaired
      repairs = record {
        ready = again;
        long = length-stored (closed (groups_of g (stages_on (view img) p) (view img) p)) img;
        says = λ i. record {
          geometry = again.volume.geometry i;
          root = ap₂ (λ (x : Geometry) (s : List ℕ). root_in x.edition s) again.volume.geometry (ahead 1 (omega arith) (omega arith)) i;
          entries = fun_ext (λ k. entries-keep g (view img) (view out) refl again.volume.geometry k (λ l. ahead (entry_at k) (omega arith) (omega arith))) i;
          table = fun_ext (λ e. by.table-after g img (is_stray c) out refl again.volume.geometry (λ t l. shows (table_at g + t) (table-out t l) (λ z. omega arith)) e) i;
        };
        front = ahead;
        files = λ e j f h. kept j (held_out e j f h) (λ z. omega (arith, h.0)) (λ u v. omega (arith, h.0));
      }
        where
          again : Ready g out
          again = ready-uncut g img p geo fits ready

          ahead : (j : ℕ) → 1 ≤ j → j < journal_at g → view out j ≡ view img j
          ahead j a b = kept j (out-front g j b) (λ z. omega arith) (λ u v. omega arith)

          table-out : (t : ℕ) → t < table_sectors g → Outside g c (table_at g + t)
          table-out t l = record { journal = λ a b. omega arith; reserve = λ k h s. omega (arith, s.0) }

      -- a cut, and recoveries until one is completed
      cut : (x : Cut) {end : List ℕ} → RecoveredTo (stored (landed x (groups_for (view img) (some (repair_plan (catalogue_of (view img)) (view img))))) img) end
          → end ≡ cond (start_mark x) out (stored (part_of x.before x.mask (A g (view img) (repair_plan (catalogue_of (view img)) (view img)))) img)
      unfolding groups_for
      cut x m = commit g img p geo fits ready x m

      unmarked : (k : ℕ) (m : List Bool) → Leaves img (stored (part_of k m (A g (view img) p)) img) (catalogue_of (view img))
      unfolding catalogue_of
      unmarked k m = record {
        ready = again;
        long = length-stored (part_of k m (A g (view img) p)) img;
        says = λ i. record {
          geometry = again.volume.geometry i;
          root = ap₂ (λ (x : Geometry) (s : List ℕ). root_in x.edition s) again.volume.geometry (equal_bytes 1 (out-front g 1 (omega arith))) i;
          entries = fun_ext (λ j. entries-keep g (view img) (view end) refl again.volume.geometry j (λ l. equal_bytes (entry_at j) (out-front g (entry_at j) (omega arith)))) i;
          table = fun_ext (λ e. table-keep g (view img) (view end) refl again.volume.geometry e (λ l. equal_bytes (table_sector_of g e) (out-table g e l))) i;
        };
        front = λ j a b. equal_bytes j (out-front g j b);
        files = λ e j f h. equal_bytes j (held_out e j f h);
      }
        where
          end : List ℕ
          end = stored (part_of k m (A g (view img) p)) img

          again : Ready g end
          again = ready-part g img p geo fits ready k m

          nothing : (k : ℕ) (j : ℕ) (x : List ℕ) → over (part_of k m []) j x ≡ x
          nothing zero j x = ap (λ (l : Group). over l j x) (kept-nil m) ∙ over_none j x
          nothing (suc k) j x = over_none j x

          equal_bytes : (j : ℕ) → Outside g c j → view end j ≡ view img j
          equal_bytes j o = part_at g img p geo fits ready k m j o ∙ ap (λ (l : Group). over (part_of k m l) j (view img j)) no-data ∙ nothing k j (view img j)

module _ (img : List ℕ) (room : ℕ) (bytes : OfBytes img) (accepted : Repairs img room) where
  abbrev k : Catalogue
  k = catalogue_of (view img)

  -- CARRIED OUT WHOLE
  pub leaves : Leaves img (repaired_image img room) (repaired (catalogue_of (view img)))
  unfolding repaired_image repair_decision repair_planned groups_for
  leaves =
      subst (λ (b : Bool). Leaves img (stored (closed (groups_for (view img) (cond b (repair_planned k (view img)) none))) img) (repaired k)) (sym (verdict-done img room bytes accepted))
      (go (any_below (is_stray k) k.geometry.extents) refl)
    where
      go : (b : Bool) → any_below (is_stray k) k.geometry.extents ≡ b
          → Leaves img (stored (closed (groups_for (view img) (cond b (some (repair_plan k (view img))) none))) img) (repaired k)
      go true q = repairs img (passes img room bytes accepted) q
      go false q = subst (λ (x : List ℕ). Leaves img x (repaired k)) (sym (stored-none img)) (unchanged img (passes img room bytes accepted) q)

  -- CUT ANYWHERE, and recovered: whole if its start mark landed, else nothing of it
  pub leaves-cut : (p : Plan) → (repair_decision (length img) (view img) room).plan ≡ some p → (x : Cut) {end : List ℕ}
      → RecoveredTo (stored (landed x (groups_for (view img) (some p))) img) end → Leaves img end (cond (start_mark x) (repaired (catalogue_of (view img))) (catalogue_of (view img)))
  unfolding repair_decision repair_planned
  leaves-cut p planned x {end} m =
      go (any_below (is_stray k) k.geometry.extents) refl (sym (ap (λ (b : Bool). cond b (repair_planned k (view img)) none) (verdict-done img room bytes accepted)) ∙ planned)
    where
      pass : Passes img
      pass = passes img room bytes accepted

      by : (q : any_below (is_stray k) k.geometry.extents ≡ true) → RecoveredTo (stored (landed x (groups_for (view img) (some (repair_plan k (view img))))) img) end
          → (b : Bool) → start_mark x ≡ b → Leaves img end (cond b (repaired k) k)
      by q r b z = subst (λ (o : List ℕ). Leaves img o (cond b (repaired k) k)) (sym (cut img pass q x r ∙ ap (λ (t : Bool). cond t (out img pass q) part) z)) (left b)
        where
          part : List ℕ
          part = stored (part_of x.before x.mask (A (g img) (view img) (repair_plan k (view img)))) img

          left : (b : Bool) → Leaves img (cond b (out img pass q) part) (cond b (repaired k) k)
          left true = repairs img pass q
          left false = unmarked img pass q x.before x.mask

      go : (b : Bool) → any_below (is_stray k) k.geometry.extents ≡ b → cond b (some (repair_plan k (view img))) none ≡ some p → Leaves img end (cond (start_mark x) (repaired k) k)
      go true q e = by q (subst (λ (r : Plan). RecoveredTo (stored (landed x (groups_for (view img) (some r))) img) end) (sym (some-injective _ _ e)) m) (start_mark x) refl
      go false q e = absurd (none-ne-some p e)

  -- ---- its list, as bytes

  -- the bytes left in a lent list are those of the records, and carrying them out is accepted and does what the records do
  pub carries : ListCarries img (groups_for (view img) (repair_decision (length img) (view img) room).plan)
  unfolding repair_decision repair_planned groups_for
  carries =
      subst (λ (b : Bool). ListCarries img (groups_for (view img) (cond b (repair_planned k (view img)) none))) (sym (verdict-done img room bytes accepted))
      (go (any_below (is_stray k) k.geometry.extents) refl)
    where
      go : (b : Bool) → any_below (is_stray k) k.geometry.extents ≡ b → ListCarries img (groups_for (view img) (cond b (some (repair_plan k (view img))) none))
      go true q = let pass = passes img room bytes accepted in plan-carries (g img) img (repair_plan k (view img)) (geo img pass) (fits img pass q) (ready img pass)
      go false q = none-carries img (passes img room bytes accepted).ready.volume.whole

  -- 14 passed
  pub long-enough : list_length (groups_for (view img) (repair_planned (catalogue_of (view img)) (view img))) ≤ room
  unfolding plan_conditions
  long-enough = ltb-false room _ (plan-passed img room bytes accepted).1.0
