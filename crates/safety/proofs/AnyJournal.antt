-- RECOVERY OF ANY GOOD JOURNAL. Targets are metadata and sources data: an image on which a part of group C landed shows the same journal
-- and the same sources, so the next recovery lists the same groups. Assumes nothing.
use Prim.Native.Nat.{ℕ, ◌+◌, ◌*◌, ◌≤◌, ◌<◌}
use mathlib.Core.Path.{◌≡◌, refl, sym, ap, ◌∙◌, subst}
use mathlib.Core.Logic.{◌≢◌, ◌⊎◌, inl, inr, ⊎_elim, ◌↔◌}
use mathlib.Core.Bool.{Bool, true, false, cond, not, ◌&&◌, true≢false, false≢true}
use mathlib.Core.List.{List, [], ◌∷◌, ◌++◌}
use native.Mathlib.Omega.{arith}
use native.Mathlib.Decide.{dec_lt}
use lib.Dec.{eqb, leb, ltb}
use lib.ListN.{length}
use borrow.Author.Tests.{eqb-true, eqb-false, eq-eqb, ne_eqb, leb-true, ltb-true, ltb-false, le-ltb}
use Rattle.model.specs.declared.Geometry.{Geometry}
use Rattle.model.specs.Answers.{Verdict}
use Rattle.model.specs.declared.State.TheVariants.{Clean, Waiting, Damaged, Unfinished}
use Rattle.model.specs.Geometry.{superblock_at, extent_sectors, journal_at, table_at, data_at, volume_sectors, most_files, in_bounds}
use Rattle.model.specs.Disk.{Disk, view}
use Rattle.model.specs.Superblock.{geometry_in, state_on, state_of, journal_length, with_journal_length}
use Rattle.model.specs.Journal.{source_at, target_at}
use Rattle.model.specs.Refusals.{verdict_of, and_then, given, is_done, done, refusal, image_verdict, state_number}
use Rattle.model.specs.Summary.{state_entries, summary_answer, summary_on, no_summary}
use Rattle.model.specs.WriteList.{Record, Group, record_size, superblock_group, sector_write, stored, closed, list_length, over, apply}
use Rattle.model.specs.Recovery.{is_data, is_metadata, good_entry, replayed, bad_journal, recovery_groups, recovery_verdict, recovery_listed, recovery_answer}
use Rattle.model.specs.Cut.{Cut, landed_of, landed}
use Rattle.laws.proofs.Booleans.{and_left, and_right, and_yes, range-yes}
use Rattle.laws.proofs.Disk.{length-view}
use Rattle.laws.proofs.Search.{all_below-at, any_below-no, none-at}
use Rattle.laws.proofs.Refusals.{image-passed}
use Rattle.safety.specs.Room.{geometry_on}
use Rattle.safety.specs.AnyJournal.{InMetadata, GoodEntries, recovery_number, recovered_by, Replayed, StillWaits, CutRecoveries, none, one_more, AnyJournal}
use Rattle.safety.proofs.Searches.{or_cases, not-no}
use Rattle.safety.proofs.Apply.{over-here, over-miss, over_skip, over_none, apply-append, All, all_append, all_map, InImage, stored-view, stored-closed, length-stored}
use Rattle.safety.proofs.Superblock.{length-with_journal_length, journal_length-with, state-clean, Volume, volume-with, volume-long, volume-bounds, volume-accepted, Recovers, recovers-clean}
use Rattle.safety.proofs.Superblock.{when-done, when-none, by_room, answers}
use Rattle.safety.proofs.Landing.{Begun, Ended, both_end, cut-begun}
use Rattle.model.proofs.Areas.{bounds}
use Rattle.laws.proofs.Areas.{metadata-below}
use Rattle.safety.proofs.Plan.{metadata-no, metadata-directory, metadata-table}
use Rattle.safety.proofs.Changing.{earlier-done, later-done}
use Rattle.safety.proofs.Bridge.{Carriable, to_sector, is_barrier, carries-out, all_closed, all_fit, cut-bytes, NoBarrier, ListCarries}
use Rattle.safety.proofs.Replayed.{replayed-by, target-metadata, target_once, replayed-at, replayed-miss, waiting-recovers, length-recovery, zero-stays, source-same, target-same}
use Rattle.safety.proofs.Replayed.{good-again, replayed-same}

-- in bounds, F and N are small, whatever S is
few-sectors : (g : Geometry) → in_bounds g ≡ true → (g.files ≤ most_files) × (g.extents ≤ 65535)
unfolding in_bounds
few-sectors g h =
    let most = leb 255 g.files && leb g.files most_files && leb 2 g.extents && leb g.extents 65535 in
    let b = bounds (record { files = g.files; extents = g.extents; extent_sectors = 128; edition = g.edition })
    (and_yes most (leb 128 128) (and_left most (leb 128 (extent_sectors g)) h) refl) (omega arith) in
    (b.files-high, b.extents-high)

-- ---- the state

pub waiting_few : (m n : ℕ) → state_of m ≡ Waiting n → n ≤ 1024
unfolding state_of
waiting_few m n e = subst (λ (k : ℕ). k ≤ 1024) (ap state_entries e) (go (eqb m 0) (leb m 1024) (leb m 65534) refl)
  where
    go : (a b c : Bool) → leb m 1024 ≡ b → state_entries (cond a Clean (cond b (Waiting m) (cond c Damaged Unfinished))) ≤ 1024
    go true b c h = omega arith
    go false true c h = leb-true m 1024 h
    go false false true h = omega arith
    go false false false h = omega arith

pub no-4-6-8 : (a b c : Bool) (later : Verdict)
    → is_done (and_then (cond a (refusal 4) (cond b (refusal 6) (cond c (refusal 8) done))) later) ≡ true → (b ≡ false) × (c ≡ false)
no-4-6-8 true b c later h = absurd (false≢true h)
no-4-6-8 false true c later h = absurd (false≢true h)
no-4-6-8 false false true later h = absurd (false≢true h)
no-4-6-8 false false false later h = (refl, refl)

no-6 : (a b : Bool) → is_done (cond a (refusal 4) (cond b (refusal 6) done)) ≡ true → b ≡ false
no-6 true b h = absurd (false≢true h)
no-6 false true h = absurd (false≢true h)
no-6 false false h = refl

-- ---- an image that waits, and whose recovery answers 0

module _ (img : List ℕ) (n room : ℕ) (st : state_on (view img) ≡ Waiting n) (ok : recovery_number room img ≡ 0) where
  abbrev g : Geometry
  g = geometry_on img

  abbrev d : Disk
  d = view img

  abbrev C : Group
  C = replayed (geometry_on img) (view img) n

  abbrev last : Record
  last = sector_write superblock_at (with_journal_length 0 (view img superblock_at))

  accepted : is_done (recovery_verdict (length img) (view img) room) ≡ true
  unfolding recovery_answer
  accepted = eq-eqb _ 0 ok

  pub volume : Volume (geometry_on img) (length img) (view img superblock_at)
  unfolding recovery_verdict
  volume =
      let p = image-passed (length img) (view img) (eqb-true _ 0 (earlier-done (image_verdict (length img) (view img)) _ accepted)) in
      record { whole = p.whole; marked = p.volume; geometry = refl; fits = p.fits }

  pub good : (k : ℕ) → k < n → good_entry (geometry_on img) (view img) k ≡ true
  unfolding recovery_verdict verdict_of
  good =
      all_below-at (good_entry g d) n (not-no _ (ap (bad_journal g d) (sym st)
      ∙ no-6 (eqb (state_number (state_on d)) 4) (bad_journal g d (state_on d))
      (earlier-done (cond (eqb (state_number (state_on d)) 4) (refusal 4) (cond (bad_journal g d (state_on d)) (refusal 6) done)) (by_room room (recovery_groups d))
      (later-done (image_verdict (length img) (view img)) _ accepted))))

  pub few : n ≤ 1024
  few = waiting_few (journal_length (view img superblock_at)) n st

  -- group C writes below the data area, where no number is a barrier's
  pub in_image : (j : ℕ) (s : List ℕ) → j < data_at (geometry_on img) → length s ≡ 512 → InImage (length img) (sector_write j s)
  in_image j s h l =
      let b = few-sectors g (volume-bounds g (length img) (view img superblock_at) volume) in
      let v : 512 * volume_sectors g ≤ length img = volume-long g (length img) (view img superblock_at) volume in
      record { within = omega arith; number = λ e. omega (arith, b.0, b.1); sector = l }

  pub C-in : All (InImage (length img)) C
  C-in = replayed-by g d n (InImage (length img)) (λ k l. in_image _ _ (metadata-below g _ (target-metadata g d n good k l)) (length-view img _))

  pub last-in : InImage (length img) last
  last-in = in_image 0 _ (omega arith) (length-with_journal_length 0 (view img superblock_at) ∙ length-view img superblock_at)

  -- recovery of an image that group C began to change has the same groups to list
  begun-recovers : (out : List ℕ) → Begun (length img) C (view img) out → Recovers (length out) (view out) (C ∷ (last ∷ []) ∷ [])
  begun-recovers out b =
      let z = zero-stays g d n good few (view out) b.shows in
      subst (Recovers (length out) (view out))
      (λ i. replayed-same g d n good few (view out) b.shows i ∷ superblock_group (λ k. z i) 0 ∷ [])
      (waiting-recovers g (view out) n (good-again g d n good few (view out) b.shows) (length out)
      (subst (λ (l : ℕ). Volume g l (view out superblock_at)) (sym b.long) (subst (Volume g (length img)) (sym z) volume))
      (ap (λ (s : List ℕ). state_of (journal_length s)) z ∙ st))

  pub first-begun : Begun (length img) C (view img) img
  first-begun = record { long = refl; shows = λ j e. refl }

  whole_is : recovered_by room img ≡ stored (C ++ (last ∷ [])) img
  whole_is =
      ap (λ (gs : List Group). stored (closed gs) img) (when-done (length img) (view img) _ (begun-recovers img first-begun) room accepted)
      ∙ stored-closed (C ∷ (last ∷ []) ∷ []) img

  pub ended : Ended (length img) C last (view img) (stored (C ++ (last ∷ [])) img)
  ended = record {
    long = length-stored (C ++ (last ∷ [])) img;
    shows = stored-view (C ++ (last ∷ [])) img (length img) refl (all_append (InImage (length img)) C (last ∷ []) C-in (last-in, tt)) ∙ apply-append C (last ∷ []) (view img);
  }

  -- ---- what it leaves

  whole-shows : (j : ℕ) → view (recovered_by room img) j ≡ over (last ∷ []) j (over C j (view img j))
  unfolding apply
  whole-shows j =
      ap (λ (x : List ℕ). view x j) whole_is ∙ ap (λ (e : Disk). e j) ended.shows

  not_last : (j : ℕ) → j ≢ superblock_at → view (recovered_by room img) j ≡ over C j (view img j)
  not_last j ne = whole-shows j ∙ over_skip last [] j _ ne ∙ over_none j _

  target-not-zero : (k : ℕ) → k < n → target_at (geometry_on img) (view img) k ≢ superblock_at
  target-not-zero k l e =
      true≢false (sym (target-metadata g d n good k l) ∙ ap (is_metadata g) e ∙ metadata-no g 0 (λ a b. omega arith) (λ a b. omega arith))

  at_zero : view (recovered_by room img) superblock_at ≡ with_journal_length 0 (view img superblock_at)
  at_zero = whole-shows superblock_at ∙ over-here last [] _ ∙ over_none superblock_at _

  same-long : length (recovered_by room img) ≡ length img
  same-long = length-stored (closed (recovery_listed (length img) (view img) room)) img

  whole-volume : Volume (geometry_on img) (length (recovered_by room img)) (view (recovered_by room img) superblock_at)
  whole-volume =
      subst (λ (l : ℕ). Volume g l (view (recovered_by room img) superblock_at)) (sym same-long)
      (subst (Volume g (length img)) (sym at_zero) (volume-with g 0 (length img) (view img superblock_at) volume))

  whole-clean : state_on (view (recovered_by room img)) ≡ Clean
  whole-clean =
      ap (λ (s : List ℕ). state_of (journal_length s)) at_zero
      ∙ state-clean _ (journal_length-with 0 (view img superblock_at) (length-view img superblock_at) (omega arith))

  replays : Replayed n img (recovered_by room img)
  unfolding summary_answer
  replays = record {
    same_length = same-long;
    targets = λ k l. not_last _ (target-not-zero k l) ∙ replayed-at g d n good k _ l;
    superblock = at_zero;
    others = λ j ne h. not_last j ne ∙ over-miss C j _ (replayed-miss g d n good j h);
    clean = ap (λ (v : Verdict). given v (summary_on (view (recovered_by room img))) no_summary) (volume-accepted g _ (view (recovered_by room img)) whole-volume)
        ∙ (λ i. record { number = 0; summary = record { geometry = whole-volume.geometry i; state = whole-clean i } });
  }

  -- ---- cut as often as one likes

  abbrev Midway : List ℕ → Type 0
  Midway out = Begun (length img) C (view img) out ⊎ (out ≡ recovered_by room img)

  clean-recovers : (out : List ℕ) → out ≡ recovered_by room img → Recovers (length out) (view out) []
  clean-recovers out e = subst (λ (x : List ℕ). Recovers (length x) (view x) []) (sym e) (recovers-clean g _ _ whole-volume whole-clean)

  one-cut : (out : List ℕ) (r : ℕ) (x : Cut) → Midway out → Midway (stored (landed x (recovery_listed (length out) (view out) r)) out)
  unfolding recovery_listed landed_of stored
  one-cut out r x (inl b) = go (is_done (recovery_verdict (length out) (view out) r))
    where
      go : (t : Bool) → Midway (stored (landed x (cond t (recovery_groups (view out)) [])) out)
      go true =
          subst (λ (gs : List Group). Midway (stored (landed x gs) out)) (sym (begun-recovers out b).groups)
          (⊎_elim inl (λ e. inr (e ∙ sym whole_is)) (cut-begun (length img) C last d C-in last-in _ ended x.before x.mask out b))
      go false = inl b
  one-cut out r x (inr e) = subst (λ (gs : List Group). Midway (stored (landed x gs) out)) (sym (when-none (length out) (view out) (clean-recovers out e) r)) (inr e)

  midway : {out : List ℕ} → CutRecoveries img out → Midway out
  midway none = inl first-begun
  midway (one_more {out} c r x) = one-cut out r x (midway c)

  module _ (out : List ℕ) where
    still : Midway out → StillWaits n img out ⊎ (out ≡ recovered_by room img)
    still (inl b) =
        let z = zero-stays g d n good few (view out) b.shows in
        inl (record {
          state = ap (λ (s : List ℕ). state_of (journal_length s)) z ∙ st;
          geometry = ap geometry_in z;
          sources = λ k l. ap (λ (x : Geometry). source_at x (view out) k) (ap geometry_in z) ∙ source-same g d n good few (view out) b.shows k l;
          targets = λ k l. ap (λ (x : Geometry). target_at x (view out) k) (ap geometry_in z) ∙ target-same g d n good few (view out) b.shows k l;
        })
    still (inr e) = inr e

    answers-again : Midway out → recovery_number room out ≡ 0
    answers-again (inl b) =
        answers (length out) (view out) _ (begun-recovers out b) room
        ∙ ap (λ (gs : List Group). cond (ltb room (list_length gs)) 14 0) ((begun-recovers out b).groups ∙ sym (begun-recovers img first-begun).groups)
        ∙ sym (answers (length img) (view img) _ (begun-recovers img first-begun) room) ∙ ok
    answers-again (inr e) =
        answers (length out) (view out) _ (clean-recovers out e) room
        ∙ ap (λ (gs : List Group). cond {A = ℕ} (ltb room (list_length gs)) 14 0) (clean-recovers out e).groups
        ∙ ap (λ (b : Bool). cond {A = ℕ} b 14 0) (le-ltb room (list_length []) (omega arith))

    ends-alike : Midway out → (r : ℕ) → recovery_number r out ≡ 0 → recovered_by r out ≡ recovered_by room img
    unfolding recovery_answer stored
    ends-alike (inl b) r h =
        ap (λ (gs : List Group). stored (closed gs) out) (when-done (length out) (view out) _ (begun-recovers out b) r (eq-eqb _ 0 h))
        ∙ stored-closed (C ∷ (last ∷ []) ∷ []) out ∙ both_end (length img) C last d C-in last-in _ ended out b ∙ sym whole_is
    ends-alike (inr e) r h = ap (λ (gs : List Group). stored (closed gs) out) (when-none (length out) (view out) (clean-recovers out e) r) ∙ e

  -- the bytes of its list, carried out whole or cut
  pub good-carries : ListCarries img (recovery_listed (length img) (view img) room)
  good-carries =
      let P = Carriable (length img) in
      let b = few-sectors g (volume-bounds g (length img) (view img superblock_at) volume) in
      let low : (w : Record) → w.sector < data_at g → InImage (length img) w → P w = λ w l h. to_sector h (omega (arith, b.0, b.1)) in
      let long : length (closed (C ∷ (last ∷ []) ∷ [])) * record_size ≡ (n + 3) * record_size = length-recovery g d n good in
      let c : All P (C ++ (last ∷ [])) =
      all_append P C (last ∷ [])
      (replayed-by g d n P (λ k l. let t = metadata-below g _ (target-metadata g d n good k l) in low _ t (in_image _ _ t (length-view img _)))) (low last (omega arith) last-in, tt) in
      subst (ListCarries img) (sym (when-done (length img) (view img) _ (begun-recovers img first-begun) room accepted))
      (record {
        whole = carries-out img (closed (C ∷ (last ∷ []) ∷ [])) volume.whole (all_closed P (is_barrier refl) (C ∷ (last ∷ []) ∷ []) c) (omega (arith, few));
        cut = λ x. cut-bytes x (C ∷ (last ∷ []) ∷ []) img (all_fit (length img) (C ++ (last ∷ [])) c)
            (all_map (InImage (length img)) NoBarrier (λ w h. h.number) (C ++ (last ∷ [])) (all_append (InImage (length img)) C (last ∷ []) C-in (last-in, tt)));
      })

-- ---- when it answers 0

in-range : (a b t : ℕ) → (leb a t && ltb t b) ≡ true → (a ≤ t) × (t < b)
in-range a b t e = (leb-true a t (and_left _ (ltb t b) e), ltb-true t b (and_right (leb a t) _ e))

metadata-is : (g : Geometry) (t : ℕ) → is_metadata g t ≡ true → InMetadata g t
unfolding is_metadata
metadata-is g t e = ⊎_elim (λ h. inl (in-range 1 (journal_at g) t h)) (λ h. inr (in-range (table_at g) (data_at g) t h)) (or_cases _ _ e)

module _ (n : ℕ) (img : List ℕ) where
  abbrev geo : Geometry
  geo = geometry_on img

  pub from-good : ((k : ℕ) → k < n → good_entry (geometry_on img) (view img) k ≡ true) → GoodEntries n img
  unfolding good_entry is_data
  from-good good = record {
    sources = λ k l. in-range (data_at geo) (volume_sectors geo) _ (and_left _ (is_metadata geo (target_at geo (view img) k)) (and_left _ _ (good k l)));
    targets = λ k l. metadata-is geo _ (target-metadata geo (view img) n good k l);
    once = λ j k a b e. ordered j k a b e (dec_lt j k) (dec_lt k j);
  }
    where
      apart : (j k : ℕ) → k < n → j < k → target_at (geometry_on img) (view img) j ≡ target_at (geometry_on img) (view img) k → ⊥
      apart j k b l e = eqb-false _ _ (none-at _ k (target_once geo (view img) n good k b) j l) e

      ordered : (j k : ℕ) → j < n → k < n → target_at (geometry_on img) (view img) j ≡ target_at (geometry_on img) (view img) k → Dec (j < k) → Dec (k < j) → j ≡ k
      ordered j k a b e (yes l) q = absurd (apart j k b l e)
      ordered j k a b e (no l) (yes m) = absurd (apart k j a m (sym e))
      ordered j k a b e (no l) (no m) = omega arith

  to-good : GoodEntries n img → (k : ℕ) → k < n → good_entry (geometry_on img) (view img) k ≡ true
  unfolding good_entry is_data
  to-good h k l =
      and_yes _ _
      (and_yes _ _ (range-yes (data_at geo) (volume_sectors geo) _ (h.sources k l).0 (h.sources k l).1)
      (⊎_elim (λ q. metadata-directory geo _ q.0 q.1) (λ q. metadata-table geo _ q.0 q.1) (h.targets k l)))
      (ap not (any_below-no _ k (λ j q. ne_eqb _ _ (λ e. let z = h.once j k (omega arith) l e in omega arith))))

no-14 : (b : Bool) → cond {A = ℕ} b 14 0 ≡ 0 → b ≡ false
no-14 true e = absurd (omega (arith, e))
no-14 false e = refl

-- RECOVERY OF A WAITING VOLUME ANSWERS 0 exactly if 1 to 3 let the image pass, its entries are good and the list holds n + 3 records
pub waiting-answers : (img : List ℕ) (n room : ℕ) → state_on (view img) ≡ Waiting n
    → (recovery_number room img ≡ 0) ↔ (((image_verdict (length img) (view img)).number ≡ 0) × GoodEntries n img × ((n + 3) * record_size ≤ room))
waiting-answers img n room st = (there, back)
  where
    long : Recovers (length img) (view img) (replayed (geometry_on img) (view img) n ∷ superblock_group (view img) 0 ∷ [])
        → ((k : ℕ) → k < n → good_entry (geometry_on img) (view img) k ≡ true) → list_length (recovery_groups (view img)) ≡ (n + 3) * record_size
    long r good = ap list_length r.groups ∙ length-recovery (geometry_on img) (view img) n good

    there : recovery_number room img ≡ 0 → ((image_verdict (length img) (view img)).number ≡ 0) × GoodEntries n img × ((n + 3) * record_size ≤ room)
    there ok =
        let h = good img n room st ok in
        let v = volume img n room st ok in
        let r = waiting-recovers (geometry_on img) (view img) n h (length img) v st in
        let b : list_length (recovery_groups (view img)) ≤ room =
        ltb-false room _ (no-14 (ltb room (list_length (recovery_groups (view img)))) (sym (answers (length img) (view img) _ r room) ∙ ok)) in
        (ap (λ (x : Verdict). x.number) (volume-accepted _ _ (view img) v), from-good n img h, subst (λ (k : ℕ). k ≤ room) (long r h) b)

    back : ((image_verdict (length img) (view img)).number ≡ 0) × GoodEntries n img × ((n + 3) * record_size ≤ room) → recovery_number room img ≡ 0
    back h =
        let p = image-passed (length img) (view img) h.0 in
        let good = to-good n img h.1 in
        let r = waiting-recovers (geometry_on img) (view img) n good (length img) (record { whole = p.whole; marked = p.volume; geometry = refl; fits = p.fits }) st in
        answers (length img) (view img) _ r room ∙ ap (λ (b : Bool). cond {A = ℕ} b 14 0) (le-ltb room _ (subst (λ (k : ℕ). k ≤ room) (sym (long r good)) h.2))

-- RECOVERY OF ANY GOOD JOURNAL
pub any-journal : AnyJournal
unfolding AnyJournal
any-journal img n room st ok = (
  replays img n room st ok,
  λ cut c.
      let w = midway img n room st ok c in
      (still img n room st ok cut w, answers-again img n room st ok cut w, ends-alike img n room st ok cut w),
)
