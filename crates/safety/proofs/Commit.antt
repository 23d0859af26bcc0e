-- THE COMMIT THEOREM: a well-formed plan's list on an image whose superblock says clean, cut anywhere; recoveries cut as often as
-- one likes; then one completed. Assumes nothing.
use Prim.Native.Nat.{ℕ, zero, suc, ◌+◌, ◌*◌, ◌≤◌, ◌<◌}
use mathlib.Core.Path.{◌≡◌, refl, sym, ap, ◌∙◌, subst}
use mathlib.Core.Logic.{◌≢◌, ⊎_elim}
use mathlib.Core.Bool.{Bool, true, false, cond, not, true≢false, false≢true}
use mathlib.Core.List.{List, [], ◌∷◌, ◌++◌, append-nil}
use native.Mathlib.Omega.{arith}
use lib.ListN.{length, get_or}
use borrow.Author.Tests.{not-true, not-false}
use Rattle.model.specs.declared.Geometry.{Geometry}
use Rattle.model.specs.declared.State.TheVariants.{Clean}
use Rattle.model.specs.Geometry.{superblock_at, journal_at, data_at, volume_sectors}
use Rattle.model.specs.Disk.{Disk, view}
use Rattle.model.specs.Search.{any_below}
use Rattle.model.specs.WriteList.{Record, sector_write, barrier, barrier_number, stored, Plan, Group, groups_of, closed, over, apply, hits}
use Rattle.model.specs.Superblock.{journal_length, with_journal_length, state_of, state_on}
use Rattle.model.specs.Journal.{journal_sectors, journal_sector}
use Rattle.model.specs.Refusals.{is_done}
use Rattle.model.specs.Recovery.{differs, is_copied, copied_entry, copied, entry_write, some_differ, Recovery, entire, slice, verdict_by, listed_by, is_last}
use Rattle.model.specs.Cut.{Cut, kept, landed_of, landed, marked_by, start_mark}
use Rattle.laws.proofs.Disk.{length-view, same_view}
use Rattle.laws.proofs.Search.{none-at}
use Rattle.safety.proofs.Searches.{same_true}
use Rattle.safety.proofs.Apply.{apply-nil, apply-append, apply-miss, All, all_append, all-tab0, all-at, all-by, all-concatenated, all-kept, all-miss, miss-all, over-same}
use Rattle.laws.proofs.WriteList.{stored-append}
use Rattle.safety.proofs.Apply.{kept-miss, kept-one, joined, stored-closed, length-stored, InImage, stored-view, Own, own-concatenated}
use Rattle.safety.proofs.Landing.{Begun, Ended, both_end, cut-begun, part}
use Rattle.safety.proofs.Journal.{length-entries_in, rising-lt}
use Rattle.safety.proofs.Superblock.{length-with_journal_length, journal_length-with, state-clean, Volume, volume-with, volume-long, Recovers, when-done, when-some, when-none, recovers-clean}
use Rattle.safety.proofs.Superblock.{Slices, slices-clean, slice-done, slice-some, slice-none}
use Rattle.laws.proofs.Areas.{metadata-below}
use Rattle.safety.proofs.Plan.{UsableGeometry, WellFormed, Metadata, DataSector, Whole, stage_on, A, A-is, copy_writes, journal_writes, copy_contents, journal_contents}
use Rattle.safety.proofs.Plan.{stages_on, staged, journal-few, A-zero, mark, clear, committed, final, Pending, recovers-pending, entry-writes, pending-volume, pending-waits, slices-pending}

-- an image on which a plan is carried out: its superblock says clean
pub record Ready (g : Geometry) (img : List ℕ) : Type 0 where
  pub volume : Volume g (length img) (view img superblock_at)
  pub clean : state_on (view img) ≡ Clean

-- what landed of group A
abbrev pub part_of : ℕ → List Bool → Group → Group
part_of zero m a = kept m a
part_of (suc k) m a = a

length-journal_contents : (g : Geometry) (d : Disk) (p : Plan) (j : ℕ) → length (journal_contents g d p j) ≡ 512
unfolding journal_contents journal_sector
length-journal_contents g d p j = length-entries_in _ _ (32 * j) _

module _ (g : Geometry) (img0 : List ℕ) (p : Plan) where
  abbrev pub groups : List Group
  groups = groups_of g (stages_on (view img0) p) (view img0) p

  -- the uncut image
  abbrev pub uncut : List ℕ
  uncut = stored (closed (groups_of g (stages_on (view img0) p) (view img0) p)) img0

  -- an image that is the committed one but for the targets
  abbrev pub Waits : List ℕ → Type 0
  Waits img = Begun (length img0) p.targets (committed g (view img0) p) img

  pub data Interrupted (img : List ℕ) : Type 0 where
    waits : Waits img → Interrupted img
    finished : img ≡ uncut → Interrupted img

module _ (g : Geometry) (img0 : List ℕ) (p : Plan) (geo : UsableGeometry g) (ok : WellFormed g (view img0) p) (ready : Ready g img0) where
  abbrev n : ℕ
  n = length img0

  abbrev d0 : Disk
  d0 = view img0

  abbrev C : Group
  C = p.targets

  abbrev mk : Record
  mk = mark g (view img0) p

  abbrev cl : Record
  cl = clear g (view img0) p

  -- ---- the records lie in the image

  in_image : (w : Record) → w.sector < volume_sectors g → Whole w → InImage n w
  in_image w l h =
      let r : 512 * volume_sectors g ≤ n = volume-long g n (view img0 superblock_at) ready.volume in
      let s : volume_sectors g < barrier_number = geo.small in
      record { within = omega arith; number = λ e. omega arith; sector = h }

  super-in-image : (k : ℕ) → InImage n (sector_write superblock_at (with_journal_length k (view img0 superblock_at)))
  super-in-image k = in_image _ (omega arith) (length-with_journal_length k (view img0 superblock_at) ∙ length-view img0 superblock_at)

  all-in-image : (P : Record → Type 0) → ((w : Record) → P w → w.sector < volume_sectors g) → (ws : Group) → All P ws → All Whole ws → All (InImage n) ws
  all-in-image P f [] h q = tt
  all-in-image P f (w ∷ ws) h q = (in_image w (f w h.0) q.0, all-in-image P f ws h.1 q.1)

  A-in-image : All (InImage n) (A g (view img0) p)
  unfolding copy_contents
  A-in-image =
      let sectors : journal_sectors (length p.targets) ≤ 32 = journal-few g d0 p geo ok in
      subst (All (InImage n)) (sym (A-is g d0 p))
      (all_append (InImage n) (p.data_sectors ++ copy_writes g d0 p) (journal_writes g d0 p)
      (all_append (InImage n) p.data_sectors (copy_writes g d0 p)
      (all-in-image (λ w. DataSector g w.sector) (λ w u. u.1) p.data_sectors ok.in_data ok.whole_data)
      (all-tab0 (InImage n) (λ k. sector_write (stage_on d0 p k) (copy_contents g d0 p k)) (length p.targets)
      (λ k h. in_image _ (staged g d0 p geo ok k h).1 (all-at Whole p.targets k _ ok.whole_targets h))))
      (all-tab0 (InImage n) (λ j. sector_write (journal_at g + j) (journal_contents g d0 p j)) (journal_sectors (length p.targets))
      (λ j h. in_image _ (omega arith) (length-journal_contents g d0 p j))))

  C-in-image : All (InImage n) C
  C-in-image = all-in-image (Metadata g) (λ w h. let l : w.sector < data_at g = metadata-below g w.sector h in omega arith) C ok.metadata ok.whole_targets

  pub groups-in-image : All (InImage n) (joined (groups g img0 p))
  unfolding groups_of
  groups-in-image = all_append (InImage n) (A g (view img0) p) _ A-in-image (super-in-image (length C), all_append (InImage n) C _ C-in-image (super-in-image 0, tt))

  pub part-in-image : (k : ℕ) (m : List Bool) → All (InImage n) (part_of k m (A g (view img0) p))
  part-in-image zero m = all-kept (InImage n) m (A g (view img0) p) A-in-image
  part-in-image (suc k) m = A-in-image

  -- ---- disks

  behind : (x : Group) → apply (A g (view img0) p ++ ((mk ∷ []) ++ x)) d0 ≡ apply x (committed g d0 p)
  unfolding committed
  behind x = apply-append (A g (view img0) p) ((mk ∷ []) ++ x) d0 ∙ apply-append (mk ∷ []) x (apply (A g (view img0) p) d0)

  final-is : apply (joined (groups g img0 p)) d0 ≡ final g d0 p
  unfolding groups_of final
  final-is = behind (C ++ (cl ∷ [])) ∙ apply-append C (cl ∷ []) (committed g d0 p)

  pub uncut-shows : view (uncut g img0 p) ≡ final g d0 p
  uncut-shows = ap view (stored-closed (groups g img0 p) img0) ∙ stored-view (joined (groups g img0 p)) img0 n refl groups-in-image ∙ final-is

  pub length-uncut : length (uncut g img0 p) ≡ n
  length-uncut = length-stored (closed (groups g img0 p)) img0

  ended : Ended n C cl (committed g d0 p) (uncut g img0 p)
  unfolding final
  ended = record { long = length-uncut; shows = uncut-shows }

  -- group A and the start mark landed
  marked : Waits g img0 p (stored (A g (view img0) p ++ (mk ∷ [])) img0)
  marked =
      let in_all = all_append (InImage n) (A g (view img0) p) (mk ∷ []) A-in-image (super-in-image (length C), tt) in
      record {
        long = length-stored (A g (view img0) p ++ (mk ∷ [])) img0;
        shows = λ j e. ap (λ (d : Disk). d j) (stored-view (A g (view img0) p ++ (mk ∷ [])) img0 n refl in_all ∙ behind [] ∙ apply-nil (committed g d0 p));
      }

  -- a completed recovery of an image that waits
  pub completes : (img : List ℕ) → Waits g img0 p img → stored (joined (C ∷ (cl ∷ []) ∷ [])) img ≡ uncut g img0 p
  completes img w = both_end n C cl (committed g d0 p) C-in-image (super-in-image 0) (uncut g img0 p) ended img w

  -- a cut one
  pub recovery-cuts : (k : ℕ) (m : List Bool) (img : List ℕ) → Waits g img0 p img → Interrupted g img0 p (stored (landed_of k m (C ∷ (cl ∷ []) ∷ [])) img)
  recovery-cuts k m img w = ⊎_elim waits finished (cut-begun n C cl (committed g d0 p) C-in-image (super-in-image 0) (uncut g img0 p) ended k m img w)

  -- the call's own cut, the start mark landed
  pub cut-marked : (k : ℕ) (m : List Bool) → marked_by k m ≡ true → Interrupted g img0 p (stored (landed_of k m (groups g img0 p)) img0)
  unfolding landed_of groups_of
  cut-marked zero m e = absurd (false≢true e)
  cut-marked (suc zero) m e =
      let f : kept m (mk ∷ []) ≡ mk ∷ [] = kept-one m mk ∙ ap (λ (b : Bool). cond b (mk ∷ []) []) e in
      waits (rw f marked)
  cut-marked (suc (suc k)) m e =
      let rest = landed_of k m (C ∷ (cl ∷ []) ∷ []) in
      subst (Interrupted g img0 p)
      (sym (stored-append (A g (view img0) p) ((mk ∷ []) ++ rest) img0 ∙ stored-append (mk ∷ []) rest (stored (A g (view img0) p) img0)
      ∙ ap (stored rest) (sym (stored-append (A g (view img0) p) (mk ∷ []) img0)))) (recovery-cuts k m (stored (A g (view img0) p ++ (mk ∷ [])) img0) marked)

  -- and not landed: nothing but a part of group A
  pub cut-unmarked : (k : ℕ) (m : List Bool) → marked_by k m ≡ false → landed_of k m (groups g img0 p) ≡ part_of k m (A g (view img0) p)
  unfolding landed_of groups_of
  cut-unmarked zero m e = refl
  cut-unmarked (suc zero) m e =
      let f : kept m (mk ∷ []) ≡ [] = kept-one m mk ∙ ap (λ (b : Bool). cond b (mk ∷ []) []) e in
      rw f (append-nil (A g (view img0) p))
  cut-unmarked (suc (suc k)) m e = absurd (true≢false e)

  part-zero : (k : ℕ) (m : List Bool) → hits (part_of k m (A g (view img0) p)) 0 ≡ false
  part-zero zero m = kept-miss m (A g (view img0) p) 0 (A-zero g d0 p geo ok)
  part-zero (suc k) m = A-zero g d0 p geo ok

  -- the image with that part, and the uncut one, are ready again
  pub ready-part : (k : ℕ) (m : List Bool) → Ready g (stored (part_of k m (A g (view img0) p)) img0)
  ready-part k m =
      let ws = part_of k m (A g (view img0) p) in
      let z : view (stored ws img0) superblock_at ≡ view img0 superblock_at =
      ap (λ (d : Disk). d 0) (stored-view ws img0 n refl (part-in-image k m)) ∙ apply-miss ws d0 0 (part-zero k m) in
      record {
        volume = subst (λ (l : ℕ). Volume g l (view (stored ws img0) superblock_at)) (sym (length-stored ws img0)) (subst (Volume g n) (sym z) ready.volume);
        clean = ap (λ (s : List ℕ). state_of (journal_length s)) z ∙ ready.clean;
      }

  uncut-zero : view (uncut g img0 p) superblock_at ≡ with_journal_length 0 (view img0 superblock_at)
  unfolding final apply over
  uncut-zero = ap (λ (d : Disk). d 0) uncut-shows

  pub ready-uncut : Ready g (uncut g img0 p)
  ready-uncut = record {
    volume = subst (λ (l : ℕ). Volume g l (view (uncut g img0 p) superblock_at)) (sym length-uncut)
        (subst (Volume g n) (sym uncut-zero) (volume-with g 0 n (view img0 superblock_at) ready.volume));
    clean = ap (λ (s : List ℕ). state_of (journal_length s)) uncut-zero
        ∙ state-clean (journal_length (with_journal_length 0 (view img0 superblock_at))) (journal_length-with 0 (view img0 superblock_at) (length-view img0 superblock_at) (omega arith));
  }

  pub waits-recovers : (img : List ℕ) → Waits g img0 p img → Recovers (length img) (view img) (C ∷ (cl ∷ []) ∷ [])
  unfolding Pending
  waits-recovers img w =
      subst (λ (l : ℕ). Recovers l (view img) (C ∷ (cl ∷ []) ∷ [])) (sym w.long)
      (recovers-pending g d0 p geo ok (view img) w.shows n ready.volume (length-view img0 superblock_at))

  -- ---- slices

  module _ (img : List ℕ) (w : Waits g img0 p img) where
    abbrev d : Disk
    d = view img

    abbrev left : Bool
    left = any_below (differs g (view img)) (length C)

    pub waits-slices : (budget : ℕ) → Slices (length img) (view img) budget (cond left (copied g (view img) budget (length C)) (cl ∷ []) ∷ [])
    unfolding Pending
    waits-slices budget =
        subst (λ (l : ℕ). Slices l (view img) budget (cond left (copied g (view img) budget (length C)) (cl ∷ []) ∷ [])) (sym w.long)
        (slices-pending g d0 p geo ok (view img) w.shows n ready.volume (length-view img0 superblock_at) budget)

    -- what is left differs
    pub last-differs : (budget room : ℕ) → is_last (slice budget room) (view img) ≡ true → left ≡ false
    unfolding is_last Pending
    last-differs budget room e =
        let v = pending-volume g d0 p geo ok (view img) w.shows n ready.volume (length-view img0 superblock_at) in
        let st = pending-waits g d0 p geo ok (view img) w.shows n ready.volume (length-view img0 superblock_at) in
        not-true left (sym (λ i. not (some_differ (v.geometry i) (view img) (st i))) ∙ e)

    -- a slice copies targets, and no others
    pub copied_all : (P : Record → Type 0) → All P C → (budget : ℕ) → All P (copied g (view img) budget (length C))
    unfolding copied copied_entry Pending
    copied_all P h budget = all-concatenated P (copied_entry g (view img) budget) (length C) (λ k l. go k l (is_copied g (view img) budget k))
      where
        go : (k : ℕ) → k < length C → (b : Bool) → All P (cond b (entry_write g (view img) k ∷ []) [])
        go k l true = (subst P (sym (entry-writes g d0 p geo ok (view img) w.shows k l)) (all-at P C k barrier h l), tt)
        go k l false = tt

    -- no two of them for one sector
    pub copied-own : (budget : ℕ) → Own (copied g (view img) budget (length C))
    unfolding copied copied_entry Pending
    copied-own budget =
        own-concatenated (copied_entry g (view img) budget) (length C) (λ k l. one k (is_copied g (view img) budget k))
        (λ j k l r. two j k l r (is_copied g (view img) budget j) (is_copied g (view img) budget k))
      where
        one : (k : ℕ) (b : Bool) → Own (cond b (entry_write g (view img) k ∷ []) [])
        one k true = (tt, tt)
        one k false = tt

        sector-is : (k : ℕ) → k < length C → (entry_write g (view img) k).sector ≡ (get_or C k barrier).sector
        sector-is k l = ap (λ (v : Record). v.sector) (entry-writes g d0 p geo ok (view img) w.shows k l)

        two : (j k : ℕ) → j < k → k < length C → (a b : Bool)
            → All (λ v. All (λ w. v.sector ≢ w.sector) (cond b (entry_write g (view img) k ∷ []) [])) (cond a (entry_write g (view img) j ∷ []) [])
        two j k l r true true =
            (((λ e. let q = rising-lt C 0 j k barrier ok.rising l r in omega (arith, q, sector-is j (omega arith), sector-is k r)), tt), tt)
        two j k l r true false = (tt, tt)
        two j k l r false b = tt

    copied-miss : (budget j : ℕ) → hits C j ≡ false → hits (copied g (view img) budget (length C)) j ≡ false
    copied-miss budget j h = all-miss j _ (copied_all (λ w. j ≢ w.sector) (miss-all j C h) budget)

    abbrev partly : (ws : Group) → All (InImage n) ws → ((j : ℕ) → hits C j ≡ false → hits ws j ≡ false) → Waits g img0 p (stored ws img)
    partly ws h miss = part n C cl (committed g d0 p) C-in-image (super-in-image 0) (uncut g img0 p) ended ws img h miss w

    -- where none differs, the targets stand, and the superblock alone is left
    stands : left ≡ false → All (λ v. view img v.sector ≡ v.contents) C
    unfolding differs Pending
    stands e = all-by (λ v. view img v.sector ≡ v.contents) C barrier (λ k l. subst (λ (v : Record). view img v.sector ≡ v.contents)
        (entry-writes g d0 p geo ok (view img) w.shows k l)
        (same_true _ _ (not-false _ (none-at (differs g (view img)) (length C) e k l))))

    targets-stand : left ≡ false → stored C img ≡ img
    unfolding apply
    targets-stand e =
        same_view _ _ (length-stored C img) (stored-view C img n w.long C-in-image ∙ (λ i j. over-same C (view img) j (stands e) i))

    reset-ends : left ≡ false → stored (cl ∷ []) img ≡ uncut g img0 p
    reset-ends e = ap (stored (cl ∷ [])) (sym (targets-stand e)) ∙ sym (stored-append C (cl ∷ []) img) ∙ completes img w

    slice-cuts : (budget k : ℕ) (m : List Bool) (b : Bool) → left ≡ b
        → Interrupted g img0 p (stored (landed_of k m (cond b (copied g (view img) budget (length C)) (cl ∷ []) ∷ [])) img)
    unfolding landed_of stored
    slice-cuts budget zero m true e =
        let ws = copied g (view img) budget (length C) in
        waits (partly (kept m ws) (all-kept (InImage n) m ws (copied_all (InImage n) C-in-image budget)) (λ j h. kept-miss m ws j (copied-miss budget j h)))
    slice-cuts budget (suc k) m true e = waits (rw append-nil (partly (copied g (view img) budget (length C)) (copied_all (InImage n) C-in-image budget) (copied-miss budget)))
    slice-cuts budget zero m false e = subst (λ (x : Group). Interrupted g img0 p (stored x img)) (sym (kept-one m cl)) (go (get_or m 0 false))
      where
        go : (t : Bool) → Interrupted g img0 p (stored (cond t (cl ∷ []) []) img)
        go true = finished (reset-ends e)
        go false = waits w
    slice-cuts budget (suc k) m false e = finished (reset-ends e)

pub ready-recovers : (g : Geometry) (img : List ℕ) → Ready g img → Recovers (length img) (view img) []
ready-recovers g img r = recovers-clean g (length img) (view img) r.volume r.clean

-- ---- any number of cut recoveries, then one completed

pub data RecoveredTo : List ℕ → List ℕ → Type 0 where
  completed : {img : List ℕ} (r : Recovery) → is_done (verdict_by r (length img) (view img)) ≡ true → is_last r (view img) ≡ true
      → RecoveredTo img (stored (closed (listed_by r (length img) (view img))) img)
  interrupted : {img out : List ℕ} (r : Recovery) → listed_by r (length img) (view img) ≢ [] → (x : Cut)
      → RecoveredTo (stored (landed x (listed_by r (length img) (view img))) img) out → RecoveredTo img out

pub stored-none : (img : List ℕ) → stored (closed []) img ≡ img
unfolding stored
stored-none img = refl

pub ready-slices : (g : Geometry) (img : List ℕ) → Ready g img → (budget : ℕ) → Slices (length img) (view img) budget []
ready-slices g img r budget = slices-clean g (length img) (view img) budget r.volume r.clean

-- on an image that says clean either lists nothing
pub ready-none : (g : Geometry) (img : List ℕ) → Ready g img → (r : Recovery) → listed_by r (length img) (view img) ≡ []
ready-none g img h (entire room) = when-none (length img) (view img) (ready-recovers g img h) room
ready-none g img h (slice budget room) = slice-none (length img) (view img) budget (ready-slices g img h budget) room

pub ready-recovered : (g : Geometry) {img out : List ℕ} → Ready g img → RecoveredTo img out → out ≡ img
ready-recovered g {img} h (completed r e l) = ap (λ (gs : List Group). stored (closed gs) img) (ready-none g img h r) ∙ stored-none img
ready-recovered g {img} h (interrupted r ne x m) = absurd (ne (ready-none g img h r))

module _ (g : Geometry) (img0 : List ℕ) (p : Plan) (geo : UsableGeometry g) (ok : WellFormed g (view img0) p) (ready : Ready g img0) where
  pub waits-done : (img : List ℕ) → Waits g img0 p img → (r : Recovery) → is_done (verdict_by r (length img) (view img)) ≡ true → is_last r (view img) ≡ true
      → stored (closed (listed_by r (length img) (view img))) img ≡ uncut g img0 p
  waits-done img w (slice budget room) e l =
      let none = last-differs g img0 p geo ok ready img w budget room l in
      ap (λ (gs : List Group). stored (closed gs) img) (slice-done (length img) (view img) budget _ (waits-slices g img0 p geo ok ready img w budget) room e)
      ∙ ap (λ (b : Bool). stored (closed (cond b (copied g (view img) budget (length p.targets)) (clear g (view img0) p ∷ []) ∷ [])) img) none
      ∙ stored-closed ((clear g (view img0) p ∷ []) ∷ []) img ∙ reset-ends g img0 p geo ok ready img w none
  waits-done img w (entire room) e l =
      ap (λ (gs : List Group). stored (closed gs) img) (when-done (length img) (view img) _ (waits-recovers g img0 p geo ok ready img w) room e)
      ∙ stored-closed (p.targets ∷ (clear g (view img0) p ∷ []) ∷ []) img ∙ completes g img0 p geo ok ready img w

  pub waits-cut : (img : List ℕ) → Waits g img0 p img → (r : Recovery) → listed_by r (length img) (view img) ≢ [] → (x : Cut)
      → Interrupted g img0 p (stored (landed x (listed_by r (length img) (view img))) img)
  waits-cut img w (slice budget room) ne x =
      subst (λ (gs : List Group). Interrupted g img0 p (stored (landed x gs) img))
      (sym (slice-some (length img) (view img) budget _ (waits-slices g img0 p geo ok ready img w budget) room ne))
      (slice-cuts g img0 p geo ok ready img w budget x.before x.mask _ refl)
  waits-cut img w (entire room) ne x =
      subst (λ (gs : List Group). Interrupted g img0 p (stored (landed x gs) img))
      (sym (when-some (length img) (view img) _ (waits-recovers g img0 p geo ok ready img w) room ne)) (recovery-cuts g img0 p geo ok ready x.before x.mask img w)

  finished-recovered : {img out : List ℕ} → img ≡ uncut g img0 p → RecoveredTo img out → out ≡ uncut g img0 p
  finished-recovered e m = ready-recovered g (subst (Ready g) (sym e) (ready-uncut g img0 p geo ok ready)) m ∙ e

  interrupted-recovered : {img out : List ℕ} → RecoveredTo img out → Interrupted g img0 p img → out ≡ uncut g img0 p
  interrupted-recovered {img} (completed r e l) (waits w) = waits-done img w r e l
  interrupted-recovered {img} (completed r e l) (finished q) = finished-recovered q (completed r e l)
  interrupted-recovered {img} (interrupted r ne x m) (waits w) = interrupted-recovered m (waits-cut img w r ne x)
  interrupted-recovered {img} (interrupted r ne x m) (finished q) = finished-recovered q (interrupted r ne x m)

  -- THE COMMIT THEOREM: with the start mark landed the image is in the end the uncut one, else the old one with the landed part
  -- of group A
  pub commit : (x : Cut) {out : List ℕ} → RecoveredTo (stored (landed x (groups g img0 p)) img0) out
      → out ≡ cond (start_mark x) (uncut g img0 p) (stored (part_of x.before x.mask (A g (view img0) p)) img0)
  commit x {out} m = go (start_mark x) refl
    where
      go : (b : Bool) → start_mark x ≡ b → out ≡ cond b (uncut g img0 p) (stored (part_of x.before x.mask (A g (view img0) p)) img0)
      go true e = interrupted-recovered m (cut-marked g img0 p geo ok ready x.before x.mask e)
      go false e =
          let f = cut-unmarked g img0 p geo ok ready x.before x.mask e in
          ready-recovered g (subst (λ (ws : Group). Ready g (stored ws img0)) (sym f) (ready-part g img0 p geo ok ready x.before x.mask)) m
          ∙ ap (λ (ws : Group). stored ws img0) f
