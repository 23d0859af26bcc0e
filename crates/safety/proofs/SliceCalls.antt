-- HOW MANY SLICES A RECOVERY TAKES, of any good journal: a slice that copies b entries leaves b fewer that differ, and the one behind them
-- ends it. Assumes nothing.
use Prim.Native.Nat.{ℕ, zero, suc, ◌+◌, ◌*◌, ◌-◌, ◌≤◌, ◌<◌, min}
use mathlib.Core.Path.{◌≡◌, refl, sym, ap, ap₂, ◌∙◌, subst}
use mathlib.Core.Logic.{◌≢◌}
use mathlib.Core.Bool.{Bool, true, false, cond, not}
use mathlib.Core.List.{List, [], ◌∷◌, append-nil}
use native.Mathlib.Omega.{arith}
use native.Mathlib.Decide.{dec_lt}
use native.Mathlib.Numerals.{add-one}
use native.Mathlib.Nat.{zero-add, zero-mul, suc-mul, mul-le-mul_right, div-mul-le_self}
use lib.Dec.{eqb, ltb}
use lib.ListN.{length}
use borrow.Author.Tests.{eqb-true, eqb-false, eq-eqb, le-ltb, ltb-true, ltb-false}
use Rattle.model.specs.declared.Geometry.{Geometry}
use Rattle.model.specs.declared.State.TheVariants.{Clean, Waiting}
use Rattle.model.specs.Search.{any_below, count_below, concatenated, equal_bytes}
use Rattle.model.specs.Geometry.{superblock_at}
use Rattle.model.specs.Disk.{Disk, view}
use Rattle.model.specs.Superblock.{state_on, state_of, journal_length, with_journal_length}
use Rattle.model.specs.Journal.{source_at, target_at}
use Rattle.model.specs.Refusals.{verdict_of, is_done, image_verdict, state_number}
use Rattle.model.specs.WriteList.{Record, Group, record_size, superblock_group, sector_write, stored, closed, over, apply, hits}
use Rattle.model.specs.Recovery.{good_entry, replayed, bad_journal, entry_write, differs, is_copied, copied_entry, copied, sliced_writes}
use Rattle.model.specs.Recovery.{slice_verdict, slice_listed, slice_answer}
use Rattle.laws.proofs.Booleans.{and_left}
use Rattle.laws.proofs.Disk.{length-view}
use Rattle.laws.proofs.Search.{all_below-yes, all_below-at, none-at}
use Rattle.laws.proofs.Count.{count_below-any_below, count_below-none}
use Rattle.laws.proofs.Recovery.{copied-count}
use Rattle.safety.specs.Room.{geometry_on}
use Rattle.safety.specs.AnyJournal.{recovery_number}
use Rattle.safety.specs.SliceCalls.{sliced_image, slice_at, reported, differing, Finishes, rounded_up, SliceCalls}
use Rattle.safety.proofs.Searches.{same_refl, not-no}
use Rattle.safety.proofs.Apply.{over-append, over-here, over-miss, over_none, apply-miss, All, all-concatenated, all-miss, InImage, stored-view, stored-closed}
use Rattle.safety.proofs.Superblock.{journal_length-with, state-clean, Volume, Slices, slices-by, slice-done}
use Rattle.safety.proofs.Landing.{Begun, part}
use Rattle.safety.proofs.Changing.{earlier-done, later-done}
use Rattle.safety.proofs.Bounds.{rounded-up}
use Rattle.laws.proofs.Areas.{metadata-below}
use Rattle.safety.proofs.Replayed.{target-metadata, target_once, replayed-at, zero-stays, target-same, contents-same, good-again, replayed-same}
use Rattle.safety.proofs.AnyJournal.{no-4-6-8, from-good, waiting-answers, volume, few, in_image, C-in, last-in, ended, first-begun}

abbrev bit : Bool → ℕ
bit b = cond b 1 0

-- ---- a disk with n good entries, and what a slice makes of it

module _ (g : Geometry) (e : Disk) (n : ℕ) (ok : (k : ℕ) → k < n → good_entry g e k ≡ true) (b : ℕ) where
  apart : (j k : ℕ) → j < k → k < n → target_at g e j ≢ target_at g e k
  apart j k l h = eqb-false _ _ (none-at (λ i. eqb (target_at g e i) (target_at g e k)) k (target_once g e n ok k h) j l)

  distinct : (j k : ℕ) → j < n → k < n → j ≢ k → target_at g e k ≢ target_at g e j
  distinct j k a c ne q = go (dec_lt j k)
    where
      go : Dec (j < k) → ⊥
      go (yes l) = apart j k l c (sym q)
      go (no l) = apart k j (omega arith) a q

  copied_all : (P : Record → Type 0) (m : ℕ) → ((k : ℕ) → k < m → P (entry_write g e k)) → All P (concatenated (copied_entry g e b) 0 m)
  unfolding copied_entry
  copied_all P m h = all-concatenated P (copied_entry g e b) m (λ k l. go k l (is_copied g e b k))
    where
      go : (k : ℕ) → k < m → (t : Bool) → All P (cond t (entry_write g e k ∷ []) [])
      go k l true = (h k l, tt)
      go k l false = tt

  own : (k j : ℕ) → j ≢ target_at g e k → hits (copied_entry g e b k) j ≡ false
  unfolding copied_entry
  own k j ne = go (is_copied g e b k)
    where
      go : (t : Bool) → hits (cond t (entry_write g e k ∷ []) []) j ≡ false
      go true = all-miss j (entry_write g e k ∷ []) (ne, tt)
      go false = all-miss j [] tt

  -- what it leaves in the target of entry k
  behind : (k m : ℕ) (x : List ℕ) → k < n → m ≤ n → over (concatenated (copied_entry g e b) 0 m) (target_at g e k) x ≡ cond (ltb k m) (over (copied_entry g e b k) (target_at g e k) x) x
  unfolding concatenated
  behind k zero x l h =
      over_none (target_at g e k) x ∙ sym (ap (λ (p : Bool). cond p (over (copied_entry g e b k) (target_at g e k) x) x) (le-ltb k 0 (omega arith)))
  behind k (suc m) x l h =
      over-append (concatenated (copied_entry g e b) 0 m) (copied_entry g e b (0 + m)) (target_at g e k) x
      ∙ ap (λ (i : ℕ). over (copied_entry g e b i) (target_at g e k) (over (concatenated (copied_entry g e b) 0 m) (target_at g e k) x)) (zero-add m)
      ∙ ap (over (copied_entry g e b m) (target_at g e k)) (behind k m x l (omega arith)) ∙ go (ltb k m) (ltb k (suc m)) refl refl
    where
      f : ℕ → Group
      f = copied_entry g e b

      go : (p q : Bool) → ltb k m ≡ p → ltb k (suc m) ≡ q → over (f m) (target_at g e k) (cond p (over (f k) (target_at g e k) x) x) ≡ cond q (over (f k) (target_at g e k) x) x
      go true true a c =
          let i : k < m = ltb-true k m a in
          over-miss (f m) (target_at g e k) _ (own m (target_at g e k) (distinct m k (omega arith) l (λ z. omega arith)))
      go true false a c = let i : k < m = ltb-true k m a in let j : suc m ≤ k = ltb-false k (suc m) c in absurd (omega arith)
      go false true a c =
          let i : m ≤ k = ltb-false k m a in
          let j : k < suc m = ltb-true k (suc m) c in
          let z : m ≡ k = omega arith in
          ap (λ (y : ℕ). over (f y) (target_at g e k) x) z
      go false false a c =
          let j : suc m ≤ k = ltb-false k (suc m) c in
          over-miss (f m) (target_at g e k) x (own m (target_at g e k) (distinct m k (omega arith) l (λ z. omega arith)))

  copied_at : (k : ℕ) (x : List ℕ) → k < n → over (copied g e b n) (target_at g e k) x ≡ cond (is_copied g e b k) (e (source_at g e k)) x
  unfolding copied copied_entry
  copied_at k x l = behind k n x l (omega arith) ∙ go (ltb k n) refl ∙ one (is_copied g e b k)
    where
      y : List ℕ
      y = over (copied_entry g e b k) (target_at g e k) x

      go : (p : Bool) → ltb k n ≡ p → cond p (over (copied_entry g e b k) (target_at g e k) x) x ≡ over (copied_entry g e b k) (target_at g e k) x
      go true q = refl
      go false q = let i : n ≤ k = ltb-false k n q in absurd (omega arith)

      one : (t : Bool) → over (cond t (entry_write g e k ∷ []) []) (target_at g e k) x ≡ cond t (e (source_at g e k)) x
      one true = over-here (entry_write g e k) [] x ∙ over_none (target_at g e k) _
      one false = over_none (target_at g e k) x

  -- a sector that group C misses is no target
  no_target : (j : ℕ) → hits (replayed g e n) j ≡ false → (k : ℕ) → k < n → j ≢ target_at g e k
  no_target j h k l q =
      let at : (x : List ℕ) → x ≡ e (source_at g e k) = λ x.
      sym (over-miss (replayed g e n) j x h) ∙ ap (λ (i : ℕ). over (replayed g e n) i x) q ∙ replayed-at g e n ok k x l in
      let z = ap length (at [] ∙ sym (at (0 ∷ []))) in
      absurd (omega (arith, z))

  copied-miss : (j : ℕ) → hits (replayed g e n) j ≡ false → hits (copied g e b n) j ≡ false
  unfolding copied
  copied-miss j h = all-miss j _ (copied_all (λ w. j ≢ w.sector) n (no_target j h))

  module _ (most : n ≤ 1024) (f : Disk) (is : f ≡ apply (copied g e b n) e) where
    shows : (j : ℕ) → hits (replayed g e n) j ≡ false → f j ≡ e j
    shows j h = ap (λ (x : Disk). x j) is ∙ apply-miss (copied g e b n) e j (copied-miss j h)

    target-after : (k : ℕ) → k < n → f (target_at g e k) ≡ cond (is_copied g e b k) (e (source_at g e k)) (e (target_at g e k))
    unfolding apply
    target-after k l = ap (λ (x : Disk). x (target_at g e k)) is ∙ copied_at k (e (target_at g e k)) l

    differs-after : (k : ℕ) → k < n → bit (differs g e k) ≡ bit (is_copied g e b k) + bit (differs g f k)
    unfolding differs is_copied
    differs-after k l =
        go (is_copied g e b k) refl
        ∙ ap (λ (t : Bool). bit (is_copied g e b k) + bit (not t))
        (sym (ap₂ equal_bytes (ap f (target-same g e n ok most f shows k l) ∙ target-after k l) (contents-same g e n ok most f shows k l)))
      where
        s : List ℕ
        s = e (source_at g e k)

        t : List ℕ
        t = e (target_at g e k)

        go : (c : Bool) → is_copied g e b k ≡ c → bit (differs g e k) ≡ bit c + bit (not (equal_bytes (cond c (e (source_at g e k)) (e (target_at g e k))) (e (source_at g e k))))
        go true q = rw (same_refl (e (source_at g e k)), and_left (differs g e k) _ q)
        go false q = sym (zero-add (bit (not (equal_bytes (e (target_at g e k)) (e (source_at g e k))))))

    left_after : (m : ℕ) → m ≤ n → count_below (differs g e) m ≡ count_below (is_copied g e b) m + count_below (differs g f) m
    unfolding count_below
    left_after zero h = refl
    left_after (suc m) h = omega (arith, left_after m (omega arith), differs-after m (omega arith))

-- ---- slices one after the other

module _ (img : List ℕ) (n b : ℕ) (rooms : ℕ → ℕ) (st : state_on (view img) ≡ Waiting n) (first : (slice_at b rooms img 0).number ≡ 0) where
  abbrev g : Geometry
  g = geometry_on img

  abbrev room : ℕ
  room = (n + 3) * record_size

  abbrev C : Group
  C = replayed (geometry_on img) (view img) n

  accepted : is_done (slice_verdict (length img) (view img) b (rooms 0)) ≡ true
  unfolding slice_answer sliced_image
  accepted = eq-eqb _ 0 first

  passes : (image_verdict (length img) (view img)).number ≡ 0
  unfolding slice_verdict
  passes = eqb-true _ 0 (earlier-done (image_verdict (length img) (view img)) _ accepted)

  own-verdict : (bad_journal (geometry_on img) (view img) (state_on (view img)) ≡ false) × (eqb b 0 ≡ false)
  unfolding slice_verdict verdict_of
  own-verdict =
      no-4-6-8 (eqb (state_number (state_on (view img))) 4) (bad_journal g (view img) (state_on (view img))) (eqb b 0) _
      (later-done (image_verdict (length img) (view img)) _ accepted)

  all-good : (k : ℕ) → k < n → good_entry (geometry_on img) (view img) k ≡ true
  all-good = all_below-at (good_entry g (view img)) n (not-no _ (ap (bad_journal g (view img)) (sym st) ∙ own-verdict.0))

  some-budget : 0 < b
  some-budget = let z : b ≢ 0 = eqb-false b 0 own-verdict.1 in omega (arith, z)

  ok : recovery_number ((n + 3) * record_size) img ≡ 0
  ok = (waiting-answers img n room st).1 (passes, from-good n img all-good, omega arith)

  most : n ≤ 1024
  most = few img n room st ok

  abbrev Still : List ℕ → Type 0
  Still out = Begun (length img) C (view img) out

  module _ (out : List ℕ) (w : Still out) where
    e-good : (k : ℕ) → k < n → good_entry (geometry_on img) (view out) k ≡ true
    e-good = good-again g (view img) n all-good most (view out) w.shows

    zero_is : view out superblock_at ≡ view img superblock_at
    zero_is = zero-stays g (view img) n all-good most (view out) w.shows

    still-waits : state_on (view out) ≡ Waiting n
    still-waits = ap (λ (s : List ℕ). state_of (journal_length s)) zero_is ∙ st

    e-volume : Volume (geometry_on img) (length out) (view out superblock_at)
    e-volume = subst (λ (l : ℕ). Volume g l (view out superblock_at)) (sym w.long) (subst (Volume g (length img)) (sym zero_is) (volume img n room st ok))

    e-slices : Slices (length out) (view out) b (cond (any_below (differs (geometry_on img) (view out)) n) (copied (geometry_on img) (view out) b n) (superblock_group (view out) 0) ∷ [])
    e-slices = slices-by g (length out) (view out) b (Waiting n) _ e-volume still-waits refl (ap not (all_below-yes (good_entry g (view out)) n e-good)) refl

    module _ (r : ℕ) (acc : (slice_answer (length out) (view out) b r).number ≡ 0) where
      is-done : is_done (slice_verdict (length out) (view out) b r) ≡ true
      unfolding slice_answer
      is-done = eq-eqb _ 0 acc

      listed : slice_listed (length out) (view out) b r ≡ cond (any_below (differs (geometry_on img) (view out)) n) (copied (geometry_on img) (view out) b n) (superblock_group (view out) 0) ∷ []
      listed = slice-done (length out) (view out) b _ e-slices r is-done

      writes : (slice_answer (length out) (view out) b r).count ≡ cond (any_below (differs (geometry_on img) (view out)) n) (count_below (is_copied (geometry_on img) (view out) b) n) 1
      unfolding slice_answer
      writes = λ i. cond (is-done i) (sliced_writes (e-volume.geometry i) (view out) b (still-waits i)) 0

      abbrev next : List ℕ
      next = stored (closed (slice_listed (length out) (view out) b r)) out

      next-by : (ws : Group) → slice_listed (length out) (view out) b r ≡ ws ∷ [] → next ≡ stored ws out
      next-by ws q = ap (λ (gs : List Group). stored (closed gs) out) q ∙ stored-closed (ws ∷ []) out ∙ ap (λ (x : Group). stored x out) (append-nil ws)

      -- some differ
      module _ (some : any_below (differs (geometry_on img) (view out)) n ≡ true) where
        abbrev ws : Group
        ws = copied (geometry_on img) (view out) b n

        next-copied : next ≡ stored ws out
        next-copied = next-by ws (listed ∙ ap (λ (t : Bool). cond t ws (superblock_group (view out) 0) ∷ []) some)

        in-copied : All (InImage (length img)) ws
        unfolding copied
        in-copied =
            copied_all g (view out) n e-good b (InImage (length img)) n
            (λ k l. in_image img n room st ok _ _ (metadata-below g _ (target-metadata g (view out) n e-good k l)) (length-view out _))

        shows-next : view next ≡ apply ws (view out)
        shows-next = ap view next-copied ∙ stored-view ws out (length img) w.long in-copied

        still-next : Still next
        still-next =
            subst Still (sym next-copied)
            (part (length img) C _ (view img) (C-in img n room st ok) (last-in img n room st ok) _ (ended img n room st ok) ws out in-copied
            (λ j h. copied-miss g (view out) n e-good b j (ap (λ (c : Group). hits c j) (replayed-same g (view img) n all-good most (view out) w.shows) ∙ h)) w)

        count-is : (slice_answer (length out) (view out) b r).count ≡ min b (count_below (differs (geometry_on img) (view out)) n)
        count-is = writes ∙ ap (λ (t : Bool). cond t (count_below (is_copied g (view out) b) n) 1) some ∙ copied-count g (view out) b n

        fewer : count_below (differs (geometry_on img) (view out)) n
            ≡ min b (count_below (differs (geometry_on img) (view out)) n) + count_below (differs (geometry_on img) (view next)) n
        fewer =
            left_after g (view out) n e-good b most (view next) shows-next n (omega arith)
            ∙ ap (λ (c : ℕ). c + count_below (differs g (view next)) n) (copied-count g (view out) b n)

      -- none does
      module _ (none : any_below (differs (geometry_on img) (view out)) n ≡ false) where
        reports-one : (slice_answer (length out) (view out) b r).count ≡ 1
        reports-one = writes ∙ ap (λ (t : Bool). cond t (count_below (is_copied g (view out) b) n) 1) none

        next-reset : next ≡ stored (superblock_group (view out) 0) out
        next-reset = next-by (superblock_group (view out) 0) (listed ∙ ap (λ (t : Bool). cond t (copied g (view out) b n) (superblock_group (view out) 0) ∷ []) none)

        in-reset : InImage (length img) (sector_write superblock_at (with_journal_length 0 (view out superblock_at)))
        in-reset = subst (λ (s : List ℕ). InImage (length img) (sector_write superblock_at (with_journal_length 0 s))) (sym zero_is) (last-in img n room st ok)

        zero-next : view next superblock_at ≡ with_journal_length 0 (view out superblock_at)
        unfolding apply
        zero-next =
            ap (λ (x : List ℕ). view x superblock_at) next-reset
            ∙ ap (λ (x : Disk). x superblock_at) (stored-view (superblock_group (view out) 0) out (length img) w.long (in-reset, tt))
            ∙ over-here (sector_write superblock_at (with_journal_length 0 (view out superblock_at))) [] _ ∙ over_none superblock_at _

        clean-next : state_on (view next) ≡ Clean
        clean-next =
            ap (λ (s : List ℕ). state_of (journal_length s)) zero-next
            ∙ state-clean _ (journal_length-with 0 (view out superblock_at) (length-view out superblock_at) (omega arith))

  -- ---- the k-th

  abbrev D : ℕ
  D = differing n img

  abbrev calls : ℕ
  calls = rounded_up (differing n img) b

  abbrev image : ℕ → List ℕ
  image k = sliced_image b rooms img k

  abbrev left : ℕ → ℕ
  left k = count_below (differs (geometry_on img) (view (sliced_image b rooms img k))) n

  record Reached (k : ℕ) : Type 0 where
    still : Still (image k)
    leaves : left k ≡ D - k * b
    told : reported b rooms img k + left k ≡ D

  some_left : (e : Disk) → 0 < count_below (differs (geometry_on img) e) n → any_below (differs (geometry_on img) e) n ≡ true
  some_left e h = go (any_below (differs g e) n) refl
    where
      go : (t : Bool) → any_below (differs (geometry_on img) e) n ≡ t → t ≡ true
      go true q = refl
      go false q = absurd (omega (arith, count_below-none (differs (geometry_on img) e) n q))

  none_left : (e : Disk) → count_below (differs (geometry_on img) e) n ≡ 0 → any_below (differs (geometry_on img) e) n ≡ false
  none_left e h = go (any_below (differs g e) n) refl
    where
      go : (t : Bool) → any_below (differs (geometry_on img) e) n ≡ t → t ≡ false
      go true q = absurd (omega (arith, count_below-any_below (differs (geometry_on img) e) n q))
      go false q = refl

  module _ (acc : (k : ℕ) → k ≤ calls → (slice_at b rooms img k).number ≡ 0) where
    not_yet : (k : ℕ) → suc k ≤ calls → k * b < D
    not_yet k h =
        let a : suc k * b ≤ calls * b = mul-le-mul_right b h in
        let c : calls * b ≤ D + (b - 1) = div-mul-le_self (D + (b - 1)) b in
        let s : suc k * b ≡ k * b + b = suc-mul k b in
        let p : 0 < b = some-budget in
        omega arith

    reach : (k : ℕ) → k ≤ calls → Reached k
    unfolding sliced_image reported
    reach zero h = record { still = first-begun img n room st ok; leaves = let z : 0 * b ≡ 0 = zero-mul b in omega arith; told = omega arith }
    reach (suc k) h = go (reach k (omega arith))
      where
        go : Reached k → Reached (suc k)
        go A =
            let l : k * b < D = not_yet k h in
            let p : 0 < left k = omega (arith, A.leaves) in
            let some = some_left (view (image k)) p in
            let r = acc k (omega arith) in
            let s : suc k * b ≡ k * b + b = suc-mul k b in
            let f = fewer (image k) A.still (rooms k) r some in
            let c = count-is (image k) A.still (rooms k) r some in
            record { still = still-next (image k) A.still (rooms k) r some; leaves = omega (arith, f, A.leaves); told = omega (arith, f, c, A.told) }

    end : Reached calls
    end = reach calls (omega arith)

    none_differ : any_below (differs (geometry_on img) (view (sliced_image b rooms img calls))) n ≡ false
    none_differ = none_left (view (image calls)) (omega (arith, end.leaves, rounded-up D b some-budget))

    finishes : Finishes n b rooms img calls
    unfolding sliced_image
    finishes = record {
      waits = λ k h. still-waits (image k) (reach k h).still;
      clean = rw (add-one calls) (clean-next (image calls) end.still (rooms calls) (acc calls (omega arith)) none_differ);
      last = reports-one (image calls) end.still (rooms calls) (acc calls (omega arith)) none_differ;
      others = omega (arith, end.told, end.leaves, rounded-up D b some-budget);
    }

-- HOW MANY SLICES IT TAKES
pub slice-calls : SliceCalls
unfolding SliceCalls
slice-calls img n b rooms st acc = finishes img n b rooms st (acc 0 (omega arith)) acc
