-- The superblock when its journal length is rewritten, an image whose superblock is a volume's, and what recovery answers and lists
-- by the state. Assumes nothing.
use Prim.Native.Nat.{ℕ, ◌+◌, ◌*◌, ◌/◌, ◌^◌, ◌≤◌, ◌<◌}
use mathlib.Core.Path.{◌≡◌, refl, sym, ap, ap₂, ◌∙◌}
use mathlib.Core.Logic.{◌≢◌}
use mathlib.Core.Bool.{not, cond, Bool, true, false, ◌&&◌}
use mathlib.Core.List.{List, []}
use native.Mathlib.Omega.{arith}
use lib.Dec.{ltb, eqb, leb}
use lib.ListN.{length}
use borrow.Author.Tests.{le-leb, lt-ltb, leb-true, ne_eqb}
use Rattle.model.specs.declared.Geometry.{Geometry}
use Rattle.model.specs.declared.State.{State}
use Rattle.model.specs.declared.State.TheVariants.{Clean, Waiting}
use Rattle.model.specs.Bytes.{be_bytes}
use Rattle.model.specs.Search.{equal_bytes}
use Rattle.model.specs.Geometry.{superblock_at, volume_sectors, in_bounds}
use Rattle.model.specs.Disk.{Disk}
use Rattle.model.specs.Edition.{is_edition}
use Rattle.model.specs.Superblock.{state_on, magic, is_volume, geometry_in, journal_length, state_of, with_journal_length}
use Rattle.model.specs.Refusals.{verdict_of, and_then, is_done, refusal, done, is_whole, fits_image, image_verdict, state_number}
use Rattle.model.specs.WriteList.{Group, list_length}
use Rattle.model.specs.Recovery.{bad_journal, replay_groups, recovery_groups, recovery_verdict, recovery_listed, recovery_answer}
use Rattle.model.specs.Recovery.{sliced_groups, slice_groups, slice_verdict, slice_listed, slice_answer}
use Rattle.model.specs.Answers.{Verdict}
use Rattle.laws.proofs.Booleans.{and_left, and_right}
use Rattle.laws.proofs.Bytes.{length-put, length-be_bytes, number_same, number-other, bytes-other, put-put}

-- ---- the journal length

pub length-with_journal_length : (n : ℕ) (s : List ℕ) → length (with_journal_length n s) ≡ length s
unfolding with_journal_length
length-with_journal_length n s = length-put s 18 (be_bytes 2 n)

pub journal_length-with : (n : ℕ) (s : List ℕ) → length s ≡ 512 → n < 65536 → journal_length (with_journal_length n s) ≡ n
unfolding with_journal_length journal_length
journal_length-with n s l h = number_same s 18 2 n (le-leb (18 + 2) (length s) (omega arith)) (lt-ltb n (256 ^ 2) h)

pub is_volume-with : (n : ℕ) (s : List ℕ) → is_volume (with_journal_length n s) ≡ is_volume s
unfolding with_journal_length is_volume
is_volume-with n s = ap₂ (λ a b. equal_bytes a magic && is_edition b) (bytes-other s 18 2 n 8 8 refl) (number-other s 18 2 n 16 2 refl)

pub geometry_in-with : (n : ℕ) (s : List ℕ) → geometry_in (with_journal_length n s) ≡ geometry_in s
unfolding with_journal_length geometry_in
geometry_in-with n s =
    λ i. record {
      files = number-other s 18 2 n 0 2 refl i;
      extents = number-other s 18 2 n 2 2 refl i;
      extent_sectors = number-other s 18 2 n 4 4 refl i;
      edition = number-other s 18 2 n 16 2 refl i;
    }

pub with-with : (m n : ℕ) (s : List ℕ) → with_journal_length m (with_journal_length n s) ≡ with_journal_length m s
unfolding with_journal_length
with-with m n s = put-put s 18 (be_bytes 2 n) (be_bytes 2 m) (length-be_bytes 2 n ∙ sym (length-be_bytes 2 m))

pub state-clean : (n : ℕ) → n ≡ 0 → state_of n ≡ Clean
unfolding state_of
state-clean n e = rw e

pub state-waiting : (n : ℕ) → 0 < n → n ≤ 1024 → state_of n ≡ Waiting n
unfolding state_of
state-waiting n h l = rw (ne_eqb n 0 (λ e. omega arith), le-leb n 1024 l)

-- ---- an image of len bytes whose superblock s is that of a volume

pub record Volume (g : Geometry) (len : ℕ) (s : List ℕ) : Type 0 where
  pub whole : is_whole len ≡ true
  pub marked : is_volume s ≡ true
  pub geometry : geometry_in s ≡ g
  pub fits : fits_image len s ≡ true

fits_image-with : (n len : ℕ) (s : List ℕ) → fits_image len (with_journal_length n s) ≡ fits_image len s
unfolding fits_image
fits_image-with n len s = ap (λ (g : Geometry). in_bounds g && leb (volume_sectors g) (len / 512)) (geometry_in-with n s)

pub volume-with : (g : Geometry) (n len : ℕ) (s : List ℕ) → Volume g len s → Volume g len (with_journal_length n s)
volume-with g n len s v = record {
  whole = v.whole;
  marked = is_volume-with n s ∙ v.marked;
  geometry = geometry_in-with n s ∙ v.geometry;
  fits = fits_image-with n len s ∙ v.fits;
}

pub volume-long : (g : Geometry) (len : ℕ) (s : List ℕ) → Volume g len s → 512 * volume_sectors g ≤ len
unfolding fits_image
volume-long g len s v =
    let q : leb (volume_sectors g) (len / 512) ≡ true =
    ap (λ (x : Geometry). leb (volume_sectors x) (len / 512)) (sym v.geometry) ∙ and_right (in_bounds (geometry_in s)) _ v.fits in
    let h : volume_sectors g ≤ len / 512 = leb-true (volume_sectors g) (len / 512) q in
    omega arith

pub volume-bounds : (g : Geometry) (len : ℕ) (s : List ℕ) → Volume g len s → in_bounds g ≡ true
unfolding fits_image
volume-bounds g len s v = ap in_bounds (sym v.geometry) ∙ and_left (in_bounds (geometry_in s)) _ v.fits

-- "1 to 3" pass
pub volume-accepted : (g : Geometry) (len : ℕ) (d : Disk) → Volume g len (d superblock_at) → image_verdict len d ≡ done
unfolding image_verdict verdict_of
volume-accepted g len d v =
    λ i. cond (not (v.whole i)) (refusal 1) (cond (not (v.marked i)) (refusal 2) (cond (not (v.fits i)) (refusal 3) done))

-- ---- recovery

-- a verdict that only a short list refuses
abbrev pub by_room : ℕ → List Group → Verdict
by_room room gs = cond (ltb room (list_length gs)) (refusal 14) done

-- a recovery that refuses a disk only for a list shorter than these groups, and has these to list
pub record Recovers (len : ℕ) (d : Disk) (gs : List Group) : Type 0 where
  pub verdict : (room : ℕ) → recovery_verdict len d room ≡ by_room room gs
  pub groups : recovery_groups d ≡ gs

pub groups-are : (g : Geometry) (d : Disk) (st : State) → geometry_in (d superblock_at) ≡ g → state_on d ≡ st → recovery_groups d ≡ replay_groups g d st
unfolding recovery_groups
groups-are g d st e f = λ i. replay_groups (e i) d (f i)

module _ (g : Geometry) (len : ℕ) (d : Disk) where
  -- unfinished, bad journal, short list
  abbrev verdict_by : Bool → Bool → ℕ → List Group → Verdict
  verdict_by unfinished bad room gs = and_then (cond unfinished (refusal 4) (cond bad (refusal 6) done)) (by_room room gs)

  pub recovers-by : (st : State) (gs : List Group) → Volume g len (d superblock_at) → state_on d ≡ st → eqb (state_number st) 4 ≡ false
      → bad_journal g d st ≡ false → replay_groups g d st ≡ gs → Recovers len d gs
  unfolding recovery_verdict verdict_of
  recovers-by st gs v e n b r =
      let gr : recovery_groups d ≡ gs = groups-are g d st v.geometry e ∙ r in
      record {
        verdict = λ room.
            (λ i. and_then (volume-accepted g len d v i) (verdict_by (eqb (state_number (e i)) 4) (bad_journal (v.geometry i) d (e i)) room (gr i)))
            ∙ (λ i. verdict_by (n i) (b i) room gs);
        groups = gr;
      }

-- what it really lists
listed_by : (b : Bool) (gs : List Group) → cond b gs [] ≢ [] → cond b gs [] ≡ gs
listed_by true gs h = refl
listed_by false gs h = absurd (h refl)

listed-none : (b : Bool) → cond {A = List Group} b [] [] ≡ []
listed-none true = refl
listed-none false = refl

number_by : (b : Bool) → (cond b (refusal 14) done).number ≡ cond b 14 0
number_by true = refl
number_by false = refl

module _ (len : ℕ) (d : Disk) (gs : List Group) (r : Recovers len d gs) (room : ℕ) where
  pub when-done : is_done (recovery_verdict len d room) ≡ true → recovery_listed len d room ≡ gs
  unfolding recovery_listed
  when-done h = λ i. cond (h i) (r.groups i) []

  pub when-some : recovery_listed len d room ≢ [] → recovery_listed len d room ≡ gs
  unfolding recovery_listed
  when-some h = listed_by (is_done (recovery_verdict len d room)) (recovery_groups d) h ∙ r.groups

  pub answers : (recovery_answer len d room).number ≡ cond (ltb room (list_length (recovery_groups d))) 14 0
  unfolding recovery_answer
  answers =
      ap (λ (v : Verdict). v.number) (r.verdict room) ∙ number_by (ltb room (list_length gs))
      ∙ ap (λ (x : List Group). cond (ltb room (list_length x)) 14 0) (sym r.groups)

pub when-none : (len : ℕ) (d : Disk) → Recovers len d [] → (room : ℕ) → recovery_listed len d room ≡ []
unfolding recovery_listed
when-none len d r room =
    ap (λ (x : List Group). cond (is_done (recovery_verdict len d room)) x []) r.groups ∙ listed-none (is_done (recovery_verdict len d room))

-- a clean volume's recovery does nothing
pub recovers-clean : (g : Geometry) (len : ℕ) (d : Disk) → Volume g len (d superblock_at) → state_on d ≡ Clean → Recovers len d []
recovers-clean g len d v e = recovers-by g len d Clean [] v e refl refl refl

-- ---- a slice

-- one that refuses a disk only for budget 0 and for a list shorter than these groups, and has these to list
pub record Slices (len : ℕ) (d : Disk) (budget : ℕ) (gs : List Group) : Type 0 where
  pub verdict : (room : ℕ) → slice_verdict len d budget room ≡ cond (eqb budget 0) (refusal 8) (by_room room gs)
  pub groups : slice_groups d budget ≡ gs

sliced-are : (g : Geometry) (d : Disk) (budget : ℕ) (st : State) → geometry_in (d superblock_at) ≡ g → state_on d ≡ st → slice_groups d budget ≡ sliced_groups g d budget st
unfolding slice_groups
sliced-are g d budget st e f = λ i. sliced_groups (e i) d budget (f i)

-- unfinished, bad journal, budget 0, short list
abbrev sliced_by : Bool → Bool → Bool → ℕ → List Group → Verdict
sliced_by unfinished bad none room gs = and_then (cond unfinished (refusal 4) (cond bad (refusal 6) (cond none (refusal 8) done))) (by_room room gs)

by-budget : (none : Bool) (room : ℕ) (gs : List Group) → sliced_by false false none room gs ≡ cond none (refusal 8) (by_room room gs)
by-budget true room gs = refl
by-budget false room gs = refl

module _ (g : Geometry) (len : ℕ) (d : Disk) (budget : ℕ) where
  pub slices-by : (st : State) (gs : List Group) → Volume g len (d superblock_at) → state_on d ≡ st → eqb (state_number st) 4 ≡ false
      → bad_journal g d st ≡ false → sliced_groups g d budget st ≡ gs → Slices len d budget gs
  unfolding slice_verdict verdict_of
  slices-by st gs v e n b r =
      let gr : slice_groups d budget ≡ gs = sliced-are g d budget st v.geometry e ∙ r in
      record {
        verdict = λ room.
            (λ i. and_then (volume-accepted g len d v i) (sliced_by (eqb (state_number (e i)) 4) (bad_journal (v.geometry i) d (e i)) (eqb budget 0) room (gr i)))
            ∙ (λ i. sliced_by (n i) (b i) (eqb budget 0) room gs) ∙ by-budget (eqb budget 0) room gs;
        groups = gr;
      }

  pub slices-clean : Volume g len (d superblock_at) → state_on d ≡ Clean → Slices len d budget []
  slices-clean v e = slices-by Clean [] v e refl refl refl

slice-number : (none short : Bool) → (cond none (refusal 8) (cond short (refusal 14) done)).number ≡ cond none 8 (cond short 14 0)
slice-number true short = refl
slice-number false true = refl
slice-number false false = refl

module _ (len : ℕ) (d : Disk) (budget : ℕ) (gs : List Group) (r : Slices len d budget gs) (room : ℕ) where
  pub slice-done : is_done (slice_verdict len d budget room) ≡ true → slice_listed len d budget room ≡ gs
  unfolding slice_listed
  slice-done h = λ i. cond (h i) (r.groups i) []

  pub slice-some : slice_listed len d budget room ≢ [] → slice_listed len d budget room ≡ gs
  unfolding slice_listed
  slice-some h = listed_by (is_done (slice_verdict len d budget room)) (slice_groups d budget) h ∙ r.groups

  pub slice-answers : (slice_answer len d budget room).number ≡ cond (eqb budget 0) 8 (cond (ltb room (list_length (slice_groups d budget))) 14 0)
  unfolding slice_answer
  slice-answers =
      ap (λ (v : Verdict). v.number) (r.verdict room) ∙ slice-number (eqb budget 0) (ltb room (list_length gs))
      ∙ ap (λ (x : List Group). cond (eqb budget 0) 8 (cond (ltb room (list_length x)) 14 0)) (sym r.groups)

pub slice-none : (len : ℕ) (d : Disk) (budget : ℕ) → Slices len d budget [] → (room : ℕ) → slice_listed len d budget room ≡ []
unfolding slice_listed
slice-none len d budget r room =
    ap (λ (x : List Group). cond (is_done (slice_verdict len d budget room)) x []) r.groups ∙ listed-none (is_done (slice_verdict len d budget room))
