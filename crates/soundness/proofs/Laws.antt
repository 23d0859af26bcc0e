-- The first fault, one pass after the other. Assumes nothing.
use Prim.Native.Nat.{ℕ}
use mathlib.Core.Path.{◌≡◌, refl, sym, ap}
use mathlib.Core.Bool.{Bool, true, false, cond, true≢false}
use lib.Dec.{ltb}
use Rattle.model.specs.declared.Geometry.{Geometry}
use Rattle.std.specs.Prelude.{Some, None, Result, Ok, Err, IsErrAnd}
use Rattle.model.specs.declared.Fault.{Fault}
use Rattle.model.specs.declared.Refusal.{Refusal}
use Rattle.model.specs.Answers.{Soundness, Sound, Faulty, Verdict}
use Rattle.model.specs.Search.{Lowest, first}
use Rattle.model.specs.Disk.{Disk}
use Rattle.model.specs.Geometry.{superblock_at}
use Rattle.model.specs.Superblock.{geometry_in, state_on}
use Rattle.model.specs.Catalogue.{catalogue_of}
use Rattle.model.specs.Faults.{fault21, fault22, fault23, fault24, or_else, first_fault}
use Rattle.model.specs.declared.State.{State}
use Rattle.model.specs.Refusals.{fault_verdict, refusal, and_then, state_number, sound_verdict}
use Rattle.model.specs.Scratch.{is_judged, scratch_numbers, sound_verdict_with}
use Rattle.allocation.specs.Marks.{table_fault}
use Rattle.soundness.specs.Directory.{directory_fault}

-- the faults of the directory, then those of the table
pub in_order : (d : Disk) (g : Geometry) → g ≡ geometry_in (d 0) → first_fault d ≡ directory_fault g d (table_fault g d)
unfolding first_fault catalogue_of
in_order d g is = rw is

-- each pass finds its fault, or none and the next pass goes on
module _ (d : Disk) (g : Geometry) (later : Soundness) where
  pub at-21 : (i : ℕ) → first (fault21 d) g.files ≡ Some i → Faulty 21 i ≡ directory_fault g d later
  at-21 i e = rw e

  module _ (no21 : first (fault21 d) g.files ≡ None) where
    pub at-22 : (i : ℕ) → first (fault22 (catalogue_of d)) g.files ≡ Some i → Faulty 22 i ≡ directory_fault g d later
    at-22 i e = rw (no21, e)

    module _ (no22 : first (fault22 (catalogue_of d)) g.files ≡ None) where
      pub at-23 : (i : ℕ) → first (fault23 (catalogue_of d)) g.files ≡ Some i → Faulty 23 i ≡ directory_fault g d later
      at-23 i e = rw (no21, no22, e)

      module _ (no23 : first (fault23 (catalogue_of d)) g.files ≡ None) where
        pub at-24 : (i : ℕ) → first (fault24 (catalogue_of d)) g.files ≡ Some i → Faulty 24 i ≡ directory_fault g d later
        at-24 i e = rw (no21, no22, no23, e)

        pub from-25 : first (fault24 (catalogue_of d)) g.files ≡ None → later ≡ directory_fault g d later
        from-25 no24 = rw (no21, no22, no23, no24)

-- where the directory has a fault, that is the first; where it has none, the later one is
abbrev is_sound : Soundness → Bool
is_sound Sound = true
is_sound (Faulty n p) = false

or-found : (a b c e : Lowest) (later : Soundness) (n p : ℕ) → or_else 21 a (or_else 22 b (or_else 23 c (or_else 24 e Sound))) ≡ Faulty n p
    → Faulty n p ≡ or_else 21 a (or_else 22 b (or_else 23 c (or_else 24 e later)))
or-found (Some i) b c e later n p h = sym h
or-found None (Some i) c e later n p h = sym h
or-found None None (Some i) e later n p h = sym h
or-found None None None (Some i) later n p h = sym h
or-found None None None None later n p h = absurd (true≢false (ap is_sound h))

or-none : (a b c e : Lowest) (later : Soundness) → or_else 21 a (or_else 22 b (or_else 23 c (or_else 24 e Sound))) ≡ Sound
    → later ≡ or_else 21 a (or_else 22 b (or_else 23 c (or_else 24 e later)))
or-none (Some i) b c e later h = absurd (true≢false (sym (ap is_sound h)))
or-none None (Some i) c e later h = absurd (true≢false (sym (ap is_sound h)))
or-none None None (Some i) e later h = absurd (true≢false (sym (ap is_sound h)))
or-none None None None (Some i) later h = absurd (true≢false (sym (ap is_sound h)))
or-none None None None None later h = refl

module _ (d : Disk) (g : Geometry) (later : Soundness) where
  pub directory-found : (n p : ℕ) → directory_fault g d Sound ≡ Faulty n p → Faulty n p ≡ directory_fault g d later
  directory-found = or-found (first (fault21 d) g.files) (first (fault22 (catalogue_of d)) g.files) (first (fault23 (catalogue_of d)) g.files) (first (fault24 (catalogue_of d)) g.files) later

  pub directory-none : directory_fault g d Sound ≡ Sound → later ≡ directory_fault g d later
  directory-none = or-none (first (fault21 d) g.files) (first (fault22 (catalogue_of d)) g.files) (first (fault23 (catalogue_of d)) g.files) (first (fault24 (catalogue_of d)) g.files) later

-- a judgement of soundness is 0 or 7
pub fault-judged : (s : Soundness) → is_judged (fault_verdict s) ≡ true
fault-judged Sound = refl
fault-judged (Faulty n p) = refl

-- what a `?` that meets a fault hands on
pub unsound : {A : Type 0} {f : Fault} (r : Result A Refusal) → IsErrAnd r (λ q. q ≡ Refusal.Unsound f) → r ≡ Err (Refusal.Unsound f)
unsound (Ok x) h = absurd h
unsound (Err q) h = ap Err h

-- the refusals 4 to 7, and with lent scratch, once the state's verdict is known
module _ (d : Disk) (s : State) (v : Verdict) (is : s ≡ state_on d) (said : v ≡ refusal (state_number s)) where
  pub sound-by : sound_verdict d ≡ and_then v (fault_verdict (first_fault d))
  unfolding sound_verdict
  sound-by = rw (← is, said)

  pub sound-with-by : (n : ℕ) → sound_verdict_with d n
      ≡ and_then v (cond (ltb n (scratch_numbers (geometry_in (d superblock_at)))) (refusal 14) (fault_verdict (first_fault d)))
  unfolding sound_verdict_with
  sound-with-by n = rw (← is, said)
