-- What it says of a volume that the refusals 1 to 7 let it pass: it is open, and it has no fault. Assumes nothing.
use Prim.Native.Nat.{ℕ, ◌≤◌}
use mathlib.Core.Path.{◌≡◌, refl, sym, ap, ◌∙◌}
use mathlib.Core.Bool.{Bool, true, false, cond}
use mathlib.Core.List.{List}
use native.Mathlib.Omega.{arith}
use lib.Dec.{eqb}
use lib.ListN.{length}
use borrow.Author.Tests.{eqb-true}
use Rattle.model.specs.declared.Geometry.{Geometry}
use Rattle.std.specs.Prelude.{Some, None}
use Rattle.model.specs.Answers.{Soundness, Sound, Faulty, Verdict}
use Rattle.model.specs.Search.{Lowest, first}
use Rattle.model.specs.Geometry.{extent_sectors, superblock_at}
use Rattle.model.specs.Disk.{Disk, view}
use Rattle.model.specs.Superblock.{geometry_in, state_on}
use Rattle.model.specs.Catalogue.{catalogue_of}
use Rattle.model.specs.Faults.{fault21, fault22, fault23, fault24, fault25, fault26, or_else, first_fault}
use Rattle.model.specs.Refusals.{refusal, state_number, fault_verdict, image_verdict, sound_verdict, judged}
use Rattle.model.specs.Lent.{lent_length}
use Rattle.model.specs.Opened.{Opened, volume_length, Readable, Accepted}
use Rattle.laws.proofs.Refusals.{image-done, own-done, readable, readable-length, opened, lent-readable}

-- where the verdict of two is 0, so are both
both : (v w : Verdict) (b : Bool) → eqb v.number 0 ≡ b → (cond b w v).number ≡ 0 → (v.number ≡ 0) × (w.number ≡ 0)
both v w true e h = (eqb-true v.number 0 e, h)
both v w false e h = absurd (let z : eqb v.number 0 ≡ true = ap (λ (n : ℕ). eqb n 0) h in (let y : ◌≡◌ {A = ℕ} 0 1 = cc in omega arith))

pub judged-image : (len : ℕ) (d : Disk) → (judged len d).number ≡ 0 → (image_verdict len d).number ≡ 0
unfolding judged
judged-image len d h = (both (image_verdict len d) (sound_verdict d) _ refl h).0

no-fault : (s : Soundness) → (fault_verdict s).number ≡ 0 → s ≡ Sound
no-fault Sound h = refl
no-fault (Faulty n p) h = let z : ◌≡◌ {A = ℕ} 7 0 = h in absurd (omega arith)

pub judged-sound : (len : ℕ) (d : Disk) → (judged len d).number ≡ 0 → first_fault d ≡ Sound
unfolding judged sound_verdict
judged-sound len d h =
    no-fault (first_fault d) (both (refusal (state_number (state_on d))) (fault_verdict (first_fault d)) _ refl (both (image_verdict len d) (sound_verdict d) _ refl h).1).1

-- what 1 to 3 let pass is judged by its soundness, whatever its length
pub judged-done : (len : ℕ) (d : Disk) → (image_verdict len d).number ≡ 0 → judged len d ≡ sound_verdict d
unfolding judged
judged-done len d h = rw (image-done len d h) refl

pub judged-own : (len : ℕ) (d : Disk) → (judged len d).number ≡ 0 → judged (volume_length d) d ≡ judged len d
judged-own len d h =
    let i = judged-image len d h in
    judged-done (volume_length d) d (ap (λ (v : Verdict). v.number) (own-done len d i)) ∙ sym (judged-done len d i)

-- an image, and lent sectors (T-11), that 1 to 7 let pass
pub accepted : (img : List ℕ) → (judged (length img) (view img)).number ≡ 0 → Accepted img
accepted img h =
    record {
      held = (readable img (judged-image (length img) (view img) h)).held;
      verdict = ap (λ (v : Verdict). v.number) (judged-own (length img) (view img) h) ∙ h;
    }

pub lent-accepted : (front : List ℕ) (count : ℕ) → (judged (lent_length (length front) count (view front)) (view front)).number ≡ 0 → Accepted front
lent-accepted front count h =
    let len = lent_length (length front) count (view front) in
    record {
      held = (lent-readable front count (judged-image len (view front) h)).held;
      verdict = ap (λ (v : Verdict). v.number) (judged-own len (view front) h) ∙ h;
    }

pub accepted-readable : (img : List ℕ) → Accepted img → Readable img
accepted-readable img a = record { held = a.held; verdict = judged-image (volume_length (view img)) (view img) a.verdict }

pub accepted-opened : (img : List ℕ) (g : Geometry) → g ≡ geometry_in (view img superblock_at) → extent_sectors g ≤ 4294967295 → Accepted img → Opened img g
accepted-opened img g e s a = opened img g e s (accepted-readable img a)

pub judged-opened : (img : List ℕ) (g : Geometry) → g ≡ geometry_in (view img superblock_at) → extent_sectors g ≤ 4294967295
    → (judged (length img) (view img)).number ≡ 0 → Opened img g
judged-opened img g e s h = accepted-opened img g e s (accepted img h)

pub accepted-length : (img : List ℕ) → Accepted img → 512 ≤ length img
accepted-length img a = readable-length img (accepted-readable img a)

-- a volume without a fault has none of 21, none of 22 and so on
skip : (n : ℕ) (p : Lowest) (later : Soundness) → or_else n p later ≡ Sound → (p ≡ None) × (later ≡ Sound)
skip n (Some i) later h = let z : ◌≡◌ {A = ℕ} 0 1 = cc in absurd (omega arith)
skip n None later h = (refl, h)

abbrev files : Disk → ℕ
files d = (geometry_in (d superblock_at)).files

abbrev from23 : Disk → Soundness
unfolding catalogue_of
from23 d =
    or_else 23 (first (fault23 (catalogue_of d)) (files d)) (or_else 24 (first (fault24 (catalogue_of d)) (files d))
    (or_else 25 (first (fault25 (catalogue_of d)) (catalogue_of d).geometry.extents) (or_else 26 (first (fault26 (catalogue_of d)) (files d)) Sound)))

pub sound-22 : (d : Disk) → first_fault d ≡ Sound → first (fault22 (catalogue_of d)) (geometry_in (d superblock_at)).files ≡ None
unfolding first_fault catalogue_of
sound-22 d h = (skip 22 (first (fault22 (catalogue_of d)) (files d)) (from23 d) (skip 21 (first (fault21 d) (files d)) (or_else 22 (first (fault22 (catalogue_of d)) (files d)) (from23 d)) h).1).0
