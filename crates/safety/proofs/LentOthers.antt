-- T-11: the check with scratch and repair in their lent forms are the calls. Assumes nothing.
use Prim.Native.Nat.{ℕ}
use mathlib.Core.Path.{◌≡◌, refl, ap, ap₂, ◌∙◌}
use mathlib.Core.Bool.{cond}
use mathlib.Core.List.{List, []}
use mathlib.Core.Option.{Option, none, some}
use lib.Dec.{ltb}
use lib.ListN.{length}
use Rattle.model.specs.Answers.{Soundness, Verdict}
use Rattle.model.specs.declared.State.{State}
use Rattle.model.specs.Search.{any_below}
use Rattle.model.specs.Geometry.{superblock_at}
use Rattle.model.specs.Disk.{Disk, view}
use Rattle.model.specs.Superblock.{geometry_in, journal_length, state_of, state_on}
use Rattle.model.specs.Catalogue.{Catalogue, catalogue_of}
use Rattle.model.specs.Faults.{fault21, faults_in, first_fault}
use Rattle.model.specs.Refusals.{Conditions, verdict_of, refusal, and_then, given, is_done, image_verdict, state_number, fault_verdict}
use Rattle.model.specs.WriteList.{Record, Plan, Group, groups_for, closed, emit, list_length, plan_conditions, Decision, list_after}
use Rattle.model.specs.Scratch.{scratch_numbers, sound_verdict_with, judged_with, check_with_answer}
use Rattle.model.specs.Repair.{is_stray, strays, repaired, repair_plan, repair_planned, repair_verdict, repair_decision, done_but, not_repaired, repair_answer, repair_list}
use Rattle.safety.specs.LentForms.{Lends, goes_by, LentOthers}
use Rattle.safety.proofs.LentFront.{Agrees, same-superblock, same-catalogue, same-state, same-faults-in, same-fault, same-groups, lent-agrees, lent-image}
use Rattle.safety.proofs.LentCalls.{same-freed, same-conditions}

module _ (len len' : ℕ) (d d' : Disk) (same : Agrees d d') (image : image_verdict len' d' ≡ image_verdict len d) where
  abbrev c : Catalogue
  c = catalogue_of d

  same-scratch : (n : ℕ) → check_with_answer len' d' n ≡ check_with_answer len d n
  unfolding check_with_answer judged_with sound_verdict_with
  same-scratch n =
      ap₂ (λ (s : List ℕ) (f : Soundness).
      record {
        verdict =
            and_then (image_verdict len' d')
            (and_then (refusal (state_number (state_of (journal_length s)))) (cond (ltb n (scratch_numbers (geometry_in s))) (refusal 14) (fault_verdict f)));
      }) (same-superblock d d' same) (same-fault d d' same)
      ∙ ap (λ (v : Verdict).
      record { verdict = and_then v (and_then (refusal (state_number (state_on d))) (cond (ltb n (scratch_numbers (geometry_in (d superblock_at)))) (refusal 14) (fault_verdict (first_fault d)))) })
      image

  -- ---- repair

  same-strays : repair_plan c d' ≡ repair_plan c d
  unfolding repair_plan
  same-strays = ap (λ (rs : List Record). record { data_sectors = []; targets = rs }) (same-freed d d' same (is_stray c))

  same-repair-planned : repair_planned (catalogue_of d') d' ≡ repair_planned (catalogue_of d) d
  unfolding repair_planned
  same-repair-planned =
      ap (λ (c : Catalogue). repair_planned c d') (same-catalogue d d' same)
      ∙ ap (λ (p : Plan). cond (any_below (is_stray c) c.geometry.extents) (some p) none) same-strays

  same-repair-verdict : (room : ℕ) → repair_verdict len' d' room ≡ repair_verdict len d room
  unfolding repair_verdict
  same-repair-verdict room =
      ap₂ (λ (v : Verdict) (s : State). and_then v (and_then (refusal (state_number s)) (verdict_of (plan_conditions d' (repair_planned (catalogue_of d') d') room))))
      image (same-state d d' same)
      ∙ ap (λ (k : Conditions). and_then (image_verdict len d) (and_then (refusal (state_number (state_on d))) (verdict_of k)))
      (ap (λ (p : Option Plan). plan_conditions d' p room) same-repair-planned ∙ same-conditions len len' d d' same image (repair_planned c d) room)

  same-repair-decision : (room : ℕ) → repair_decision len' d' room ≡ repair_decision len d room
  unfolding repair_decision
  same-repair-decision room =
      ap₂ (λ (v : Verdict) (p : Option Plan). record { verdict = v; plan = cond (is_done v) p none }) (same-repair-verdict room) same-repair-planned

  -- the first fault that remains
  same-remains : faults_in (fault21 d') (repaired (catalogue_of d')) ≡ faults_in (fault21 d) (repaired (catalogue_of d))
  unfolding repaired catalogue_of
  same-remains = ap (λ (c : Catalogue). faults_in (fault21 d') (repaired c)) (same-catalogue d d' same) ∙ same-faults-in d d' same (repaired c) refl

  same-repair : (room : ℕ) → repair_answer len' d' room ≡ repair_answer len d room
  unfolding repair_answer
  same-repair room =
      let x = repair_decision len d room in
      ap (λ (x : Decision).
      given x.verdict
      (record {
        verdict = done_but (faults_in (fault21 d') (repaired (catalogue_of d')));
        freed = strays (catalogue_of d');
        length = list_length (groups_for d' x.plan);
      }) not_repaired) (same-repair-decision room)
      ∙ ap₂ (λ (f : Soundness) (n : ℕ). given x.verdict (record { verdict = done_but f; freed = n; length = list_length (groups_for d' x.plan) }) not_repaired)
      same-remains (ap strays (same-catalogue d d' same))
      ∙ ap (λ (gs : List Group). given x.verdict (record { verdict = done_but (faults_in (fault21 d) (repaired c)); freed = strays c; length = list_length gs }) not_repaired)
      (same-groups d d' same x.plan)

  same-repair-list : (l : List ℕ) → repair_list len' d' l ≡ repair_list len d l
  unfolding repair_list
  same-repair-list l =
      ap (λ (x : Decision). list_after d' x l) (same-repair-decision (length l))
      ∙ ap (λ (gs : List Group). emit l 0 (closed gs)) (same-groups d d' same (repair_decision len d (length l)).plan)

-- CHECK WITH SCRATCH AND REPAIR
module _ (img front : List ℕ) (count : ℕ) (lends : Lends img front count) where
  abbrev agree : Agrees (view img) (view front)
  agree = lent-agrees img front count lends

  abbrev image : image_verdict (goes_by front count) (view front) ≡ image_verdict (length img) (view img)
  image = lent-image img front count lends

  pub lent-others : LentOthers img front count
  lent-others = record {
    scratch = same-scratch (length img) (goes_by front count) (view img) (view front) agree image;
    repairs = same-repair (length img) (goes_by front count) (view img) (view front) agree image;
    repair-list = same-repair-list (length img) (goes_by front count) (view img) (view front) agree image;
  }
