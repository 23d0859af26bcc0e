-- HOW MANY TARGETS A SET OF RENAMES HAS, and when it is refused for their count: only where K x S is below T + 17, or fewer than K extents are free.
-- Assumes nothing.
use Prim.Native.Nat.{ℕ, zero, suc, ◌+◌, ◌*◌, ◌/◌, ◌^◌, ◌≤◌, ◌<◌}
use mathlib.Core.Path.{◌≡◌, refl, sym, ap, ◌∙◌, subst}
use mathlib.Core.Logic.{◌≢◌, inl, inr, ⊎_elim, ◌↔◌}
use mathlib.Core.Bool.{Bool, true, false, cond, ◌&&◌}
use mathlib.Core.List.{List, [], ◌∷◌}
use mathlib.Core.Option.{none, some}
use native.Mathlib.Omega.{arith}
use lib.Dec.{ltb}
use lib.ListN.{length}
use borrow.Author.Tests.{eqb-true, eqb-false, ltb-true, ltb-false, lt-ltb}
use Rattle.model.specs.declared.Geometry.{Geometry}
use Rattle.model.specs.Answers.{Verdict}
use Rattle.model.specs.Search.{any_below, concatenated}
use Rattle.model.specs.Geometry.{superblock_at, extent_sectors, table_sectors, data_at}
use Rattle.model.specs.Disk.{Disk, view}
use Rattle.model.specs.Superblock.{geometry_in}
use Rattle.model.specs.Catalogue.{catalogue_of, lacks_reserve}
use Rattle.model.specs.Refusals.{verdict_of, and_then, is_done, refusal, done}
use Rattle.model.specs.WriteList.{Plan, groups_for, list_length, record_size, record_count, is_planned, plan_conditions, decided}
use Rattle.model.specs.Summary.{check_answer}
use Rattle.model.specs.Rename.{rename_conditions}
use Rattle.model.specs.RenameSet.{bad_set, renames_conditions, is_touched, set_targets, set_planned, rename_set_conditions, rename_set_decision, rename_set_answer}
use Rattle.model.specs.Opened.{Bounded}
use Rattle.laws.proofs.Booleans.{and_left, and_right, and_yes}
use Rattle.laws.proofs.Count.{count_below-none, count_below-any_below}
use Rattle.laws.proofs.Judged.{judged-opened}
use Rattle.laws.proofs.WriteList.{plan-needs}
use Rattle.laws.proofs.Renames.{touched-few, length-set}
use Rattle.laws.proofs.RenameSet.{good-set}
use Rattle.safety.specs.Room.{geometry_on}
use Rattle.safety.specs.RenameSet.{reserve_sectors, target_count, NoRoomFor, Counted}
use Rattle.safety.proofs.RenameSet.{set-verdict}
use Rattle.safety.proofs.NoRoom.{never, not-given, never-append, last-13, own_is, frozen-on}

-- a set is refused with no number that its renames don't give
pub renames-never : (m : ℕ) → never m ((false, refusal 8) ∷ (false, refusal 8) ∷ (false, refusal 9) ∷ []) ≡ true → (d : Disk) (names lengths : List ℕ) (time n : ℕ)
    → never m (renames_conditions d names lengths time n) ≡ true
unfolding renames_conditions concatenated rename_conditions
renames-never m h d names lengths time zero = refl
renames-never m h d names lengths time (suc n) = never-append m (renames_conditions d names lengths time n) _ (renames-never m h d names lengths time n) h

record-most : (k : ℕ) → k ≤ 529 → record_count 0 k ≤ 1081
record-most k h = omega arith

module _ (img names lengths : List ℕ) (time room : ℕ) (ok : (check_answer (length img) (view img)).verdict.number ≡ 0)
    (narrow : extent_sectors (geometry_in (view img superblock_at)) < 2 ^ 32) (fitting : bad_set names lengths ≡ false) where
  abbrev d : Disk
  d = view img

  abbrev n : ℕ
  n = length lengths / 2

  abbrev g : Geometry
  g = geometry_in (view img superblock_at)

  abbrev p : Plan
  p = record { data_sectors = []; targets = set_targets (view img) names lengths time (length lengths / 2) }

  bounded : Bounded (geometry_on img)
  unfolding check_answer
  bounded = (judged-opened img g refl (omega arith) ok).bounded

  few : target_count img names lengths time ≤ table_sectors (geometry_on img) + 17
  few =
      let h = touched-few d names lengths time (omega (arith, bounded.files-low)) n in
      omega (arith, length-set d names lengths time n, (good-set names lengths fitting).few)

  most : target_count img names lengths time ≤ 529
  most = omega (arith, few, bounded.extents-high)

  plan-short : (a b : Bool) → list_length (groups_for d (cond a (cond b (some p) none) none)) ≤ 1081 * record_size
  unfolding groups_for
  plan-short true true =
      let q : record_count 0 (target_count img names lengths time) ≤ 1081 = record-most (target_count img names lengths time) most in
      let z : list_length (groups_for d (some p)) ≡ record_count 0 (target_count img names lengths time) * record_size = plan-needs d p in
      subst (λ k. k ≤ 1081 * record_size) (sym z) (omega arith)
  plan-short true false = omega arith
  plan-short false b = omega arith

  -- ---- 13

  abbrev too_many : Bool
  too_many = ltb (reserve_sectors img) (target_count img names lengths time)

  abbrev own : Verdict
  own = verdict_of (renames_conditions (view img) names lengths time (length lengths / 2))

  -- a plan where there is a target
  planned-is : (b : Bool) → any_below (is_touched d names lengths time n) (data_at g) ≡ b → is_planned (cond b (some p) none) ≡ ltb 0 (target_count img names lengths time)
  planned-is true e =
      sym (lt-ltb 0 (target_count img names lengths time)
      (subst (λ k. 0 < k) (sym (length-set d names lengths time n)) (count_below-any_below (is_touched d names lengths time n) (data_at g) e)))
  planned-is false e =
      sym (ap (ltb 0) (length-set d names lengths time n ∙ count_below-none (is_touched d names lengths time n) (data_at g) e))

  planned : is_planned (set_planned d names lengths time n) ≡ ltb 0 (target_count img names lengths time)
  unfolding set_planned catalogue_of
  planned = planned-is (any_below (is_touched d names lengths time n) (data_at g)) refl

  abbrev number : ℕ
  number = (rename_set_answer (length img) (view img) names lengths time room).verdict.number

  abbrev frozen_one : Bool
  frozen_one = is_planned (set_planned d names lengths time n) && lacks_reserve (catalogue_of d)

  abbrev short : Bool
  short = ltb room (list_length (groups_for d (set_planned d names lengths time n)))

  number_is : number ≡ (and_then (and_then own (cond too_many (refusal 13) done)) (verdict_of ((frozen_one, refusal 13) ∷ (short, refusal 14) ∷ []))).number
  unfolding check_answer rename_set_answer rename_set_decision plan_conditions
  number_is =
      ap (λ (v : Verdict). v.number) (own_is img ok (rename_set_conditions d names lengths time) (set_planned d names lengths time n) room)
      ∙ ap (λ (v : Verdict). (and_then v (verdict_of ((frozen_one, refusal 13) ∷ (short, refusal 14) ∷ []))).number)
      (set-verdict d names lengths time ∙ ap (λ (b : Bool). cond b (refusal 8) (and_then own (cond too_many (refusal 13) done))) fitting)

  -- by the verdict of the renames and by the count
  abbrev Exactly : Verdict → Type 0
  Exactly v = ((and_then v (verdict_of ((frozen_one, refusal 13) ∷ (short, refusal 14) ∷ []))).number ≡ 13) ↔ ((own.number ≡ 0) × NoRoomFor img names lengths time)

  exactly : (a b : Bool) → is_done own ≡ a → too_many ≡ b → Exactly (cond a (cond b (refusal 13) done) own)
  exactly true true e f = (λ z. (eqb-true own.number 0 e, inl (ltb-true (reserve_sectors img) (target_count img names lengths time) f)), λ h. refl)
  exactly true false e f =
      let count = target_count img names lengths time in
      let plans = is_planned (set_planned d names lengths time n) in
      let frozen = lacks_reserve (catalogue_of d) in
      let q = last-13 done frozen_one short (λ z. let y : ◌≡◌ {A = ℕ} 0 13 = z in omega arith) in
      let u : count ≤ reserve_sectors img = ltb-false (reserve_sectors img) count f in (
        λ z.
            let h : frozen_one ≡ true = (q.0 z).1 in
            (eqb-true own.number 0 e, inr (ltb-true 0 count (sym planned ∙ and_left plans frozen h), (frozen-on img).0 (and_right plans frozen h))),
        λ h. q.1 (refl, ⊎_elim (λ (l : reserve_sectors img < count). absurd (omega arith)) (λ y. and_yes plans frozen (planned ∙ lt-ltb 0 count y.0) ((frozen-on img).1 y.1)) h.1),
      )
  exactly false b e f =
      let ne : own.number ≢ 13 = not-given 13 (omega arith) (renames_conditions d names lengths time n) (renames-never 13 refl d names lengths time n) in
      let q = last-13 own frozen_one short ne in
      (λ z. absurd (eqb-false own.number 0 e (q.0 z).0), λ h. absurd (eqb-false own.number 0 e h.0))

  thirteen : (number ≡ 13) ↔ ((own.number ≡ 0) × NoRoomFor img names lengths time)
  thirteen =
      let q = exactly (is_done own) too_many refl refl in
      (λ z. q.0 (sym number_is ∙ z), λ h. number_is ∙ q.1 h)

  -- COUNTED
  pub set-counted : Counted img names lengths time room
  unfolding rename_set_answer rename_set_decision decided set_planned
  set-counted = record {
    targets = few;
    most = most;
    records = plan-short (is_done (rename_set_decision (length img) d names lengths time room).verdict) (any_below (is_touched d names lengths time n) (data_at (catalogue_of d).geometry));
    thirteen = thirteen;
    needs = λ z thawed. ⊎_elim (λ l. omega (arith, few)) (λ y. absurd (thawed y.1)) (thirteen.0 z).1;
  }
