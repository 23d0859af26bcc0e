-- What a rename comes to, test by test. Assumes nothing.
use Prim.Native.Nat.{ℕ, ◌<◌}
use mathlib.Core.Path.{◌≡◌, refl, sym, ap, ◌∙◌}
use mathlib.Core.Bool.{Bool, true, false, cond, not, ◌||◌}
use mathlib.Core.List.{List}
use mathlib.Core.Option.{Option, some}
use native.Mathlib.Omega.{arith}
use lib.ListN.{length}
use Rattle.model.specs.Answers.{Changed}
use Rattle.model.specs.declared.Geometry.{Geometry}
use Rattle.std.specs.Prelude.{Some, None}
use Rattle.model.specs.Search.{Lowest, is_at, index_of, equal_bytes}
use Rattle.model.specs.Disk.{view}
use Rattle.model.specs.Edition.{bad_time}
use Rattle.model.specs.Entry.{bad_name, bad_new_name}
use Rattle.model.specs.Catalogue.{Catalogue, catalogue_of, file_named}
use Rattle.model.specs.Refusals.{Conditions, verdict_of, refusal, done, judged}
use Rattle.model.specs.WriteList.{Plan}
use Rattle.model.specs.Rename.{rename_conditions, rename_planned, rename_decision, rename_answer, rename_list}
use Rattle.model.specs.Opened.{Opened, volume_length, in_volume}
use Rattle.laws.proofs.Named.{edition_on, named-at}
use Rattle.commit.proofs.Decided.{same-refusal, same-refusals, refused-by-own, done-with-nothing, decided-fitted}
use Rattle.rename.specs.Renaming.{plan_for, RenamesTo}

-- ---- where the new name is

pub place-below : {img : List ℕ} {g : Geometry} (place : Lowest) (name : List ℕ) → Opened img g → place ≡ file_named (catalogue_of (view img)) name → index_of place < g.files
place-below None name o e = omega (arith, o.bounded.files-low)
place-below {img} {g} (Some j) name o e = let low = (named-at (view img) name j e).0 in let f = ap (λ (x : Geometry). x.files) o.is in omega arith

-- ---- rename's answer and list, test by test

abbrev pub Comes : List ℕ → List ℕ → List ℕ → List ℕ → ℕ → Changed → List ℕ → Type 0
Comes img list old new time answer after =
    (answer ≡ in_volume rename_answer img old new time (length list)) × (after ≡ in_volume rename_list img old new time list)

module _ (img list old new : List ℕ) (time : ℕ) (ok : (judged (volume_length (view img)) (view img)).number ≡ 0) where
  abbrev c : Catalogue
  c = catalogue_of (view img)

  abbrev cs : Conditions
  cs = rename_conditions c old new time

  abbrev planned : Option Plan
  planned = rename_planned c (view img) old new time

  abbrev is_bad : Bool
  is_bad = bad_time (edition_on (view img)) time || bad_name (edition_on (view img)) old || bad_new_name (edition_on (view img)) new

  own-tests : verdict_of cs ≡ cond is_bad (refusal 8) (cond (not (is_at (file_named c old))) (refusal 9) done)
  unfolding verdict_of rename_conditions catalogue_of
  own-tests =
      let e = edition_on (view img) in
      let rest = cond (not (is_at (file_named c old))) (refusal 9) done in
      same-refusals (bad_time e time) (bad_name e old) (bad_new_name e new) (refusal 8) rest ∙ same-refusal (bad_time e time || bad_name e old) (bad_new_name e new) (refusal 8) rest

  bad : is_bad ≡ true → refusal 8 ≡ verdict_of cs
  bad h = sym (own-tests ∙ rw h)

  missing : is_bad ≡ false → file_named c old ≡ None → refusal 9 ≡ verdict_of cs
  missing h n = sym (own-tests ∙ rw (h, n))

  pub rename-bad : is_bad ≡ true → Comes img list old new time (record { verdict = refusal 8; length = 0 }) list
  unfolding rename_answer rename_list rename_decision
  rename-bad h = refused-by-own (volume_length (view img)) (view img) cs planned list ok (refusal 8) (bad h) (λ (e : ◌≡◌ {A = ℕ} 8 0). omega arith)

  pub rename-missing : is_bad ≡ false → file_named c old ≡ None → Comes img list old new time (record { verdict = refusal 9; length = 0 }) list
  unfolding rename_answer rename_list rename_decision
  rename-missing h n = refused-by-own (volume_length (view img)) (view img) cs planned list ok (refusal 9) (missing h n) (λ (e : ◌≡◌ {A = ℕ} 9 0). omega arith)

  module _ (i : ℕ) (good : is_bad ≡ false) (found : file_named c old ≡ Some i) where
    own : done ≡ verdict_of cs
    own = sym (own-tests ∙ rw (good, found))

    pub rename-itself : equal_bytes old new ≡ true → Comes img list old new time (record { verdict = done; length = 0 }) list
    unfolding rename_answer rename_list rename_decision rename_planned
    rename-itself e = rw e (done-with-nothing (volume_length (view img)) (view img) cs list ok done own refl)

    pub rename-other : {answer : Changed} {m : List ℕ} → equal_bytes old new ≡ false → RenamesTo img i new time list answer m → Comes img list old new time answer m
    unfolding rename_answer rename_list rename_decision rename_planned
    rename-other e r =
        let plan = plan_for img (index_of (file_named c old)) (file_named c new) new time in
        rw (e, decided-fitted (volume_length (view img)) (view img) cs (some plan) (length list) ok own, found) r
