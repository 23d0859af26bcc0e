-- What a delete comes to, test by test. Assumes nothing.
use Prim.Native.Nat.{ℕ}
use mathlib.Core.Path.{◌≡◌, sym, ◌∙◌}
use mathlib.Core.Bool.{Bool, true, false, cond, not, ◌||◌}
use mathlib.Core.List.{List}
use mathlib.Core.Option.{some}
use native.Mathlib.Omega.{arith}
use lib.ListN.{length}
use Rattle.model.specs.Answers.{Changed}
use Rattle.std.specs.Prelude.{Some, None}
use Rattle.model.specs.Search.{is_at, index_of}
use Rattle.model.specs.Disk.{view}
use Rattle.model.specs.Edition.{bad_time}
use Rattle.model.specs.Entry.{bad_name}
use Rattle.model.specs.Catalogue.{Catalogue, catalogue_of, file_named}
use Rattle.model.specs.Refusals.{Conditions, verdict_of, refusal, done, judged}
use Rattle.model.specs.WriteList.{Plan}
use Rattle.model.specs.Find.{name_conditions}
use Rattle.model.specs.Delete.{delete_plan, delete_conditions, delete_decision, delete_answer, delete_list}
use Rattle.model.specs.Opened.{volume_length, in_volume}
use Rattle.laws.proofs.Named.{edition_on}
use Rattle.commit.proofs.Decided.{same-refusal, refused-by-own, decided-fitted}
use Rattle.delete.specs.Deleting.{DeletesTo}

abbrev pub Comes : List ℕ → List ℕ → List ℕ → ℕ → Changed → List ℕ → Type 0
Comes img list name time answer after =
    (answer ≡ in_volume delete_answer img name time (length list)) × (after ≡ in_volume delete_list img name time list)

module _ (img list name : List ℕ) (time : ℕ) (ok : (judged (volume_length (view img)) (view img)).number ≡ 0) where
  abbrev c : Catalogue
  c = catalogue_of (view img)

  abbrev cs : Conditions
  cs = delete_conditions c name time

  abbrev plan : Plan
  plan = delete_plan c (view img) (index_of (file_named c name)) time

  abbrev is_bad : Bool
  is_bad = bad_time (edition_on (view img)) time || bad_name (edition_on (view img)) name

  own-tests : verdict_of cs ≡ cond is_bad (refusal 8) (cond (not (is_at (file_named c name))) (refusal 9) done)
  unfolding verdict_of delete_conditions name_conditions catalogue_of
  own-tests =
      let edition = edition_on (view img) in
      same-refusal (bad_time edition time) (bad_name edition name) (refusal 8) (cond (not (is_at (file_named c name))) (refusal 9) done)

  bad : is_bad ≡ true → refusal 8 ≡ verdict_of cs
  bad h = sym (own-tests ∙ rw h)

  missing : is_bad ≡ false → file_named c name ≡ None → refusal 9 ≡ verdict_of cs
  missing h n = sym (own-tests ∙ rw (h, n))

  pub delete-bad : is_bad ≡ true → Comes img list name time (record { verdict = refusal 8; length = 0 }) list
  unfolding delete_answer delete_list delete_decision
  delete-bad h = refused-by-own (volume_length (view img)) (view img) cs (some plan) list ok (refusal 8) (bad h) (λ (e : ◌≡◌ {A = ℕ} 8 0). omega arith)

  pub delete-missing : is_bad ≡ false → file_named c name ≡ None → Comes img list name time (record { verdict = refusal 9; length = 0 }) list
  unfolding delete_answer delete_list delete_decision
  delete-missing h n =
      refused-by-own (volume_length (view img)) (view img) cs (some plan) list ok (refusal 9) (missing h n) (λ (e : ◌≡◌ {A = ℕ} 9 0). omega arith)

  module _ (i : ℕ) (good : is_bad ≡ false) (found : file_named c name ≡ Some i) where
    own : done ≡ verdict_of cs
    own = sym (own-tests ∙ rw (good, found))

    pub delete-found : {answer : Changed} {m : List ℕ} → DeletesTo img i time list answer m → Comes img list name time answer m
    unfolding delete_answer delete_list delete_decision
    delete-found r = rw (decided-fitted (volume_length (view img)) (view img) cs (some plan) (length list) ok own, found) r
