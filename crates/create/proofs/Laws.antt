-- Laws of create: what its searches and conditions say, and its decision. Assumes nothing.
use Prim.Native.Nat.{ℕ, ◌-◌, ◌*◌, ◌≤◌, ◌<◌}
use mathlib.Core.Path.{◌≡◌, refl, ap, subst, ◌∙◌}
use mathlib.Core.Bool.{Bool, true, false, cond, not, ◌||◌}
use mathlib.Core.List.{List}
use mathlib.Core.Option.{some}
use native.Mathlib.Omega.{arith}
use lib.Dec.{eqb}
use lib.ListN.{length}
use borrow.Author.Tests.{eqb-false}
use Rattle.model.specs.declared.Geometry.{Geometry}
use Rattle.std.specs.Prelude.{Some}
use Rattle.model.specs.Answers.{Verdict, Changed}
use Rattle.model.specs.Bytes.{number_in}
use Rattle.model.specs.Search.{any_below, is_at}
use Rattle.model.specs.Geometry.{superblock_at, root_at}
use Rattle.model.specs.Disk.{Disk, view}
use Rattle.model.specs.Superblock.{geometry_in}
use Rattle.model.specs.Root.{root_field, root_in}
use Rattle.model.specs.Edition.{layout_of, bad_time}
use Rattle.model.specs.Entry.{bad_new_name}
use Rattle.model.specs.Catalogue.{Catalogue, catalogue_of, is_free, file_named, free_entry, has_id}
use Rattle.model.specs.Refusals.{Conditions, verdict_of, refusal, done, judged}
use Rattle.model.specs.WriteList.{Plan, record_size, groups_for, list_length}
use Rattle.model.specs.Create.{create_conditions, create_plan, create_count, create_decision, create_answer, create_list}
use Rattle.model.specs.Opened.{volume_length, in_volume}
use Rattle.model.specs.Results.{verdict_for}
use Rattle.model.specs.declared.Refusal.{Refusal}
use Rattle.laws.proofs.Booleans.{or-none}
use Rattle.laws.proofs.Search.{Hit, scan-hit}
use Rattle.laws.proofs.Entry.{new-name-good}
use Rattle.laws.proofs.Named.{short-name}
use Rattle.laws.proofs.WriteList.{plan-needs}
use Rattle.laws.proofs.Results.{refused}
use Rattle.commit.specs.Decided.{fitted, ComesTo}
use Rattle.commit.proofs.Decided.{edition-is, same-refusal, refused-by-own, decided-fitted}

-- ---- what the searches and conditions say

pub root-on : (d : Disk) → (catalogue_of d).root.id ≡ number_in (d root_at) root_field.id
unfolding catalogue_of root_in
root-on d = refl

pub free-below : (d : Disk) (i : ℕ) → free_entry (catalogue_of d) ≡ Some i → i < (geometry_in (d superblock_at)).files
unfolding free_entry catalogue_of
free-below d i e =
    let n = (geometry_in (d superblock_at)).files in
    let p : ℕ → Bool = λ k. is_free ((catalogue_of d).entries k) in
    let h = subst (Hit p (n - 0) 0) e (scan-hit p (n - 0) 0) in
    omega (arith, h.1)

-- the code's three tests
abbrev is_bad : ℕ → List ℕ → ℕ → ℕ → Bool
is_bad edition name id time = bad_time edition time || (bad_new_name edition name || eqb id 0)

abbrev rest_by : Catalogue → List ℕ → ℕ → Verdict
rest_by c name id =
    cond (is_at (file_named c name) || any_below (λ i. has_id id (c.entries i)) c.geometry.files || eqb id c.root.id) (refusal 10)
    (cond (not (is_at (free_entry c))) (refusal 11) done)

own-tests : (c : Catalogue) (name : List ℕ) (id time : ℕ)
    → verdict_of (create_conditions c name id time) ≡ cond (is_bad c.geometry.edition name id time) (refusal 8) (rest_by c name id)
unfolding create_conditions verdict_of
own-tests c name id time =
    same-refusal (bad_time c.geometry.edition time) (bad_new_name c.geometry.edition name || eqb id 0) (refusal 8) (rest_by c name id)

pub own-by : (img : List ℕ) (g : Geometry) → g ≡ geometry_in (view img superblock_at) → (name : List ℕ) (id time : ℕ)
    → verdict_of (create_conditions (catalogue_of (view img)) name id time) ≡ cond (is_bad g.edition name id time) (refusal 8) (rest_by (catalogue_of (view img)) name id)
own-by img g is name id time =
    own-tests (catalogue_of (view img)) name id time
    ∙ ap (λ (e : ℕ). cond (is_bad e name id time) (refusal 8) (rest_by (catalogue_of (view img)) name id)) (edition-is img g is)

pub short-good : (edition : ℕ) (name : List ℕ) (id time : ℕ) → is_bad edition name id time ≡ false → length name ≤ (layout_of edition).longest_name
short-good edition name id time h =
    let good = (or-none (bad_time edition time) (bad_new_name edition name || eqb id 0) h).1 in
    short-name edition name (new-name-good edition name (or-none (bad_new_name edition name) (eqb id 0) good).0)

-- of a create that its own conditions let pass
pub good-name : (img : List ℕ) (g : Geometry) → g ≡ geometry_in (view img superblock_at) → (name : List ℕ) (id time : ℕ)
    → done ≡ verdict_of (create_conditions (catalogue_of (view img)) name id time) → length name ≤ (layout_of g.edition).longest_name
good-name img g is name id time own =
    short-good g.edition name id time (go (is_bad g.edition name id time) _ (ap (λ (v : Verdict). v.number) (own ∙ own-by img g is name id time)))
  where
    go : (b : Bool) (v : Verdict) → 0 ≡ (cond b (refusal 8) v).number → b ≡ false
    go true v e = let z : ◌≡◌ {A = ℕ} 0 8 = e in absurd (omega arith)
    go false v e = refl

-- ---- what it comes to

pub create-needs : (d : Disk) (name : List ℕ) (id mode time : ℕ)
    → list_length (groups_for d (some (create_plan (catalogue_of d) d name id mode time))) ≡ create_count * record_size
unfolding create_plan
create-needs d name id mode time = plan-needs d (create_plan (catalogue_of d) d name id mode time)

-- the two clauses of its promise
abbrev pub Comes : List ℕ → List ℕ → List ℕ → ℕ → ℕ → ℕ → Changed → List ℕ → Type 0
Comes img list name id mode time answer after =
    (answer ≡ in_volume create_answer img name id mode time (length list)) × (after ≡ in_volume create_list img name id mode time list)

module _ (img list name : List ℕ) (id mode time : ℕ) (ok : (judged (volume_length (view img)) (view img)).number ≡ 0) where
  abbrev cs : Conditions
  cs = create_conditions (catalogue_of (view img)) name id time

  abbrev plan : Plan
  plan = create_plan (catalogue_of (view img)) (view img) name id mode time

  -- its own conditions refuse, or they let pass
  pub create-refused : (e : Refusal) → verdict_for e ≡ verdict_of cs → Comes img list name id mode time (record { verdict = verdict_for e; length = 0 }) list
  unfolding create_answer create_list create_decision
  create-refused e own =
      refused-by-own (volume_length (view img)) (view img) cs (some plan) list ok (verdict_for e) own (eqb-false (verdict_for e).number 0 (refused e))

  pub create-passed : {answer : Changed} {m : List ℕ} → done ≡ verdict_of cs → ComesTo (view img) (fitted (view img) (some plan) (length list)) list answer m
      → Comes img list name id mode time answer m
  unfolding create_answer create_list create_decision
  create-passed own r = rw (decided-fitted (volume_length (view img)) (view img) cs (some plan) (length list) ok own) r
