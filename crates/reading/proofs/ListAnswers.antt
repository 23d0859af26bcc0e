-- What list answers and leaves in both buffers, test by test, by any length of the image. Assumes nothing.
use Prim.Native.Nat.{ℕ, ◌≤◌, ◌<◌}
use mathlib.Core.Path.{◌≡◌, sym, ap, ap₂, ◌∙◌, subst}
use mathlib.Core.Bool.{Bool, true, false, cond}
use mathlib.Core.List.{List}
use mathlib.Core.Option.{Option, none, some}
use native.Mathlib.Omega.{arith}
use lib.Dec.{ltb}
use lib.ListN.{length}
use borrow.Author.Tests.{eq-eqb, ne_eqb, le-leb, lt-leb}
use Rattle.model.specs.declared.Fields.{Fields}
use Rattle.model.specs.declared.Geometry.{Geometry}
use Rattle.model.specs.Answers.{Listed, Verdict}
use Rattle.model.specs.Bytes.{put}
use Rattle.model.specs.Geometry.{superblock_at, root_at, entry_at}
use Rattle.model.specs.Disk.{Disk, view}
use Rattle.model.specs.Superblock.{geometry_in}
use Rattle.model.specs.Edition.{bad_time}
use Rattle.model.specs.Root.{accessed_root_sector}
use Rattle.model.specs.Entry.{Entry, name_in, entry_in, fields_of, is_occupied}
use Rattle.model.specs.Catalogue.{catalogue_of, lacks_reserve, entry_of}
use Rattle.model.specs.Refusals.{Conditions, verdict_of, and_then, refusal, judged}
use Rattle.model.specs.WriteList.{Plan, one_target, emit, groups_for, closed, list_length, Decision, plan_conditions, decided, list_after}
use Rattle.model.specs.Listing.{list_conditions, list_plan, list_planned, list_decision, not_listed, listed_of, copied_of, list_answer, list_copies, list_output, listing_list}
use Rattle.laws.proofs.Bytes.{put-nil}
use Rattle.laws.proofs.Named.{free-is}
use Rattle.laws.proofs.WriteList.{emit-nil, plan-needs}
use Rattle.commit.proofs.Decided.{edition-is, decided-judged, decided-own}
use Rattle.reading.specs.Given.{access_size, lent_verdict, planned, entry_decision}
use Rattle.reading.proofs.Verdicts.{lent-last, access-needs, planned-refused, planned-done, files-is, entry-is}

-- the answer, the output and the list that a decision comes to
abbrev pub ListedAs : List ℕ → List ℕ → List ℕ → ℕ → Decision → Listed → List ℕ → List ℕ → Type 0
ListedAs img out list i x r o l = (r ≡ listed_of x (view img) i) × ((o ≡ put out 0 (copied_of x (view img) i)) × (l ≡ list_after (view img) x list))

refused_as : (img out list : List ℕ) (i : ℕ) (v : Verdict) → (v.number ≡ 0 → ⊥) → ListedAs img out list i (record { verdict = v; plan = none }) (not_listed v) out list
unfolding listed_of copied_of groups_for
refused_as img out list i v h = let t = ne_eqb v.number 0 h in (rw t, (rw t (sym (put-nil out 0)), sym (emit-nil list 0)))

list-needs : (d : Disk) (time : ℕ) → list_length (groups_for d (list_planned (catalogue_of d) d time)) ≡ access_size (lacks_reserve (catalogue_of d))
unfolding list_plan list_planned
list-needs d time = access-needs d (lacks_reserve (catalogue_of d)) (list_plan (catalogue_of d) d time) (plan-needs d (list_plan (catalogue_of d) d time))

-- ---- of an occupied entry

module _ (img out list : List ℕ) (i time : ℕ) (g : Geometry) (is : g ≡ geometry_in (view img superblock_at)) (low : i < g.files)
    (occupied : is_occupied (view img (entry_at i)) ≡ true) (fields : Fields) (f : fields ≡ fields_of (entry_in g.edition (view img (entry_at i))))
    (lacks : Bool) (s : lacks_reserve (catalogue_of (view img)) ≡ lacks)
    (v : Verdict) (e : v ≡ lent_verdict fields.name_length (length out) (access_size lacks) (length list)) where
  abbrev d : Disk
  d = view img

  abbrev x : Decision
  x = entry_decision d i time (length out) (length list)

  abbrev target : Option Plan
  target = list_planned (catalogue_of d) d time

  fields-on : fields ≡ fields_of (entry_of (catalogue_of d) i)
  fields-on = f ∙ ap fields_of (entry-is img g i is low occupied)

  needed-on : fields.name_length ≡ length (entry_of (catalogue_of d) i).name
  unfolding fields_of
  needed-on = ap (λ (y : Fields). y.name_length) fields-on

  decision-on : x ≡ planned v target
  decision-on =
      ap (λ (w : Verdict). planned w target)
      (sym (e ∙ ap₂ (λ (n : ℕ) (b : Bool). lent_verdict n (length out) (access_size b) (length list)) needed-on (sym s)))

  pub entry-refused : (v.number ≡ 0 → ⊥) → ListedAs img out list i x (not_listed v) out list
  entry-refused h = subst (λ (y : Decision). ListedAs img out list i y (not_listed v) out list) (sym (decision-on ∙ planned-refused v target h)) (refused_as img out list i v h)

  name-on : name_in g.edition (d (entry_at i)) ≡ (entry_of (catalogue_of d) i).name
  unfolding entry_in
  name-on = ap (λ (y : Entry). y.name) (entry-is img g i is low occupied)

  target-on : {a : List ℕ} → a ≡ accessed_root_sector g.edition time (d root_at) → cond lacks none (some (one_target root_at a)) ≡ target
  unfolding list_plan list_planned
  target-on q =
      ap₂ (λ (b : Bool) (c : List ℕ). cond b none (some (one_target root_at c))) (sym s)
      (q ∙ ap (λ (n : ℕ). accessed_root_sector n time (d root_at)) (sym (edition-is img g is)))

  pub entry_done : {o l a : List ℕ} → v.number ≡ 0 → o ≡ put out 0 (name_in g.edition (d (entry_at i))) → a ≡ accessed_root_sector g.edition time (d root_at)
      → l ≡ emit list 0 (closed (groups_for d (cond lacks none (some (one_target root_at a)))))
      → ListedAs img out list i x (record { verdict = v; fields = fields; length = access_size lacks }) o l
  unfolding listed_of copied_of
  entry_done {o} {l} {a} z p q m =
      let t = eq-eqb v.number 0 z in
      subst (λ (y : Decision). ListedAs img out list i y (record { verdict = v; fields = fields; length = access_size lacks }) o l) (sym (decision-on ∙ planned-done v target z)) (
        rw (t, list-needs d time, s, ← fields-on),
        (
          rw t (p ∙ ap (λ (n : List ℕ). put out 0 n) name-on),
          m ∙ ap (λ (y : Option Plan). emit list 0 (closed (groups_for d y))) (target-on q),
        ),
      )

-- ---- the call

abbrev pub Lists : ℕ → List ℕ → List ℕ → List ℕ → ℕ → ℕ → Listed → List ℕ → List ℕ → Type 0
Lists len img out list i time r o l =
    (r ≡ list_answer len (view img) i time (length out) (length list))
    × ((o ≡ list_output len (view img) i time out (length list)) × (l ≡ listing_list len (view img) i time (length out) list))

module _ (len : ℕ) (img out list : List ℕ) (i time : ℕ) where
  abbrev cs : Conditions
  cs = list_conditions (catalogue_of (view img)) i time (length out)

  abbrev plan : Option Plan
  plan = list_planned (catalogue_of (view img)) (view img) time

  -- what its own conditions and those of its plan come to
  abbrev own : Verdict
  own = and_then (verdict_of cs) (verdict_of (plan_conditions (view img) plan (length list)))

  list-as : {r : Listed} {o l : List ℕ} (y : Decision) → list_decision len (view img) i time (length out) (length list) ≡ y
      → ListedAs img out list i y r o l → Lists len img out list i time r o l
  unfolding list_answer list_output list_copies listing_list
  list-as y e h = rw e h

  -- by another length that is judged the same
  pub lists-same : {r : Listed} {o l : List ℕ} (len' : ℕ) → judged len' (view img) ≡ judged len (view img) → Lists len' img out list i time r o l
      → Lists len img out list i time r o l
  unfolding list_answer list_output list_copies listing_list list_decision decided
  lists-same len' e h = rw (← e) h

  -- 1 to 7
  pub list-judged : (v : Verdict) → v ≡ judged len (view img) → (v.number ≡ 0 → ⊥) → Lists len img out list i time (not_listed v) out list
  unfolding list_decision
  list-judged v e h =
      list-as (record { verdict = v; plan = none }) (decided-judged len (view img) cs plan (length list) v e h) (refused_as img out list i v h)

  module _ (ok : (judged len (view img)).number ≡ 0) (g : Geometry) (is : g ≡ geometry_in (view img superblock_at)) where
    list-own : (v : Verdict) → v ≡ own
        → list_decision len (view img) i time (length out) (length list) ≡ planned v plan
    unfolding list_decision
    list-own v e = decided-own len (view img) cs plan (length list) ok v e

    own-refused : (v : Verdict) → (v.number ≡ 0 → ⊥) → v ≡ own
        → Lists len img out list i time (not_listed v) out list
    own-refused v h e = list-as (record { verdict = v; plan = none }) (list-own v e ∙ planned-refused v plan h) (refused_as img out list i v h)

    pub list-wide : bad_time g.edition time ≡ true → Lists len img out list i time (not_listed (refusal 8)) out list
    unfolding verdict_of list_conditions
    list-wide h = own-refused (refusal 8) (λ (e : ◌≡◌ {A = ℕ} 8 0). omega arith) (rw (edition-is img g is, h))

    module _ (fits : bad_time g.edition time ≡ false) where
      pub list-past : g.files ≤ i → Lists len img out list i time (not_listed (refusal 8)) out list
      unfolding verdict_of list_conditions
      list-past h = own-refused (refusal 8) (λ (e : ◌≡◌ {A = ℕ} 8 0). omega arith) (rw (edition-is img g is, fits, files-is img g is, le-leb g.files i h))

      module _ (low : i < g.files) where
        low-on : i < (geometry_in (view img superblock_at)).files
        low-on = let f = ap (λ (x : Geometry). x.files) is in omega arith

        pub list-free : is_occupied (view img (entry_at i)) ≡ false → Lists len img out list i time (not_listed (refusal 9)) out list
        unfolding verdict_of list_conditions
        list-free o =
            own-refused (refusal 9) (λ (e : ◌≡◌ {A = ℕ} 9 0). omega arith)
            (rw (edition-is img g is, fits, files-is img g is, lt-leb g.files i low, free-is (view img) i low-on, o))

        lent-own : is_occupied (view img (entry_at i)) ≡ true
            → lent_verdict (length (entry_of (catalogue_of (view img)) i).name) (length out) (access_size (lacks_reserve (catalogue_of (view img)))) (length list) ≡ own
        unfolding lent_verdict verdict_of list_conditions plan_conditions list_planned
        lent-own o =
            let l = lacks_reserve (catalogue_of (view img)) in
            lent-last (ltb (length out) (length (entry_of (catalogue_of (view img)) i).name)) (ltb (length list) (access_size l)) l
            (list_plan (catalogue_of (view img)) (view img) time)
            ∙ rw (list-needs (view img) time, edition-is img g is, fits, files-is img g is, lt-leb g.files i low, free-is (view img) i low-on, o)

        pub list-found : {r : Listed} {o l : List ℕ} → is_occupied (view img (entry_at i)) ≡ true
            → ListedAs img out list i (entry_decision (view img) i time (length out) (length list)) r o l → Lists len img out list i time r o l
        list-found o h =
            list-as (entry_decision (view img) i time (length out) (length list))
            (list-own (lent_verdict (length (entry_of (catalogue_of (view img)) i).name) (length out) (access_size (lacks_reserve (catalogue_of (view img)))) (length list)) (lent-own o)) h
