-- What read answers and leaves in both buffers, test by test, by any length of the image; and what a read begins without the data area. Assumes nothing.
use Prim.Native.Nat.{ℕ, ◌+◌, ◌≤◌, ◌<◌}
use mathlib.Core.Path.{◌≡◌, refl, sym, ap, ap₂, ◌∙◌, subst}
use mathlib.Core.Bool.{Bool, true, false, cond, not, ◌&&◌, ◌||◌}
use mathlib.Core.List.{List}
use mathlib.Core.Option.{Option, none, some}
use native.Mathlib.Omega.{arith}
use lib.Dec.{eqb, ltb}
use lib.ListN.{length}
use borrow.Author.Tests.{ltb-false, eqb-true, eqb-false, eq-eqb, ne_eqb}
use Rattle.model.specs.Answers.{BytesRead, Verdict}
use Rattle.model.specs.declared.Geometry.{Geometry}
use Rattle.std.specs.Prelude.{Some, Ok}
use Rattle.model.specs.declared.Reading.{Reading}
use Rattle.model.specs.Bytes.{number_in, put}
use Rattle.model.specs.Search.{Lowest, tabulate, is_at, index_of}
use Rattle.model.specs.Geometry.{superblock_at, entry_at}
use Rattle.model.specs.Disk.{Disk, view}
use Rattle.model.specs.Superblock.{geometry_in}
use Rattle.model.specs.Edition.{layout_of, bad_time}
use Rattle.model.specs.Entry.{entry_field, is_occupied, bad_name, accessed_entry_sector}
use Rattle.model.specs.Catalogue.{Catalogue, catalogue_of, lacks_reserve, file_named, entry_of, file_bytes}
use Rattle.model.specs.Refusals.{Conditions, verdict_of, and_then, refusal, done, judged}
use Rattle.model.specs.WriteList.{Plan, one_target, emit, groups_for, closed, list_length, Decision, is_planned, plan_conditions, decided, list_after}
use Rattle.model.specs.Read.{longest_transfer, read_count, size_named, read_conditions, read_plan, read_planned, read_decision, not_read, read_of, read_answer, read_gives, read_output, read_list}
use Rattle.model.specs.Lent.{read_idle, read_begun, read_lent}
use Rattle.model.specs.Results.{verdict_for, read_in}
use Rattle.model.specs.declared.Refusal.{Refusal}
use Rattle.model.specs.declared.ReadBytes.{ReadBytes}
use Rattle.laws.proofs.Booleans.{or-none}
use Rattle.laws.proofs.Bytes.{put-nil}
use Rattle.laws.proofs.Named.{short-name}
use Rattle.laws.proofs.WriteList.{emit-nil, plan-needs}
use Rattle.commit.proofs.Decided.{edition-is, same-refusal, decided-judged, decided-own}
use Rattle.reading.specs.Given.{asked_verdict, access_size, lent_verdict, file_verdict, planned, file_decision, file_read}
use Rattle.reading.proofs.Verdicts.{refusing, passed, file-enough, lent-last, access-needs, planned-refused, planned-done, size_is}

-- the answer and the list that a decision comes to, of file i
abbrev pub ReadAs : List ℕ → List ℕ → ℕ → ℕ → ℕ → Decision → BytesRead → List ℕ → Type 0
ReadAs img list i offset asked x r l = (r ≡ file_read x (view img) i offset asked) × (l ≡ list_after (view img) x list)

refused_as : (img list : List ℕ) (i offset asked : ℕ) (v : Verdict) → (v.number ≡ 0 → ⊥)
    → ReadAs img list i offset asked (record { verdict = v; plan = none }) (not_read v) list
unfolding file_read groups_for
refused_as img list i offset asked v h = (rw (ne_eqb v.number 0 h), sym (emit-nil list 0))

read-needs : (d : Disk) (i time : ℕ) → list_length (groups_for d (read_planned (catalogue_of d) d i time)) ≡ access_size (lacks_reserve (catalogue_of d))
unfolding read_plan read_planned
read-needs d i time = access-needs d (lacks_reserve (catalogue_of d)) (read_plan (catalogue_of d) d i time) (plan-needs d (read_plan (catalogue_of d) d i time))

-- where nothing refuses, bytes of the file are given, and no more than there is room for
given-by : (v : Verdict) (b : Bool) (n l : ℕ) → eqb v.number 0 ≡ b → 0 ≡ (cond b (record { verdict = v; count = n; length = l }) (not_read v)).verdict.number
    → (v.number ≡ 0) × ((cond b (record { verdict = v; count = n; length = l }) (not_read v)).count ≡ n)
given-by v true n l e h = (eqb-true v.number 0 e, refl)
given-by v false n l e h = absurd (eqb-false v.number 0 e (sym h))

pub file-count : (d : Disk) (i offset asked time room space : ℕ) (r : ReadBytes) → read_in (Ok r) ≡ file_read (file_decision d i offset asked time room space) d i offset asked
    → (offset + r.count ≤ (entry_of (catalogue_of d) i).size) × (r.count ≤ room)
unfolding file_read
file-count d i offset asked time room space r e =
    let size = (entry_of (catalogue_of d) i).size in
    let x = file_decision d i offset asked time room space in
    let k = given-by x.verdict _ (read_count size offset asked) (list_length (groups_for d x.plan)) refl (ap (λ (z : BytesRead). z.verdict.number) e) in
    let f = file-enough size offset asked room (access_size (lacks_reserve (catalogue_of d))) space k.0 in
    let n : r.count ≡ read_count size offset asked = ap (λ (z : BytesRead). z.count) e ∙ k.1 in
    (omega (arith, n, f.0), omega (arith, n, f.1))

-- a read that is refused
pub nothing-given : (c : Catalogue) (d : Disk) (out : List ℕ) (i offset : ℕ) → out ≡ put out 0 (file_bytes c d i offset 0)
unfolding file_bytes tabulate
nothing-given c d out i offset = sym (put-nil out 0)

-- ---- of an occupied entry

module _ (img list : List ℕ) (i offset asked time room : ℕ) (g : Geometry) (is : g ≡ geometry_in (view img superblock_at)) (low : i < g.files)
    (occupied : is_occupied (view img (entry_at i)) ≡ true) (size : ℕ) (f : size ≡ number_in (view img (entry_at i)) entry_field.size)
    (lacks : Bool) (s : lacks_reserve (catalogue_of (view img)) ≡ lacks)
    (v : Verdict) (e : v ≡ file_verdict size offset asked room (access_size lacks) (length list)) where
  abbrev d : Disk
  d = view img

  abbrev x : Decision
  x = file_decision d i offset asked time room (length list)

  abbrev target : Option Plan
  target = read_planned (catalogue_of d) d i time

  size-on : size ≡ (entry_of (catalogue_of d) i).size
  size-on = f ∙ size_is img g i is low occupied

  decision-on : x ≡ planned v target
  decision-on =
      ap (λ (w : Verdict). planned w target)
      (sym (e ∙ ap₂ (λ (n : ℕ) (b : Bool). file_verdict n offset asked room (access_size b) (length list)) size-on (sym s)))

  pub file-refused : (v.number ≡ 0 → ⊥) → ReadAs img list i offset asked x (not_read v) list
  file-refused h =
      subst (λ (y : Decision). ReadAs img list i offset asked y (not_read v) list) (sym (decision-on ∙ planned-refused v target h)) (refused_as img list i offset asked v h)

  target-on : {a : List ℕ} (at : ℕ) → at ≡ entry_at i → a ≡ accessed_entry_sector g.edition time (d (entry_at i)) → cond lacks none (some (one_target at a)) ≡ target
  unfolding read_plan read_planned
  target-on {a} at h q =
      ap (λ (k : ℕ). cond lacks none (some (one_target k a))) h
      ∙ ap₂ (λ (b : Bool) (c : List ℕ). cond b none (some (one_target (entry_at i) c))) (sym s)
      (q ∙ ap (λ (n : ℕ). accessed_entry_sector n time (d (entry_at i))) (sym (edition-is img g is)))

  pub file-done : {l a : List ℕ} (count at : ℕ) → v.number ≡ 0 → count ≡ read_count size offset asked
      → a ≡ accessed_entry_sector g.edition time (d (entry_at i)) → at ≡ entry_at i → l ≡ emit list 0 (closed (groups_for d (cond lacks none (some (one_target at a)))))
      → ReadAs img list i offset asked x (record { verdict = v; count = count; length = access_size lacks }) l
  unfolding file_read
  file-done {l} {a} count at z n q h m =
      subst (λ (y : Decision). ReadAs img list i offset asked y (record { verdict = v; count = count; length = access_size lacks }) l)
      (sym (decision-on ∙ planned-done v target z)) (
        rw (eq-eqb v.number 0 z, read-needs d i time, s, ← size-on, ← n),
        m ∙ ap (λ (y : Option Plan). emit list 0 (closed (groups_for d y))) (target-on at h q),
      )

-- ---- the call

abbrev pub Reads : ℕ → List ℕ → List ℕ → List ℕ → ℕ → ℕ → ℕ → ℕ → BytesRead → List ℕ → Type 0
Reads len img list name offset asked time room r l =
    (r ≡ read_answer len (view img) name offset asked time room (length list))
    × (l ≡ read_list len (view img) name offset asked time room list)

-- the code's test of the arguments
abbrev is_bad : ℕ → List ℕ → ℕ → ℕ → Bool
is_bad edition name asked time = bad_time edition time || (bad_name edition name || ltb longest_transfer asked)

-- arguments that it lets pass
pub good-arguments : (edition : ℕ) (name : List ℕ) (asked time : ℕ) → is_bad edition name asked time ≡ false
    → (length name ≤ (layout_of edition).longest_name) × (asked ≤ longest_transfer)
good-arguments edition name asked time h =
    let b = bad_name edition name in
    let l = or-none b (ltb longest_transfer asked) (or-none (bad_time edition time) (b || ltb longest_transfer asked) h).1 in
    (short-name edition name l.0, ltb-false longest_transfer asked l.1)

-- 8 and 9 stand before the other conditions
asked-first : (bad there : Bool) (later x : Verdict) → ((cond bad (refusal 8) (cond (not there) (refusal 9) done)).number ≡ 0 → ⊥)
    → cond bad (refusal 8) (cond (not there) (refusal 9) done) ≡ and_then (cond bad (refusal 8) (cond (not there) (refusal 9) later)) x
asked-first true there later x h = refl
asked-first false false later x h = refl
asked-first false true later x h = absurd (h refl)

-- the list's 14 stands last
file-last : (a b e l : Bool) (p : Plan) → cond a (refusal 12) (cond b (refusal 14) (cond e (refusal 14) done))
    ≡ and_then (cond a (refusal 12) (cond b (refusal 14) done)) (cond (is_planned (cond l none (some p)) && l) (refusal 13) (cond e (refusal 14) done))
file-last true b e l p = refl
file-last false b e l p = lent-last b e l p

module _ (len : ℕ) (img list name : List ℕ) (offset asked time room : ℕ) where
  abbrev c : Catalogue
  c = catalogue_of (view img)

  abbrev place : ℕ
  place = index_of (file_named c name)

  abbrev cs : Conditions
  cs = read_conditions c name offset asked time room

  abbrev plan : Option Plan
  plan = read_planned c (view img) place time

  -- what its own conditions and those of its plan come to
  abbrev own : Verdict
  own = and_then (verdict_of cs) (verdict_of (plan_conditions (view img) plan (length list)))

  read_as : {r : BytesRead} {l : List ℕ} (y : Decision) → read_decision len (view img) name offset asked time room (length list) ≡ y
      → ReadAs img list place offset asked y r l → Reads len img list name offset asked time room r l
  unfolding read_answer read_list read_of size_named file_read
  read_as y e h = rw e h

  -- 1 to 7
  pub read-judged : (v : Verdict) → v ≡ judged len (view img) → (v.number ≡ 0 → ⊥) → Reads len img list name offset asked time room (not_read v) list
  unfolding read_decision
  read-judged v e h =
      read_as (record { verdict = v; plan = none }) (decided-judged len (view img) cs plan (length list) v e h) (refused_as img list place offset asked v h)

  module _ (ok : (judged len (view img)).number ≡ 0) (g : Geometry) (is : g ≡ geometry_in (view img superblock_at)) where
    read-own : (v : Verdict) → v ≡ own
        → read_decision len (view img) name offset asked time room (length list) ≡ planned v plan
    unfolding read_decision
    read-own v e = decided-own len (view img) cs plan (length list) ok v e

    own-refused : (v : Verdict) → (v.number ≡ 0 → ⊥) → v ≡ own
        → Reads len img list name offset asked time room (not_read v) list
    own-refused v h e = read_as (record { verdict = v; plan = none }) (read-own v e ∙ planned-refused v plan h) (refused_as img list place offset asked v h)

    -- 12 and 14, and with 9 before them
    abbrev last : Verdict
    last = cond (ltb (size_named c name) offset) (refusal 12) (cond (ltb room (read_count (size_named c name) offset asked)) (refusal 14) done)

    abbrev rest : Verdict
    rest = cond (not (is_at (file_named c name))) (refusal 9) last

    read-tests : verdict_of cs ≡ cond (is_bad g.edition name asked time) (refusal 8) rest
    unfolding verdict_of read_conditions
    read-tests =
        same-refusal (bad_time c.geometry.edition time) (bad_name c.geometry.edition name || ltb longest_transfer asked) (refusal 8) rest
        ∙ ap (λ (n : ℕ). cond (is_bad n name asked time) (refusal 8) rest) (edition-is img g is)

    -- 8 and 9
    pub read-refused : (e : Refusal) → verdict_for e ≡ asked_verdict c g.edition name asked time → Reads len img list name offset asked time room (not_read (verdict_for e)) list
    read-refused e v =
        let plans = verdict_of (plan_conditions (view img) plan (length list)) in
        own-refused (verdict_for e) (refusing e)
        (v ∙ asked-first (is_bad g.edition name asked time) (is_at (file_named c name)) last plans (λ h. refusing e (ap (λ (w : Verdict). w.number) v ∙ h))
        ∙ ap (λ (w : Verdict). and_then w plans) (sym read-tests))

    module _ (let_pass : done ≡ asked_verdict c g.edition name asked time) where
      good : is_bad g.edition name asked time ≡ false
      good =
          (passed (is_bad g.edition name asked time) 7 (cond (not (is_at (file_named c name))) (refusal 9) done)
          (ap (λ (w : Verdict). w.number) (sym let_pass))).0

      module _ (i : ℕ) (found : file_named c name ≡ Some i) where
        size-named : size_named c name ≡ (entry_of c i).size
        unfolding size_named
        size-named = ap (λ (p : Lowest). (entry_of c (index_of p)).size) found

        file-own : file_verdict (entry_of c i).size offset asked room (access_size (lacks_reserve c)) (length list) ≡ own
        unfolding file_verdict lent_verdict verdict_of plan_conditions read_planned
        file-own =
            let size = (entry_of c i).size in
            file-last (ltb size offset) (ltb room (read_count size offset asked)) (ltb (length list) (access_size (lacks_reserve c))) (lacks_reserve c)
            (read_plan c (view img) place time)
            ∙ rw (read-tests, good, read-needs (view img) place time, size-named, found)

        pub read_found : {r : BytesRead} {l : List ℕ} → ReadAs img list i offset asked (file_decision (view img) i offset asked time room (length list)) r l
            → Reads len img list name offset asked time room r l
        read_found h =
            let there : index_of (file_named c name) ≡ i = rw found in
            read_as (file_decision (view img) i offset asked time room (length list))
            (read-own (file_verdict (entry_of c i).size offset asked room (access_size (lacks_reserve c)) (length list)) file-own
            ∙ ap (λ (k : ℕ). planned (file_verdict (entry_of c i).size offset asked room (access_size (lacks_reserve c)) (length list)) (read_planned c (view img) k time)) there)
            (rw there h)

-- ---- with the output, on an image

abbrev pub Gives : ℕ → List ℕ → List ℕ → List ℕ → List ℕ → ℕ → ℕ → ℕ → BytesRead → List ℕ → List ℕ → Type 0
Gives len img out list name offset asked time r o l =
    (r ≡ read_answer len (view img) name offset asked time (length out) (length list))
    × ((o ≡ read_output len (view img) name offset asked time out (length list)) × (l ≡ read_list len (view img) name offset asked time (length out) list))

module _ (len : ℕ) (img out list name : List ℕ) (offset asked time : ℕ) where
  gives : {r : BytesRead} {o l : List ℕ} (i : ℕ) → index_of (file_named (catalogue_of (view img)) name) ≡ i → Reads len img list name offset asked time (length out) r l
      → o ≡ put out 0 (file_bytes (catalogue_of (view img)) (view img) i offset r.count) → Gives len img out list name offset asked time r o l
  unfolding read_output read_gives
  gives {r} i there h e =
      let c = catalogue_of (view img) in
      (h.0, (e ∙ ap₂ (λ (k n : ℕ). put out 0 (file_bytes c (view img) k offset n)) (sym there) (ap (λ (z : BytesRead). z.count) h.0), h.1))

  pub gives_none : (v : Verdict) → Reads len img list name offset asked time (length out) (not_read v) list → Gives len img out list name offset asked time (not_read v) out list
  gives_none v h =
      let i = index_of (file_named (catalogue_of (view img)) name) in
      gives i refl h (nothing-given (catalogue_of (view img)) (view img) out i offset)

  pub gives_found : {r : BytesRead} {o l : List ℕ} (i : ℕ) → file_named (catalogue_of (view img)) name ≡ Some i → Reads len img list name offset asked time (length out) r l
      → o ≡ put out 0 (file_bytes (catalogue_of (view img)) (view img) i offset r.count) → Gives len img out list name offset asked time r o l
  gives_found i found h e = gives i (ap index_of found) h e

  -- by another length that is judged the same
  pub gives_same : {r : BytesRead} {o l : List ℕ} (len' : ℕ) → judged len' (view img) ≡ judged len (view img) → Gives len' img out list name offset asked time r o l
      → Gives len img out list name offset asked time r o l
  unfolding read_answer read_output read_gives read_list read_decision decided
  gives_same len' e h = rw (← e) h

-- ---- without the data area (T-11): the read begun

abbrev pub Begins : ℕ → List ℕ → List ℕ → List ℕ → ℕ → ℕ → ℕ → ℕ → Reading → List ℕ → Type 0
Begins len img list name offset asked time room s l =
    (s ≡ read_lent len (view img) name offset asked time room (length list)) × (l ≡ read_list len (view img) name offset asked time room list)

module _ (len : ℕ) (img list name : List ℕ) (offset asked time room : ℕ) where
  pub begins-none : (v : Verdict) → Reads len img list name offset asked time room (not_read v) list → Begins len img list name offset asked time room (read_idle (not_read v)) list
  unfolding read_lent read_begun
  begins-none v h = rw (← h.0) (refl, h.1)

  pub begins-found : {r : BytesRead} {l : List ℕ} (i : ℕ) → file_named (catalogue_of (view img)) name ≡ Some i → Reads len img list name offset asked time room r l
      → Begins len img list name offset asked time room (read_begun (catalogue_of (view img)) i offset r) l
  unfolding read_lent
  begins-found i found h = rw (found, ← h.0) (refl, h.1)

  pub begins-same : {s : Reading} {l : List ℕ} (len' : ℕ) → judged len' (view img) ≡ judged len (view img) → Begins len' img list name offset asked time room s l
      → Begins len img list name offset asked time room s l
  unfolding read_lent read_answer read_list read_decision decided
  begins-same len' e h = rw (← e) h
