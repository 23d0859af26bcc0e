-- T-02: what list has to show, the ledger's answer and its effect, the root with the access time set; and read's effect, the entry with it. So
-- neither changes a file's bytes. Assumes nothing.
use Prim.Native.Nat.{ℕ, ◌*◌, ◌^◌, ◌<◌}
use mathlib.Core.Path.{◌≡◌, refl, sym, ap, ◌∙◌, subst, fun_ext}
use mathlib.Core.Logic.{◌≢◌}
use mathlib.Core.Bool.{Bool, true, false, cond, true≢false}
use mathlib.Core.List.{List, [], ◌∷◌, ◌++◌}
use mathlib.Core.Option.{Option, none, some}
use native.Mathlib.Omega.{arith}
use lib.Dec.{eqb, ltb}
use lib.ListN.{length}
use borrow.Author.Tests.{eqb-true, not-false}
use Rattle.model.specs.Answers.{Listed, BytesRead, Verdict, Changed}
use Rattle.model.specs.Search.{is_at, index_of}
use Rattle.model.specs.Geometry.{root_at, entry_at, journal_at}
use Rattle.model.specs.Disk.{Disk, view}
use Rattle.model.specs.Root.{root_in, accessed_root_sector}
use Rattle.model.specs.Entry.{bad_name, fields_of, accessed_entry_sector}
use Rattle.model.specs.Catalogue.{Catalogue, catalogue_of, lacks_reserve, is_free, file_named, has_name, entry_of}
use Rattle.model.specs.Refusals.{Conditions, verdict_of, and_then, given, is_done, refusal, judged}
use Rattle.model.specs.WriteList.{Plan, one_target, sector_write, groups_for, list_length, record_size, Decision, plan_conditions, decided, answer_of}
use Rattle.model.specs.Listing.{list_conditions, list_plan, list_planned, list_decision, not_listed, listed_of, copied_of, list_answer, list_copies}
use Rattle.model.specs.Read.{read_count, size_named, read_conditions, read_plan, read_planned, read_decision, not_read, read_of, read_answer}
use Rattle.model.specs.Ledger.{Ledger, File, file_or, catalogue, with_slot, with_file, list, read, listed}
use Rattle.model.specs.Ledger.{entry_fields, accessed_entry, accessed_file, accessed_root, is_frozen, access_records, step, answer}
use Rattle.model.specs.Run.{volume_answer, on_volume}
use Rattle.laws.proofs.Disk.{length-view}
use Rattle.safety.proofs.OwnWords.{free-if, named-is, entry-is, file-is, time-is, frozen-is, answers}
use Rattle.safety.proofs.Searches.{or-left-no}
use Rattle.safety.proofs.Apply.{over-here, over_skip, over_none}
use Rattle.safety.proofs.Plan.{UsableGeometry, WellFormed, metadata-directory}
use Rattle.safety.proofs.Commit.{uncut, ready-uncut}
use Rattle.safety.proofs.Frame.{Outside, done-shows}
use Rattle.safety.proofs.Rep.{Rep, timely, rep-geometry, cat-is}
use Rattle.safety.proofs.Changing.{Passed, Judges, Carries, Carried, own, decision-is, own_is, given_is, effect-judged}
use Rattle.safety.proofs.Preserved.{out-front, free-said, targets-fit, part-keeps, occupied, slot-within}
use Rattle.safety.proofs.Fields.{length-accessed_root_sector, root-accessed, length-accessed_entry_sector, accessed-occupied, accessed-entry}
use Rattle.safety.proofs.Read.{access-never, access-size, read-judges, read_found}
use Rattle.safety.proofs.KeptFile.{well-named, name-apart}
use Rattle.safety.proofs.RewrittenEntry.{rep-rewritten}
use Rattle.safety.proofs.Induction.{Effect}

-- ---- of a write list they answer what a changing call does: the verdict, and the list's length

-- an answer made of the verdict and the list's length, or of the verdict of a refusal; how both are read off it
as-changed : {A : Type 0} (len : ℕ) (d : Disk) (cs : Conditions) (plan : Option Plan) (space : ℕ) (made : Verdict → ℕ → A) (refuse : Verdict → A) (read_off : A → Changed)
    → ((v : Verdict) (n : ℕ) → read_off (made v n) ≡ record { verdict = v; length = n }) → ((v : Verdict) → read_off (refuse v) ≡ record { verdict = v; length = 0 })
    → let x = decided len d cs plan space in read_off (given x.verdict (made x.verdict (list_length (groups_for d x.plan))) refuse) ≡ answer_of d x
unfolding decided groups_for
as-changed len d cs plan space made refuse read_off done refused = go (is_done v)
  where
    v : Verdict
    v = and_then (judged len d) (and_then (verdict_of cs) (verdict_of (plan_conditions d plan space)))

    go : (b : Bool) → read_off (cond b (made v (list_length (groups_for d (cond b plan none)))) (refuse v)) ≡ answer_of d (record { verdict = v; plan = cond b plan none })
    go true = done v _
    go false = refused v

module _ (len : ℕ) (d : Disk) where
  pub list-as-changed : (i time room space : ℕ)
      → let a = list_answer len d i time room space in record { verdict = a.verdict; length = a.length } ≡ answer_of d (list_decision len d i time room space)
  unfolding list_answer listed_of list_decision
  list-as-changed i time room space =
      as-changed len d (list_conditions (catalogue_of d) i time room) (list_planned (catalogue_of d) d time) space
      (λ v n. record { verdict = v; fields = fields_of (entry_of (catalogue_of d) i); length = n }) not_listed
      (λ (a : Listed). record { verdict = a.verdict; length = a.length }) (λ v n. refl) (λ v. refl)

  pub read-as-changed : (name : List ℕ) (offset asked time room space : ℕ)
      → let a = read_answer len d name offset asked time room space in
      record { verdict = a.verdict; length = a.length } ≡ answer_of d (read_decision len d name offset asked time room space)
  unfolding read_answer read_of read_decision
  read-as-changed name offset asked time room space =
      as-changed len d (read_conditions (catalogue_of d) name offset asked time room) (read_planned (catalogue_of d) d (index_of (file_named (catalogue_of d) name)) time) space
      (λ v n. record { verdict = v; count = read_count (size_named (catalogue_of d) name) offset asked; length = n }) not_read
      (λ (a : BytesRead). record { verdict = a.verdict; length = a.length }) (λ v n. refl) (λ v. refl)

-- ---- a plan of one target, a sector of root or directory

module _ (L : Ledger) (img : List ℕ) (rep : Rep L img) (there : lacks_reserve (catalogue L) ≡ false) (s : ℕ) (c : List ℕ) (low : 0 < s) (high : s < journal_at L.geometry)
    (whl : length c ≡ 512) where
  one-fits : WellFormed L.geometry (view img) (one_target s c)
  one-fits = targets-fit L img rep there _ (omega arith) (omega arith) (metadata-directory L.geometry s low high, tt) (omega arith, tt) (whl, tt)

  geo : UsableGeometry L.geometry
  geo = rep-geometry L img rep

  abbrev after : List ℕ
  after = uncut L.geometry img (one_target s c)

  one-here : view after s ≡ c
  one-here =
      done-shows L.geometry img (one_target s c) geo one-fits rep.ready s (out-front L.geometry s high) (λ e. omega arith)
      ∙ over-here (sector_write s c) [] _ ∙ over_none s _

  one-other : (j : ℕ) → Outside L.geometry (catalogue_of (view img)) j → j ≢ 0 → j ≢ s → view after j ≡ view img j
  one-other j o n0 ns =
      done-shows L.geometry img (one_target s c) geo one-fits rep.ready j o n0 ∙ over_skip (sector_write s c) [] j _ ns ∙ over_none j _

-- ---- a file's entry stays, or has its access time set

module _ (L : Ledger) (img : List ℕ) (rep : Rep L img) (i : ℕ) (f : File) (has : L.slots i ≡ some f) where
  good : bad_name L.geometry.edition f.entry.name ≡ false
  good = or-left-no (bad_name L.geometry.edition f.entry.name) _ (well-named L img rep i f has)

  unused : (k : ℕ) → k < L.geometry.files → k ≢ i → has_name f.entry.name ((catalogue L).entries k) ≡ false
  unused k l ne = name-apart L img rep i f has k l ne

-- a slot that gets its own file
same-slot : (L : Ledger) (i : ℕ) (f : File) → L.slots i ≡ some f → (j : ℕ) → with_slot L.slots i (some f) j ≡ L.slots j
same-slot L i f has j = go (eqb j i) refl
  where
    go : (b : Bool) → eqb j i ≡ b → cond b (some f) (L.slots j) ≡ L.slots j
    go true e = sym has ∙ ap L.slots (sym (eqb-true j i e))
    go false e = refl

-- what the ledger makes of it
access-done : (L X : Ledger) (b : Bool) → lacks_reserve (catalogue L) ≡ b → cond (is_frozen L) L X ≡ cond b L X
access-done L X b e = ap (λ (t : Bool). cond t L X) (frozen-is L ∙ e)

-- ---- list

module _ (L : Ledger) (img : List ℕ) (rep : Rep L img) (k time room space : ℕ) where
  abbrev conditions : Catalogue → Conditions
  conditions x = list_conditions x k time room

  abbrev plan : Catalogue → Option Plan
  plan x = list_planned x (view img) time

  judges : Judges L img (list k time room space) conditions plan space (access_records L)
  unfolding list_conditions step catalogue list_planned list_plan verdict_of
  judges = record {
    conditions = ap (λ (b : Bool). verdict_of (conditions (catalogue L) ++ ((b, refusal 13) ∷ (ltb space (access_records L * record_size), refusal 14) ∷ [])))
        (access-never (lacks_reserve (catalogue L)) (list_plan (catalogue L) (view img) time))
        ∙ rw (time-is L time, free-if (L.slots k), entry-is L k);
    refusing = refl;
    size = access-size L (view img) (list_plan (catalogue L) (view img) time) refl;
  }

  abbrev v : Verdict
  v = own L img rep (list k time room space) conditions plan space (access_records L)

  abbrev answered : Bool → Verdict → Listed
  answered b w = cond b (record { verdict = w; fields = fields_of (entry_of (catalogue L) k); length = access_records L * record_size }) (not_listed w)

  decision-here : list_decision (length img) (view img) k time room space ≡ record { verdict = v; plan = cond (is_done v) (plan (catalogue L)) none }
  unfolding list_decision
  decision-here = decision-is L img rep (list k time room space) conditions plan space (access_records L) judges

  answer-is : list_answer (length img) (view img) k time room space ≡ answered (is_done v) v
  unfolding list_answer listed_of
  answer-is =
      ap (λ (x : Decision). listed_of x (view img) k) decision-here
      ∙ ap (λ (x : Catalogue). given v (record { verdict = v; fields = fields_of (entry_of x k); length = list_length (groups_for (view img) (cond (is_done v) (plan (catalogue L)) none)) })
      not_listed)
      (cat-is L img rep)
      ∙ given_is L img rep (list k time room space) conditions plan space (access_records L) judges
      (λ n. record { verdict = v; fields = fields_of (entry_of (catalogue L) k); length = n }) not_listed

  copies-are : list_copies (length img) (view img) k time room space ≡ cond (is_done v) (entry_of (catalogue L) k).name []
  unfolding list_copies copied_of
  copies-are =
      ap (λ (x : Decision). copied_of x (view img) k) decision-here ∙ ap (λ (x : Catalogue). given v (entry_of x k).name (λ r. [])) (cat-is L img rep)

  pub list_same : volume_answer (list k time room space) img ≡ answer (list k time room space) L
  unfolding on_volume step entry_fields fields_of
  list_same =
      (λ j. listed (answer-is j) (copies-are j))
      ∙ answers (step (list k time room space) L) (λ b w. listed (answered b w) (cond b (entry_of (catalogue L) k).name []))
      (rw (entry-is L k)) (λ n. refl) v (own_is L img rep (list k time room space) conditions plan space (access_records L) judges)

  abbrev f : File
  f = file_or (L.slots k)

  module _ (ht : time < 2 ^ 64) (passed : Passed (list_conditions (catalogue L) k time room)) where
    there : L.slots k ≡ some f
    unfolding list_conditions catalogue
    there = go (L.slots k) (free-if (L.slots k) ∙ passed.1.1.0)
      where
        go : (o : Option File) → is_free o ≡ false → o ≡ some (file_or o)
        go none e = absurd (true≢false e)
        go (some g) e = refl

    carries : lacks_reserve (catalogue L) ≡ false → Carries L img (list k time room space) (list_plan (catalogue L) (view img) time)
    unfolding list_conditions step list_plan accessed_root catalogue
    carries reserve =
        let e = L.geometry.edition in
        let fits = timely L time passed.0 ht in
        let s = accessed_root_sector e time (view img root_at) in
        let whl : length s ≡ 512 = length-accessed_root_sector e time (view img root_at) ∙ length-view img root_at in
        let was = occupied L img rep k f there in
        let l : k < L.geometry.files = slot-within L img rep k f there in
        let ok : WellFormed L.geometry (view img) (one_target root_at s) = one-fits L img rep reserve root_at s (omega arith) (omega arith) whl in
        let front = out-front L.geometry in
        record {
          fits = ok;
          done = subst (λ (X : Ledger). Rep X (uncut L.geometry img (one_target root_at s)))
              ((λ j. record { geometry = L.geometry; root = accessed_root time L.root; slots = fun_ext (same-slot L k f there) j })
              ∙ sym (access-done L (record { geometry = L.geometry; root = accessed_root time L.root; slots = L.slots }) false reserve))
              (rep-rewritten L img rep k f there (accessed_root time L.root) refl f.entry (good L img rep k f there) (unused L img rep k f there) refl refl
              (catalogue_of (view img)) (free-said L img rep) _
              (ready-uncut L.geometry img (one_target root_at s) (rep-geometry L img rep) ok rep.ready) (view img (entry_at k))
              (ap (root_in e) (one-here L img rep reserve root_at s (omega arith) (omega arith) whl) ∙ root-accessed e time (view img root_at) (length-view img root_at) fits
              ∙ ap (accessed_root time) rep.says.root)
              (one-other L img rep reserve root_at s (omega arith) (omega arith) whl (entry_at k) (front (entry_at k) (omega arith)) (λ z. omega arith) (λ z. omega arith))
              was.1 was.2 (λ j o n0 n1 ni. one-other L img rep reserve root_at s (omega arith) (omega arith) whl j o n0 n1));
          partly = λ p m. part-keeps L img (one_target root_at s) rep ok refl p m;
        }

  carried : time < 2 ^ 64 → Passed (list_conditions (catalogue L) k time room) → (b : Bool) → lacks_reserve (catalogue L) ≡ b
      → Carried L img (list k time room space) (cond b none (some (list_plan (catalogue L) (view img) time)))
  unfolding step
  carried ht passed true e = subst (λ (X : Ledger). Rep X img) (sym (access-done L _ true e)) rep
  carried ht passed false e = carries ht passed e

  -- what list does
  pub list-effect : time < 2 ^ 64 → Effect Rep (list k time room space) L img
  unfolding on_volume list_decision list_planned step
  list-effect ht = effect-judged L img rep (list k time room space) conditions plan space (access_records L) judges refl refl (λ passed never. carried ht passed (lacks_reserve (catalogue L)) refl)

-- ---- read

module _ (L : Ledger) (img : List ℕ) (rep : Rep L img) (name : List ℕ) (offset asked time room space : ℕ) where
  abbrev i : ℕ
  i = index_of (file_named (catalogue L) name)

  abbrev g : File
  g = file_or (L.slots (index_of (file_named (catalogue L) name)))

  done-is : (b : Bool) → lacks_reserve (catalogue L) ≡ b → (step (read name offset asked time room space) L).done ≡ cond b L (with_file L i (accessed_file time g))
  unfolding step
  done-is b e = access-done L _ b e ∙ rw (file-is L name, named-is L name)

  module _ (ht : time < 2 ^ 64) (passed : Passed (read_conditions (catalogue L) name offset asked time room)) where
    found : L.slots i ≡ some g
    unfolding read_conditions
    found = read_found L img rep name offset asked time room space (not-false (is_at (file_named (catalogue L) name)) passed.1.1.0)

    reads : lacks_reserve (catalogue L) ≡ false → Carries L img (read name offset asked time room space) (read_plan (catalogue L) (view img) i time)
    unfolding read_conditions step read_plan accessed_entry catalogue
    reads reserve =
        let e = L.geometry.edition in
        let fits = timely L time passed.0 ht in
        let old = view img (entry_at i) in
        let s = accessed_entry_sector e time old in
        let whl : length s ≡ 512 = length-accessed_entry_sector e time old ∙ length-view img (entry_at i) in
        let was = occupied L img rep i g found in
        let l : i < L.geometry.files = slot-within L img rep i g found in
        let ok : WellFormed L.geometry (view img) (one_target (entry_at i) s) = one-fits L img rep reserve (entry_at i) s (omega arith) (omega arith) whl in
        let front = out-front L.geometry in
        record {
          fits = ok;
          done = subst (λ (X : Ledger). Rep X (uncut L.geometry img (one_target (entry_at i) s))) (sym (done-is false reserve))
              (rep-rewritten L img rep i g found L.root refl (accessed_entry time g.entry) (good L img rep i g found) (unused L img rep i g found) refl refl
              (catalogue_of (view img)) (free-said L img rep) _
              (ready-uncut L.geometry img (one_target (entry_at i) s) (rep-geometry L img rep) ok rep.ready) s
              (ap (root_in e) (one-other L img rep reserve (entry_at i) s (omega arith) (omega arith) whl root_at (front root_at (omega arith)) (λ z. omega arith) (λ z. omega arith)) ∙ rep.says.root)
              (one-here L img rep reserve (entry_at i) s (omega arith) (omega arith) whl) (accessed-occupied e time old ∙ was.1)
              (accessed-entry e time old (length-view img (entry_at i)) fits ∙ ap (accessed_entry time) was.2)
              (λ j o n0 n1 ni. one-other L img rep reserve (entry_at i) s (omega arith) (omega arith) whl j o n0 ni));
          partly = λ p m. part-keeps L img (one_target (entry_at i) s) rep ok refl p m;
        }

  read-carried : time < 2 ^ 64 → Passed (read_conditions (catalogue L) name offset asked time room) → (b : Bool) → lacks_reserve (catalogue L) ≡ b
      → Carried L img (read name offset asked time room space) (cond b none (some (read_plan (catalogue L) (view img) i time)))
  read-carried ht passed true e = subst (λ (X : Ledger). Rep X img) (sym (done-is true e)) rep
  read-carried ht passed false e = reads ht passed e

  -- what read does
  pub read-effect : time < 2 ^ 64 → Effect Rep (read name offset asked time room space) L img
  unfolding on_volume read_decision read_planned step
  read-effect ht =
      effect-judged L img rep (read name offset asked time room space) _ _ space (access_records L) (read-judges L img rep name offset asked time room space) refl refl
      (λ passed never. read-carried ht passed (lacks_reserve (catalogue L)) refl)
