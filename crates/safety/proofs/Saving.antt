-- A RENAME THAT WAS CUT leaves both old names or the new state; a save by a temporary name leaves the old file whole or the new one whole.
-- Assumes nothing.
use Prim.Native.Nat.{ℕ}
use mathlib.Core.Path.{◌≡◌, refl, sym, ap, ◌∙◌, subst}
use mathlib.Core.Logic.{◌≢◌, ◌⊎◌, inl, inr, ⊎_elim}
use mathlib.Core.Bool.{Bool, true, false, cond}
use mathlib.Core.List.{List, [], ◌∷◌, ◌++◌}
use mathlib.Core.Option.{Option, none, some, none-ne-some}
use lib.ListN.{length}
use Rattle.model.specs.Search.{index_of, equal_bytes}
use Rattle.model.specs.Disk.{Disk, view}
use Rattle.model.specs.Catalogue.{Catalogue, catalogue_of, file_named}
use Rattle.model.specs.Refusals.{Conditions, verdict_of, and_then, is_done, judged}
use Rattle.model.specs.WriteList.{Plan, stored, groups_for, plan_conditions, decided}
use Rattle.model.specs.Cut.{Cut, landed, start_mark}
use Rattle.model.specs.Rename.{rename_conditions, rename_plan, rename_planned, rename_decision}
use Rattle.model.specs.Ledger.{Ledger, Call, rename, Answer, Feed, step, ledger_from}
use Rattle.model.specs.Run.{volume_plan, Fits, steady, on_volume}
use Rattle.safety.specs.Described.{SoundRun}
use Rattle.safety.specs.Naming.{NotAmong, NoneNames, Contents, file_on}
use Rattle.safety.specs.Saving.{renamed_contents, SameFiles, NewState, OnlyOf}
use Rattle.safety.proofs.Commit.{RecoveredTo}
use Rattle.safety.proofs.Naming.{rename-found}
use Rattle.safety.proofs.FileSaid.{renamed-said, renamed-gone, said}
use Rattle.safety.proofs.Corollaries.{one-named, was, unnamed-kept}
use Rattle.safety.proofs.CutWhole.{told-by, zero_number, cut-others, kept-file, kept-catalogue}

rename-kept : (old new : List ℕ) (time room : ℕ) (L : Ledger) (k : List Bool) → (step (rename old new time room) L).cut k ≡ L
unfolding step
rename-kept old new time room L k = refl

-- no plan, also where it is done; so a rename that has a plan is of two names
none-decided : (len : ℕ) (d : Disk) (cs : Conditions) (room : ℕ) → (decided len d cs none room).plan ≡ none
unfolding decided
none-decided len d cs room = go (is_done (and_then (judged len d) (and_then (verdict_of cs) (verdict_of (plan_conditions d none room)))))
  where
    go : (b : Bool) → cond {A = Option Plan} b none none ≡ none
    go true = refl
    go false = refl

itself : (c : Catalogue) (d : Disk) (old new : List ℕ) (time : ℕ) → equal_bytes old new ≡ true → rename_planned c d old new time ≡ none
unfolding rename_planned
itself c d old new time e = ap (λ (b : Bool). cond b none (some (rename_plan c d (index_of (file_named c old)) (file_named c new) new time))) e

two-names : (img old new : List ℕ) (time room : ℕ) (p : Plan) → volume_plan (rename old new time room) img ≡ some p → equal_bytes old new ≡ false
unfolding on_volume rename_decision
two-names img old new time room p e = go (equal_bytes old new) refl
  where
    d : Disk
    d = view img

    cs : Conditions
    cs = rename_conditions (catalogue_of d) old new time

    go : (b : Bool) → equal_bytes old new ≡ b → equal_bytes old new ≡ false
    go true q =
        absurd (none-ne-some p
        (sym (ap (λ (o : Option Plan). (decided (length img) d cs o room).plan) (itself (catalogue_of d) d old new time q) ∙ none-decided (length img) d cs room) ∙ e))
    go false q = q

module _ {L₀ : Ledger} {img img' : List ℕ} {fs : List Feed} {rs : List Answer} (old new : List ℕ) (time room : ℕ) (p : Plan) (x : Cut)
    (r : SoundRun L₀ steady img fs rs) (fit : Fits (rename old new time room)) (planned : volume_plan (rename old new time room) img ≡ some p)
    (m : RecoveredTo (stored (landed x (groups_for (view img) (some p))) img) img') (file : Contents) (there : file_on img old ≡ some file) where
  abbrev c : Call
  c = rename old new time room

  abbrev L : Ledger
  L = ledger_from L₀ fs

  marked : start_mark x ≡ true → NewState old new time file img img'
  marked e =
      let h = rename-found L old new time room (zero_number c p x r fit planned m) in
      let d = two-names img old new time room p planned in
      let s = said (step c L).done img' (told-by c p x r fit planned m true e) in
      record {
        renamed = s new ∙ renamed-said L old new (one-named r) h d time room ∙ ap (λ (o : Contents). some (renamed_contents new time o)) (was r old file there h);
        gone = s old ∙ renamed-gone L old new (one-named r) h d time room;
        others = λ n no nn. cut-others c p x r fit planned m n (no, (nn, tt));
      }

  -- A RENAME THAT WAS CUT anywhere, after the recovery that was completed: the new state where its start mark landed, else both old names
  pub rename-cut : ((start_mark x ≡ true) × NewState old new time file img img') ⊎ ((start_mark x ≡ false) × SameFiles img img')
  rename-cut = go (start_mark x) refl
    where
      go : (b : Bool) → start_mark x ≡ b → ((start_mark x ≡ true) × NewState old new time file img img') ⊎ ((start_mark x ≡ false) × SameFiles img img')
      go true e = inl (e, marked e)
      go false e = inr (e, (λ n. kept-file c p x r fit planned m (rename-kept old new time room L) e n))

  pub rename-cut-catalogue : start_mark x ≡ false → catalogue_of (view img') ≡ catalogue_of (view img)
  rename-cut-catalogue e = kept-catalogue c p x r fit planned m (rename-kept old new time room L) e

-- ---- a save

pub none_named : (temporary name : List ℕ) (gs : List Feed) → temporary ≢ name → OnlyOf temporary gs → NoneNames name gs
none_named temporary name [] ne h = tt
none_named temporary name (g ∷ gs) ne h = (subst (NotAmong name) (sym h.0) (ne, tt), none_named temporary name gs ne h.1)

-- A SAVE: calls changed the file of the temporary name alone, whole or cut, and what they left was renamed onto the name. Until the rename
-- the file of the name stays as it was; and after a rename that was cut anywhere and the recovery that was completed it still is, or, where
-- the start mark landed, it is the new file whole, and no file has the temporary name
pub save-unstarted : {L₀ : Ledger} {img img' : List ℕ} {fs : List Feed} {rs rs' : List Answer} (temporary name : List ℕ) (gs : List Feed)
    → temporary ≢ name → SoundRun L₀ steady img fs rs → SoundRun L₀ steady img' (gs ++ fs) rs' → OnlyOf temporary gs
    → file_on img' name ≡ file_on img name
save-unstarted temporary name gs ne r r' h = unnamed-kept gs name r r' (none_named temporary name gs ne h)

pub save-cut : {L₀ : Ledger} {img made img' : List ℕ} {fs : List Feed} {rs rs' : List Answer} (temporary name : List ℕ) (gs : List Feed) (time room : ℕ)
    (p : Plan) (x : Cut) (file : Contents)
    → temporary ≢ name → SoundRun L₀ steady img fs rs → SoundRun L₀ steady made (gs ++ fs) rs' → OnlyOf temporary gs → file_on made temporary ≡ some file
    → Fits (rename temporary name time room) → volume_plan (rename temporary name time room) made ≡ some p
    → RecoveredTo (stored (landed x (groups_for (view made) (some p))) made) img'
    → (file_on img' name ≡ file_on img name) ⊎ ((file_on img' name ≡ some (renamed_contents name time file)) × (file_on img' temporary ≡ none))
save-cut temporary name gs time room p x file ne r r' h there fit planned m =
    ⊎_elim (λ s. inr (s.1.renamed, s.1.gone)) (λ s. inl (s.1 name ∙ save-unstarted temporary name gs ne r r' h))
    (rename-cut temporary name time room p x r' fit planned m file there)
