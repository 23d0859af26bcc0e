-- A SET OF RENAMES THAT WAS DONE leaves each file as one rename after the other makes it; one THAT WAS CUT does, or leaves every file as it was.
-- Assumes nothing.
use Prim.Native.Nat.{ℕ}
use mathlib.Core.Path.{◌≡◌, refl, sym, ap, ◌∙◌, subst, fun_ext}
use mathlib.Core.Logic.{inl, inr}
use mathlib.Core.Bool.{Bool, true, false}
use mathlib.Core.List.{List}
use mathlib.Core.Option.{some}
use Rattle.model.specs.Disk.{view}
use Rattle.model.specs.Catalogue.{catalogue_of}
use Rattle.model.specs.WriteList.{Plan, stored, groups_for, closed}
use Rattle.model.specs.Cut.{Cut, landed, start_mark}
use Rattle.model.specs.Ledger.{Ledger, Call, rename_set, Answer, Feed, number_of, names_of, pairs_of, step, ledger_from, answer}
use Rattle.model.specs.Run.{volume_answer, volume_plan, Fits, steady, calls}
use Rattle.model.specs.Demand3.{Says}
use Rattle.safety.specs.Described.{SoundRun}
use Rattle.safety.specs.RenameSet.{Files, files_after_renames, AllRenamed, AllOrNone}
use Rattle.safety.proofs.Commit.{RecoveredTo}
use Rattle.safety.proofs.Theorem.{represents}
use Rattle.safety.proofs.FilesAfter.{files-after, orderly-represented}
use Rattle.safety.proofs.FileSaid.{said}
use Rattle.safety.proofs.Corollaries.{says, zero-here, done-here}
use Rattle.safety.proofs.CutWhole.{told-by, zero_number, kept-file, kept-catalogue}

set-kept : (names lengths : List ℕ) (time room : ℕ) (L : Ledger) (k : List Bool) → (step (rename_set names lengths time room) L).cut k ≡ L
unfolding step
set-kept names lengths time room L k = refl

module _ {L₀ : Ledger} {img : List ℕ} {fs : List Feed} {rs : List Answer} (names lengths : List ℕ) (time room : ℕ) (r : SoundRun L₀ steady img fs rs)
    (fit : Fits (rename_set names lengths time room)) where
  abbrev c : Call
  c = rename_set names lengths time room

  abbrev L : Ledger
  L = ledger_from L₀ fs

  -- an image that says what the ledger says after all of it
  all_renamed : number_of (answer c L) ≡ 0 → (out : List ℕ) → Says (step c L).done out → AllRenamed names lengths time img out
  all_renamed z out h n =
      said (step c L).done out h n ∙ files-after L (orderly-represented L img (represents r)) c z n
      ∙ ap (λ (x : Files). files_after_renames (pairs_of (names_of names lengths)) time x n) (fun_ext (λ k. sym (said L img (says r) k)))

  -- A SET THAT WAS DONE
  pub set-done : number_of (volume_answer (rename_set names lengths time room) img) ≡ 0
      → AllRenamed names lengths time img (stored (closed (groups_for (view img) (volume_plan (rename_set names lengths time room) img))) img)
  set-done z =
      let out = stored (closed (groups_for (view img) (volume_plan c img))) img in
      all_renamed (zero-here r c fit z) out (subst (λ (X : Ledger). Says X out) (done-here r c fit z) (says (calls r c fit)))

  -- A SET THAT WAS CUT anywhere, after the recovery that was completed
  module _ {img' : List ℕ} (p : Plan) (x : Cut) (planned : volume_plan (rename_set names lengths time room) img ≡ some p)
      (m : RecoveredTo (stored (landed x (groups_for (view img) (some p))) img) img') where
    pub set-cut : AllOrNone names lengths time x img img'
    set-cut = go (start_mark x) refl
      where
        go : (b : Bool) → start_mark x ≡ b → AllOrNone names lengths time x img img'
        go true e = inl (e, all_renamed (zero_number c p x r fit planned m) img' (told-by c p x r fit planned m true e))
        go false e = inr (e, λ n. kept-file c p x r fit planned m (set-kept names lengths time room L) e n)

    pub set-cut-catalogue : start_mark x ≡ false → catalogue_of (view img') ≡ catalogue_of (view img)
    set-cut-catalogue e = kept-catalogue c p x r fit planned m (set-kept names lengths time room L) e
