-- T-11: THE LENT FORMS ARE THE CALLS, and so demand 3 holds of a run whose calls are made in them. Assumes nothing.
use Prim.Native.Nat.{ℕ}
use mathlib.Core.Path.{ap, ◌∙◌, subst}
use mathlib.Core.List.{List, ◌∷◌}
use Rattle.model.specs.Ledger.{Call, summary, check, find, list, read, create, delete, resize, write, rename, rename_set, Answer, whole}
use Rattle.model.specs.Run.{Phase, steady, Run, calls}
use Rattle.model.specs.Demand3.{Demand3}
use Rattle.safety.specs.LentForms.{Lends, LentCall, LentForms, LentDemand3}
use Rattle.safety.proofs.Theorem.{demand3}
use Rattle.safety.proofs.LentCalls.{lent-summary, lent-check, lent-find, lent-list, lent-create, lent-delete, lent-rename, lent-rename-set}
use Rattle.safety.proofs.LentOthers.{lent-others}
use Rattle.safety.proofs.LentRead.{lent-read, read-order}
use Rattle.safety.proofs.LentWrite.{lent-write, lent-resize}
use Rattle.safety.proofs.LentRecovery.{lent-recovery}

lent-call : (img front : List ℕ) (count : ℕ) → Lends img front count → (c : Call) → LentCall img front count c
lent-call img front count h summary = lent-summary img front count h
lent-call img front count h check = lent-check img front count h
lent-call img front count h (find name) = lent-find img front count h name
lent-call img front count h (list i time room space) = lent-list img front count h i time room space
lent-call img front count h (read name offset asked time room space) = lent-read img front count h name offset asked time room space
lent-call img front count h (create name id mode time room) = lent-create img front count h name id mode time room
lent-call img front count h (delete name time room) = lent-delete img front count h name time room
lent-call img front count h (resize name size time room) = lent-resize img front count h name size time room
lent-call img front count h (write name offset bytes time room) = lent-write img front count h name offset bytes time room
lent-call img front count h (rename old new time room) = lent-rename img front count h old new time room
lent-call img front count h (rename_set names lengths time room) = lent-rename-set img front count h names lengths time room

-- THE FORMS ARE THE CALLS
pub lent-forms : LentForms
unfolding LentForms
lent-forms img front count h = (lent-call img front count h, lent-others img front count h, lent-recovery img front count h, read-order img front count h)

-- DEMAND 3 OF LENT FORMS: a form's answer and list are those of a call that the run may go on with
pub lent-demand3 : LentDemand3
unfolding LentDemand3 Demand3
lent-demand3 a phase img fs rs r front count h = (
  λ c fit e.
      let call = lent-call img front count h c in
      let after = demand3 a steady _ (whole c ∷ fs) _ (calls (subst (λ (ph : Phase). Run a ph img fs rs) e r) c fit) in
      (ap (λ (x : Answer). x ∷ rs) call.answer ∙ after.0, call.leaves-list, after.1),
  lent-recovery img front count h,
)
