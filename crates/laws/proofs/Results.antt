-- Laws of `Results`: what an `Ok` and an `Err` say of a verdict. Assumes nothing.
use mathlib.Core.Path.{◌≡◌, refl, sym, ap, ◌∙◌}
use mathlib.Core.Bool.{false, true≢false}
use borrow.Author.Tests.{eq-eqb}
use Rattle.std.specs.Prelude.{Result, Ok, Err, IsErrAnd}
use Rattle.model.specs.declared.Refusal.{Refusal}
use Rattle.model.specs.Answers.{Verdict}
use Rattle.model.specs.Refusals.{is_done, done}
use Rattle.model.specs.Results.{verdict_for, verdict_in}

-- no refusal has the number 0
pub refused : (e : Refusal) → is_done (verdict_for e) ≡ false
refused Refusal.NotWhole = refl
refused Refusal.NotVolume = refl
refused Refusal.OutOfBounds = refl
refused Refusal.Unfinished = refl
refused Refusal.Waiting = refl
refused Refusal.Damaged = refl
refused (Refusal.Unsound f) = refl
refused Refusal.BadArgument = refl
refused Refusal.NotFound = refl
refused Refusal.Taken = refl
refused Refusal.DirectoryFull = refl
refused Refusal.PastEnd = refl
refused Refusal.VolumeFull = refl
refused Refusal.TooShort = refl
refused (Refusal.BadRename k) = refl
refused (Refusal.NoSuchName k) = refl

-- what a `?` that meets an `Err` hands on
pub handed-on : {A : Type 0} {e : Refusal} (r : Result A Refusal) → IsErrAnd r (λ q. q ≡ e) → r ≡ Err e
handed-on (Ok x) h = absurd h
handed-on (Err q) h = ap Err h

module _ {A : Type 0} {r : Result A Refusal} {v : Verdict} (said : verdict_in r ≡ v) where
  -- of a result that is `Ok`
  pub ok-done : {x : A} → r ≡ Ok x → v ≡ done
  ok-done e = sym said ∙ ap verdict_in e

  pub ok-number : {x : A} → r ≡ Ok x → v.number ≡ 0
  ok-number e = ap (λ (w : Verdict). w.number) (ok-done e)

  -- of one that is `Err`
  pub err-is : {e : Refusal} → r ≡ Err e → v ≡ verdict_for e
  err-is q = sym said ∙ ap verdict_in q

  pub err-number : {e : Refusal} → r ≡ Err e → v.number ≡ 0 → ⊥
  err-number {e} q z = absurd (true≢false (sym (eq-eqb v.number 0 z) ∙ ap is_done (err-is q) ∙ refused e))
