-- A GROUP THAT LANDS IN PARTS, and the one record of the group behind it: an image on which a part landed differs only where the group
-- writes, so that all of it, landing later, leaves the same. Recovery's groups C and D are such, of a call's journal (`Commit`) and of any
-- (`AnyJournal`). Assumes nothing.
use Prim.Native.Nat.{ℕ, zero, suc}
use mathlib.Core.Path.{◌≡◌, sym, ap, ◌∙◌, subst}
use mathlib.Core.Logic.{◌⊎◌, inl, inr}
use mathlib.Core.Bool.{Bool, true, false, cond}
use mathlib.Core.List.{List, [], ◌∷◌, ◌++◌, append-nil}
use lib.ListN.{length, get_or}
use Rattle.model.specs.Disk.{Disk, view}
use Rattle.model.specs.WriteList.{Record, Group, stored, apply, hits}
use Rattle.model.specs.Cut.{kept, landed_of}
use Rattle.laws.proofs.Disk.{same_view}
use Rattle.safety.proofs.Apply.{apply-append, apply-agree, apply-miss, All, all_append, all-kept, kept-miss, kept-one, InImage, stored-view, length-stored}

-- an image of so many bytes that shows the disk d wherever the group writes nothing
pub record Begun (len : ℕ) (C : Group) (d : Disk) (img : List ℕ) : Type 0 where
  pub long : length img ≡ len
  pub shows : (j : ℕ) → hits C j ≡ false → view img j ≡ d j

-- the image on which both groups landed
pub record Ended (len : ℕ) (C : Group) (last : Record) (d : Disk) (img : List ℕ) : Type 0 where
  pub long : length img ≡ len
  pub shows : view img ≡ apply (last ∷ []) (apply C d)

module _ (len : ℕ) (C : Group) (last : Record) (d : Disk) (in_c : All (InImage len) C) (in_last : InImage len last) (end : List ℕ) (e : Ended len C last d end) where
  both-in : All (InImage len) (C ++ (last ∷ []))
  both-in = all_append (InImage len) C (last ∷ []) in_c (in_last, tt)

  pub both_end : (img : List ℕ) → Begun len C d img → stored (C ++ (last ∷ [])) img ≡ end
  both_end img b =
      same_view _ _ (length-stored (C ++ (last ∷ [])) img ∙ b.long ∙ sym e.long)
      (stored-view (C ++ (last ∷ [])) img len b.long both-in ∙ apply-append C (last ∷ []) (view img)
      ∙ ap (apply (last ∷ [])) (apply-agree C (view img) d b.shows) ∙ sym e.shows)

  -- any part of it, or of what writes only where it does
  pub part : (ws : Group) (img : List ℕ) → All (InImage len) ws → ((j : ℕ) → hits C j ≡ false → hits ws j ≡ false) → Begun len C d img → Begun len C d (stored ws img)
  part ws img h miss b = record {
    long = length-stored ws img ∙ b.long;
    shows = λ j q. ap (λ (x : Disk). x j) (stored-view ws img len b.long h) ∙ apply-miss ws (view img) j (miss j q) ∙ b.shows j q;
  }

  -- cut anywhere, it is begun still, or at its end
  pub cut-begun : (k : ℕ) (m : List Bool) (img : List ℕ) → Begun len C d img
      → Begun len C d (stored (landed_of k m (C ∷ (last ∷ []) ∷ [])) img) ⊎ (stored (landed_of k m (C ∷ (last ∷ []) ∷ [])) img ≡ end)
  unfolding landed_of
  cut-begun zero m img b = inl (part (kept m C) img (all-kept (InImage len) m C in_c) (λ j q. kept-miss m C j q) b)
  cut-begun (suc zero) m img b =
      subst (λ (x : Group). Begun len C d (stored (C ++ x) img) ⊎ (stored (C ++ x) img ≡ end)) (sym (kept-one m last)) (go (get_or m 0 false))
    where
      go : (t : Bool) → Begun len C d (stored (C ++ cond t (last ∷ []) []) img) ⊎ (stored (C ++ cond t (last ∷ []) []) img ≡ end)
      go true = inr (both_end img b)
      go false = inl (rw append-nil (part C img in_c (λ j q. q) b))
  cut-begun (suc (suc k)) m img b = inr (both_end img b)
