-- The order in which records of a group land makes no difference to the image, where no two of them are for one sector; of a plan's
-- targets no two are. Assumes nothing.
use Prim.Native.Nat.{ℕ, suc, ◌≤◌}
use mathlib.Core.Path.{◌≡◌, refl, sym, ap, ◌∙◌, fun_ext}
use mathlib.Core.Logic.{◌≢◌}
use mathlib.Core.Bool.{Bool, true, false, cond, ◌||◌}
use mathlib.Core.List.{List, [], ◌∷◌, ◌++◌}
use native.Mathlib.Omega.{arith}
use lib.Dec.{eqb}
use lib.ListN.{length}
use borrow.Author.Tests.{eqb-true, eqb-false, eq-eqb, ne_eqb}
use Rattle.model.specs.WriteList.{Record, Group, stored, over, apply, sector_write, hits}
use Rattle.model.specs.Cut.{kept}
use Rattle.laws.proofs.Disk.{same_view}
use Rattle.safety.proofs.Apply.{over-miss, All, all_map, all-miss, all-kept, InImage, length-stored, stored-view, Own}
use Rattle.safety.proofs.Journal.{Rising, picked, write-path}

-- the same records in another order
pub data Reordered : Group → Group → Type 0 where
  same : {ws : Group} → Reordered ws ws
  swapped : {v w : Record} {ws : Group} → Reordered (v ∷ w ∷ ws) (w ∷ v ∷ ws)
  behind : {w : Record} {vs ws : Group} → Reordered vs ws → Reordered (w ∷ vs) (w ∷ ws)
  again : {us vs ws : Group} → Reordered us vs → Reordered vs ws → Reordered us ws

-- the first one last
pub to_end : (w : Record) (ws : Group) → Reordered (w ∷ ws) (ws ++ (w ∷ []))
to_end w [] = same
to_end w (v ∷ ws) = again swapped (behind (to_end w ws))

all-reordered : (P : Record → Type 0) {vs ws : Group} → Reordered vs ws → All P vs → All P ws
all-reordered P same h = h
all-reordered P swapped h = (h.1.0, (h.0, h.1.1))
all-reordered P (behind r) h = (h.0, all-reordered P r h.1)
all-reordered P (again r q) h = all-reordered P q (all-reordered P r h)

own-reordered : {vs ws : Group} → Reordered vs ws → Own vs → Own ws
own-reordered same h = h
own-reordered swapped h = (((λ e. h.0.0 (sym e)), h.1.0), (h.0.1, h.1.1))
own-reordered (behind {w} r) h = (all-reordered (λ v. w.sector ≢ v.sector) r h.0, own-reordered r h.1)
own-reordered (again r q) h = own-reordered q (own-reordered r h)

either_first : (j s t : ℕ) (u v x : List ℕ) → s ≢ t → (a b : Bool) → eqb j s ≡ a → eqb j t ≡ b → cond b v (cond a u x) ≡ cond a u (cond b v x)
either_first j s t u v x ne true true p q = absurd (ne (sym (eqb-true j s p) ∙ eqb-true j t q))
either_first j s t u v x ne true false p q = refl
either_first j s t u v x ne false b p q = refl

pub over-reordered : {vs ws : Group} → Reordered vs ws → Own vs → (j : ℕ) (x : List ℕ) → over vs j x ≡ over ws j x
unfolding over
over-reordered same h j x = refl
over-reordered (swapped {v} {w} {ws}) h j x =
    ap (over ws j) (either_first j v.sector w.sector v.contents w.contents x h.0.0 (eqb j v.sector) (eqb j w.sector) refl refl)
over-reordered (behind {w} r) h j x = over-reordered r h.1 j (cond (eqb j w.sector) w.contents x)
over-reordered (again r q) h j x = over-reordered r h j x ∙ over-reordered q (own-reordered r h) j x

-- THE ORDER MAKES NO DIFFERENCE
pub stored-reordered : {vs ws : Group} (img : List ℕ) → Reordered vs ws → Own vs → All (InImage (length img)) vs → stored vs img ≡ stored ws img
unfolding apply
stored-reordered {vs} {ws} img r own h =
    same_view (stored vs img) (stored ws img) (length-stored vs img ∙ sym (length-stored ws img))
    (stored-view vs img (length img) refl h ∙ fun_ext (λ j. over-reordered r own j _) ∙ sym (stored-view ws img (length img) refl (all-reordered (InImage (length img)) r h)))

-- the same of the part of a group that landed
pub own-kept : (m : List Bool) (ws : Group) → Own ws → Own (kept m ws)
unfolding kept
own-kept [] ws h = tt
own-kept (b ∷ m) [] h = tt
own-kept (true ∷ m) (w ∷ ws) h = (all-kept (λ v. w.sector ≢ v.sector) m ws h.0, own-kept m ws h.1)
own-kept (false ∷ m) (w ∷ ws) h = own-kept m ws h.1

-- targets in rising order
above : (ws : Group) (a : ℕ) → Rising a ws → All (λ w. a ≤ w.sector) ws
above [] a h = tt
above (w ∷ ws) a h =
    (h.0, all_map (λ v. suc w.sector ≤ v.sector) (λ v. a ≤ v.sector) (λ v l. let q : a ≤ w.sector = h.0 in omega arith) ws (above ws (suc w.sector) h.1))

pub rising-own : (ws : Group) (a : ℕ) → Rising a ws → Own ws
rising-own [] a h = tt
rising-own (w ∷ ws) a h =
    (all_map (λ v. suc w.sector ≤ v.sector) (λ v. w.sector ≢ v.sector) (λ v l e. omega arith) ws (above ws (suc w.sector) h.1), rising-own ws (suc w.sector) h.1)

-- the record for sector t among them: there if they write it, with what they leave there
pub picked-is : (ws : Group) (a t : ℕ) (x : List ℕ) → Rising a ws → picked ws t ≡ cond (hits ws t) (sector_write t (over ws t x) ∷ []) []
unfolding picked hits over
picked-is [] a t x r = refl
picked-is (w ∷ ws) a t x r = go (eqb t w.sector) refl (picked-is ws (suc w.sector) t x r.1)
  where
    go : (b : Bool) → eqb t w.sector ≡ b → picked ws t ≡ cond (hits ws t) (sector_write t (over ws t x) ∷ []) []
        → cond (eqb w.sector t) (w ∷ []) (picked ws t) ≡ cond (b || hits ws t) (sector_write t (over ws t (cond b w.contents x)) ∷ []) []
    go true e h =
        let q : t ≡ w.sector = eqb-true t w.sector e in
        let miss : hits ws t ≡ false = all-miss t ws (all_map (λ v. suc w.sector ≤ v.sector) (λ v. t ≢ v.sector) (λ v l z. omega arith) ws (above ws (suc w.sector) r.1)) in
        ap (λ (b : Bool). cond b (w ∷ []) (picked ws t)) (eq-eqb w.sector t (sym q))
        ∙ ap (λ (v : Record). v ∷ []) (sym (write-path t (over ws t w.contents) w q (over-miss ws t w.contents miss)))
    go false e h = ap (λ (b : Bool). cond b (w ∷ []) (picked ws t)) (ne_eqb w.sector t (λ z. eqb-false t w.sector e (sym z))) ∙ h
