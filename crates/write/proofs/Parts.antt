-- T-11: what a write asks for, by the code's tests. Assumes nothing.
use Prim.Native.Nat.{ℕ, ◌-◌, ◌≤◌, ◌<◌}
use mathlib.Core.Path.{◌≡◌, refl, sym, ap, ◌∙◌}
use mathlib.Core.Bool.{Bool, true, false, cond}
use mathlib.Core.List.{List, [], ◌∷◌}
use lib.Dec.{eqb, ltb}
use borrow.Author.Tests.{lt-ltb, le-ltb, ne_eqb}
use Rattle.std.specs.Prelude.{Option, Some, None}
use Rattle.model.specs.Answers.{Changed}
use Rattle.model.specs.declared.Part.{Part}
use Rattle.model.specs.Catalogue.{Catalogue}
use Rattle.model.specs.Write.{touched_sectors}
use Rattle.model.specs.Lent.{part_at, partly, partly_covered, write_asking}
use Rattle.write.specs.Parts.{before}

-- the code's part, unless the span covers all of its sector
abbrev pub part_of : Part → Option Part
part_of p = cond (ltb (p.to - p.from) 512) (Some p) None

before-is : (p : Part) (ps : List Part) → before (part_of p) ps ≡ partly p ps
unfolding partly
before-is p ps = go (ltb (p.to - p.from) 512)
  where
    go : (b : Bool) → before (cond b (Some p) None) ps ≡ cond b (p ∷ ps) ps
    go true = refl
    go false = refl

-- where a list follows
some-asked : (a : Changed) (ps : List Part) → (a.length ≡ 0 → ⊥) → write_asking a ps ≡ write_asking a (cond (eqb a.length 0) [] ps)
some-asked a ps n = ap (λ (b : Bool). write_asking a (cond b [] ps)) (sym (ne_eqb a.length 0 n))

module _ (c : Catalogue) (i offset n : ℕ) where
  module _ (a : Changed) (nonempty : a.length ≡ 0 → ⊥) (p : Part) (is : p ≡ part_at c i offset n 0) where
    -- of several touched sectors, and of one
    pub asks-two : (q : Part) → q ≡ part_at c i offset n (touched_sectors offset n - 1) → 1 < touched_sectors offset n
        → write_asking a (before (part_of p) (before (part_of q) [])) ≡ write_asking a (cond (eqb a.length 0) [] (partly_covered c i offset n))
    unfolding partly_covered
    asks-two q last h = rw (before-is q [], before-is p (partly q []), is, last) (some-asked a _ nonempty ∙ rw (lt-ltb 1 (touched_sectors offset n) h))

    pub asks-one : touched_sectors offset n ≤ 1 → write_asking a (before (part_of p) []) ≡ write_asking a (cond (eqb a.length 0) [] (partly_covered c i offset n))
    unfolding partly_covered
    asks-one h = rw (before-is p [], is) (some-asked a _ nonempty ∙ rw (le-ltb 1 (touched_sectors offset n) h))
