-- What a call comes to on a volume's own length, it comes to on every length by which the refusals 1 to 7 let the volume pass. Assumes nothing.
use Prim.Native.Nat.{ℕ}
use mathlib.Core.Path.{◌≡◌, sym, ap}
use mathlib.Core.List.{List}
use mathlib.Core.Option.{Option}
use lib.ListN.{length}
use Rattle.model.specs.Answers.{Changed, Verdict}
use borrow.Author.Tests.{eqb-false}
use Rattle.model.specs.declared.Refusal.{Refusal}
use Rattle.model.specs.Results.{verdict_for}
use Rattle.laws.proofs.Results.{refused}
use Rattle.model.specs.Disk.{Disk}
use Rattle.model.specs.Refusals.{Conditions, done, judged}
use Rattle.model.specs.WriteList.{Plan, decided}
use Rattle.model.specs.Opened.{volume_length}
use Rattle.laws.proofs.Judged.{judged-own}
use Rattle.commit.specs.Decided.{ComesTo}

-- a judgement that refuses nothing has the number 0; no refusal has
pub done-number : {v : Verdict} → done ≡ v → v.number ≡ 0
done-number e = ap (λ (x : Verdict). x.number) (sym e)

pub refusing : (e : Refusal) → (verdict_for e).number ≡ 0 → ⊥
refusing e = eqb-false (verdict_for e).number 0 (refused e)

pub comes-by : (len : ℕ) (d : Disk) (cs : Conditions) (plan : Option Plan) (list : List ℕ) → (judged len d).number ≡ 0 → {a : Changed} {after : List ℕ}
    → ComesTo d (decided (volume_length d) d cs plan (length list)) list a after → ComesTo d (decided len d cs plan (length list)) list a after
unfolding decided
comes-by len d cs plan list ok h = rw (judged-own len d ok) at h
