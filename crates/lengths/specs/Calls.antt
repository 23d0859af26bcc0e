-- The numbers by which C knows the calls that give a list.
use Rattle.std.specs.Prelude.{ℕ, ◌≡◌, Result, MatchResult}
use Rattle.model.specs.declared.Refusal.{Refusal}
use Rattle.lengths.specs.declared.Call.{Call}

abbrev pub call_number : Call → ℕ
call_number Call.Access = 1
call_number Call.Create = 2
call_number Call.Delete = 3
call_number Call.Rename = 4
call_number Call.RenameSet = 5
call_number Call.Resize = 6
call_number Call.Write = 7
call_number Call.Repair = 8
call_number Call.Recover = 9
call_number Call.RecoverSlice = 10

-- the call of a number, or the refusal of one that is no call's
abbrev pub IsCallOf : ℕ → Result Call Refusal → Type 0
IsCallOf n r = MatchResult r (λ c. call_number c ≡ n) (λ e. (e ≡ Refusal.BadArgument) × ((c : Call) → call_number c ≡ n → ⊥))
