-- Summary and check. "The volume summary holds the geometry and the state." T-08: "The summary carries the edition", in the geometry. "The summary gives only 0 to 3."
use Rattle.std.specs.Prelude.{ℕ, cond, not, [], ◌∷◌, ltb}
use Rattle.model.specs.declared.Geometry.{Geometry}
use Rattle.model.specs.declared.State.{State}
use Rattle.model.specs.declared.State.TheVariants.{Clean, Waiting, Damaged, Unfinished}
use Rattle.model.specs.declared.Summary.{Summary}
use Rattle.model.specs.Answers.{Summarized, Located, Checked, Verdict}
use Rattle.model.specs.declared.Area.{Area}
use Rattle.model.specs.declared.Area.TheVariants.{Journal, Table, Data, Reserve}
use Rattle.model.specs.Geometry.{SectorNumber, superblock_at, in_bounds, journal_at, table_at, data_at, reserve_at}
use Rattle.model.specs.Disk.{Disk}
use Rattle.model.specs.Superblock.{is_volume, geometry_in, state_on}
use Rattle.model.specs.Refusals.{verdict_of, refusal, image_verdict, given, judged}

-- a refusal: "all other result numbers are then 0, a state reads clean"
abbrev pub no_summary : Verdict → Summarized
no_summary v = record { number = v.number; summary = record { geometry = record { files = 0; extents = 0; extent_sectors = 0; edition = 0 }; state = Clean } }

abbrev pub summary_on : Disk → Summarized
summary_on d = record { number = 0; summary = record { geometry = geometry_in (d superblock_at); state = state_on d } }

unfoldable pub summary_answer : ℕ → Disk → Summarized
summary_answer len d = given (image_verdict len d) (summary_on d) no_summary

-- the small program's, of the len bytes of its input, one sector of them: "1 for a short input", "image length isn't tested here"
unfoldable pub superblock_verdict : ℕ → Disk → Verdict
superblock_verdict len d =
    let s = d superblock_at in
    verdict_of ((ltb len 512, refusal 1) ∷ (not (is_volume s), refusal 2) ∷ (not (in_bounds (geometry_in s)), refusal 3) ∷ [])

unfoldable pub superblock_answer : ℕ → Disk → Summarized
superblock_answer len d = given (superblock_verdict len d) (summary_on d) no_summary

-- the state as numbers: 0 clean, 1 waiting, 2 damaged, 3 unfinished; and a waiting volume's entry count
abbrev pub state_code : State → ℕ
state_code Clean = 0
state_code (Waiting n) = 1
state_code Damaged = 2
state_code Unfinished = 3

abbrev pub state_entries : State → ℕ
state_entries Clean = 0
state_entries (Waiting n) = n
state_entries Damaged = 0
state_entries Unfinished = 0

-- "Once made, the summary alone answers where each area starts; one whose geometry breaks the bounds answers 3."
abbrev pub located : (Geometry → SectorNumber) → Summary → Located
located area s =
    cond (in_bounds s.geometry) (record { number = 0; sector = record { 0 = area s.geometry } }) (record { number = 3; sector = record { 0 = 0 } })

abbrev pub area_at : Area → Geometry → SectorNumber
area_at Journal g = journal_at g
area_at Table g = table_at g
area_at Data g = data_at g
area_at Reserve g = reserve_at g

-- check: 1 to 7, else 0
unfoldable pub check_answer : ℕ → Disk → Checked
check_answer len d = record { verdict = judged len d }
