-- What names the file of a read; and what list and read come to once the entry is found: the part of their conditions that is left, and the plan
-- where none of it holds.
use Rattle.std.specs.Prelude.{ℕ, ◌*◌, Bool, cond, not, ◌||◌, List, [], ◌∷◌, ltb, length}
use Rattle.std.proofs.Math.Option.{Option, none}
use Rattle.model.specs.Answers.{BytesRead, Verdict}
use Rattle.model.specs.Geometry.{FileNumber}
use Rattle.model.specs.Disk.{Disk}
use Rattle.model.specs.Search.{is_at}
use Rattle.model.specs.Edition.{bad_time}
use Rattle.model.specs.Entry.{bad_name}
use Rattle.model.specs.Catalogue.{Catalogue, catalogue_of, file_named, lacks_reserve, entry_of}
use Rattle.model.specs.Refusals.{verdict_of, is_done, given, refusal, done}
use Rattle.model.specs.WriteList.{Plan, record_size, groups_for, list_length, Decision}
use Rattle.model.specs.Listing.{list_planned}
use Rattle.model.specs.Read.{longest_transfer, read_count, not_read, read_planned}

-- 8 and 9 of a read, by the edition that the code reads by
abbrev pub asked_verdict : Catalogue → ℕ → List ℕ → ℕ → ℕ → Verdict
asked_verdict c edition name asked time =
    cond (bad_time edition time || (bad_name edition name || ltb longest_transfer asked)) (refusal 8) (cond (not (is_at (file_named c name))) (refusal 9) done)

-- the bytes that the access time's one target takes in the list; none where the reserve lacks (T-12)
abbrev pub access_size : Bool → ℕ
access_size lacks = cond lacks 0 (9 * record_size)

-- "Refusal 14 covers both buffers": an output for so many bytes, and a list for so many
unfoldable pub lent_verdict : ℕ → ℕ → ℕ → ℕ → Verdict
lent_verdict needed room listed space = verdict_of ((ltb room needed, refusal 14) ∷ (ltb space listed, refusal 14) ∷ [])

-- 12 offset greater than size, 14
unfoldable pub file_verdict : ℕ → ℕ → ℕ → ℕ → ℕ → ℕ → Verdict
file_verdict size offset asked room listed space = cond (ltb size offset) (refusal 12) (lent_verdict (read_count size offset asked) room listed space)

abbrev pub planned : Verdict → Option Plan → Decision
planned v p = record { verdict = v; plan = cond (is_done v) p none }

-- of a list of entry i, and of a read of file i
abbrev pub entry_decision : Disk → FileNumber → ℕ → ℕ → ℕ → Decision
entry_decision d i time room space =
    let c = catalogue_of d in
    planned (lent_verdict (length (entry_of c i).name) room (access_size (lacks_reserve c)) space) (list_planned c d time)

abbrev pub file_decision : Disk → FileNumber → ℕ → ℕ → ℕ → ℕ → ℕ → Decision
file_decision d i offset asked time room space =
    let c = catalogue_of d in
    planned (file_verdict (entry_of c i).size offset asked room (access_size (lacks_reserve c)) space) (read_planned c d i time)

-- what such a decision makes of file i
unfoldable pub file_read : Decision → Disk → FileNumber → ℕ → ℕ → BytesRead
file_read x d i offset asked =
    given x.verdict
    (record { verdict = x.verdict; count = read_count (entry_of (catalogue_of d) i).size offset asked; length = list_length (groups_for d x.plan) })
    not_read
