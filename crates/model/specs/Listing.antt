-- "List copies entry i's name and gives its fields." 8 an index of F or more, 9 listed entry is free, 14 output or list too short.
-- T-02: "Read and list now take a time and also give a write list: one target, the entry or the root, with the access time set and the
-- version unchanged. Refusal 14 covers both buffers and neither changes." The fields given are those before the call. T-12: where fewer than K
-- extents are free, "read and list answer there with an empty write list and the access time stays".
use Rattle.std.specs.Prelude.{ℕ, cond, List, [], ◌∷◌, leb, ltb, length}
use Rattle.std.proofs.Math.Option.{Option, none, some}
use Rattle.model.specs.Answers.{Listed, Verdict}
use Rattle.model.specs.Bytes.{put}
use Rattle.model.specs.Geometry.{root_at}
use Rattle.model.specs.Disk.{Disk}
use Rattle.model.specs.Edition.{bad_time}
use Rattle.model.specs.Root.{accessed_root_sector}
use Rattle.model.specs.Entry.{fields_of, no_fields}
use Rattle.model.specs.Catalogue.{Catalogue, catalogue_of, lacks_reserve, entry_of, is_free}
use Rattle.model.specs.Refusals.{Conditions, given, refusal}
use Rattle.model.specs.WriteList.{Plan, one_target, groups_for, list_length, Decision, decided, list_after}

-- 8 bad time; 8, 9, and 14 by the output's length
unfoldable pub list_conditions : Catalogue → ℕ → ℕ → ℕ → Conditions
list_conditions c i time room =
    (bad_time c.geometry.edition time, refusal 8) ∷ (leb c.geometry.files i, refusal 8) ∷ (is_free (c.entries i), refusal 9)
    ∷ (ltb room (length (entry_of c i).name), refusal 14) ∷ []

unfoldable pub list_plan : Catalogue → Disk → ℕ → Plan
list_plan c d time = one_target root_at (accessed_root_sector c.geometry.edition time (d root_at))

unfoldable pub list_planned : Catalogue → Disk → ℕ → Option Plan
list_planned c d time = cond (lacks_reserve c) none (some (list_plan c d time))

-- room is the output's length, space the list's
unfoldable pub list_decision : ℕ → Disk → ℕ → ℕ → ℕ → ℕ → Decision
list_decision len d i time room space =
    let c = catalogue_of d in
    decided len d (list_conditions c i time room) (list_planned c d time) space

abbrev pub not_listed : Verdict → Listed
not_listed v = record { verdict = v; fields = no_fields; length = 0 }

-- what a decision makes of the disk's entry i: the answer, and the name's bytes that are copied out
unfoldable pub listed_of : Decision → Disk → ℕ → Listed
listed_of x d i =
    given x.verdict (record { verdict = x.verdict; fields = fields_of (entry_of (catalogue_of d) i); length = list_length (groups_for d x.plan) }) not_listed

unfoldable pub copied_of : Decision → Disk → ℕ → List ℕ
copied_of x d i = given x.verdict (entry_of (catalogue_of d) i).name (λ r. [])

unfoldable pub list_answer : ℕ → Disk → ℕ → ℕ → ℕ → ℕ → Listed
list_answer len d i time room space = listed_of (list_decision len d i time room space) d i

unfoldable pub list_copies : ℕ → Disk → ℕ → ℕ → ℕ → ℕ → List ℕ
list_copies len d i time room space = copied_of (list_decision len d i time room space) d i

-- the output and the list after the call
unfoldable pub list_output : ℕ → Disk → ℕ → ℕ → List ℕ → ℕ → List ℕ
list_output len d i time out space = put out 0 (list_copies len d i time (length out) space)

unfoldable pub listing_list : ℕ → Disk → ℕ → ℕ → ℕ → List ℕ → List ℕ
listing_list len d i time room list = list_after d (list_decision len d i time room (length list)) list
