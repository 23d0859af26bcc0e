-- "Read gives min(count, size - offset) bytes." 8 bad name or more than 65,536 bytes asked, 9, 12 offset greater than size, 14.
-- T-02: "Read and list now take a time and also give a write list: one target, the entry or the root, with the access time set and the
-- version unchanged. Refusal 14 covers both buffers and neither changes." "A read of 0 bytes still sets the time." T-12: where fewer than K extents
-- are free, "read and list answer there with an empty write list and the access time stays".
use Rattle.std.specs.Prelude.{ℕ, ◌-◌, min, cond, not, ◌||◌, List, [], ◌∷◌, ltb, length}
use Rattle.std.proofs.Math.Option.{Option, none, some}
use Rattle.model.specs.Answers.{BytesRead, Verdict}
use Rattle.model.specs.Bytes.{put}
use Rattle.model.specs.Search.{is_at, index_of}
use Rattle.model.specs.Geometry.{FileNumber, entry_at}
use Rattle.model.specs.Disk.{Disk}
use Rattle.model.specs.Edition.{bad_time}
use Rattle.model.specs.Entry.{bad_name, accessed_entry_sector}
use Rattle.model.specs.Catalogue.{Catalogue, catalogue_of, file_named, lacks_reserve, entry_of, file_bytes}
use Rattle.model.specs.Refusals.{Conditions, given, refusal}
use Rattle.model.specs.WriteList.{Plan, one_target, groups_for, list_length, Decision, decided, list_after}

-- "a read or write of more than 65,536 bytes"
abbrev pub longest_transfer : ℕ
longest_transfer = 65536

-- how many bytes of a file of this size are given
abbrev pub read_count : ℕ → ℕ → ℕ → ℕ
read_count size offset asked = min asked (size - offset)

unfoldable pub size_named : Catalogue → List ℕ → ℕ
size_named c name = (entry_of c (index_of (file_named c name))).size

-- 8 bad time; 8, 9, 12, and 14 by the output's length
unfoldable pub read_conditions : Catalogue → List ℕ → ℕ → ℕ → ℕ → ℕ → Conditions
read_conditions c name offset asked time room =
    (bad_time c.geometry.edition time, refusal 8) ∷ (bad_name c.geometry.edition name || ltb longest_transfer asked, refusal 8)
    ∷ (not (is_at (file_named c name)), refusal 9) ∷ (ltb (size_named c name) offset, refusal 12)
    ∷ (ltb room (read_count (size_named c name) offset asked), refusal 14) ∷ []

unfoldable pub read_plan : Catalogue → Disk → FileNumber → ℕ → Plan
read_plan c d i time = one_target (entry_at i) (accessed_entry_sector c.geometry.edition time (d (entry_at i)))

unfoldable pub read_planned : Catalogue → Disk → FileNumber → ℕ → Option Plan
read_planned c d i time = cond (lacks_reserve c) none (some (read_plan c d i time))

-- room is the output's length, space the list's
unfoldable pub read_decision : ℕ → Disk → List ℕ → ℕ → ℕ → ℕ → ℕ → ℕ → Decision
read_decision len d name offset asked time room space =
    let c = catalogue_of d in
    decided len d (read_conditions c name offset asked time room) (read_planned c d (index_of (file_named c name)) time) space

abbrev pub not_read : Verdict → BytesRead
not_read v = record { verdict = v; count = 0; length = 0 }

unfoldable pub read_of : Decision → Disk → List ℕ → ℕ → ℕ → BytesRead
read_of x d name offset asked =
    given x.verdict
    (record { verdict = x.verdict; count = read_count (size_named (catalogue_of d) name) offset asked; length = list_length (groups_for d x.plan) })
    not_read

unfoldable pub read_answer : ℕ → Disk → List ℕ → ℕ → ℕ → ℕ → ℕ → ℕ → BytesRead
read_answer len d name offset asked time room space = read_of (read_decision len d name offset asked time room space) d name offset asked

-- the bytes that are given, as many as the answer counts: none by a refusal
unfoldable pub read_gives : ℕ → Disk → List ℕ → ℕ → ℕ → ℕ → ℕ → ℕ → List ℕ
read_gives len d name offset asked time room space =
    let c = catalogue_of d in
    file_bytes c d (index_of (file_named c name)) offset (read_answer len d name offset asked time room space).count

-- the output and the list after the call
unfoldable pub read_output : ℕ → Disk → List ℕ → ℕ → ℕ → ℕ → List ℕ → ℕ → List ℕ
read_output len d name offset asked time out space = put out 0 (read_gives len d name offset asked time (length out) space)

unfoldable pub read_list : ℕ → Disk → List ℕ → ℕ → ℕ → ℕ → ℕ → List ℕ → List ℕ
read_list len d name offset asked time room list = list_after d (read_decision len d name offset asked time room (length list)) list
