-- Write lists: "Each record becomes 528 bytes: its position in the list, from 0, in 8 bytes, then the 520 as before" (request T-09),
-- which are "sector number (8), contents (512)"; "A list has four groups, each closed by a barrier: (A) data sectors in file order, then
-- copies, then journal sectors; (B) superblock with length n; (C) the n targets in rising order; (D) superblock with length 0."
use Rattle.std.specs.Prelude.{ℕ, suc, ◌+◌, ◌*◌, ◌-◌, ◌/◌, ◌%◌, ◌^◌, ◌≡◌, Bool, true, false, cond, ◌&&◌, ◌||◌, List, [], ◌∷◌, ◌++◌, map, eqb, ltb, length, get_or}
use Rattle.std.proofs.Math.Option.{Option, none, some}
use Rattle.model.specs.declared.Geometry.{Geometry}
use Rattle.model.specs.Answers.{Verdict, Changed}
use Rattle.model.specs.Bytes.{be_bytes, bytes_from, put, zero_sector}
use Rattle.model.specs.Search.{tabulate}
use Rattle.model.specs.Geometry.{SectorNumber, ExtentNumber, extent_sectors, superblock_at, journal_at, extent_at}
use Rattle.model.specs.Disk.{Disk}
use Rattle.model.specs.Superblock.{geometry_in, with_journal_length}
use Rattle.model.specs.Journal.{journal_sectors, journal_sector}
use Rattle.model.specs.Catalogue.{Catalogue, catalogue_of, lacks_reserve, staging_extents}
use Rattle.model.specs.Refusals.{Conditions, verdict_of, and_then, is_done, refusal, judged}

-- ---- records

pub record Record : Type 0 where
  pub sector : SectorNumber
  pub contents : List ℕ

abbrev pub sector_write : SectorNumber → List ℕ → Record
sector_write s c = record { sector = s; contents = c }

-- "A barrier is number 2^64 - 1 with 512 zero bytes."
abbrev pub barrier_number : ℕ
barrier_number = 2 ^ 64 - 1

unfoldable pub barrier : Record
barrier = sector_write barrier_number zero_sector

-- how many bytes a record has, and where in them its sector's number and its contents start
abbrev pub record_size : ℕ
record_size = 528

abbrev pub number_start : ℕ
number_start = 8

abbrev pub contents_start : ℕ
contents_start = 16

-- the bytes of a record at a position, and of records from a position on
unfoldable pub record_bytes : ℕ → Record → List ℕ
record_bytes p r = be_bytes 8 p ++ be_bytes 8 r.sector ++ bytes_from r.contents 0 512

unfoldable pub list_bytes : ℕ → List Record → List ℕ
list_bytes p [] = []
list_bytes p (r ∷ rs) = record_bytes p r ++ list_bytes (suc p) rs

-- a lent list with records put in from position k: "bytes past the list stay"
unfoldable pub emit : List ℕ → ℕ → List Record → List ℕ
emit list k rs = put list (k * record_size) (list_bytes k rs)

-- what a function that emits leaves: the records es in the list from position k, and the next position
pub record Emitted (l : List ℕ) (k : ℕ) (es : List Record) (m : List ℕ) (j : ℕ) : Type 0 where
  pub holds : m ≡ emit l k es
  pub next : j ≡ k + length es

-- the image after "all writes in order"; a barrier writes nothing
unfoldable pub stored : List Record → List ℕ → List ℕ
stored [] img = img
stored (r ∷ rs) img = stored rs (cond (eqb r.sector barrier_number) img (put img (512 * r.sector) r.contents))

-- what writes in order leave in sector s, which held the bytes x: the contents of the last record for it; and in a disk's sectors
unfoldable pub over : List Record → SectorNumber → List ℕ → List ℕ
over [] s x = x
over (r ∷ rs) s x = over rs s (cond (eqb s r.sector) r.contents x)

unfoldable pub apply : List Record → Disk → Disk
apply rs d s = over rs s (d s)

-- one of the records is for sector s
unfoldable pub hits : List Record → SectorNumber → Bool
hits [] s = false
hits (r ∷ rs) s = eqb s r.sector || hits rs s

-- ---- plans and their groups

-- what a changing call wants written: data sectors in file order, targets in rising order
pub record Plan : Type 0 where
  pub data_sectors : List Record
  pub targets : List Record

-- of a call with one target and no data
abbrev pub one_target : SectorNumber → List ℕ → Plan
one_target s c = record { data_sectors = []; targets = sector_write s c ∷ [] }

abbrev pub Group : Type 0
Group = List Record

-- T-12: "Staging uses the K highest extents free before the call, in rising order": copy k goes to sector k mod S of the (k / S)-th of these
-- extents; so the staging sectors of n copies, and on a volume
unfoldable pub stage_in : Geometry → List ExtentNumber → ℕ → SectorNumber
stage_in g extents k = extent_at g (get_or extents (k / extent_sectors g) 0) + k % extent_sectors g

unfoldable pub stages_in : Geometry → List ExtentNumber → ℕ → List SectorNumber
stages_in g extents n = tabulate (stage_in g extents) 0 n

unfoldable pub staging : Catalogue → ℕ → List SectorNumber
staging c n = stages_in c.geometry (staging_extents c) n

unfoldable pub copies : List SectorNumber → Group → Group
copies stages ts = tabulate (λ k. sector_write (get_or stages k 0) (get_or ts k barrier).contents) 0 (length ts)

abbrev pub sectors_of : Group → List SectorNumber
sectors_of ts = map (λ (r : Record). r.sector) ts

-- the journal of copies in these stages of these targets: "only journal sectors that hold entries are written"
unfoldable pub journal_of : Geometry → List SectorNumber → List SectorNumber → Group
journal_of g stages targets =
    let n = length targets in
    tabulate (λ j. sector_write (journal_at g + j) (journal_sector (λ k. get_or stages k 0) (λ k. get_or targets k 0) n j)) 0 (journal_sectors n)

unfoldable pub group_a : Geometry → List SectorNumber → Plan → Group
group_a g stages p = p.data_sectors ++ copies stages p.targets ++ journal_of g stages (sectors_of p.targets)

abbrev pub superblock_group : Disk → ℕ → Group
superblock_group d n = sector_write superblock_at (with_journal_length n (d superblock_at)) ∷ []

unfoldable pub groups_of : Geometry → List SectorNumber → Disk → Plan → List Group
groups_of g stages d p =
    let n = length p.targets in
    group_a g stages p ∷ superblock_group d n ∷ p.targets ∷ superblock_group d 0 ∷ []

-- no plan, no groups: an empty list
unfoldable pub groups_for : Disk → Option Plan → List Group
groups_for d none = []
groups_for d (some p) = groups_of (geometry_in (d superblock_at)) (staging (catalogue_of d) (length p.targets)) d p

-- the records of groups, a barrier after each, behind those of acc
abbrev pub closed_after : List Record → List Group → List Record
closed_after acc [] = acc
closed_after acc (g ∷ gs) = closed_after (acc ++ g ++ (barrier ∷ [])) gs

abbrev pub closed : List Group → List Record
closed gs = closed_after [] gs

-- how many bytes a list takes; and how many records one of so many data sectors and targets has
abbrev pub list_length : List Group → ℕ
list_length gs = length (closed gs) * record_size

abbrev pub record_count : ℕ → ℕ → ℕ
record_count sectors targets = sectors + targets + journal_sectors targets + 1 + (1 + 1) + (targets + 1) + (1 + 1)

-- ---- what a changing call comes to

-- its verdict, and its plan where it is done and something is to be written
pub record Decision : Type 0 where
  pub verdict : Verdict
  pub plan : Option Plan

-- a recovery's own refusals, last of them 14 list too short for the answer
abbrev pub own_verdict : Conditions → ℕ → ℕ → Verdict
own_verdict cs room needed = and_then (verdict_of cs) (verdict_of ((ltb room needed, refusal 14) ∷ []))

-- a plan has targets
abbrev pub is_planned : Option Plan → Bool
is_planned none = false
is_planned (some p) = true

-- T-12: "a sound volume with fewer than K free refuses with 13 every call that has a target"; 14 list too short for the answer
unfoldable pub plan_conditions : Disk → Option Plan → ℕ → Conditions
plan_conditions d plan room =
    (is_planned plan && lacks_reserve (catalogue_of d), refusal 13) ∷ (ltb room (list_length (groups_for d plan)), refusal 14) ∷ []

-- on an image of len bytes: 1 to 7, its own conditions, 13 and 14 by its plan, or the plan
unfoldable pub decided : ℕ → Disk → Conditions → Option Plan → ℕ → Decision
decided len d cs plan room =
    let v = and_then (judged len d) (and_then (verdict_of cs) (verdict_of (plan_conditions d plan room))) in
    record { verdict = v; plan = cond (is_done v) plan none }

-- its answer, and what it leaves in the lent list
abbrev pub answer_of : Disk → Decision → Changed
answer_of d x = record { verdict = x.verdict; length = list_length (groups_for d x.plan) }

abbrev pub list_after : Disk → Decision → List ℕ → List ℕ
list_after d x list = emit list 0 (closed (groups_for d x.plan))
