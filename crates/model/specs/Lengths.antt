-- How long a list each call can give on a volume, by its geometry alone, so that a small volume needs small buffers: by the most data sectors and
-- targets that the call can have. T-01: "Longest list: 515 targets", which is a rename's on a table of 512 sectors.
use Rattle.std.specs.Prelude.{ℕ, ◌+◌, ◌*◌, min, max, cond, not, ◌&&◌, [], ◌∷◌, eqb, leb}
use Rattle.model.specs.declared.Geometry.{Geometry}
use Rattle.model.specs.Answers.{Longest}
use Rattle.model.specs.Geometry.{extent_sectors, table_sectors, most_targets, reserve_extents, in_bounds}
use Rattle.model.specs.Refusals.{verdict_of, refusal, given}
use Rattle.model.specs.WriteList.{record_size, record_count}

-- ---- records, by call

-- list and read: the root or an entry
abbrev pub access_records : ℕ
access_records = record_count 0 1

-- root and entry; of a delete also table sectors, of a rename a second entry too
abbrev pub create_records : ℕ
create_records = record_count 0 2

abbrev pub delete_records : Geometry → ℕ
delete_records g = record_count 0 (2 + table_sectors g)

abbrev pub rename_records : Geometry → ℕ
rename_records g = record_count 0 (most_targets g)

-- the root, two entries of each of eight renames, and table sectors; T-13: not "more than K x S"
abbrev pub rename_set_records : Geometry → ℕ
rename_set_records g = record_count 0 (min (17 + table_sectors g) (reserve_extents g * extent_sectors g))

-- 65,536 bytes touch at most 129 sectors; targets are the entry and a table sector
abbrev pub write_records : ℕ
write_records = record_count 129 2

-- an entry and table sectors, or a write of zeros
abbrev pub resize_records : Geometry → ℕ
resize_records g = max (record_count 0 (1 + table_sectors g)) write_records

abbrev pub repair_records : Geometry → ℕ
repair_records g = record_count 0 (table_sectors g)

-- the most entries of a good journal: no target twice, each in root, directory or table, and a length of at most 1,024
abbrev pub most_entries : Geometry → ℕ
most_entries g = min 1024 (1 + g.files + table_sectors g)

-- these and a barrier, the superblock and a barrier; of a slice, with any budget, these and a barrier
abbrev pub recover_records : Geometry → ℕ
recover_records g = most_entries g + 3

abbrev pub slice_records : Geometry → ℕ
slice_records g = most_entries g + 1

-- ---- by the call's number; no call, none

unfoldable pub longest_records : ℕ → Geometry → ℕ
longest_records call g =
    cond (eqb call 1) access_records (cond (eqb call 2) create_records (cond (eqb call 3) (delete_records g)
    (cond (eqb call 4) (rename_records g) (cond (eqb call 5) (rename_set_records g) (cond (eqb call 6) (resize_records g)
    (cond (eqb call 7) write_records (cond (eqb call 8) (repair_records g) (cond (eqb call 9) (recover_records g)
    (cond (eqb call 10) (slice_records g) 0)))))))))

-- in bytes
unfoldable pub longest_list : ℕ → Geometry → ℕ
longest_list call g = longest_records call g * record_size

-- ---- the answer

-- 3 "F, N or S out of bounds"; 8 no such call. S is a number of four bytes
unfoldable pub longest_answer : Geometry → ℕ → Longest
longest_answer g call =
    given (verdict_of ((not (in_bounds g && leb (extent_sectors g) 4294967295), refusal 3) ∷ (eqb (longest_records call g) 0, refusal 8) ∷ []))
    (record { number = 0; length = longest_list call g })
    (λ v. record { number = v.number; length = 0 })
