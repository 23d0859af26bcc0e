-- "Format, from a sector count." "Records are asked for one at a time by position."
use Rattle.std.specs.Prelude.{ℕ, zero, suc, ◌+◌, ◌*◌, ◌-◌, ◌/◌, Bool, cond, not, ◌&&◌, List, [], ◌∷◌, eqb, leb, ltb, length}
use Rattle.model.specs.declared.Geometry.{Geometry}
use Rattle.model.specs.Answers.{Verdict, Formatted}
use Rattle.model.specs.Bytes.{put, zero_sector, ones_sector}
use Rattle.model.specs.Search.{tabulate}
use Rattle.model.specs.Geometry.{in_bounds, table_sectors, superblock_at, root_at, entry_at, table_at}
use Rattle.model.specs.Edition.{is_edition, bad_time}
use Rattle.model.specs.Superblock.{new_superblock}
use Rattle.model.specs.Root.{new_root_sector}
use Rattle.model.specs.Refusals.{verdict_of, given, refusal}
use Rattle.model.specs.WriteList.{Record, sector_write, barrier, record_size, record_bytes, stored}

-- a format's arguments: sector count, F, the edition, and the root's id, mode and time
pub record Format : Type 0 where
  pub sectors : ℕ
  pub files : ℕ
  pub edition : ℕ
  pub id : ℕ
  pub mode : ℕ
  pub time : ℕ

-- "Start S at 128 and double while G / S rounded down exceeds 65,535, up to 2^31": 24 doublings at most
unfoldable pub doubled : ℕ → ℕ → ℕ → ℕ
doubled sectors_left zero s = s
doubled sectors_left (suc k) s = let wider = doubled sectors_left k (2 * s) in cond (ltb 65535 (sectors_left / s)) wider s

-- "G = sectors - 546 - F." "N = G / S rounded down."
unfoldable pub geometry_for : ℕ → ℕ → ℕ → Geometry
geometry_for sectors files edition =
    let sectors_left = sectors - 546 - files in
    let s = doubled sectors_left 24 128 in
    record { files = files; extents = sectors_left / s; extent_sectors = s; edition = edition }

-- the geometry of a format's volume
abbrev pub formatted_geometry : Format → Geometry
formatted_geometry a = geometry_for a.sectors a.files a.edition

-- not "F out of bounds, or no geometry"; "No geometry if sectors are too few, N is under 2, or the doubling ends too early",
-- which leaves N above 65,535; nor, T-08, "an edition that is neither 1 nor 2 is 8; edition 1 with a wide time is 8"
unfoldable pub can_format : Format → Bool
can_format a =
    leb (546 + a.files) a.sectors && in_bounds (formatted_geometry a) && is_edition a.edition && not (bad_time a.edition a.time)

abbrev pub format_count : Geometry → ℕ
format_count g = g.files + table_sectors g + 6

-- "superblock with 65535, barrier; root, F zero sectors, T times a sector of 512 bytes, all 255; barrier; superblock with 0, barrier"
unfoldable pub format_record : Geometry → Format → ℕ → Record
format_record g a p =
    cond (eqb p 0) (sector_write superblock_at (new_superblock g 65535))
    (cond (eqb p 1) barrier
    (cond (eqb p 2) (sector_write root_at (new_root_sector g.edition a.id a.mode a.time))
    (cond (ltb p (3 + g.files)) (sector_write (entry_at (p - 3)) zero_sector)
    (cond (ltb p (3 + g.files + table_sectors g)) (sector_write (table_at g + (p - 3 - g.files)) ones_sector)
    (cond (eqb p (4 + g.files + table_sectors g)) (sector_write superblock_at (new_superblock g 0)) barrier)))))

-- 8 F out of bounds or no geometry, bad edition or time, 9 position past the last record, 14 output too short for a record
unfoldable pub format_verdict : Format → ℕ → ℕ → Verdict
format_verdict a p room =
    verdict_of
    ((not (can_format a), refusal 8) ∷ (leb (format_count (formatted_geometry a)) p, refusal 9) ∷ (ltb room record_size, refusal 14) ∷ [])

unfoldable pub format_answer : Format → ℕ → ℕ → Formatted
format_answer a p room = given (format_verdict a p room) (record { number = 0; length = record_size }) (λ v. record { number = v.number; length = 0 })

-- the record is put at the output's front and carries its position, so that all of them joined in order are a list (T-09)
unfoldable pub format_output : Format → ℕ → List ℕ → List ℕ
format_output a p out =
    given (format_verdict a p (length out)) (put out 0 (record_bytes p (format_record (formatted_geometry a) a p))) (λ v. out)

-- the image on which all records of the format landed in order
unfoldable pub formatted_image : Format → List ℕ → List ℕ
formatted_image a img = let g = formatted_geometry a in stored (tabulate (format_record g a) 0 (format_count g)) img
