-- "Write at an offset up to the size: size grows if needed, version up, change time set. At most one new extent is ever needed;
-- the lowest usable free one is taken. Bytes of a touched sector outside the span stay. Targets: entry, and the table sector if
-- changed." T-12: "An allocation takes the lowest free extent and is refused 13 if fewer than K + 1 are free."
use Rattle.std.specs.Prelude.{ℕ, ◌+◌, ◌*◌, ◌-◌, ◌/◌, ◌%◌, min, max, Bool, cond, not, ◌&&◌, ◌||◌, List, [], ◌∷◌, eqb, ltb, length}
use Rattle.std.proofs.Math.Option.{Option, none, some}
use Rattle.model.specs.Answers.{Changed}
use Rattle.model.specs.Bytes.{bytes_from, put}
use Rattle.model.specs.Search.{tabulate, is_at, index_of}
use Rattle.model.specs.Geometry.{SectorNumber, FileNumber, extent_sectors, reserve_extents, entry_at, extent_at, extents_for}
use Rattle.model.specs.Disk.{Disk}
use Rattle.model.specs.Edition.{bad_time}
use Rattle.model.specs.Entry.{bad_name, updated_entry_sector}
use Rattle.model.specs.Table.{table_sector_of, taken_in}
use Rattle.model.specs.Catalogue.{Catalogue, catalogue_of, file_named, free_extent, free_extents, entry_of, extent_of}
use Rattle.model.specs.Refusals.{Conditions, refusal}
use Rattle.model.specs.WriteList.{Plan, Record, sector_write, Decision, decided, answer_of, list_after}
use Rattle.model.specs.Read.{longest_transfer, size_named}

-- how many sectors a span of n bytes touches, from file sector offset / 512 on
abbrev pub touched_sectors : ℕ → ℕ → ℕ
touched_sectors offset n = (offset + n + 511) / 512 - offset / 512

-- a sector whose first byte is the file's byte base, with the file's bytes from to to - 1 taken from a span that starts at offset
unfoldable pub spliced_from : List ℕ → ℕ → ℕ → List ℕ → ℕ → ℕ → List ℕ
spliced_from old base offset bytes from to = put old (from - base) (bytes_from bytes (from - offset) (to - from))

-- file sector s, which held the bytes old, with what of the span falls into it: "bytes of a touched sector outside the span stay"
unfoldable pub spliced : ℕ → List ℕ → ℕ → List ℕ → List ℕ
spliced offset bytes s old =
    spliced_from old (512 * s) offset bytes (max offset (512 * s)) (min (offset + length bytes) (512 * s + 512))

module _ (c : Catalogue) (i : FileNumber) where
  -- the extents that file i has, and whether a size needs one more
  abbrev pub held_extents : ℕ
  held_extents = extents_for c.geometry (entry_of c i).size

  unfoldable pub grows : ℕ → Bool
  grows z = ltb held_extents (extents_for c.geometry z)

  -- 13 one more extent is needed and fewer than K + 1 are free
  unfoldable pub no_room : ℕ → Bool
  no_room z = grows z && ltb (length (free_extents c)) (reserve_extents c.geometry + 1)

  -- where file sector s stands: in the file's extents, or behind them in the one that is taken
  unfoldable pub file_sector_at : ℕ → SectorNumber
  file_sector_at s =
      let o = s / extent_sectors c.geometry in
      let e = cond (ltb o held_extents) (extent_of c i o) (index_of (free_extent c)) in
      extent_at c.geometry e + s % extent_sectors c.geometry

  -- the record of file sector s
  unfoldable pub data_sector : Disk → ℕ → List ℕ → ℕ → Record
  data_sector d offset bytes s = sector_write (file_sector_at s) (spliced offset bytes s (d (file_sector_at s)))

  -- the size that the file has after a write of n bytes
  abbrev pub size_after : ℕ → ℕ → ℕ
  size_after offset n = max (entry_of c i).size (offset + n)

  unfoldable pub write_plan : Disk → ℕ → List ℕ → ℕ → Plan
  write_plan d offset bytes time =
      let z = size_after offset (length bytes) in
      let x = index_of (free_extent c) in
      let t = table_sector_of c.geometry x in
      record {
        data_sectors = tabulate (data_sector d offset bytes) (offset / 512) (touched_sectors offset (length bytes));
        targets =
            sector_write (entry_at i) (updated_entry_sector c.geometry.edition z time (d (entry_at i)))
            ∷ cond (grows z) (sector_write t (taken_in x i held_extents (d t)) ∷ []) [];
      }

  -- "A write of 0 bytes is done with an empty list": no plan
  unfoldable pub write_planned : Disk → ℕ → List ℕ → ℕ → Option Plan
  write_planned d offset bytes time = cond (eqb (length bytes) 0) none (some (write_plan d offset bytes time))

-- 8 bad time; 8 bad name or more than 65,536 bytes, 9, 12 offset greater than size, 13
unfoldable pub write_conditions : Catalogue → List ℕ → ℕ → ℕ → ℕ → Conditions
write_conditions c name offset n time =
    let i = index_of (file_named c name) in
    (bad_time c.geometry.edition time, refusal 8)
    ∷ (bad_name c.geometry.edition name || ltb longest_transfer n, refusal 8) ∷ (not (is_at (file_named c name)), refusal 9)
    ∷ (ltb (size_named c name) offset, refusal 12) ∷ (no_room c i (size_after c i offset n), refusal 13) ∷ []

unfoldable pub write_decision : ℕ → Disk → List ℕ → ℕ → List ℕ → ℕ → ℕ → Decision
write_decision len d name offset bytes time room =
    let c = catalogue_of d in
    decided len d (write_conditions c name offset (length bytes) time) (write_planned c (index_of (file_named c name)) d offset bytes time) room

unfoldable pub write_answer : ℕ → Disk → List ℕ → ℕ → List ℕ → ℕ → ℕ → Changed
write_answer len d name offset bytes time room = answer_of d (write_decision len d name offset bytes time room)

unfoldable pub write_list : ℕ → Disk → List ℕ → ℕ → List ℕ → ℕ → List ℕ → List ℕ
write_list len d name offset bytes time list = list_after d (write_decision len d name offset bytes time (length list)) list
