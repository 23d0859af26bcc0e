-- "Resize: shrinking sets size and change time, raises the version and frees extents of offset C or more (C for the new size;
-- freed entries as in delete); targets: entry, changed table sectors. Growing is a write of zeros at the end."
use Rattle.std.specs.Prelude.{ℕ, ◌+◌, ◌-◌, cond, not, ◌&&◌, ◌||◌, List, [], ◌∷◌, ltb, length}
use Rattle.std.proofs.Math.Option.{Option, some}
use Rattle.model.specs.Answers.{Changed}
use Rattle.model.specs.Bytes.{bytes_from}
use Rattle.model.specs.Search.{is_at, index_of}
use Rattle.model.specs.Geometry.{FileNumber, entry_at, extents_for}
use Rattle.model.specs.Disk.{Disk}
use Rattle.model.specs.Edition.{bad_time}
use Rattle.model.specs.Entry.{bad_name, updated_entry_sector}
use Rattle.model.specs.Catalogue.{Catalogue, catalogue_of, file_named, entry_of, owns_from}
use Rattle.model.specs.Refusals.{Conditions, refusal}
use Rattle.model.specs.WriteList.{Plan, sector_write, Decision, decided, answer_of, list_after}
use Rattle.model.specs.Freeing.{freed_sectors}
use Rattle.model.specs.Read.{longest_transfer, size_named}
use Rattle.model.specs.Write.{no_room, write_planned}

-- n zeros
abbrev pub zeros : ℕ → List ℕ
zeros n = bytes_from [] 0 n

unfoldable pub shrink_plan : Catalogue → Disk → FileNumber → ℕ → ℕ → Plan
shrink_plan c d i z time = record {
  data_sectors = [];
  targets =
      sector_write (entry_at i) (updated_entry_sector c.geometry.edition z time (d (entry_at i)))
      ∷ freed_sectors (owns_from c i (extents_for c.geometry z)) c.geometry d;
}

-- a resize to the same size is a write of 0 bytes: "done with an empty list"
unfoldable pub resize_planned : Catalogue → Disk → FileNumber → ℕ → ℕ → Option Plan
resize_planned c d i z time =
    let size = (entry_of c i).size in
    cond (ltb z size) (some (shrink_plan c d i z time)) (write_planned c i d size (zeros (z - size)) time)

-- 8 bad time; 8 bad name, or "a resize that grows a file by more than 65,536"; 9; 13
unfoldable pub resize_conditions : Catalogue → List ℕ → ℕ → ℕ → Conditions
resize_conditions c name z time =
    (bad_time c.geometry.edition time, refusal 8)
    ∷ (bad_name c.geometry.edition name || (is_at (file_named c name) && ltb (size_named c name + longest_transfer) z), refusal 8)
    ∷ (not (is_at (file_named c name)), refusal 9) ∷ (no_room c (index_of (file_named c name)) z, refusal 13) ∷ []

unfoldable pub resize_decision : ℕ → Disk → List ℕ → ℕ → ℕ → ℕ → Decision
resize_decision len d name z time room =
    let c = catalogue_of d in
    decided len d (resize_conditions c name z time) (resize_planned c d (index_of (file_named c name)) z time) room

unfoldable pub resize_answer : ℕ → Disk → List ℕ → ℕ → ℕ → ℕ → Changed
resize_answer len d name z time room = answer_of d (resize_decision len d name z time room)

unfoldable pub resize_list : ℕ → Disk → List ℕ → ℕ → ℕ → List ℕ → List ℕ
resize_list len d name z time list = list_after d (resize_decision len d name z time (length list)) list
