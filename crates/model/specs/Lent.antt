-- T-11: "Every call on an image but T-05's and carrying out gains a form that borrows only the sectors before the data area and the volume's
-- sector count, which refusal 3 takes for the image's; refusal 1 looks at the lent sectors." A form answers, and leaves its list, as the call does on
-- an image of `lent_length` bytes whose sectors are the lent ones. What a call takes from the data area is asked for, one sector after the other.
use Rattle.std.specs.Prelude.{ℕ, ◌+◌, ◌*◌, ◌-◌, ◌/◌, ◌%◌, min, max, Bool, cond, ◌&&◌, ◌||◌, List, [], ◌∷◌, eqb, leb, ltb, length, get_or}
use Rattle.model.specs.Answers.{BytesRead, Changed, Recovered}
use Rattle.model.specs.declared.Reading.{Reading}
use Rattle.model.specs.declared.Part.{Part}
use Rattle.model.specs.declared.Writing.{Writing}
use Rattle.model.specs.declared.Recovering.{Recovering}
use Rattle.model.specs.Bytes.{bytes_from, put}
use Rattle.model.specs.Search.{count_below, index_of}
use Rattle.model.specs.Geometry.{SectorNumber, FileNumber, extent_bytes, superblock_at, data_at, extent_at, in_bounds}
use Rattle.model.specs.Disk.{Disk, view}
use Rattle.model.specs.Superblock.{geometry_in, state_on}
use Rattle.model.specs.Journal.{source_at, target_at}
use Rattle.model.specs.Catalogue.{Catalogue, catalogue_of, file_named, extent_of, sector_of}
use Rattle.model.specs.Refusals.{is_whole}
use Rattle.model.specs.Summary.{state_entries}
use Rattle.model.specs.WriteList.{barrier_number, record_size, contents_start}
use Rattle.model.specs.CarryOut.{record_in}
use Rattle.model.specs.Read.{size_named, read_answer}
use Rattle.model.specs.Write.{touched_sectors, file_sector_at, write_answer}
use Rattle.model.specs.Resize.{resize_answer}
use Rattle.model.specs.Recovery.{recovery_answer}

-- the sectors before the data area are lent
unfoldable pub is_front : ℕ → Disk → Bool
is_front len d =
    let g = geometry_in (d superblock_at) in
    is_whole len && in_bounds g && leb (data_at g) (len / 512)

-- of len bytes that are lent of a volume of count sectors. "Lent sectors that end before the data area get 3", as an image of so few sectors does; a
-- count of 0 stands for 1 sector, which gets 3 too
unfoldable pub lent_length : ℕ → ℕ → Disk → ℕ
lent_length len count d = cond (is_front len d) (512 * max 1 count) len

-- what is said of a length and a disk, said of lent sectors and a count
abbrev pub on_lent {ℓ} : {A : Type ℓ} → (ℕ → Disk → A) → List ℕ → ℕ → A
on_lent f front count = f (lent_length (length front) count (view front)) (view front)

-- a data sector is asked for; "A wrong count of supplied bytes gets 8, and that step changes nothing"
unfoldable pub is_asked : SectorNumber → ℕ → Bool
is_asked s n = ltb 0 s && ltb s barrier_number && eqb n 512

-- ---- read: "gives back the data sectors it wants, one after the other in file order, and takes each sector's bytes in turn"

abbrev pub read_idle : BytesRead → Reading
read_idle a = record {
  code = a.verdict.number;
  fault = a.verdict.fault;
  place = a.verdict.place;
  count = a.count;
  length = a.length;
  wanted = 0;
  skip = 0;
  done = 0;
  edge = 0;
  next = 0;
}

-- of file i from an offset on: the sector of the first byte; the span reaches the extent's edge after so many bytes, and goes on in the file's next extent
abbrev pub read_asking : Catalogue → FileNumber → ℕ → BytesRead → Reading
read_asking c i offset a = record {
  code = a.verdict.number;
  fault = a.verdict.fault;
  place = a.verdict.place;
  count = a.count;
  length = a.length;
  wanted = sector_of c i (offset / 512);
  skip = offset % 512;
  done = 0;
  edge = extent_bytes c.geometry - offset % extent_bytes c.geometry;
  next = extent_at c.geometry (extent_of c i (offset / extent_bytes c.geometry + 1));
}

unfoldable pub read_begun : Catalogue → FileNumber → ℕ → BytesRead → Reading
read_begun c i offset a = cond (eqb a.count 0) (read_idle a) (read_asking c i offset a)

-- the form's answer, by the length of the image that it goes by
unfoldable pub read_lent : ℕ → Disk → List ℕ → ℕ → ℕ → ℕ → ℕ → ℕ → Reading
read_lent len d name offset asked time room space =
    let c = catalogue_of d in
    read_begun c (index_of (file_named c name)) offset (read_answer len d name offset asked time room space)

-- how many bytes of the span stand in the sector that is asked for; a step with n bytes and an output of so many is taken
abbrev pub read_part : Reading → ℕ
read_part r = min (512 - r.skip) (r.count - r.done)

unfoldable pub takes_read : Reading → ℕ → ℕ → Bool
takes_read r n room = is_asked r.wanted n && ltb r.skip 512 && ltb r.done r.count && leb r.count room

abbrev pub read_taken : Reading → Reading
read_taken r =
    let n = r.done + read_part r in
    record {
      code = 0;
      fault = r.fault;
      place = r.place;
      count = r.count;
      length = r.length;
      wanted = cond (eqb n r.count) 0 (cond (eqb n r.edge) r.next (r.wanted + 1));
      skip = 0;
      done = n;
      edge = r.edge;
      next = r.next;
    }

abbrev pub read_not_taken : Reading → Reading
read_not_taken r = record {
  code = 8;
  fault = r.fault;
  place = r.place;
  count = r.count;
  length = r.length;
  wanted = r.wanted;
  skip = r.skip;
  done = r.done;
  edge = r.edge;
  next = r.next;
}

-- a step, and what it leaves in the output
unfoldable pub read_step : Reading → ℕ → ℕ → Reading
read_step r n room = cond (takes_read r n room) (read_taken r) (read_not_taken r)

unfoldable pub read_step_output : Reading → List ℕ → List ℕ → List ℕ
read_step_output r bytes out =
    cond (takes_read r (length bytes) (length out)) (put out r.done (bytes_from bytes r.skip (read_part r))) out

-- ---- write: "asks likewise for the at most two partly covered sectors before it makes its list". The list is made, and its length given, with the last
-- of them: until then it lacks the bytes of these sectors that the span doesn't cover

abbrev pub no_part : Part
no_part = record { sector = 0; from = 0; to = 0; position = 0 }

-- the k-th of the sectors that a span of n bytes touches, and the bytes of it that the span covers
abbrev pub part_at : Catalogue → FileNumber → ℕ → ℕ → ℕ → Part
part_at c i offset n k =
    let s = offset / 512 + k in
    record {
      sector = file_sector_at c i s;
      from = max offset (512 * s) - 512 * s;
      to = min (offset + n) (512 * s + 512) - 512 * s;
      position = k;
    }

-- a part before others, unless it is all of its sector
unfoldable pub partly : Part → List Part → List Part
partly p ps = cond (ltb (p.to - p.from) 512) (p ∷ ps) ps

-- the first and the last of the touched sectors, once where they are the same
unfoldable pub partly_covered : Catalogue → FileNumber → ℕ → ℕ → List Part
partly_covered c i offset n =
    let t = touched_sectors offset n in
    partly (part_at c i offset n 0) (cond (ltb 1 t) (partly (part_at c i offset n (t - 1)) []) [])

-- what is asked for by an answer; nothing where no list follows
unfoldable pub write_asking : Changed → List Part → Writing
write_asking a ps = record {
  code = a.verdict.number;
  fault = a.verdict.fault;
  place = a.verdict.place;
  length = cond (eqb (length ps) 0) a.length 0;
  wanted = get_or ps 0 no_part;
  last = get_or ps 1 no_part;
  full = a.length;
}

unfoldable pub write_lent : ℕ → Disk → List ℕ → ℕ → List ℕ → ℕ → ℕ → Writing
write_lent len d name offset bytes time room =
    let c = catalogue_of d in
    let a = write_answer len d name offset bytes time room in
    write_asking a (cond (eqb a.length 0) [] (partly_covered c (index_of (file_named c name)) offset (length bytes)))

-- "growing is a write of zeros at the end"
unfoldable pub resize_lent : ℕ → Disk → List ℕ → ℕ → ℕ → ℕ → Writing
resize_lent len d name z time room =
    let c = catalogue_of d in
    let size = size_named c name in
    let a = resize_answer len d name z time room in
    write_asking a (cond (eqb a.length 0 || ltb z size) [] (partly_covered c (index_of (file_named c name)) size (z - size)))

unfoldable pub takes_write : Writing → ℕ → ℕ → Bool
takes_write w n room =
    is_asked w.wanted.sector n && leb w.wanted.from w.wanted.to && leb w.wanted.to 512 && ltb w.wanted.position (room / record_size)

abbrev pub write_taken : Writing → Writing
write_taken w = record {
  code = 0;
  fault = w.fault;
  place = w.place;
  length = cond (eqb w.last.sector 0) w.full 0;
  wanted = w.last;
  last = no_part;
  full = w.full;
}

abbrev pub write_not_taken : Writing → Writing
write_not_taken w = record { code = 8; fault = w.fault; place = w.place; length = w.length; wanted = w.wanted; last = w.last; full = w.full }

unfoldable pub write_step : Writing → ℕ → ℕ → Writing
write_step w n room = cond (takes_write w n room) (write_taken w) (write_not_taken w)

-- "bytes of a touched sector outside the span stay": those before and behind it, put into the sector's record
unfoldable pub completed : Part → List ℕ → List ℕ → List ℕ
completed p bytes list =
    let at = p.position * record_size + contents_start in
    put (put list at (bytes_from bytes 0 p.from)) (at + p.to) (bytes_from bytes p.to (512 - p.to))

unfoldable pub write_step_list : Writing → List ℕ → List ℕ → List ℕ
write_step_list w bytes list = cond (takes_write w (length bytes) (length list)) (completed w.wanted bytes list) list

-- ---- recovery: "asks likewise for each entry's source, in journal order"; its list is in rising order

abbrev pub recovery_idle : Recovered → Recovering
recovery_idle a = record { code = a.number; length = a.length; wanted = 0; entry = 0; full = a.length }

abbrev pub recovery_asking : Disk → Recovered → Recovering
recovery_asking d a = record { code = a.number; length = 0; wanted = source_at (geometry_in (d superblock_at)) d 0; entry = 0; full = a.length }

unfoldable pub recovery_lent : ℕ → Disk → ℕ → Recovering
recovery_lent len d room = let a = recovery_answer len d room in cond (eqb a.length 0) (recovery_idle a) (recovery_asking d a)

module _ (d : Disk) where
  -- how many entries wait
  abbrev pub entries_waiting : ℕ
  entries_waiting = state_entries (state_on d)

  -- the record of entry k's target in the list: record k where the list shows it there, as it does where the targets rise; else as many records stand
  -- before it as there are targets below it
  unfoldable pub target_place : List ℕ → ℕ → ℕ
  target_place list k =
      let g = geometry_in (d superblock_at) in
      cond (eqb (record_in list k).sector (target_at g d k)) k (count_below (λ j. ltb (target_at g d j) (target_at g d k)) entries_waiting)

  -- the len bytes lent are those of the recovery that asks: a journal that waits, and the source of its entry
  unfoldable pub takes_source : ℕ → Recovering → ℕ → ℕ → Bool
  takes_source len v n room =
      is_asked v.wanted n && is_front len d && ltb v.entry entries_waiting
      && eqb v.wanted (source_at (geometry_in (d superblock_at)) d v.entry) && leb ((entries_waiting + 3) * record_size) room

  abbrev pub source_taken : Recovering → Recovering
  source_taken v =
      let k = v.entry + 1 in
      record {
        code = 0;
        length = cond (eqb k entries_waiting) v.full 0;
        wanted = cond (eqb k entries_waiting) 0 (source_at (geometry_in (d superblock_at)) d k);
        entry = k;
        full = v.full;
      }

  abbrev pub source_not_taken : Recovering → Recovering
  source_not_taken v = record { code = 8; length = v.length; wanted = v.wanted; entry = v.entry; full = v.full }

  unfoldable pub recovery_step : ℕ → Recovering → ℕ → ℕ → Recovering
  recovery_step len v n room = cond (takes_source len v n room) (source_taken v) (source_not_taken v)

  -- the source's bytes are the contents of the target's record
  unfoldable pub recovery_step_list : ℕ → Recovering → List ℕ → List ℕ → List ℕ
  recovery_step_list len v bytes list =
      cond (takes_source len v (length bytes) (length list)) (put list (target_place list v.entry * record_size + contents_start) bytes) list
