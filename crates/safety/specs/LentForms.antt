-- T-11: "Show that answers, lists and bytes read equal those of the whole-image calls if the sectors lent and supplied and the count are an image's." The
-- lent forms of `model`'s `Lent`, each step supplied with the sector that it asks for; what is claimed of them; and demand 3 of a run whose calls are made so.
use Rattle.std.specs.Prelude.{ℕ, zero, suc, ◌*◌, ◌/◌, ◌<◌, ◌≤◌, ◌≡◌, ◌≢◌, true, cond, not, ◌&&◌, List, [], ◌∷◌, eqb, leb, length}
use Rattle.model.specs.Answers.{BytesRead, Changed, Recovered}
use Rattle.model.specs.declared.Reading.{Reading}
use Rattle.model.specs.declared.Writing.{Writing}
use Rattle.model.specs.declared.Recovering.{Recovering}
use Rattle.model.specs.Bytes.{bytes_from}
use Rattle.model.specs.Search.{tabulate, index_of}
use Rattle.model.specs.Geometry.{SectorNumber, extent_sectors, superblock_at, in_bounds, data_at, volume_sectors}
use Rattle.model.specs.Disk.{Disk, view}
use Rattle.model.specs.Superblock.{is_volume, geometry_in}
use Rattle.model.specs.Journal.{source_at}
use Rattle.model.specs.Catalogue.{catalogue_of, file_named, sector_of}
use Rattle.model.specs.Refusals.{verdict_of, refusal, is_whole, image_verdict}
use Rattle.model.specs.WriteList.{emit, closed, groups_for, stored}
use Rattle.model.specs.Scratch.{check_with_answer}
use Rattle.model.specs.Read.{read_answer}
use Rattle.model.specs.Write.{touched_sectors}
use Rattle.model.specs.Resize.{zeros}
use Rattle.model.specs.Repair.{repair_answer, repair_list}
use Rattle.model.specs.Recovery.{recovery_answer, recovery_list}
use Rattle.model.specs.Lent.{lent_length, read_lent, read_step, read_step_output, write_lent, resize_lent}
use Rattle.model.specs.Lent.{write_step, write_step_list, recovery_lent, entries_waiting, recovery_step, recovery_step_list}
use Rattle.model.specs.Format.{Format}
use Rattle.model.specs.Ledger.{Call, summary, check, find, list, read, create, delete, resize, write, rename, rename_set, Answer, gave, changed, Feed, whole, answers_to, ledger_after}
use Rattle.model.specs.Run.{on_volume, volume_answer, volume_plan, Fits, Phase, steady, Run}
use Rattle.model.specs.Demand3.{Says}
use Rattle.safety.specs.LongestLists.{list_room}

-- front is lent of the image, at least its sectors before the data area, and count is its sectors; S fits its field of four bytes
pub record Lends (img front : List ℕ) (count : ℕ) : Type 0 where
  pub sectors : 512 * count ≡ length img
  pub some : 0 < count
  pub whole : is_whole (length front) ≡ true
  pub reaches : data_at (geometry_in (view img superblock_at)) ≤ length front / 512
  pub field : extent_sectors (geometry_in (view img superblock_at)) ≤ 4294967295
  pub same : (s : SectorNumber) → s < data_at (geometry_in (view img superblock_at)) → view front s ≡ view img s

-- the length of the image that a form goes by
abbrev pub goes_by : List ℕ → ℕ → ℕ
goes_by front count = lent_length (length front) count (view front)

-- ---- a form supplied with a disk's sectors, in at most so many steps

unfoldable pub read_fed : ℕ → Disk → Reading → List ℕ → Reading × List ℕ
read_fed zero d r out = (r, out)
read_fed (suc n) d r out =
    let s = d r.wanted in
    let rest = read_fed n d (read_step r (length s) (length out)) (read_step_output r s out) in
    cond (eqb r.wanted 0) (r, out) rest

unfoldable pub write_fed : ℕ → Disk → Writing → List ℕ → Writing × List ℕ
write_fed zero d w l = (w, l)
write_fed (suc n) d w l =
    let s = d w.wanted.sector in
    let rest = write_fed n d (write_step w (length s) (length l)) (write_step_list w s l) in
    cond (eqb w.wanted.sector 0) (w, l) rest

-- the lent sectors are lent again at each step
unfoldable pub recovery_fed : ℕ → List ℕ → Disk → Recovering → List ℕ → Recovering × List ℕ
recovery_fed zero front d v l = (v, l)
recovery_fed (suc n) front d v l =
    let s = d v.wanted in
    let rest =
    recovery_fed n front d (recovery_step (view front) (length front) v (length s) (length l)) (recovery_step_list (view front) (length front) v s l) in
    cond (eqb v.wanted 0) (v, l) rest

-- the sectors that it asks for, in their order
unfoldable pub read_asked : ℕ → Disk → Reading → List ℕ → List SectorNumber
read_asked zero d r out = []
read_asked (suc n) d r out =
    let s = d r.wanted in
    let rest = read_asked n d (read_step r (length s) (length out)) (read_step_output r s out) in
    cond (eqb r.wanted 0) [] (r.wanted ∷ rest)

unfoldable pub recovery_asked : ℕ → List ℕ → Disk → Recovering → List ℕ → List SectorNumber
recovery_asked zero front d v l = []
recovery_asked (suc n) front d v l =
    let s = d v.wanted in
    let rest =
    recovery_asked n front d (recovery_step (view front) (length front) v (length s) (length l)) (recovery_step_list (view front) (length front) v s l) in
    cond (eqb v.wanted 0) [] (v.wanted ∷ rest)

-- steps enough: a read's 65,536 bytes touch at most 129 sectors, a span has two that it covers in part, a journal 1,024 entries
abbrev pub read_steps : ℕ
read_steps = 129

abbrev pub write_steps : ℕ
write_steps = 2

abbrev pub recovery_steps : ℕ
recovery_steps = 1024

-- the answer in a state
abbrev pub read_answered : Reading → BytesRead
read_answered r = record { verdict = record { number = r.code; fault = r.fault; place = r.place }; count = r.count; length = r.length }

abbrev pub write_answered : Writing → Changed
write_answered w = record { verdict = record { number = w.code; fault = w.fault; place = w.place }; length = w.length }

abbrev pub recovery_answered : Recovering → Recovered
recovery_answered v = record { number = v.code; length = v.length }

-- ---- the calls of a run in their lent forms: read, write and resize with their steps, all others at once

module _ (front : List ℕ) (count : ℕ) (d : Disk) where
  unfoldable pub lent_answer : Call → Answer
  lent_answer (read name offset asked time room space) =
      let x = read_fed read_steps d (read_lent (goes_by front count) (view front) name offset asked time room space) (zeros room) in
      gave (read_answered x.0) (bytes_from x.1 0 x.0.count)
  lent_answer (resize name size time room) =
      changed (write_answered (write_fed write_steps d (resize_lent (goes_by front count) (view front) name size time room) (zeros room)).0)
  lent_answer (write name offset bytes time room) =
      changed (write_answered (write_fed write_steps d (write_lent (goes_by front count) (view front) name offset bytes time room) (zeros room)).0)
  lent_answer summary = (on_volume summary (goes_by front count) (view front)).answer
  lent_answer check = (on_volume check (goes_by front count) (view front)).answer
  lent_answer (find name) = (on_volume (find name) (goes_by front count) (view front)).answer
  lent_answer (list i time room space) = (on_volume (list i time room space) (goes_by front count) (view front)).answer
  lent_answer (create name id mode time room) = (on_volume (create name id mode time room) (goes_by front count) (view front)).answer
  lent_answer (delete name time room) = (on_volume (delete name time room) (goes_by front count) (view front)).answer
  lent_answer (rename old new time room) = (on_volume (rename old new time room) (goes_by front count) (view front)).answer
  lent_answer (rename_set names lengths time room) = (on_volume (rename_set names lengths time room) (goes_by front count) (view front)).answer

  -- what a call that decides at once leaves in the lent list
  abbrev pub leaves : Call → List ℕ → List ℕ
  leaves c l = emit l 0 (closed (groups_for (view front) (on_volume c (goes_by front count) (view front)).plan))

  unfoldable pub lent_list : Call → List ℕ → List ℕ
  lent_list (resize name size time room) l =
      (write_fed write_steps d (resize_lent (goes_by front count) (view front) name size time (length l)) (leaves (resize name size time (length l)) l)).1
  lent_list (write name offset bytes time room) l =
      (write_fed write_steps d (write_lent (goes_by front count) (view front) name offset bytes time (length l)) (leaves (write name offset bytes time (length l)) l)).1
  lent_list (read name offset asked time room space) l = leaves (read name offset asked time room (length l)) l
  lent_list (list i time room space) l = leaves (list i time room (length l)) l
  lent_list (create name id mode time room) l = leaves (create name id mode time (length l)) l
  lent_list (delete name time room) l = leaves (delete name time (length l)) l
  lent_list (rename old new time room) l = leaves (rename old new time (length l)) l
  lent_list (rename_set names lengths time room) l = leaves (rename_set names lengths time (length l)) l
  lent_list summary l = l
  lent_list check l = l
  lent_list (find name) l = l

-- ---- what is claimed

-- "refusal 1 looks at the lent sectors", "the volume's sector count, which refusal 3 takes for the image's", "lent sectors that end before the data area get 3"
unfoldable pub LentRefusals : Type 0
LentRefusals =
    (front : List ℕ) (count : ℕ) → (let s = view front superblock_at in
    image_verdict (goes_by front count) (view front)
    ≡ verdict_of
    ((not (is_whole (length front)), refusal 1) ∷ (not (is_volume s), refusal 2)
    ∷ (not (in_bounds (geometry_in s) && leb (volume_sectors (geometry_in s)) count && leb (data_at (geometry_in s)) (length front / 512)), refusal 3) ∷ []))

module _ (img front : List ℕ) (count : ℕ) where
  -- answers and bytes read; lists
  pub record LentCall (c : Call) : Type 0 where
    pub answer : lent_answer front count (view img) c ≡ volume_answer c img
    pub leaves-list : (l : List ℕ) → length l ≡ list_room c → lent_list front count (view img) c l ≡ emit l 0 (closed (groups_for (view img) (volume_plan c img)))

  -- of the calls outside a run's
  pub record LentOthers : Type 0 where
    pub scratch : (n : ℕ) → check_with_answer (goes_by front count) (view front) n ≡ check_with_answer (length img) (view img) n
    pub repairs : (room : ℕ) → repair_answer (goes_by front count) (view front) room ≡ repair_answer (length img) (view img) room
    pub repair-list : (l : List ℕ) → repair_list (goes_by front count) (view front) l ≡ repair_list (length img) (view img) l

  abbrev pub begun_recovery : List ℕ → Recovering
  begun_recovery l = recovery_lent (goes_by front count) (view front) (length l)

  abbrev pub begun_list : List ℕ → List ℕ
  begun_list l = recovery_list (goes_by front count) (view front) l

  -- "Recovery asks likewise for each entry's source, in journal order": whichever answer and list it comes to
  pub record LentRecovery (l : List ℕ) : Type 0 where
    pub settled : (recovery_fed recovery_steps front (view img) (begun_recovery l) (begun_list l)).0.wanted ≡ 0
    pub answer : recovery_answered (recovery_fed recovery_steps front (view img) (begun_recovery l) (begun_list l)).0 ≡ recovery_answer (length img) (view img) (length l)
    pub leaves-list : (recovery_fed recovery_steps front (view img) (begun_recovery l) (begun_list l)).1 ≡ recovery_list (length img) (view img) l
    pub order : (recovery_answer (length img) (view img) (length l)).length ≢ 0
        → recovery_asked recovery_steps front (view img) (begun_recovery l) (begun_list l) ≡ tabulate (source_at (geometry_in (view img superblock_at)) (view img)) 0 (entries_waiting (view img))

  -- "A read gives back the data sectors it wants, one after the other in file order"
  abbrev pub ReadOrder : Type 0
  ReadOrder =
      (name : List ℕ) (offset asked time room space : ℕ) → (out : List ℕ) → length out ≡ room
      → (let a = read_answer (length img) (view img) name offset asked time room space in
      let c = catalogue_of (view img) in
      a.count ≢ 0
      → read_asked read_steps (view img) (read_lent (goes_by front count) (view front) name offset asked time room space) out
      ≡ tabulate (sector_of c (index_of (file_named c name))) (offset / 512) (touched_sectors offset a.count))

-- THE FORMS ARE THE CALLS
unfoldable pub LentForms : Type 0
LentForms =
    (img front : List ℕ) (count : ℕ) → Lends img front count
    → ((c : Call) → LentCall img front count c) × LentOthers img front count × ((l : List ℕ) → LentRecovery img front count l) × ReadOrder img front count

-- "What the lent sectors and the arguments already refuse is refused before a sector is asked for": 13 and 14 too; and what asks for one is not refused any more
unfoldable pub RefusedBefore : Type 0
RefusedBefore =
    (len : ℕ) (d : Disk) (name : List ℕ)
    → ((offset asked time room space : ℕ) → (let r = read_lent len d name offset asked time room space in r.code ≢ 0 → r.wanted ≡ 0))
    × ((offset : ℕ) (bytes : List ℕ) (time room : ℕ) → (let w = write_lent len d name offset bytes time room in w.code ≢ 0 → w.wanted.sector ≡ 0))
    × ((size time room : ℕ) → (let w = resize_lent len d name size time room in w.code ≢ 0 → w.wanted.sector ≡ 0))
    × ((room : ℕ) → (let v = recovery_lent len d room in v.code ≢ 0 → v.wanted ≡ 0))

-- "A wrong count of supplied bytes gets 8, and that step changes nothing": not the output or list, nor what the next step makes of the state
unfoldable pub WrongCount : Type 0
WrongCount =
    (bytes l : List ℕ) → length bytes ≢ 512
    → ((r : Reading) → (let x = read_step r (length bytes) (length l) in
    (x.code ≡ 8) × (read_step_output r bytes l ≡ l) × ((n room : ℕ) → read_step x n room ≡ read_step r n room)))
    × ((w : Writing) → (let x = write_step w (length bytes) (length l) in
    (x.code ≡ 8) × (write_step_list w bytes l ≡ l) × ((n room : ℕ) → write_step x n room ≡ write_step w n room)))
    × ((d : Disk) (len : ℕ) (v : Recovering) → (let x = recovery_step d len v (length bytes) (length l) in
    (x.code ≡ 8) × (recovery_step_list d len v bytes l ≡ l) × ((n room : ℕ) → recovery_step d len x n room ≡ recovery_step d len v n room)))

-- DEMAND 3 of lent forms: in a run, a call that is made in its lent form gives the ledger's answer and leaves the list that lands, after which the volume
-- says what the ledger says; and a recovery gives the answer and leaves the list of the run's
unfoldable pub LentDemand3 : Type 0
LentDemand3 =
    (a : Format) (phase : Phase) (img : List ℕ) (fs : List Feed) (rs : List Answer) → Run a phase img fs rs
    → (front : List ℕ) (count : ℕ) → Lends img front count
    → ((c : Call) → Fits c → phase ≡ steady
    → (lent_answer front count (view img) c ∷ rs ≡ answers_to a (whole c ∷ fs))
    × ((l : List ℕ) → length l ≡ list_room c → lent_list front count (view img) c l ≡ emit l 0 (closed (groups_for (view img) (volume_plan c img))))
    × Says (ledger_after a (whole c ∷ fs)) (stored (closed (groups_for (view img) (volume_plan c img))) img))
    × ((l : List ℕ) → LentRecovery img front count l)
