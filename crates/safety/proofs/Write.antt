-- What write has to show: a write of bytes into a file at an offset is carried out, whole or in part, as the ledger says; so the call has the
-- ledger's answer and its effect. Assumes nothing.
use Prim.Native.Nat.{ℕ, ◌+◌, ◌*◌, ◌/◌, ◌^◌, ◌≤◌, ◌<◌, max}
use mathlib.Core.Path.{◌≡◌, refl, sym, ap, ap₂, ◌∙◌, subst}
use mathlib.Core.Bool.{Bool, true, false, cond, ◌&&◌}
use mathlib.Core.List.{List, [], ◌∷◌, ◌++◌}
use mathlib.Core.Option.{Option, none, some}
use native.Mathlib.Omega.{arith}
use lib.Dec.{eqb, ltb}
use lib.ListN.{length}
use borrow.Author.Tests.{ltb-false, lt-ltb, not-false, eqb-false}
use Rattle.model.specs.Search.{tabulate, is_at, index_of}
use Rattle.model.specs.Geometry.{entry_at}
use Rattle.model.specs.Disk.{view}
use Rattle.model.specs.Entry.{bad_name, updated_entry_sector}
use Rattle.model.specs.Table.{table_sector_of, taken_in}
use Rattle.model.specs.Catalogue.{Catalogue, lacks_reserve, has_name, file_named, free_extent, entry_of}
use Rattle.model.specs.Refusals.{Conditions, verdict_of}
use Rattle.model.specs.WriteList.{Plan, sector_write, groups_for, list_length, record_size, record_count, stored, is_planned}
use Rattle.model.specs.Read.{longest_transfer, size_named}
use Rattle.model.specs.Write.{touched_sectors, held_extents, grows, no_room, size_after, data_sector, write_plan, write_planned, write_conditions, write_decision}
use Rattle.model.specs.Cut.{data_by}
use Rattle.model.specs.Ledger.{Ledger, File, file_or, entry_of_file, catalogue, write, with_file, partly_written}
use Rattle.model.specs.Ledger.{file_of, needs_more, spanned_sectors, written_records, written, after_write, step, answer}
use Rattle.model.specs.Run.{volume_answer, on_volume}
use Rattle.laws.proofs.Search.{length-tabulate}
use Rattle.safety.proofs.OwnWords.{named-is, few-is, file-is, entry_named, time-is, name-is, spanned-are}
use Rattle.safety.proofs.Searches.{place_found, or-right-no}
use Rattle.safety.proofs.Plan.{WellFormed, A}
use Rattle.safety.proofs.Commit.{part_of, uncut}
use Rattle.laws.proofs.WriteList.{plan-needs}
use Rattle.safety.proofs.Rep.{Rep, Timely, timely}
use Rattle.safety.proofs.Changing.{Passed, last-is, Carries, Carried, effect-changing, Decides, same-changing}
use Rattle.safety.proofs.Read.{file-there, size_is}
use Rattle.safety.proofs.WriteLedger.{Writable}
use Rattle.safety.proofs.WriteDone.{fits, done}
use Rattle.safety.proofs.WriteCut.{partly}
use Rattle.safety.proofs.Induction.{Effect}

-- ---- a write's plan

-- a file of which a write was cut before its start mark
abbrev pub partly_written_file : File → ℕ → List ℕ → List Bool → File
partly_written_file f offset bytes mask = record { entry = f.entry; bytes = partly_written f offset bytes mask; extents = f.extents }

module _ (L : Ledger) (img : List ℕ) (i offset : ℕ) (bytes : List ℕ) (time : ℕ) where
  abbrev pub writing : Plan
  writing = write_plan (catalogue L) i (view img) offset bytes time

  abbrev after : ℕ
  after = size_after (catalogue L) i offset (length bytes)

  abbrev x : ℕ
  x = index_of (free_extent (catalogue L))

  abbrev t : ℕ
  t = table_sector_of (catalogue L).geometry x

  targets-length : (b : Bool) → length (sector_write (entry_at i) (updated_entry_sector (catalogue L).geometry.edition after time (view img (entry_at i)))
      ∷ cond b (sector_write t (taken_in x i (held_extents (catalogue L) i) (view img t)) ∷ []) []) ≡ cond b 2 1
  targets-length true = refl
  targets-length false = refl

  -- the length of its list
  pub write-length : list_length (groups_for (view img) (write_planned (catalogue L) i (view img) offset bytes time)) ≡ written_records L (entry_of (catalogue L) i).size offset
      (length bytes) * record_size
  unfolding groups_for write_planned write_plan written_records grows catalogue
  write-length = go (eqb (length bytes) 0) refl
    where
      go : (b : Bool) → eqb (length bytes) 0 ≡ b → list_length (groups_for (view img) (cond b none (some writing)))
          ≡ cond b 0 (record_count (spanned_sectors offset (length bytes)) (cond (grows (catalogue L) i after) 2 1)) * record_size
      go true e = refl
      go false e =
          plan-needs (view img) writing
          ∙ ap₂ (λ k m. record_count k m * record_size)
          (length-tabulate (data_sector (catalogue L) i (view img) offset bytes) (offset / 512) (touched_sectors offset (length bytes)) ∙ sym (spanned-are offset (length bytes) (eqb-false _ 0 e)))
          (targets-length (grows (catalogue L) i after))

  -- there is one exactly where its list has records
  pub write-planned : (size : ℕ) → is_planned (write_planned (catalogue L) i (view img) offset bytes time) ≡ ltb 0 (written_records L size offset (length bytes))
  unfolding write_planned written_records
  write-planned size = go (eqb (length bytes) 0)
    where
      more : ℕ
      more = record_count (spanned_sectors offset (length bytes)) (cond (needs_more L size (max size (offset + length bytes))) 2 1)

      go : (b : Bool) → is_planned (cond b none (some writing)) ≡ ltb 0 (cond b 0 more)
      go true = refl
      go false = sym (lt-ltb 0 more (omega arith))

  -- what it does, carried out whole, or cut before its start mark: then "data sectors that landed hold their new bytes up to the old size"
  pub record Writes : Type 0 where
    pub fits : WellFormed L.geometry (view img) writing
    pub done : Rep (with_file L i (written L i offset bytes time)) (uncut L.geometry img writing)
    pub partly : (k : ℕ) (m : List Bool)
        → Rep (with_file L i (partly_written_file (file_or (L.slots i)) offset bytes (tabulate (data_by k m) 0 (length writing.data_sectors))))
        (stored (part_of k m (A L.geometry (view img) writing)) img)

  -- EVERY WRITE of up to 65,536 bytes at an offset up to the size, for which there is room, does so
  pub writes-carried : Rep L img → lacks_reserve (catalogue L) ≡ false → L.slots i ≡ some (file_or (L.slots i)) → offset ≤ (file_or (L.slots i)).entry.size → length bytes ≤ longest_transfer
      → no_room (catalogue L) i (size_after (catalogue L) i offset (length bytes)) ≡ false → Timely L time → Writes
  writes-carried rep reserve has start short room ht =
      let f = file_or (L.slots i) in
      let w : Writable L i f offset bytes = record { has = has; start = start; short = short; room = room } in
      record {
        fits = fits L img rep i f offset bytes w reserve time;
        done = done L img rep i f offset bytes w reserve time ht;
        partly = λ k m. partly L img rep i f offset bytes w reserve time k m;
      }

-- ---- the call

module _ (L : Ledger) (img : List ℕ) (rep : Rep L img) (name : List ℕ) (offset : ℕ) (bytes : List ℕ) (time room : ℕ) where
  abbrev c : Catalogue
  c = catalogue L

  abbrev i : ℕ
  i = index_of (file_named (catalogue L) name)

  abbrev f : File
  f = file_or (L.slots (index_of (file_named (catalogue L) name)))

  abbrev conditions : Catalogue → Conditions
  conditions v = write_conditions v name offset (length bytes) time

  abbrev plan : Catalogue → Option Plan
  plan v = write_planned v (index_of (file_named v name)) (view img) offset bytes time

  abbrev records : ℕ
  records = written_records L (file_of L name).entry.size offset (length bytes)

  decides : Decides L img (write name offset bytes time room) conditions plan room records
  unfolding on_volume write_decision step write_conditions size_named no_room grows catalogue
  decides = record {
    volume = refl;
    reply = refl;
    judges = record {
      conditions = ap (λ (cs : Conditions). verdict_of (conditions (catalogue L) ++ cs))
          (last-is L (plan (catalogue L)) room records (write-planned L img i offset bytes time (file_of L name).entry.size))
          ∙ rw (time-is L time, name-is L name, named-is L name, entry_named L name, few-is L);
      refusing = refl;
      size = rw (entry_named L name) (write-length L img i offset bytes time);
    };
  }

  pub write_same : volume_answer (write name offset bytes time room) img ≡ answer (write name offset bytes time room) L
  write_same = same-changing L img rep _ _ _ room records decides

  module _ (ht : time < 2 ^ 64) (passed : Passed (write_conditions (catalogue L) name offset (length bytes) time)) where
    -- ---- what the conditions say

    fitting : Timely L time
    unfolding write_conditions
    fitting = timely L time passed.0 ht

    there : L.slots i ≡ some f
    unfolding write_conditions file_named catalogue
    there = file-there (L.slots i) name (place_found (λ k. has_name name (entry_of_file (L.slots k))) L.geometry.files (not-false (is_at (file_named c name)) passed.1.1.0)).1

    short : length bytes ≤ longest_transfer
    unfolding write_conditions
    short = ltb-false longest_transfer (length bytes) (or-right-no (bad_name (catalogue L).geometry.edition name) _ passed.1.0)

    start : offset ≤ f.entry.size
    unfolding write_conditions size_named entry_of catalogue
    start =
        let e : (entry_of (catalogue L) i).size ≡ f.entry.size = size_is (L.slots i) in
        let l : offset ≤ (entry_of (catalogue L) i).size = ltb-false (entry_of (catalogue L) i).size offset passed.1.1.1.0 in
        omega arith

    roomy : no_room (catalogue L) i (size_after (catalogue L) i offset (length bytes)) ≡ false
    unfolding write_conditions
    roomy = passed.1.1.1.1.0

    -- ---- the plan, or none for no bytes

    after_is : (b : Bool) → eqb (length bytes) 0 ≡ b → (step (write name offset bytes time room) L).done ≡ cond b L (with_file L i (written L i offset bytes time))
    unfolding step after_write
    after_is b e = rw (named-is L name) (ap (λ (t : Bool). cond t L (with_file L i (written L i offset bytes time))) e)

    cut-is : (mask : List Bool) → (step (write name offset bytes time room) L).cut mask ≡ with_file L i (partly_written_file f offset bytes mask)
    unfolding step
    cut-is mask = rw (file-is L name, named-is L name)

    carries : eqb (length bytes) 0 ≡ false → lacks_reserve (catalogue L) ≡ false → Carries L img (write name offset bytes time room) (writing L img i offset bytes time)
    carries e reserve =
        let w = writes-carried L img i offset bytes time rep reserve there start short roomy fitting in
        record {
          fits = w.fits;
          done = subst (λ (X : Ledger). Rep X (uncut L.geometry img (writing L img i offset bytes time))) (sym (after_is false e)) w.done;
          partly = λ k m. subst (λ (X : Ledger). Rep X (stored (part_of k m (A L.geometry (view img) (writing L img i offset bytes time))) img)) (sym (cut-is _)) (w.partly k m);
        }

    carried : (is_planned (write_planned (catalogue L) i (view img) offset bytes time) && lacks_reserve (catalogue L)) ≡ false
        → Carried L img (write name offset bytes time room) (write_planned (catalogue L) i (view img) offset bytes time)
    unfolding write_planned
    carried = go (eqb (length bytes) 0) refl
      where
        go : (b : Bool) → eqb (length bytes) 0 ≡ b → (is_planned (cond b none (some (writing L img i offset bytes time))) && lacks_reserve (catalogue L)) ≡ false
            → Carried L img (write name offset bytes time room) (cond b none (some (writing L img i offset bytes time)))
        go true e q = subst (λ (X : Ledger). Rep X img) (sym (after_is true e)) rep
        go false e q = carries e q

  -- what write does
  pub write-effect : time < 2 ^ 64 → Effect Rep (write name offset bytes time room) L img
  write-effect ht = effect-changing L img rep _ _ _ room records decides (λ passed never. carried ht passed never)
