-- NO LIST IS LONGER THAN ITS CALL'S LONGEST, of any image: by the data sectors and targets of each call's plan. So a list that long is never refused
-- with 14. Assumes nothing.
use Prim.Native.Nat.{ℕ, suc, ◌+◌, ◌*◌, ◌-◌, ◌/◌, ◌≤◌, ◌<◌, min, max}
use mathlib.Core.Path.{◌≡◌, refl, sym, ap, ◌∙◌, subst}
use mathlib.Core.Logic.{◌≢◌}
use mathlib.Core.Bool.{Bool, true, false, cond, not, ◌&&◌, ◌||◌, true≢false}
use mathlib.Core.List.{List, [], ◌∷◌, ◌++◌}
use mathlib.Core.Option.{Option, none, some}
use native.Mathlib.Omega.{arith}
use lib.Dec.{eqb, leb, ltb}
use lib.ListN.{length, length-append}
use borrow.Author.Tests.{eqb-true, eq-eqb, le-ltb, ltb-false, leb-true}
use Rattle.model.specs.declared.Geometry.{Geometry}
use Rattle.std.specs.Prelude.{Some, None}
use Rattle.model.specs.declared.State.{State}
use Rattle.model.specs.declared.State.TheVariants.{Clean, Waiting, Damaged, Unfinished}
use Rattle.model.specs.Answers.{Soundness, Sound, Faulty, Verdict, Summarized, Found, Listed, BytesRead, Repaired}
use Rattle.model.specs.Search.{Lowest, any_below, all_below, is_at, index_of, equal_bytes}
use Rattle.model.specs.Bytes.{zero_sector}
use Rattle.model.specs.Geometry.{superblock_at, entry_at, table_sectors, extent_sectors, reserve_extents, in_bounds, most_files, volume_sectors, extents_for, data_at}
use Rattle.model.specs.Disk.{Disk, view}
use Rattle.model.specs.Superblock.{geometry_in, journal_length, state_on}
use Rattle.model.specs.Edition.{bad_time}
use Rattle.model.specs.Entry.{bad_name}
use Rattle.model.specs.Catalogue.{Catalogue, catalogue_of, file_named, lacks_reserve, is_free, entry_of, owns_from}
use Rattle.model.specs.Faults.{fault21, faults_in, first_fault}
use Rattle.model.specs.Refusals.{Conditions, verdict_of, and_then, given, is_done, refusal, done, state_number, fault_verdict, fits_image, image_verdict, sound_verdict, judged}
use Rattle.model.specs.WriteList.{Record, Plan, Group, sector_write, superblock_group, groups_for, list_length, record_size, record_count, is_planned, plan_conditions, own_verdict, decided, barrier}
use Rattle.model.specs.Summary.{summary_on, no_summary, summary_answer, check_answer}
use Rattle.model.specs.Find.{name_conditions, not_found, found_by, find_answer}
use Rattle.model.specs.Listing.{list_conditions, list_plan, list_planned, list_decision, not_listed, listed_of, list_answer}
use Rattle.model.specs.Read.{longest_transfer, size_named, read_count, read_conditions, read_plan, read_planned, read_decision, not_read, read_of, read_answer}
use Rattle.model.specs.Create.{create_conditions, create_plan, create_decision}
use Rattle.model.specs.Freeing.{freed_sectors}
use Rattle.model.specs.Delete.{delete_conditions, delete_plan, delete_decision}
use Rattle.model.specs.Write.{touched_sectors, data_sector, grows, size_after, write_plan, write_planned, write_conditions, write_decision}
use Rattle.model.specs.Resize.{zeros, shrink_plan, resize_planned, resize_conditions, resize_decision}
use Rattle.model.specs.Rename.{renamed_record, replacing_records, renaming_records, rename_plan, rename_planned, rename_conditions, rename_decision}
use Rattle.model.specs.RenameSet.{bad_set, renames_conditions, is_touched, set_targets, set_planned, rename_set_conditions, rename_set_decision}
use Rattle.model.specs.Repair.{is_stray, repaired, done_but, not_repaired, repair_plan, repair_planned, repair_verdict, repair_decision, repair_answer}
use Rattle.model.specs.Recovery.{good_entry, bad_journal, replay_groups, differs, is_copied, copied, sliced_groups, recovery_groups, recovery_verdict, recovery_listed, recovery_answer}
use Rattle.model.specs.Recovery.{slice_groups, slice_verdict, slice_listed, slice_answer}
use Rattle.model.specs.Lengths.{most_entries, longest_records, longest_list}
use Rattle.laws.proofs.Booleans.{and-true, and_left, and_right, or-none}
use Rattle.laws.proofs.Refusals.{image-passed}
use Rattle.laws.proofs.Judged.{judged-image}
use Rattle.laws.proofs.Bytes.{length-bytes_from}
use Rattle.laws.proofs.Count.{count_below-le}
use Rattle.laws.proofs.Freeing.{freed-few}
use Rattle.laws.proofs.Search.{all_below-at, length-tabulate}
use Rattle.laws.proofs.Recovery.{copied_is}
use Rattle.laws.proofs.WriteList.{plan-needs}
use Rattle.laws.proofs.Renames.{touched-few, length-set}
use Rattle.laws.proofs.RenameSet.{good-set}
use Rattle.model.specs.Ledger.{Call, summary, check, find, list, read, create, delete, resize, write, rename, rename_set, number_of}
use Rattle.model.specs.Run.{on_volume, volume_answer, volume_plan}
use Rattle.safety.specs.Room.{geometry_on}
use Rattle.safety.specs.LongestLists.{call_number, list_room, OutputFits, NoLonger}
use Rattle.safety.proofs.Changing.{passed-by, earlier-done, later-done}
use Rattle.safety.proofs.NoRoom.{never, not-given, never-append}
use Rattle.safety.proofs.RenameSet.{set-verdict}
use Rattle.safety.proofs.RenameCounts.{renames-never}
use Rattle.safety.proofs.Replayed.{entries-few, length-recovery}
use Rattle.safety.proofs.AnyJournal.{waiting_few}

-- ---- a plan's list, by its data sectors and targets

abbrev bytes : Disk → Option Plan → ℕ
bytes d plan = list_length (groups_for d plan)

plan-short : (d : Disk) (p : Plan) (m : ℕ) → record_count (length p.data_sectors) (length p.targets) ≤ m → list_length (groups_for d (some p)) ≤ m * record_size
plan-short d p m h = subst (λ k. k ≤ m * record_size) (sym (plan-needs d p)) (omega (arith, h))

none-short : (d : Disk) (m : ℕ) → list_length (groups_for d none) ≤ m
unfolding groups_for
none-short d m = omega arith

either-short : (d : Disk) (m : ℕ) (b : Bool) (x y : Option Plan) → (b ≡ true → list_length (groups_for d x) ≤ m) → (b ≡ false → list_length (groups_for d y) ≤ m)
    → list_length (groups_for d (cond b x y)) ≤ m
either-short d m true x y h k = h refl
either-short d m false x y h k = k refl

-- fewer targets, fewer records
fewer-targets : (s t u v : ℕ) → s ≤ u → t ≤ v → record_count s t ≤ record_count u v
fewer-targets s t u v h k = omega arith

-- ---- what a decision makes of a plan's list

either-not : (v w : Verdict) → v.number ≢ 14 → w.number ≢ 14 → (and_then v w).number ≢ 14
either-not v w h k = go (is_done v)
  where
    go : (b : Bool) → (cond b w v).number ≢ 14
    go true = k
    go false = h

image-not-14 : (len : ℕ) (d : Disk) → (image_verdict len d).number ≢ 14
unfolding image_verdict
image-not-14 len d = not-given 14 (omega arith) _ refl

state-not-14 : (s : State) → state_number s ≢ 14
state-not-14 Clean e = let z : ◌≡◌ {A = ℕ} 0 14 = e in omega arith
state-not-14 (Waiting n) e = let z : ◌≡◌ {A = ℕ} 5 14 = e in omega arith
state-not-14 Damaged e = let z : ◌≡◌ {A = ℕ} 6 14 = e in omega arith
state-not-14 Unfinished e = let z : ◌≡◌ {A = ℕ} 4 14 = e in omega arith

judged-not-14 : (len : ℕ) (d : Disk) → (judged len d).number ≢ 14
unfolding judged sound_verdict
judged-not-14 len d =
    either-not (image_verdict len d) _ (image-not-14 len d) (either-not (refusal (state_number (state_on d))) _ (state-not-14 (state_on d)) (fault (first_fault d)))
  where
    fault : (s : Soundness) → (fault_verdict s).number ≢ 14
    fault Sound e = let z : ◌≡◌ {A = ℕ} 0 14 = e in omega arith
    fault (Faulty n p) e = let z : ◌≡◌ {A = ℕ} 7 14 = e in omega arith

planned-not-14 : (d : Disk) (plan : Option Plan) (room : ℕ) → list_length (groups_for d plan) ≤ room → (verdict_of (plan_conditions d plan room)).number ≢ 14
unfolding plan_conditions verdict_of
planned-not-14 d plan room h = go (is_planned plan && lacks_reserve (catalogue_of d)) (ltb room (list_length (groups_for d plan))) (le-ltb room (list_length (groups_for d plan)) h)
  where
    go : (a b : Bool) → b ≡ false → (cond a (refusal 13) (cond b (refusal 14) done)).number ≢ 14
    go true b q e = let z : ◌≡◌ {A = ℕ} 13 14 = e in omega arith
    go false true q e = true≢false q
    go false false q e = let z : ◌≡◌ {A = ℕ} 0 14 = e in omega arith

module _ (len : ℕ) (d : Disk) (cs : Conditions) (plan : Option Plan) (room m : ℕ)
    (short : is_done (judged len d) ≡ true → is_done (verdict_of cs) ≡ true → list_length (groups_for d plan) ≤ m) where
  decided-short : list_length (groups_for d (decided len d cs plan room).plan) ≤ m
  unfolding decided
  decided-short =
      either-short d m (is_done (and_then (judged len d) (and_then (verdict_of cs) (verdict_of (plan_conditions d plan room))))) plan none
      (λ e. short (earlier-done (judged len d) _ e) (earlier-done (verdict_of cs) _ (later-done (judged len d) _ e))) (λ e. none-short d m)

  decided-14 : (verdict_of cs).number ≢ 14 → m ≤ room → (decided len d cs plan room).verdict.number ≢ 14
  unfolding decided
  decided-14 own h = go (is_done (judged len d)) (is_done (verdict_of cs)) refl refl
    where
      go : (a b : Bool) → is_done (judged len d) ≡ a → is_done (verdict_of cs) ≡ b
          → (cond a (cond b (verdict_of (plan_conditions d plan room)) (verdict_of cs)) (judged len d)).number ≢ 14
      go true true p q = planned-not-14 d plan room (omega (arith, short p q, h))
      go true false p q = own
      go false b p q = judged-not-14 len d

-- ---- the plan of each call, where its conditions pass

list-short : (d : Disk) (time : ℕ) → list_length (groups_for d (list_planned (catalogue_of d) d time)) ≤ longest_list 1 (geometry_in (d superblock_at))
unfolding list_planned list_plan longest_list longest_records
list-short d time =
    either-short d _ (lacks_reserve (catalogue_of d)) none (some (list_plan (catalogue_of d) d time)) (λ e. none-short d _)
    (λ e. plan-short d (list_plan (catalogue_of d) d time) (record_count 0 1) (omega arith))

read_short : (d : Disk) (i time : ℕ) → list_length (groups_for d (read_planned (catalogue_of d) d i time)) ≤ longest_list 1 (geometry_in (d superblock_at))
unfolding read_planned read_plan longest_list longest_records
read_short d i time =
    either-short d _ (lacks_reserve (catalogue_of d)) none (some (read_plan (catalogue_of d) d i time)) (λ e. none-short d _)
    (λ e. plan-short d (read_plan (catalogue_of d) d i time) (record_count 0 1) (omega arith))

create-short : (d : Disk) (name : List ℕ) (id mode time : ℕ)
    → list_length (groups_for d (some (create_plan (catalogue_of d) d name id mode time))) ≤ longest_list 2 (geometry_in (d superblock_at))
unfolding create_plan longest_list longest_records
create-short d name id mode time = plan-short d (create_plan (catalogue_of d) d name id mode time) (record_count 0 2) (omega arith)

delete-short : (d : Disk) (i time : ℕ) → list_length (groups_for d (some (delete_plan (catalogue_of d) d i time))) ≤ longest_list 3 (geometry_in (d superblock_at))
unfolding delete_plan longest_list longest_records catalogue_of
delete-short d i time =
    plan-short d (delete_plan (catalogue_of d) d i time) (record_count 0 (2 + table_sectors (geometry_in (d superblock_at))))
    (omega (arith, freed-few (owns_from (catalogue_of d) i 0) (catalogue_of d).geometry d))

-- a renamed entry, or two and what is freed
two-of : (b : Bool) (x y : Record) → length (cond b (x ∷ y ∷ []) (y ∷ x ∷ [])) ≡ 2
two-of true x y = refl
two-of false x y = refl

renaming-few : (c : Catalogue) (d : Disk) (i : ℕ) (place : Lowest) (name : List ℕ) (time : ℕ)
    → length (renaming_records c d i place name time) ≤ 2 + table_sectors c.geometry
unfolding replacing_records
renaming-few c d i None name time = omega arith
renaming-few c d i (Some j) name time =
    let this = renamed_record c d i name time in
    let that = sector_write (entry_at j) zero_sector in
    let freed = owns_from c j 0 in
    omega (
      arith,
      length-append (cond (ltb i j) (this ∷ that ∷ []) (that ∷ this ∷ [])) (freed_sectors freed c.geometry d),
      two-of (ltb i j) this that,
      freed-few freed c.geometry d,
    )

rename-short : (d : Disk) (old new : List ℕ) (time : ℕ)
    → list_length (groups_for d (rename_planned (catalogue_of d) d old new time)) ≤ longest_list 4 (geometry_in (d superblock_at))
unfolding rename_planned rename_plan longest_list longest_records catalogue_of
rename-short d old new time =
    either-short d _ (equal_bytes old new) none (some (rename_plan (catalogue_of d) d (index_of (file_named (catalogue_of d) old)) (file_named (catalogue_of d) new) new time)) (λ e. none-short d _)
    (λ e. plan-short d (rename_plan (catalogue_of d) d (index_of (file_named (catalogue_of d) old)) (file_named (catalogue_of d) new) new time)
    (record_count 0 (table_sectors (geometry_in (d superblock_at)) + 3))
    (omega (arith, renaming-few (catalogue_of d) d (index_of (file_named (catalogue_of d) old)) (file_named (catalogue_of d) new) new time)))

-- 129 data sectors, an entry and a table sector
write-short : (d : Disk) (i offset : ℕ) (bytes : List ℕ) (time : ℕ) → length bytes ≤ 65536
    → list_length (groups_for d (write_planned (catalogue_of d) i d offset bytes time)) ≤ record_count 129 2 * record_size
unfolding write_planned write_plan
write-short d i offset bytes time h =
    either-short d _ (eqb (length bytes) 0) none (some (write_plan (catalogue_of d) i d offset bytes time)) (λ e. none-short d _)
    (λ e. plan-short d (write_plan (catalogue_of d) i d offset bytes time) (record_count 129 2)
    (fewer-targets _ _ 129 2
    (subst (λ k. k ≤ 129) (sym (length-tabulate (data_sector (catalogue_of d) i d offset bytes) (offset / 512) (touched_sectors offset (length bytes)))) (omega (arith, h)))
    (table-one (grows (catalogue_of d) i (size_after (catalogue_of d) i offset (length bytes))) _)))
  where
    table-one : (b : Bool) (w : Record) → suc (length (cond b (w ∷ []) [])) ≤ 2
    table-one true w = omega arith
    table-one false w = omega arith

write-passed : (d : Disk) (name : List ℕ) (offset : ℕ) (bytes : List ℕ) (time : ℕ) → is_done (verdict_of (write_conditions (catalogue_of d) name offset (length bytes) time)) ≡ true
    → list_length (groups_for d (write_planned (catalogue_of d) (index_of (file_named (catalogue_of d) name)) d offset bytes time)) ≤ longest_list 7 (geometry_in (d superblock_at))
unfolding write_conditions longest_list longest_records
write-passed d name offset bytes time e =
    let passed = passed-by (write_conditions (catalogue_of d) name offset (length bytes) time) refl e in
    write-short d (index_of (file_named (catalogue_of d) name)) offset bytes time
    (ltb-false 65536 (length bytes) (or-none (bad_name (catalogue_of d).geometry.edition name) (ltb longest_transfer (length bytes)) passed.1.0).1)

-- what is behind both tests of a resize that grows
not_more : (a b : Bool) → (a && b) ≡ false → not a ≡ false → b ≡ false
not_more true b h k = h
not_more false b h k = absurd (true≢false k)

resize-short : (d : Disk) (name : List ℕ) (z time : ℕ) → is_done (verdict_of (resize_conditions (catalogue_of d) name z time)) ≡ true
    → list_length (groups_for d (resize_planned (catalogue_of d) d (index_of (file_named (catalogue_of d) name)) z time)) ≤ longest_list 6 (geometry_in (d superblock_at))
unfolding resize_planned shrink_plan resize_conditions size_named longest_list longest_records catalogue_of
resize-short d name z time e =
    let c = catalogue_of d in
    let i = index_of (file_named c name) in
    let size = (entry_of c i).size in
    let t = table_sectors (geometry_in (d superblock_at)) in
    let passed = passed-by (resize_conditions c name z time) refl e in
    let grown : z ≤ size + 65536 =
    ltb-false (size + 65536) z
    (not_more (is_at (file_named c name)) (ltb (size + 65536) z) (or-none (bad_name c.geometry.edition name) (is_at (file_named c name) && ltb (size + 65536) z) passed.1.0).1 passed.1.1.0) in
    either-short d _ (ltb z size) (some (shrink_plan c d i z time)) (write_planned c i d size (zeros (z - size)) time)
    (λ q. plan-short d (shrink_plan c d i z time) (max (record_count 0 (1 + t)) (record_count 129 2)) (omega (arith, freed-few (owns_from c i (extents_for c.geometry z)) c.geometry d)))
    (λ q. let w = write-short d i size (zeros (z - size)) time (omega (arith, length-bytes_from [] 0 (z - size), grown)) in omega (arith, w))

-- ---- a set of renames

files-some : (g : Geometry) → in_bounds g ≡ true → 0 < g.files
unfolding in_bounds
files-some g h =
    let p4 = and-true (leb 255 g.files && leb g.files most_files && leb 2 g.extents && leb g.extents 65535) (leb 128 (extent_sectors g)) h in
    let p3 = and-true (leb 255 g.files && leb g.files most_files && leb 2 g.extents) (leb g.extents 65535) p4.0 in
    let p2 = and-true (leb 255 g.files && leb g.files most_files) (leb 2 g.extents) p3.0 in
    let p1 = and-true (leb 255 g.files) (leb g.files most_files) p2.0 in
    omega (arith, leb-true 255 g.files p1.0)

judged-files : (len : ℕ) (d : Disk) → is_done (judged len d) ≡ true → 0 < (geometry_in (d superblock_at)).files
unfolding fits_image
judged-files len d e =
    let s = d superblock_at in
    let p = image-passed len d (judged-image len d (eqb-true (judged len d).number 0 e)) in
    files-some (geometry_in s) (and_left (in_bounds (geometry_in s)) (leb (volume_sectors (geometry_in s)) (len / 512)) p.fits)

-- the tests of a set that passes
set-passed : (bad many : Bool) (own : Verdict) → is_done (cond bad (refusal 8) (and_then own (cond many (refusal 13) done))) ≡ true → (bad ≡ false) × (many ≡ false)
set-passed true many own e = absurd (true≢false (sym e))
set-passed false many own e = (refl, go many (later-done own (cond many (refusal 13) done) e))
  where
    go : (b : Bool) → is_done (cond b (refusal 13) done) ≡ true → b ≡ false
    go true h = absurd (true≢false (sym h))
    go false h = refl

set-short : (len : ℕ) (d : Disk) (names lengths : List ℕ) (time : ℕ) → is_done (judged len d) ≡ true → is_done (verdict_of (rename_set_conditions d names lengths time)) ≡ true
    → list_length (groups_for d (set_planned d names lengths time (length lengths / 2))) ≤ longest_list 5 (geometry_in (d superblock_at))
unfolding set_planned longest_list longest_records catalogue_of
set-short len d names lengths time ok e =
    let n = length lengths / 2 in
    let g = geometry_in (d superblock_at) in
    let count = length (set_targets d names lengths time n) in
    let passed = set-passed (bad_set names lengths) (ltb (reserve_extents g * extent_sectors g) count) (verdict_of (renames_conditions d names lengths time n))
    (ap is_done (sym (set-verdict d names lengths time)) ∙ e) in
    let low : count ≤ 17 + table_sectors g = omega (arith, touched-few d names lengths time (judged-files len d ok) n, length-set d names lengths time n, (good-set names lengths passed.0).few) in
    let fit : count ≤ reserve_extents g * extent_sectors g = ltb-false (reserve_extents g * extent_sectors g) count passed.1 in
    let most = min (17 + table_sectors g) (reserve_extents g * extent_sectors g) in
    either-short d _ (any_below (is_touched d names lengths time n) (data_at g)) (some (record { data_sectors = []; targets = set_targets d names lengths time n })) none
    (λ q. plan-short d (record { data_sectors = []; targets = set_targets d names lengths time n }) (record_count 0 most)
    (fewer-targets 0 count 0 most (omega arith) (omega (arith, low, fit)))) (λ q. none-short d _)

set-not-14 : (d : Disk) (names lengths : List ℕ) (time : ℕ) → (verdict_of (rename_set_conditions d names lengths time)).number ≢ 14
unfolding rename_set_conditions
set-not-14 d names lengths time =
    not-given 14 (omega arith) (rename_set_conditions d names lengths time)
    (never-append 14 ((bad_set names lengths, refusal 8) ∷ renames_conditions d names lengths time (length lengths / 2)) _
    (renames-never 14 refl d names lengths time (length lengths / 2)) refl)

-- ---- repair

repair-short : (d : Disk) → list_length (groups_for d (repair_planned (catalogue_of d) d)) ≤ longest_list 8 (geometry_in (d superblock_at))
unfolding repair_planned repair_plan longest_list longest_records catalogue_of
repair-short d =
    let c = catalogue_of d in
    let t = table_sectors (geometry_in (d superblock_at)) in
    either-short d _ (any_below (is_stray c) c.geometry.extents) (some (repair_plan c d)) none
    (λ e. plan-short d (repair_plan c d) (record_count 0 t)
    (fewer-targets 0 _ 0 t (omega arith)
    (omega (arith, freed-few (is_stray c) c.geometry d)))) (λ e. none-short d _)

-- ---- recovery, whole or a slice

own-not-14 : (cs : Conditions) (room needed : ℕ) → (verdict_of cs).number ≢ 14 → (is_done (verdict_of cs) ≡ true → needed ≤ room) → (own_verdict cs room needed).number ≢ 14
unfolding verdict_of
own-not-14 cs room needed own h = go (is_done (verdict_of cs)) refl
  where
    last : (b : Bool) → b ≡ false → (cond b (refusal 14) done).number ≢ 14
    last true q e = true≢false q
    last false q e = let z : ◌≡◌ {A = ℕ} 0 14 = e in omega arith

    go : (b : Bool) → is_done (verdict_of cs) ≡ b → (cond b (cond (ltb room needed) (refusal 14) done) (verdict_of cs)).number ≢ 14
    go true q = last (ltb room needed) (le-ltb room needed (h q))
    go false q = own

entries-good : (g : Geometry) (d : Disk) (n : ℕ) → not (all_below (good_entry g d) n) ≡ false → (k : ℕ) → k < n → good_entry g d k ≡ true
entries-good g d n h = all_below-at (good_entry g d) n (back (all_below (good_entry g d) n) h)
  where
    back : (b : Bool) → not b ≡ false → b ≡ true
    back true e = refl
    back false e = sym e

-- a waiting volume's good entries are at most 1,024, and no more than there are sectors for them
entries-most : (d : Disk) (n : ℕ) → state_on d ≡ Waiting n → not (all_below (good_entry (geometry_in (d superblock_at)) d) n) ≡ false → n ≤ most_entries (geometry_in (d superblock_at))
entries-most d n st good =
    let g = geometry_in (d superblock_at) in
    omega (arith, waiting_few (journal_length (d superblock_at)) n st, entries-few g d n (entries-good g d n good))

abbrev entire_conditions : Disk → Conditions
entire_conditions d = (eqb (state_number (state_on d)) 4, refusal 4) ∷ (bad_journal (geometry_in (d superblock_at)) d (state_on d), refusal 6) ∷ []

recovery-short : (d : Disk) → is_done (verdict_of (entire_conditions d)) ≡ true → list_length (recovery_groups d) ≤ longest_list 9 (geometry_in (d superblock_at))
unfolding recovery_groups longest_list longest_records
recovery-short d e = go (state_on d) refl (passed-by (entire_conditions d) refl e).1.0
  where
    go : (s : State) → state_on d ≡ s → bad_journal (geometry_in (d superblock_at)) d s ≡ false
        → list_length (replay_groups (geometry_in (d superblock_at)) d s) ≤ (most_entries (geometry_in (d superblock_at)) + 3) * record_size
    go Clean st h = omega arith
    go (Waiting n) st h =
        let g = geometry_in (d superblock_at) in
        let few : n ≤ most_entries g = entries-most d n st h in
        subst (λ k. k ≤ (most_entries g + 3) * record_size) (sym (length-recovery g d n (entries-good g d n h))) (omega (arith, few))
    go Damaged st h = omega arith
    go Unfinished st h = omega arith

abbrev slice_conditions : Disk → ℕ → Conditions
slice_conditions d budget =
    (eqb (state_number (state_on d)) 4, refusal 4) ∷ (bad_journal (geometry_in (d superblock_at)) d (state_on d), refusal 6) ∷ (eqb budget 0, refusal 8) ∷ []

one-group : (g : Group) → list_length (g ∷ []) ≡ (length g + 1) * record_size
one-group g = ap (λ k. k * record_size) (length-append g (barrier ∷ []))

slice-short : (d : Disk) (budget : ℕ) → is_done (verdict_of (slice_conditions d budget)) ≡ true → list_length (slice_groups d budget) ≤ longest_list 10 (geometry_in (d superblock_at))
unfolding slice_groups longest_list longest_records
slice-short d budget e = go (state_on d) refl (passed-by (slice_conditions d budget) refl e).1.0
  where
    written : (n : ℕ) (b : Bool) → n ≤ most_entries (geometry_in (d superblock_at))
        → length (cond b (copied (geometry_in (d superblock_at)) d budget n) (superblock_group d 0)) ≤ most_entries (geometry_in (d superblock_at))
    written n true h =
        let g = geometry_in (d superblock_at) in
        omega (arith, copied_is g d budget n, count_below-le (is_copied g d budget) n, h)
    written n false h = omega arith

    go : (s : State) → state_on d ≡ s → bad_journal (geometry_in (d superblock_at)) d s ≡ false
        → list_length (sliced_groups (geometry_in (d superblock_at)) d budget s) ≤ (most_entries (geometry_in (d superblock_at)) + 1) * record_size
    go Clean st h = omega arith
    go (Waiting n) st h =
        let g = geometry_in (d superblock_at) in
        let b = any_below (differs g d) n in
        omega (arith, one-group (cond b (copied g d budget n) (superblock_group d 0)), written n b (entries-most d n st h))
    go Damaged st h = omega arith
    go Unfinished st h = omega arith

-- ---- NO LONGER, and never 14

-- no condition of a change gives 14
create-own : (c : Catalogue) (name : List ℕ) (id time : ℕ) → never 14 (create_conditions c name id time) ≡ true
unfolding create_conditions
create-own c name id time = refl

delete-own : (c : Catalogue) (name : List ℕ) (time : ℕ) → never 14 (delete_conditions c name time) ≡ true
unfolding delete_conditions name_conditions
delete-own c name time = refl

resize-own : (c : Catalogue) (name : List ℕ) (z time : ℕ) → never 14 (resize_conditions c name z time) ≡ true
unfolding resize_conditions
resize-own c name z time = refl

write-own : (c : Catalogue) (name : List ℕ) (offset n time : ℕ) → never 14 (write_conditions c name offset n time) ≡ true
unfolding write_conditions
write-own c name offset n time = refl

rename-own : (c : Catalogue) (old new : List ℕ) (time : ℕ) → never 14 (rename_conditions c old new time) ≡ true
unfolding rename_conditions
rename-own c old new time = refl

-- 14 by the output, where that is long enough
output-not-14 : (cs : Conditions) (short : Bool) → never 14 cs ≡ true → short ≡ false → (verdict_of (cs ++ ((short, refusal 14) ∷ []))).number ≢ 14
unfolding verdict_of
output-not-14 [] true n q e = true≢false q
output-not-14 [] false n q e = let z : ◌≡◌ {A = ℕ} 0 14 = e in omega arith
output-not-14 (c ∷ cs) short n q e = go c.0 (output-not-14 cs short (and_right (not (eqb c.1.number 14)) (never 14 cs) n) q) e
  where
    go : (b : Bool) → (verdict_of (cs ++ ((short, refusal 14) ∷ []))).number ≢ 14 → (cond b c.1 (verdict_of (cs ++ ((short, refusal 14) ∷ [])))).number ≢ 14
    go true h e = true≢false (sym (and_left (not (eqb c.1.number 14)) (never 14 cs) n) ∙ ap not (eq-eqb c.1.number 14 e))
    go false h e = h e

-- what a call answers, by its verdict
given-not : {A : Type 0} (number : A → ℕ) (v : Verdict) (x : A) (refuse : Verdict → A) → number x ≢ 14 → number (refuse v) ≢ 14 → number (given v x refuse) ≢ 14
given-not number v x refuse p q = go (is_done v)
  where
    go : (b : Bool) → number (cond b x (refuse v)) ≢ 14
    go true = p
    go false = q

zero-not : ◌≢◌ {A = ℕ} 0 14
zero-not e = omega arith

module _ (img : List ℕ) where
  abbrev d : Disk
  d = view img

  abbrev len : ℕ
  len = length img

  calls-short : (c : Call) → list_length (groups_for (view img) (volume_plan c img)) ≤ longest_list (call_number c) (geometry_on img)
  unfolding on_volume list_decision read_decision create_decision delete_decision resize_decision write_decision rename_decision rename_set_decision write_conditions longest_list longest_records
  calls-short summary = none-short d _
  calls-short check = none-short d _
  calls-short (find name) = none-short d _
  calls-short (list i time room space) = decided-short len d (list_conditions (catalogue_of d) i time room) (list_planned (catalogue_of d) d time) space _ (λ p q. list-short d time)
  calls-short (read name offset count time room space) =
      decided-short len d (read_conditions (catalogue_of d) name offset count time room) (read_planned (catalogue_of d) d (index_of (file_named (catalogue_of d) name)) time) space _
      (λ p q. read_short d (index_of (file_named (catalogue_of d) name)) time)
  calls-short (create name id mode time room) =
      decided-short len d (create_conditions (catalogue_of d) name id time) (some (create_plan (catalogue_of d) d name id mode time)) room _ (λ p q. create-short d name id mode time)
  calls-short (delete name time room) =
      decided-short len d (delete_conditions (catalogue_of d) name time) (some (delete_plan (catalogue_of d) d (index_of (file_named (catalogue_of d) name)) time)) room _
      (λ p q. delete-short d (index_of (file_named (catalogue_of d) name)) time)
  calls-short (resize name size time room) =
      decided-short len d (resize_conditions (catalogue_of d) name size time) (resize_planned (catalogue_of d) d (index_of (file_named (catalogue_of d) name)) size time) room _
      (λ p q. resize-short d name size time q)
  calls-short (write name offset bytes time room) =
      decided-short len d (write_conditions (catalogue_of d) name offset (length bytes) time) (write_planned (catalogue_of d) (index_of (file_named (catalogue_of d) name)) d offset bytes time) room _
      (λ p q. write-passed d name offset bytes time q)
  calls-short (rename old new time room) =
      decided-short len d (rename_conditions (catalogue_of d) old new time) (rename_planned (catalogue_of d) d old new time) room _ (λ p q. rename-short d old new time)
  calls-short (rename_set names lengths time room) =
      decided-short len d (rename_set_conditions d names lengths time) (set_planned d names lengths time (length lengths / 2)) room _ (λ p q. set-short len d names lengths time p q)

  summary-not-14 : (summary_answer (length img) (view img)).number ≢ 14
  unfolding summary_answer
  summary-not-14 = given-not (λ (a : Summarized). a.number) (image_verdict len d) (summary_on d) no_summary zero-not (image-not-14 len d)

  find-not-14 : (name : List ℕ) → (find_answer (length img) (view img) name).verdict.number ≢ 14
  unfolding find_answer found_by name_conditions
  find-not-14 name =
      let v = and_then (judged len d) (verdict_of (name_conditions (catalogue_of d) name)) in
      let ne : v.number ≢ 14 = either-not (judged len d) _ (judged-not-14 len d) (not-given 14 (omega arith) (name_conditions (catalogue_of d) name) refl) in
      given-not (λ (a : Found). a.verdict.number) v _ not_found ne ne

  list-not-14 : (i time room space : ℕ) → longest_list 1 (geometry_on img) ≤ space → length (entry_of (catalogue_of (view img)) i).name ≤ room
      → (list_answer (length img) (view img) i time room space).verdict.number ≢ 14
  unfolding list_answer listed_of list_decision list_conditions
  list-not-14 i time room space h o =
      let c = catalogue_of d in
      let x = list_decision len d i time room space in
      let own = output-not-14 ((bad_time c.geometry.edition time, refusal 8) ∷ (leb c.geometry.files i, refusal 8) ∷ (is_free (c.entries i), refusal 9) ∷ [])
      (ltb room (length (entry_of c i).name)) refl (le-ltb room _ o) in
      let ne : x.verdict.number ≢ 14 = decided-14 len d (list_conditions c i time room) (list_planned c d time) space _ (λ p q. list-short d time) own h in
      given-not (λ (a : Listed). a.verdict.number) x.verdict _ not_listed ne ne

  read-not-14 : (name : List ℕ) (offset count time room space : ℕ) → longest_list 1 (geometry_on img) ≤ space → count ≤ room
      → (read_answer (length img) (view img) name offset count time room space).verdict.number ≢ 14
  unfolding read_answer read_of read_decision read_conditions
  read-not-14 name offset count time room space h o =
      let c = catalogue_of d in
      let x = read_decision len d name offset count time room space in
      let own = output-not-14 ((bad_time c.geometry.edition time, refusal 8) ∷ (bad_name c.geometry.edition name || ltb longest_transfer count, refusal 8)
      ∷ (not (is_at (file_named c name)), refusal 9) ∷ (ltb (size_named c name) offset, refusal 12) ∷ []) (ltb room (read_count (size_named c name) offset count))
      refl (le-ltb room _ (omega (arith, o))) in
      let ne : x.verdict.number ≢ 14 =
      decided-14 len d (read_conditions c name offset count time room) (read_planned c d (index_of (file_named c name)) time) space _ (λ p q. read_short d (index_of (file_named c name)) time) own h in
      given-not (λ (a : BytesRead). a.verdict.number) x.verdict _ not_read ne ne

  calls-not-14 : (c : Call) → longest_list (call_number c) (geometry_on img) ≤ list_room c → OutputFits c img → number_of (volume_answer c img) ≢ 14
  unfolding on_volume check_answer create_decision delete_decision resize_decision write_decision rename_decision rename_set_decision
  calls-not-14 summary h o = summary-not-14
  calls-not-14 check h o = judged-not-14 len d
  calls-not-14 (find name) h o = find-not-14 name
  calls-not-14 (list i time room space) h o = list-not-14 i time room space h o
  calls-not-14 (read name offset count time room space) h o = read-not-14 name offset count time room space h o
  calls-not-14 (create name id mode time room) h o =
      decided-14 len d (create_conditions (catalogue_of d) name id time) (some (create_plan (catalogue_of d) d name id mode time)) room _ (λ p q. create-short d name id mode time)
      (not-given 14 (omega arith) _ (create-own (catalogue_of d) name id time)) h
  calls-not-14 (delete name time room) h o =
      decided-14 len d (delete_conditions (catalogue_of d) name time) (some (delete_plan (catalogue_of d) d (index_of (file_named (catalogue_of d) name)) time)) room _
      (λ p q. delete-short d (index_of (file_named (catalogue_of d) name)) time) (not-given 14 (omega arith) _ (delete-own (catalogue_of d) name time)) h
  calls-not-14 (resize name size time room) h o =
      decided-14 len d (resize_conditions (catalogue_of d) name size time) (resize_planned (catalogue_of d) d (index_of (file_named (catalogue_of d) name)) size time) room _
      (λ p q. resize-short d name size time q) (not-given 14 (omega arith) _ (resize-own (catalogue_of d) name size time)) h
  calls-not-14 (write name offset bytes time room) h o =
      decided-14 len d (write_conditions (catalogue_of d) name offset (length bytes) time) (write_planned (catalogue_of d) (index_of (file_named (catalogue_of d) name)) d offset bytes time) room _
      (λ p q. write-passed d name offset bytes time q) (not-given 14 (omega arith) _ (write-own (catalogue_of d) name offset (length bytes) time)) h
  calls-not-14 (rename old new time room) h o =
      decided-14 len d (rename_conditions (catalogue_of d) old new time) (rename_planned (catalogue_of d) d old new time) room _ (λ p q. rename-short d old new time)
      (not-given 14 (omega arith) _ (rename-own (catalogue_of d) old new time)) h
  calls-not-14 (rename_set names lengths time room) h o =
      decided-14 len d (rename_set_conditions d names lengths time) (set_planned d names lengths time (length lengths / 2)) room _ (λ p q. set-short len d names lengths time p q)
      (set-not-14 d names lengths time) h

  repairs-fit : (room : ℕ)
      → ((repair_answer (length img) (view img) room).length ≤ longest_list 8 (geometry_on img))
      × (longest_list 8 (geometry_on img) ≤ room → (repair_answer (length img) (view img) room).verdict.number ≢ 14)
  unfolding repair_answer repair_decision repair_verdict
  repairs-fit room = (
    shorter (is_done (repair_verdict len d room)) _
        (either-short d _ (is_done (repair_verdict len d room)) (repair_planned (catalogue_of d) d) none (λ e. repair-short d) (λ e. none-short d _)),
    λ h. given-not (λ (a : Repaired). a.verdict.number) (repair_verdict len d room) _ not_repaired (remaining (faults_in (fault21 d) (repaired (catalogue_of d))))
        (either-not (image_verdict len d) _ (image-not-14 len d)
        (either-not (refusal (state_number (state_on d))) _ (state-not-14 (state_on d)) (planned-not-14 d (repair_planned (catalogue_of d) d) room (omega (arith, repair-short d, h))))),
  )
    where
      remaining : (s : Soundness) → (done_but s).number ≢ 14
      remaining Sound = zero-not
      remaining (Faulty n p) = zero-not

      shorter : (b : Bool) (x : Repaired) → x.length ≤ longest_list 8 (geometry_on img) → (cond b x (not_repaired (repair_verdict len d room))).length ≤ longest_list 8 (geometry_on img)
      shorter true x h = h
      shorter false x h = omega arith

  recoveries-fit : (room : ℕ)
      → ((recovery_answer (length img) (view img) room).length ≤ longest_list 9 (geometry_on img))
      × (longest_list 9 (geometry_on img) ≤ room → (recovery_answer (length img) (view img) room).number ≢ 14)
  unfolding recovery_answer recovery_listed recovery_verdict
  recoveries-fit room = (
    go (is_done (recovery_verdict len d room)) refl,
    λ h. either-not (image_verdict len d) _ (image-not-14 len d)
        (own-not-14 (entire_conditions d) room (list_length (recovery_groups d)) (not-given 14 (omega arith) (entire_conditions d) refl) (λ e. omega (arith, recovery-short d e, h))),
  )
    where
      go : (b : Bool) → is_done (and_then (image_verdict len d) (own_verdict (entire_conditions d) room (list_length (recovery_groups d)))) ≡ b
          → list_length (cond b (recovery_groups d) []) ≤ longest_list 9 (geometry_on img)
      go true e = recovery-short d (earlier-done (verdict_of (entire_conditions d)) _ (later-done (image_verdict len d) _ e))
      go false e = omega arith

  slices-fit : (budget room : ℕ)
      → ((slice_answer (length img) (view img) budget room).length ≤ longest_list 10 (geometry_on img))
      × (longest_list 10 (geometry_on img) ≤ room → (slice_answer (length img) (view img) budget room).number ≢ 14)
  unfolding slice_answer slice_listed slice_verdict
  slices-fit budget room = (
    go (is_done (slice_verdict len d budget room)) refl,
    λ h. either-not (image_verdict len d) _ (image-not-14 len d)
        (own-not-14 (slice_conditions d budget) room (list_length (slice_groups d budget)) (not-given 14 (omega arith) (slice_conditions d budget) refl)
        (λ e. omega (arith, slice-short d budget e, h))),
  )
    where
      go : (b : Bool) → is_done (and_then (image_verdict len d) (own_verdict (slice_conditions d budget) room (list_length (slice_groups d budget)))) ≡ b
          → list_length (cond b (slice_groups d budget) []) ≤ longest_list 10 (geometry_on img)
      go true e = slice-short d budget (earlier-done (verdict_of (slice_conditions d budget)) _ (later-done (image_verdict len d) _ e))
      go false e = omega arith

  pub no_longer : NoLonger img
  no_longer = record { calls = calls-short; never14 = calls-not-14; repairs = repairs-fit; recoveries = recoveries-fit; slices = slices-fit }
