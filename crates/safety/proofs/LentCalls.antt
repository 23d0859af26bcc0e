-- T-11: every call but write, growing resize and read decides by the sectors before the data area alone, and those three but for bytes of the data area: so the lent forms
-- that decide at once are the calls. Assumes nothing.
use Prim.Native.Nat.{ℕ, zero, suc, ◌+◌, ◌*◌, ◌-◌, ◌/◌, ◌≤◌, ◌<◌}
use mathlib.Core.Path.{◌≡◌, refl, sym, ap, ap₂, ◌∙◌, subst}
use mathlib.Core.Bool.{Bool, cond, ◌&&◌}
use mathlib.Core.List.{List, [], ◌∷◌, ◌++◌}
use mathlib.Core.Option.{Option, none, some}
use native.Mathlib.Omega.{arith}
use lib.Dec.{ltb}
use lib.ListN.{length}
use Rattle.model.specs.Answers.{Verdict, Changed, Listed}
use Rattle.std.specs.Prelude.{Some, None}
use Rattle.model.specs.Bytes.{zero_sector}
use Rattle.model.specs.Search.{Lowest, first, index_of, any_below, concatenated, equal_bytes}
use Rattle.model.specs.Geometry.{superblock_at, root_at, entry_at, table_at, table_sectors, data_at, reserve_extents, extent_sectors}
use Rattle.model.specs.Disk.{Disk, view}
use Rattle.model.specs.Superblock.{geometry_in, journal_length, state_of}
use Rattle.model.specs.Root.{updated_root_sector, accessed_root_sector}
use Rattle.model.specs.Entry.{fields_of, accessed_entry_sector, new_entry_sector, renamed_entry_sector}
use Rattle.model.specs.Table.{freed_in, holds_any}
use Rattle.model.specs.Catalogue.{Catalogue, catalogue_of, has_name, file_named, free_entry, lacks_reserve, entry_of, owns_from}
use Rattle.model.specs.Refusals.{Conditions, verdict_of, refusal, and_then, given, is_done, image_verdict}
use Rattle.model.specs.WriteList.{Record, sector_write, Plan, Group, one_target, hits, over, apply, groups_for, closed, emit, list_length, is_planned, plan_conditions, Decision, decided, answer_of}
use Rattle.model.specs.Summary.{no_summary, summary_answer, check_answer}
use Rattle.model.specs.Find.{name_conditions, found_by, find_answer}
use Rattle.model.specs.Listing.{list_conditions, list_plan, list_planned, list_decision, not_listed, listed_of, copied_of, list_answer, list_copies}
use Rattle.model.specs.Read.{read_count, size_named, read_conditions, read_plan, read_planned, read_decision, not_read, read_of, read_answer}
use Rattle.model.specs.Create.{create_conditions, create_plan, create_decision}
use Rattle.model.specs.Freeing.{freed_sector, freed_sectors}
use Rattle.model.specs.Delete.{delete_plan, delete_conditions, delete_decision}
use Rattle.model.specs.Rename.{rename_conditions, renamed_record, replacing_records, renaming_records, rename_plan, rename_planned, rename_decision}
use Rattle.model.specs.RenameSet.{bad_set, name_of, targets_of, placed_at, rename_targets, disk_before}
use Rattle.model.specs.RenameSet.{renames_conditions, is_touched, set_targets, set_planned, rename_set_conditions, rename_set_decision}
use Rattle.model.specs.Ledger.{Call, summary, check, find, list, read, create, delete, rename, rename_set, summarized, checked, found, listed, changed}
use Rattle.model.specs.Run.{Outcome, reads, decides, on_volume, volume_plan}
use Rattle.laws.proofs.Search.{Hit, scan-hit, any_below-ext, concatenated-ext}
use Rattle.laws.proofs.WriteList.{emit-nil}
use Rattle.laws.proofs.Renames.{seen-superblock}
use Rattle.safety.specs.LentForms.{Lends, goes_by, leaves, lent_answer, lent_list, LentCall}
use Rattle.safety.proofs.LentFront.{Agrees, same-superblock, same-root, same-catalogue, same-groups, same-judged, lent-agrees, lent-image}

-- an index found is at most the bound
pub found-most : (p : ℕ → Bool) (n : ℕ) → index_of (first p n) ≤ n
found-most p n = go (first p n) (scan-hit p (n - 0) 0)
  where
    go : (r : Lowest) → Hit p (n - 0) 0 r → index_of r ≤ n
    go (Some k) h = omega (arith, h.1)
    go None h = omega arith

-- the catalogue's geometry is the superblock's
cat-below : (d : Disk) (s : ℕ) → s < data_at (catalogue_of d).geometry → s < data_at (geometry_in (d superblock_at))
unfolding catalogue_of
cat-below d s l = l

-- ---- plans

module _ (d d' : Disk) (same : Agrees d d') where
  abbrev c : Catalogue
  c = catalogue_of d

  -- a file's entry stands before the data area, and where there is none, entry 0
  pub named-entry : (name : List ℕ) → d' (entry_at (index_of (file_named (catalogue_of d) name))) ≡ d (entry_at (index_of (file_named (catalogue_of d) name)))
  unfolding file_named catalogue_of
  named-entry name = same (entry_at (index_of (file_named c name))) (omega (arith, found-most (λ i. has_name name (c.entries i)) c.geometry.files))

  pub same-freed : (freed : ℕ → Bool) → freed_sectors freed (catalogue_of d).geometry d' ≡ freed_sectors freed (catalogue_of d).geometry d
  unfolding freed_sectors freed_sector catalogue_of
  same-freed freed =
      let g = c.geometry in
      concatenated-ext (freed_sector freed g d') (freed_sector freed g d) 0 (table_sectors g) (λ t a b.
      ap (λ (s : List ℕ). cond (holds_any freed t) (sector_write (table_at g + t) (freed_in (λ k. freed (128 * t + k)) s 128) ∷ []) [])
      (same (table_at g + t) (omega arith)))

  pub same-list-planned : (time : ℕ) → list_planned (catalogue_of d') d' time ≡ list_planned (catalogue_of d) d time
  unfolding list_planned list_plan
  same-list-planned time =
      ap (λ (c : Catalogue). list_planned c d' time) (same-catalogue d d' same)
      ∙ ap (λ (s : List ℕ). cond (lacks_reserve c) none (some (one_target root_at (accessed_root_sector c.geometry.edition time s)))) (same-root d d' same)

  pub same-read-planned : (name : List ℕ) (time : ℕ)
      → read_planned (catalogue_of d') d' (index_of (file_named (catalogue_of d') name)) time ≡ read_planned (catalogue_of d) d (index_of (file_named (catalogue_of d) name)) time
  unfolding read_planned read_plan
  same-read-planned name time =
      ap (λ (c : Catalogue). read_planned c d' (index_of (file_named c name)) time) (same-catalogue d d' same)
      ∙ ap (λ (s : List ℕ). cond (lacks_reserve c) none (some (one_target (entry_at (index_of (file_named c name))) (accessed_entry_sector c.geometry.edition time s)))) (named-entry name)

  pub same-create-plan : (name : List ℕ) (id mode time : ℕ) → create_plan (catalogue_of d') d' name id mode time ≡ create_plan (catalogue_of d) d name id mode time
  unfolding create_plan
  same-create-plan name id mode time =
      ap₂ (λ (c : Catalogue) (s : List ℕ).
      record {
        data_sectors = [];
        targets =
            sector_write root_at (updated_root_sector c.geometry.edition time s)
            ∷ sector_write (entry_at (index_of (free_entry c))) (new_entry_sector c.geometry.edition name id mode time) ∷ [];
      }) (same-catalogue d d' same) (same-root d d' same)

  pub same-delete-plan : (name : List ℕ) (time : ℕ)
      → delete_plan (catalogue_of d') d' (index_of (file_named (catalogue_of d') name)) time ≡ delete_plan (catalogue_of d) d (index_of (file_named (catalogue_of d) name)) time
  unfolding delete_plan
  same-delete-plan name time =
      ap (λ (c : Catalogue). delete_plan c d' (index_of (file_named c name)) time) (same-catalogue d d' same) ∙ rw (same-root d d' same, same-freed (owns_from c (index_of (file_named c name)) 0)) refl

  same-moved : (name new : List ℕ) (time : ℕ) → renamed_record c d' (index_of (file_named c name)) new time ≡ renamed_record c d (index_of (file_named c name)) new time
  unfolding renamed_record
  same-moved name new time =
      ap (λ (s : List ℕ). sector_write (entry_at (index_of (file_named c name))) (renamed_entry_sector c.geometry.edition new time s)) (named-entry name)

  same-renaming : (name new : List ℕ) (time : ℕ) (place : Lowest)
      → renaming_records c d' (index_of (file_named c name)) place new time ≡ renaming_records c d (index_of (file_named c name)) place new time
  unfolding replacing_records
  same-renaming name new time None = ap (λ (r : Record). r ∷ []) (same-moved name new time)
  same-renaming name new time (Some j) =
      ap₂ (λ (r : Record) (rs : List Record).
      cond (ltb (index_of (file_named c name)) j) (r ∷ sector_write (entry_at j) zero_sector ∷ []) (sector_write (entry_at j) zero_sector ∷ r ∷ []) ++ rs)
      (same-moved name new time) (same-freed (owns_from c j 0))

  pub same-rename-planned : (old new : List ℕ) (time : ℕ) → rename_planned (catalogue_of d') d' old new time ≡ rename_planned (catalogue_of d) d old new time
  unfolding rename_planned rename_plan
  same-rename-planned old new time =
      ap (λ (c : Catalogue). rename_planned c d' old new time) (same-catalogue d d' same)
      ∙ ap₂ (λ (s : List ℕ) (rs : List Record).
      cond (equal_bytes old new) none (some (record { data_sectors = []; targets = sector_write root_at (updated_root_sector c.geometry.edition time s) ∷ rs })))
      (same-root d d' same) (same-renaming old new time (file_named c new))

-- ---- a set of renames: each sees sectors that agree, as the superblock stays

module _ (d d' : Disk) (same : Agrees d d') (names lengths : List ℕ) (time : ℕ) where
  targets-same : (k : ℕ) (x x' : Disk) → Agrees x x' → rename_targets d' names lengths time k x' ≡ rename_targets d names lengths time k x
  unfolding rename_targets
  targets-same k x x' a = ap targets_of (same-rename-planned x x' a (name_of names lengths (2 * k)) (name_of names lengths (2 * k + 1)) time)

  below : (k s : ℕ) → s < data_at (geometry_in (disk_before d names lengths time k superblock_at)) → s < data_at (geometry_in (d superblock_at))
  below k s l = subst (λ (x : List ℕ). s < data_at (geometry_in x)) (seen-superblock d names lengths time k) l

  set_below : (k s : ℕ) → s < data_at (geometry_in (d superblock_at)) → disk_before d' names lengths time k s ≡ disk_before d names lengths time k s
  unfolding disk_before apply
  set_below zero s l = same s l
  set_below (suc k) s l =
      ap₂ (λ (rs : List Record) (x : List ℕ). over rs s x)
      (targets-same k (disk_before d names lengths time k) (disk_before d' names lengths time k) (λ t h. set_below k t (below k t h))) (set_below k s l)

  set_agrees : (k : ℕ) → Agrees (disk_before d names lengths time k) (disk_before d' names lengths time k)
  set_agrees k s l = set_below k s (below k s l)

  set-targets-same : (k : ℕ) → rename_targets d' names lengths time k (disk_before d' names lengths time k) ≡ rename_targets d names lengths time k (disk_before d names lengths time k)
  set-targets-same k = targets-same k (disk_before d names lengths time k) (disk_before d' names lengths time k) (set_agrees k)

  renames-same : (n : ℕ) → renames_conditions d' names lengths time n ≡ renames_conditions d names lengths time n
  unfolding renames_conditions
  renames-same n =
      concatenated-ext _ _ 0 n (λ k a b.
      ap (λ (c : Catalogue). placed_at k (rename_conditions c (name_of names lengths (2 * k)) (name_of names lengths (2 * k + 1)) time))
      (same-catalogue (disk_before d names lengths time k) (disk_before d' names lengths time k) (set_agrees k)))

  touched-same : (n s : ℕ) → is_touched d' names lengths time n s ≡ is_touched d names lengths time n s
  unfolding is_touched
  touched-same n s = any_below-ext _ _ n (λ k l. ap (λ (rs : List Record). hits rs s) (set-targets-same k))

  data-same : data_at (catalogue_of d').geometry ≡ data_at (catalogue_of d).geometry
  data-same = ap (λ (c : Catalogue). data_at c.geometry) (same-catalogue d d' same)

  set-records-same : (n : ℕ) → set_targets d' names lengths time n ≡ set_targets d names lengths time n
  unfolding set_targets
  set-records-same n =
      ap (concatenated _ 0) data-same
      ∙ concatenated-ext _ _ 0 (data_at (catalogue_of d).geometry) (λ s a b.
      ap₂ (λ (t : Bool) (x : List ℕ). cond t (sector_write s x ∷ []) []) (touched-same n s) (set_below n s (inside s b)))
    where
      inside : (s : ℕ) → s < 0 + data_at (catalogue_of d).geometry → s < data_at (geometry_in (d superblock_at))
      inside s b = cat-below d s (omega arith)

  set-planned-same : (n : ℕ) → set_planned d' names lengths time n ≡ set_planned d names lengths time n
  unfolding set_planned
  set-planned-same n =
      ap₂ (λ (b : Bool) (rs : List Record). cond b (some (record { data_sectors = []; targets = rs })) none)
      (ap (any_below (is_touched d' names lengths time n)) data-same ∙ any_below-ext _ _ (data_at (catalogue_of d).geometry) (λ s l. touched-same n s)) (set-records-same n)

  set-conditions-same : rename_set_conditions d' names lengths time ≡ rename_set_conditions d names lengths time
  unfolding rename_set_conditions
  set-conditions-same =
      ap₂ (λ (cs : Conditions) (b : Bool). ((bad_set names lengths, refusal 8) ∷ cs) ++ ((b, refusal 13) ∷ [])) (renames-same (length lengths / 2))
      (ap₂ (λ (c : Catalogue) (rs : List Record). ltb (reserve_extents c.geometry * extent_sectors c.geometry) (length rs)) (same-catalogue d d' same)
      (set-records-same (length lengths / 2)))

-- ---- decisions, where 1 to 3 are the same

module _ (len len' : ℕ) (d d' : Disk) (same : Agrees d d') (image : image_verdict len' d' ≡ image_verdict len d) where
  pub same-conditions : (plan : Option Plan) (room : ℕ) → plan_conditions d' plan room ≡ plan_conditions d plan room
  unfolding plan_conditions
  same-conditions plan room =
      ap₂ (λ (c : Catalogue) (gs : List Group). (is_planned plan && lacks_reserve c, refusal 13) ∷ (ltb room (list_length gs), refusal 14) ∷ [])
      (same-catalogue d d' same) (same-groups d d' same plan)

  pub same-decided : (cs : Conditions) (plan : Option Plan) (room : ℕ) → decided len' d' cs plan room ≡ decided len d cs plan room
  unfolding decided
  same-decided cs plan room =
      ap₂ (λ (v : Verdict) (k : Conditions).
      record { verdict = and_then v (and_then (verdict_of cs) (verdict_of k)); plan = cond (is_done (and_then v (and_then (verdict_of cs) (verdict_of k)))) plan none })
      (same-judged d d' same len len' image) (same-conditions plan room)

  pub same_answer : (x : Decision) → answer_of d' x ≡ answer_of d x
  same_answer x = ap (λ (gs : List Group). record { verdict = x.verdict; length = list_length gs }) (same-groups d d' same x.plan)

  -- a decision by conditions and a plan that are the same
  by_parts : (cs cs' : Conditions) (plan plan' : Option Plan) (room : ℕ) → cs' ≡ cs → plan' ≡ plan → decided len' d' cs' plan' room ≡ decided len d cs plan room
  by_parts cs cs' plan plan' room e f = ap₂ (λ (k : Conditions) (p : Option Plan). decided len' d' k p room) e f ∙ same-decided cs plan room

  pub same-list-decision : (i time room space : ℕ) → list_decision len' d' i time room space ≡ list_decision len d i time room space
  unfolding list_decision
  same-list-decision i time room space =
      by_parts _ _ _ _ space (ap (λ (c : Catalogue). list_conditions c i time room) (same-catalogue d d' same)) (same-list-planned d d' same time)

  pub same-read-decision : (name : List ℕ) (offset asked time room space : ℕ)
      → read_decision len' d' name offset asked time room space ≡ read_decision len d name offset asked time room space
  unfolding read_decision
  same-read-decision name offset asked time room space =
      by_parts _ _ _ _ space (ap (λ (c : Catalogue). read_conditions c name offset asked time room) (same-catalogue d d' same)) (same-read-planned d d' same name time)

  pub same-create-decision : (name : List ℕ) (id mode time room : ℕ) → create_decision len' d' name id mode time room ≡ create_decision len d name id mode time room
  unfolding create_decision
  same-create-decision name id mode time room =
      by_parts _ _ _ _ room (ap (λ (c : Catalogue). create_conditions c name id time) (same-catalogue d d' same)) (ap some (same-create-plan d d' same name id mode time))

  pub same-delete-decision : (name : List ℕ) (time room : ℕ) → delete_decision len' d' name time room ≡ delete_decision len d name time room
  unfolding delete_decision
  same-delete-decision name time room =
      by_parts _ _ _ _ room (ap (λ (c : Catalogue). delete_conditions c name time) (same-catalogue d d' same)) (ap some (same-delete-plan d d' same name time))

  pub same-rename-decision : (old new : List ℕ) (time room : ℕ) → rename_decision len' d' old new time room ≡ rename_decision len d old new time room
  unfolding rename_decision
  same-rename-decision old new time room =
      by_parts _ _ _ _ room (ap (λ (c : Catalogue). rename_conditions c old new time) (same-catalogue d d' same)) (same-rename-planned d d' same old new time)

  pub same-set-decision : (names lengths : List ℕ) (time room : ℕ) → rename_set_decision len' d' names lengths time room ≡ rename_set_decision len d names lengths time room
  unfolding rename_set_decision
  same-set-decision names lengths time room =
      by_parts _ _ _ _ room (set-conditions-same d d' same names lengths time) (set-planned-same d d' same names lengths time (length lengths / 2))

  -- ---- outcomes

  by-decision : (x x' : Decision) → x' ≡ x → decides d' x' ≡ decides d x
  by-decision x x' e =
      ap (decides d') e ∙ ap (λ (a : Changed). record { answer = changed a; plan = x.plan }) (same_answer x)

  pub same-summary : on_volume summary len' d' ≡ on_volume summary len d
  unfolding on_volume summary_answer
  same-summary =
      ap₂ (λ (v : Verdict) (s : List ℕ).
      reads (summarized (given v (record { number = 0; summary = record { geometry = geometry_in s; state = state_of (journal_length s) } }) no_summary)))
      image (same-superblock d d' same)

  pub same_check : on_volume check len' d' ≡ on_volume check len d
  unfolding on_volume check_answer
  same_check = ap (λ (v : Verdict). reads (checked (record { verdict = v }))) (same-judged d d' same len len' image)

  pub same-find : (name : List ℕ) → on_volume (find name) len' d' ≡ on_volume (find name) len d
  unfolding on_volume find_answer
  same-find name =
      ap₂ (λ (v : Verdict) (c : Catalogue). reads (found (found_by (and_then v (verdict_of (name_conditions c name))) c name)))
      (same-judged d d' same len len' image) (same-catalogue d d' same)

  -- what is given by a decision
  pub same-listed : (x : Decision) (i : ℕ) → listed_of x d' i ≡ listed_of x d i
  unfolding listed_of
  same-listed x i =
      ap₂ (λ (c : Catalogue) (gs : List Group). given x.verdict (record { verdict = x.verdict; fields = fields_of (entry_of c i); length = list_length gs }) not_listed)
      (same-catalogue d d' same) (same-groups d d' same x.plan)

  same-copied : (x : Decision) (i : ℕ) → copied_of x d' i ≡ copied_of x d i
  unfolding copied_of
  same-copied x i = ap (λ (c : Catalogue). given x.verdict (entry_of c i).name (λ r. [])) (same-catalogue d d' same)

  pub same-list : (i time room space : ℕ) → on_volume (list i time room space) len' d' ≡ on_volume (list i time room space) len d
  unfolding on_volume list_answer list_copies
  same-list i time room space =
      let x = list_decision len d i time room space in
      ap (λ (x : Decision). record { answer = listed (listed_of x d' i) (copied_of x d' i); plan = x.plan }) (same-list-decision i time room space)
      ∙ ap₂ (λ (a : Listed) (b : List ℕ). record { answer = listed a b; plan = x.plan }) (same-listed x i) (same-copied x i)

  -- of a read all but the bytes
  pub same-read-of : (x : Decision) (name : List ℕ) (offset asked : ℕ) → read_of x d' name offset asked ≡ read_of x d name offset asked
  unfolding read_of
  same-read-of x name offset asked =
      ap₂ (λ (c : Catalogue) (gs : List Group).
      given x.verdict (record { verdict = x.verdict; count = read_count (size_named c name) offset asked; length = list_length gs }) not_read)
      (same-catalogue d d' same) (same-groups d d' same x.plan)

  pub same-read-answer : (name : List ℕ) (offset asked time room space : ℕ)
      → read_answer len' d' name offset asked time room space ≡ read_answer len d name offset asked time room space
  unfolding read_answer
  same-read-answer name offset asked time room space =
      ap (λ (x : Decision). read_of x d' name offset asked) (same-read-decision name offset asked time room space)
      ∙ same-read-of (read_decision len d name offset asked time room space) name offset asked

  pub same-read-plan : (name : List ℕ) (offset asked time room space : ℕ)
      → (on_volume (read name offset asked time room space) len' d').plan ≡ (on_volume (read name offset asked time room space) len d).plan
  unfolding on_volume
  same-read-plan name offset asked time room space = ap (λ (x : Decision). x.plan) (same-read-decision name offset asked time room space)

  pub same-create : (name : List ℕ) (id mode time room : ℕ) → on_volume (create name id mode time room) len' d' ≡ on_volume (create name id mode time room) len d
  unfolding on_volume
  same-create name id mode time room = by-decision _ _ (same-create-decision name id mode time room)

  pub same-delete : (name : List ℕ) (time room : ℕ) → on_volume (delete name time room) len' d' ≡ on_volume (delete name time room) len d
  unfolding on_volume
  same-delete name time room = by-decision _ _ (same-delete-decision name time room)

  pub same-rename : (old new : List ℕ) (time room : ℕ) → on_volume (rename old new time room) len' d' ≡ on_volume (rename old new time room) len d
  unfolding on_volume
  same-rename old new time room = by-decision _ _ (same-rename-decision old new time room)

  pub same-rename-set : (names lengths : List ℕ) (time room : ℕ) → on_volume (rename_set names lengths time room) len' d' ≡ on_volume (rename_set names lengths time room) len d
  unfolding on_volume
  same-rename-set names lengths time room = by-decision _ _ (same-set-decision names lengths time room)

-- ---- THE FORMS THAT DECIDE AT ONCE

module _ (img front : List ℕ) (count : ℕ) (lends : Lends img front count) where
  abbrev agree : Agrees (view img) (view front)
  agree = lent-agrees img front count lends

  abbrev len : ℕ
  len = length img

  abbrev by : ℕ
  by = goes_by front count

  abbrev image : image_verdict (goes_by front count) (view front) ≡ image_verdict (length img) (view img)
  image = lent-image img front count lends

  -- a list whose plan is the same, of a call by its list's room
  pub leaves-same : (f : ℕ → Call) (room : ℕ) → ((n : ℕ) → (on_volume (f n) (goes_by front count) (view front)).plan ≡ (on_volume (f n) (length img) (view img)).plan)
      → (l : List ℕ) → length l ≡ room
      → leaves front count (view img) (f (length l)) l ≡ emit l 0 (closed (groups_for (view img) (volume_plan (f room) img)))
  leaves-same f room h l e =
      ap (λ (gs : List Group). emit l 0 (closed gs))
      (same-groups (view img) (view front) agree (on_volume (f (length l)) by (view front)).plan ∙ ap (groups_for (view img)) (h (length l) ∙ ap (λ (n : ℕ). volume_plan (f n) img) e))

  abbrev plan-of : {x y : Outcome} → x ≡ y → x.plan ≡ y.plan
  plan-of e = ap (λ (o : Outcome). o.plan) e

  abbrev answer-of : {x y : Outcome} → x ≡ y → x.answer ≡ y.answer
  answer-of e = ap (λ (o : Outcome). o.answer) e

  nothing_left : (l : List ℕ) → l ≡ emit l 0 (closed (groups_for (view img) none))
  unfolding groups_for
  nothing_left l = sym (emit-nil l 0)

  pub lent-summary : LentCall img front count summary
  unfolding lent_answer lent_list on_volume
  lent-summary = record { answer = answer-of (same-summary len by (view img) (view front) agree image); leaves-list = λ l e. nothing_left l }

  pub lent-check : LentCall img front count check
  unfolding lent_answer lent_list on_volume
  lent-check = record { answer = answer-of (same_check len by (view img) (view front) agree image); leaves-list = λ l e. nothing_left l }

  pub lent-find : (name : List ℕ) → LentCall img front count (find name)
  unfolding lent_answer lent_list on_volume
  lent-find name = record { answer = answer-of (same-find len by (view img) (view front) agree image name); leaves-list = λ l e. nothing_left l }

  pub lent-list : (i time room space : ℕ) → LentCall img front count (list i time room space)
  unfolding lent_answer lent_list
  lent-list i time room space =
      let same = same-list len by (view img) (view front) agree image i time room in
      record { answer = answer-of (same space); leaves-list = leaves-same (λ n. list i time room n) space (λ n. plan-of (same n)) }

  -- of a read the list
  pub lent-read-list : (name : List ℕ) (offset asked time room space : ℕ) (l : List ℕ) → length l ≡ space
      → lent_list front count (view img) (read name offset asked time room space) l
      ≡ emit l 0 (closed (groups_for (view img) (volume_plan (read name offset asked time room space) img)))
  unfolding lent_list
  lent-read-list name offset asked time room space =
      leaves-same (λ n. read name offset asked time room n) space (λ n. same-read-plan len by (view img) (view front) agree image name offset asked time room n)

  pub lent-create : (name : List ℕ) (id mode time room : ℕ) → LentCall img front count (create name id mode time room)
  unfolding lent_answer lent_list
  lent-create name id mode time room =
      let same = same-create len by (view img) (view front) agree image name id mode time in
      record { answer = answer-of (same room); leaves-list = leaves-same (λ n. create name id mode time n) room (λ n. plan-of (same n)) }

  pub lent-delete : (name : List ℕ) (time room : ℕ) → LentCall img front count (delete name time room)
  unfolding lent_answer lent_list
  lent-delete name time room =
      let same = same-delete len by (view img) (view front) agree image name time in
      record { answer = answer-of (same room); leaves-list = leaves-same (λ n. delete name time n) room (λ n. plan-of (same n)) }

  pub lent-rename : (old new : List ℕ) (time room : ℕ) → LentCall img front count (rename old new time room)
  unfolding lent_answer lent_list
  lent-rename old new time room =
      let same = same-rename len by (view img) (view front) agree image old new time in
      record { answer = answer-of (same room); leaves-list = leaves-same (λ n. rename old new time n) room (λ n. plan-of (same n)) }

  pub lent-rename-set : (names lengths : List ℕ) (time room : ℕ) → LentCall img front count (rename_set names lengths time room)
  unfolding lent_answer lent_list
  lent-rename-set names lengths time room =
      let same = same-rename-set len by (view img) (view front) agree image names lengths time in
      record { answer = answer-of (same room); leaves-list = leaves-same (λ n. rename_set names lengths time n) room (λ n. plan-of (same n)) }
