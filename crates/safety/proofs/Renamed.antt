-- An image that shows a rename's writes, whichever way it came about, represents the ledger after the rename: the one that the call leaves, and
-- one on the way through a set, which never stands on the medium. Where the new name is a file's, it is reached in two steps: that file's slot
-- is freed, and the other is renamed. Assumes nothing.
use Prim.Native.Nat.{ℕ, suc, ◌+◌, ◌^◌, ◌≤◌, ◌<◌}
use mathlib.Core.Path.{◌≡◌, refl, sym, ap, ap₂, ◌∙◌, subst}
use mathlib.Core.Logic.{◌≢◌}
use mathlib.Core.Bool.{Bool, true, false, cond, not, ◌||◌, true≢false}
use mathlib.Core.List.{List, [], ◌∷◌, ◌++◌}
use mathlib.Core.Option.{Option, none, some}
use native.Mathlib.Omega.{arith}
use lib.Dec.{eqb, ltb}
use lib.ListN.{length}
use borrow.Author.Tests.{eqb-true, ltb-true, ltb-false, ne_eqb, not-false}
use Rattle.model.specs.declared.Geometry.{Geometry}
use Rattle.std.specs.Prelude.{Some, None}
use Rattle.model.specs.Bytes.{zero_sector}
use Rattle.model.specs.Search.{Lowest, is_at, index_of, equal_bytes}
use Rattle.model.specs.Geometry.{root_at, entry_at, journal_at, table_at, table_sectors, most_targets}
use Rattle.model.specs.Disk.{view}
use Rattle.model.specs.Root.{Root, root_in, updated_root_sector}
use Rattle.model.specs.Entry.{bad_name, bad_new_name}
use Rattle.model.specs.Table.{sectors_holding}
use Rattle.model.specs.Catalogue.{Catalogue, catalogue_of, is_free, owned_from, file_named, has_name, owns_from}
use Rattle.model.specs.WriteList.{Plan, Record, Group, sector_write, stored, over}
use Rattle.model.specs.Rename.{rename_conditions, renamed_record, replacing_records, rename_plan}
use Rattle.model.specs.Ledger.{Ledger, File, file_or, entry_of_file, catalogue, updated_root, renamed_file, with_slot, slots_without, after_rename, slot_named, unfit_time, unfit_name, unfit_new_name}
use Rattle.laws.proofs.Bytes.{length-zero_sector}
use Rattle.laws.proofs.Entry.{new-name-good, length-renamed_entry_sector}
use Rattle.laws.proofs.Disk.{length-view}
use Rattle.safety.proofs.OwnWords.{named-is, time-is, name-is, new-name-is, file-is, verdicts}
use Rattle.safety.proofs.Searches.{place_found, place_none, or-right-no, same_refl, same_true}
use Rattle.safety.proofs.Apply.{over-append, over_skip, over-here, over_none, All}
use Rattle.safety.proofs.Order.{Reordered, swapped, behind, again, to_end, over-reordered, rising-own}
use Rattle.safety.proofs.Journal.{Rising}
use Rattle.safety.proofs.Plan.{UsableGeometry, Metadata, Whole, metadata-directory}
use Rattle.safety.proofs.Commit.{Ready}
use Rattle.safety.proofs.Frame.{Shows, stored-shows, stored-ready}
use Rattle.safety.proofs.Rep.{Rep, Timely, timely, rep-geometry}
use Rattle.safety.proofs.Changing.{Passed}
use Rattle.safety.proofs.Preserved.{FreeIn, free-said}
use Rattle.safety.proofs.Fields.{length-updated_root_sector}
use Rattle.safety.proofs.Replaced.{replaced, by-slot, table-by}
use Rattle.safety.proofs.Read.{file-there}
use Rattle.safety.proofs.FreedTable.{freed, length-freed, freed-few, freed-metadata, freed-whole, freed-rising, before-table}
use Rattle.safety.proofs.FreedFile.{table-freed}
use Rattle.safety.proofs.FreedSlot.{rep-freed}
use Rattle.safety.proofs.KeptFile.{name-apart}
use Rattle.safety.proofs.RewrittenEntry.{rep-renamed}

-- writes of at least one target and no more than the most, of root, directory and table, in rising order, whole sectors
pub record Fits (g : Geometry) (ts : Group) : Type 0 where
  pub some-target : 0 < length ts
  pub few : length ts ≤ most_targets g
  pub metadata : All (Metadata g) ts
  pub rising : Rising 0 ts
  pub whole : All Whole ts

-- its conditions are the ledger's
pub conditions-are : (L : Ledger) (old new : List ℕ) (time : ℕ) → rename_conditions (catalogue L) old new time
    ≡ verdicts ((unfit_time L time, 8) ∷ (unfit_name L old || unfit_new_name L new, 8) ∷ (not (is_at (slot_named L old)), 9) ∷ [])
unfolding rename_conditions catalogue
conditions-are L old new time = rw (time-is L time, name-is L old, new-name-is L new, named-is L old)

-- the name of a file that has it
pub named-so : (o : Option File) (n : List ℕ) → has_name n (entry_of_file o) ≡ true → (file_or o).entry.name ≡ n
named-so none n h = absurd (true≢false (sym h))
named-so (some f) n h = same_true f.entry.name n h

-- a slot whose file keeps its extents: so does the table
kept_table : (L : Ledger) (i : ℕ) (f y : File) → L.slots i ≡ some f → y.extents ≡ f.extents → (root : Root) (e : ℕ)
    → (catalogue (replaced L root i (some y))).table e ≡ (catalogue L).table e
kept_table L i f y has same root = table-by L (replaced L root i (some y)) refl (λ k. go k (eqb k i) refl)
  where
    go : (k : ℕ) (b : Bool) → eqb k i ≡ b → (file_or (cond b (some y) (L.slots k))).extents ≡ (file_or (L.slots k)).extents
    go k true e = same ∙ sym (ap (λ (n : ℕ). (file_or (L.slots n)).extents) (eqb-true k i e) ∙ ap (λ (o : Option File). (file_or o).extents) has)
    go k false e = refl

module _ (L : Ledger) (img : List ℕ) (rep : Rep L img) (old new : List ℕ) (time : ℕ) where
  abbrev c : Catalogue
  c = catalogue L

  -- the file that is renamed, and the ledger afterwards, by where the new name was
  abbrev i : ℕ
  i = index_of (file_named (catalogue L) old)

  abbrev f : File
  f = file_or (L.slots (index_of (file_named (catalogue L) old)))

  abbrev after : Lowest → Ledger
  after r = record { geometry = L.geometry; root = updated_root time L.root; slots = with_slot (slots_without L r) i (some (renamed_file new time f)) }

  after_is : (b : Bool) (r : Lowest) → equal_bytes old new ≡ b → file_named (catalogue L) new ≡ r → after_rename L old new time ≡ cond b L (after r)
  unfolding after_rename
  after_is b r e q = rw (file-is L old, named-is L old, named-is L new) (ap₂ (λ (t : Bool) (s : Lowest). cond t L (after s)) e q)

  -- by where the new name is
  abbrev pub plan_at : Lowest → Plan
  plan_at r = rename_plan (catalogue L) (view img) (index_of (file_named (catalogue L) old)) r new time

  abbrev w1 : Record
  w1 = sector_write root_at (updated_root_sector L.geometry.edition time (view img root_at))

  abbrev w2 : Record
  w2 = renamed_record (catalogue L) (view img) (index_of (file_named (catalogue L) old)) new time

  abbrev zeroed : ℕ → Record
  zeroed j = sector_write (entry_at j) zero_sector

  abbrev both : Bool → ℕ → Group
  both b j = cond b (w2 ∷ zeroed j ∷ []) (zeroed j ∷ w2 ∷ []) ++ freed L img j 0

  length_both : (b : Bool) (j : ℕ) → length (w1 ∷ both b j) ≡ 3 + sectors_holding (owns_from (catalogue L) j 0) L.geometry
  length_both true j = omega (arith, length-freed L img j 0)
  length_both false j = omega (arith, length-freed L img j 0)

  -- how many targets it has
  pub count_at : (r : Lowest) → length (plan_at r).targets ≡ cond (is_at r) (3 + sectors_holding (owns_from (catalogue L) (index_of r) 0) L.geometry) 2
  unfolding rename_plan replacing_records catalogue
  count_at None = refl
  count_at (Some j) = length_both (ltb i j) j

  geo : UsableGeometry L.geometry
  geo = rep-geometry L img rep

  module _ (ht : time < 2 ^ 64) (passed : Passed (rename_conditions (catalogue L) old new time)) where
    -- ---- what the conditions say

    fitting : Timely L time
    unfolding rename_conditions
    fitting = timely L time passed.0 ht

    good : bad_name L.geometry.edition new ≡ false
    unfolding rename_conditions catalogue
    good = new-name-good L.geometry.edition new (or-right-no (bad_name L.geometry.edition old) (bad_new_name L.geometry.edition new) passed.1.0)

    pub found : (i < L.geometry.files) × (has_name old ((catalogue L).entries i) ≡ true)
    unfolding rename_conditions file_named catalogue
    found = place_found (λ k. has_name old (c.entries k)) L.geometry.files (not-false (is_at (file_named c old)) passed.1.1.0)

    there : L.slots i ≡ some f
    unfolding catalogue
    there = file-there (L.slots i) old found.1

    whole-root : length w1.contents ≡ 512
    whole-root = length-updated_root_sector L.geometry.edition time (view img root_at) ∙ length-view img root_at

    whole-entry : length w2.contents ≡ 512
    unfolding renamed_record
    whole-entry = length-renamed_entry_sector (catalogue L).geometry.edition new time (view img (entry_at i)) ∙ length-view img (entry_at i)

    -- ---- no file has the new name

    module _ (nowhere : file_named (catalogue L) new ≡ None) where
      unused : (k : ℕ) → k < L.geometry.files → has_name new ((catalogue L).entries k) ≡ false
      unfolding file_named catalogue
      unused = place_none (λ k. has_name new (c.entries k)) L.geometry.files (ap is_at nowhere)

      fits-new : Fits L.geometry (plan_at None).targets
      unfolding rename_plan renamed_record catalogue
      fits-new =
          let l : i < L.geometry.files = found.0 in
          record {
            some-target = omega arith;
            few = omega arith;
            metadata = (metadata-directory L.geometry 1 (omega arith) (omega arith), (metadata-directory L.geometry (entry_at i) (omega arith) (omega arith), tt));
            rising = (omega arith, (omega arith, tt));
            whole = (whole-root, (whole-entry, tt));
          }

      rep-new : (out : List ℕ) → Ready L.geometry out → Shows L.geometry (catalogue_of (view img)) (plan_at None).targets img out → Rep (after None) out
      unfolding rename_plan catalogue
      rep-new out ready shows = rep-renamed L img rep i f there new good (λ k l ne. unused k l) time fitting (catalogue_of (view img)) (free-said L img rep) out ready shows

    -- ---- file j has it, and is another

    module _ (j : ℕ) (at : file_named (catalogue L) new ≡ Some j) (other : equal_bytes old new ≡ false) where
      found-new : (j < L.geometry.files) × (has_name new ((catalogue L).entries j) ≡ true)
      unfolding file_named catalogue
      found-new =
          subst (λ (k : ℕ). (k < L.geometry.files) × (has_name new ((catalogue L).entries k) ≡ true)) (ap index_of at)
          (place_found (λ k. has_name new (c.entries k)) L.geometry.files (ap is_at at))

      there-new : L.slots j ≡ some (file_or (L.slots j))
      unfolding catalogue
      there-new = file-there (L.slots j) new found-new.1

      apart : i ≢ j
      unfolding catalogue
      apart e =
          let n : old ≡ new = sym (named-so (L.slots i) old found.1) ∙ ap (λ (k : ℕ). (file_or (L.slots k)).entry.name) e ∙ named-so (L.slots j) new found-new.1 in
          true≢false (sym (same_refl new) ∙ ap (λ (m : List ℕ). equal_bytes m new) (sym n) ∙ other)

      fits_both : (b : Bool) → ltb i j ≡ b → Fits L.geometry (w1 ∷ both b j)
      unfolding renamed_record
      fits_both true e =
          let l : i < L.geometry.files = found.0 in
          let m : j < L.geometry.files = found-new.0 in
          let n : length (freed L img j 0) ≤ table_sectors L.geometry = freed-few L img j 0 in
          let q : i < j = ltb-true i j e in
          record {
            some-target = omega arith;
            few = omega arith;
            metadata = (
              metadata-directory L.geometry 1 (omega arith) (omega arith),
              (
                metadata-directory L.geometry (entry_at i) (omega arith) (omega arith),
                (metadata-directory L.geometry (entry_at j) (omega arith) (omega arith), freed-metadata L img j 0),
              ),
            );
            rising = (omega arith, (omega arith, (omega arith, freed-rising L img j 0 (suc (entry_at j)) (omega arith))));
            whole = (whole-root, (whole-entry, (length-zero_sector, freed-whole L img j 0)));
          }
      fits_both false e =
          let l : i < L.geometry.files = found.0 in
          let m : j < L.geometry.files = found-new.0 in
          let n : length (freed L img j 0) ≤ table_sectors L.geometry = freed-few L img j 0 in
          let q : j ≤ i = ltb-false i j e in
          record {
            some-target = omega arith;
            few = omega arith;
            metadata = (
              metadata-directory L.geometry 1 (omega arith) (omega arith),
              (
                metadata-directory L.geometry (entry_at j) (omega arith) (omega arith),
                (metadata-directory L.geometry (entry_at i) (omega arith) (omega arith), freed-metadata L img j 0),
              ),
            );
            rising = (omega arith, (omega arith, (omega (arith, apart), freed-rising L img j 0 (suc (entry_at i)) (omega arith))));
            whole = (whole-root, (length-zero_sector, (whole-entry, freed-whole L img j 0)));
          }

      fits : Fits L.geometry (plan_at (Some j)).targets
      unfolding rename_plan replacing_records catalogue
      fits = fits_both (ltb i j) refl

      -- ---- the step between: slot j freed, and the root as it was

      abbrev freeing : Group
      freeing = zeroed j ∷ freed L img j 0

      abbrev between : List ℕ
      between = stored (zeroed j ∷ freed L img j 0) img

      abbrev M : Ledger
      M = replaced L L.root j none

      ready-between : Ready L.geometry between
      ready-between =
          let m : j < L.geometry.files = found-new.0 in
          stored-ready L.geometry img freeing geo rep.ready (metadata-directory L.geometry (entry_at j) (omega arith) (omega arith), freed-metadata L img j 0)
          (length-zero_sector, freed-whole L img j 0)

      shows-between : Shows L.geometry (catalogue_of (view img)) freeing img between
      shows-between =
          let m : j < L.geometry.files = found-new.0 in
          stored-shows L.geometry img freeing geo rep.ready (metadata-directory L.geometry (entry_at j) (omega arith) (omega arith), freed-metadata L img j 0)
          (length-zero_sector, freed-whole L img j 0) (catalogue_of (view img))

      low : All (λ w. w.sector < table_at L.geometry) (zeroed j ∷ [])
      low = let m : j < L.geometry.files = found-new.0 in (omega arith, tt)

      kept : (k : ℕ) → k < journal_at L.geometry → k ≢ 0 → k ≢ entry_at j → view between k ≡ view img k
      kept k l n0 ne = before-table L img j 0 rep (zeroed j ∷ []) low between ready-between shows-between k l n0 ∙ over_skip (zeroed j) [] k _ ne ∙ over_none k _

      rep-between : Rep M between
      rep-between =
          let m : j < L.geometry.files = found-new.0 in
          rep-freed L img rep j L.root refl (zeroed j ∷ []) low between ready-between shows-between
          (ap (root_in L.geometry.edition) (kept 1 (omega arith) (λ e. omega arith) (λ e. omega arith)) ∙ rep.says.root)
          (before-table L img j 0 rep (zeroed j ∷ []) low between ready-between shows-between (entry_at j) (omega arith) (λ e. omega arith) ∙ over-here (zeroed j) [] _ ∙ over_none (entry_at j) _)
          (λ k l ne. kept (entry_at k) (omega arith) (λ e. omega arith) (λ e. ne (omega arith)))

      -- all that was free still is
      frees-between : FreeIn (catalogue_of (view img)) M
      frees-between e h = ap is_free (table-freed L L.root j 0 none refl rep.disjoint e) ∙ go (owned_from j 0 ((catalogue L).table e))
        where
          go : (b : Bool) → is_free (cond b none ((catalogue L).table e)) ≡ true
          go true = refl
          go false = free-said L img rep e h

      -- ---- the step to the image that shows them all

      has : M.slots i ≡ some f
      has = ap (λ (b : Bool). cond b none (L.slots i)) (ne_eqb i j apart) ∙ there

      free-name : (k : ℕ) → k < L.geometry.files → has_name new ((catalogue M).entries k) ≡ false
      unfolding catalogue
      free-name k l =
          by-slot L L.root j none (λ o. has_name new o ≡ false) k (λ e. refl)
          (λ ne. ap (λ (n : List ℕ). has_name n (entry_of_file (L.slots k))) (sym (named-so (L.slots j) new found-new.1)) ∙ name-apart L img rep j (file_or (L.slots j)) there-new k l ne)

      reorder : (b : Bool) → Reordered (w1 ∷ both b j) ((freeing ++ (w1 ∷ [])) ++ (w2 ∷ []))
      reorder true = again swapped (again (behind (to_end w1 freeing)) (to_end w2 (freeing ++ (w1 ∷ []))))
      reorder false = again (behind swapped) (again swapped (again (behind (to_end w1 freeing)) (to_end w2 (freeing ++ (w1 ∷ [])))))

      same_writes : (w1 ∷ w2 ∷ []) ≡ (sector_write root_at (updated_root_sector L.geometry.edition time (view between root_at)) ∷ renamed_record (catalogue M) (view between) i new time ∷ [])
      unfolding renamed_record catalogue
      same_writes =
          let l : i < L.geometry.files = found.0 in
          sym (ap₂ (λ (r s : List ℕ). sector_write root_at (updated_root_sector L.geometry.edition time r) ∷ renamed_record (catalogue L) (λ k. s) i new time ∷ [])
          (kept root_at (omega arith) (λ e. omega arith) (λ e. omega arith)) (kept (entry_at i) (omega arith) (λ e. omega arith) (λ e. apart (omega arith))))

      module _ (out : List ℕ) (ready : Ready L.geometry out) (shows : Shows L.geometry (catalogue_of (view img)) (plan_at (Some j)).targets img out) where
        shows-last : Shows L.geometry (catalogue_of (view img)) (w1 ∷ w2 ∷ []) between out
        unfolding rename_plan replacing_records catalogue
        shows-last k o ne =
            shows k o ne
            ∙ over-reordered (reorder (ltb i j)) (rising-own (plan_at (Some j)).targets 0 fits.rising) k _
            ∙ over-append (freeing ++ (w1 ∷ [])) (w2 ∷ []) k _ ∙ ap (over (w2 ∷ []) k) (over-append freeing (w1 ∷ []) k _)
            ∙ sym (over-append (w1 ∷ []) (w2 ∷ []) k _) ∙ ap (over (w1 ∷ w2 ∷ []) k) (sym (shows-between k o ne))

        rep-both : Rep (after (Some j)) out
        rep-both =
            rep-renamed M between rep-between i f has new good (λ k l ne. free-name k l) time fitting (catalogue_of (view img)) frees-between out
            ready (subst (λ (ws : Group). Shows L.geometry (catalogue_of (view img)) ws between out) same_writes shows-last)

    -- ---- wherever the new name is

    module _ (other : equal_bytes old new ≡ false) where
      fits-at : (r : Lowest) → file_named (catalogue L) new ≡ r → Fits L.geometry (plan_at r).targets
      fits-at None q = fits-new q
      fits-at (Some j) q = fits j q other

      pub renaming-fits : Fits L.geometry (plan_at (file_named (catalogue L) new)).targets
      renaming-fits = fits-at (file_named (catalogue L) new) refl

      rep_at : (r : Lowest) → file_named (catalogue L) new ≡ r → (out : List ℕ) → Ready L.geometry out
          → Shows L.geometry (catalogue_of (view img)) (plan_at r).targets img out → Rep (after r) out
      rep_at None q = rep-new q
      rep_at (Some j) q = rep-both j q other

      -- THE IMAGE THAT SHOWS ITS WRITES
      pub rep-renaming : (out : List ℕ) → Ready L.geometry out
          → Shows L.geometry (catalogue_of (view img)) (plan_at (file_named (catalogue L) new)).targets img out → Rep (after_rename L old new time) out
      rep-renaming out ready shows =
          subst (λ (X : Ledger). Rep X out) (sym (after_is false (file_named (catalogue L) new) other refl)) (rep_at (file_named (catalogue L) new) refl out ready shows)

      -- all that was free still is
      free-at : (r : Lowest) → file_named (catalogue L) new ≡ r → (e : ℕ) → is_free ((catalogue L).table e) ≡ true → is_free ((catalogue (after r)).table e) ≡ true
      free-at None q e h = ap is_free (kept_table L i f (renamed_file new time f) there refl (updated_root time L.root) e) ∙ h
      free-at (Some j) q e h =
          ap is_free (kept_table (M j q other) i f (renamed_file new time f) (has j q other) refl (updated_root time L.root) e)
          ∙ frees-between j q other e (ap is_free (rep.says.table e) ∙ h)

      pub renaming-frees : (e : ℕ) → is_free ((catalogue L).table e) ≡ true → is_free ((catalogue (after_rename L old new time)).table e) ≡ true
      renaming-frees e h =
          subst (λ (X : Ledger). is_free ((catalogue X).table e) ≡ true) (sym (after_is false (file_named (catalogue L) new) other refl)) (free-at (file_named (catalogue L) new) refl e h)
