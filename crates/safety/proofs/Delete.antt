-- What delete has to show: the ledger's answer, and its effect. Assumes nothing.
use Prim.Native.Nat.{ℕ, suc, ◌+◌, ◌*◌, ◌^◌, ◌≤◌, ◌<◌}
use mathlib.Core.Path.{◌≡◌, refl, sym, ap, ◌∙◌, subst}
use mathlib.Core.Logic.{◌≢◌}
use mathlib.Core.List.{List, [], ◌∷◌, ◌++◌}
use mathlib.Core.Option.{none, some}
use native.Mathlib.Omega.{arith}
use mathlib.Core.Bool.{false}
use lib.ListN.{length}
use borrow.Author.Tests.{not-false, lt-ltb}
use Rattle.model.specs.Bytes.{zero_sector}
use Rattle.model.specs.Search.{Lowest, is_at, index_of}
use Rattle.model.specs.Geometry.{root_at, entry_at, journal_at, table_at, table_sectors}
use Rattle.model.specs.Disk.{view}
use Rattle.model.specs.Root.{root_in, updated_root_sector}
use Rattle.model.specs.Table.{sectors_holding}
use Rattle.model.specs.Catalogue.{Catalogue, catalogue_of, file_named, lacks_reserve, has_name, owns_from}
use Rattle.model.specs.Refusals.{Conditions, verdict_of}
use Rattle.model.specs.WriteList.{Plan, Record, Group, sector_write, groups_for, list_length, record_size, record_count, over}
use Rattle.model.specs.Find.{name_conditions}
use Rattle.model.specs.Delete.{delete_conditions, delete_plan, delete_decision}
use Rattle.model.specs.Ledger.{Ledger, catalogue, delete, updated_root, freed_records, with_root_updated, step, answer}
use Rattle.model.specs.Run.{volume_answer, on_volume}
use Rattle.laws.proofs.Bytes.{length-zero_sector}
use Rattle.laws.proofs.Disk.{length-view}
use Rattle.safety.proofs.OwnWords.{named-is, time-is, name-is}
use Rattle.safety.proofs.Searches.{place_found}
use Rattle.safety.proofs.Apply.{over-here, over_skip, over_none, All}
use Rattle.safety.proofs.Plan.{UsableGeometry, WellFormed, metadata-directory}
use Rattle.safety.proofs.Commit.{Ready, uncut, ready-uncut}
use Rattle.laws.proofs.WriteList.{plan-needs}
use Rattle.safety.proofs.Frame.{Shows, done-shows}
use Rattle.safety.proofs.Rep.{Rep, Timely, timely, rep-geometry}
use Rattle.safety.proofs.Changing.{Passed, last-is, Carries, effect-changing, Decides, same-changing}
use Rattle.safety.proofs.Preserved.{targets-fit, part-keeps}
use Rattle.safety.proofs.Fields.{length-updated_root_sector, root-updated}
use Rattle.safety.proofs.FreedTable.{freed, length-freed, freed-few, freed-metadata, freed-whole, freed-rising, before-table}
use Rattle.safety.proofs.FreedSlot.{rep-freed}
use Rattle.safety.proofs.Induction.{Effect}

module _ (L : Ledger) (img : List ℕ) (rep : Rep L img) (name : List ℕ) (time room : ℕ) where
  abbrev c : Catalogue
  c = catalogue L

  abbrev i : ℕ
  i = index_of (file_named (catalogue L) name)

  abbrev conditions : Catalogue → Conditions
  conditions x = delete_conditions x name time

  abbrev plan : Catalogue → Plan
  plan x = delete_plan x (view img) (index_of (file_named x name)) time

  abbrev p : Plan
  p = delete_plan (catalogue L) (view img) (index_of (file_named (catalogue L) name)) time

  abbrev w1 : Record
  w1 = sector_write root_at (updated_root_sector L.geometry.edition time (view img root_at))

  abbrev w2 : Record
  w2 = sector_write (entry_at i) zero_sector

  abbrev table-writes : Group
  table-writes = freed L img i 0

  abbrev records : ℕ
  records = freed_records L name 0 2

  size : list_length (groups_for (view img) (some p)) ≡ freed_records L name 0 2 * record_size
  unfolding delete_plan freed_records catalogue
  size =
      rw (named-is L name)
      (plan-needs (view img) p
      ∙ ap (λ n. record_count 0 n * record_size)
      (let e : length table-writes ≡ sectors_holding (owns_from (catalogue L) i 0) L.geometry = length-freed L img i 0 in
      let q : suc (suc (length table-writes)) ≡ 2 + sectors_holding (owns_from (catalogue L) i 0) L.geometry = omega arith in q))

  some-records : 0 < freed_records L name 0 2
  unfolding freed_records
  some-records = omega arith

  decides : Decides L img (delete name time room) conditions (λ x. some (plan x)) room records
  unfolding on_volume delete_decision step delete_conditions name_conditions catalogue
  decides = record {
    volume = refl;
    reply = refl;
    judges = record {
      conditions = ap (λ (cs : Conditions). verdict_of (conditions (catalogue L) ++ cs)) (last-is L (some p) room records (sym (lt-ltb 0 records some-records)))
          ∙ rw (time-is L time, name-is L name, named-is L name);
      refusing = refl;
      size = size;
    };
  }

  pub delete-same : volume_answer (delete name time room) img ≡ answer (delete name time room) L
  delete-same = same-changing L img rep _ _ _ room records decides

  geo : UsableGeometry L.geometry
  geo = rep-geometry L img rep

  module _ (ht : time < 2 ^ 64) (passed : Passed (delete_conditions (catalogue L) name time)) (there : lacks_reserve (catalogue L) ≡ false) where
    fitting : Timely L time
    unfolding delete_conditions
    fitting = timely L time passed.0 ht

    within : i < L.geometry.files
    unfolding delete_conditions name_conditions file_named catalogue
    within = (place_found (λ k. has_name name (c.entries k)) L.geometry.files (not-false (is_at (file_named c name)) passed.1.1.0)).0

    fits : WellFormed L.geometry (view img) p
    unfolding delete_plan catalogue
    fits =
        let l : i < L.geometry.files = within in
        let m : length table-writes ≤ table_sectors L.geometry = freed-few L img i 0 in
        targets-fit L img rep there _ (omega arith) (omega arith)
        (metadata-directory L.geometry 1 (omega arith) (omega arith), (metadata-directory L.geometry (entry_at i) (omega arith) (omega arith), freed-metadata L img i 0))
        (omega arith, (omega arith, freed-rising L img i 0 (suc (entry_at i)) (omega arith)))
        (length-updated_root_sector L.geometry.edition time (view img root_at) ∙ length-view img 1, (length-zero_sector, freed-whole L img i 0))

    -- ---- the new image

    abbrev out : List ℕ
    out = uncut L.geometry img p

    ready : Ready L.geometry out
    ready = ready-uncut L.geometry img p geo fits rep.ready

    low : All (λ w. w.sector < table_at L.geometry) (w1 ∷ w2 ∷ [])
    low = let l : i < L.geometry.files = within in (omega arith, (omega arith, tt))

    shows : Shows L.geometry (catalogue_of (view img)) (w1 ∷ w2 ∷ table-writes) img out
    unfolding delete_plan catalogue
    shows = done-shows L.geometry img p geo fits rep.ready

    at : (j : ℕ) → j < journal_at L.geometry → j ≢ 0 → view out j ≡ over (w1 ∷ w2 ∷ []) j (view img j)
    at = before-table L img i 0 rep (w1 ∷ w2 ∷ []) low out ready shows

    done : Rep (with_root_updated L time i none) out
    unfolding updated_root
    done =
        let l : i < L.geometry.files = within in
        rep-freed L img rep i (updated_root time L.root) refl (w1 ∷ w2 ∷ []) low out ready shows
        (ap (root_in L.geometry.edition) (at 1 (omega arith) (λ e. omega arith) ∙ over-here w1 (w2 ∷ []) _ ∙ over_skip w2 [] 1 _ (λ e. omega arith) ∙ over_none 1 _)
        ∙ root-updated L.geometry.edition time (view img root_at) (length-view img root_at) fitting ∙ ap (updated_root time) rep.says.root)
        (at (entry_at i) (omega arith) (λ e. omega arith) ∙ over_skip w1 (w2 ∷ []) (entry_at i) _ (λ e. omega arith) ∙ over-here w2 [] _ ∙ over_none (entry_at i) _)
        (λ k q ne. at (entry_at k) (omega arith) (λ e. omega arith) ∙ over_skip w1 (w2 ∷ []) (entry_at k) _ (λ e. omega arith)
        ∙ over_skip w2 [] (entry_at k) _ (λ e. ne (omega arith)) ∙ over_none (entry_at k) _)

    carries : Carries L img (delete name time room) p
    unfolding step delete_plan catalogue
    carries = record {
      fits = fits;
      done = subst (λ (x : Lowest). Rep (with_root_updated L time (index_of x) none) out) (sym (named-is L name)) done;
      partly = λ k m. part-keeps L img p rep fits refl k m;
    }

  -- what delete does
  pub delete-effect : time < 2 ^ 64 → Effect Rep (delete name time room) L img
  delete-effect ht = effect-changing L img rep _ _ _ room records decides (λ passed there. carries ht passed there)
