-- What create has to show: the ledger's answer, and its effect. Assumes nothing.
use Prim.Native.Nat.{ℕ, ◌*◌, ◌^◌, ◌<◌}
use mathlib.Core.Path.{◌≡◌, refl, sym, ap, ◌∙◌, subst}
use mathlib.Core.Logic.{◌≢◌}
use mathlib.Core.Bool.{true, false, cond, ◌&&◌, ◌||◌, false≢true}
use mathlib.Core.List.{List, [], ◌∷◌, ◌++◌}
use mathlib.Core.Option.{Option, none, some, some-injective}
use native.Mathlib.Omega.{arith}
use lib.Dec.{eqb}
use lib.ListN.{length}
use borrow.Author.Tests.{lt-ltb, not-false}
use Rattle.model.specs.Search.{Lowest, tabulate, any_below, is_at, index_of}
use Rattle.model.specs.Geometry.{root_at, entry_at, extents_for}
use Rattle.model.specs.Disk.{view}
use Rattle.model.specs.Root.{root_in, updated_root_sector}
use Rattle.model.specs.Entry.{bad_name, bad_new_name, is_occupied, new_entry_sector}
use Rattle.model.specs.Table.{table_sector_of}
use Rattle.model.specs.Catalogue.{Catalogue, catalogue_of, file_named, free_entry, lacks_reserve, is_free, has_name, has_id, file_bytes}
use Rattle.model.specs.Faults.{fault21}
use Rattle.model.specs.Refusals.{Conditions, verdict_of}
use Rattle.model.specs.WriteList.{Plan, Record, sector_write, groups_for, list_length, record_size}
use Rattle.model.specs.Create.{create_conditions, create_plan, create_count, create_decision}
use Rattle.model.specs.Ledger.{Ledger, File, entry_of_file, catalogue, create, new_entry, updated_root, step, answer}
use Rattle.model.specs.Run.{volume_answer, on_volume}
use Rattle.laws.proofs.Entry.{new-name-good}
use Rattle.laws.proofs.Disk.{length-view}
use Rattle.safety.proofs.OwnWords.{named-is, slot_is, ids-is, time-is, new-name-is}
use Rattle.safety.proofs.Searches.{place_found, place_none, or-left-no, or-right-no, any_below-none}
use Rattle.safety.proofs.Apply.{over-here, over_skip, over_none}
use Rattle.safety.proofs.Plan.{UsableGeometry, WellFormed, metadata-directory}
use Rattle.safety.proofs.Commit.{Ready, uncut, ready-uncut}
use Rattle.laws.proofs.WriteList.{plan-needs}
use Rattle.safety.proofs.Frame.{Outside, Shows, done-shows}
use Rattle.safety.proofs.Bounds.{no-extent}
use Rattle.safety.proofs.Rep.{Rep, Timely, timely, rep-geometry}
use Rattle.safety.proofs.Changing.{Passed, last-is, Carries, effect-changing, Decides, same-changing}
use Rattle.safety.proofs.Preserved.{out-front, out-table, out-data, slot_in, entry-is, table-keep, free-said, bytes-keep, targets-fit, part-keeps}
use Rattle.safety.proofs.Fields.{length-updated_root_sector, root-updated, length-new_entry, new-occupied, new-entry, occupied-mark}
use Rattle.safety.proofs.Rewritten.{Rewrites, rep-replaced}
use Rattle.safety.proofs.NewFile.{new_file, created, disjoint-created, table-created, admissible-new}
use Rattle.safety.proofs.Induction.{Effect}

bytes-none : (c : Catalogue) (d : ℕ → List ℕ) (i : ℕ) → file_bytes c d i 0 0 ≡ []
unfolding file_bytes tabulate
bytes-none c d i = refl

empty-slot : (o : Option File) → is_free (entry_of_file o) ≡ true → o ≡ none
empty-slot none e = refl
empty-slot (some f) e = absurd (false≢true e)

module _ (L : Ledger) (img : List ℕ) (rep : Rep L img) (name : List ℕ) (id mode time room : ℕ) where
  abbrev c : Catalogue
  c = catalogue L

  abbrev i : ℕ
  i = index_of (free_entry (catalogue L))

  abbrev conditions : Catalogue → Conditions
  conditions x = create_conditions x name id time

  abbrev plan : Catalogue → Plan
  plan x = create_plan x (view img) name id mode time

  abbrev p : Plan
  p = create_plan (catalogue L) (view img) name id mode time

  size : list_length (groups_for (view img) (some p)) ≡ create_count * record_size
  unfolding create_plan
  size = plan-needs (view img) p

  decides : Decides L img (create name id mode time room) conditions (λ x. some (plan x)) room create_count
  unfolding on_volume create_decision step create_conditions catalogue
  decides = record {
    volume = refl;
    reply = refl;
    judges = record {
      conditions = ap (λ (cs : Conditions). verdict_of (conditions (catalogue L) ++ cs)) (last-is L (some p) room create_count refl)
          ∙ rw (time-is L time, new-name-is L name, named-is L name, ids-is L id, slot_is L);
      refusing = refl;
      size = size;
    };
  }

  pub create-same : volume_answer (create name id mode time room) img ≡ answer (create name id mode time room) L
  create-same = same-changing L img rep _ _ _ room create_count decides

  module _ (hi : id < 2 ^ 64) (hm : mode < 2 ^ 32) (ht : time < 2 ^ 64) (passed : Passed (create_conditions (catalogue L) name id time))
      (there : lacks_reserve (catalogue L) ≡ false) where
    -- ---- what the conditions say

    fitting : Timely L time
    unfolding create_conditions
    fitting = timely L time passed.0 ht

    good : bad_name L.geometry.edition name ≡ false
    unfolding create_conditions catalogue
    good = new-name-good L.geometry.edition name (or-left-no (bad_new_name L.geometry.edition name) (eqb id 0) passed.1.0)

    some_id : eqb id 0 ≡ false
    unfolding create_conditions catalogue
    some_id = or-right-no (bad_new_name L.geometry.edition name) (eqb id 0) passed.1.0

    new-name : (k : ℕ) → k < L.geometry.files → has_name name ((catalogue L).entries k) ≡ false
    unfolding create_conditions file_named catalogue
    new-name =
        place_none (λ k. has_name name (c.entries k)) L.geometry.files
        (or-left-no _ (any_below (λ k. has_id id (c.entries k)) L.geometry.files) (or-left-no _ (eqb id L.root.id) passed.1.1.0))

    new-id : (k : ℕ) → k < L.geometry.files → has_id id ((catalogue L).entries k) ≡ false
    unfolding create_conditions catalogue
    new-id = any_below-none (λ k. has_id id (c.entries k)) L.geometry.files (or-right-no (is_at (file_named c name)) _ (or-left-no _ (eqb id L.root.id) passed.1.1.0))

    not_root : eqb id L.root.id ≡ false
    unfolding create_conditions catalogue
    not_root = or-right-no (is_at (file_named c name) || any_below (λ k. has_id id (c.entries k)) L.geometry.files) (eqb id L.root.id) passed.1.1.0

    free : (i < L.geometry.files) × (is_free ((catalogue L).entries i) ≡ true)
    unfolding create_conditions free_entry catalogue
    free = place_found (λ k. is_free (c.entries k)) L.geometry.files (not-false (is_at (free_entry c)) passed.1.1.1.0)

    empty : L.slots i ≡ none
    unfolding catalogue
    empty = empty-slot (L.slots i) free.1

    -- ---- the plan

    geo : UsableGeometry L.geometry
    geo = rep-geometry L img rep

    fits : WellFormed L.geometry (view img) p
    unfolding create_plan catalogue
    fits =
        let l : i < L.geometry.files = free.0 in
        targets-fit L img rep there _ (omega arith) (omega arith)
        (metadata-directory L.geometry 1 (omega arith) (omega arith), (metadata-directory L.geometry (entry_at i) (omega arith) (omega arith), tt))
        (omega arith, (omega arith, tt))
        (length-updated_root_sector L.geometry.edition time (view img root_at) ∙ length-view img 1, (length-new_entry L.geometry.edition name id mode time, tt))

    -- ---- the sectors of the new image

    abbrev w1 : Record
    w1 = sector_write root_at (updated_root_sector L.geometry.edition time (view img root_at))

    abbrev w2 : Record
    w2 = sector_write (entry_at i) (new_entry_sector L.geometry.edition name id mode time)

    module _ (out : List ℕ) (ready : Ready L.geometry out) (shows : Shows L.geometry (catalogue_of (view img)) (w1 ∷ w2 ∷ []) img out) where
      at-root : view out root_at ≡ updated_root_sector L.geometry.edition time (view img root_at)
      at-root =
          shows 1 (out-front L.geometry 1 (omega arith)) (λ e. omega arith)
          ∙ over-here w1 (w2 ∷ []) _ ∙ over_skip w2 [] 1 _ (λ e. omega arith) ∙ over_none 1 _

      at_entry : view out (entry_at i) ≡ new_entry_sector L.geometry.edition name id mode time
      at_entry =
          let l : i < L.geometry.files = free.0 in
          shows (entry_at i) (out-front L.geometry (entry_at i) (omega arith)) (λ e. omega arith)
          ∙ over_skip w1 (w2 ∷ []) (entry_at i) _ (λ e. omega arith) ∙ over-here w2 [] _ ∙ over_none (entry_at i) _

      at_other : (j : ℕ) → Outside L.geometry (catalogue_of (view img)) j → j ≢ 0 → j ≢ 1 → j ≢ entry_at i → view out j ≡ view img j
      at_other j o n0 n1 ni =
          shows j o n0 ∙ over_skip w1 (w2 ∷ []) j _ n1 ∙ over_skip w2 [] j _ ni ∙ over_none j _

      -- ---- what it says

      entry_new : (catalogue_of (view out)).entries i ≡ some (new_entry name id mode time)
      entry_new =
          entry-is L.geometry (view out) (view out) ready.volume.geometry ready.volume.geometry i
          ∙ ap (λ (s : List ℕ). slot_in L.geometry s i) at_entry
          ∙ (λ j. cond (lt-ltb i L.geometry.files free.0 j && new-occupied L.geometry.edition name id mode time j)
          (some (new-entry L.geometry.edition name id mode time good hi hm fitting j)) none)

      table_same : (e : ℕ) → (catalogue_of (view out)).table e ≡ (catalogue (created L i name id mode time)).table e
      table_same e =
          let l : i < L.geometry.files = free.0 in
          table-keep L.geometry (view img) (view out) rep.ready.volume.geometry ready.volume.geometry e
          (λ q. at_other (table_sector_of L.geometry e) (out-table L.geometry e q) (λ z. omega arith) (λ z. omega arith) (λ z. omega arith))
          ∙ rep.says.table e ∙ sym (table-created L i name id mode time empty e)

      bytes-new : (x : File) → some (new_file L i name id mode time) ≡ some x → file_bytes (catalogue_of (view out)) (view out) i 0 x.entry.size ≡ x.bytes
      unfolding new_entry
      bytes-new x e =
          subst (λ (y : File). file_bytes (catalogue_of (view out)) (view out) i 0 y.entry.size ≡ y.bytes) (some-injective _ _ e)
          (bytes-none (catalogue_of (view out)) (view out) i)

      sized_new : (x : File) → some (new_file L i name id mode time) ≡ some x → length x.extents ≡ extents_for L.geometry x.entry.size
      unfolding new_entry
      sized_new x e =
          subst (λ (y : File). length y.extents ≡ extents_for L.geometry y.entry.size) (some-injective _ _ e) (sym (no-extent L.geometry rep.bounded))

      mark-new : fault21 (view out) i ≡ false
      unfolding fault21
      mark-new = occupied-mark (view out (entry_at i)) (ap is_occupied at_entry ∙ new-occupied L.geometry.edition name id mode time)

      rewrites : Rewrites L img (updated_root time L.root) i (some (new_file L i name id mode time)) out
      rewrites =
          let l : i < L.geometry.files = free.0 in
          record {
            ready = ready;
            new-root = ap (root_in L.geometry.edition) at-root
                ∙ root-updated L.geometry.edition time (view img root_at) (length-view img root_at) fitting ∙ ap (updated_root time) rep.says.root;
            mark = mark-new;
            entry = entry_new;
            entries = λ k q ne. at_other (entry_at k) (out-front L.geometry (entry_at k) (omega arith)) (λ z. omega arith) (λ z. omega arith) (λ z. ne (omega arith));
            table = table_same;
            bytes = bytes-new;
            kept = λ k x ne e b q. bytes-keep L img out rep (catalogue_of (view img)) (free-said L img rep)
                (λ j u v. at_other j (out-data L.geometry j u v) (λ z. omega arith) (λ z. omega arith) (λ z. omega arith)) k x e b q;
            admissible = admissible-new L i name id mode time empty rep.bounded good some_id new-name new-id not_root rep.faultless;
            disjoint = disjoint-created L i name id mode time empty rep.disjoint;
            sized = sized_new;
          }

    carries : Carries L img (create name id mode time room) p
    unfolding step create_plan catalogue
    carries = record {
      fits = fits;
      done = subst (λ (x : Lowest). Rep (created L (index_of x) name id mode time) (uncut L.geometry img p)) (sym (slot_is L))
          (rep-replaced L img rep (updated_root time L.root) i (some (new_file L i name id mode time)) _
          (rewrites _ (ready-uncut L.geometry img p geo fits rep.ready) (done-shows L.geometry img p geo fits rep.ready)));
      partly = λ k m. part-keeps L img p rep fits refl k m;
    }

  -- what create does
  pub create-effect : (id < 2 ^ 64) × (mode < 2 ^ 32) × (time < 2 ^ 64) → Effect Rep (create name id mode time room) L img
  create-effect f = effect-changing L img rep _ _ _ room create_count decides (λ passed there. carries f.0 f.1 f.2 passed there)
