-- What rename has to show: the ledger's answer, and its effect. Assumes nothing.
use Prim.Native.Nat.{ℕ, ◌+◌, ◌*◌, ◌^◌, ◌<◌}
use mathlib.Core.Path.{◌≡◌, refl, sym, ap, ◌∙◌, subst}
use mathlib.Core.Bool.{Bool, true, false, cond, ◌&&◌}
use mathlib.Core.List.{List, [], ◌∷◌, ◌++◌}
use mathlib.Core.Option.{Option, none, some}
use native.Mathlib.Omega.{arith}
use lib.Dec.{ltb}
use borrow.Author.Tests.{lt-ltb}
use Rattle.std.specs.Prelude.{Some, None}
use Rattle.model.specs.Search.{Lowest, is_at, index_of, equal_bytes}
use Rattle.model.specs.Disk.{view}
use Rattle.model.specs.Table.{sectors_holding}
use Rattle.model.specs.Catalogue.{Catalogue, lacks_reserve, file_named, owns_from}
use Rattle.model.specs.Refusals.{Conditions, verdict_of}
use Rattle.model.specs.WriteList.{Plan, groups_for, list_length, record_size, record_count, is_planned}
use Rattle.model.specs.Rename.{rename_conditions, rename_plan, rename_planned, rename_decision}
use Rattle.model.specs.Ledger.{Ledger, catalogue, rename, slot_named, freed_records, renamed_records, no_reserve, too_short, step, answer}
use Rattle.model.specs.Run.{volume_answer, on_volume}
use Rattle.laws.proofs.WriteList.{plan-needs}
use Rattle.safety.proofs.OwnWords.{named-is, verdicts}
use Rattle.safety.proofs.Plan.{UsableGeometry, WellFormed}
use Rattle.safety.proofs.Commit.{uncut, ready-uncut}
use Rattle.safety.proofs.Frame.{done-shows}
use Rattle.safety.proofs.Rep.{Rep, rep-geometry}
use Rattle.safety.proofs.Changing.{Passed, last-is, Carries, Carried, effect-changing, Decides, same-changing}
use Rattle.safety.proofs.Preserved.{targets-fit, part-keeps}
use Rattle.safety.proofs.Naming.{after-itself}
use Rattle.safety.proofs.Renamed.{Fits, conditions-are, count_at, renaming-fits, rep-renaming}
use Rattle.safety.proofs.Induction.{Effect}

module _ (L : Ledger) (img : List ℕ) (rep : Rep L img) (old new : List ℕ) (time room : ℕ) where
  abbrev conditions : Catalogue → Conditions
  conditions x = rename_conditions x old new time

  abbrev plan : Catalogue → Option Plan
  plan x = rename_planned x (view img) old new time

  -- by where the new name is
  abbrev plan_at : Lowest → Plan
  plan_at r = rename_plan (catalogue L) (view img) (index_of (file_named (catalogue L) old)) r new time

  abbrev records : ℕ
  records = renamed_records L old new

  size : list_length (groups_for (view img) (rename_planned (catalogue L) (view img) old new time)) ≡ renamed_records L old new * record_size
  unfolding groups_for rename_planned rename_plan renamed_records freed_records
  size = rw (named-is L new) (go (equal_bytes old new) (file_named (catalogue L) new))
    where
      go : (b : Bool) (r : Lowest) → list_length (groups_for (view img) (cond b none (some (plan_at r))))
          ≡ cond b 0 (cond (is_at r) (record_count 0 (3 + sectors_holding (owns_from (catalogue L) (index_of r) 0) L.geometry)) (record_count 0 2)) * record_size
      go true r = refl
      go false None = plan-needs (view img) (plan_at None) ∙ ap (λ n. record_count 0 n * record_size) (count_at L img rep old new time None)
      go false (Some j) = plan-needs (view img) (plan_at (Some j)) ∙ ap (λ n. record_count 0 n * record_size) (count_at L img rep old new time (Some j))

  planned : is_planned (rename_planned (catalogue L) (view img) old new time) ≡ ltb 0 (renamed_records L old new)
  unfolding rename_planned renamed_records freed_records
  planned = go (equal_bytes old new) (is_at (slot_named L new))
    where
      go : (b t : Bool) → is_planned (cond b none (some (plan_at (file_named (catalogue L) new)))) ≡ ltb 0 (cond b 0 (cond t (freed_records L new 0 3) (record_count 0 2)))
      go true t = refl
      go false true = sym (lt-ltb 0 (freed_records L new 0 3) (omega arith))
      go false false = refl

  decides : Decides L img (rename old new time room) conditions plan room records
  unfolding on_volume rename_decision step rename_conditions catalogue
  decides = record {
    volume = refl;
    reply = refl;
    judges = record {
      conditions = ap (λ (cs : Conditions). verdict_of (conditions (catalogue L) ++ cs)) (last-is L (plan (catalogue L)) room records planned)
          ∙ ap (λ (cs : Conditions). verdict_of (cs ++ verdicts (no_reserve L records ∷ too_short room records ∷ []))) (conditions-are L old new time);
      refusing = refl;
      size = size;
    };
  }

  pub rename-same : volume_answer (rename old new time room) img ≡ answer (rename old new time room) L
  rename-same = same-changing L img rep _ _ _ room records decides

  geo : UsableGeometry L.geometry
  geo = rep-geometry L img rep

  module _ (ht : time < 2 ^ 64) (passed : Passed (rename_conditions (catalogue L) old new time)) (reserve : lacks_reserve (catalogue L) ≡ false)
      (other : equal_bytes old new ≡ false) where
    abbrev p : Plan
    p = rename_plan (catalogue L) (view img) (index_of (file_named (catalogue L) old)) (file_named (catalogue L) new) new time

    fits : WellFormed L.geometry (view img) p
    unfolding rename_plan
    fits =
        let x : Fits L.geometry p.targets = renaming-fits L img rep old new time ht passed other in
        targets-fit L img rep reserve p.targets x.some-target x.few x.metadata x.rising x.whole

    carries : Carries L img (rename old new time room) p
    unfolding step rename_plan
    carries = record {
      fits = fits;
      done = rep-renaming L img rep old new time ht passed other (uncut L.geometry img p) (ready-uncut L.geometry img p geo fits rep.ready)
          (done-shows L.geometry img p geo fits rep.ready);
      partly = λ k m. part-keeps L img p rep fits refl k m;
    }

  -- or none for a name renamed to itself
  carried : time < 2 ^ 64 → Passed (rename_conditions (catalogue L) old new time) → (is_planned (rename_planned (catalogue L) (view img) old new time) && lacks_reserve (catalogue L)) ≡ false
      → Carried L img (rename old new time room) (rename_planned (catalogue L) (view img) old new time)
  unfolding rename_planned step
  carried ht passed = go (equal_bytes old new) refl
    where
      planned-by : Bool → Option Plan
      planned-by b = cond b none (some (plan_at (file_named (catalogue L) new)))

      go : (b : Bool) → equal_bytes old new ≡ b → (is_planned (planned-by b) && lacks_reserve (catalogue L)) ≡ false → Carried L img (rename old new time room) (planned-by b)
      go true e r = subst (λ (X : Ledger). Rep X img) (sym (after-itself L old new time e)) rep
      go false e r = carries ht passed r e

  -- what rename does
  pub rename-effect : time < 2 ^ 64 → Effect Rep (rename old new time room) L img
  rename-effect ht = effect-changing L img rep _ _ _ room records decides (λ passed never. carried ht passed never)
