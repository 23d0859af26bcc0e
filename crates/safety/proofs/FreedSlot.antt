-- A slot that becomes free: an image that shows its entry zeroed and its extents freed represents the ledger without the file, with any root of
-- the same id that it says. Assumes nothing.
use Prim.Native.Nat.{ℕ, ◌<◌}
use mathlib.Core.Path.{◌≡◌, refl, sym, ap, ◌∙◌}
use mathlib.Core.Logic.{◌≢◌}
use mathlib.Core.Bool.{Bool, true, false, cond, not, ◌&&◌, ◌||◌}
use mathlib.Core.List.{List, ◌++◌}
use mathlib.Core.Option.{Option, none, some, none-ne-some}
use lib.Dec.{eqb, leb, ltb, leb-zero}
use Rattle.model.specs.Bytes.{number_in, zero_sector}
use Rattle.model.specs.Geometry.{root_at, entry_at, table_at}
use Rattle.model.specs.Disk.{view}
use Rattle.model.specs.Root.{Root, root_in}
use Rattle.model.specs.Entry.{entry_field, free_mark, entry_in, is_occupied}
use Rattle.model.specs.Catalogue.{Owner, catalogue_of, owned_from}
use Rattle.model.specs.Faults.{holds_of, fault21}
use Rattle.model.specs.WriteList.{Group}
use Rattle.model.specs.Ledger.{Ledger, catalogue}
use Rattle.laws.proofs.Bytes.{zero_field}
use Rattle.laws.proofs.Entry.{zero-free}
use Rattle.safety.proofs.Apply.{All}
use Rattle.safety.proofs.Commit.{Ready}
use Rattle.safety.proofs.Frame.{Shows}
use Rattle.safety.proofs.Rep.{Rep}
use Rattle.safety.proofs.Preserved.{slot_in, entry-is}
use Rattle.safety.proofs.Replaced.{replaced, Admissible}
use Rattle.safety.proofs.Rewritten.{rep-replaced}
use Rattle.safety.proofs.FreedFile.{table-freed, disjoint-freed, others-freed}
use Rattle.safety.proofs.FreedTable.{freed, behind-table, table-after}

-- a table entry that is not beyond 0 is not the file's
not-owned : (i : ℕ) (o : Option Owner) (s : Owner → Bool) → holds_of (cond (owned_from i 0 o) none o) (λ w. eqb w.file i && s w) ≡ false
not-owned i none s = refl
not-owned i (some w) s = go (eqb w.file i) refl
  where
    go : (b : Bool) → eqb w.file i ≡ b → holds_of (cond (b && leb 0 w.offset) none (some w)) (λ v. eqb v.file i && s v) ≡ false
    go true e = ap (λ (b : Bool). holds_of (cond b none (some w)) (λ v. eqb v.file i && s v)) (leb-zero w.offset)
    go false e = ap (λ (b : Bool). b && s w) e

module _ (L : Ledger) (img : List ℕ) (rep : Rep L img) (i : ℕ) (root : Root) (same_id : root.id ≡ L.root.id) (front : Group)
    (low : All (λ w. w.sector < table_at L.geometry) front) (out : List ℕ) (ready : Ready L.geometry out)
    (shows : Shows L.geometry (catalogue_of (view img)) (front ++ freed L img i 0) img out) (at-root : root_in L.geometry.edition (view out root_at) ≡ root)
    (at_entry_lem : view out (entry_at i) ≡ zero_sector) (at_others : (k : ℕ) → k < L.geometry.files → k ≢ i → view out (entry_at k) ≡ view img (entry_at k)) where
  entry_free : (catalogue_of (view out)).entries i ≡ none
  entry_free =
      entry-is L.geometry (view out) (view out) ready.volume.geometry ready.volume.geometry i ∙ ap (λ (s : List ℕ). slot_in L.geometry s i) at_entry_lem
      ∙ go (ltb i L.geometry.files)
    where
      go : (x : Bool) → cond (x && is_occupied zero_sector) (some (entry_in L.geometry.edition zero_sector)) none ≡ none
      go true = ap (λ (b : Bool). cond b (some (entry_in L.geometry.edition zero_sector)) none) zero-free
      go false = refl

  mark-free : fault21 (view out) i ≡ false
  unfolding fault21
  mark-free =
      ap (λ (s : List ℕ). not (eqb (number_in s entry_field.mark) free_mark || is_occupied s)) at_entry_lem
      ∙ ap (λ n. not (eqb n free_mark || is_occupied zero_sector)) (zero_field entry_field.mark)

  admissible : Admissible L root i none
  admissible = record {
    root-id = same_id;
    entry = refl;
    id = refl;
    names = λ k l ne. refl;
    ids = λ k l ne. refl;
    others = others-freed L root i 0 none refl rep.disjoint;
    owned = λ e l. ap (λ (o : Option Owner). holds_of o (λ w. eqb w.file i && true)) (table-freed L root i 0 none refl rep.disjoint e)
        ∙ not-owned i ((catalogue L).table e) (λ w. true);
    exactly = refl;
  }

  pub rep-freed : Rep (replaced L root i none) out
  rep-freed = rep-replaced L img rep root i none out (record {
    ready = ready;
    new-root = at-root;
    mark = mark-free;
    entry = entry_free;
    entries = at_others;
    table = λ e. table-after L img i 0 rep front low out ready shows e ∙ sym (table-freed L root i 0 none refl rep.disjoint e);
    bytes = λ x e. absurd (none-ne-some x e);
    kept = λ k x ne e b q. behind-table L img i 0 rep front low out ready shows k x e b q;
    admissible = admissible;
    disjoint = disjoint-freed L root i 0 none refl rep.disjoint;
    sized = λ x e. absurd (none-ne-some x e);
  })
