-- The table sectors that a delete or a shrinking resize writes: those of `FreedBy` for the extents of file i of offset n or more.
-- Assumes nothing.
use Prim.Native.Nat.{ℕ, ◌+◌, ◌/◌, ◌≤◌, ◌<◌}
use mathlib.Core.Path.{◌≡◌, ap, ◌∙◌}
use mathlib.Core.Logic.{◌≢◌}
use mathlib.Core.Bool.{Bool, false, cond}
use mathlib.Core.List.{List, ◌++◌}
use mathlib.Core.Option.{Option, none, some}
use native.Mathlib.Omega.{arith}
use lib.ListN.{length}
use Rattle.model.specs.Geometry.{journal_at, table_at, data_at, table_sectors}
use Rattle.model.specs.Disk.{view}
use Rattle.model.specs.Table.{sectors_holding}
use Rattle.model.specs.Catalogue.{Owner, catalogue_of, owned_from, owns_from, sector_of}
use Rattle.model.specs.WriteList.{Group, over, hits}
use Rattle.model.specs.Ledger.{Ledger, File, catalogue}
use Rattle.laws.proofs.Freeing as laws
use Rattle.safety.proofs.Apply.{over-append, over-miss, All, all_map, all-miss}
use Rattle.safety.proofs.Journal.{Rising}
use Rattle.safety.proofs.Plan.{Metadata, Whole}
use Rattle.safety.proofs.Commit.{Ready}
use Rattle.safety.proofs.Frame.{Shows}
use Rattle.safety.proofs.Rep.{Rep}
use Rattle.safety.proofs.Preserved.{out-front, out-data, free-said, bytes-keep}
use Rattle.safety.proofs.FreedBy as by

module _ (L : Ledger) (img : List ℕ) (i n : ℕ) where
  abbrev picks : ℕ → Bool
  picks = owns_from (catalogue L) i n

  abbrev pub freed : Group
  freed = by.freed L.geometry img (owns_from (catalogue L) i n)

  pub length-freed : length freed ≡ sectors_holding (owns_from (catalogue L) i n) L.geometry
  length-freed = laws.length-freed picks L.geometry (view img)

  pub freed-few : length freed ≤ table_sectors L.geometry
  freed-few = laws.freed-few picks L.geometry (view img)

  pub freed-metadata : All (Metadata L.geometry) freed
  freed-metadata = by.freed-metadata L.geometry img picks

  pub freed-whole : All Whole freed
  freed-whole = by.freed-whole L.geometry img picks

  pub freed-rising : (lo : ℕ) → lo ≤ table_at L.geometry → Rising lo freed
  freed-rising = by.freed-rising L.geometry img picks

  freed-miss : (j : ℕ) → (table_at L.geometry ≤ j → j < data_at L.geometry → ⊥) → hits freed j ≡ false
  freed-miss = by.freed-miss L.geometry img picks

  -- ---- the table

  -- on an image that shows these writes behind others, which lie in front of the table
  module _ (rep : Rep L img) (front : Group) (low : All (λ w. w.sector < table_at L.geometry) front) (out : List ℕ) (ready : Ready L.geometry out)
      (shows : Shows L.geometry (catalogue_of (view img)) (front ++ freed) img out) where
    front-miss : (j : ℕ) → table_at L.geometry ≤ j → hits front j ≡ false
    front-miss j h = all-miss j front (all_map (λ w. w.sector < table_at L.geometry) (λ w. j ≢ w.sector) (λ w l e. omega arith) front low)

    pub before-table : (j : ℕ) → j < journal_at L.geometry → j ≢ 0 → view out j ≡ over front j (view img j)
    before-table j l ne =
        shows j (out-front L.geometry j l) ne ∙ over-append front freed j _ ∙ over-miss freed j _ (freed-miss j (λ a b. omega arith))

    pub behind-table : (k : ℕ) (f : File) → L.slots k ≡ some f → (b : ℕ) → b < f.entry.size
        → view out (sector_of (catalogue L) k (b / 512)) ≡ view img (sector_of (catalogue L) k (b / 512))
    behind-table = bytes-keep L img out rep (catalogue_of (view img)) (free-said L img rep) (λ j u v.
        shows j (out-data L.geometry j u v) (λ e. omega arith) ∙ over-append front freed j _
        ∙ over-miss freed j _ (freed-miss j (λ a b. omega arith)) ∙ over-miss front j _ (front-miss j (omega arith)))

    at_table : (t : ℕ) → t < table_sectors L.geometry
        → view out (table_at L.geometry + t) ≡ over freed (table_at L.geometry + t) (view img (table_at L.geometry + t))
    at_table t l =
        shows (table_at L.geometry + t) (record { journal = λ x y. omega arith; reserve = λ k h q. omega (arith, q.0) }) (λ e. omega arith)
        ∙ over-append front freed (table_at L.geometry + t) _
        ∙ ap (over freed (table_at L.geometry + t)) (over-miss front (table_at L.geometry + t) _ (front-miss (table_at L.geometry + t) (omega arith)))

    pub table-after : (e : ℕ) → (catalogue_of (view out)).table e ≡ cond (owned_from i n ((catalogue L).table e)) none ((catalogue L).table e)
    table-after e =
        by.table-after L.geometry img picks out rep.ready.volume.geometry ready.volume.geometry at_table e
        ∙ ap (λ (t : Option Owner). cond (picks e) none t) (rep.says.table e)
