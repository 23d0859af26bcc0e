-- The list of a write: its data sectors, the copies one by one and the commit are the groups of its plan. Assumes nothing.
use Prim.Native.Nat.{ℕ, ◌*◌, ◌-◌, ◌≤◌, ◌<◌}
use mathlib.Core.Path.{◌≡◌, refl, sym, ap, ap₂, ◌∙◌}
use mathlib.Core.Bool.{true, false}
use mathlib.Core.List.{List, [], ◌∷◌}
use mathlib.Core.Option.{some}
use native.Mathlib.Omega.{arith}
use lib.ListN.{length, set, length-set}
use Rattle.model.specs.declared.Geometry.{Geometry}
use Rattle.model.specs.Search.{index_of}
use Rattle.model.specs.Geometry.{entry_at}
use Rattle.model.specs.Disk.{view}
use Rattle.model.specs.Entry.{updated_entry_sector}
use Rattle.model.specs.Table.{table_sector_of, taken_in}
use Rattle.model.specs.Catalogue.{Catalogue, catalogue_of, free_extent}
use Rattle.model.specs.WriteList.{stage_in, sector_write, record_size, groups_for, closed, Emitted}
use Rattle.model.specs.Write.{held_extents, grows, size_after, write_plan}
use Rattle.model.specs.Opened.{Opened}
use Rattle.commit.specs.Commit.{StagesOf, commit_groups}
use Rattle.commit.proofs.Decided.{edition-is}
use Rattle.commit.proofs.Laws.{staged-none, staged-more, committed-for}
use Rattle.write.proofs.Laws.{sectors_out, entry_out, table_out, plan-more, plan-kept}

module _ (img : List ℕ) (g : Geometry) (o : Opened img g) {es : List ℕ} (staging : StagesOf g (view img) es) (i offset : ℕ) (bytes : List ℕ) (time z : ℕ)
    (after : z ≡ size_after (catalogue_of (view img)) i offset (length bytes)) where
  abbrev c : Catalogue
  c = catalogue_of (view img)

  abbrev Whole : List ℕ → List ℕ → ℕ → Type 0
  Whole l m j = Emitted l 0 (closed (groups_for (view img) (some (write_plan c i (view img) offset bytes time)))) m j

  module _ {l m₀ m₁ n₁ : List ℕ} {k₀ k₁ : ℕ} (n₀ : List ℕ) (s : ℕ) (e : List ℕ) (first : Emitted l 0 (sectors_out c i (view img) offset bytes time) m₀ k₀)
      (at : s ≡ entry_at i) (is : e ≡ updated_entry_sector g.edition z time (view img (entry_at i)))
      (copy : Emitted m₀ k₀ (sector_write (stage_in g es 0) e ∷ []) m₁ k₁) (noted : n₁ ≡ set n₀ 0 s) where
    entry : Emitted m₀ k₀ (sector_write (stage_in g es 0) (updated_entry_sector c.geometry.edition z time (view img (entry_at i))) ∷ []) m₁ k₁
    entry = rw (is ∙ ap (λ (x : ℕ). updated_entry_sector x z time (view img (entry_at i))) (sym (edition-is img g o.is))) at copy

    number : n₁ ≡ set n₀ 0 (entry_at i)
    number = noted ∙ ap (set n₀ 0) at

    -- no extent is taken
    pub written-kept : {m : List ℕ} {j : ℕ} → grows c i z ≡ false → 0 < length n₀ → k₁ * record_size ≤ length l
        → Emitted m₁ k₁ (closed (commit_groups g es (view img) m₁ (k₁ - 1) n₁ 1)) m j → Whole l m j
    written-kept q counted room behind =
        rw (plan-kept c i (view img) offset bytes time z after q)
        (committed-for (view img) (record { data_sectors = sectors_out c i (view img) offset bytes time; targets = entry_out c i (view img) offset bytes time z ∷ [] }) o.is staging
        (staged-more {ts = []} (entry_at i) (staged-none {numbers = n₀} first) refl counted entry number) refl room behind)

    -- extent x is taken behind those that the file has
    pub written-more : {m₂ m n₂ : List ℕ} {k₂ j : ℕ} (x held t : ℕ) (f : List ℕ) → grows c i z ≡ true → 1 < length n₀ → k₂ * record_size ≤ length l
        → x ≡ index_of (free_extent c) → held ≡ held_extents c i → t ≡ table_sector_of g x → f ≡ taken_in x i held (view img (table_sector_of g x))
        → Emitted m₁ k₁ (sector_write (stage_in g es 1) f ∷ []) m₂ k₂ → n₂ ≡ set n₁ 1 t
        → Emitted m₂ k₂ (closed (commit_groups g es (view img) m₂ (k₂ - 2) n₂ 2)) m j → Whole l m j
    unfolding catalogue_of
    written-more {m₂} {m} {n₂} {k₂} {j} x held t f q counted room xe he te fe copied known behind =
        let X = index_of (free_extent c) in
        let at2 : t ≡ table_sector_of c.geometry X = te ∙ ap (table_sector_of g) xe ∙ ap (λ (y : Geometry). table_sector_of y X) o.is in
        let is2 : f ≡ taken_in X i (held_extents c i) (view img (table_sector_of c.geometry X)) =
        fe ∙ ap₂ (λ (y h : ℕ). taken_in y i h (view img (table_sector_of g y))) xe he ∙ ap (λ (y : Geometry). taken_in X i (held_extents c i) (view img (table_sector_of y X))) o.is in
        let copied2 : Emitted m₁ k₁ (sector_write (stage_in g es 1) (taken_in X i (held_extents c i) (view img (table_sector_of c.geometry X))) ∷ []) m₂ k₂ = rw is2 at copied in
        let long : 1 < length n₁ = rw (number, length-set) counted in
        let staged = staged-more {ts = []} (entry_at i) (staged-none {numbers = n₀} first) refl (let r : 0 < length n₀ = omega arith in r) entry number in
        rw (plan-more c i (view img) offset bytes time z after q)
        (committed-for (view img)
        (record { data_sectors = sectors_out c i (view img) offset bytes time; targets = entry_out c i (view img) offset bytes time z ∷ table_out c i (view img) offset bytes time X ∷ [] })
        o.is staging
        (staged-more (table_sector_of c.geometry X) staged refl long copied2 (known ∙ ap (set n₁ 1) at2)) refl room behind)
