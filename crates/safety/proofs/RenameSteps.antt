-- A set of renames, one after the other: as long as none is refused, the disk that the next one sees is that of an image which represents the
-- ledger after those before it; and both sides refuse the same one, at the same place. So too the sectors that they touch. Assumes nothing.
use Prim.Native.Nat.{ℕ, zero, suc, ◌+◌, ◌*◌, ◌^◌, ◌<◌}
use mathlib.Core.Path.{◌≡◌, refl, sym, ap, ap₂, ◌∙◌, subst, fun_ext}
use mathlib.Core.Logic.{◌≢◌}
use mathlib.Core.Bool.{Bool, true, false, cond, not, ◌&&◌, ◌||◌, true≢false}
use mathlib.Core.List.{List, ◌++◌}
use mathlib.Core.Option.{Option, none, some}
use native.Mathlib.Omega.{arith}
use native.Mathlib.Nat.{add-zero}
use native.Mathlib.Numerals.{add-one}
use lib.Dec.{eqb}
use borrow.Author.Tests.{eqb-true, eqb-false, eq-eqb, ne_eqb}
use Rattle.model.specs.declared.Geometry.{Geometry}
use Rattle.model.specs.Answers.{Verdict}
use Rattle.std.specs.Prelude.{Some, None}
use Rattle.model.specs.Search.{Lowest, any_below, concatenated, is_at, index_of, equal_bytes}
use Rattle.model.specs.Geometry.{superblock_at, root_at, entry_at, table_at, table_sectors}
use Rattle.model.specs.Disk.{Disk, view}
use Rattle.model.specs.Superblock.{geometry_in}
use Rattle.model.specs.Table.{holds_any}
use Rattle.model.specs.Catalogue.{Catalogue, catalogue_of, file_named, owns_from}
use Rattle.model.specs.Refusals.{Conditions, verdict_of, done}
use Rattle.model.specs.Recovery.{is_metadata}
use Rattle.model.specs.WriteList.{Plan, Group, stored, over, apply, hits}
use Rattle.model.specs.Rename.{rename_conditions, rename_plan, rename_planned}
use Rattle.model.specs.RenameSet.{name_of, targets_of, placed_at, rename_targets, disk_before}
use Rattle.model.specs.Ledger.{Ledger, catalogue, is_there, slot_named, lowest, unfit_time, unfit_name, unfit_new_name, after_rename, after_renames, names_slot, frees_in, rename_refusals, refused_at}
use Rattle.laws.proofs.Search.{concatenated-front, any_below-ext, any_below-true, any_below-no}
use Rattle.laws.proofs.Renames.{is_slot, held_for, seen-geometry, root-hit, entry-hit, table-hit}
use Rattle.laws.proofs.RenameSet.{any_from, Pairs, pairs_from}
use Rattle.safety.proofs.OwnWords.{named-is}
use Rattle.safety.proofs.Searches.{or_no, not-no}
use Rattle.safety.proofs.Apply.{all_map, all-miss, over_none}
use Rattle.safety.proofs.Plan.{Metadata}
use Rattle.safety.proofs.Frame.{stored_at, stored-shows, stored-ready}
use Rattle.safety.proofs.Rep.{Rep, cat-is, catalogue-geometry, rep-geometry}
use Rattle.safety.proofs.Changing.{Passed}
use Rattle.safety.proofs.Preserved.{FreeIn}
use Rattle.safety.proofs.Naming.{after-itself}
use Rattle.safety.proofs.Renamed.{Fits, conditions-are, found, renaming-fits, rep-renaming, renaming-frees}

-- ---- tests

eqb-sym : (a b : ℕ) → eqb a b ≡ eqb b a
eqb-sym a b = go (eqb b a) refl
  where
    go : (t : Bool) → eqb b a ≡ t → eqb a b ≡ t
    go true e = eq-eqb a b (sym (eqb-true b a e))
    go false e = ne_eqb a b (λ q. eqb-false b a e (sym q))

there-is : (r : Lowest) (q : ℕ) → is_at r ≡ true → eqb (index_of r) q ≡ is_there q r
there-is (Some j) q e = eqb-sym j q
there-is None q e = absurd (true≢false (sym e))

slot_is : (r : Lowest) (q : ℕ) → is_slot r q ≡ is_there q r
slot_is (Some j) q = eqb-sym j q
slot_is None q = refl

there-own : (r : Lowest) → is_at r ≡ true → is_there (index_of r) r ≡ true
there-own (Some j) e = eq-eqb j j refl
there-own None e = absurd (true≢false (sym e))

unless-same : (b z : Bool) → cond b false z ≡ (not b && z)
unless-same true z = refl
unless-same false z = refl

held-is : (b : Bool) (r : Lowest) (c : Catalogue) (t : ℕ) → cond b false (held_for r c t) ≡ (not b && is_at r && holds_any (owns_from c (index_of r) 0) t)
held-is true r c t = refl
held-is false None c t = refl
held-is false (Some j) c t = refl

-- ---- what a part of a set comes to

-- by both sides' verdicts: one of them is refused, on both sides the same; or none is
pub data Stepped (v : Verdict) (low place : ℕ) (R : Type 0) : Type 0 where
  stops : v ≡ record { number = low; fault = 0; place = place } → low ≢ 0 → Stepped v low place R
  reaches : v ≡ done → low ≡ 0 → place ≡ 0 → R → Stepped v low place R

-- by the tests of the first of them
first_step : (k : ℕ) (v : Verdict) (low place : ℕ) (R : Type 0) (t x y n : Bool) → (t ≡ false → (x || y) ≡ false → n ≡ false → Stepped v low place R)
    → Stepped (cond t (record { number = 8; fault = 0; place = k }) (cond (x || y) (record { number = 8; fault = 0; place = k }) (cond n (record { number = 9; fault = 0; place = k }) v)))
    (cond t 8 (cond (x || y) 8 (cond n 9 low))) (cond (t || x || y || n) k place) R
first_step k v low place R true x y n rest = stops refl (λ e. omega arith)
first_step k v low place R false true y n rest = stops refl (λ e. omega arith)
first_step k v low place R false false true n rest = stops refl (λ e. omega arith)
first_step k v low place R false false false true rest = stops refl (λ e. omega arith)
first_step k v low place R false false false false rest = rest refl refl refl

module _ (d : Disk) (names lengths : List ℕ) (time : ℕ) where
  abbrev g : Geometry
  g = geometry_in (d superblock_at)

  abbrev seen : ℕ → Disk
  seen k = disk_before d names lengths time k

  abbrev old_of : ℕ → List ℕ
  old_of k = name_of names lengths (2 * k)

  abbrev new_of : ℕ → List ℕ
  new_of k = name_of names lengths (2 * k + 1)

  -- 8 and 9 of rename k; it writes sector s; the renames from k on, m of them
  abbrev pub conditions_of : ℕ → Conditions
  conditions_of k = placed_at k (rename_conditions (catalogue_of (disk_before d names lengths time k)) (name_of names lengths (2 * k)) (name_of names lengths (2 * k + 1)) time)

  abbrev pub touches : ℕ → ℕ → Bool
  touches s k = hits (rename_targets d names lengths time k (disk_before d names lengths time k)) s

  abbrev pub renames_from : ℕ → ℕ → Pairs
  renames_from k m = pairs_from (name_of names lengths) k m

  -- where they end: an image that represents the ledger after them and shows the disk that they leave. What catalogue c says is free still is; and they
  -- touch root, entries and table sectors as the ledger says, and nothing else
  pub record Reached (c : Catalogue) (L : Ledger) (k m : ℕ) : Type 0 where
    pub image : List ℕ
    pub rep : Rep (after_renames L (renames_from k m) time) image
    pub shows : view image ≡ disk_before d names lengths time (k + m)
    pub frees : FreeIn c (after_renames L (renames_from k m) time)
    pub nowhere : (s : ℕ) → is_metadata (geometry_in (d superblock_at)) s ≡ false → any_from (touches s) k m ≡ false
    pub entries : (i : ℕ) → i < (geometry_in (d superblock_at)).files → any_from (touches (entry_at i)) k m ≡ names_slot L (renames_from k m) time i
    pub tables : (t : ℕ) → t < table_sectors (geometry_in (d superblock_at))
        → any_from (touches (table_at (geometry_in (d superblock_at)) + t)) k m ≡ frees_in L (renames_from k m) time t
    pub root : any_from (touches root_at) k m ≡ any_below (names_slot L (renames_from k m) time) (geometry_in (d superblock_at)).files
    pub bare : any_from (touches root_at) k m ≡ false → (t : ℕ) → frees_in L (renames_from k m) time t ≡ false

  -- and where one of them ends
  record Once (c : Catalogue) (L : Ledger) (k : ℕ) : Type 0 where
    image : List ℕ
    rep : Rep (after_rename L (old_of k) (new_of k) time) image
    shows : view image ≡ disk_before d names lengths time (suc k)
    frees : FreeIn c (after_rename L (old_of k) (new_of k) time)
    nowhere : (s : ℕ) → is_metadata (geometry_in (d superblock_at)) s ≡ false → touches s k ≡ false

  -- ---- one rename

  module _ (ht : time < 2 ^ 64) (c : Catalogue) (L : Ledger) (img : List ℕ) (rep : Rep L img) (frees : FreeIn c L) (k : ℕ) (shows : view img ≡ disk_before d names lengths time k) where
    cat : catalogue_of (seen k) ≡ catalogue L
    cat = ap catalogue_of (sym shows) ∙ cat-is L img rep

    pub geometry-is : geometry_in (d superblock_at) ≡ L.geometry
    geometry-is = sym (seen-geometry d names lengths time k) ∙ ap (λ (x : Catalogue). x.geometry) cat ∙ catalogue-geometry L

    abbrev planned : Bool → Option Plan
    planned b = cond b none (some (rename_plan (catalogue L) (view img) (index_of (file_named (catalogue L) (old_of k))) (file_named (catalogue L) (new_of k)) (new_of k) time))

    writes : (b : Bool) → equal_bytes (old_of k) (new_of k) ≡ b → rename_targets d names lengths time k (seen k) ≡ targets_of (planned b)
    unfolding rename_targets rename_planned
    writes b e =
        ap₂ (λ (x : Disk) (y : Catalogue). targets_of (rename_planned y x (old_of k) (new_of k) time)) (sym shows) cat
        ∙ ap (λ (t : Bool). targets_of (planned t)) e

    pub verdict-is : (rest : Conditions) → verdict_of (conditions_of k ++ rest)
        ≡ cond (unfit_time L time) (record { number = 8; fault = 0; place = k })
        (cond (unfit_name L (old_of k) || unfit_new_name L (new_of k)) (record { number = 8; fault = 0; place = k })
        (cond (not (is_at (slot_named L (old_of k)))) (record { number = 9; fault = 0; place = k }) (verdict_of rest)))
    unfolding verdict_of
    verdict-is rest =
        ap (λ (x : Catalogue). verdict_of (placed_at k (rename_conditions x (old_of k) (new_of k) time) ++ rest)) cat
        ∙ ap (λ (cs : Conditions). verdict_of (placed_at k cs ++ rest)) (conditions-are L (old_of k) (new_of k) time)

    module _ (timed : unfit_time L time ≡ false) (named : (unfit_name L (old_of k) || unfit_new_name L (new_of k)) ≡ false) (is-there : not (is_at (slot_named L (old_of k))) ≡ false) where
      passed : Passed (rename_conditions (catalogue L) (old_of k) (new_of k) time)
      passed = subst Passed (sym (conditions-are L (old_of k) (new_of k) time)) (timed, (named, (is-there, tt)))

      there : is_at (slot_named L (old_of k)) ≡ true
      there = not-no (is_at (slot_named L (old_of k))) is-there

      once : (b : Bool) → equal_bytes (old_of k) (new_of k) ≡ b → Once c L k
      unfolding disk_before apply hits
      once true e = record {
        image = img;
        rep = subst (λ (X : Ledger). Rep X img) (sym (after-itself L (old_of k) (new_of k) time e)) rep;
        shows = shows ∙ fun_ext (λ j. sym (ap (λ (ws : Group). over ws j (seen k j)) (writes true e) ∙ over_none j (seen k j)));
        frees = subst (FreeIn c) (sym (after-itself L (old_of k) (new_of k) time e)) frees;
        nowhere = λ s h. ap (λ (ws : Group). hits ws s) (writes true e);
      }
      once false e =
          let ts = targets_of (planned false) in
          let fits : Fits L.geometry ts = renaming-fits L img rep (old_of k) (new_of k) time ht passed e in
          let geo = rep-geometry L img rep in
          record {
            image = stored ts img;
            rep = rep-renaming L img rep (old_of k) (new_of k) time ht passed e (stored ts img)
                (stored-ready L.geometry img ts geo rep.ready fits.metadata fits.whole)
                (stored-shows L.geometry img ts geo rep.ready fits.metadata fits.whole (catalogue_of (view img)));
            shows = fun_ext (λ j.
                stored_at L.geometry img ts geo rep.ready fits.metadata fits.whole j
                ∙ ap (over ts j) (ap (λ (x : Disk). x j) shows) ∙ ap (λ (ws : Group). over ws j (seen k j)) (sym (writes false e)));
            frees = λ x h. renaming-frees L img rep (old_of k) (new_of k) time ht passed e x (frees x h);
            nowhere = λ s h. ap (λ (ws : Group). hits ws s) (writes false e)
                ∙ all-miss s ts (all_map (Metadata L.geometry) (λ w. s ≢ w.sector)
                (λ w m q. true≢false (sym m ∙ ap (is_metadata L.geometry) (sym q) ∙ subst (λ (x : Geometry). is_metadata x s ≡ false) geometry-is h)) ts fits.metadata);
          }

      -- the sectors that it writes, as the ledger says
      at_entry : (i : ℕ) → i < (geometry_in (d superblock_at)).files → touches (entry_at i) k
          ≡ (not (equal_bytes (old_of k) (new_of k)) && (is_there i (slot_named L (old_of k)) || is_there i (slot_named L (new_of k))))
      at_entry i l =
          entry-hit d names lengths time k i l
          ∙ ap₂ (λ (p q : Lowest). cond (equal_bytes (old_of k) (new_of k)) false (eqb (index_of p) i || is_slot q i))
          (ap (λ (x : Catalogue). file_named x (old_of k)) cat ∙ sym (named-is L (old_of k))) (ap (λ (x : Catalogue). file_named x (new_of k)) cat ∙ sym (named-is L (new_of k)))
          ∙ ap₂ (λ (a b : Bool). cond (equal_bytes (old_of k) (new_of k)) false (a || b)) (there-is (slot_named L (old_of k)) i there) (slot_is (slot_named L (new_of k)) i)
          ∙ unless-same (equal_bytes (old_of k) (new_of k)) (is_there i (slot_named L (old_of k)) || is_there i (slot_named L (new_of k)))

      some-files : 0 < (geometry_in (d superblock_at)).files
      some-files = let e = ap (λ (x : Geometry). x.files) geometry-is in omega (arith, rep.bounded.files-low)

      at_table : (t : ℕ) → t < table_sectors (geometry_in (d superblock_at)) → touches (table_at (geometry_in (d superblock_at)) + t) k
          ≡ (not (equal_bytes (old_of k) (new_of k)) && is_at (slot_named L (new_of k)) && holds_any (owns_from (catalogue L) (index_of (slot_named L (new_of k))) 0) t)
      at_table t l =
          table-hit d names lengths time some-files k t l
          ∙ ap₂ (λ (p : Lowest) (x : Catalogue). cond (equal_bytes (old_of k) (new_of k)) false (held_for p x t))
          (ap (λ (x : Catalogue). file_named x (new_of k)) cat ∙ sym (named-is L (new_of k))) cat
          ∙ held-is (equal_bytes (old_of k) (new_of k)) (slot_named L (new_of k)) (catalogue L) t

      -- ---- and those behind it

      module _ (m : ℕ) (rest : Reached c (after_rename L (old_of k) (new_of k) time) (suc k) m) (one : Once c L k) where
        abbrev L1 : Ledger
        L1 = after_rename L (old_of k) (new_of k) time

        low : index_of (slot_named L (old_of k)) < (geometry_in (d superblock_at)).files
        low =
            let e = ap (λ (x : Geometry). x.files) geometry-is in
            let q = ap index_of (named-is L (old_of k)) in
            omega (arith, (found L img rep (old_of k) (new_of k) time ht passed).0)

        root-both : (b : Bool) → equal_bytes (old_of k) (new_of k) ≡ b
            → (not b || any_from (touches root_at) (suc k) m) ≡ any_below (names_slot L (renames_from k (suc m)) time) (geometry_in (d superblock_at)).files
        unfolding pairs_from names_slot
        root-both true e =
            rest.root
            ∙ any_below-ext (names_slot L1 (renames_from (suc k) m) time) (names_slot L (renames_from k (suc m)) time) (geometry_in (d superblock_at)).files
            (λ i l. sym (ap (λ (b : Bool). (not b && (is_there i (slot_named L (old_of k)) || is_there i (slot_named L (new_of k)))) || names_slot L1 (renames_from (suc k) m) time i) e))
        root-both false e =
            let i = index_of (slot_named L (old_of k)) in
            sym (any_below-true (names_slot L (renames_from k (suc m)) time) i (geometry_in (d superblock_at)).files low
            (ap₂ (λ (b t : Bool). (not b && (t || is_there i (slot_named L (new_of k)))) || names_slot L1 (renames_from (suc k) m) time i) e (there-own (slot_named L (old_of k)) there)))

        bare-both : (b : Bool) → equal_bytes (old_of k) (new_of k) ≡ b → (not b || any_from (touches root_at) (suc k) m) ≡ false → (t : ℕ) → frees_in L (renames_from k (suc m)) time t ≡ false
        unfolding pairs_from frees_in
        bare-both true e h t =
            ap (λ (b : Bool). (not b && is_at (slot_named L (new_of k)) && holds_any (owns_from (catalogue L) (index_of (slot_named L (new_of k))) 0) t) || frees_in L1
            (renames_from (suc k) m) time t) e
            ∙ rest.bare h t
        bare-both false e h t = absurd (true≢false h)

        both : Reached c L k (suc m)
        unfolding after_renames pairs_from any_from names_slot frees_in
        both =
            let s : suc k + m ≡ k + suc m = omega arith in
            let r : touches root_at k ≡ not (equal_bytes (old_of k) (new_of k)) = root-hit d names lengths time k in
            record {
              image = rest.image;
              rep = rest.rep;
              shows = rest.shows ∙ ap (disk_before d names lengths time) s;
              frees = rest.frees;
              nowhere = λ s h. or_no (touches s k) (any_from (touches s) (suc k) m) (one.nowhere s h) (rest.nowhere s h);
              entries = λ i l. ap₂ (λ (a b : Bool). a || b) (at_entry i l) (rest.entries i l);
              tables = λ t l. ap₂ (λ (a b : Bool). a || b) (at_table t l) (rest.tables t l);
              root = ap (λ (b : Bool). b || any_from (touches root_at) (suc k) m) r ∙ root-both (equal_bytes (old_of k) (new_of k)) refl;
              bare = λ h. bare-both (equal_bytes (old_of k) (new_of k)) refl (sym (ap (λ (b : Bool). b || any_from (touches root_at) (suc k) m) r) ∙ h);
            }

  -- ---- ALL OF THEM

  abbrev Comes : Catalogue → Ledger → ℕ → ℕ → Type 0
  Comes c L k m =
      Stepped (verdict_of (concatenated conditions_of k m)) (lowest (rename_refusals time L (renames_from k m))) (refused_at time L (renames_from k m) k) (Reached c L k m)

  pub steps : (ht : time < 2 ^ 64) (c : Catalogue) (m k : ℕ) (L : Ledger) (img : List ℕ) (rep : Rep L img) → FreeIn c L → view img ≡ disk_before d names lengths time k → Comes c L k m
  unfolding concatenated verdict_of lowest rename_refusals refused_at pairs_from after_renames any_from names_slot frees_in
  steps ht c zero k L img rep frees shows =
      reaches refl refl refl (record {
        image = img;
        rep = rep;
        shows = shows ∙ ap (disk_before d names lengths time) (sym (add-zero k));
        frees = frees;
        nowhere = λ s h. refl;
        entries = λ i l. refl;
        tables = λ t l. refl;
        root = sym (any_below-no (λ i. false) _ (λ i l. refl));
        bare = λ h t. refl;
      })
  steps ht c (suc m) k L img rep frees shows =
      subst (λ (v : Verdict). Stepped v (lowest (rename_refusals time L (renames_from k (suc m)))) (refused_at time L (renames_from k (suc m)) k) (Reached c L k (suc m)))
      (sym (ap verdict_of (concatenated-front conditions_of k m) ∙ verdict-is ht c L img rep frees k shows (concatenated conditions_of (suc k) m)))
      (first_step k _ _ _ _ (unfit_time L time) (unfit_name L (old_of k)) (unfit_new_name L (new_of k)) (not (is_at (slot_named L (old_of k)))) (λ t n h.
      let one = once ht c L img rep frees k shows t n h (equal_bytes (old_of k) (new_of k)) refl in
      go t n h one (steps ht c m (suc k) (after_rename L (old_of k) (new_of k) time) one.image one.rep one.frees one.shows)))
    where
      go : (t : unfit_time L time ≡ false) (n : (unfit_name L (old_of k) || unfit_new_name L (new_of k)) ≡ false) (h : not (is_at (slot_named L (old_of k))) ≡ false)
          → Once c L k → Comes c (after_rename L (old_of k) (new_of k) time) (suc k) m
          → Stepped (verdict_of (concatenated conditions_of (suc k) m)) (lowest (rename_refusals time (after_rename L (old_of k) (new_of k) time) (renames_from (suc k) m)))
          (refused_at time (after_rename L (old_of k) (new_of k) time) (renames_from (suc k) m) (k + 1)) (Reached c L k (suc m))
      go t n h one (stops e ne) =
          let L1 = after_rename L (old_of k) (new_of k) time in
          let low = lowest (rename_refusals time L1 (renames_from (suc k) m)) in
          stops (e ∙ ap (λ p. record { number = low; fault = 0; place = refused_at time L1 (renames_from (suc k) m) p }) (sym (add-one k))) ne
      go t n h one (reaches e l p r) =
          reaches e l (ap (refused_at time (after_rename L (old_of k) (new_of k) time) (renames_from (suc k) m)) (add-one k) ∙ p) (both ht c L img rep frees k shows t n h m r one)
