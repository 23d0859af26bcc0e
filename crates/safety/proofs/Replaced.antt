-- The ledger with slot i replaced and a root of the same id, as create, delete, resize and write leave it: what its catalogue says, and
-- that it has no fault where its new slot is admissible. Assumes nothing.
use Prim.Native.Nat.{ℕ, ◌*◌, ◌<◌}
use mathlib.Core.Path.{◌≡◌, refl, sym, ap, ap₂, ◌∙◌, fun_ext}
use mathlib.Core.Logic.{◌≢◌}
use mathlib.Core.Bool.{Bool, true, false, cond, not, ◌&&◌, ◌||◌}
use mathlib.Core.List.{List}
use mathlib.Core.Option.{Option, none, some}
use native.Mathlib.Omega.{arith}
use native.Mathlib.Decide.{dec_lt}
use lib.Dec.{eqb, leb, ltb}
use borrow.Author.Tests.{eqb-true, eqb-false, eq-eqb, ne_eqb}
use Rattle.model.specs.declared.Geometry.{Geometry}
use Rattle.std.specs.Prelude.{Some, None}
use Rattle.model.specs.Search.{Lowest, first, any_below, all_below, count_below, is_at, index_of}
use Rattle.model.specs.Geometry.{extent_bytes, extents_for}
use Rattle.model.specs.Root.{Root}
use Rattle.model.specs.Entry.{Entry, bad_name}
use Rattle.model.specs.Catalogue.{Catalogue, Owner, is_free, has_name, has_id, is_part, owned_from}
use Rattle.model.specs.Faults.{holds_of, fault22, fault23, fault24, fault25, fault26, exact}
use Rattle.model.specs.Ledger.{Ledger, File, file_or, entry_of_file, position_among, holder_of, owner_from, catalogue, with_slot}
use Rattle.laws.proofs.Booleans.{and-false}
use Rattle.safety.proofs.Searches.{among-some, among_none, among-or, among-or-left, among-or-right, eqb_swap, same-no}
use Rattle.safety.proofs.Rep.{NoFaults, holds, Disjoint}

-- ---- two entries

names-swap : (a b : Option Entry) → holds_of a (λ e. has_name e.name b) ≡ false → holds_of b (λ e. has_name e.name a) ≡ false
names-swap none none h = refl
names-swap none (some y) h = refl
names-swap (some x) none h = refl
names-swap (some x) (some y) h = same-no y.name x.name h

ids-swap : (a b : Option Entry) → holds_of a (λ e. has_id e.id b) ≡ false → holds_of b (λ e. has_id e.id a) ≡ false
ids-swap none none h = refl
ids-swap none (some y) h = refl
ids-swap (some x) none h = refl
ids-swap (some x) (some y) h = eqb_swap y.id x.id h

pub among-and {ℓ} : {A : Type ℓ} (o : Option A) (r s : A → Bool) → holds_of o s ≡ false → holds_of o (λ a. r a && s a) ≡ false
among-and none r s h = refl
among-and (some a) r s h = ap (λ (b : Bool). r a && b) h ∙ and-false (r a)

-- so nothing is asked of an occupied entry as a free one
pub never-free {ℓ} : {A : Type ℓ} (o : Option A) (r : A → Bool) → holds_of o (λ a. r a && false) ≡ false
never-free none r = refl
never-free (some a) r = and-false (r a)

-- where there is no fault, two entries have neither name nor id in common; so an entry that keeps both is admissible
module _ (c : Catalogue) (h : NoFaults c) (i k : ℕ) (li : i < c.geometry.files) (lk : k < c.geometry.files) (ne : k ≢ i) where
  pub names_apart : holds_of (c.entries i) (λ e. has_name e.name (c.entries k)) ≡ false
  unfolding fault23
  names_apart = go (dec_lt k i)
    where
      go : Dec (k < i) → holds_of (c.entries i) (λ e. has_name e.name (c.entries k)) ≡ false
      go (yes l) = among_none (c.entries i) (λ e j. has_name e.name (c.entries j)) i (h.f23 i li) k l
      go (no l) = names-swap (c.entries k) (c.entries i) (among_none (c.entries k) (λ e j. has_name e.name (c.entries j)) k (h.f23 k lk) i (omega arith))

  pub ids-apart : holds_of (c.entries i) (λ e. has_id e.id (c.entries k)) ≡ false
  unfolding fault24
  ids-apart = go (dec_lt k i)
    where
      low : Entry → Bool
      low e = eqb e.id 0 || eqb e.id c.root.id

      lower : (j m : ℕ) → fault24 c j ≡ false → m < j → holds_of (c.entries j) (λ e. has_id e.id (c.entries m)) ≡ false
      lower j m q l =
          among_none (c.entries j) (λ e x. has_id e.id (c.entries x)) j (among-or-right (c.entries j) low (λ e. any_below (λ x. has_id e.id (c.entries x)) j) q) m l

      go : Dec (k < i) → holds_of (c.entries i) (λ e. has_id e.id (c.entries k)) ≡ false
      go (yes l) = lower i k (h.f24 i li) l
      go (no l) = ids-swap (c.entries k) (c.entries i) (lower k i (h.f24 k lk) (omega arith))

-- ---- whose an extent is depends on the slots' extents alone

abbrev own_in : (ℕ → List ℕ) → ℕ → Lowest → Option Owner
own_in x e None = none
own_in x e (Some i) = some (record { file = i; offset = index_of (position_among e (x i)) })

own_is : (L : Ledger) (e : ℕ) (r : Lowest) → owner_from L e r ≡ own_in (λ k. (file_or (L.slots k)).extents) e r
own_is L e (Some i) = refl
own_is L e None = refl

module _ (L M : Ledger) (eg : M.geometry ≡ L.geometry) (same : (k : ℕ) → (file_or (M.slots k)).extents ≡ (file_or (L.slots k)).extents) where
  pub table-by : (e : ℕ) → (catalogue M).table e ≡ (catalogue L).table e
  unfolding catalogue holder_of
  table-by e =
      own_is M e (holder_of M e)
      ∙ ap₂ (λ (x : ℕ → List ℕ) (g : Geometry). own_in x e (first (λ i. is_at (position_among e (x i))) g.files)) (fun_ext same) eg
      ∙ sym (own_is L e (holder_of L e))

  pub disjoint-by : Disjoint L → Disjoint M
  unfolding holds holder_of
  disjoint-by h k e l q =
      ap₂ (λ (x : ℕ → List ℕ) (g : Geometry). first (λ j. is_at (position_among e (x j))) g.files) (fun_ext same) eg
      ∙ h k e (rw eg at l) (ap (λ (x : List ℕ). is_at (position_among e x)) (sym (same k)) ∙ q)

-- ---- the slots, new and old

module _ (L : Ledger) (root : Root) (i : ℕ) (f : Option File) where
  abbrev pub replaced : Ledger
  replaced = record { geometry = L.geometry; root = root; slots = with_slot L.slots i f }

  pub by-slot : (P : Option Entry → Type 0) (k : ℕ) → (k ≡ i → P (entry_of_file f)) → (k ≢ i → P (entry_of_file (L.slots k))) → P ((catalogue replaced).entries k)
  unfolding catalogue
  by-slot P k new old = go (eqb k i) refl
    where
      go : (b : Bool) → eqb k i ≡ b → P (entry_of_file (cond b f (L.slots k)))
      go true e = new (eqb-true k i e)
      go false e = old (eqb-false k i e)

  pub entries-other : (k : ℕ) → k ≢ i → (catalogue replaced).entries k ≡ (catalogue L).entries k
  unfolding catalogue
  entries-other k ne = ap (λ (b : Bool). entry_of_file (cond b f (L.slots k))) (ne_eqb k i ne)

  pub entries-here : (catalogue replaced).entries i ≡ entry_of_file f
  unfolding catalogue
  entries-here = ap (λ (b : Bool). entry_of_file (cond b f (L.slots i))) (eq-eqb i i refl)

  -- a test that no extent of file i passes says the same of each table entry as before
  abbrev pub OthersKept : Type 0
  OthersKept = (t : Option Owner → Bool) → t none ≡ false → ((w : Owner) → w.file ≡ i → t (some w) ≡ false) → (e : ℕ)
      → t ((catalogue replaced).table e) ≡ t ((catalogue L).table e)

  pub part-other : OthersKept → (k o e : ℕ) → k ≢ i → is_part k o ((catalogue replaced).table e) ≡ is_part k o ((catalogue L).table e)
  part-other kept k o e ne = kept (is_part k o) refl (λ w q. ap (λ (b : Bool). b && eqb w.offset o) (ne_eqb w.file k (λ z. ne (sym z ∙ q)))) e

  pub beyond-other : OthersKept → (k n e : ℕ) → k ≢ i → owned_from k n ((catalogue replaced).table e) ≡ owned_from k n ((catalogue L).table e)
  beyond-other kept k n e ne = kept (owned_from k n) refl (λ w q. ap (λ (b : Bool). b && leb n w.offset) (ne_eqb w.file k (λ z. ne (sym z ∙ q)))) e

  -- ---- no fault

  -- what is asked of the new slot; of a free one nothing but `others` and `owned`, of an occupied one `owned` asks nothing
  pub record Admissible : Type 0 where
    pub root-id : root.id ≡ L.root.id
    pub entry : holds_of (entry_of_file f) (λ e. bad_name L.geometry.edition e.name || ltb (L.geometry.extents * extent_bytes L.geometry) e.size) ≡ false
    pub id : holds_of (entry_of_file f) (λ e. eqb e.id 0 || eqb e.id L.root.id) ≡ false
    pub names : (k : ℕ) → k < L.geometry.files → k ≢ i → holds_of (entry_of_file f) (λ e. has_name e.name ((catalogue L).entries k)) ≡ false
    pub ids : (k : ℕ) → k < L.geometry.files → k ≢ i → holds_of (entry_of_file f) (λ e. has_id e.id ((catalogue L).entries k)) ≡ false
    pub others : OthersKept
    pub owned : (e : ℕ) → e < L.geometry.extents → holds_of ((catalogue replaced).table e) (λ w. eqb w.file i && is_free (entry_of_file f)) ≡ false
    pub exactly : holds_of (entry_of_file f) (λ e. not (exact (catalogue replaced) i (extents_for L.geometry e.size))) ≡ false

  module _ (a : Admissible) (h : NoFaults (catalogue L)) where
    abbrev c : Catalogue
    c = catalogue L

    abbrev c' : Catalogue
    c' = catalogue replaced

    f22 : (k : ℕ) → k < L.geometry.files → fault22 c' k ≡ false
    unfolding fault22 catalogue
    f22 k l =
        by-slot (λ (o : Option Entry). holds_of o (λ e. bad_name L.geometry.edition e.name || ltb (L.geometry.extents * extent_bytes L.geometry) e.size) ≡ false) k
        (λ z. a.entry) (λ ne. h.f22 k l)

    f23 : (k : ℕ) → k < L.geometry.files → fault23 c' k ≡ false
    unfolding fault23 catalogue
    f23 k l =
        by-slot (λ (o : Option Entry). holds_of o (λ e. any_below (λ j. has_name e.name (c'.entries j)) k) ≡ false) k
        (λ z. among-some (entry_of_file f) (λ e j. has_name e.name (c'.entries j)) k
        (λ j lt. ap (λ (x : Option Entry). holds_of (entry_of_file f) (λ e. has_name e.name x)) (entries-other j (λ y. omega arith)) ∙ a.names j (omega arith) (λ y. omega arith)))
        (λ ne. let o = entry_of_file (L.slots k) in
        among-some o (λ e j. has_name e.name (c'.entries j)) k
        (λ j lt. by-slot (λ (x : Option Entry). holds_of o (λ e. has_name e.name x) ≡ false) j
        (λ z. names-swap (entry_of_file f) o (a.names k l ne))
        (λ nj. among_none o (λ e m. has_name e.name (c.entries m)) k (h.f23 k l) j lt)))

    f24 : (k : ℕ) → k < L.geometry.files → fault24 c' k ≡ false
    unfolding fault24 catalogue
    f24 k l =
        ap (λ (x : ℕ). holds_of (c'.entries k) (λ e. eqb e.id 0 || eqb e.id x || any_below (λ j. has_id e.id (c'.entries j)) k)) a.root-id
        ∙ by-slot (λ (o : Option Entry). holds_of o (λ e. eqb e.id 0 || eqb e.id L.root.id || any_below (λ j. has_id e.id (c'.entries j)) k) ≡ false) k
        (λ z. among-or (entry_of_file f) (λ e. eqb e.id 0 || eqb e.id L.root.id) (λ e. any_below (λ j. has_id e.id (c'.entries j)) k) a.id
        (among-some (entry_of_file f) (λ e j. has_id e.id (c'.entries j)) k
        (λ j lt. ap (λ (x : Option Entry). holds_of (entry_of_file f) (λ e. has_id e.id x)) (entries-other j (λ y. omega arith)) ∙ a.ids j (omega arith) (λ y. omega arith))))
        (λ ne. let o = entry_of_file (L.slots k) in
        let low : Entry → Bool = λ e. eqb e.id 0 || eqb e.id L.root.id in
        let old : Entry → Bool = λ e. any_below (λ j. has_id e.id (c.entries j)) k in
        among-or o low (λ e. any_below (λ j. has_id e.id (c'.entries j)) k) (among-or-left o low old (h.f24 k l))
        (among-some o (λ e j. has_id e.id (c'.entries j)) k
        (λ j lt. by-slot (λ (x : Option Entry). holds_of o (λ e. has_id e.id x) ≡ false) j
        (λ z. ids-swap (entry_of_file f) o (a.ids k l ne))
        (λ nj. among_none o (λ e m. has_id e.id (c.entries m)) k (among-or-right o low old (h.f24 k l)) j lt))))

    f25 : (e : ℕ) → e < L.geometry.extents → fault25 c' e ≡ false
    unfolding fault25 catalogue
    f25 e l = go (c'.table e) refl
      where
        wrong : Owner → Bool
        wrong w = is_free (c.entries w.file)

        old : holds_of (c'.table e) (λ w. not (eqb w.file i) && wrong w) ≡ false
        old =
            a.others (λ (o : Option Owner). holds_of o (λ w. not (eqb w.file i) && wrong w)) refl (λ w q. ap (λ (b : Bool). not b && wrong w) (eq-eqb w.file i q)) e
            ∙ among-and (c.table e) (λ w. not (eqb w.file i)) wrong (h.f25 e l)

        go : (o : Option Owner) → c'.table e ≡ o → holds_of o (λ w. is_free (c'.entries w.file)) ≡ false
        go none q = refl
        go (some w) q = by (eqb w.file i) refl
          where
            by : (b : Bool) → eqb w.file i ≡ b → is_free (c'.entries w.file) ≡ false
            by true z =
                ap is_free (ap c'.entries (eqb-true w.file i z) ∙ entries-here)
                ∙ sym (ap (λ (b : Bool). b && is_free (entry_of_file f)) z)
                ∙ sym (ap (λ (o : Option Owner). holds_of o (λ v. eqb v.file i && is_free (entry_of_file f))) q) ∙ a.owned e l
            by false z =
                ap is_free (entries-other w.file (eqb-false w.file i z))
                ∙ sym (ap (λ (b : Bool). not b && wrong w) z) ∙ sym (ap (λ (o : Option Owner). holds_of o (λ v. not (eqb v.file i) && wrong v)) q) ∙ old

    exact-other : (k n : ℕ) → k ≢ i → exact c' k n ≡ exact c k n
    unfolding exact catalogue
    exact-other k n ne =
        ap₂ (λ (s : ℕ → ℕ → Bool) (t : ℕ → Bool). all_below (λ o. eqb (count_below (s o) L.geometry.extents) 1) n && all_below (λ e. not (t e)) L.geometry.extents)
        (fun_ext (λ o. fun_ext (λ e. part-other a.others k o e ne))) (fun_ext (λ e. beyond-other a.others k n e ne))

    f26 : (k : ℕ) → k < L.geometry.files → fault26 c' k ≡ false
    unfolding fault26 catalogue
    f26 k l =
        by-slot (λ (o : Option Entry). holds_of o (λ e. not (exact c' k (extents_for L.geometry e.size))) ≡ false) k
        (λ z. ap (λ (x : ℕ). holds_of (entry_of_file f) (λ e. not (exact c' x (extents_for L.geometry e.size)))) z ∙ a.exactly)
        (λ ne. ap (λ (x : ℕ → Bool). holds_of (entry_of_file (L.slots k)) (λ e. not (x (extents_for L.geometry e.size)))) (fun_ext (λ n. exact-other k n ne)) ∙ h.f26 k l)

    pub faultless-replaced : NoFaults (catalogue replaced)
    unfolding catalogue
    faultless-replaced = record { f22 = f22; f23 = f23; f24 = f24; f25 = f25; f26 = f26 }
