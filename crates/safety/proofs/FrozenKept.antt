-- AN ACCEPTED CALL KEEPS WHETHER THE LEDGER IS FROZEN (T-12, for T-14): where fewer than K extents are free it changes nothing (`frozen_same`), and where K are
-- free, K stay free (`free-kept`). Assumes nothing.
use Prim.Native.Nat.{ℕ, zero, suc, ◌+◌, ◌-◌, ◌≤◌, ◌<◌, max}
use mathlib.Core.Path.{◌≡◌, refl, sym, ap, ◌∙◌, subst}
use mathlib.Core.Logic.{◌≢◌}
use mathlib.Core.Bool.{Bool, true, false, cond, not, ◌&&◌, ◌||◌, true≢false, false≢true}
use mathlib.Core.List.{List, [], ◌∷◌, ◌++◌}
use mathlib.Core.Option.{Option, none, some}
use native.Mathlib.Omega.{arith}
use lib.Dec.{eqb, leb, ltb}
use lib.ListN.{length, take}
use borrow.Author.Tests.{eqb-true, eqb-false, eq-eqb, lt-ltb, le-ltb, ltb-false, leb-false}
use Rattle.std.specs.Prelude.{Some, None}
use Rattle.model.specs.Search.{Lowest, scan, first, count_below, is_at, index_of, equal_bytes}
use Rattle.model.specs.Geometry.{ExtentNumber, FileNumber, reserve_extents, extents_for, table_sectors}
use Rattle.model.specs.Root.{Root}
use Rattle.model.specs.Ledger.{Ledger, File, file_or, position_among, holder_of, slot_named, free_slot, unheld_extent, unheld_extents, is_frozen, file_of, needs_more}
use Rattle.model.specs.Ledger.{no_room_for, Call, summary, check, find, list}
use Rattle.model.specs.Ledger.{read, create, delete, resize, write, rename, rename_set, number_of, freed_records, written_records, renamed_records, updated_root, renamed_file}
use Rattle.model.specs.Ledger.{accessed_file, is_there, with_slot, with_file, slots_without, after_rename, names_of, pairs_of, after_renames, names_slot, frees_in, renamed_targets}
use Rattle.model.specs.Ledger.{rename_refusals, written, after_write}
use Rattle.model.specs.Ledger.{shrunk, zero_bytes, accessed_root, spanned_sectors, step, answer}
use Rattle.model.specs.WriteList.{record_count}
use Rattle.laws.proofs.Booleans.{or-none}
use Rattle.laws.proofs.Search.{length-tabulate, any_below-true}
use Rattle.laws.proofs.Count.{count_below-any_below}
use Rattle.laws.proofs.RenameSet.{Pairs}
use Rattle.safety.proofs.Searches.{place_found, place_none, is-no}
use Rattle.safety.proofs.OwnWords.{verdicts}
use Rattle.safety.proofs.Changing.{Passed, done-passed}
use Rattle.safety.proofs.Naming.{slot_of, Found, found-by, after-itself}
use Rattle.safety.proofs.FreedFile.{below, place-take}
use Rattle.safety.proofs.TakenFile.{or_then, place-more}
use Rattle.safety.proofs.RenameSet.{set-passed, set-reserved}

-- ---- counts of tests that hold wherever others do, but for one index

abbrev bit : Bool → ℕ
bit b = cond b 1 0

bit-within : (a b : Bool) → (a ≡ true → b ≡ true) → bit a ≤ bit b
bit-within true true h = omega arith
bit-within true false h = absurd (false≢true (h refl))
bit-within false true h = omega arith
bit-within false false h = omega arith

bit-few : (b : Bool) → bit b ≤ 1
bit-few true = omega arith
bit-few false = omega arith

count-within : (p q : ℕ → Bool) (n : ℕ) → ((k : ℕ) → k < n → p k ≡ true → q k ≡ true) → count_below p n ≤ count_below q n
unfolding count_below
count-within p q zero h = omega arith
count-within p q (suc n) h = omega (arith, bit-within (p n) (q n) (h n (omega arith)), count-within p q n (λ k l. h k (omega arith)))

count-but : (p q : ℕ → Bool) (x n : ℕ) → ((k : ℕ) → k < n → k ≢ x → p k ≡ true → q k ≡ true) → count_below p n ≤ suc (count_below q n)
unfolding count_below
count-but p q x zero h = omega arith
count-but p q x (suc n) h = go (eqb n x) refl (count-but p q x n (λ k l. h k (omega arith)))
  where
    go : (b : Bool) → eqb n x ≡ b → count_below p n ≤ suc (count_below q n) → bit (p n) + count_below p n ≤ suc (bit (q n) + count_below q n)
    go true e rest =
        let s : n ≡ x = eqb-true n x e in
        omega (arith, bit-few (p n), count-within p q n (λ k l. h k (omega arith) (λ t. omega arith)))
    go false e rest = omega (arith, rest, bit-within (p n) (q n) (h n (omega arith) (eqb-false n x e)))

-- ---- extents that slots hold

-- a slot has it
abbrev has : ExtentNumber → Option File → Bool
has e o = is_at (position_among e (file_or o).extents)

-- which it has only if another does
abbrev Has : ExtentNumber → Option File → Option File → Type 0
Has e new old = has e new ≡ true → has e old ≡ true

module _ (L : Ledger) (root : Root) (slots : FileNumber → Option File) where
  abbrev M : Ledger
  M = record { geometry = L.geometry; root = root; slots = slots }

  unheld : (e : ℕ) → ((i : ℕ) → Has e (slots i) (L.slots i)) → not (is_at (holder_of L e)) ≡ true → not (is_at (holder_of M e)) ≡ true
  unfolding holder_of
  unheld e h z = ap not (is-no (is_at (first (λ i. has e (slots i)) L.geometry.files)) held)
    where
      free : is_at (first (λ i. has e (L.slots i)) L.geometry.files) ≡ false
      free = is-no _ (λ t. false≢true (sym (ap not t) ∙ z))

      held : is_at (first (λ i. has e (slots i)) L.geometry.files) ≡ true → ⊥
      held y =
          let q = place_found (λ i. has e (slots i)) L.geometry.files y in
          let k = index_of (first (λ i. has e (slots i)) L.geometry.files) in
          true≢false (sym (h k q.1) ∙ place_none (λ i. has e (L.slots i)) L.geometry.files free k q.0)

  unheld-all : ((e i : ℕ) → Has e (slots i) (L.slots i)) → unheld_extents L ≤ unheld_extents M
  unfolding unheld_extents
  unheld-all h = count-within _ _ L.geometry.extents (λ e l. unheld e (h e))

  unheld-but : (x : ℕ) → ((e i : ℕ) → e ≢ x → Has e (slots i) (L.slots i)) → unheld_extents L ≤ suc (unheld_extents M)
  unfolding unheld_extents
  unheld-but x h = count-but _ _ x L.geometry.extents (λ e l ne. unheld e (λ i. h e i ne))

  enough : reserve_extents L.geometry ≤ unheld_extents M → is_frozen M ≡ false
  unfolding is_frozen
  enough h = le-ltb (unheld_extents M) (reserve_extents L.geometry) h

-- a free slot, and a file without extents, have none
none_has : (e : ℕ) → is_at (position_among e []) ≡ true → ⊥
unfolding position_among scan
none_has e t = false≢true t

-- of one slot
has-slot : (L : Ledger) (i : ℕ) (f : Option File) (e : ℕ) → Has e f (L.slots i) → (k : ℕ) → Has e (with_slot L.slots i f k) (L.slots k)
has-slot L i f e h k = go (eqb k i) refl
  where
    go : (b : Bool) → eqb k i ≡ b → has e (cond b f (L.slots k)) ≡ true → has e (L.slots k) ≡ true
    go true q t = ap (λ (j : ℕ). has e (L.slots j)) (eqb-true k i q) ∙ h t
    go false q t = t

module _ (L : Ledger) (free : is_frozen L ≡ false) where
  there : reserve_extents L.geometry ≤ unheld_extents L
  unfolding is_frozen
  there = ltb-false (unheld_extents L) (reserve_extents L.geometry) free

  -- where slots have no other extents
  kept-all : (root : Root) (slots : FileNumber → Option File) → ((e i : ℕ) → Has e (slots i) (L.slots i))
      → is_frozen (record { geometry = L.geometry; root = root; slots = slots }) ≡ false
  kept-all root slots h = let a = unheld-all L root slots h in let b = there in enough L root slots (omega arith)

  kept_slot : (root : Root) (i : ℕ) (f : Option File) → ((e : ℕ) → Has e f (L.slots i))
      → is_frozen (record { geometry = L.geometry; root = root; slots = with_slot L.slots i f }) ≡ false
  kept_slot root i f h = kept-all root (with_slot L.slots i f) (λ e. has-slot L i f e (h e))

  kept-shrunk : (i size time : ℕ) → is_frozen (with_file L i (shrunk L i size time)) ≡ false
  unfolding shrunk
  kept-shrunk i size time = kept_slot L.root i (some (shrunk L i size time)) (λ e. fewer e)
    where
      fewer : (e : ℕ) → is_at (position_among e (take (extents_for L.geometry size) (file_or (L.slots i)).extents)) ≡ true → has e (L.slots i) ≡ true
      fewer e t = go (position_among e (file_or (L.slots i)).extents) (ap is_at (sym (place-take e (extents_for L.geometry size) (file_or (L.slots i)).extents)) ∙ t)
        where
          go : (r : Lowest) → is_at (below (extents_for L.geometry size) r) ≡ true → is_at r ≡ true
          go None q = q
          go (Some k) q = refl

  -- a write takes one extent more, or none
  kept-written : (i offset : ℕ) (bytes : List ℕ) (time : ℕ)
      → no_room_for L (file_or (L.slots i)).entry.size (max (file_or (L.slots i)).entry.size (offset + length bytes)) ≡ false → is_frozen (after_write L i offset bytes time) ≡ false
  unfolding after_write written
  kept-written i offset bytes time room = go (eqb (length bytes) 0)
    where
      es : List ℕ
      es = (file_or (L.slots i)).extents

      x : ℕ
      x = index_of (unheld_extent L)

      size : ℕ
      size = max (file_or (L.slots i)).entry.size (offset + length bytes)

      among : (e : ℕ) (b : Bool) → ((b ≡ true) → e ≢ x) → is_at (position_among e (es ++ cond b (x ∷ []) [])) ≡ true → has e (L.slots i) ≡ true
      among e b ne t = by (position_among e es) b (eqb e x) refl (ap is_at (sym (place-more e es b x)) ∙ t) ne
        where
          by : (r : Lowest) (c d : Bool) → eqb e x ≡ d → is_at (or_then r (cond (c && d) (Some (length es)) None)) ≡ true → ((c ≡ true) → e ≢ x) → is_at r ≡ true
          by (Some k) c d q u n = refl
          by None true true q u n = absurd (n refl (eqb-true e x q))
          by None true false q u n = u
          by None false d q u n = u

      grown : (b : Bool) → needs_more L (file_or (L.slots i)).entry.size size ≡ b → is_frozen (with_file L i (written L i offset bytes time)) ≡ false
      grown false q =
          kept_slot L.root i (some (written L i offset bytes time))
          (λ e t. among e (needs_more L (file_or (L.slots i)).entry.size size) (λ k. absurd (true≢false (sym k ∙ q))) t)
      grown true q =
          let more : leb (unheld_extents L) (reserve_extents L.geometry) ≡ false = ap (λ (b : Bool). b && leb (unheld_extents L) (reserve_extents L.geometry)) (sym q) ∙ room in
          let l : reserve_extents L.geometry < unheld_extents L = leb-false (unheld_extents L) (reserve_extents L.geometry) more in
          let a = unheld-but L L.root (with_slot L.slots i (some (written L i offset bytes time))) x
          (λ e k ne. has-slot L i (some (written L i offset bytes time)) e (among e (needs_more L (file_or (L.slots i)).entry.size size) (λ z. ne)) k) in
          enough L L.root (with_slot L.slots i (some (written L i offset bytes time))) (omega arith)

      go : (b : Bool) → is_frozen (cond b L (with_file L i (written L i offset bytes time))) ≡ false
      go true = free
      go false = grown (needs_more L (file_or (L.slots i)).entry.size size) refl

-- ---- where K are free, K stay free

module _ (L : Ledger) (free : is_frozen L ≡ false) where
  kept-renamed : (old new : List ℕ) (time : ℕ) → is_frozen (after_rename L old new time) ≡ false
  unfolding after_rename file_of
  kept-renamed old new time = go (equal_bytes old new)
    where
      i : ℕ
      i = index_of (slot_named L old)

      f : Option File
      f = some (renamed_file new time (file_of L old))

      fewer : (r : Lowest) (e k : ℕ) → Has e (with_slot (slots_without L r) i f k) (L.slots k)
      fewer None e k t = has-slot L i f e (λ u. u) k t
      fewer (Some j) e k t = by (eqb k i) (eqb k j) refl t
        where
          by : (b c : Bool) → eqb k i ≡ b → has e (cond b f (cond c none (L.slots k))) ≡ true → has e (L.slots k) ≡ true
          by true c q u = ap (λ (n : ℕ). has e (L.slots n)) (eqb-true k i q) ∙ u
          by false true q u = absurd (none_has e u)
          by false false q u = u

      go : (b : Bool) → is_frozen (cond b L (record { geometry = L.geometry; root = updated_root time L.root; slots = with_slot (slots_without L (slot_named L new)) i f })) ≡ false
      go true = free
      go false = kept-all L free (updated_root time L.root) (with_slot (slots_without L (slot_named L new)) i f) (fewer (slot_named L new))

kept-renames : (time : ℕ) (rs : Pairs) (L : Ledger) → is_frozen L ≡ false → is_frozen (after_renames L rs time) ≡ false
unfolding after_renames
kept-renames time [] L free = free
kept-renames time (r ∷ rs) L free = kept-renames time rs (after_rename L r.0 r.1 time) (kept-renamed L free r.0 r.1 time)

module _ (L : Ledger) (free : is_frozen L ≡ false) where
  free-kept : (c : Call) → number_of (answer c L) ≡ 0 → is_frozen (step c L).done ≡ false
  unfolding step file_of zero_bytes
  free-kept summary z = free
  free-kept check z = free
  free-kept (find name) z = free
  free-kept (list i time room space) z = go (is_frozen L)
    where
      go : (b : Bool) → is_frozen (cond b L (record { geometry = L.geometry; root = accessed_root time L.root; slots = L.slots })) ≡ false
      go true = free
      go false = kept-all L free (accessed_root time L.root) L.slots (λ e i t. t)
  free-kept (read name offset count time room space) z = go (is_frozen L)
    where
      i : ℕ
      i = index_of (slot_named L name)

      go : (b : Bool) → is_frozen (cond b L (with_file L i (accessed_file time (file_of L name)))) ≡ false
      go true = free
      go false = kept_slot L free L.root i (some (accessed_file time (file_of L name))) (λ e t. t)
  free-kept (create name id mode time room) z = kept_slot L free _ (index_of (free_slot L)) _ (λ e t. absurd (none_has e t))
  free-kept (delete name time room) z = kept_slot L free _ (index_of (slot_named L name)) none (λ e t. absurd (none_has e t))
  free-kept (resize name size time room) z = go (ltb size old) refl
    where
      i : ℕ
      i = index_of (slot_named L name)

      old : ℕ
      old = (file_or (L.slots i)).entry.size

      go : (b : Bool) → ltb size old ≡ b → is_frozen (cond b (with_file L i (shrunk L i size time)) (after_write L i old (zero_bytes (size - old)) time)) ≡ false
      go true q = kept-shrunk L free i size time
      go false q =
          let l : old ≤ size = ltb-false size old q in
          let n : length (zero_bytes (size - old)) ≡ size - old = length-tabulate _ 0 (size - old) in
          let s : max old (old + length (zero_bytes (size - old))) ≡ size = omega arith in
          kept-written L free i old (zero_bytes (size - old)) time
          (ap (no_room_for L old) s ∙ (done-passed (step (resize name size time room) L) refl refl z).1.1.1.0)
  free-kept (write name offset bytes time room) z =
      kept-written L free (index_of (slot_named L name)) offset bytes time (done-passed (step (write name offset bytes time room) L) refl refl z).1.1.1.1.0
  free-kept (rename old new time room) z = kept-renamed L free old new time
  free-kept (rename_set names lengths time room) z = kept-renames time (pairs_of (names_of names lengths)) L free

-- ---- where fewer are free, nothing changes

-- renames one after the other that name no slot: each is to itself
named_none : (time : ℕ) (rs : Pairs) (L : Ledger) → Passed (verdicts (rename_refusals time L rs)) → ((i : ℕ) → i < L.geometry.files → names_slot L rs time i ≡ false)
    → after_renames L rs time ≡ L
unfolding rename_refusals after_renames names_slot
named_none time [] L passed h = refl
named_none time (r ∷ rs) L passed h =
    named_none time rs (after_rename L r.0 r.1 time) passed.1.1.1
    (λ i l. (or-none (here i) (names_slot (after_rename L r.0 r.1 time) rs time i) (h i (subst (λ (X : Ledger). i < X.geometry.files) same l))).1) ∙ same
  where
    i₀ : ℕ
    i₀ = slot_of L r.0

    was : Found L r.0
    was = found-by L r.0 passed.1.1.0

    here : ℕ → Bool
    here i = not (equal_bytes r.0 r.1) && (is_there i (slot_named L r.0) || is_there i (slot_named L r.1))

    itself : (b : Bool) → (not b && (is_there i₀ (slot_named L r.0) || is_there i₀ (slot_named L r.1))) ≡ false → b ≡ true
    itself true q = refl
    itself false q =
        absurd (true≢false (sym (ap (is_there i₀) was.at ∙ eq-eqb i₀ i₀ refl) ∙ (or-none (is_there i₀ (slot_named L r.0)) (is_there i₀ (slot_named L r.1)) q).0))

    same : after_rename L r.0 r.1 time ≡ L
    same =
        after-itself L r.0 r.1 time
        (itself (equal_bytes r.0 r.1) (or-none (here i₀) (names_slot (after_rename L r.0 r.1 time) rs time i₀) (h i₀ was.within)).0)

-- so where they have no target
untargeted : (L : Ledger) (rs : Pairs) (time : ℕ) → renamed_targets L rs time ≡ 0 → (i : ℕ) → i < L.geometry.files → names_slot L rs time i ≡ false
unfolding renamed_targets
untargeted L rs time e i l = is-no (names_slot L rs time i) (λ t.
    let some = count_below-any_below (names_slot L rs time) L.geometry.files (any_below-true (names_slot L rs time) i L.geometry.files l t) in
    go (eqb entries 0) refl some e)
  where
    entries : ℕ
    entries = count_below (names_slot L rs time) L.geometry.files

    go : (b : Bool) → eqb entries 0 ≡ b → 0 < entries → cond b 0 (1 + entries + count_below (frees_in L rs time) (table_sectors L.geometry)) ≡ 0 → ⊥
    go true q p z = let n : entries ≡ 0 = eqb-true entries 0 q in omega arith
    go false q p z = omega arith

module _ (L : Ledger) (frozen : is_frozen L ≡ true) where
  -- a call with a list is refused
  no-list : (records : ℕ) → 0 < records → (ltb 0 records && is_frozen L) ≡ false → ⊥
  no-list records l z = true≢false (sym frozen ∙ ap (λ (b : Bool). b && is_frozen L) (sym (lt-ltb 0 records l)) ∙ z)

  unwritten : (i old offset : ℕ) (bytes : List ℕ) (time : ℕ) → (ltb 0 (written_records L old offset (length bytes)) && is_frozen L) ≡ false → after_write L i offset bytes time ≡ L
  unfolding after_write written_records
  unwritten i old offset bytes time z = go (eqb (length bytes) 0) z
    where
      n : ℕ
      n = record_count (spanned_sectors offset (length bytes)) (cond (needs_more L old (max old (offset + length bytes))) 2 1)

      go : (b : Bool) → (ltb 0 (cond b 0 (record_count (spanned_sectors offset (length bytes)) (cond (needs_more L old (max old (offset + length bytes))) 2 1))) && is_frozen L) ≡ false
          → cond b L (with_file L i (written L i offset bytes time)) ≡ L
      go true q = refl
      go false q = absurd (no-list n (omega arith) q)

  frozen_same : (c : Call) → number_of (answer c L) ≡ 0 → (step c L).done ≡ L
  unfolding step file_of freed_records renamed_records after_rename zero_bytes
  frozen_same summary z = refl
  frozen_same check z = refl
  frozen_same (find name) z = refl
  frozen_same (list i time room space) z = ap (λ (b : Bool). cond b L (record { geometry = L.geometry; root = accessed_root time L.root; slots = L.slots })) frozen
  frozen_same (read name offset count time room space) z = ap (λ (b : Bool). cond b L (with_file L (index_of (slot_named L name)) (accessed_file time (file_of L name)))) frozen
  frozen_same (create name id mode time room) z = absurd (no-list (record_count 0 2) (omega arith) (done-passed (step (create name id mode time room) L) refl refl z).1.1.1.1.0)
  frozen_same (delete name time room) z =
      absurd (no-list (freed_records L name 0 2) (omega arith) (done-passed (step (delete name time room) L) refl refl z).1.1.1.0)
  frozen_same (resize name size time room) z = go (ltb size old) (done-passed (step (resize name size time room) L) refl refl z).1.1.1.1.0
    where
      i : ℕ
      i = index_of (slot_named L name)

      old : ℕ
      old = (file_or (L.slots i)).entry.size

      go : (b : Bool) → (ltb 0 (cond b (freed_records L name (extents_for L.geometry size) 1) (written_records L old old (size - old))) && is_frozen L) ≡ false
          → cond b (with_file L i (shrunk L i size time)) (after_write L i old (zero_bytes (size - old)) time) ≡ L
      go true q = absurd (no-list (freed_records L name (extents_for L.geometry size) 1) (omega arith) q)
      go false q =
          unwritten i old old (zero_bytes (size - old)) time
          (ap (λ (n : ℕ). ltb 0 (written_records L old old n) && is_frozen L) (length-tabulate _ 0 (size - old)) ∙ q)
  frozen_same (write name offset bytes time room) z =
      unwritten (index_of (slot_named L name)) _ offset bytes time (done-passed (step (write name offset bytes time room) L) refl refl z).1.1.1.1.1.0
  frozen_same (rename old new time room) z = go (equal_bytes old new) (is_at (slot_named L new)) (done-passed (step (rename old new time room) L) refl refl z).1.1.1.0
    where
      M : Ledger
      M = record {
        geometry = L.geometry;
        root = updated_root time L.root;
        slots = with_slot (slots_without L (slot_named L new)) (index_of (slot_named L old)) (some (renamed_file new time (file_of L old)));
      }

      go : (b c : Bool) → (ltb 0 (cond b 0 (cond c (freed_records L new 0 3) (record_count 0 2))) && is_frozen L) ≡ false → cond b L M ≡ L
      go true c q = refl
      go false true q = absurd (no-list (freed_records L new 0 3) (omega arith) q)
      go false false q = absurd (no-list (record_count 0 2) (omega arith) q)
  frozen_same (rename_set names lengths time room) z =
      named_none time rs L (set-passed L names lengths time room z) (untargeted L rs time (go (eqb targets 0) refl (set-reserved L names lengths time room z)))
    where
      rs : Pairs
      rs = pairs_of (names_of names lengths)

      targets : ℕ
      targets = renamed_targets L (pairs_of (names_of names lengths)) time

      go : (b : Bool) → eqb targets 0 ≡ b → (ltb 0 (cond b 0 (record_count 0 targets)) && is_frozen L) ≡ false → targets ≡ 0
      go true e q = eqb-true targets 0 e
      go false e q = absurd (no-list (record_count 0 targets) (omega arith) q)

pub frozen-kept : (L : Ledger) (c : Call) → number_of (answer c L) ≡ 0 → is_frozen (step c L).done ≡ is_frozen L
frozen-kept L c z = go (is_frozen L) refl
  where
    go : (b : Bool) → is_frozen L ≡ b → is_frozen (step c L).done ≡ is_frozen L
    go true e = ap is_frozen (frozen_same L e c z)
    go false e = free-kept L e c z ∙ sym e
