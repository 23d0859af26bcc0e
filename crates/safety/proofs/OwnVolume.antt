-- FROM OUR OWN FORMAT ON no file gets one of the last K extents: an extent is taken only where K + 1 are free, and then the lowest of them.
-- So N - K extents can be held, the volume is never frozen, and staging stands in the last K. Assumes nothing.
use Prim.Native.Nat.{ℕ, zero, suc, ◌+◌, ◌*◌, ◌-◌, ◌/◌, ◌≤◌, ◌<◌, max, min}
use mathlib.Core.Path.{◌≡◌, refl, sym, ap, ap₂, ◌∙◌, subst}
use mathlib.Core.Logic.{◌↔◌, inl, ⊎_elim}
use mathlib.Core.Bool.{Bool, true, false, cond, not, ◌&&◌}
use mathlib.Core.List.{List, [], ◌∷◌, ◌++◌, append-nil}
use mathlib.Core.Option.{Option, none, some}
use native.Mathlib.Omega.{arith}
use native.Mathlib.Decide.{dec_lt}
use native.Mathlib.Nat.{div-lt_iff_lt-mul, div-add-mod', add-mul}
use lib.Dec.{eqb, leb, ltb}
use lib.ListN.{length, get_or, take, length-append, length-take, get_or-append}
use lib.Seq.{get_or_at, get_or-take}
use borrow.Author.Tests.{eqb-true, leb-false, ltb-false}
use Rattle.std.specs.Prelude.{Some, None}
use Rattle.model.specs.declared.Geometry.{Geometry}
use Rattle.model.specs.Search.{Lowest, first, tabulate, index_of, equal_bytes}
use Rattle.model.specs.Geometry.{extent_sectors, most_targets, reserve_extents, usable, reserve_at, extents_for}
use Rattle.model.specs.Disk.{view}
use Rattle.model.specs.Catalogue.{Catalogue, Owner, catalogue_of, is_free, free_extent, free_below, free_extents, staging_extents}
use Rattle.model.specs.WriteList.{stage_in, stages_in, staging}
use Rattle.model.specs.Format.{Format}
use Rattle.model.specs.Opened.{Bounded}
use Rattle.model.specs.Ledger.{Ledger, File, file_or, holder_of, owner_from, catalogue, unheld_extent, unheld_extents, is_frozen, needs_more, no_room_for, slot_named, file_of, first_ledger, with_slot}
use Rattle.model.specs.Ledger.{slots_without, written, after_write, shrunk, zero_bytes, after_rename, Call, summary, check, find}
use Rattle.model.specs.Ledger.{list, read, create, delete, resize, write, rename, number_of, step, answer}
use Rattle.model.specs.Ledger.{rename_set, names_of, pairs_of, after_renames, Feed, whole, cut_marked, cut_unmarked, fed, ledger_from}
use Rattle.model.proofs.Areas.{reserve-small}
use Rattle.laws.proofs.Search.{length-tabulate, tabulate-ext}
use Rattle.laws.proofs.Count.{count_below-split}
use Rattle.laws.proofs.Staging.{free, free_more, free-rises, free-first, staging-at}
use Rattle.laws.proofs.RenameSet.{Pairs}
use Rattle.safety.specs.Room.{geometry_on, free_on, NoRoom}
use Rattle.safety.specs.OwnVolume.{held_on, OwnVolume, FromOwnFormat}
use Rattle.safety.specs.Neighbours.{Accepted, AllAccepted}
use Rattle.safety.proofs.OwnWords.{unheld-is, unheld-count}
use Rattle.safety.proofs.Bounds.{copies-fit}
use Rattle.safety.proofs.Changing.{done-passed}
use Rattle.safety.proofs.Described.{owned_at}
use Rattle.safety.proofs.Theorem.{represents, sound-run}
use Rattle.safety.proofs.NoRoom.{free-is}
use Rattle.safety.proofs.Accounts.{count_below-all}
use Rattle.safety.proofs.Corollaries.{accepted}

-- ---- the lowest of more than K free extents

lowest-low : (c : Catalogue) (k : ℕ) → k < length (free_extents c) → index_of (free_extent c) + k < c.geometry.extents
unfolding free_extent
lowest-low c k h =
    let r = free-rises c c.geometry.extents in
    let e : first (free c) c.geometry.extents ≡ Some (get_or (free_extents c) 0 0) = free-first c c.geometry.extents (omega arith) in
    rw e (let m : get_or (free_extents c) 0 0 + k ≤ get_or (free_extents c) k 0 = climbs k h in omega (arith, r.below k h))
  where
    climbs : (k : ℕ) → k < length (free_extents c) → get_or (free_extents c) 0 0 + k ≤ get_or (free_extents c) k 0
    climbs zero h = omega arith
    climbs (suc k) h =
        let m : get_or (free_extents c) 0 0 + k ≤ get_or (free_extents c) k 0 = climbs k (omega arith) in
        omega (arith, (free-rises c c.geometry.extents).rising k (suc k) (omega arith) h)

-- ---- extents below m

abbrev Below : ℕ → List ℕ → Type 0
Below m es = (k : ℕ) → k < length es → get_or es k 0 < m

below_none : (m : ℕ) → Below m []
below_none m k l = absurd (let z : k < 0 = l in omega arith)

below-take : (m n : ℕ) (es : List ℕ) → Below m es → Below m (take n es)
below-take m n es h k l = let e : length (take n es) ≡ min n (length es) = length-take n es in rw (get_or-take n es k 0 (omega arith)) (h k (omega arith))

below_more : (m : ℕ) (es : List ℕ) (b : Bool) (x : ℕ) → Below m es → (b ≡ true → x < m) → Below m (es ++ cond b (x ∷ []) [])
below_more m es false x h t k l = subst (Below m) (sym (append-nil es)) h k l
below_more m es true x h t k l = go (dec_lt k (length es))
  where
    go : Dec (k < length es) → get_or (es ++ (x ∷ [])) k 0 < m
    go (yes q) = rw (get_or-append es (x ∷ []) 0 k q) (h k q)
    go (no q) = rw (get_or_at es x [] 0 k (omega (arith, length-append es (x ∷ [])))) (t refl)

-- ---- no file of a ledger has one of the last K extents

abbrev Low : Ledger → Type 0
Low L = (i : ℕ) → Below (usable L.geometry) (file_or (L.slots i)).extents

low-slot : (m : ℕ) (slots : ℕ → Option File) (i : ℕ) (o : Option File) → ((j : ℕ) → Below m (file_or (slots j)).extents) → Below m (file_or o).extents
    → (j : ℕ) → Below m (file_or (with_slot slots i o j)).extents
low-slot m slots i o h new j = go (eqb j i)
  where
    go : (b : Bool) → Below m (file_or (cond b o (slots j))).extents
    go true = new
    go false = h j

low-if : (b : Bool) (M N : Ledger) → Low M → Low N → Low (cond b M N)
low-if true M N h k = h
low-if false M N h k = k

module _ (L : Ledger) (low : Low L) where
  abbrev m : ℕ
  m = usable L.geometry

  -- "An allocation takes the lowest free extent and is refused 13 if fewer than K + 1 are free"
  taken-low : (old new : ℕ) → no_room_for L old new ≡ false → needs_more L old new ≡ true → index_of (unheld_extent L) < usable L.geometry
  unfolding catalogue
  taken-low old new room t =
      let k = reserve_extents L.geometry in
      let h : k < unheld_extents L = leb-false (unheld_extents L) k (sym (ap (λ (b : Bool). b && leb (unheld_extents L) k) t) ∙ room) in
      let q : index_of (free_extent (catalogue L)) + k < L.geometry.extents = lowest-low (catalogue L) k (omega (arith, unheld-count L)) in
      rw (unheld-is L) (omega arith)

  low-written : (i offset : ℕ) (bytes : List ℕ) (time : ℕ) → let size = (file_or (L.slots i)).entry.size in no_room_for L size (max size (offset + length bytes)) ≡ false
      → Low (after_write L i offset bytes time)
  unfolding after_write written
  low-written i offset bytes time room =
      let f = file_or (L.slots i) in
      let size = max f.entry.size (offset + length bytes) in
      low-if (eqb (length bytes) 0) L _ low
      (low-slot m L.slots i (some (written L i offset bytes time)) low
      (below_more m f.extents (needs_more L f.entry.size size) (index_of (unheld_extent L)) (low i) (taken-low f.entry.size size room)))

  low-without : (p : Lowest) (j : ℕ) → Below m (file_or (slots_without L p j)).extents
  low-without None = low
  low-without (Some k) = low-slot m L.slots k none low (below_none m)

  low-renamed : (old new : List ℕ) (time : ℕ) → Low (after_rename L old new time)
  unfolding after_rename file_of
  low-renamed old new time =
      let i = index_of (slot_named L old) in
      low-if (equal_bytes old new) L _ low (low-slot m (slots_without L (slot_named L new)) i _ (low-without (slot_named L new)) (low i))

low-renames : (time : ℕ) (rs : Pairs) (L : Ledger) → Low L → Low (after_renames L rs time)
unfolding after_renames
low-renames time [] L low = low
low-renames time (r ∷ rs) L low = low-renames time rs (after_rename L r.0 r.1 time) (low-renamed L low r.0 r.1 time)

module _ (L : Ledger) (low : Low L) where
  low-done : (c : Call) → number_of (answer c L) ≡ 0 → Low (step c L).done
  unfolding step file_of shrunk after_rename zero_bytes
  low-done summary e = low
  low-done check e = low
  low-done (find name) e = low
  low-done (list k time room space) e = low-if (is_frozen L) L _ low low
  low-done (read name offset count time room space) e =
      let i = index_of (slot_named L name) in low-if (is_frozen L) L _ low (low-slot (usable L.geometry) L.slots i _ low (low i))
  low-done (create name id mode time room) e = low-slot (usable L.geometry) L.slots _ _ low (below_none (usable L.geometry))
  low-done (delete name time room) e = low-slot (usable L.geometry) L.slots _ none low (below_none (usable L.geometry))
  low-done (resize name size time room) e =
      let i = index_of (slot_named L name) in
      let old = (file_or (L.slots i)).entry.size in
      go (ltb size old) refl (done-passed (step (resize name size time room) L) refl refl e).1.1.1.0
    where
      go : (b : Bool) → let i = index_of (slot_named L name) in let old = (file_or (L.slots i)).entry.size in ltb size old ≡ b → no_room_for L old size ≡ false
          → Low (cond b (record { geometry = L.geometry; root = L.root; slots = with_slot L.slots i (some (shrunk L i size time)) })
          (after_write L i old (zero_bytes (size - old)) time))
      go true q room =
          let i = index_of (slot_named L name) in
          low-slot (usable L.geometry) L.slots i (some (shrunk L i size time)) low (below-take (usable L.geometry) (extents_for L.geometry size) (file_or (L.slots i)).extents (low i))
      go false q room =
          let i = index_of (slot_named L name) in
          let old = (file_or (L.slots i)).entry.size in
          let l : old ≤ size = ltb-false size old q in
          let n : length (zero_bytes (size - old)) ≡ size - old = length-tabulate {A = ℕ} (λ k. 0) 0 (size - old) in
          let z : max old (old + length (zero_bytes (size - old))) ≡ size = omega arith in
          low-written L low i old (zero_bytes (size - old)) time (ap (no_room_for L old) z ∙ room)
  low-done (write name offset bytes time room) e =
      low-written L low (index_of (slot_named L name)) offset bytes time (done-passed (step (write name offset bytes time room) L) refl refl e).1.1.1.1.0
  low-done (rename old new time room) e = low-renamed L low old new time
  low-done (rename_set names lengths time room) e = low-renames time (pairs_of (names_of names lengths)) L low

  low-cut : (c : Call) (mask : List Bool) → Low ((step c L).cut mask)
  unfolding step file_of
  low-cut summary mask = low
  low-cut check mask = low
  low-cut (find name) mask = low
  low-cut (list k time room space) mask = low
  low-cut (read name offset count time room space) mask = low
  low-cut (create name id mode time room) mask = low
  low-cut (delete name time room) mask = low
  low-cut (resize name size time room) mask = low
  low-cut (write name offset bytes time room) mask = let i = index_of (slot_named L name) in low-slot (usable L.geometry) L.slots i _ low (low i)
  low-cut (rename old new time room) mask = low
  low-cut (rename_set names lengths time room) mask = low

  low-fed : (f : Feed) → Accepted f L → Low (fed f L)
  low-fed (whole c) a = go (eqb (number_of (answer c L)) 0) refl
    where
      go : (b : Bool) → eqb (number_of (answer c L)) 0 ≡ b → Low (cond b (step c L).done L)
      go true e = low-done c (eqb-true (number_of (answer c L)) 0 e)
      go false e = low
  low-fed (cut_marked c) a = low-done c a
  low-fed (cut_unmarked c mask) a = low-cut c mask

low-along : (L : Ledger) (fs : List Feed) → AllAccepted L fs → Low L → Low (ledger_from L fs)
unfolding ledger_from
low-along L [] a h = h
low-along L (f ∷ fs) a h = low-fed (ledger_from L fs) (low-along L fs a.1 h) f a.0

low_first : (a : Format) → Low (first_ledger a)
unfolding first_ledger
low_first a i = below_none _

-- so the table gives none of them to a file
last-free : (L : Ledger) → Low L → (e : ℕ) → usable L.geometry ≤ e → (catalogue L).table e ≡ none
unfolding catalogue
last-free L low e l = go (owner_from L e (holder_of L e)) refl
  where
    go : (o : Option Owner) → owner_from L e (holder_of L e) ≡ o → o ≡ none
    go none q = refl
    go (some w) q =
        let p = owned_at L e w.file w.offset q in
        absurd (let h : get_or (file_or (L.slots w.file)).extents w.offset 0 < usable L.geometry = low w.file w.offset p.0 in omega (arith, p.1))

-- ---- a catalogue whose last K extents are free

module _ (c : Catalogue) (bounded : Bounded c.geometry) (last : (e : ℕ) → usable c.geometry ≤ e → c.table e ≡ none) where
  abbrev u : ℕ
  u = usable c.geometry

  abbrev K : ℕ
  K = reserve_extents c.geometry

  -- behind the first N - K, each of them once
  up_to : (d : ℕ) → (length (free_below c (u + d)) ≡ length (free_below c u) + d)
      × ((j : ℕ) → j < d → get_or (free_below c (u + d)) (length (free_below c u) + j) 0 ≡ u + j)
  up_to zero = (
    ap (λ n. length (free_below c n)) (let e : u + 0 ≡ u = omega arith in e) ∙ (let e : length (free_below c u) ≡ length (free_below c u) + 0 = omega arith in e),
    λ j l. absurd (omega arith),
  )
  up_to (suc d) =
      let r = up_to d in
      let x = u + d in
      let z : u + suc d ≡ suc x = omega arith in
      let e : free_below c (u + suc d) ≡ free_below c x ++ (x ∷ []) =
      ap (free_below c) z ∙ free_more c x ∙ ap (λ (b : Bool). free_below c x ++ cond b (x ∷ []) []) (ap is_free (last x (omega arith))) in
      let n : length (free_below c x ++ (x ∷ [])) ≡ length (free_below c x) + 1 = length-append (free_below c x) (x ∷ []) in
      (ap length e ∙ n ∙ omega (arith, r.0), λ j l. ap (λ (es : List ℕ). get_or es (length (free_below c u) + j) 0) e ∙ go j l r.0 r.1 (dec_lt j d))
    where
      go : (j : ℕ) → j < suc d → length (free_below c (u + d)) ≡ length (free_below c u) + d
          → ((j : ℕ) → j < d → get_or (free_below c (u + d)) (length (free_below c u) + j) 0 ≡ u + j) → Dec (j < d)
          → get_or (free_below c (u + d) ++ ((u + d) ∷ [])) (length (free_below c u) + j) 0 ≡ u + j
      go j l n r (yes q) = get_or-append (free_below c (u + d)) ((u + d) ∷ []) 0 (length (free_below c u) + j) (omega arith) ∙ r j q
      go j l n r (no q) = get_or_at (free_below c (u + d)) (u + d) [] 0 (length (free_below c u) + j) (omega arith) ∙ (let e : u + d ≡ u + j = omega arith in e)

  all_of : u + K ≡ c.geometry.extents
  all_of = omega (arith, reserve-small c.geometry bounded)

  count-is : length (free_extents c) ≡ length (free_below c u) + K
  count-is = ap (λ n. length (free_below c n)) (sym all_of) ∙ (up_to K).0

  staging-is : (j : ℕ) → j < K → get_or (staging_extents c) j 0 ≡ u + j
  staging-is j l =
      staging-at c j
      ∙ ap₂ (λ n i. get_or (free_below c n) i 0) (sym all_of) (let e : length (free_extents c) - K + j ≡ length (free_below c u) + j = omega (arith, count-is) in e)
      ∙ (up_to K).1 j l

  stage_is : (n k : ℕ) → n ≤ most_targets c.geometry → k < n → stage_in c.geometry (staging_extents c) k ≡ reserve_at c.geometry + k
  unfolding stage_in
  stage_is n k few h =
      let S = extent_sectors c.geometry in
      let w : 0 < S = omega (arith, bounded.extent-low) in
      let q : k / S < K = (div-lt_iff_lt-mul {k = S} w).1 (omega (arith, copies-fit c.geometry bounded n few)) in
      let m : (u + k / S) * S ≡ u * S + k / S * S = add-mul u (k / S) S in
      rw (staging-is (k / S) q) (omega (arith, div-add-mod' k S))

  pub staging-last : (n : ℕ) → n ≤ most_targets c.geometry → staging c n ≡ tabulate (λ k. reserve_at c.geometry + k) 0 n
  unfolding staging stages_in
  staging-last n few =
      tabulate-ext (stage_in c.geometry (staging_extents c)) (λ k. reserve_at c.geometry + k) 0 0 n
      (λ k l. let z : 0 + k ≡ k = omega arith in ap (stage_in c.geometry (staging_extents c)) z ∙ stage_is n k few l ∙ ap (λ x. reserve_at c.geometry + x) (sym z))

-- ---- an image of such a catalogue

module _ (img : List ℕ) (bounded : Bounded (geometry_on img)) (last : (e : ℕ) → usable (geometry_on img) ≤ e → (catalogue_of (view img)).table e ≡ none) where
  all_held : free_on img + held_on img ≡ (geometry_on img).extents
  unfolding free_on held_on
  all_held =
      let N = (geometry_on img).extents in
      let t = (catalogue_of (view img)).table in
      sym (count_below-split (λ e. true) (λ e. is_free (t e)) (λ e. not (is_free (t e))) N (λ e. either (is_free (t e)))) ∙ count_below-all N
    where
      either : (b : Bool) → ◌≡◌ {A = ℕ} 1 (cond b 1 0 + cond (not b) 1 0)
      either true = refl
      either false = refl

  enough : reserve_extents (geometry_on img) ≤ free_on img
  unfolding catalogue_of
  enough = omega (arith, free-is img, count-is (catalogue_of (view img)) bounded last)

  own : OwnVolume img
  unfolding catalogue_of
  own = record {
    last = last;
    free = enough;
    full = (λ h. omega (arith, all_held, enough), λ h. omega (arith, all_held, reserve-small (geometry_on img) bounded));
    staged = staging-last (catalogue_of (view img)) bounded last;
  }

-- THE SUM OF OUR OWN VOLUMES
pub own-volume : FromOwnFormat
unfolding FromOwnFormat
own-volume a img fs rs r =
    let L = ledger_from (first_ledger a) fs in
    let s = sound-run r in
    let rep = represents s in
    let low = low-along (first_ledger a) fs (accepted s) (low_first a) in
    let e = rep.says.geometry in
    own img (subst Bounded (sym e) rep.bounded) (λ x l. rep.says.table x ∙ last-free L low x (subst (λ (g : Geometry). usable g ≤ x) e l))

-- so no room there means that one more extent is needed and N - K are held
pub own_room : (img : List ℕ) → OwnVolume img → (old new : ℕ) (target : Type 0)
    → NoRoom img old new target ↔ ((extents_for (geometry_on img) old < extents_for (geometry_on img) new) × (held_on img ≡ usable (geometry_on img)))
own_room img o old new target = (
  ⊎_elim (λ h. (h.0, o.full.0 h.1)) (λ h. absurd (let l : reserve_extents (geometry_on img) ≤ free_on img = o.free in omega (arith, h.1))),
  λ h. inl (h.0, o.full.1 h.1),
)
