-- WHAT AN ACCEPTED CALL MAKES OF THE FILES BY NAME depends on the files by name alone: not on slots, extents, root or geometry (`files-after`). And
-- it leaves a ledger orderly, whole (`orderly-after`) or cut (`orderly-cut`): so is every ledger that a format or a sound volume came to
-- (`orderly-fed`). Whether a call is accepted is looked at only to know that its name is there, or of create that it isn't. Assumes nothing.
use Prim.Native.Nat.{ℕ, ◌+◌, ◌-◌, ◌<◌, max}
use mathlib.Core.Path.{◌≡◌, refl, sym, ap, ◌∙◌, subst, fun_ext}
use mathlib.Core.Logic.{◌≢◌}
use mathlib.Core.Bool.{Bool, true, false, cond, true≢false, false≢true}
use mathlib.Core.List.{List, [], ◌∷◌}
use mathlib.Core.Option.{Option, none, some, map, some-injective, none-ne-some}
use native.Mathlib.Omega.{arith}
use lib.Dec.{eqb, ltb}
use lib.ListN.{length}
use borrow.Author.Tests.{eqb-true, eqb-false}
use Rattle.std.specs.Prelude.{Some, None}
use Rattle.model.specs.Search.{Lowest, index_of, equal_bytes}
use Rattle.model.specs.Root.{Root}
use Rattle.model.specs.Format.{Format}
use Rattle.model.specs.Ledger.{Ledger, File, file_or, first_ledger, holds_name, slot_named, free_slot, is_frozen, file_of, Call, summary, check, find, list}
use Rattle.model.specs.Ledger.{read, create, delete, resize, write, rename, rename_set, number_of, names_of, pairs_of}
use Rattle.model.specs.Ledger.{new_entry, updated_entry, updated_root, accessed_entry, accessed_file, accessed_root, renamed_entry, renamed_file, with_file}
use Rattle.model.specs.Ledger.{slots_without, after_rename, after_renames, rename_refusals, written, after_write, partly_written}
use Rattle.model.specs.Ledger.{shrunk, zero_bytes, step, answer, Feed, whole, cut_marked, cut_unmarked, fed, ledger_from}
use Rattle.laws.proofs.Bytes.{length-bytes_from, length-put}
use Rattle.laws.proofs.Search.{length-tabulate}
use Rattle.laws.proofs.RenameSet.{Pairs}
use Rattle.safety.specs.Naming.{Contents, file_in}
use Rattle.safety.specs.Described.{SoundAs}
use Rattle.safety.specs.Accessing.{accessed_contents}
use Rattle.safety.specs.RenameSet.{Files, files_after_renames}
use Rattle.safety.specs.Neighbours.{Accepted, AllAccepted, Orderly, with_named, resized_contents, written_contents, files_after}
use Rattle.safety.proofs.Searches.{place_none, same_true, same-differ, is-no}
use Rattle.safety.proofs.Rep.{Rep, bytes-length}
use Rattle.safety.proofs.Replaced.{replaced}
use Rattle.safety.proofs.Naming.{filled, named-hit, slot_of, Found, Fresh, renewed-other, read_found, create-fresh, delete-found, resize-found, write-found, rename-found, found-by}
use Rattle.safety.proofs.OwnWords.{verdicts}
use Rattle.safety.proofs.Changing.{Passed}
use Rattle.safety.proofs.RenameSet.{set-passed}
use Rattle.safety.proofs.CallFacts.{facts}
use Rattle.safety.proofs.Described.{sound-represents}
use Rattle.safety.proofs.FileSaid.{one_name, found-said, renewed-said, created-said, deleted-said, resized-said, written-said, unused, renamed-files}

-- ---- what an orderly ledger's file of a name is

module _ (L : Ledger) (ok : Orderly L) (m : List ℕ) (h : Found L m) where
  file-here : L.slots (slot_of L m) ≡ some (file_of L m)
  unfolding file_of
  file-here = filled (L.slots (slot_of L m)) m h.has

  file-sized : length (file_of L m).bytes ≡ (file_of L m).entry.size
  file-sized = ok.sized (slot_of L m) (file_of L m) file-here

-- ---- an orderly ledger stays so

pub orderly-represented : (L : Ledger) (img : List ℕ) → Rep L img → Orderly L
orderly-represented L img rep = record { named = one_name L rep.faultless; sized = bytes-length L img rep }

module _ (L : Ledger) (ok : Orderly L) where
  -- where a slot gets a file whose name no other slot has, with as many bytes as its size says
  orderly-replaced : (root : Root) (i : ℕ) (f : Option File)
      → ((n : List ℕ) → holds_name n f ≡ true → (k : ℕ) → k < L.geometry.files → k ≢ i → holds_name n (L.slots k) ≡ false)
      → ((x : File) → f ≡ some x → length x.bytes ≡ x.entry.size) → Orderly (replaced L root i f)
  orderly-replaced root i f alone long = record { named = λ n a b la lb ne. by n a b la lb ne (eqb a i) (eqb b i) refl refl; sized = λ k x. at k x (eqb k i) }
    where
      by : (n : List ℕ) (a b : ℕ) → a < L.geometry.files → b < L.geometry.files → b ≢ a → (s t : Bool) → eqb a i ≡ s → eqb b i ≡ t
          → holds_name n (cond s f (L.slots a)) ≡ true → holds_name n (cond t f (L.slots b)) ≡ false
      by n a b la lb ne true true ea eb p = absurd (ne (eqb-true b i eb ∙ sym (eqb-true a i ea)))
      by n a b la lb ne true false ea eb p = alone n p b lb (eqb-false b i eb)
      by n a b la lb ne false true ea eb p = is-no (holds_name n f) (λ q. true≢false (sym p ∙ alone n q a la (eqb-false a i ea)))
      by n a b la lb ne false false ea eb p = ok.named n a b la lb ne p

      at : (k : ℕ) (x : File) (s : Bool) → cond s f (L.slots k) ≡ some x → length x.bytes ≡ x.entry.size
      at k x true e = long x e
      at k x false e = ok.sized k x e

module _ (L : Ledger) (ok : Orderly L) where
  -- where the root alone changes; where a slot becomes free
  orderly-rooted : (root : Root) → Orderly (record { geometry = L.geometry; root = root; slots = L.slots })
  orderly-rooted root = record { named = ok.named; sized = ok.sized }

  orderly-freed : (root : Root) (i : ℕ) → Orderly (replaced L root i none)
  orderly-freed root i = orderly-replaced L ok root i none (λ n p k l ne. absurd (false≢true p)) (λ x q. absurd (none-ne-some x q))

  -- where the file of a name becomes another of that name
  orderly-renewed : (m : List ℕ) → Found L m → (f : File) → f.entry.name ≡ (file_of L m).entry.name → length f.bytes ≡ f.entry.size
      → Orderly (with_file L (slot_of L m) f)
  orderly-renewed m h f e long =
      orderly-replaced L ok L.root i (some f) (λ n p k l ne. ok.named n i k h.within l ne (was n p))
      (λ x q. subst (λ (y : File). length y.bytes ≡ y.entry.size) (some-injective f x q) long)
    where
      i : ℕ
      i = slot_of L m

      was : (n : List ℕ) → equal_bytes f.entry.name n ≡ true → holds_name n (L.slots i) ≡ true
      was n p = ap (holds_name n) (file-here L ok m h) ∙ ap (λ (x : List ℕ). equal_bytes x n) (sym e) ∙ p

  orderly-written : (m : List ℕ) → Found L m → (offset : ℕ) (bytes : List ℕ) (time : ℕ) → Orderly (after_write L (slot_of L m) offset bytes time)
  unfolding after_write written file_of updated_entry
  orderly-written m h offset bytes time = go (eqb (length bytes) 0)
    where
      f : File
      f = file_or (L.slots (slot_of L m))

      go : (b : Bool) → Orderly (cond b L (with_file L (slot_of L m) (written L (slot_of L m) offset bytes time)))
      go true = ok
      go false =
          orderly-renewed m h (written L (slot_of L m) offset bytes time) refl
          (length-put _ offset bytes ∙ length-bytes_from f.bytes 0 (max f.entry.size (offset + length bytes)))

  orderly-shrunk : (m : List ℕ) → Found L m → (size time : ℕ) → Orderly (with_file L (slot_of L m) (shrunk L (slot_of L m) size time))
  unfolding shrunk file_of updated_entry
  orderly-shrunk m h size time = orderly-renewed m h (shrunk L (slot_of L m) size time) refl (length-bytes_from (file_or (L.slots (slot_of L m))).bytes 0 size)

  orderly-created : (m : List ℕ) → Fresh L m → (root : Root) (id mode time : ℕ)
      → Orderly (replaced L root (index_of (free_slot L)) (some (record { entry = new_entry m id mode time; bytes = []; extents = [] })))
  unfolding new_entry slot_named
  orderly-created m h root id mode time =
      orderly-replaced L ok root (index_of (free_slot L)) _
      (λ n p k l ne. ap (λ (x : List ℕ). holds_name x (L.slots k)) (sym (same_true m n p)) ∙ place_none (λ x. holds_name m (L.slots x)) L.geometry.files h.unused k l)
      (λ x q. ap (λ (o : Option File). length (file_or o).bytes) (sym q) ∙ ap (λ (o : Option File). (file_or o).entry.size) q)

  -- first the file of the new name goes, then the renamed one has a name that no other has
  orderly-renamed : (m new : List ℕ) → Found L m → (time : ℕ) → Orderly (after_rename L m new time)
  unfolding after_rename renamed_entry
  orderly-renamed m new h time = go (equal_bytes m new) refl
    where
      r : Lowest
      r = slot_named L new

      f : File
      f = renamed_file new time (file_of L m)

      without : (q : Lowest) → Orderly (record { geometry = L.geometry; root = L.root; slots = slots_without L q })
      without None = orderly-rooted L.root
      without (Some j) = orderly-freed L.root j

      go : (b : Bool) → equal_bytes m new ≡ b
          → Orderly (cond b L (replaced (record { geometry = L.geometry; root = L.root; slots = slots_without L r }) (updated_root time L.root) (slot_of L m) (some f)))
      go true e = ok
      go false e =
          orderly-replaced (record { geometry = L.geometry; root = L.root; slots = slots_without L r }) (without r) (updated_root time L.root) (slot_of L m) (some f)
          (λ n p k l ne. ap (λ (x : List ℕ). holds_name x (slots_without L r k)) (sym (same_true new n p)) ∙ unused L m new ok.named h e time 0 r (named-hit L new) k l)
          (λ x q. subst (λ (y : File). length y.bytes ≡ y.entry.size) (some-injective f x q) (file-sized L ok m h))

-- renames one after the other
orderly-renames : (time : ℕ) (rs : Pairs) (L : Ledger) → Orderly L → Passed (verdicts (rename_refusals time L rs)) → Orderly (after_renames L rs time)
unfolding rename_refusals after_renames
orderly-renames time [] L ok passed = ok
orderly-renames time (r ∷ rs) L ok passed =
    orderly-renames time rs (after_rename L r.0 r.1 time) (orderly-renamed L ok r.0 r.1 (found-by L r.0 passed.1.1.0) time) passed.1.1.1

module _ (L : Ledger) (ok : Orderly L) where
  -- A CALL THAT WAS ACCEPTED
  pub orderly-after : (c : Call) → number_of (answer c L) ≡ 0 → Orderly (step c L).done
  unfolding step accessed_entry
  orderly-after summary z = ok
  orderly-after check z = ok
  orderly-after (find name) z = ok
  orderly-after (list i time room space) z = go (is_frozen L)
    where
      go : (b : Bool) → Orderly (cond b L (record { geometry = L.geometry; root = accessed_root time L.root; slots = L.slots }))
      go true = ok
      go false = orderly-rooted L ok (accessed_root time L.root)
  orderly-after (read name offset count time room space) z = go (is_frozen L)
    where
      h : Found L name
      h = read_found L name offset count time room space z

      go : (b : Bool) → Orderly (cond b L (with_file L (slot_of L name) (accessed_file time (file_of L name))))
      go true = ok
      go false = orderly-renewed L ok name h (accessed_file time (file_of L name)) refl (file-sized L ok name h)
  orderly-after (create name id mode time room) z = orderly-created L ok name (create-fresh L name id mode time room z) _ id mode time
  orderly-after (delete name time room) z = orderly-freed L ok _ (slot_of L name)
  orderly-after (resize name size time room) z = go (ltb size (file_of L name).entry.size)
    where
      h : Found L name
      h = resize-found L name size time room z

      go : (b : Bool)
          → Orderly (cond b (with_file L (slot_of L name) (shrunk L (slot_of L name) size time))
          (after_write L (slot_of L name) (file_of L name).entry.size (zero_bytes (size - (file_of L name).entry.size)) time))
      go true = orderly-shrunk L ok name h size time
      go false = orderly-written L ok name h (file_of L name).entry.size (zero_bytes (size - (file_of L name).entry.size)) time
  orderly-after (write name offset bytes time room) z = orderly-written L ok name (write-found L name offset bytes time room z) offset bytes time
  orderly-after (rename old new time room) z = orderly-renamed L ok old new (rename-found L old new time room z) time
  orderly-after (rename_set names lengths time room) z = orderly-renames time (pairs_of (names_of names lengths)) L ok (set-passed L names lengths time room z)

  -- and cut before its start mark
  orderly-cut : (c : Call) (mask : List Bool) → number_of (answer c L) ≡ 0 → Orderly ((step c L).cut mask)
  unfolding step partly_written
  orderly-cut summary mask z = ok
  orderly-cut check mask z = ok
  orderly-cut (find name) mask z = ok
  orderly-cut (list i time room space) mask z = ok
  orderly-cut (read name offset count time room space) mask z = ok
  orderly-cut (create name id mode time room) mask z = ok
  orderly-cut (delete name time room) mask z = ok
  orderly-cut (resize name size time room) mask z = ok
  orderly-cut (write name offset bytes time room) mask z =
      let h = write-found L name offset bytes time room z in
      orderly-renewed L ok name h (record { entry = (file_of L name).entry; bytes = partly_written (file_of L name) offset bytes mask; extents = (file_of L name).extents }) refl
      (length-tabulate _ 0 (length (file_of L name).bytes) ∙ file-sized L ok name h)
  orderly-cut (rename old new time room) mask z = ok
  orderly-cut (rename_set names lengths time room) mask z = ok

-- ---- THE ONE LEMMA

-- renames one after the other: each sees an orderly ledger
renames-files : (time : ℕ) (rs : Pairs) (L : Ledger) → Orderly L → Passed (verdicts (rename_refusals time L rs)) → (n : List ℕ)
    → file_in (after_renames L rs time) n ≡ files_after_renames rs time (file_in L) n
unfolding rename_refusals after_renames files_after_renames
renames-files time [] L ok passed n = refl
renames-files time (r ∷ rs) L ok passed n =
    let h = found-by L r.0 passed.1.1.0 in
    renames-files time rs (after_rename L r.0 r.1 time) (orderly-renamed L ok r.0 r.1 h time) passed.1.1.1 n
    ∙ ap (λ (x : Files). files_after_renames rs time x n) (fun_ext (renamed-files L r.0 r.1 ok.named h time))

module _ (L : Ledger) where
  -- where only the file of one name became another
  by_name : (M : Ledger) (m : List ℕ) (o : Option Contents) → file_in M m ≡ o → ((n : List ℕ) → m ≢ n → file_in M n ≡ file_in L n)
      → (n : List ℕ) → file_in M n ≡ with_named (file_in L) m o n
  by_name M m o here others n = go (equal_bytes m n) refl
    where
      go : (b : Bool) → equal_bytes m n ≡ b → file_in M n ≡ cond b o (file_in L n)
      go true q = ap (file_in M) (sym (same_true m n q)) ∙ here
      go false q = others n (same-differ m n q)

  -- and where that is f of what it was
  by-change : (M : Ledger) (m : List ℕ) → Found L m → (f : Contents → Contents) → file_in M m ≡ some (f (record { entry = (file_of L m).entry; bytes = (file_of L m).bytes }))
      → ((n : List ℕ) → m ≢ n → file_in M n ≡ file_in L n) → (n : List ℕ) → file_in M n ≡ with_named (file_in L) m (map f (file_in L m)) n
  by-change M m h f here = by_name M m (map f (file_in L m)) (here ∙ sym (ap (map f) (found-said L m h)))

  -- a write of 0 bytes changes nothing
  nothing_written : (name : List ℕ) (offset : ℕ) (bytes : List ℕ) (time room : ℕ) → eqb (length bytes) 0 ≡ true → (step (write name offset bytes time room) L).done ≡ L
  unfolding step after_write
  nothing_written name offset bytes time room e = ap (λ (b : Bool). cond b L (with_file L (slot_of L name) (written L (slot_of L name) offset bytes time))) e

  pub files-after : Orderly L → (c : Call) → number_of (answer c L) ≡ 0 → (n : List ℕ) → file_in (step c L).done n ≡ files_after (is_frozen L) c (file_in L) n
  unfolding step accessed_entry
  files-after ok summary z n = refl
  files-after ok check z n = refl
  files-after ok (find name) z n = refl
  files-after ok (list i time room space) z n = (facts (list i time room space)).done-other L n tt z
  files-after ok (read name offset count time room space) z n = go (is_frozen L)
    where
      h : Found L name
      h = read_found L name offset count time room space z

      f : File
      f = accessed_file time (file_of L name)

      go : (b : Bool) → file_in (cond b L (with_file L (slot_of L name) f)) n ≡ cond b (file_in L) (with_named (file_in L) name (map (accessed_contents time) (file_in L name))) n
      go true = refl
      go false = by-change (with_file L (slot_of L name) f) name h (accessed_contents time) (renewed-said L name h f refl) (λ k ne. renewed-other L name k ne h f refl) n
  files-after ok (create name id mode time room) z n =
      let c = create name id mode time room in
      by_name (step c L).done name _ (created-said L name (create-fresh L name id mode time room z) id mode time room) (λ k ne. (facts c).done-other L k (ne, tt) z) n
  files-after ok (delete name time room) z n =
      let c = delete name time room in
      by_name (step c L).done name none (deleted-said L name ok.named (delete-found L name time room z) time room) (λ k ne. (facts c).done-other L k (ne, tt) z) n
  files-after ok (resize name size time room) z n =
      let c = resize name size time room in
      let h = resize-found L name size time room z in
      by-change (step c L).done name h (resized_contents size time) (resized-said L name h (file-sized L ok name h) size time room) (λ k ne. (facts c).done-other L k (ne, tt) z) n
  files-after ok (write name offset bytes time room) z n = go (eqb (length bytes) 0) refl
    where
      c : Call
      c = write name offset bytes time room

      h : Found L name
      h = write-found L name offset bytes time room z

      go : (b : Bool) → eqb (length bytes) 0 ≡ b
          → file_in (step c L).done n ≡ cond b (file_in L) (with_named (file_in L) name (map (written_contents offset bytes time) (file_in L name))) n
      go true e = ap (λ (X : Ledger). file_in X n) (nothing_written name offset bytes time room e)
      go false e =
          let ne : length bytes ≢ 0 = eqb-false (length bytes) 0 e in
          by-change (step c L).done name h (written_contents offset bytes time) (written-said L name h offset bytes time room (omega arith))
          (λ k ne. (facts c).done-other L k (ne, tt) z) n
  files-after ok (rename old new time room) z n = renamed-files L old new ok.named (rename-found L old new time room z) time n
  files-after ok (rename_set names lengths time room) z n = renames-files time (pairs_of (names_of names lengths)) L ok (set-passed L names lengths time room z) n

-- ---- EVERY LEDGER WHOSE CUT CALLS WERE ACCEPTED: from a format on, and from a sound volume on

pub orderly-first : (a : Format) → Orderly (first_ledger a)
unfolding first_ledger
orderly-first a = record { named = λ n i k li lk ne p. absurd (false≢true p); sized = λ i f e. absurd (none-ne-some f e) }

pub orderly-sound : (L : Ledger) (img : List ℕ) → SoundAs L img → Orderly L
orderly-sound L img s = orderly-represented L img (sound-represents L img s)

orderly-told : (L : Ledger) → Orderly L → (f : Feed) → Accepted f L → Orderly (fed f L)
orderly-told L ok (whole c) a = go (eqb (number_of (answer c L)) 0) refl
  where
    go : (b : Bool) → eqb (number_of (answer c L)) 0 ≡ b → Orderly (cond b (step c L).done L)
    go true e = orderly-after L ok c (eqb-true (number_of (answer c L)) 0 e)
    go false e = ok
orderly-told L ok (cut_marked c) a = orderly-after L ok c a
orderly-told L ok (cut_unmarked c mask) a = orderly-cut L ok c mask a

pub orderly-fed : (L : Ledger) → Orderly L → (fs : List Feed) → AllAccepted L fs → Orderly (ledger_from L fs)
unfolding ledger_from
orderly-fed L ok [] h = ok
orderly-fed L ok (f ∷ fs) h = orderly-told (ledger_from L fs) (orderly-fed L ok fs h.1) f h.0
