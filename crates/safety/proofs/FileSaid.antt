-- What the ledger says of the file that a create, delete, resize, write or rename names, and that an image says of a file what the ledger says.
-- Assumes nothing.
use Prim.Native.Nat.{ℕ, ◌+◌, ◌-◌, ◌≤◌, ◌<◌, max}
use mathlib.Core.Path.{◌≡◌, refl, sym, ap, ◌∙◌}
use mathlib.Core.Logic.{◌≢◌}
use mathlib.Core.Bool.{Bool, true, false, cond, ◌&&◌, true≢false, false≢true}
use mathlib.Core.List.{List, []}
use mathlib.Core.Option.{Option, none, some}
use native.Mathlib.Omega.{arith}
use lib.Dec.{eqb, leb, ltb}
use lib.ListN.{length, get_or, get_or-eq_default}
use lib.Seq.{ext_get_or}
use borrow.Author.Tests.{leb-true, ltb-true, ltb-false, eqb-true, eqb-false, eq-eqb, ne_eqb}
use Rattle.std.specs.Prelude.{Some, None}
use Rattle.model.specs.Bytes.{bytes_from, put}
use Rattle.model.specs.Search.{Lowest, any_below, index_of, equal_bytes}
use Rattle.model.specs.Disk.{view}
use Rattle.model.specs.Entry.{Entry}
use Rattle.model.specs.Catalogue.{Catalogue, catalogue_of, has_name, file_named, entry_of, entry_or, file_byte, file_bytes}
use Rattle.model.specs.Faults.{holds_of}
use Rattle.model.specs.Resize.{zeros}
use Rattle.model.specs.Ledger.{Ledger, File, file_or, entry_of_file, catalogue, create, delete, resize, write, with_file, with_root_updated, shrunk, new_entry, updated_entry, holds_name, slot_named}
use Rattle.model.specs.Ledger.{free_slot, file_of, written, after_write, rename, updated_root, renamed_entry, renamed_file, with_slot, slots_without, after_rename, step}
use Rattle.model.specs.Demand3.{Says}
use Rattle.laws.proofs.Booleans.{and_left}
use Rattle.laws.proofs.Bytes.{length-bytes_from, get_or-bytes_from, bytes_from-all, length-put, get_or-put}
use Rattle.laws.proofs.Search.{length-tabulate, Hit, first-none}
use Rattle.safety.specs.Naming.{Contents, contents_at, file_on, contents_in, file_in, OneName}
use Rattle.safety.specs.RenameSet.{renamed_or, renamed_files}
use Rattle.safety.proofs.OwnWords.{name-if, named-is, zeros-are}
use Rattle.safety.proofs.Searches.{place_none, same-no, same_refl, same_true, same-differ}
use Rattle.safety.proofs.Rep.{catalogue-is, NoFaults}
use Rattle.safety.proofs.Replaced.{names_apart}
use Rattle.safety.proofs.TakenFile.{first-only}
use Rattle.safety.proofs.Naming.{named-hit, named_by, Found, Fresh, slot_of, filled, renamed-other, after-itself}

-- no two files of a ledger without faults have one name
pub one_name : (L : Ledger) → NoFaults (catalogue L) → OneName L
unfolding catalogue
one_name L nf m i k li lk ne q = apart (L.slots i) q (names_apart (catalogue L) nf i k li lk ne)
  where
    apart : (o : Option File) → holds_name m o ≡ true → holds_of (entry_of_file o) (λ e. has_name e.name (entry_of_file (L.slots k))) ≡ false → holds_name m (L.slots k) ≡ false
    apart none q r = absurd (false≢true q)
    apart (some f) q r = name-if m (L.slots k) ∙ ap (λ (x : List ℕ). has_name x (entry_of_file (L.slots k))) (sym (same_true f.entry.name m q)) ∙ r

-- ---- what is said of the file that the call names

-- a file into which bytes were put at an offset
abbrev pub written_into : File → ℕ → List ℕ → ℕ → Contents
written_into f offset bytes time =
    let size = max f.entry.size (offset + length bytes) in
    record { entry = updated_entry size time f.entry; bytes = put (bytes_from f.bytes 0 size) offset bytes }

module _ (L : Ledger) (m : List ℕ) where
  -- a slot that alone has the name
  said_at : (M : Ledger) (i : ℕ) (f : File) → M.slots i ≡ some f → slot_named M m ≡ Some i → file_in M m ≡ some (record { entry = f.entry; bytes = f.bytes })
  unfolding file_in
  said_at M i f e q = ap (contents_in M) q ∙ ap (λ (o : Option File). some (record { entry = (file_or o).entry; bytes = (file_or o).bytes })) e

  slot-here : (i : ℕ) (f : Option File) → cond (eqb i i) f (L.slots i) ≡ f
  slot-here i f = ap (λ (b : Bool). cond b f (L.slots i)) (eq-eqb i i refl)

  pub renewed-said : Found L m → (f : File) → f.entry.name ≡ (file_of L m).entry.name → file_in (with_file L (slot_of L m) f) m ≡ some (record { entry = f.entry; bytes = f.bytes })
  unfolding file_of
  renewed-said h f e =
      let i = slot_of L m in
      said_at (with_file L i f) i f (slot-here i (some f))
      (named_by L L.root i (some f) m (ap (λ (x : List ℕ). equal_bytes x m) e ∙ by-file (L.slots i) h.has) ∙ h.at)
    where
      by-file : (o : Option File) → holds_name m o ≡ true → equal_bytes (file_or o).entry.name m ≡ holds_name m o
      by-file none q = absurd (false≢true q)
      by-file (some x) q = refl

  pub found-said : Found L m → file_in L m ≡ some (record { entry = (file_of L m).entry; bytes = (file_of L m).bytes })
  unfolding file_of
  found-said h = said_at L (slot_of L m) (file_or (L.slots (slot_of L m))) (filled (L.slots (slot_of L m)) m h.has) h.at

  pub created-said : Fresh L m → (id mode time room : ℕ) → file_in (step (create m id mode time room) L).done m ≡ some (record { entry = new_entry m id mode time; bytes = [] })
  unfolding step slot_named new_entry
  created-said h id mode time room =
      said_at (with_root_updated L time i (some f)) i f (slot-here i (some f))
      (first-only (λ k. holds_name m (cond (eqb k i) (some f) (L.slots k))) L.geometry.files i h.within
      (ap (λ (o : Option File). holds_name m o) (slot-here i (some f)) ∙ same_refl m) (λ k l. go k l (eqb k i) refl))
    where
      i : ℕ
      i = index_of (free_slot L)

      f : File
      f = record { entry = new_entry m id mode time; bytes = []; extents = [] }

      go : (k : ℕ) → k < L.geometry.files → (b : Bool) → eqb k i ≡ b → holds_name m (cond b (some f) (L.slots k)) ≡ true → k ≡ i
      go k l true e q = eqb-true k i e
      go k l false e q = absurd (true≢false (sym q ∙ place_none (λ x. holds_name m (L.slots x)) L.geometry.files h.unused k l))

  -- where no two files have one name, none has it after a delete
  pub deleted-said : OneName L → Found L m → (time room : ℕ) → file_in (step (delete m time room) L).done m ≡ none
  unfolding step file_in slot_named
  deleted-said one h time room =
      ap (contents_in (with_root_updated L time i none))
      (first-none (λ k. holds_name m (cond (eqb k i) none (L.slots k))) L.geometry.files (λ k l. go k l (eqb k i) refl))
    where
      i : ℕ
      i = slot_of L m

      go : (k : ℕ) → k < L.geometry.files → (b : Bool) → eqb k i ≡ b → holds_name m (cond b none (L.slots k)) ≡ false
      go k l true q = refl
      go k l false q = one m i k h.within l (eqb-false k i q) h.has

  written-file : Found L m → (offset : ℕ) (bytes : List ℕ) (time : ℕ)
      → file_in (with_file L (slot_of L m) (written L (slot_of L m) offset bytes time)) m ≡ some (written_into (file_of L m) offset bytes time)
  unfolding written file_of updated_entry
  written-file h offset bytes time = renewed-said h (written L (slot_of L m) offset bytes time) refl

  pub written-said : Found L m → (offset : ℕ) (bytes : List ℕ) (time room : ℕ) → 0 < length bytes
      → file_in (step (write m offset bytes time room) L).done m ≡ some (written_into (file_of L m) offset bytes time)
  unfolding step after_write
  written-said h offset bytes time room any_below =
      ap (λ (b : Bool). file_in (cond b L (with_file L (slot_of L m) (written L (slot_of L m) offset bytes time))) m) (ne_eqb (length bytes) 0 (λ e. omega arith))
      ∙ written-file h offset bytes time

-- after a rename the file has the new name, and none has the old one
module _ (L : Ledger) (m new : List ℕ) (one : OneName L) (h : Found L m) (other : equal_bytes m new ≡ false) (time room : ℕ) where
  abbrev at : ℕ
  at = slot_of L m

  abbrev renamed : File
  renamed = renamed_file new time (file_of L m)

  -- the ledger afterwards, by where the new name was
  abbrev after : Lowest → Ledger
  after r = record { geometry = L.geometry; root = updated_root time L.root; slots = with_slot (slots_without L r) at (some renamed) }

  after_is : (step (rename m new time room) L).done ≡ after (slot_named L new)
  unfolding step after_rename
  after_is = ap (λ (b : Bool). cond b L (after (slot_named L new))) other

  holds-here : (r : Lowest) → (after r).slots at ≡ some renamed
  holds-here r = ap (λ (b : Bool). cond b (some renamed) (slots_without L r at)) (eq-eqb at at refl)

  -- no other slot has the new name
  pub unused : (r : Lowest) → Hit (λ k. holds_name new (L.slots k)) (L.geometry.files - 0) 0 r → (k : ℕ) → k < L.geometry.files → holds_name new (slots_without L r k) ≡ false
  unused None q k l = q k (omega arith) (omega arith)
  unused (Some j) q k l = go (eqb k j) refl
    where
      go : (b : Bool) → eqb k j ≡ b → holds_name new (cond b none (L.slots k)) ≡ false
      go true e = refl
      go false e = one new j k (omega (arith, q.1)) l (eqb-false k j e) q.2

  -- nor has any the old one
  gone : (r : Lowest) (k : ℕ) → k < L.geometry.files → k ≢ at → holds_name m (slots_without L r k) ≡ false
  gone None k l ne = one m at k h.within l ne h.has
  gone (Some j) k l ne = go (eqb k j)
    where
      go : (b : Bool) → holds_name m (cond b none (L.slots k)) ≡ false
      go true = refl
      go false = one m at k h.within l ne h.has

  pub renamed-said : file_in (step (rename m new time room) L).done new ≡ some (record { entry = renamed_entry new time (file_of L m).entry; bytes = (file_of L m).bytes })
  unfolding slot_named renamed_entry
  renamed-said =
      ap (λ (X : Ledger). file_in X new) after_is
      ∙ said_at L new (after r) at renamed (holds-here r)
      (first-only (λ k. holds_name new ((after r).slots k)) L.geometry.files at h.within
      (ap (λ (o : Option File). holds_name new o) (holds-here r) ∙ same_refl new) (λ k l. go k l (eqb k at) refl))
    where
      r : Lowest
      r = slot_named L new

      go : (k : ℕ) → k < L.geometry.files → (b : Bool) → eqb k at ≡ b → holds_name new (cond b (some renamed) (slots_without L r k)) ≡ true → k ≡ at
      go k l true e q = eqb-true k at e
      go k l false e q = absurd (true≢false (sym q ∙ unused r (named-hit L new) k l))

  pub renamed-gone : file_in (step (rename m new time room) L).done m ≡ none
  unfolding slot_named file_in renamed_entry
  renamed-gone =
      ap (λ (X : Ledger). file_in X m) after_is
      ∙ ap (contents_in (after r)) (first-none (λ k. holds_name m ((after r).slots k)) L.geometry.files (λ k l. go k l (eqb k at) refl))
    where
      r : Lowest
      r = slot_named L new

      go : (k : ℕ) → k < L.geometry.files → (b : Bool) → eqb k at ≡ b → holds_name m (cond b (some renamed) (slots_without L r k)) ≡ false
      go k l true e = same-no m new other
      go k l false e = gone r k l (eqb-false k at e)

-- so of every name
pub renamed-files : (L : Ledger) (old new : List ℕ) → OneName L → Found L old → (time : ℕ) (n : List ℕ)
    → file_in (after_rename L old new time) n ≡ renamed_files old new time (file_in L) n
unfolding step renamed_entry
renamed-files L old new one h time n = go (equal_bytes old new) (equal_bytes new n) (equal_bytes old n) refl refl refl
  where
    go : (s t u : Bool) → equal_bytes old new ≡ s → equal_bytes new n ≡ t → equal_bytes old n ≡ u
        → file_in (after_rename L old new time) n ≡ cond s (file_in L n) (cond t (renamed_or new time (file_in L old)) (cond u none (file_in L n)))
    go true t u e f g = ap (λ (X : Ledger). file_in X n) (after-itself L old new time e)
    go false true u e f g =
        ap (file_in (after_rename L old new time)) (sym (same_true new n f)) ∙ renamed-said L old new one h e time 0 ∙ ap (renamed_or new time) (sym (found-said L old h))
    go false false true e f g = ap (file_in (after_rename L old new time)) (sym (same_true old n g)) ∙ renamed-gone L old new one h e time 0
    go false false false e f g = renamed-other L old n (same-differ old n g) h new (same-differ new n f) time

-- zeros written at the end of a file's bytes are what lies past them
zeros-at-end : (b : List ℕ) (o s : ℕ) → length b ≡ o → o ≤ s → put (bytes_from b 0 s) o (zeros (s - o)) ≡ bytes_from b 0 s
zeros-at-end b o s e h =
    ext_get_or 0 (put (bytes_from b 0 s) o (zeros (s - o))) (bytes_from b 0 s) (length-put (bytes_from b 0 s) o (zeros (s - o)))
    (λ k l. let q : k < length (bytes_from b 0 s) = rw (length-put (bytes_from b 0 s) o (zeros (s - o))) at l in
    get_or-put (bytes_from b 0 s) o (zeros (s - o)) k q ∙ go k q (leb o k && ltb k (o + length (zeros (s - o)))) refl)
  where
    go : (k : ℕ) → k < length (bytes_from b 0 s) → (t : Bool) → (leb o k && ltb k (o + length (zeros (s - o)))) ≡ t
        → cond t (get_or (zeros (s - o)) (k - o) 0) (get_or (bytes_from b 0 s) k 0) ≡ get_or (bytes_from b 0 s) k 0
    go k l false q = refl
    go k l true q =
        let n = length-bytes_from b 0 s in
        let z = length-bytes_from [] 0 (s - o) in
        let a : o ≤ k = leb-true o k (and_left _ _ q) in
        let u : k < s = omega arith in
        get_or-bytes_from [] 0 (s - o) (k - o) (omega arith) ∙ sym (get_or-bytes_from b 0 s k u ∙ get_or-eq_default b 0 (omega arith))

module _ (L : Ledger) (m : List ℕ) (h : Found L m) (sized : length (file_of L m).bytes ≡ (file_of L m).entry.size) (size time room : ℕ) where
  abbrev old : File
  old = file_of L m

  abbrev i : ℕ
  i = slot_of L m

  -- its entry, unless the size stays, and its first bytes, with zeros behind them where it grows
  abbrev resized_entry : Bool → Entry
  resized_entry b = cond b (file_of L m).entry (updated_entry size time (file_of L m).entry)

  abbrev resized : Bool → Option Contents
  resized b = some (record { entry = resized_entry b; bytes = bytes_from (file_of L m).bytes 0 size })

  shrunk-said : size < old.entry.size → file_in (with_file L i (shrunk L i size time)) m ≡ resized (eqb size old.entry.size)
  unfolding shrunk file_of updated_entry
  shrunk-said l = renewed-said L m h (shrunk L i size time) refl ∙ ap resized (sym (ne_eqb size old.entry.size (λ e. omega arith)))

  -- zeros at the end
  abbrev end : List ℕ
  end = zeros (size - (file_of L m).entry.size)

  grown-file : old.entry.size ≤ size → written_into old old.entry.size end time ≡ record { entry = updated_entry size time old.entry; bytes = bytes_from old.bytes 0 size }
  grown-file l =
      let z = length-bytes_from [] 0 (size - old.entry.size) in
      let q : max old.entry.size (old.entry.size + length end) ≡ size = omega arith in
      (λ k. record { entry = updated_entry (q k) time old.entry; bytes = put (bytes_from old.bytes 0 (q k)) old.entry.size end })
      ∙ ap (λ (x : List ℕ). record { entry = updated_entry size time old.entry; bytes = x }) (zeros-at-end old.bytes old.entry.size size sized l)

  grown-said : old.entry.size ≤ size → (b : Bool) → eqb (length end) 0 ≡ b
      → file_in (cond b L (with_file L i (written L i old.entry.size end time))) m ≡ resized (eqb size old.entry.size)
  grown-said l true e =
      let z = length-bytes_from [] 0 (size - old.entry.size) in
      let n : length end ≡ 0 = eqb-true _ 0 e in
      let q : size ≡ old.entry.size = omega arith in
      found-said L m h ∙ ap (λ (x : List ℕ). some (record { entry = old.entry; bytes = x })) (sym (bytes_from-all old.bytes size (sized ∙ sym q)))
      ∙ ap resized (sym (eq-eqb size old.entry.size q))
  grown-said l false e =
      let z = length-bytes_from [] 0 (size - old.entry.size) in
      let ne : length end ≢ 0 = eqb-false _ 0 e in
      written-file L m h old.entry.size end time ∙ ap some (grown-file l) ∙ ap resized (sym (ne_eqb size old.entry.size (λ x. omega arith)))

  pub resized-said : file_in (step (resize m size time room) L).done m
      ≡ some (record { entry = cond (eqb size (file_of L m).entry.size) (file_of L m).entry (updated_entry size time (file_of L m).entry); bytes = bytes_from (file_of L m).bytes 0 size })
  unfolding step after_write
  resized-said = rw (zeros-are (size - (file_of L m).entry.size)) (go (ltb size old.entry.size) refl)
    where
      go : (b : Bool) → ltb size old.entry.size ≡ b
          → file_in (cond b (with_file L i (shrunk L i size time)) (after_write L i old.entry.size (zeros (size - old.entry.size)) time)) m ≡ resized (eqb size old.entry.size)
      go true e = shrunk-said (ltb-true size old.entry.size e)
      go false e = grown-said (ltb-false size old.entry.size e) (eqb (length (zeros (size - old.entry.size))) 0) refl

-- ---- AN IMAGE SAYS OF A FILE WHAT THE LEDGER SAYS

entry-or : (o : Option Entry) (e : Entry) → o ≡ some e → entry_or o ≡ e
entry-or o e q = ap entry_or q

entry-of : (L : Ledger) (img : List ℕ) → Says L img → (k : ℕ) (f : File) → L.slots k ≡ some f → entry_of (catalogue_of (view img)) k ≡ f.entry
unfolding entry_of catalogue
entry-of L img s k f e = entry-or ((catalogue_of (view img)).entries k) f.entry (s.directory k ∙ ap entry_of_file e)

pub said : (L : Ledger) (img : List ℕ) → Says L img → (n : List ℕ) → file_on img n ≡ file_in L n
unfolding file_on file_in
said L img s n =
    ap (λ (c : Catalogue). contents_at (view img) (file_named c n)) (catalogue-is L img s) ∙ ap (contents_at (view img)) (sym (named-is L n)) ∙ go (slot_named L n) (named-hit L n)
  where
    at_slot : (k : ℕ) (f : File) → L.slots k ≡ some f → contents_at (view img) (Some k) ≡ some (record { entry = f.entry; bytes = f.bytes })
    at_slot k f e =
        let q : entry_of (catalogue_of (view img)) k ≡ f.entry = entry-of L img s k f e in
        ap (λ (x : Entry). some (record { entry = x; bytes = file_bytes (catalogue_of (view img)) (view img) k 0 x.size })) q
        ∙ ap (λ (b : List ℕ). some (record { entry = f.entry; bytes = b })) (s.bytes k f e)

    go : (r : Lowest) → Hit (λ k. holds_name n (L.slots k)) (L.geometry.files - 0) 0 r → contents_at (view img) r ≡ contents_in L r
    go None h = refl
    go (Some k) h = at_slot k (file_or (L.slots k)) (filled (L.slots k) n h.2)

-- a file has as many bytes as its size says
pub said-length : (L : Ledger) (img : List ℕ) → Says L img → (m : List ℕ) → Found L m → length (file_of L m).bytes ≡ (file_of L m).entry.size
unfolding file_of file_bytes
said-length L img s m h =
    let i = slot_of L m in
    ap length (sym (s.bytes i (file_or (L.slots i)) (filled (L.slots i) m h.has))) ∙ length-tabulate (file_byte (catalogue_of (view img)) (view img) i) 0 (file_or (L.slots i)).entry.size
