-- A READ AND A LIST IN A USER'S WORDS (T-02): what they give, cut or not; a cut one set the access time exactly if its start mark landed; and
-- however many of them, whole or cut, change nothing of a file or of the root but access times. Assumes nothing.
use Prim.Native.Nat.{ℕ, ◌*◌, ◌-◌, min}
use mathlib.Core.Path.{◌≡◌, refl, sym, ap, ap₂, ◌∙◌, subst}
use mathlib.Core.Logic.{◌≢◌, ◌⊎◌, inl, inr}
use mathlib.Core.Bool.{Bool, true, false, cond, false≢true}
use mathlib.Core.List.{List, [], ◌∷◌, ◌++◌}
use mathlib.Core.Option.{Option, none, some, some-injective, none-ne-some}
use lib.Dec.{eqb}
use borrow.Author.Tests.{eqb-true}
use Rattle.model.specs.Bytes.{bytes_from}
use Rattle.model.specs.Search.{equal_bytes}
use Rattle.model.specs.Disk.{view}
use Rattle.model.specs.Entry.{Entry, fields_of}
use Rattle.model.specs.Catalogue.{Catalogue, catalogue_of, lacks_reserve}
use Rattle.model.specs.Refusals.{done}
use Rattle.model.specs.WriteList.{Plan, stored, groups_for, closed, record_size, record_count}
use Rattle.model.specs.Cut.{Cut, landed, start_mark}
use Rattle.model.specs.Ledger.{Ledger, File, file_or, entry_of_file, catalogue, file_of, Call, summary, check, find, list}
use Rattle.model.specs.Ledger.{read, create, delete, resize, write, rename, rename_set, Answer, listed, gave}
use Rattle.model.specs.Ledger.{number_of, entry_fields, accessed_entry, accessed_root, accessed_file, with_file, is_frozen, access_records, step, answer}
use Rattle.model.specs.Ledger.{Feed, whole, cut_marked, cut_unmarked, call_of, fed, ledger_from}
use Rattle.model.specs.Run.{volume_answer, volume_plan, Fits, steady, calls}
use Rattle.model.specs.Demand3.{Says}
use Rattle.safety.specs.Described.{SoundRun}
use Rattle.safety.specs.Naming.{Contents, file_on, file_in}
use Rattle.safety.specs.Accessing.{root_on, accessed_contents, access_length, AfterRead, AfterList, Unset, asks, OnlyAsk, but_access}
use Rattle.safety.specs.Neighbours.{Accepted, AllAccepted}
use Rattle.safety.proofs.Searches.{same_true, same-differ}
use Rattle.safety.proofs.OwnWords.{frozen-is, reply-given}
use Rattle.safety.proofs.Commit.{RecoveredTo}
use Rattle.safety.proofs.Rep.{catalogue-is}
use Rattle.safety.proofs.Theorem.{represents, planned-done}
use Rattle.safety.proofs.Naming.{rooted-other, renewed-other, Found, slot_of, read_found}
use Rattle.safety.proofs.CallFacts.{facts}
use Rattle.safety.proofs.FileSaid.{renewed-said, found-said, said}
use Rattle.safety.proofs.NoRoom.{frozen-on, frozen-still}
use Rattle.safety.proofs.Corollaries.{accepted, says, was, zero-here, done-here}
use Rattle.safety.proofs.CutWhole.{told-by, kept-file, kept-catalogue}

-- ---- what the ledger says

pub root_said : (L : Ledger) (img : List ℕ) → Says L img → root_on img ≡ L.root
unfolding catalogue
root_said L img s = ap (λ (c : Catalogue). c.root) (catalogue-is L img s)

accessed-said : (L : Ledger) (m : List ℕ) → Found L m → (time : ℕ)
    → file_in (with_file L (slot_of L m) (accessed_file time (file_of L m))) m ≡ some (accessed_contents time (record { entry = (file_of L m).entry; bytes = (file_of L m).bytes }))
unfolding accessed_entry
accessed-said L m h time = renewed-said L m h (accessed_file time (file_of L m)) refl

-- an entry of the directory is the slot's
entry-said : (o : Option File) (e : Entry) → entry_of_file o ≡ some e → (file_or o).entry ≡ e
entry-said none e q = absurd (none-ne-some e q)
entry-said (some f) e q = some-injective f.entry e q

-- cut before the start mark, a call that asks changes nothing
cut-kept : (c : Call) → asks c ≡ true → (L : Ledger) (mask : List Bool) → (step c L).cut mask ≡ L
unfolding step
cut-kept summary h L mask = refl
cut-kept check h L mask = refl
cut-kept (find name) h L mask = refl
cut-kept (list i time room space) h L mask = refl
cut-kept (read name offset count time room space) h L mask = refl
cut-kept (create name id mode time room) h L mask = absurd (false≢true h)
cut-kept (delete name time room) h L mask = absurd (false≢true h)
cut-kept (resize name size time room) h L mask = absurd (false≢true h)
cut-kept (write name offset bytes time room) h L mask = absurd (false≢true h)
cut-kept (rename old new time room) h L mask = absurd (false≢true h)
cut-kept (rename_set names lengths time room) h L mask = absurd (false≢true h)

unset : {L₀ : Ledger} {img img' : List ℕ} {fs : List Feed} {rs : List Answer} (c : Call) → asks c ≡ true → (p : Plan) (x : Cut) (r : SoundRun L₀ steady img fs rs) (fit : Fits c)
    (planned : volume_plan c img ≡ some p) → RecoveredTo (stored (landed x (groups_for (view img) (some p))) img) img' → start_mark x ≡ false → Unset img img'
unset {L₀} {img} {img'} {fs} c h p x r fit planned m e = record {
  files = kept-file c p x r fit planned m (cut-kept c h (ledger_from L₀ fs)) e;
  root = ap (λ (k : Catalogue). k.root) (kept-catalogue c p x r fit planned m (cut-kept c h (ledger_from L₀ fs)) e);
}

-- ---- the reserve

frozen-said : (L : Ledger) (img : List ℕ) → Says L img → is_frozen L ≡ lacks_reserve (catalogue_of (view img))
frozen-said L img s = frozen-is L ∙ ap lacks_reserve (sym (catalogue-is L img s))

length-said : (L : Ledger) (img : List ℕ) → Says L img → access_records L * record_size ≡ access_length img
length-said L img s = go (is_frozen L) ∙ ap (λ (b : Bool). cond b 0 (9 * record_size)) (frozen-said L img s)
  where
    go : (b : Bool) → cond b 0 (record_count 0 1) * record_size ≡ cond b 0 (9 * record_size)
    go true = refl
    go false = refl

-- a call that has no plan where the reserve isn't there
planned-there : (img : List ℕ) (p : Plan) (o : Option Plan) → o ≡ some p → (lacks_reserve (catalogue_of (view img)) ≡ true → o ≡ none) → lacks_reserve (catalogue_of (view img)) ≡ false
planned-there img p o e h = go (lacks_reserve (catalogue_of (view img))) refl
  where
    go : (b : Bool) → lacks_reserve (catalogue_of (view img)) ≡ b → lacks_reserve (catalogue_of (view img)) ≡ false
    go true q = absurd (none-ne-some p (sym (h q) ∙ e))
    go false q = q

-- ---- a read

-- what it gives of a file: "min(count, size - offset) bytes", and a list of so many bytes
abbrev read_of : ℕ → ℕ → ℕ → Contents → Answer
read_of offset asked len x =
    let n = min asked (x.entry.size - offset) in
    gave (record { verdict = done; count = n; length = len }) (bytes_from x.bytes offset n)

module _ {L₀ : Ledger} {img : List ℕ} {fs : List Feed} {rs : List Answer} (name : List ℕ) (offset asked time room space : ℕ) (file : Contents)
    (r : SoundRun L₀ steady img fs rs) (there : file_on img name ≡ some file) (fit : Fits (read name offset asked time room space)) where
  abbrev c : Call
  c = read name offset asked time room space

  abbrev L : Ledger
  L = ledger_from L₀ fs

  gives : number_of (answer c L) ≡ 0 → volume_answer c img ≡ read_of offset asked (access_length img) file
  unfolding step
  gives z =
      (facts c).same L img (represents r) fit ∙ reply-given (step c L) refl z
      ∙ ap₂ (read_of offset asked) (length-said L img (says r)) (was r name file there (read_found L name offset asked time room space z))

  after_read : lacks_reserve (catalogue_of (view img)) ≡ false → number_of (answer c L) ≡ 0 → (img' : List ℕ) → Says (step c L).done img' → AfterRead name time file img img'
  unfolding step
  after_read e z img' s =
      let h = read_found L name offset asked time room space z in
      let X = with_file L (slot_of L name) (accessed_file time (file_of L name)) in
      let t : Says X img' = subst (λ (b : Bool). Says (cond b L X) img') (frozen-said L img (says r) ∙ e) s in
      record {
        file = said X img' t name ∙ accessed-said L name h time ∙ ap (λ (o : Contents). some (accessed_contents time o)) (was r name file there h);
        others = λ n ne. said (step c L).done img' s n ∙ (facts c).done-other L n (ne, tt) z ∙ sym (said L img (says r) n);
        root = root_said X img' t ∙ sym (root_said L img (says r));
      }

  -- WHAT A READ GIVES that answers 0, also one that is cut then: the file's bytes before the call
  pub read-gives : number_of (volume_answer (read name offset asked time room space) img) ≡ 0
      → volume_answer (read name offset asked time room space) img
      ≡ gave (record { verdict = done; count = min asked (file.entry.size - offset); length = access_length img }) (bytes_from file.bytes offset (min asked (file.entry.size - offset)))
  read-gives z = gives (zero-here r c fit z)

  -- AND LEAVES, carried out whole where at least K extents are free
  pub read_done : lacks_reserve (catalogue_of (view img)) ≡ false → number_of (volume_answer (read name offset asked time room space) img) ≡ 0
      → AfterRead name time file img (stored (closed (groups_for (view img) (volume_plan (read name offset asked time room space) img))) img)
  read_done e z =
      let out = stored (closed (groups_for (view img) (volume_plan c img))) img in
      after_read e (zero-here r c fit z) out (subst (λ (X : Ledger). Says X out) (done-here r c fit z) (says (calls r c fit)))

  -- AND WHERE FEWER ARE: "an empty write list and the access time stays"
  pub read-frozen : lacks_reserve (catalogue_of (view img)) ≡ true → volume_plan (read name offset asked time room space) img ≡ none
  read-frozen e = frozen-still img ((frozen-on img).0 e) (read name offset asked time room space)

  -- A READ THAT WAS CUT anywhere, after the recovery that was completed: its bytes were given, and its time is set exactly if its start mark landed
  pub read-cut : {img' : List ℕ} (p : Plan) (x : Cut) → volume_plan (read name offset asked time room space) img ≡ some p
      → RecoveredTo (stored (landed x (groups_for (view img) (some p))) img) img'
      → (volume_answer (read name offset asked time room space) img
      ≡ gave (record { verdict = done; count = min asked (file.entry.size - offset); length = 9 * record_size }) (bytes_from file.bytes offset (min asked (file.entry.size - offset))))
      × (((start_mark x ≡ true) × AfterRead name time file img img') ⊎ ((start_mark x ≡ false) × Unset img img'))
  read-cut {img'} p x planned m = (gives z ∙ ap (λ (b : Bool). read_of offset asked (cond b 0 (9 * record_size)) file) there-here, go (start_mark x) refl)
    where
      there-here : lacks_reserve (catalogue_of (view img)) ≡ false
      there-here = planned-there img p _ planned read-frozen

      z : number_of (answer c L) ≡ 0
      z = planned-done r c fit p planned

      go : (b : Bool) → start_mark x ≡ b → ((start_mark x ≡ true) × AfterRead name time file img img') ⊎ ((start_mark x ≡ false) × Unset img img')
      go true e = inl (e, after_read there-here z img' (told-by c p x r fit planned m true e))
      go false e = inr (e, unset c refl p x r fit planned m e)

-- ---- a list

abbrev list_of : ℕ → Entry → Answer
list_of len e = listed (record { verdict = done; fields = fields_of e; length = len }) e.name

module _ {L₀ : Ledger} {img : List ℕ} {fs : List Feed} {rs : List Answer} (i time room space : ℕ) (entry : Entry)
    (r : SoundRun L₀ steady img fs rs) (there : (catalogue_of (view img)).entries i ≡ some entry) (fit : Fits (list i time room space)) where
  abbrev q : Call
  q = list i time room space

  abbrev M : Ledger
  M = ledger_from L₀ fs

  names : number_of (answer q M) ≡ 0 → volume_answer q img ≡ list_of (access_length img) entry
  unfolding step entry_fields fields_of catalogue
  names z =
      (facts q).same M img (represents r) fit ∙ reply-given (step q M) refl z
      ∙ ap₂ list_of (length-said M img (says r)) (entry-said (M.slots i) entry (sym ((says r).directory i) ∙ there))

  after_list : lacks_reserve (catalogue_of (view img)) ≡ false → number_of (answer q M) ≡ 0 → (img' : List ℕ) → Says (step q M).done img' → AfterList time img img'
  unfolding step
  after_list e z img' s =
      let X : Ledger = record { geometry = M.geometry; root = accessed_root time M.root; slots = M.slots } in
      let t : Says X img' = subst (λ (b : Bool). Says (cond b M X) img') (frozen-said M img (says r) ∙ e) s in
      record {
        files = λ n. said (step q M).done img' s n ∙ (facts q).done-other M n tt z ∙ sym (said M img (says r) n);
        root = root_said X img' t ∙ ap (accessed_root time) (sym (root_said M img (says r)));
      }

  -- WHAT A LIST GIVES that answers 0, also one that is cut then: the entry before the call
  pub list-gives : number_of (volume_answer (list i time room space) img) ≡ 0
      → volume_answer (list i time room space) img ≡ listed (record { verdict = done; fields = fields_of entry; length = access_length img }) entry.name
  list-gives z = names (zero-here r q fit z)

  -- AND LEAVES, carried out whole where at least K extents are free
  pub list_done : lacks_reserve (catalogue_of (view img)) ≡ false → number_of (volume_answer (list i time room space) img) ≡ 0
      → AfterList time img (stored (closed (groups_for (view img) (volume_plan (list i time room space) img))) img)
  list_done e z =
      let out = stored (closed (groups_for (view img) (volume_plan q img))) img in
      after_list e (zero-here r q fit z) out (subst (λ (X : Ledger). Says X out) (done-here r q fit z) (says (calls r q fit)))

  -- AND WHERE FEWER ARE: no list
  pub list-frozen : lacks_reserve (catalogue_of (view img)) ≡ true → volume_plan (list i time room space) img ≡ none
  list-frozen e = frozen-still img ((frozen-on img).0 e) (list i time room space)

  -- A LIST THAT WAS CUT anywhere, after the recovery that was completed: the name was copied, and the root's time is set exactly if its start mark landed
  pub list-cut : {img' : List ℕ} (p : Plan) (x : Cut) → volume_plan (list i time room space) img ≡ some p
      → RecoveredTo (stored (landed x (groups_for (view img) (some p))) img) img'
      → (volume_answer (list i time room space) img ≡ listed (record { verdict = done; fields = fields_of entry; length = 9 * record_size }) entry.name)
      × (((start_mark x ≡ true) × AfterList time img img') ⊎ ((start_mark x ≡ false) × Unset img img'))
  list-cut {img'} p x planned m = (names z ∙ ap (λ (b : Bool). list_of (cond b 0 (9 * record_size)) entry) there-here, go (start_mark x) refl)
    where
      there-here : lacks_reserve (catalogue_of (view img)) ≡ false
      there-here = planned-there img p _ planned list-frozen

      z : number_of (answer q M) ≡ 0
      z = planned-done r q fit p planned

      go : (b : Bool) → start_mark x ≡ b → ((start_mark x ≡ true) × AfterList time img img') ⊎ ((start_mark x ≡ false) × Unset img img')
      go true e = inl (e, after_list there-here z img' (told-by q p x r fit planned m true e))
      go false e = inr (e, unset q refl p x r fit planned m e)

-- ---- however many of them

-- what the ledger says of a file and of the root but for access times
abbrev Alike : Ledger → Ledger → Type 0
Alike X Y = ((n : List ℕ) → but_access (file_in X n) ≡ but_access (file_in Y n)) × (accessed_root 0 X.root ≡ accessed_root 0 Y.root)

alike_is : (X Y : Ledger) → X ≡ Y → Alike X Y
alike_is X Y e = ((λ n. ap (λ (Z : Ledger). but_access (file_in Z n)) e), ap (λ (Z : Ledger). accessed_root 0 Z.root) e)

alike-either : (b : Bool) (L X : Ledger) → Alike X L → Alike (cond b L X) L
alike-either true L X h = alike_is L L refl
alike-either false L X h = h

read-file : (L : Ledger) (m : List ℕ) → Found L m → (time : ℕ) (n : List ℕ)
    → ((m ≢ n) → file_in (with_file L (slot_of L m) (accessed_file time (file_of L m))) n ≡ file_in L n)
    → but_access (file_in (with_file L (slot_of L m) (accessed_file time (file_of L m))) n) ≡ but_access (file_in L n)
unfolding accessed_entry
read-file L m h time n other = go (equal_bytes m n) refl
  where
    X : Ledger
    X = with_file L (slot_of L m) (accessed_file time (file_of L m))

    here : but_access (file_in X m) ≡ but_access (file_in L m)
    here = ap but_access (accessed-said L m h time) ∙ sym (ap but_access (found-said L m h))

    go : (b : Bool) → equal_bytes m n ≡ b → but_access (file_in X n) ≡ but_access (file_in L n)
    go true e = subst (λ (k : List ℕ). but_access (file_in X k) ≡ but_access (file_in L k)) (same_true m n e) here
    go false e = ap but_access (other (same-differ m n e))

done-alike : (c : Call) → asks c ≡ true → (L : Ledger) → number_of (answer c L) ≡ 0 → Alike (step c L).done L
unfolding step accessed_root accessed_entry
done-alike summary h L z = alike_is L L refl
done-alike check h L z = alike_is L L refl
done-alike (find name) h L z = alike_is L L refl
done-alike (list i time room space) h L z = alike-either (is_frozen L) L _ ((λ n. ap but_access (rooted-other L (accessed_root time L.root) n)), refl)
done-alike (read name offset count time room space) h L z =
    let f = read_found L name offset count time room space z in
    alike-either (is_frozen L) L _ ((λ n. read-file L name f time n (λ ne. renewed-other L name n ne f (accessed_file time (file_of L name)) refl)), refl)
done-alike (create name id mode time room) h L z = absurd (false≢true h)
done-alike (delete name time room) h L z = absurd (false≢true h)
done-alike (resize name size time room) h L z = absurd (false≢true h)
done-alike (write name offset bytes time room) h L z = absurd (false≢true h)
done-alike (rename old new time room) h L z = absurd (false≢true h)
done-alike (rename_set names lengths time room) h L z = absurd (false≢true h)

fed-alike : (f : Feed) (L : Ledger) → Accepted f L → asks (call_of f) ≡ true → Alike (fed f L) L
fed-alike (whole c) L a h = go (eqb (number_of (answer c L)) 0) refl
  where
    go : (b : Bool) → eqb (number_of (answer c L)) 0 ≡ b → Alike (cond b (step c L).done L) L
    go true e = done-alike c h L (eqb-true (number_of (answer c L)) 0 e)
    go false e = alike_is L L refl
fed-alike (cut_marked c) L a h = done-alike c h L a
fed-alike (cut_unmarked c mask) L a h = alike_is _ L (cut-kept c h L mask)

along : (L₀ : Ledger) (fs gs : List Feed) → AllAccepted L₀ (gs ++ fs) → OnlyAsk gs → Alike (ledger_from L₀ (gs ++ fs)) (ledger_from L₀ fs)
unfolding ledger_from
along L₀ fs [] ok h = alike_is _ _ refl
along L₀ fs (g ∷ gs) ok h =
    let a = fed-alike g (ledger_from L₀ (gs ++ fs)) ok.0 h.0 in
    let b = along L₀ fs gs ok.1 h.1 in
    ((λ n. a.0 n ∙ b.0 n), a.1 ∙ b.1)

-- ONLY ACCESS TIMES: a run went on with calls that ask, reads and lists among them, whole or cut, and recoveries. Then every file has its bytes, and
-- but for access times every file and the root are as they were
pub only-access-times : {L₀ : Ledger} {img img' : List ℕ} {fs : List Feed} {rs rs' : List Answer} (gs : List Feed)
    → SoundRun L₀ steady img fs rs → SoundRun L₀ steady img' (gs ++ fs) rs' → OnlyAsk gs
    → ((n : List ℕ) → but_access (file_on img' n) ≡ but_access (file_on img n)) × (accessed_root 0 (root_on img') ≡ accessed_root 0 (root_on img))
only-access-times {L₀} {img} {img'} {fs} gs r r' h =
    let a = along L₀ fs gs (accepted r') h in
    let X = ledger_from L₀ (gs ++ fs) in
    let Y = ledger_from L₀ fs in (
      (λ n. ap but_access (said X img' (says r') n) ∙ a.0 n ∙ sym (ap but_access (said Y img (says r) n))),
      ap (accessed_root 0) (root_said X img' (says r')) ∙ a.1 ∙ sym (ap (accessed_root 0) (root_said Y img (says r))),
    )
