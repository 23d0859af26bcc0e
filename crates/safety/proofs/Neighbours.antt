-- T-14: NEIGHBOURS THAT SHARE NO NAME CAN BE EXCHANGED. There is no case for a pair of calls: each call has a clause of `call-local` and of `root_by`.
--   `exchange`                two steps on the files by name, each local to its names, where these have none in common
--   `call-local`              what a call makes of the files is local to the names that it takes; `both` and `wider` compose local steps
--   `blocks`                  two blocks of accepted calls, on every orderly ledger
--   `neighbours`, `sound-neighbours`       THE CLAIM: two calls, on the ledger after a format, or from a sound volume on, and whatever it was fed
--   `blocks-images`, `neighbours-images`   so on the images of two runs from any sound volume on
--   `saves-exchanged`, `one-file-each`     so two saves of different files leave the same files, whichever came first
-- Assumes nothing.
use Prim.Native.Nat.{ℕ, zero, suc, ◌+◌, ◌-◌}
use mathlib.Core.Path.{◌≡◌, refl, sym, ap, ◌∙◌, subst, fun_ext}
use mathlib.Core.Logic.{◌≢◌}
use mathlib.Core.Bool.{Bool, true, false, cond, ◌||◌, true≢false, false≢true}
use mathlib.Core.List.{List, [], ◌∷◌, ◌++◌, append-nil}
use mathlib.Core.Option.{Option, none, some, map}
use native.Mathlib.Omega.{arith}
use lib.Dec.{eqb, ltb}
use lib.ListN.{length}
use borrow.Author.Tests.{eq-eqb}
use Rattle.model.specs.Search.{equal_bytes}
use Rattle.model.specs.Root.{Root}
use Rattle.model.specs.Ledger.{Ledger, first_ledger, Call, summary, check, find, list, read, create, delete, resize, write, rename, rename_set, Answer}
use Rattle.model.specs.Ledger.{number_of, names_of, pairs_of, after_renames, updated_root, accessed_root, accessed_file, slot_named, is_frozen, file_of}
use Rattle.model.specs.Ledger.{with_file, with_slot, slots_without, renamed_file, after_rename, written, after_write, shrunk, zero_bytes, step, answer, Feed, whole, fed, ledger_from, answers_from}
use Rattle.model.specs.Run.{arguments, steady}
use Rattle.laws.proofs.Booleans.{or_left, or_right, or-none}
use Rattle.laws.proofs.RenameSet.{Pairs}
use Rattle.safety.specs.Described.{SoundRun, SoundDemand3}
use Rattle.safety.specs.Naming.{NotAmong, NoneNames, Contents, file_in}
use Rattle.safety.specs.Saving.{SameFiles, OnlyOf}
use Rattle.safety.specs.Accessing.{root_on, accessed_contents}
use Rattle.safety.specs.Neighbours.{wholes, names_in, ShareNone, AllZero, EitherOrder, root_but_times, SameByName, NeighboursFrom, Neighbours, SoundNeighbours, Save, calls_of, Different, Orderly}
use Rattle.safety.specs.Neighbours.{with_named, new_contents, resized_contents, written_contents, files_after}
use Rattle.safety.specs.RenameSet.{Files, renamed_or, renamed_files, files_after_renames}
use Rattle.safety.proofs.Searches.{or_no, is-no, same_refl, same_true, same-apart}
use Rattle.safety.proofs.Naming.{slot_of}
use Rattle.safety.proofs.Theorem.{sound-demand3, represents}
use Rattle.safety.proofs.FileSaid.{said}
use Rattle.safety.proofs.Corollaries.{says}
use Rattle.safety.proofs.Saving.{none_named}
use Rattle.safety.proofs.Accessed.{root_said}
use Rattle.safety.proofs.FrozenKept.{frozen-kept}
use Rattle.safety.proofs.FilesAfter.{files-after, orderly-represented, orderly-after, orderly-first, orderly-sound, orderly-fed}

-- ---- lists of names

-- n is one of these
abbrev is_among : List ℕ → List (List ℕ) → Bool
is_among n [] = false
is_among n (m ∷ ms) = equal_bytes m n || is_among n ms

-- none of these is one of those
abbrev Apart : List (List ℕ) → List (List ℕ) → Type 0
Apart ns ms = (n : List ℕ) → is_among n ns ≡ true → is_among n ms ≡ false

not-among : (n : List ℕ) (ms : List (List ℕ)) → NotAmong n ms → is_among n ms ≡ false
not-among n [] h = refl
not-among n (m ∷ ms) h = or_no (equal_bytes m n) (is_among n ms) (same-apart m n h.0) (not-among n ms h.1)

apart : (ns ms : List (List ℕ)) → ShareNone ns ms → Apart ns ms
apart [] ms h n e = absurd (false≢true e)
apart (m ∷ ns) ms h n e = go (equal_bytes m n) refl e (apart ns ms h.1 n)
  where
    go : (b : Bool) → equal_bytes m n ≡ b → (b || is_among n ns) ≡ true → (is_among n ns ≡ true → is_among n ms ≡ false) → is_among n ms ≡ false
    go true q z rest = subst (λ (x : List ℕ). is_among x ms ≡ false) (same_true m n q) (not-among m ms h.0)
    go false q z rest = rest z

among-front : (n : List ℕ) (ns ms : List (List ℕ)) → is_among n ns ≡ true → is_among n (ns ++ ms) ≡ true
among-front n [] ms e = absurd (false≢true e)
among-front n (m ∷ ns) ms e = go (equal_bytes m n) e (among-front n ns ms)
  where
    go : (b : Bool) → (b || is_among n ns) ≡ true → (is_among n ns ≡ true → is_among n (ns ++ ms) ≡ true) → (b || is_among n (ns ++ ms)) ≡ true
    go true z rest = refl
    go false z rest = rest z

among-back : (n : List ℕ) (ns ms : List (List ℕ)) → is_among n ms ≡ true → is_among n (ns ++ ms) ≡ true
among-back n [] ms e = e
among-back n (m ∷ ns) ms e = or_right (equal_bytes m n) (is_among n (ns ++ ms)) (among-back n ns ms e)

-- ---- steps that are local to names: no other file changes, and what these become depends on these alone

pub record Local (step : Files → Files) (ns : List (List ℕ)) : Type 0 where
  pub keeps : (files : Files) (n : List ℕ) → is_among n ns ≡ false → step files n ≡ files n
  pub decides : (xs ys : Files) → ((n : List ℕ) → is_among n ns ≡ true → xs n ≡ ys n) → (n : List ℕ) → is_among n ns ≡ true → step xs n ≡ step ys n

module _ (s t : Files → Files) where
  -- EXCHANGE
  pub exchange : (ns ms : List (List ℕ)) → Local s ns → Local t ms → Apart ns ms → (files : Files) (n : List ℕ) → t (s files) n ≡ s (t files) n
  exchange ns ms p q away files n = go (is_among n ns) (is_among n ms) refl refl
    where
      back : (m : List ℕ) → is_among m ms ≡ true → is_among m ns ≡ false
      back m e = is-no (is_among m ns) (λ z. true≢false (sym e ∙ away m z))

      go : (a b : Bool) → is_among n ns ≡ a → is_among n ms ≡ b → t (s files) n ≡ s (t files) n
      go true b e f = q.keeps (s files) n (away n e) ∙ p.decides files (t files) (λ m z. sym (q.keeps files m (away m z))) n e
      go false true e f = q.decides (s files) files (λ m z. p.keeps files m (back m z)) n f ∙ sym (p.keeps (t files) n e)
      go false false e f = q.keeps (s files) n f ∙ p.keeps files n e ∙ sym (p.keeps (t files) n e ∙ q.keeps files n f)

  -- one after the other
  pub both : (ns : List (List ℕ)) → Local s ns → Local t ns → Local (λ files. t (s files)) ns
  both ns p q = record {
    keeps = λ files n e. q.keeps (s files) n e ∙ p.keeps files n e;
    decides = λ xs ys h n e. q.decides (s xs) (s ys) (p.decides xs ys h) n e;
  }

-- with more names
pub wider : (s : Files → Files) (ns ms : List (List ℕ)) → Local s ns → ((n : List ℕ) → is_among n ns ≡ true → is_among n ms ≡ true) → Local s ms
wider s ns ms p h = record { keeps = λ files n e. p.keeps files n (out n e); decides = λ xs ys k n e. go xs ys k n e (is_among n ns) refl }
  where
    out : (n : List ℕ) → is_among n ms ≡ false → is_among n ns ≡ false
    out n e = is-no (is_among n ns) (λ z. true≢false (sym (h n z) ∙ e))

    go : (xs ys : Files) → ((n : List ℕ) → is_among n ms ≡ true → xs n ≡ ys n) → (n : List ℕ) → is_among n ms ≡ true → (b : Bool) → is_among n ns ≡ b → s xs n ≡ s ys n
    go xs ys k n e true z = p.decides xs ys (λ m y. k m (h m y)) n z
    go xs ys k n e false z = p.keeps xs n z ∙ k n e ∙ sym (p.keeps ys n z)

-- ---- what a call makes of the files is local to its names

pub nothing-local : (ns : List (List ℕ)) → Local (λ files. files) ns
nothing-local ns = record { keeps = λ files n e. refl; decides = λ xs ys h n e. h n e }

-- a step that is made, or isn't
either-local : (s : Files → Files) (ns : List (List ℕ)) → Local s ns → (b : Bool) → Local (λ files. cond b files (s files)) ns
either-local s ns p true = nothing-local ns
either-local s ns p false = p

-- the file of one name becomes what it was made into
pub named-local : (m : List ℕ) (f : Option Contents → Option Contents) → Local (λ files. with_named files m (f (files m))) (m ∷ [])
named-local m f = record {
  keeps = λ files n e. ap (λ (b : Bool). cond b (f (files m)) (files n)) (or-none (equal_bytes m n) false e).0;
  decides = λ xs ys h n e.
      let a = h m (or_left (equal_bytes m m) false (same_refl m)) in
      let b = h n e in
      λ i. cond (equal_bytes m n) (f (a i)) (b i);
}

-- of a rename
pub rename-local : (old new : List ℕ) (time : ℕ) → Local (renamed_files old new time) (old ∷ new ∷ [])
rename-local old new time = go (equal_bytes old new)
  where
    f : Option Contents → Option Contents
    f = renamed_or new time

    moved : Local (λ files n. cond (equal_bytes new n) (f (files old)) (cond (equal_bytes old n) none (files n))) (old ∷ new ∷ [])
    moved = record {
      keeps = λ files n e.
          let a = or-none (equal_bytes old n) (is_among n (new ∷ [])) e in
          λ i. cond ((or-none (equal_bytes new n) false a.1).0 i) (f (files old)) (cond (a.0 i) none (files n));
      decides = λ xs ys h n e.
          let a = h old (or_left (equal_bytes old old) (is_among old (new ∷ [])) (same_refl old)) in
          let b = h n e in
          λ i. cond (equal_bytes new n) (f (a i)) (cond (equal_bytes old n) none (b i));
    }

    go : (b : Bool) → Local (λ files n. cond b (files n) (cond (equal_bytes new n) (f (files old)) (cond (equal_bytes old n) none (files n)))) (old ∷ new ∷ [])
    go true = nothing-local (old ∷ new ∷ [])
    go false = moved

-- of a set of renames: to all its names
pub renames-local : (time : ℕ) (ms : List (List ℕ)) → Local (files_after_renames (pairs_of ms) time) ms
unfolding pairs_of files_after_renames
renames-local time [] = nothing-local []
renames-local time (m ∷ []) = nothing-local (m ∷ [])
renames-local time (old ∷ new ∷ ms) =
    both (renamed_files old new time) (files_after_renames (pairs_of ms) time) (old ∷ new ∷ ms)
    (wider (renamed_files old new time) (old ∷ new ∷ []) (old ∷ new ∷ ms) (rename-local old new time) (λ n. among-front n (old ∷ new ∷ []) ms))
    (wider (files_after_renames (pairs_of ms) time) ms (old ∷ new ∷ ms) (renames-local time ms) (λ n. among-back n (old ∷ new ∷ []) ms))

pub call-local : (frozen : Bool) (c : Call) → Local (files_after frozen c) (arguments c).files
call-local frozen summary = nothing-local []
call-local frozen check = nothing-local []
call-local frozen (find name) = nothing-local []
call-local frozen (list i time room space) = nothing-local []
call-local frozen (read name offset count time room space) =
    let f = map (accessed_contents time) in
    either-local (λ files. with_named files name (f (files name))) (name ∷ []) (named-local name f) frozen
call-local frozen (create name id mode time room) = named-local name (λ o. some (new_contents name id mode time))
call-local frozen (delete name time room) = named-local name (λ o. none)
call-local frozen (resize name size time room) = named-local name (map (resized_contents size time))
call-local frozen (write name offset bytes time room) =
    let f = map (written_contents offset bytes time) in
    either-local (λ files. with_named files name (f (files name))) (name ∷ []) (named-local name f) (eqb (length bytes) 0)
call-local frozen (rename old new time room) = rename-local old new time
call-local frozen (rename_set names lengths time room) = renames-local time (names_of names lengths)

-- of several calls, the latest first, on a ledger that is frozen or isn't
module _ (frozen : Bool) where
  abbrev files_by : List Call → Files → Files
  files_by [] files = files
  files_by (c ∷ cs) files = files_after frozen c (files_by cs files)

  block-local : (cs : List Call) → Local (files_by cs) (names_in cs)
  block-local [] = nothing-local []
  block-local (c ∷ cs) =
      both (files_by cs) (files_after frozen c) (names_in (c ∷ cs))
      (wider (files_by cs) (names_in cs) (names_in (c ∷ cs)) (block-local cs) (λ n. among-back n (arguments c).files (names_in cs)))
      (wider (files_after frozen c) (arguments c).files (names_in (c ∷ cs)) (call-local frozen c) (λ n. among-front n (arguments c).files (names_in cs)))

  files-joined : (ds cs : List Call) (files : Files) → files_by (ds ++ cs) files ≡ files_by ds (files_by cs files)
  files-joined [] cs files = refl
  files-joined (d ∷ ds) cs files = ap (files_after frozen d) (files-joined ds cs files)

-- ---- the root but for its times: calls raise its version so many times, whatever it is, and change nothing else

-- of renames one after the other: how many of them are applied
raises_of : Pairs → ℕ
raises_of [] = 0
raises_of (r ∷ rs) = raises_of rs + cond (equal_bytes r.0 r.1) 0 1

abbrev raises : Call → ℕ
raises summary = 0
raises check = 0
raises (find name) = 0
raises (list i time room space) = 0
raises (read name offset count time room space) = 0
raises (create name id mode time room) = 1
raises (delete name time room) = 1
raises (resize name size time room) = 0
raises (write name offset bytes time room) = 0
raises (rename old new time room) = cond (equal_bytes old new) 0 1
raises (rename_set names lengths time room) = raises_of (pairs_of (names_of names lengths))

abbrev raises_in : List Call → ℕ
raises_in [] = 0
raises_in (c ∷ cs) = raises c + raises_in cs

abbrev raised_by : ℕ → Root → Root
raised_by zero r = r
raised_by (suc n) r = updated_root 0 (raised_by n r)

raised-sum : (a b : ℕ) (r : Root) → raised_by (a + b) r ≡ raised_by a (raised_by b r)
raised-sum zero b r = let e : 0 + b ≡ b = omega arith in ap (λ (n : ℕ). raised_by n r) e
raised-sum (suc a) b r = let e : suc a + b ≡ suc (a + b) = omega arith in ap (λ (n : ℕ). raised_by n r) e ∙ ap (updated_root 0) (raised-sum a b r)

raises-joined : (ds cs : List Call) → raises_in (ds ++ cs) ≡ raises_in ds + raises_in cs
raises-joined [] cs = omega arith
raises-joined (d ∷ ds) cs = let e = raises-joined ds cs in omega arith

raises-exchanged : (ds cs : List Call) → raises_in (ds ++ cs) ≡ raises_in (cs ++ ds)
raises-exchanged ds cs = let a = raises-joined ds cs in let b = raises-joined cs ds in omega arith

kept-written : (L : Ledger) (i offset : ℕ) (bytes : List ℕ) (time : ℕ) → (after_write L i offset bytes time).root ≡ L.root
unfolding after_write
kept-written L i offset bytes time = go (eqb (length bytes) 0)
  where
    go : (b : Bool) → (cond b L (with_file L i (written L i offset bytes time))).root ≡ L.root
    go true = refl
    go false = refl

root-renamed : (L : Ledger) (old new : List ℕ) (time : ℕ) → root_but_times (after_rename L old new time).root ≡ raised_by (cond (equal_bytes old new) 0 1) (root_but_times L.root)
unfolding after_rename updated_root
root-renamed L old new time = go (equal_bytes old new)
  where
    go : (b : Bool) → root_but_times (cond b L (record {
      geometry = L.geometry;
      root = updated_root time L.root;
      slots = with_slot (slots_without L (slot_named L new)) (slot_of L old) (some (renamed_file new time (file_of L old)));
    })).root ≡ raised_by (cond b 0 1) (root_but_times L.root)
    go true = refl
    go false = refl

root-renames : (time : ℕ) (rs : Pairs) (L : Ledger) → root_but_times (after_renames L rs time).root ≡ raised_by (raises_of rs) (root_but_times L.root)
unfolding after_renames raises_of
root-renames time [] L = refl
root-renames time (r ∷ rs) L =
    root-renames time rs (after_rename L r.0 r.1 time) ∙ ap (raised_by (raises_of rs)) (root-renamed L r.0 r.1 time)
    ∙ sym (raised-sum (raises_of rs) (cond (equal_bytes r.0 r.1) 0 1) (root_but_times L.root))

root_by : (c : Call) (L : Ledger) → root_but_times (step c L).done.root ≡ raised_by (raises c) (root_but_times L.root)
unfolding step updated_root accessed_root
root_by summary L = refl
root_by check L = refl
root_by (find name) L = refl
root_by (list i time room space) L = go (is_frozen L)
  where
    go : (b : Bool) → root_but_times (cond b L (record { geometry = L.geometry; root = accessed_root time L.root; slots = L.slots })).root ≡ root_but_times L.root
    go true = refl
    go false = refl
root_by (read name offset count time room space) L = go (is_frozen L)
  where
    go : (b : Bool) → root_but_times (cond b L (with_file L (slot_of L name) (accessed_file time (file_of L name)))).root ≡ root_but_times L.root
    go true = refl
    go false = refl
root_by (create name id mode time room) L = refl
root_by (delete name time room) L = refl
root_by (resize name size time room) L = ap root_but_times (go (ltb size (file_of L name).entry.size))
  where
    go : (b : Bool) → (cond b (with_file L (slot_of L name) (shrunk L (slot_of L name) size time))
        (after_write L (slot_of L name) (file_of L name).entry.size (zero_bytes (size - (file_of L name).entry.size)) time)).root ≡ L.root
    go true = refl
    go false = kept-written L (slot_of L name) (file_of L name).entry.size (zero_bytes (size - (file_of L name).entry.size)) time
root_by (write name offset bytes time room) L = ap root_but_times (kept-written L (slot_of L name) offset bytes time)
root_by (rename old new time room) L = root-renamed L old new time
root_by (rename_set names lengths time room) L = root-renames time (pairs_of (names_of names lengths)) L

-- ---- blocks of accepted calls

module _ (L₀ : Ledger) (fs : List Feed) (ok : Orderly (ledger_from L₀ fs)) where
  -- the ledger after a block
  abbrev after : List Call → Ledger
  after cs = ledger_from L₀ (wholes cs ++ fs)

  -- frozen or not, it stays so
  abbrev frozen : Bool
  frozen = is_frozen (ledger_from L₀ fs)

  -- what the block made of it
  record Made (cs : List Call) : Type 0 where
    orderly : Orderly (after cs)
    stays : is_frozen (after cs) ≡ frozen
    files : file_in (after cs) ≡ files_by frozen cs (file_in (ledger_from L₀ fs))
    root : root_but_times (after cs).root ≡ raised_by (raises_in cs) (root_but_times (ledger_from L₀ fs).root)

  made : (cs : List Call) → AllZero cs (answers_from L₀ (wholes cs ++ fs)) → Made cs
  unfolding ledger_from answers_from
  made [] z = record { orderly = ok; stays = refl; files = refl; root = refl }
  made (c ∷ cs) z =
      let h = made cs z.1 in
      let M = after cs in
      let e : fed (whole c) M ≡ (step c M).done = ap (λ (b : Bool). cond b (step c M).done M) (eq-eqb (number_of (answer c M)) 0 z.0) in
      record {
        orderly = subst Orderly (sym e) (orderly-after M h.orderly c z.0);
        stays = ap is_frozen e ∙ frozen-kept M c z.0 ∙ h.stays;
        files = ap file_in e ∙ fun_ext (files-after M h.orderly c z.0) ∙ (λ i. files_after (h.stays i) c (h.files i));
        root = ap (λ (X : Ledger). root_but_times X.root) e ∙ root_by c M ∙ ap (raised_by (raises c)) h.root ∙ sym (raised-sum (raises c) (raises_in cs) _);
      }

  module _ (cs ds : List Call) (h : EitherOrder cs ds (answers_from L₀ (wholes (ds ++ cs) ++ fs)) (answers_from L₀ (wholes (cs ++ ds) ++ fs))) where
    blocks-by : Apart (names_in cs) (names_in ds) → SameByName (after (ds ++ cs)) (after (cs ++ ds))
    blocks-by away =
        let a = made (ds ++ cs) h.one in
        let b = made (cs ++ ds) h.other in
        let F = file_in (ledger_from L₀ fs) in
        record {
          files = λ n.
              ap (λ (x : Files). x n) (a.files ∙ files-joined frozen ds cs F)
              ∙ exchange (files_by frozen cs) (files_by frozen ds) (names_in cs) (names_in ds) (block-local frozen cs) (block-local frozen ds) away F n
              ∙ sym (ap (λ (x : Files). x n) (b.files ∙ files-joined frozen cs ds F));
          root = a.root ∙ ap (λ (k : ℕ). raised_by k (root_but_times (ledger_from L₀ fs).root)) (raises-exchanged ds cs) ∙ sym b.root;
        }

    -- TWO BLOCKS THAT SHARE NO NAME
    pub blocks : ShareNone (names_in cs) (names_in ds) → SameByName (ledger_from L₀ (wholes (ds ++ cs) ++ fs)) (ledger_from L₀ (wholes (cs ++ ds) ++ fs))
    blocks share = blocks-by (apart (names_in cs) (names_in ds) share)

-- a call is a block
one-call : (c d : Call) → ShareNone (arguments c).files (arguments d).files → ShareNone (names_in (c ∷ [])) (names_in (d ∷ []))
one-call c d h =
    subst (λ (ns : List (List ℕ)). ShareNone ns (names_in (d ∷ []))) (sym (append-nil (arguments c).files))
    (subst (ShareNone (arguments c).files) (sym (append-nil (arguments d).files)) h)

neighbours-from : (L₀ : Ledger) → Orderly L₀ → NeighboursFrom L₀
neighbours-from L₀ ok fs done c d share h = blocks L₀ fs (orderly-fed L₀ ok fs done) (c ∷ []) (d ∷ []) h (one-call c d share)

-- THE CLAIM
pub neighbours : Neighbours
unfolding Neighbours
neighbours a = neighbours-from (first_ledger a) (orderly-first a)

pub sound-neighbours : SoundNeighbours
unfolding SoundNeighbours
sound-neighbours L img s = neighbours-from L (orderly-sound L img s)

-- ---- ON IMAGES: a run went on with the two blocks, uncut, in one order, and another from the same image in the other; recoveries may stand between

module _ {L₀ : Ledger} {img u v : List ℕ} {fs : List Feed} {rs us vs : List Answer} (r : SoundRun L₀ steady img fs rs) where
  pub blocks-images : (cs ds : List Call) → ShareNone (names_in cs) (names_in ds)
      → SoundRun L₀ steady u (wholes (ds ++ cs) ++ fs) us → SoundRun L₀ steady v (wholes (cs ++ ds) ++ fs) vs → EitherOrder cs ds us vs
      → SameFiles v u × (root_but_times (root_on u) ≡ root_but_times (root_on v))
  unfolding SoundDemand3
  blocks-images cs ds share x y h =
      let X = ledger_from L₀ (wholes (ds ++ cs) ++ fs) in
      let Y = ledger_from L₀ (wholes (cs ++ ds) ++ fs) in
      let answered : EitherOrder cs ds (answers_from L₀ (wholes (ds ++ cs) ++ fs)) (answers_from L₀ (wholes (cs ++ ds) ++ fs)) = record {
        one = subst (AllZero (ds ++ cs)) (sound-demand3 L₀ steady u _ us x).0 h.one;
        other = subst (AllZero (cs ++ ds)) (sound-demand3 L₀ steady v _ vs y).0 h.other;
      } in
      let same = blocks L₀ fs (orderly-represented (ledger_from L₀ fs) img (represents r)) cs ds answered share in (
        (λ n. said X u (says x) n ∙ same.files n ∙ sym (said Y v (says y) n)),
        ap root_but_times (root_said X u (says x)) ∙ same.root ∙ sym (ap root_but_times (root_said Y v (says y))),
      )

  pub neighbours-images : (c d : Call) → ShareNone (arguments c).files (arguments d).files
      → SoundRun L₀ steady u (whole d ∷ whole c ∷ fs) us → SoundRun L₀ steady v (whole c ∷ whole d ∷ fs) vs → EitherOrder (c ∷ []) (d ∷ []) us vs
      → SameFiles v u × (root_but_times (root_on u) ≡ root_but_times (root_on v))
  neighbours-images c d share x y h = blocks-images (c ∷ []) (d ∷ []) (one-call c d share) x y h

-- ---- IN A USER'S WORDS

-- calls that change the file of one name alone, and names among which it isn't
only-share : (name : List ℕ) (cs : List Call) (ms : List (List ℕ)) → OnlyOf name (wholes cs) → NotAmong name ms → ShareNone (names_in cs) ms
only-share name [] ms h away = tt
only-share name (c ∷ cs) ms h away = subst (λ (ns : List (List ℕ)). ShareNone (ns ++ names_in cs) ms) (sym h.0) (away, only-share name cs ms h.1 away)

spared : (name : List ℕ) (cs : List Call) → NoneNames name (wholes cs) → NotAmong name (names_in cs)
spared name [] h = tt
spared name (c ∷ cs) h = join (arguments c).files h.0 (spared name cs h.1)
  where
    join : (ns : List (List ℕ)) → NotAmong name ns → NotAmong name (names_in cs) → NotAmong name (ns ++ names_in cs)
    join [] p q = q
    join (n ∷ ns) p q = (p.0, join ns p.1 q)

saves-share : (s t : Save) → Different s t → ShareNone (names_in (calls_of s)) (names_in (calls_of t))
saves-share s t h =
    let a : NotAmong s.temporary (names_in (calls_of t)) = among s.temporary h.0 h.1 in
    let b : NotAmong s.name (names_in (calls_of t)) = among s.name h.2 h.3 in
    (a, (b, only-share s.temporary s.making (names_in (calls_of t)) s.only a))
  where
    among : (n : List ℕ) → n ≢ t.temporary → n ≢ t.name → NotAmong n (names_in (calls_of t))
    among n p q =
        ((λ e. p (sym e)), ((λ e. q (sym e)), spared n t.making (none_named t.temporary n (wholes t.making) (λ e. p (sym e)) t.only)))

module _ {L₀ : Ledger} {img u v : List ℕ} {fs : List Feed} {rs us vs : List Answer} (r : SoundRun L₀ steady img fs rs) where
  -- TWO SAVES OF DIFFERENT FILES leave the same files, whichever came first
  pub saves-exchanged : (s t : Save) → Different s t → SoundRun L₀ steady u (wholes (calls_of t ++ calls_of s) ++ fs) us → SoundRun L₀ steady v (wholes (calls_of s ++ calls_of t) ++ fs) vs
      → EitherOrder (calls_of s) (calls_of t) us vs → SameFiles v u
  saves-exchanged s t h x y z = (blocks-images r (calls_of s) (calls_of t) (saves-share s t h) x y z).0

  -- and so do calls that change one file alone, as writes in place, and calls that change another
  pub one-file-each : (m n : List ℕ) → m ≢ n → (cs ds : List Call) → OnlyOf m (wholes cs) → OnlyOf n (wholes ds)
      → SoundRun L₀ steady u (wholes (ds ++ cs) ++ fs) us → SoundRun L₀ steady v (wholes (cs ++ ds) ++ fs) vs → EitherOrder cs ds us vs → SameFiles v u
  one-file-each m n ne cs ds p q x y z =
      (blocks-images r cs ds (only-share m cs (names_in ds) p (spared m ds (none_named n m (wholes ds) (λ e. ne (sym e)) q))) x y z).0
