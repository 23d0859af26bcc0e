-- What resize has to show: the ledger's answer, and its effect. A shrinking one has a plan of its own, a growing one is a write of zeros at the
-- end. Assumes nothing.
use Prim.Native.Nat.{ℕ, ◌+◌, ◌*◌, ◌-◌, ◌/◌, ◌^◌, ◌≤◌, ◌<◌}
use mathlib.Core.Path.{◌≡◌, refl, sym, ap, ◌∙◌, subst, fun_ext}
use mathlib.Core.Bool.{Bool, true, false, cond, ◌&&◌}
use mathlib.Core.List.{List, [], ◌++◌}
use mathlib.Core.Option.{Option, none, some}
use native.Mathlib.Omega.{arith}
use lib.Dec.{eqb, leb, ltb}
use lib.ListN.{length, get_or}
use lib.Seq.{ext_get_or}
use borrow.Author.Tests.{lt-leb, lt-ltb, le-ltb, ltb-true, ltb-false, eqb-true, not-false}
use Rattle.model.specs.Search.{tabulate, is_at, index_of}
use Rattle.model.specs.Geometry.{extents_for}
use Rattle.model.specs.Disk.{view}
use Rattle.model.specs.Entry.{bad_name}
use Rattle.model.specs.Table.{sectors_holding}
use Rattle.model.specs.Catalogue.{Catalogue, lacks_reserve, has_name, file_named, entry_of, owns_from}
use Rattle.model.specs.Refusals.{Conditions, verdict_of}
use Rattle.model.specs.WriteList.{Plan, groups_for, list_length, record_size, record_count, stored, is_planned}
use Rattle.model.specs.Read.{longest_transfer, size_named}
use Rattle.model.specs.Write.{no_room, size_after, write_planned, grows}
use Rattle.model.specs.Resize.{zeros, shrink_plan, resize_planned, resize_conditions, resize_decision}
use Rattle.model.specs.Ledger.{Ledger, File, file_or, entry_of_file, catalogue, resize, with_file, partly_written, shrunk, file_of, freed_records, written_records, written, after_write, step, answer}
use Rattle.model.specs.Run.{volume_answer, on_volume}
use Rattle.laws.proofs.Bytes.{length-bytes_from}
use Rattle.laws.proofs.Search.{length-tabulate, get_or-tab0}
use Rattle.safety.proofs.OwnWords.{named-is, few-is, file-is, entry_named, time-is, name-is, zeros-are}
use Rattle.safety.proofs.Searches.{place_found, or-right-no}
use Rattle.safety.proofs.Plan.{A}
use Rattle.safety.proofs.Commit.{part_of, uncut}
use Rattle.safety.proofs.Rep.{Rep, Timely, timely, bytes-length}
use Rattle.safety.proofs.Changing.{Passed, last-is, Carries, Carried, effect-changing, Decides, same-changing}
use Rattle.safety.proofs.Read.{file-there, size_is}
use Rattle.safety.proofs.Write.{partly_written_file, writing, write-length, write-planned, Writes, writes-carried}
use Rattle.safety.proofs.Shrink.{shrink-length, shrink-fits, shrink-done, shrink-partly}
use Rattle.safety.proofs.Induction.{Effect}

-- ---- a write at the end that was cut before its start mark changes no byte of the file

partly-at-end : (f : File) (offset : ℕ) (bytes : List ℕ) (mask : List Bool) → length f.bytes ≡ offset → partly_written f offset bytes mask ≡ f.bytes
unfolding partly_written
partly-at-end f offset bytes mask e =
    ext_get_or 0 (tabulate (λ k. byte k) 0 (length f.bytes)) f.bytes (length-tabulate (λ k. byte k) 0 (length f.bytes))
    (λ k l. let q : k < length f.bytes = rw (length-tabulate (λ k. byte k) 0 (length f.bytes)) at l in
    get_or-tab0 (λ k. byte k) (length f.bytes) k 0 q
    ∙ ap (λ (b : Bool). cond (b && ltb k (offset + length bytes) && get_or mask (k / 512 - offset / 512) false) (get_or bytes (k - offset) 0) (get_or f.bytes k 0)) (lt-leb offset k (omega arith)))
  where
    byte : ℕ → ℕ
    byte k = cond (leb offset k && ltb k (offset + length bytes) && get_or mask (k / 512 - offset / 512) false) (get_or bytes (k - offset) 0) (get_or f.bytes k 0)

same-slot : (L : Ledger) (i : ℕ) (f : File) → L.slots i ≡ some f → with_file L i f ≡ L
same-slot L i f e = λ k. record { geometry = L.geometry; root = L.root; slots = fun_ext (λ j. go j (eqb j i) refl) k }
  where
    go : (j : ℕ) (b : Bool) → eqb j i ≡ b → cond b (some f) (L.slots j) ≡ L.slots j
    go j true q = sym e ∙ ap L.slots (sym (eqb-true j i q))
    go j false q = refl

module _ (L : Ledger) (img : List ℕ) (rep : Rep L img) (name : List ℕ) (z time room : ℕ) where
  abbrev c : Catalogue
  c = catalogue L

  abbrev i : ℕ
  i = index_of (file_named (catalogue L) name)

  abbrev old : File
  old = file_or (L.slots (index_of (file_named (catalogue L) name)))

  -- the bytes that a growing resize writes at the end
  abbrev end : List ℕ
  end = zeros (z - old.entry.size)

  abbrev conditions : Catalogue → Conditions
  conditions x = resize_conditions x name z time

  abbrev plan : Catalogue → Option Plan
  plan x = resize_planned x (view img) (index_of (file_named x name)) z time

  abbrev records : ℕ
  records =
      cond (ltb z (file_of L name).entry.size) (freed_records L name (extents_for L.geometry z) 1)
      (written_records L (file_of L name).entry.size (file_of L name).entry.size (z - (file_of L name).entry.size))

  size : list_length (groups_for (view img) (resize_planned (catalogue L) (view img) i z time)) ≡ records * record_size
  unfolding resize_planned freed_records catalogue
  size = rw (entry_named L name, named-is L name) (go (ltb z s))
    where
      s : ℕ
      s = (entry_of (catalogue L) i).size

      go : (b : Bool) → list_length (groups_for (view img) (cond b (some (shrink_plan (catalogue L) (view img) i z time)) (write_planned (catalogue L) i (view img) s (zeros (z - s)) time)))
          ≡ cond b (record_count 0 (1 + sectors_holding (owns_from (catalogue L) i (extents_for L.geometry z)) L.geometry)) (written_records L s s (z - s)) * record_size
      go true = shrink-length L img i z time
      go false = write-length L img i s (zeros (z - s)) time ∙ ap (λ m. written_records L s s m * record_size) (length-bytes_from [] 0 (z - s))

  planned : is_planned (resize_planned (catalogue L) (view img) i z time) ≡ ltb 0 records
  unfolding resize_planned freed_records
  planned = rw (entry_named L name) (go (ltb z s))
    where
      s : ℕ
      s = (entry_of (catalogue L) i).size

      go : (b : Bool) → is_planned (cond b (some (shrink_plan (catalogue L) (view img) i z time)) (write_planned (catalogue L) i (view img) s (zeros (z - s)) time))
          ≡ ltb 0 (cond b (freed_records L name (extents_for L.geometry z) 1) (written_records L s s (z - s)))
      go true = sym (lt-ltb 0 (freed_records L name (extents_for L.geometry z) 1) (omega arith))
      go false = write-planned L img i s (zeros (z - s)) time s ∙ ap (λ m. ltb 0 (written_records L s s m)) (length-bytes_from [] 0 (z - s))

  decides : Decides L img (resize name z time room) conditions plan room records
  unfolding on_volume resize_decision step resize_conditions size_named no_room grows catalogue
  decides = record {
    volume = refl;
    reply = refl;
    judges = record {
      conditions = ap (λ (cs : Conditions). verdict_of (conditions (catalogue L) ++ cs)) (last-is L (plan (catalogue L)) room records planned)
          ∙ rw (time-is L time, name-is L name, named-is L name, entry_named L name, few-is L);
      refusing = refl;
      size = size;
    };
  }

  pub resize-same : volume_answer (resize name z time room) img ≡ answer (resize name z time room) L
  resize-same = same-changing L img rep _ _ _ room records decides

  done-is : (step (resize name z time room) L).done ≡ cond (ltb z old.entry.size) (with_file L i (shrunk L i z time)) (after_write L i old.entry.size end time)
  unfolding step
  done-is = rw (file-is L name, named-is L name, zeros-are)

  size_of : (entry_of (catalogue L) i).size ≡ old.entry.size
  unfolding entry_of catalogue
  size_of = size_is (L.slots i)

  module _ (ht : time < 2 ^ 64) (passed : Passed (resize_conditions (catalogue L) name z time)) where
    -- ---- what the conditions say

    fitting : Timely L time
    unfolding resize_conditions
    fitting = timely L time passed.0 ht

    named : is_at (file_named (catalogue L) name) ≡ true
    unfolding resize_conditions
    named = not-false (is_at (file_named c name)) passed.1.1.0

    found : (i < L.geometry.files) × (has_name name (entry_of_file (L.slots i)) ≡ true)
    unfolding file_named catalogue
    found = place_found (λ k. has_name name (entry_of_file (L.slots k))) L.geometry.files named

    there : L.slots i ≡ some old
    there = file-there (L.slots i) name found.1

    roomy : no_room (catalogue L) i z ≡ false
    unfolding resize_conditions
    roomy = passed.1.1.1.0

    grown-most : z ≤ old.entry.size + longest_transfer
    unfolding resize_conditions size_named
    grown-most =
        let e = size_of in
        let q : ltb ((entry_of (catalogue L) i).size + longest_transfer) z ≡ false =
        sym (ap (λ (b : Bool). b && ltb ((entry_of (catalogue L) i).size + longest_transfer) z) named) ∙ or-right-no (bad_name (catalogue L).geometry.edition name) _ passed.1.0 in
        let l : z ≤ (entry_of (catalogue L) i).size + longest_transfer = ltb-false _ z q in
        omega arith

    -- ---- shrinking

    shrinks : lacks_reserve (catalogue L) ≡ false → z < old.entry.size → Carries L img (resize name z time room) (shrink_plan (catalogue L) (view img) i z time)
    unfolding step shrink_plan
    shrinks reserve less = record {
      fits = shrink-fits L img i z time rep reserve there found.0 less fitting;
      done = subst (λ (X : Ledger). Rep X (uncut L.geometry img (shrink_plan (catalogue L) (view img) i z time)))
          (sym (done-is ∙ ap (λ (b : Bool). cond b (with_file L i (shrunk L i z time)) (after_write L i old.entry.size end time)) (lt-ltb z old.entry.size less)))
          (shrink-done L img i z time rep reserve there found.0 less fitting);
      partly = λ k m. shrink-partly L img i z time rep reserve there found.0 less fitting k m;
    }

    -- ---- growing

    module _ (more : old.entry.size ≤ z) where
      -- the write of zeros at the end
      abbrev q : Plan
      q = writing L img i old.entry.size end time

      abbrev new : Ledger
      new = with_file L i (written L i old.entry.size end time)

      end-length : length end ≡ z - old.entry.size
      end-length = length-bytes_from [] 0 (z - old.entry.size)

      size-after : size_after (catalogue L) i old.entry.size (length end) ≡ z
      size-after =
          let e = size_of in
          let l = end-length in
          omega arith

      after_is : (b : Bool) → eqb (length end) 0 ≡ b → (step (resize name z time room) L).done ≡ cond b L new
      unfolding after_write
      after_is b e =
          done-is
          ∙ ap (λ (t : Bool). cond t (with_file L i (shrunk L i z time)) (after_write L i old.entry.size end time)) (le-ltb z old.entry.size more)
          ∙ ap (λ (t : Bool). cond t L new) e

      -- none of the landed data sectors holds a byte of the file
      kept-file : (mask : List Bool) → with_file L i (partly_written_file old old.entry.size end mask) ≡ L
      kept-file mask =
          same-slot L i (partly_written_file old old.entry.size end mask)
          (there ∙ ap (λ (b : List ℕ). some (record { entry = old.entry; bytes = b; extents = old.extents }))
          (sym (partly-at-end old old.entry.size end mask (bytes-length L img rep i old there))))

      grow : Writes L img i old.entry.size end time → eqb (length end) 0 ≡ false → Carries L img (resize name z time room) q
      unfolding step
      grow w e = record {
        fits = w.fits;
        done = subst (λ (X : Ledger). Rep X (uncut L.geometry img q)) (sym (after_is false e)) w.done;
        partly = λ k m. subst (λ (X : Ledger). Rep X (stored (part_of k m (A L.geometry (view img) q)) img)) (kept-file _) (w.partly k m);
      }

      grows-or-stays : (is_planned (write_planned (catalogue L) i (view img) old.entry.size end time) && lacks_reserve (catalogue L)) ≡ false
          → Carried L img (resize name z time room) (write_planned (catalogue L) i (view img) old.entry.size end time)
      unfolding write_planned
      grows-or-stays = go (eqb (length end) 0) refl
        where
          go : (b : Bool) → eqb (length end) 0 ≡ b → (is_planned (cond b none (some q)) && lacks_reserve (catalogue L)) ≡ false → Carried L img (resize name z time room) (cond b none (some q))
          go true e r = subst (λ (X : Ledger). Rep X img) (sym (after_is true e)) rep
          go false e r =
              let l = end-length in
              let m = grown-most in
              grow (writes-carried L img i old.entry.size end time rep r there (omega arith) (omega arith) (ap (no_room (catalogue L) i) size-after ∙ roomy) fitting) e

    abbrev Does : Option Plan → Type 0
    Does p = (is_planned p && lacks_reserve (catalogue L)) ≡ false → Carried L img (resize name z time room) p

    carried : Does (resize_planned (catalogue L) (view img) i z time)
    unfolding resize_planned
    carried =
        subst (λ (s : ℕ). Does (cond (ltb z s) (some (shrink_plan (catalogue L) (view img) i z time)) (write_planned (catalogue L) i (view img) s (zeros (z - s)) time)))
        (sym size_of) (go (ltb z old.entry.size) refl)
      where
        go : (b : Bool) → ltb z old.entry.size ≡ b
            → Does (cond b (some (shrink_plan (catalogue L) (view img) i z time)) (write_planned (catalogue L) i (view img) old.entry.size end time))
        go true e r = shrinks r (ltb-true z old.entry.size e)
        go false e r = grows-or-stays (ltb-false z old.entry.size e) r

  -- what resize does
  pub resize-effect : time < 2 ^ 64 → Effect Rep (resize name z time room) L img
  resize-effect ht = effect-changing L img rep _ _ _ room records decides (λ passed never. carried ht passed never)
