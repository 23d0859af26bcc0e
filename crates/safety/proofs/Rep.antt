-- THE INVARIANT of a run: what an image and the ledger have in common between two calls. It follows that a sound volume opens, and
-- what summary, check and find answer. Assumes nothing.
use Prim.Native.Nat.{ℕ, ◌^◌, ◌<◌}
use mathlib.Core.Path.{◌≡◌, refl, sym, ap, ◌∙◌, fun_ext}
use mathlib.Core.Bool.{Bool, true, false, cond, not, ◌&&◌, ◌||◌, true≢false}
use mathlib.Core.List.{List}
use lib.ListN.{length}
use mathlib.Core.Option.{some, Option, none, none-ne-some}
use lib.Dec.{eqb, ltb}
use borrow.Author.Tests.{eqb-true, lt-ltb}
use Rattle.model.specs.declared.Geometry.{Geometry}
use Rattle.model.specs.Answers.{Sound, Verdict}
use Rattle.std.specs.Prelude.{Some}
use Rattle.model.specs.Bytes.{number_in}
use Rattle.model.specs.Search.{first, is_at, index_of}
use Rattle.model.specs.Geometry.{root_at, extents_for, superblock_at, entry_at}
use Rattle.model.specs.Disk.{Disk, view}
use Rattle.model.specs.Superblock.{geometry_in}
use Rattle.model.specs.Edition.{layout_of, bad_time}
use Rattle.model.specs.Root.{root_in}
use Rattle.model.specs.Entry.{entry_field, entry_in, is_occupied, fields_of}
use Rattle.model.specs.Catalogue.{Catalogue, catalogue_of, file_byte, file_bytes, entry_of, file_named, is_free}
use Rattle.model.specs.Faults.{fault21, fault22, fault23, fault24, fault25, fault26, first_fault, or_else}
use Rattle.model.specs.Refusals.{verdict_of, and_then, given, done, refusal, state_number, fault_verdict, sound_verdict, judged, image_verdict}
use Rattle.model.specs.Summary.{no_summary, summary_answer, check_answer}
use Rattle.model.specs.Find.{name_conditions, found_by, find_answer, not_found}
use Rattle.model.specs.Ledger.{Ledger, File, file_or, position_among, holder_of, catalogue, summary, check, find, summarized, checked, found, entry_of_file, entry_fields, lowest, step, answer}
use Rattle.model.specs.Run.{volume_answer, on_volume}
use Rattle.model.specs.Demand3.{Says}
use Rattle.model.specs.Opened.{Bounded}
use Rattle.laws.proofs.Edition.{FitsTimes, time-fits}
use Rattle.laws.proofs.Search.{first-none, length-tabulate}
use Rattle.safety.proofs.OwnWords.{named-is, entry_named, named-conditions, answers}
use Rattle.safety.proofs.Superblock.{volume-accepted}
use Rattle.safety.proofs.Plan.{UsableGeometry}
use Rattle.safety.proofs.Commit.{Ready}
use Rattle.safety.proofs.Bounds.{usable-geometry}

-- ---- the invariant

-- no fault of 22 to 26, which are read off the catalogue
pub record NoFaults (c : Catalogue) : Type 0 where
  pub f22 : (i : ℕ) → i < c.geometry.files → fault22 c i ≡ false
  pub f23 : (i : ℕ) → i < c.geometry.files → fault23 c i ≡ false
  pub f24 : (i : ℕ) → i < c.geometry.files → fault24 c i ≡ false
  pub f25 : (e : ℕ) → e < c.geometry.extents → fault25 c e ≡ false
  pub f26 : (i : ℕ) → i < c.geometry.files → fault26 c i ≡ false

-- slot k has extent e; no other slot has it then
unfoldable pub holds : Ledger → ℕ → ℕ → Bool
holds L k e = is_at (position_among e (file_or (L.slots k)).extents)

abbrev pub Disjoint : Ledger → Type 0
Disjoint L = (k e : ℕ) → k < L.geometry.files → holds L k e ≡ true → holder_of L e ≡ Some k

-- a file has as many extents as its size needs
abbrev pub Sized : Ledger → Type 0
Sized L = (i : ℕ) (f : File) → L.slots i ≡ some f → length f.extents ≡ extents_for L.geometry f.entry.size

-- the image says what the ledger says, on a clean volume that plans can be carried out on, and the ledger has no fault
pub record Rep (L : Ledger) (img : List ℕ) : Type 0 where
  pub says : Says L img
  pub ready : Ready L.geometry img
  pub bounded : Bounded L.geometry
  pub faultless : NoFaults (catalogue L)
  pub disjoint : Disjoint L
  pub sized : Sized L

-- a time fits the fields of the ledger's edition: so does one that the conditions of a call let pass
abbrev pub Timely : Ledger → ℕ → Type 0
Timely L time = FitsTimes (layout_of L.geometry.edition) time

pub timely : (L : Ledger) (time : ℕ) → bad_time (catalogue L).geometry.edition time ≡ false → time < 2 ^ 64 → Timely L time
unfolding catalogue
timely L time good h = time-fits L.geometry.edition time good h

-- a slot's mark, where it is one of the two values and the directory says what the ledger says; and back
mark-said : (L : Ledger) (d : Disk) → geometry_in (d superblock_at) ≡ L.geometry → (i : ℕ) → i < L.geometry.files → fault21 d i ≡ false
    → (catalogue_of d).entries i ≡ (catalogue L).entries i → number_in (d (entry_at i)) entry_field.mark ≡ cond (is_free (L.slots i)) 0 65535
unfolding fault21 is_occupied catalogue_of catalogue
mark-said L d g i l h e =
    go (eqb m 65535) (L.slots i) refl h
    (ap (λ (b : Bool). cond (b && eqb m 65535) (some (entry_in (geometry_in (d superblock_at)).edition (d (entry_at i)))) none) (sym (lt-ltb i _ l) ∙ ap (λ (x : Geometry). ltb i x.files) (sym g)) ∙ e)
  where
    m : ℕ
    m = number_in (d (entry_at i)) entry_field.mark

    free : (b : Bool) → eqb m 0 ≡ b → not (b || false) ≡ false → m ≡ 0
    free true q k = eqb-true m 0 q
    free false q k = absurd (true≢false k)

    go : (b : Bool) (o : Option File) → eqb m 65535 ≡ b → not (eqb m 0 || b) ≡ false
        → cond b (some (entry_in (geometry_in (d superblock_at)).edition (d (entry_at i)))) none ≡ entry_of_file o → m ≡ cond (is_free o) 0 65535
    go true (some f) q k n = eqb-true m 65535 q
    go true none q k n = absurd (none-ne-some _ (sym n))
    go false (some f) q k n = absurd (none-ne-some _ n)
    go false none q k n = free (eqb m 0) refl k

pub no-mark-fault : (L : Ledger) (img : List ℕ) → Says L img → (i : ℕ) → i < L.geometry.files → fault21 (view img) i ≡ false
unfolding fault21 is_occupied
no-mark-fault L img s i l = ap (λ (m : ℕ). not (eqb m 0 || eqb m 65535)) (s.marks i l) ∙ go (is_free (L.slots i))
  where
    go : (b : Bool) → not (eqb (cond b 0 65535) 0 || eqb (cond b 0 65535) 65535) ≡ false
    go true = refl
    go false = refl

-- what is left to say of a ready image
pub says_of : (L : Ledger) (img : List ℕ) → Ready L.geometry img → root_in L.geometry.edition (view img root_at) ≡ L.root
    → ((i : ℕ) → i < L.geometry.files → fault21 (view img) i ≡ false)
    → ((i : ℕ) → (catalogue_of (view img)).entries i ≡ (catalogue L).entries i)
    → ((e : ℕ) → (catalogue_of (view img)).table e ≡ (catalogue L).table e)
    → ((i : ℕ) (f : File) → L.slots i ≡ some f → file_bytes (catalogue_of (view img)) (view img) i 0 f.entry.size ≡ f.bytes)
    → Says L img
says_of L img ready root marks directory table bytes = record {
  volume = ready.volume.marked;
  geometry = ready.volume.geometry;
  clean = ready.clean;
  root = root;
  marks = λ i l. mark-said L (view img) ready.volume.geometry i l (marks i l) (directory i);
  directory = directory;
  table = table;
  bytes = bytes;
}

-- ---- a sound volume opens

pub catalogue-is : (L : Ledger) (img : List ℕ) → Says L img → catalogue_of (view img) ≡ catalogue L
unfolding catalogue_of catalogue
catalogue-is L img s =
    let root = ap (λ (g : Geometry). root_in g.edition (view img root_at)) s.geometry ∙ s.root in
    λ i. record { geometry = s.geometry i; root = root i; entries = fun_ext s.directory i; table = fun_ext s.table i }

-- "check gives 0": the ledger's catalogue decides
pub sound-of : (d : Disk) (c : Catalogue) → catalogue_of d ≡ c → ((i : ℕ) → i < c.geometry.files → fault21 d i ≡ false) → NoFaults c → first_fault d ≡ Sound
unfolding first_fault
sound-of d c e m h =
    ap (λ (x : Catalogue). or_else 21 (first (fault21 d) x.geometry.files) (or_else 22 (first (fault22 x) x.geometry.files) (or_else 23 (first (fault23 x) x.geometry.files)
    (or_else 24 (first (fault24 x) x.geometry.files) (or_else 25 (first (fault25 x) x.geometry.extents) (or_else 26 (first (fault26 x) x.geometry.files) Sound)))))) e
    ∙ (λ i. or_else 21 (first-none (fault21 d) c.geometry.files m i) (or_else 22 (first-none (fault22 c) c.geometry.files h.f22 i)
    (or_else 23 (first-none (fault23 c) c.geometry.files h.f23 i) (or_else 24 (first-none (fault24 c) c.geometry.files h.f24 i)
    (or_else 25 (first-none (fault25 c) c.geometry.extents h.f25 i) (or_else 26 (first-none (fault26 c) c.geometry.files h.f26 i) Sound))))))

pub catalogue-geometry : (L : Ledger) → (catalogue L).geometry ≡ L.geometry
unfolding catalogue
catalogue-geometry L = refl

module _ (L : Ledger) (img : List ℕ) (rep : Rep L img) where
  pub cat-is : catalogue_of (view img) ≡ catalogue L
  cat-is = catalogue-is L img rep.says

  pub disk-geometry : (catalogue_of (view img)).geometry ≡ L.geometry
  disk-geometry = ap (λ (c : Catalogue). c.geometry) cat-is ∙ catalogue-geometry L

  pub rep-geometry : UsableGeometry L.geometry
  rep-geometry = usable-geometry L.geometry rep.bounded

  -- a file has as many bytes as its size says
  pub bytes-length : (i : ℕ) (f : File) → L.slots i ≡ some f → length f.bytes ≡ f.entry.size
  unfolding file_bytes
  bytes-length i f e = ap length (sym (rep.says.bytes i f e)) ∙ length-tabulate (file_byte (catalogue_of (view img)) (view img) i) 0 f.entry.size

  no-fault : first_fault (view img) ≡ Sound
  unfolding catalogue
  no-fault = sound-of (view img) (catalogue L) cat-is (no-mark-fault L img rep.says) rep.faultless

  accepted : image_verdict (length img) (view img) ≡ done
  accepted = volume-accepted L.geometry (length img) (view img) rep.ready.volume

  -- A SOUND VOLUME OPENS: the refusals 1 to 7 pass
  pub opens : judged (length img) (view img) ≡ done
  unfolding judged sound_verdict
  opens = λ i. and_then (accepted i) (and_then (refusal (state_number (rep.ready.clean i))) (fault_verdict (no-fault i)))

  -- ---- the calls that read no file's bytes

  pub summary-same : volume_answer summary img ≡ answer summary L
  unfolding on_volume step lowest summary_answer
  summary-same =
      ap summarized (λ i. given (accepted i) (record { number = 0; summary = record { geometry = rep.ready.volume.geometry i; state = rep.ready.clean i } }) no_summary)

  pub check-same : volume_answer check img ≡ answer check L
  unfolding on_volume step lowest check_answer
  check-same = ap (λ (v : Verdict). checked (record { verdict = v })) opens

  pub find-same : (name : List ℕ) → volume_answer (find name) img ≡ answer (find name) L
  unfolding on_volume step find_answer found_by entry_fields fields_of
  find-same name =
      ap found (λ i. found_by (and_then (opens i) (verdict_of (name_conditions (cat-is i) name))) (cat-is i) name)
      ∙ answers (step (find name) L)
      (λ b v. found (cond b (record { verdict = v; index = record { 0 = at }; fields = fields_of (entry_of (catalogue L) at) }) (not_found v)))
      (rw (named-is L name, entry_named L name)) (λ n. refl) _ (ap verdict_of (named-conditions L name))
    where
      at : ℕ
      at = index_of (file_named (catalogue L) name)
