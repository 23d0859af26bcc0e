-- T-11: what a call asks of a disk stands before its data area, but for the bytes of files and of journal sources. Two disks that agree there say the same; so
-- do an image and the sectors that are lent of it. Assumes nothing.
use Prim.Native.Nat.{ℕ, ◌*◌, ◌/◌, ◌%◌, ◌≤◌, ◌<◌, max}
use mathlib.Core.Path.{◌≡◌, refl, sym, ap, ap₂, ◌∙◌, fun_ext}
use mathlib.Core.Bool.{Bool, true, false, cond, not, ◌&&◌}
use mathlib.Core.List.{List, [], ◌∷◌}
use mathlib.Core.Option.{Option, none, some}
use native.Mathlib.Omega.{arith}
use lib.Dec.{eqb, leb, ltb}
use lib.ListN.{length}
use borrow.Author.Tests.{le-leb, leb-true, lt-ltb, eq-eqb}
use Rattle.model.specs.declared.Geometry.{Geometry}
use Rattle.model.specs.declared.State.{State}
use Rattle.model.specs.declared.State.TheVariants.{Clean, Waiting, Damaged, Unfinished}
use Rattle.model.specs.Answers.{Soundness, Sound}
use Rattle.model.specs.Bytes.{number_in}
use Rattle.model.specs.Search.{Lowest, first}
use Rattle.model.specs.Geometry.{SectorNumber, superblock_at, root_at, entry_at, in_bounds, data_at, volume_sectors}
use Rattle.model.specs.Disk.{Disk, view}
use Rattle.model.specs.Superblock.{is_volume, geometry_in, journal_length, state_of, state_on, with_journal_length}
use Rattle.model.specs.Root.{root_in}
use Rattle.model.specs.Table.{table_sector_of}
use Rattle.model.specs.Catalogue.{Catalogue, catalogue_of}
use Rattle.model.specs.Faults.{fault21, fault22, fault23, fault24, fault25, fault26, or_else, faults_in, first_fault}
use Rattle.model.specs.Journal.{journal_sector_of, journal_entry_start, journal_field, source_at, target_at}
use Rattle.model.specs.Recovery.{is_data, is_metadata, good_entry, bad_journal}
use Rattle.model.specs.Refusals.{refusal, verdict_of, and_then, is_whole, fits_image, image_verdict, state_number, fault_verdict, sound_verdict, judged}
use Rattle.model.specs.WriteList.{Plan, sector_write, superblock_group, groups_of, groups_for}
use Rattle.model.specs.Lent.{is_front, lent_length}
use Rattle.laws.proofs.Booleans.{and_yes}
use Rattle.laws.proofs.Search.{first-ext, any_below-ext, all_below-ext}
use Rattle.safety.specs.LentForms.{Lends, goes_by}
use Rattle.safety.proofs.Preserved.{entries-keep, table-keep, marks-keep}

-- d' shows d's sectors before the data area
abbrev pub Agrees : Disk → Disk → Type 0
Agrees d d' = (s : SectorNumber) → s < data_at (geometry_in (d superblock_at)) → d' s ≡ d s

-- a journal that waits has at most 1,024 entries: they stand before the table
few-in : (n k : ℕ) → state_of n ≡ Waiting k → k ≤ 1024
unfolding state_of
few-in n k e = go (eqb n 0) (leb n 1024) refl (leb n 65534) e
  where
    go : (a b : Bool) → leb n 1024 ≡ b → (c : Bool) → cond a Clean (cond b (Waiting n) (cond c Damaged Unfinished)) ≡ Waiting k → k ≤ 1024
    go true b q c h = absurd (let z : ◌≡◌ {A = ℕ} 0 1 = cc in omega arith)
    go false true q c h = let z : n ≡ k = cc in omega (arith, leb-true n 1024 q)
    go false false q true h = absurd (let z : ◌≡◌ {A = ℕ} 0 1 = cc in omega arith)
    go false false q false h = absurd (let z : ◌≡◌ {A = ℕ} 0 1 = cc in omega arith)

-- the faults that the catalogue alone says
abbrev later_faults : Catalogue → Soundness
later_faults c =
    let files = c.geometry.files in
    or_else 22 (first (fault22 c) files) (or_else 23 (first (fault23 c) files) (or_else 24 (first (fault24 c) files)
    (or_else 25 (first (fault25 c) c.geometry.extents) (or_else 26 (first (fault26 c) files) Sound))))

module _ (d d' : Disk) (same : Agrees d d') where
  abbrev g : Geometry
  g = geometry_in (d superblock_at)

  pub same-superblock : d' superblock_at ≡ d superblock_at
  same-superblock = same superblock_at (omega arith)

  pub same-root : d' root_at ≡ d root_at
  same-root = same root_at (omega arith)

  pub same-entry : (i : ℕ) → i < g.files → d' (entry_at i) ≡ d (entry_at i)
  same-entry i l = same (entry_at i) (omega arith)

  pub same-geometry : geometry_in (d' superblock_at) ≡ geometry_in (d superblock_at)
  same-geometry = ap geometry_in same-superblock

  pub same-catalogue : catalogue_of d' ≡ catalogue_of d
  unfolding catalogue_of
  same-catalogue = λ i. record {
    geometry = same-geometry i;
    root = ap₂ (λ (x : Geometry) (s : List ℕ). root_in x.edition s) same-geometry same-root i;
    entries = fun_ext (λ k. entries-keep g d d' refl same-geometry k (λ l. same-entry k l)) i;
    table = fun_ext (λ e. table-keep g d d' refl same-geometry e (λ l. same (table_sector_of g e) (omega arith))) i;
  }

  pub same-state : state_on d' ≡ state_on d
  same-state = ap (λ (s : List ℕ). state_of (journal_length s)) same-superblock

  -- by a catalogue of as many entries
  pub same-faults-in : (c : Catalogue) → c.geometry.files ≡ g.files → faults_in (fault21 d') c ≡ faults_in (fault21 d) c
  same-faults-in c e =
      ap (λ (p : Lowest). or_else 21 p (later_faults c)) (first-ext (fault21 d') (fault21 d) c.geometry.files (λ k l. marks-keep d d' k (same-entry k (omega arith))))

  pub same-fault : first_fault d' ≡ first_fault d
  unfolding first_fault catalogue_of
  same-fault = ap (λ (c : Catalogue). faults_in (fault21 d') c) same-catalogue ∙ same-faults-in (catalogue_of d) refl

  pub same-sound : sound_verdict d' ≡ sound_verdict d
  unfolding sound_verdict
  same-sound = ap₂ (λ (s : State) (f : Soundness). and_then (refusal (state_number s)) (fault_verdict f)) same-state same-fault

  pub same-group : (n : ℕ) → superblock_group d' n ≡ superblock_group d n
  same-group n = ap (λ (s : List ℕ). sector_write superblock_at (with_journal_length n s) ∷ []) same-superblock

  -- the groups of one plan
  pub same-groups : (plan : Option Plan) → groups_for d' plan ≡ groups_for d plan
  unfolding groups_for groups_of
  same-groups none = refl
  same-groups (some p) = rw (same-geometry, same-catalogue, same-superblock) refl

  -- ---- the journal

  pub journal-same : (k : ℕ) → k < 1024 → d' (journal_sector_of g k) ≡ d (journal_sector_of g k)
  journal-same k l = same (journal_sector_of g k) (omega arith)

  pub source-same : (k : ℕ) → k < 1024 → source_at g d' k ≡ source_at g d k
  unfolding source_at
  source-same k l = ap (λ (s : List ℕ). number_in s (journal_field (journal_entry_start k)).source) (journal-same k l)

  pub target-same : (k : ℕ) → k < 1024 → target_at g d' k ≡ target_at g d k
  unfolding target_at
  target-same k l = ap (λ (s : List ℕ). number_in s (journal_field (journal_entry_start k)).target) (journal-same k l)

  pub same_good : (k : ℕ) → k < 1024 → good_entry g d' k ≡ good_entry g d k
  unfolding good_entry
  same_good k l =
      ap₂ (λ (a b : Bool). a && b)
      (ap₂ (λ (s t : SectorNumber). is_data g s && is_metadata g t) (source-same k l) (target-same k l))
      (ap not (any_below-ext (λ j. eqb (target_at g d' j) (target_at g d' k)) (λ j. eqb (target_at g d j) (target_at g d k)) k
      (λ j lj. ap₂ eqb (target-same j (omega arith)) (target-same k l))))

  pub few-entries : (n : ℕ) → state_on d ≡ Waiting n → n ≤ 1024
  few-entries n e = few-in (journal_length (d superblock_at)) n e

  journal-by : (s : State) → state_on d ≡ s → bad_journal g d' s ≡ bad_journal g d s
  journal-by Clean e = refl
  journal-by (Waiting n) e = ap not (all_below-ext (good_entry g d') (good_entry g d) n (λ k l. same_good k (omega (arith, few-entries n e))))
  journal-by Damaged e = refl
  journal-by Unfinished e = refl

  pub same-journal : bad_journal (geometry_in (d' superblock_at)) d' (state_on d') ≡ bad_journal (geometry_in (d superblock_at)) d (state_on d)
  same-journal =
      ap₂ (λ (x : Geometry) (s : State). bad_journal x d' s) same-geometry same-state ∙ journal-by (state_on d) refl

  -- 1 to 7, where 1 to 3 are the same
  pub same-judged : (len len' : ℕ) → image_verdict len' d' ≡ image_verdict len d → judged len' d' ≡ judged len d
  unfolding judged
  same-judged len len' e = ap₂ and_then e same-sound

-- ---- an image, and what is lent of it

and-also : (b : Bool) → (b && true) ≡ b
and-also true = refl
and-also false = refl

module _ (img front : List ℕ) (count : ℕ) (lends : Lends img front count) where
  abbrev of : Geometry
  of = geometry_in (view img superblock_at)

  pub lent-agrees : Agrees (view img) (view front)
  lent-agrees s l = lends.same s l

  pub lent-geometry : geometry_in (view front superblock_at) ≡ of
  lent-geometry = same-geometry (view img) (view front) lent-agrees

  pub front-is : is_front (length front) (view front) ≡ in_bounds of
  unfolding is_front
  front-is = rw (lends.whole, lent-geometry, le-leb (data_at of) (length front / 512) lends.reaches) (and-also (in_bounds of))

  -- the image's length, where its geometry is in bounds
  pub goes-length : in_bounds (geometry_in (view img superblock_at)) ≡ true → goes_by front count ≡ length img
  unfolding lent_length
  goes-length b =
      ap (λ (t : Bool). cond t (512 * max 1 count) (length front)) (front-is ∙ b) ∙ (let e : 512 * max 1 count ≡ length img = omega (arith, lends.sectors, lends.some) in e)

  -- whole sectors in either case
  whole_by : (b : Bool) → in_bounds of ≡ b → is_whole (goes_by front count) ≡ is_whole (length img)
  unfolding lent_length is_whole
  whole_by true e = ap is_whole (goes-length e)
  whole_by false e =
      ap (λ (t : Bool). is_whole (cond t (512 * max 1 count) (length front))) (front-is ∙ e) ∙ lends.whole
      ∙ sym (and_yes (ltb 0 (length img)) (eqb (length img % 512) 0) (lt-ltb 0 (length img) (omega (arith, lends.sectors, lends.some)))
      (eq-eqb (length img % 512) 0 (omega (arith, lends.sectors))))

  -- out of bounds, whatever the length
  fits_by : (b : Bool) → in_bounds of ≡ b → fits_image (goes_by front count) (view img superblock_at) ≡ fits_image (length img) (view img superblock_at)
  unfolding fits_image
  fits_by true e = ap (λ (n : ℕ). in_bounds of && leb (volume_sectors of) (n / 512)) (goes-length e)
  fits_by false e = rw e refl

  -- REFUSALS 1 TO 3, AND SO 1 TO 7, ARE THE IMAGE'S
  pub lent-image : image_verdict (goes_by front count) (view front) ≡ image_verdict (length img) (view img)
  unfolding image_verdict
  lent-image =
      ap (λ (s : List ℕ). verdict_of ((not (is_whole (goes_by front count)), refusal 1) ∷ (not (is_volume s), refusal 2) ∷ (not (fits_image (goes_by front count) s), refusal 3) ∷ []))
      (same-superblock (view img) (view front) lent-agrees)
      ∙ ap₂ (λ (a b : Bool). verdict_of ((not a, refusal 1) ∷ (not (is_volume (view img superblock_at)), refusal 2) ∷ (not b, refusal 3) ∷ []))
      (whole_by (in_bounds of) refl) (fits_by (in_bounds of) refl)

  pub lent-judged : judged (goes_by front count) (view front) ≡ judged (length img) (view img)
  lent-judged = same-judged (view img) (view front) lent-agrees (length img) (goes_by front count) lent-image
