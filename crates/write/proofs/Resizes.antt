-- The plan of a resize that shrinks, and how a resize is decided, from the tests that the code makes. Assumes nothing.
use Prim.Native.Nat.{ℕ, suc, ◌+◌, ◌*◌, ◌-◌, ◌/◌, ◌≤◌, ◌<◌, max}
use mathlib.Core.Path.{◌≡◌, refl, sym, ap, ap₂, ◌∙◌}
use mathlib.Core.Bool.{Bool, true, false, cond, not, ◌&&◌, ◌||◌}
use mathlib.Core.List.{List, [], ◌∷◌}
use mathlib.Core.Option.{Option, some}
use native.Mathlib.Nat.{le-div_iff_mul-le, div-mul-le_self}
use native.Mathlib.Omega.{arith}
use lib.Dec.{ltb}
use lib.ListN.{length}
use borrow.Author.Tests.{lt-ltb, le-ltb}
use Rattle.model.specs.Answers.{Changed, Verdict}
use Rattle.model.specs.declared.Geometry.{Geometry}
use Rattle.std.specs.Prelude.{Some}
use Rattle.model.specs.Search.{is_at, index_of}
use Rattle.model.specs.Geometry.{extent_bytes, extents_for, superblock_at, entry_at}
use Rattle.model.specs.Disk.{view}
use Rattle.model.specs.Superblock.{geometry_in}
use Rattle.model.specs.Edition.{bad_time}
use Rattle.model.specs.Entry.{bad_name, updated_entry_sector}
use Rattle.model.specs.Table.{sectors_holding}
use Rattle.model.specs.Catalogue.{Catalogue, catalogue_of, file_named, lacks_reserve, entry_of}
use Rattle.model.specs.Refusals.{Conditions, verdict_of, refusal, done, judged}
use Rattle.model.specs.WriteList.{Plan, sector_write, record_size, record_count, groups_for, list_length, closed, Emitted}
use Rattle.model.specs.Freeing.{freed_sectors}
use Rattle.model.specs.Read.{longest_transfer, size_named}
use Rattle.model.specs.Write.{grows, no_room, write_planned}
use Rattle.model.specs.Resize.{zeros, shrink_plan, resize_planned, resize_conditions, resize_decision, resize_answer, resize_list}
use Rattle.model.specs.Opened.{Bounded, Opened, volume_length, in_volume}
use Rattle.laws.proofs.Bytes.{length-bytes_from}
use Rattle.laws.proofs.Named.{edition_on}
use Rattle.laws.proofs.Freeing.{length-freed}
use Rattle.laws.proofs.WriteList.{plan-needs}
use Rattle.commit.proofs.Records.{emitted-length}
use Rattle.commit.proofs.Decided.{same-refusals, decided-fitted, fitted-full, fitted_short, fitted-done}
use Rattle.table.specs.Owned.{owned_in}
use Rattle.table.proofs.Laws.{geometry-of}
use Rattle.write.specs.FileWrite.{file_conditions, file_decision, FileWritesTo}
use Rattle.write.specs.FileResize.{size_conditions, size_decision, shrink_for, FileResizesTo, FileShrinksTo}
use Rattle.write.proofs.Laws.{decided-same, refused_by, sized, own-refusal}

-- a smaller size needs no more extents
extents-less : (g : Geometry) → Bounded g → (a b : ℕ) → a ≤ b → extents_for g a ≤ extents_for g b
extents-less g b x y h =
    (le-div_iff_mul-le (let q : 0 < extent_bytes g = omega (arith, b.extent-low) in q)).1
    (let q : (x + (extent_bytes g - 1)) / extent_bytes g * extent_bytes g ≤ x + (extent_bytes g - 1) = div-mul-le_self (x + (extent_bytes g - 1)) (extent_bytes g) in omega arith)

-- ---- the plan where the file shrinks

pub shrink-alone : (img : List ℕ) (i z time : ℕ) → (shrink_for img i z time).data_sectors ≡ []
unfolding shrink_plan
shrink-alone img i z time = refl

module _ (img : List ℕ) (g : Geometry) (is : g ≡ geometry_in (view img superblock_at)) (i z time : ℕ) where
  -- entry i, then the table sectors that hold an extent past the new size
  pub shrink-targets : (shrink_for img i z time).targets
      ≡ sector_write (entry_at i) (updated_entry_sector g.edition z time (view img (entry_at i))) ∷ freed_sectors (owned_in img i (extents_for g z)) g (view img)
  unfolding shrink_plan
  shrink-targets =
      ap (λ (x : Geometry).
      sector_write (entry_at i) (updated_entry_sector x.edition z time (view img (entry_at i))) ∷ freed_sectors (owned_in img i (extents_for x z)) x (view img))
      (geometry-of (view img) g is)

  shrink-needs : list_length (groups_for (view img) (some (shrink_for img i z time))) ≡ record_count 0 (1 + sectors_holding (owned_in img i (extents_for g z)) g) * record_size
  shrink-needs =
      let freed = owned_in img i (extents_for g z) in
      plan-needs (view img) (shrink_for img i z time)
      ∙ ap₂ (λ m n. record_count m n * record_size) (ap length (shrink-alone img i z time))
      (ap length shrink-targets
      ∙ (let e : suc (length (freed_sectors freed g (view img))) ≡ 1 + sectors_holding freed g = omega (arith, length-freed freed g (view img)) in e))

-- ---- the tests of a file that was found

module _ (img : List ℕ) (g : Geometry) (o : Opened img g) where
  abbrev c : Catalogue
  c = catalogue_of (view img)

  shrunk : (i size z : ℕ) → size ≡ (entry_of c i).size → z ≤ size → grows c i z ≡ false
  unfolding grows catalogue_of
  shrunk i size z says h =
      rw (← says)
      (le-ltb (extents_for (geometry_in (view img superblock_at)) size) (extents_for (geometry_in (view img superblock_at)) z)
      (extents-less (geometry_in (view img superblock_at)) (rw o.is at o.bounded) z size h))

  module _ (list : List ℕ) where
    module _ (i z time : ℕ) where
      abbrev plan : Plan
      plan = shrink_for img i z time

      abbrev Shrunk : Changed → List ℕ → Type 0
      Shrunk = FileShrinksTo img i z time list

      abbrev Sized : Changed → List ℕ → Type 0
      Sized = FileResizesTo img i z time list

      -- how many bytes its list takes
      abbrev needed : ℕ
      needed = record_count 0 (1 + sectors_holding (owned_in img i (extents_for g z)) g) * record_size

      needs : list_length (groups_for (view img) (some plan)) ≡ needed
      needs = shrink-needs img g o.is i z time

      pub shrink-count : {l m : List ℕ} {j : ℕ} → Emitted l 0 (closed (groups_for (view img) (some plan))) m j
          → j * record_size ≡ needed
      shrink-count q = emitted-length (groups_for (view img) (some plan)) q ∙ needs

      pub shrink-full : lacks_reserve c ≡ true → Shrunk (refused_by 13) list
      shrink-full = fitted-full (view img) plan list

      pub shrink-short : lacks_reserve c ≡ false → length list < needed → Shrunk (refused_by 14) list
      shrink-short f l = fitted_short (view img) plan list f (rw needs l)

      pub shrink-done : {m : List ℕ} {j : ℕ} → lacks_reserve c ≡ false → needed ≤ length list
          → Emitted list 0 (closed (groups_for (view img) (some plan))) m j → Shrunk (record { verdict = done; length = j * record_size }) m
      shrink-done f l q = fitted-done (view img) plan list f (emitted-length (groups_for (view img) (some plan)) q) (rw (shrink-count q) l) q

      module _ (ok : (judged (volume_length (view img)) (view img)).number ≡ 0) (size : ℕ) (says : size ≡ (entry_of c i).size) where
        none-holds : z < size → done ≡ verdict_of (size_conditions c i z)
        unfolding size_conditions verdict_of no_room
        none-holds l = sym (rw (← says, le-ltb (size + longest_transfer) z (omega arith), shrunk i size z says (omega arith)))

        less-planned : z < size → resize_planned c (view img) i z time ≡ some plan
        unfolding resize_planned
        less-planned l = rw (← says, lt-ltb z size l)

        pub size-shrinks : {answer : Changed} {after : List ℕ} → z < size → Shrunk answer after → Sized answer after
        unfolding size_decision
        size-shrinks l r =
            rw (decided-fitted (volume_length (view img)) (view img) (size_conditions c i z) (resize_planned c (view img) i z time) (length list) ok (none-holds l), less-planned l) r

        pub size-far : size + longest_transfer < z → Sized (refused_by 8) list
        unfolding size_decision size_conditions verdict_of
        size-far l =
            own-refusal img ok list (size_conditions c i z) (resize_planned c (view img) i z time) 8 (λ (e : ◌≡◌ {A = ℕ} 8 0). omega arith) (rw (← says, lt-ltb (size + longest_transfer) z l))

        module _ (l : size ≤ z) (m : z ≤ size + longest_transfer) where
          whole : max size (size + length (zeros (z - size))) ≡ z
          whole = rw length-bytes_from (omega arith)

          same-verdict : verdict_of (size_conditions c i z) ≡ verdict_of (file_conditions c i size (length (zeros (z - size))))
          unfolding size_conditions file_conditions verdict_of
          same-verdict = rw (← says, le-ltb (size + longest_transfer) z m, le-ltb size size (omega arith), whole)

          more-planned : resize_planned c (view img) i z time ≡ write_planned c i (view img) size (zeros (z - size)) time
          unfolding resize_planned
          more-planned = rw (← says, le-ltb z size l)

          pub size-grows : {answer : Changed} {after : List ℕ}
              → FileWritesTo img i size (zeros (z - size)) time list answer after → Sized answer after
          unfolding size_decision file_decision
          size-grows r =
              rw (
                decided-same (volume_length (view img)) (view img) (size_conditions c i z) (file_conditions c i size (length (zeros (z - size))))
                    (resize_planned c (view img) i z time) (length list) same-verdict,
                more-planned,
              )
              r

-- ---- 8 for the name or the time, 9

module _ (img : List ℕ) (ok : (judged (volume_length (view img)) (view img)).number ≡ 0) (list : List ℕ) where
  abbrev cat : Catalogue
  cat = catalogue_of (view img)

  module _ (name : List ℕ) (z time : ℕ) where
    abbrev conditions : Conditions
    conditions = resize_conditions cat name z time

    abbrev planned : Option Plan
    planned = resize_planned cat (view img) (index_of (file_named cat name)) z time

    abbrev Resized : Changed → List ℕ → Type 0
    Resized answer after =
        (answer ≡ in_volume resize_answer img name z time (length list)) × (after ≡ in_volume resize_list img name z time list)

    -- the code's tests
    abbrev is_bad : Bool
    is_bad = bad_time (edition_on (view img)) time || bad_name (edition_on (view img)) name

    abbrev is_far : Bool
    is_far = is_at (file_named cat name) && ltb (size_named cat name + longest_transfer) z

    abbrev rest_by : Verdict
    rest_by = cond (not (is_at (file_named cat name))) (refusal 9) (cond (no_room cat (index_of (file_named cat name)) z) (refusal 13) done)

    resize-tests : verdict_of conditions ≡ cond is_bad (refusal 8) (cond is_far (refusal 8) rest_by)
    unfolding verdict_of resize_conditions catalogue_of
    resize-tests = same-refusals (bad_time (edition_on (view img)) time) (bad_name (edition_on (view img)) name) is_far (refusal 8) rest_by

    pub resize-bad : is_bad ≡ true → Resized (refused_by 8) list
    unfolding resize_answer resize_list resize_decision
    resize-bad h = own-refusal img ok list conditions planned 8 (λ (e : ◌≡◌ {A = ℕ} 8 0). omega arith) (resize-tests ∙ rw h)

    module _ (good : is_bad ≡ false) where
      pub resize-missing : is_at (file_named cat name) ≡ false → Resized (refused_by 9) list
      unfolding resize_answer resize_list resize_decision
      resize-missing h = own-refusal img ok list conditions planned 9 (λ (e : ◌≡◌ {A = ℕ} 9 0). omega arith) (resize-tests ∙ rw (good, h))

      pub resize-found : {answer : Changed} {after : List ℕ} (i : ℕ) → Some i ≡ file_named cat name
          → FileResizesTo img i z time list answer after → Resized answer after
      unfolding resize_answer resize_list resize_decision size_decision size_conditions verdict_of
      resize-found i e r =
          rw (decided-same (volume_length (view img)) (view img) conditions (size_conditions cat i z) planned (length list) (resize-tests ∙ rw (good, ← e, sized cat name i e)), ← e) r
