-- What a plan's list, or the part of it that landed without the start mark, leaves in each sector outside the journal and the staging extents; and an
-- image that writes leave which never stands on the medium. Assumes nothing.
use Prim.Native.Nat.{ℕ, zero, suc, ◌+◌, ◌*◌, ◌≤◌, ◌<◌}
use mathlib.Core.Path.{◌≡◌, refl, sym, ap, ◌∙◌, subst}
use mathlib.Core.Logic.{◌≢◌}
use mathlib.Core.Bool.{Bool, true, false, true≢false}
use mathlib.Core.List.{List, [], ◌∷◌, ◌++◌, append_assoc}
use native.Mathlib.Omega.{arith}
use lib.ListN.{length, drop, length-append}
use Rattle.model.specs.declared.Geometry.{Geometry}
use Rattle.model.specs.Geometry.{superblock_at, journal_at, data_at, volume_sectors}
use Rattle.model.specs.Disk.{Disk, view}
use Rattle.model.specs.Catalogue.{Catalogue, catalogue_of}
use Rattle.model.specs.WriteList.{Record, barrier_number, barrier, stored, Plan, Group, closed_after, closed, over, apply, hits}
use Rattle.model.specs.Superblock.{journal_length, state_of}
use Rattle.model.specs.Recovery.{is_metadata}
use Rattle.model.specs.Cut.{kept}
use Rattle.safety.proofs.Apply.{over-append, over-miss, over_skip, over_none, kept-miss, kept-nil, hits-append, stored-view}
use Rattle.safety.proofs.Apply.{All, all_map, all-miss, InImage, length-stored}
use Rattle.safety.proofs.Superblock.{Volume, volume-long}
use Rattle.laws.proofs.Areas.{metadata-below}
use Rattle.safety.proofs.Plan.{UsableGeometry, WellFormed, Metadata, Unstaged, Whole, metadata-no, no-stage, A, A-is}
use Rattle.safety.proofs.Plan.{copy_writes, journal_writes, journal-miss, copies-miss, mark, clear, committed, final}
use Rattle.safety.proofs.Commit.{Ready, part_of, part-in-image, uncut, uncut-shows}

kept_append : (m : List Bool) (a b : Group) → kept m (a ++ b) ≡ kept m a ++ kept (drop (length a) m) b
unfolding kept
kept_append m [] b = ap (λ l. l ++ kept m b) (sym (kept-nil m))
kept_append [] (w ∷ a) b = refl
kept_append (true ∷ m) (w ∷ a) b = ap (λ l. w ∷ l) (kept_append m a b)
kept_append (false ∷ m) (w ∷ a) b = kept_append m a b

-- by what the volume says before the call
pub record Outside (g : Geometry) (c : Catalogue) (j : ℕ) : Type 0 where
  pub journal : journal_at g ≤ j → j < journal_at g + 32 → ⊥
  pub reserve : Unstaged g c j

-- an image that shows these writes over another one; of the superblock it says nothing
abbrev pub Shows : Geometry → Catalogue → Group → List ℕ → List ℕ → Type 0
Shows g c ws img out = (j : ℕ) → Outside g c j → j ≢ 0 → view out j ≡ over ws j (view img j)

module _ (g : Geometry) (d : Disk) (p : Plan) (geo : UsableGeometry g) (ok : WellFormed g d p) where
  abbrev staged : Group
  staged = copy_writes g d p ++ journal_writes g d p

  staged-miss : (j : ℕ) → Outside g (catalogue_of d) j → hits (copy_writes g d p ++ journal_writes g d p) j ≡ false
  staged-miss j o = hits-append (copy_writes g d p) (journal_writes g d p) j (copies-miss g d p geo ok j (no-stage g d p geo ok j o.reserve)) (journal-miss g d p geo ok j o.journal)

  A-parts : A g d p ≡ p.data_sectors ++ (copy_writes g d p ++ journal_writes g d p)
  A-parts = A-is g d p ∙ append_assoc p.data_sectors (copy_writes g d p) (journal_writes g d p)

  over-part : (k : ℕ) (m : List Bool) (j : ℕ) (x : List ℕ) → Outside g (catalogue_of d) j → over (part_of k m (A g d p)) j x ≡ over (part_of k m p.data_sectors) j x
  over-part zero m j x o =
      ap (λ (l : Group). over (kept m l) j x) A-parts
      ∙ ap (λ (l : Group). over l j x) (kept_append m p.data_sectors (copy_writes g d p ++ journal_writes g d p))
      ∙ over-append (kept m p.data_sectors) (kept (drop (length p.data_sectors) m) (copy_writes g d p ++ journal_writes g d p)) j x
      ∙ over-miss (kept (drop (length p.data_sectors) m) (copy_writes g d p ++ journal_writes g d p)) j _ (kept-miss _ (copy_writes g d p ++ journal_writes g d p) j (staged-miss j o))
  over-part (suc k) m j x o =
      ap (λ (l : Group). over l j x) A-parts ∙ over-append p.data_sectors (copy_writes g d p ++ journal_writes g d p) j x ∙ over-miss (copy_writes g d p ++ journal_writes g d p) j _ (staged-miss j o)

module _ (g : Geometry) (img : List ℕ) (p : Plan) (geo : UsableGeometry g) (ok : WellFormed g (view img) p) (ready : Ready g img) where
  pub part_at : (k : ℕ) (m : List Bool) (j : ℕ) → Outside g (catalogue_of (view img)) j → view (stored (part_of k m (A g (view img) p)) img) j ≡ over (part_of k m p.data_sectors) j (view img j)
  unfolding apply
  part_at k m j o =
      ap (λ (d : Disk). d j) (stored-view (part_of k m (A g (view img) p)) img (length img) refl (part-in-image g img p geo ok ready k m)) ∙ over-part g (view img) p geo ok k m j (view img j) o

  pub done-shows : Shows g (catalogue_of (view img)) (p.data_sectors ++ p.targets) img (uncut g img p)
  unfolding final committed apply
  done-shows j o ne =
      ap (λ (d : Disk). d j) (uncut-shows g img p geo ok ready)
      ∙ over_skip (clear g (view img) p) [] j _ ne ∙ over_none j _
      ∙ ap (over p.targets j) (over_skip (mark g (view img) p) [] j _ ne ∙ over_none j _ ∙ over-part g (view img) p geo ok 1 [] j (view img j) o)
      ∙ sym (over-append p.data_sectors p.targets j (view img j))

-- ---- writes of root, directory and table alone, without a journal: a step on the way to the image that a call leaves

module _ (g : Geometry) (img : List ℕ) (ws : Group) (geo : UsableGeometry g) (ready : Ready g img) (metadata : All (Metadata g) ws) (whole : All Whole ws) where
  all-in-image : (vs : Group) → All (Metadata g) vs → All Whole vs → All (InImage (length img)) vs
  all-in-image [] h q = tt
  all-in-image (w ∷ vs) h q =
      let l : w.sector < data_at g = metadata-below g w.sector h.0 in
      let r : 512 * volume_sectors g ≤ length img = volume-long g (length img) (view img superblock_at) ready.volume in
      let s : volume_sectors g < barrier_number = geo.small in
      (record { within = omega arith; number = λ e. omega arith; sector = q.0 }, all-in-image vs h.1 q.1)

  pub stored_at : (j : ℕ) → view (stored ws img) j ≡ over ws j (view img j)
  unfolding apply
  stored_at j = ap (λ (d : Disk). d j) (stored-view ws img (length img) refl (all-in-image ws metadata whole))

  pub stored-shows : (c : Catalogue) → Shows g c ws img (stored ws img)
  stored-shows c j o ne = stored_at j

  pub stored-ready : Ready g (stored ws img)
  stored-ready =
      let miss : hits ws 0 ≡ false =
      all-miss 0 ws (all_map (Metadata g) (λ w. 0 ≢ w.sector)
      (λ w h q. true≢false (sym h ∙ ap (is_metadata g) (sym q) ∙ metadata-no g 0 (λ a b. omega arith) (λ a b. omega arith))) ws metadata) in
      let z : view (stored ws img) superblock_at ≡ view img superblock_at = stored_at 0 ∙ over-miss ws 0 _ miss in
      record {
        volume = subst (λ (l : ℕ). Volume g l (view (stored ws img) superblock_at)) (sym (length-stored ws img)) (subst (Volume g (length img)) (sym z) ready.volume);
        clean = ap (λ (s : List ℕ). state_of (journal_length s)) z ∙ ready.clean;
      }

-- ---- list lengths by the groups

length-after : (acc : List Record) (gs : List Group) → length (closed_after acc gs) ≡ length acc + length (closed_after [] gs)
length-after acc [] = omega arith
length-after acc (x ∷ gs) =
    let a = length-after (acc ++ x ++ (barrier ∷ [])) gs in
    let b = length-after ([] ++ x ++ (barrier ∷ [])) gs in
    let e : length (acc ++ x ++ (barrier ∷ [])) ≡ length acc + length x + 1 = simp length-append (omega arith) in
    let f : length ([] ++ x ++ (barrier ∷ [])) ≡ length x + 1 = simp length-append (omega arith) in
    omega arith

pub closed-cons : (x : Group) (gs : List Group) → length (closed (x ∷ gs)) ≡ length x + 1 + length (closed gs)
closed-cons x gs =
    let f : length ([] ++ x ++ (barrier ∷ [])) ≡ length x + 1 = simp length-append (omega arith) in
    length-after ([] ++ x ++ (barrier ∷ [])) gs ∙ ap (λ n. n + length (closed gs)) f
