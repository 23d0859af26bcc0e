-- T-11: what lent sectors are refused, that a form that refuses asks for no sector, and what a wrong count of supplied bytes comes to. Assumes nothing.
use Prim.Native.Nat.{ℕ, ◌*◌, ◌-◌, ◌/◌, ◌%◌, ◌<◌, max}
use mathlib.Core.Path.{◌≡◌, refl, sym, ap, ap₂, ◌∙◌}
use mathlib.Core.Logic.{◌≢◌}
use mathlib.Core.Bool.{Bool, true, false, cond, not, ◌&&◌, ◌||◌}
use mathlib.Core.List.{List, [], ◌∷◌}
use mathlib.Core.Option.{Option, none}
use native.Mathlib.Omega.{arith}
use lib.Dec.{eqb, leb, ltb}
use lib.ListN.{length}
use borrow.Author.Tests.{ne_eqb, eqb-true, leb-true, leb-false, le-leb, lt-leb, lt-ltb, eq-eqb}
use Rattle.model.specs.declared.Geometry.{Geometry}
use Rattle.model.specs.Answers.{BytesRead, Changed, Recovered, Verdict}
use Rattle.model.specs.declared.Part.{Part}
use Rattle.model.specs.declared.Reading.{Reading}
use Rattle.model.specs.declared.Writing.{Writing}
use Rattle.model.specs.declared.Recovering.{Recovering}
use Rattle.model.specs.Search.{index_of}
use Rattle.model.specs.Geometry.{superblock_at, in_bounds, data_at, volume_sectors}
use Rattle.model.specs.Disk.{Disk, view}
use Rattle.model.specs.Superblock.{is_volume, geometry_in}
use Rattle.model.specs.Catalogue.{catalogue_of, file_named}
use Rattle.model.specs.Refusals.{Conditions, verdict_of, refusal, and_then, is_done, is_whole, fits_image, image_verdict, judged}
use Rattle.model.specs.WriteList.{barrier_number, Plan, Decision, groups_for, list_length, plan_conditions, decided, answer_of}
use Rattle.model.specs.Read.{read_count, size_named, read_decision, not_read, read_of, read_answer}
use Rattle.model.specs.Write.{write_planned, write_conditions, write_decision, write_answer}
use Rattle.model.specs.Resize.{resize_planned, resize_conditions, resize_decision, resize_answer}
use Rattle.model.specs.Recovery.{recovery_groups, recovery_verdict, recovery_listed, recovery_answer}
use Rattle.model.specs.Lent.{is_front, lent_length, read_idle, read_asking, read_begun, read_lent, partly_covered, write_asking, write_lent, resize_lent, recovery_idle, recovery_asking, recovery_lent}
use Rattle.model.specs.Lent.{is_asked, takes_read, read_not_taken, read_step, read_step_output, takes_write, write_not_taken, write_step, write_step_list}
use Rattle.model.specs.Lent.{takes_source, source_not_taken, recovery_step, recovery_step_list}
use Rattle.laws.proofs.Booleans.{and-false, and_yes}
use Rattle.safety.specs.LentForms.{goes_by, LentRefusals, RefusedBefore, WrongCount}

-- ---- 1 to 3

abbrev by3 : Bool → Bool → Bool → Verdict
by3 a b c = verdict_of ((not a, refusal 1) ∷ (not b, refusal 2) ∷ (not c, refusal 3) ∷ [])

not-whole : (v x y : Bool) → by3 false v x ≡ by3 false v y
unfolding verdict_of
not-whole v x y = refl

-- a count of 0 stands for 1, and a volume has more sectors
least-one : (v count : ℕ) → 1 < v → leb v (512 * max 1 count / 512) ≡ (leb v count && true)
least-one v count h = go (leb v count) refl
  where
    go : (b : Bool) → leb v count ≡ b → leb v (512 * max 1 count / 512) ≡ (b && true)
    go true e = le-leb v (512 * max 1 count / 512) (omega (arith, leb-true v count e))
    go false e = lt-leb v (512 * max 1 count / 512) (omega (arith, leb-false v count e))

whole-count : (count : ℕ) → is_whole (512 * max 1 count) ≡ true
unfolding is_whole
whole-count count =
    and_yes (ltb 0 (512 * max 1 count)) (eqb (512 * max 1 count % 512) 0) (lt-ltb 0 (512 * max 1 count) (omega arith)) (eq-eqb (512 * max 1 count % 512) 0 (omega arith))

module _ (front : List ℕ) (count : ℕ) where
  abbrev g : Geometry
  g = geometry_in (view front superblock_at)

  refused-by : (v w b r : Bool) → is_whole (length front) ≡ w → leb (data_at g) (length front / 512) ≡ r
      → (let n = cond (w && b && r) (512 * max 1 count) (length front) in
      by3 (is_whole n) v (b && leb (volume_sectors g) (n / 512)) ≡ by3 w v (b && leb (volume_sectors g) count && r))
  refused-by v false b r ew er =
      ap (λ (a : Bool). by3 a v (b && leb (volume_sectors g) (length front / 512))) ew
      ∙ not-whole v (b && leb (volume_sectors g) (length front / 512)) (b && leb (volume_sectors g) count && r)
  refused-by v true false r ew er = ap (λ (a : Bool). by3 a v false) ew
  refused-by v true true true ew er = ap₂ (λ (a c : Bool). by3 a v c) (whole-count count) (least-one (volume_sectors g) count (omega arith))
  refused-by v true true false ew er =
      ap₂ (λ (a c : Bool). by3 a v c) ew
      (lt-leb (volume_sectors g) (length front / 512) (omega (arith, leb-false (data_at g) (length front / 512) er)) ∙ sym (and-false (leb (volume_sectors g) count)))

  refused_as : image_verdict (goes_by front count) (view front)
      ≡ by3 (is_whole (length front)) (is_volume (view front superblock_at))
      (in_bounds g && leb (volume_sectors g) count && leb (data_at g) (length front / 512))
  unfolding image_verdict fits_image lent_length is_front
  refused_as =
      refused-by (is_volume (view front superblock_at)) (is_whole (length front)) (in_bounds g) (leb (data_at g) (length front / 512)) refl refl

-- LENT SECTORS ARE REFUSED 1 TO 3 SO
pub lent-refusals : LentRefusals
unfolding LentRefusals
lent-refusals front count = refused_as front count

-- ---- what refuses asks for nothing

module _ (len : ℕ) (d : Disk) where
  -- a decision that refuses has no list
  refused-list : (cs : Conditions) (plan : Option Plan) (room : ℕ) → (decided len d cs plan room).verdict.number ≢ 0 → (answer_of d (decided len d cs plan room)).length ≡ 0
  unfolding decided groups_for
  refused-list cs plan room ne =
      let v = and_then (judged len d) (and_then (verdict_of cs) (verdict_of (plan_conditions d plan room))) in
      ap (λ (b : Bool). list_length (groups_for d (cond b plan none))) (ne_eqb v.number 0 ne)

  none-asked : (a : Changed) (ps : List Part) → a.length ≡ 0 → (write_asking a (cond (eqb a.length 0) [] ps)).wanted.sector ≡ 0
  unfolding write_asking
  none-asked a ps e = ap (λ (b : Bool). (write_asking a (cond b [] ps)).wanted.sector) (eq-eqb a.length 0 e)

  none-asked-or : (a : Changed) (t : Bool) (ps : List Part) → a.length ≡ 0 → (write_asking a (cond (eqb a.length 0 || t) [] ps)).wanted.sector ≡ 0
  unfolding write_asking
  none-asked-or a t ps e = ap (λ (b : Bool). (write_asking a (cond (b || t) [] ps)).wanted.sector) (eq-eqb a.length 0 e)

  refused-read : (name : List ℕ) (offset asked time room space : ℕ) → (read_lent len d name offset asked time room space).code ≢ 0
      → (read_lent len d name offset asked time room space).wanted ≡ 0
  unfolding read_lent read_answer read_of read_begun
  refused-read name offset asked time room space = go (is_done x.verdict) refl
    where
      x : Decision
      x = read_decision len d name offset asked time room space

      i : ℕ
      i = index_of (file_named (catalogue_of d) name)

      given-as : Bool → BytesRead
      given-as b =
          cond b (record { verdict = x.verdict; count = read_count (size_named (catalogue_of d) name) offset asked; length = list_length (groups_for d x.plan) }) (not_read x.verdict)

      done-code : (b : Bool) (a : BytesRead) → (cond b (read_idle a) (read_asking (catalogue_of d) i offset a)).code ≡ a.verdict.number
      done-code true a = refl
      done-code false a = refl

      go : (b : Bool) → is_done x.verdict ≡ b → (read_begun (catalogue_of d) i offset (given-as b)).code ≢ 0 → (read_begun (catalogue_of d) i offset (given-as b)).wanted ≡ 0
      go true e ne = absurd (ne (done-code (eqb (given-as true).count 0) (given-as true) ∙ eqb-true x.verdict.number 0 e))
      go false e ne = refl

  refused-write : (name : List ℕ) (offset : ℕ) (bytes : List ℕ) (time room : ℕ) → (write_lent len d name offset bytes time room).code ≢ 0
      → (write_lent len d name offset bytes time room).wanted.sector ≡ 0
  unfolding write_lent write_asking write_answer write_decision
  refused-write name offset bytes time room ne =
      let c = catalogue_of d in
      let i = index_of (file_named c name) in
      none-asked (write_answer len d name offset bytes time room) (partly_covered c i offset (length bytes))
      (refused-list (write_conditions c name offset (length bytes) time) (write_planned c i d offset bytes time) room ne)

  refused-resize : (name : List ℕ) (z time room : ℕ) → (resize_lent len d name z time room).code ≢ 0 → (resize_lent len d name z time room).wanted.sector ≡ 0
  unfolding resize_lent write_asking resize_answer resize_decision
  refused-resize name z time room ne =
      let c = catalogue_of d in
      let i = index_of (file_named c name) in
      let size = size_named c name in
      none-asked-or (resize_answer len d name z time room) (ltb z size) (partly_covered c i size (z - size))
      (refused-list (resize_conditions c name z time) (resize_planned c d i z time) room ne)

  refused-recovery : (room : ℕ) → (recovery_lent len d room).code ≢ 0 → (recovery_lent len d room).wanted ≡ 0
  unfolding recovery_lent recovery_answer recovery_listed
  refused-recovery room = go (is_done (recovery_verdict len d room)) refl
    where
      v : Verdict
      v = recovery_verdict len d room

      given-as : Bool → Recovered
      given-as b = record { number = v.number; length = list_length (cond b (recovery_groups d) []) }

      done-code : (b : Bool) (a : Recovered) → (cond b (recovery_idle a) (recovery_asking d a)).code ≡ a.number
      done-code true a = refl
      done-code false a = refl

      go : (b : Bool) → is_done v ≡ b → (cond (eqb (given-as b).length 0) (recovery_idle (given-as b)) (recovery_asking d (given-as b))).code ≢ 0
          → (cond (eqb (given-as b).length 0) (recovery_idle (given-as b)) (recovery_asking d (given-as b))).wanted ≡ 0
      go true e ne = absurd (ne (done-code (eqb (given-as true).length 0) (given-as true) ∙ eqb-true v.number 0 e))
      go false e ne = refl

-- "WHAT THE LENT SECTORS AND THE ARGUMENTS ALREADY REFUSE IS REFUSED BEFORE A SECTOR IS ASKED FOR"
pub refused-before : RefusedBefore
unfolding RefusedBefore
refused-before len d name =
    (refused-read len d name, refused-write len d name, refused-resize len d name, refused-recovery len d)

-- ---- a wrong count of supplied bytes

not-asked : (s n : ℕ) → n ≢ 512 → is_asked s n ≡ false
unfolding is_asked
not-asked s n h = rw (ne_eqb n 512 h) (and-false (ltb 0 s && ltb s barrier_number))

module _ (n room : ℕ) (h : n ≢ 512) where
  read-refused : (r : Reading) → takes_read r n room ≡ false
  unfolding takes_read
  read-refused r = rw (not-asked r.wanted n h) refl

  write-refused : (w : Writing) → takes_write w n room ≡ false
  unfolding takes_write
  write-refused w = rw (not-asked w.wanted.sector n h) refl

  source-refused : (d : Disk) (len : ℕ) (v : Recovering) → takes_source d len v n room ≡ false
  unfolding takes_source
  source-refused d len v = rw (not-asked v.wanted n h) refl

-- a step that is not taken leaves the next one as it was
read_again : (r : Reading) (n room : ℕ) → read_step (read_not_taken r) n room ≡ read_step r n room
unfolding read_step takes_read
read_again r n room = refl

write_again : (w : Writing) (n room : ℕ) → write_step (write_not_taken w) n room ≡ write_step w n room
unfolding write_step takes_write
write_again w n room = refl

source-again : (d : Disk) (len : ℕ) (v : Recovering) (n room : ℕ) → recovery_step d len (source_not_taken d v) n room ≡ recovery_step d len v n room
unfolding recovery_step takes_source
source-again d len v n room = refl

module _ (bytes l : List ℕ) (h : length bytes ≢ 512) where
  read_is : (r : Reading) → read_step r (length bytes) (length l) ≡ read_not_taken r
  unfolding read_step
  read_is r = rw (read-refused (length bytes) (length l) h r) refl

  read_stays : (r : Reading) → read_step_output r bytes l ≡ l
  unfolding read_step_output
  read_stays r = rw (read-refused (length bytes) (length l) h r) refl

  write-is : (w : Writing) → write_step w (length bytes) (length l) ≡ write_not_taken w
  unfolding write_step
  write-is w = rw (write-refused (length bytes) (length l) h w) refl

  write-stays : (w : Writing) → write_step_list w bytes l ≡ l
  unfolding write_step_list
  write-stays w = rw (write-refused (length bytes) (length l) h w) refl

  source_is : (d : Disk) (len : ℕ) (v : Recovering) → recovery_step d len v (length bytes) (length l) ≡ source_not_taken d v
  unfolding recovery_step
  source_is d len v = rw (source-refused (length bytes) (length l) h d len v) refl

  source_stays : (d : Disk) (len : ℕ) (v : Recovering) → recovery_step_list d len v bytes l ≡ l
  unfolding recovery_step_list
  source_stays d len v = rw (source-refused (length bytes) (length l) h d len v) refl

pub wrong-count : WrongCount
unfolding WrongCount
wrong-count bytes l h = (
  λ r. (
    ap (λ (x : Reading). x.code) (read_is bytes l h r),
    read_stays bytes l h r,
    λ n room. ap (λ (x : Reading). read_step x n room) (read_is bytes l h r) ∙ read_again r n room,
  ),
  λ w. (
    ap (λ (x : Writing). x.code) (write-is bytes l h w),
    write-stays bytes l h w,
    λ n room. ap (λ (x : Writing). write_step x n room) (write-is bytes l h w) ∙ write_again w n room,
  ),
  λ d len v. (
    ap (λ (x : Recovering). x.code) (source_is bytes l h d len v),
    source_stays bytes l h d len v,
    λ n room. ap (λ (x : Recovering). recovery_step d len x n room) (source_is bytes l h d len v) ∙ source-again d len v n room,
  ),
)
