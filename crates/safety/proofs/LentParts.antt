-- T-11: the parts of sectors that a write asks for. Its steps put them into the records of a list, after which these are the records of data sectors whose
-- old bytes are those supplied: a sector that the span covers wholly has none. Assumes nothing.
use Prim.Native.Nat.{ℕ, zero, suc, ◌+◌, ◌*◌, ◌-◌, ◌/◌, ◌%◌, ◌≤◌, ◌<◌, min, max}
use mathlib.Core.Path.{◌≡◌, refl, sym, ap, ap₂, ◌∙◌, subst}
use mathlib.Core.Logic.{◌≢◌, ◌⊎◌, inl, inr}
use mathlib.Core.Bool.{Bool, true, false, cond, ◌&&◌}
use mathlib.Core.List.{List, [], ◌∷◌, ◌++◌, append_assoc}
use native.Mathlib.Omega.{arith}
use native.Mathlib.Decide.{dec_lt}
use native.Mathlib.Nat.{add-zero, zero-add}
use lib.Dec.{eqb, leb, ltb}
use lib.ListN.{length, get_or, length-append}
use lib.Seq.{ext_get_or}
use borrow.Author.Tests.{eq-eqb, ne_eqb, ltb-true, ltb-false, lt-ltb, le-leb}
use Rattle.model.specs.declared.Part.{Part}
use Rattle.model.specs.declared.Writing.{Writing}
use Rattle.model.specs.Answers.{Changed}
use Rattle.model.specs.Bytes.{bytes_from, put}
use Rattle.model.specs.Search.{tabulate, index_of}
use Rattle.model.specs.Geometry.{extent_sectors}
use Rattle.model.specs.Disk.{Disk}
use Rattle.model.specs.Catalogue.{Catalogue, is_free, free_extent, extent_of}
use Rattle.model.specs.WriteList.{Record, sector_write, barrier_number, record_size, contents_start, list_bytes, emit}
use Rattle.model.specs.Write.{touched_sectors, spliced, held_extents, file_sector_at}
use Rattle.model.specs.Lent.{is_asked, part_at, partly, partly_covered, write_asking, takes_write, write_taken, write_step, completed, write_step_list}
use Rattle.model.specs.Opened.{Bounded}
use Rattle.laws.proofs.Booleans.{and_yes, range-yes, range-no}
use Rattle.laws.proofs.Bytes.{length-bytes_from, length-put, get_or-bytes_from, get_or-put, get_or-put-same, get_or-put-other}
use Rattle.laws.proofs.Search.{length-tabulate, tabulate-ext, tabulate-split}
use Rattle.laws.proofs.WriteList.{emit-patched, emitted_then}
use Rattle.safety.specs.LentForms.{write_fed, write_answered}
use Rattle.safety.proofs.Extents.{rest_lt}
use Rattle.safety.proofs.Spliced.{spliced-at, length-spliced}
use Rattle.safety.proofs.LentRead.{lowest-inside, extent-asked, is-asked, extent-in}

-- ---- stores that lie apart

module _ (l : List ℕ) (a : ℕ) (u : List ℕ) (b : ℕ) (v : List ℕ) (apart : a + length u ≤ b) where
  apart-at : (i : ℕ) → i < length l → Dec (i < b) → get_or (put (put l b v) a u) i 0 ≡ get_or (put (put l a u) b v) i 0
  apart-at i h (yes k) =
      get_or-put (put l b v) a u i (rw (length-put l b v) h)
      ∙ ap (cond (leb a i && ltb i (a + length u)) (get_or u (i - a) 0)) (get_or-put-other l b v i (λ p q. omega arith))
      ∙ sym (get_or-put-other (put l a u) b v i (λ p q. omega arith) ∙ get_or-put l a u i h)
  apart-at i h (no k) =
      get_or-put-other (put l b v) a u i (λ p q. omega arith) ∙ get_or-put l b v i h
      ∙ sym (get_or-put (put l a u) b v i (rw (length-put l a u) h)
      ∙ ap (cond (leb b i && ltb i (b + length v)) (get_or v (i - b) 0)) (get_or-put-other l a u i (λ p q. omega arith)))

  put-apart : put (put l b v) a u ≡ put (put l a u) b v
  put-apart =
      ext_get_or 0 (put (put l b v) a u) (put (put l a u) b v)
      (length-put (put l b v) a u ∙ length-put l b v ∙ sym (length-put (put l a u) b v ∙ length-put l a u))
      (λ i k. apart-at i (omega (arith, length-put (put l b v) a u, length-put l b v)) (dec_lt i b))

-- ---- a record's contents completed

emit-more : (l : List ℕ) (k : ℕ) (a b : List Record) → emit (emit l k a) (k + length a) b ≡ emit l k (a ++ b)
emit-more l k a b =
    (emitted_then {l = l} {m = emit l k a} {k = k} {j = k + length a} {j' = k + length a + length b} {a = a} {b = b}
    (record { holds = refl; next = refl }) (record { holds = refl; next = refl })).holds

-- the bytes of y before `from` and from `to` on
abbrev around : List ℕ → ℕ → ℕ → List ℕ → List ℕ
around x from to y = put (put x 0 (bytes_from y 0 from)) to (bytes_from y to (512 - to))

module _ (l : List ℕ) (s : ℕ) (x y : List ℕ) (p : Part) (whole : length x ≡ 512) (order : p.from ≤ p.to) (inside : p.to ≤ 512) where
  abbrev place : ℕ
  place = p.position * record_size + contents_start

  abbrev u : List ℕ
  u = bytes_from y 0 p.from

  abbrev v : List ℕ
  v = bytes_from y p.to (512 - p.to)

  short : length u ≡ p.from
  short = length-bytes_from y 0 p.from

  rest-short : length v ≡ 512 - p.to
  rest-short = length-bytes_from y p.to (512 - p.to)

  -- the last record of a list
  completed-last : completed p y (emit l p.position (sector_write s x ∷ [])) ≡ emit l p.position (sector_write s (around x p.from p.to y) ∷ [])
  unfolding completed
  completed-last =
      ap (λ (k : ℕ). put (put (emit l p.position (sector_write s x ∷ [])) k u) (place + p.to) v) (sym (add-zero place))
      ∙ ap (λ (m : List ℕ). put m (place + p.to) v) (emit-patched l p.position s x 0 u whole (omega (arith, short)))
      ∙ emit-patched l p.position s (put x 0 u) p.to v (length-put x 0 u ∙ whole) (omega (arith, rest-short))

  -- one with others behind it
  completed-before : (b : List Record) → completed p y (emit (emit l p.position (sector_write s x ∷ [])) (p.position + 1) b)
      ≡ emit (emit l p.position (sector_write s (around x p.from p.to y) ∷ [])) (p.position + 1) b
  unfolding completed emit
  completed-before b =
      let m = emit l p.position (sector_write s x ∷ []) in
      let k = (p.position + 1) * record_size in
      let bs = list_bytes (p.position + 1) b in
      ap (λ (z : List ℕ). put z (place + p.to) v) (put-apart m place u k bs (omega (arith, short)))
      ∙ put-apart (put m place u) (place + p.to) v k bs (omega (arith, rest-short))
      ∙ ap (λ (z : List ℕ). put z k bs) completed-last

-- in the middle of a list
completed-in : (l : List ℕ) (a b : List Record) (s : ℕ) (x y : List ℕ) (p : Part) → length x ≡ 512 → p.from ≤ p.to → p.to ≤ 512 → length a ≡ p.position
    → completed p y (emit l 0 (a ++ (sector_write s x ∷ []) ++ b)) ≡ emit l 0 (a ++ (sector_write s (around x p.from p.to y) ∷ []) ++ b)
completed-in l a b s x y p whole order inside at =
    ap (completed p y) (parts (sector_write s x)) ∙ completed-before (emit l 0 a) s x y p whole order inside b ∙ sym (parts (sector_write s (around x p.from p.to y)))
  where
    parts : (r : Record) → emit l 0 (a ++ (r ∷ []) ++ b) ≡ emit (emit (emit l 0 a) p.position (r ∷ [])) (p.position + 1) b
    parts r =
        let e : 0 + length a ≡ p.position = omega arith in
        let f : 0 + length (a ++ (r ∷ [])) ≡ p.position + 1 = simp length-append (omega arith) in
        sym (emit-more l 0 (a ++ (r ∷ [])) b)
        ∙ ap₂ (λ (m : List ℕ) (k : ℕ). emit m k b) (sym (emit-more l 0 a (r ∷ [])) ∙ ap (λ (k : ℕ). emit (emit l 0 a) k (r ∷ [])) e) f

-- ---- a touched sector with the old bytes of another: those outside the span put in, it is spliced into the other

module _ (offset : ℕ) (bytes : List ℕ) (s : ℕ) (old new : List ℕ) (whole : length old ≡ 512) (supplied : length new ≡ 512) where
  abbrev n : ℕ
  n = length bytes

  abbrev from : ℕ
  from = max offset (512 * s) - 512 * s

  abbrev to : ℕ
  to = min (offset + n) (512 * s + 512) - 512 * s

  -- a byte of the span, and one outside it
  spliced-yes : (x : List ℕ) → length x ≡ 512 → (j : ℕ) → j < 512 → offset ≤ 512 * s + j → 512 * s + j < offset + n
      → get_or (spliced offset bytes s x) j 0 ≡ get_or bytes (512 * s + j - offset) 0
  spliced-yes x w j h a b =
      spliced-at offset bytes s x j w h
      ∙ ap (λ (t : Bool). cond t (get_or bytes (512 * s + j - offset) 0) (get_or x j 0)) (range-yes offset (offset + n) (512 * s + j) a b)

  spliced-no : (x : List ℕ) → length x ≡ 512 → (j : ℕ) → j < 512 → (offset ≤ 512 * s + j → 512 * s + j < offset + n → ⊥)
      → get_or (spliced offset bytes s x) j 0 ≡ get_or x j 0
  spliced-no x w j h a =
      spliced-at offset bytes s x j w h
      ∙ ap (λ (t : Bool). cond t (get_or bytes (512 * s + j - offset) 0) (get_or x j 0)) (range-no offset (offset + n) (512 * s + j) a)

  long : length (spliced offset bytes s new) ≡ 512
  long = length-spliced offset bytes s new ∙ supplied

  -- one that the span covers wholly has no old bytes
  spliced-covered : 512 ≤ (min (offset + length bytes) (512 * s + 512) - 512 * s) - (max offset (512 * s) - 512 * s) → spliced offset bytes s old ≡ spliced offset bytes s new
  spliced-covered c =
      let a : offset ≤ 512 * s = omega arith in
      let b : 512 * s + 512 ≤ offset + n = omega arith in
      ext_get_or 0 (spliced offset bytes s old) (spliced offset bytes s new) (length-spliced offset bytes s old ∙ whole ∙ sym long)
      (λ j k.
      let h : j < 512 = omega (arith, length-spliced offset bytes s old) in
      spliced-yes old whole j h (omega arith) (omega arith) ∙ sym (spliced-yes new supplied j h (omega arith) (omega arith)))

  module _ (touched : 512 * s < offset + length bytes) (reached : offset < 512 * s + 512) (some_bytes : 0 < length bytes) where
    abbrev before : List ℕ
    before = bytes_from new 0 from

    abbrev behind : List ℕ
    behind = bytes_from new to (512 - to)

    abbrev first : List ℕ
    first = put (spliced offset bytes s old) 0 before

    first-long : length first ≡ 512
    first-long = length-put (spliced offset bytes s old) 0 before ∙ length-spliced offset bytes s old ∙ whole

    before-long : length before ≡ from
    before-long = length-bytes_from new 0 from

    behind-long : length behind ≡ 512 - to
    behind-long = length-bytes_from new to (512 - to)

    in_order : from ≤ to
    in_order = omega arith

    around-at : (j : ℕ) → j < 512 → Dec (j < from) → Dec (j < to) → get_or (put first to behind) j 0 ≡ get_or (spliced offset bytes s new) j 0
    around-at j h (yes a) b =
        let o : from ≤ to = in_order in
        let q : 512 * s + j < offset = omega arith in
        get_or-put-other first to behind j (λ x y. omega arith)
        ∙ ap (λ (k : ℕ). get_or first k 0) (sym (zero-add j))
        ∙ get_or-put-same (spliced offset bytes s old) 0 before j (omega (arith, before-long)) (omega (arith, length-spliced offset bytes s old))
        ∙ get_or-bytes_from new 0 from j a ∙ ap (λ (k : ℕ). get_or new k 0) (zero-add j)
        ∙ sym (spliced-no new supplied j h (λ x y. omega arith))
    around-at j h (no a) (yes b) =
        let q : offset ≤ 512 * s + j = omega arith in
        let r : 512 * s + j < offset + n = omega arith in
        get_or-put-other first to behind j (λ x y. omega arith)
        ∙ get_or-put-other (spliced offset bytes s old) 0 before j (λ x y. omega (arith, before-long))
        ∙ spliced-yes old whole j h q r ∙ sym (spliced-yes new supplied j h q r)
    around-at j h (no a) (no b) =
        let q : offset + n ≤ 512 * s + j = omega arith in
        let e : to + (j - to) ≡ j = omega arith in
        ap (λ (k : ℕ). get_or (put first to behind) k 0) (sym e)
        ∙ get_or-put-same first to behind (j - to) (omega (arith, behind-long)) (omega (arith, first-long))
        ∙ get_or-bytes_from new to (512 - to) (j - to) (omega arith) ∙ ap (λ (k : ℕ). get_or new k 0) e
        ∙ sym (spliced-no new supplied j h (λ x y. omega arith))

    spliced-around : around (spliced offset bytes s old) (max offset (512 * s) - 512 * s) (min (offset + length bytes) (512 * s + 512) - 512 * s) new ≡ spliced offset bytes s new
    spliced-around =
        ext_get_or 0 (put first to behind) (spliced offset bytes s new) (length-put first to behind ∙ first-long ∙ sym long)
        (λ j k. around-at j (omega (arith, length-put first to behind, first-long)) (dec_lt j from) (dec_lt j to))

-- ---- steps

-- a part that can be asked for, and whose record stands in a list of so many bytes
pub record Asks (room : ℕ) (p : Part) : Type 0 where
  pub low : 0 < p.sector
  pub high : p.sector < barrier_number
  pub order : p.from ≤ p.to
  pub inside : p.to ≤ 512
  pub listed : p.position < room / record_size

abbrev pub AllAsk : ℕ → List Part → Type 0
AllAsk room [] = Unit {0}
AllAsk room (p ∷ ps) = Asks room p × AllAsk room ps

-- a list with all parts completed from a disk, in order
abbrev pub filled : Disk → List Part → List ℕ → List ℕ
filled d [] l = l
filled d (p ∷ ps) l = filled d ps (completed p (d p.sector) l)

length-completed : (p : Part) (y l : List ℕ) → length (completed p y l) ≡ length l
unfolding completed
length-completed p y l = length-put (put l _ (bytes_from y 0 p.from)) _ _ ∙ length-put l _ (bytes_from y 0 p.from)

-- no step where nothing is asked for
pub steps-none : (d : Disk) (m : ℕ) (w : Writing) (l : List ℕ) → w.wanted.sector ≡ 0 → write_fed m d w l ≡ (w, l)
unfolding write_fed
steps-none d zero w l e = refl
steps-none d (suc m) w l e = rw (eq-eqb w.wanted.sector 0 e) refl

module _ (d : Disk) (whole : (s : ℕ) → length (d s) ≡ 512) where
  takes : (w : Writing) (room : ℕ) → Asks room w.wanted → takes_write w (length (d w.wanted.sector)) room ≡ true
  unfolding takes_write
  takes w room q =
      let p = w.wanted in
      and_yes (is_asked p.sector (length (d p.sector)) && leb p.from p.to && leb p.to 512) (ltb p.position (room / record_size))
      (and_yes (is_asked p.sector (length (d p.sector)) && leb p.from p.to) (leb p.to 512)
      (and_yes (is_asked p.sector (length (d p.sector))) (leb p.from p.to) (is-asked p.sector _ q.low q.high (whole p.sector)) (le-leb p.from p.to q.order))
      (le-leb p.to 512 q.inside)) (lt-ltb p.position _ q.listed)

  step-taken : (m : ℕ) (w : Writing) (l : List ℕ) → Asks (length l) w.wanted → write_fed (suc m) d w l ≡ write_fed m d (write_taken w) (completed w.wanted (d w.wanted.sector) l)
  unfolding write_fed write_step write_step_list
  step-taken m w l q = rw (ne_eqb w.wanted.sector 0 (λ e. omega (arith, q.low)), takes w (length l) q) refl

  -- of an answer by which parts are asked for: two steps at most, then it is the answer and the list is whole
  module _ (a : Changed) (done : a.verdict.number ≡ 0) where
    answered : record { verdict = record { number = 0; fault = a.verdict.fault; place = a.verdict.place }; length = a.length } ≡ a
    answered = λ j. record { verdict = record { number = sym done j; fault = a.verdict.fault; place = a.verdict.place }; length = a.length }

    abbrev pub Settles : Writing × List ℕ → List ℕ → Type 0
    Settles x l = (write_answered x.0 ≡ a) × (x.1 ≡ l)

    pub settled : (ps : List Part) (l : List ℕ) → length ps ≤ 2 → AllAsk (length l) ps → Settles (write_fed 2 d (write_asking a ps) l) (filled d ps l)
    unfolding write_asking
    settled [] l h q = subst (λ x. Settles x l) (sym (steps-none d 2 (write_asking a []) l refl)) (refl, refl)
    settled (p ∷ []) l h q =
        let m = completed p (d p.sector) l in
        let w = write_asking a (p ∷ []) in
        subst (λ x. Settles x m) (sym (step-taken 1 w l q.0 ∙ steps-none d 1 (write_taken w) m refl)) (answered, refl)
    settled (p ∷ r ∷ []) l h q =
        let m = completed p (d p.sector) l in
        let w = write_asking a (p ∷ r ∷ []) in
        let k = completed r (d r.sector) m in
        subst (λ x. Settles x k)
        (sym (step-taken 1 w l q.0
        ∙ step-taken 0 (write_taken w) m (subst (λ n. Asks n r) (sym (length-completed p (d p.sector) l)) q.1.0)
        ∙ steps-none d 0 (write_taken (write_taken w)) k refl)) (answered, refl)
    settled (p ∷ r ∷ t ∷ ps) l h q = absurd (omega arith)

-- ---- the data sectors' records, by the old bytes of each

-- the bytes of a touched sector that the span covers
ends : (offset n base : ℕ) → base < offset + n → offset < base + 512 → 0 < n
    → (max offset base - base ≤ min (offset + n) (base + 512) - base) × (min (offset + n) (base + 512) - base ≤ 512)
ends offset n base a b c = (omega arith, omega arith)

-- a sector between the first and the last is covered wholly
between : (offset n k : ℕ) → 0 < k → suc k < touched_sectors offset n
    → 512 ≤ (min (offset + n) (512 * (offset / 512 + k) + 512) - 512 * (offset / 512 + k)) - (max offset (512 * (offset / 512 + k)) - 512 * (offset / 512 + k))
between offset n k a h =
    let s = offset / 512 + k in
    let p : offset ≤ 512 * s = omega arith in
    let q : 512 * s + 512 ≤ offset + n = omega arith in
    omega arith

-- a file's sector, in an extent that it has or in the one that is taken, can be asked for
place-asked : (c : Catalogue) → Bounded c.geometry → (i s : ℕ) → (0 < file_sector_at c i s) × (file_sector_at c i s < barrier_number)
unfolding file_sector_at free_extent
place-asked c b i s =
    extent-asked c.geometry b (extent (ltb o (held_extents c i))) (s % extent_sectors c.geometry) (inside (ltb o (held_extents c i))) (rest_lt c.geometry b s)
  where
    o : ℕ
    o = s / extent_sectors c.geometry

    extent : Bool → ℕ
    extent t = cond t (extent_of c i o) (index_of (free_extent c))

    inside : (t : Bool) → extent t < c.geometry.extents
    inside true = extent-in c b i o
    inside false = lowest-inside (λ e. is_free (c.table e)) c.geometry.extents (omega (arith, b.extents-low))

-- one of them is other bytes
abbrev with_at : (ℕ → List ℕ) → ℕ → List ℕ → ℕ → List ℕ
with_at old k x s = cond (eqb s k) x (old s)

at_here : (old : ℕ → List ℕ) (k : ℕ) (x : List ℕ) → with_at old k x k ≡ x
at_here old k x = ap (λ (t : Bool). cond t x (old k)) (eq-eqb k k refl)

at_other : (old : ℕ → List ℕ) (k : ℕ) (x : List ℕ) (s : ℕ) → s ≢ k → with_at old k x s ≡ old s
at_other old k x s ne = ap (λ (t : Bool). cond t x (old s)) (ne_eqb s k ne)

module _ (c : Catalogue) (i offset : ℕ) (bytes : List ℕ) (some_bytes : 0 < length bytes) where
  abbrev pub record_of : (ℕ → List ℕ) → ℕ → Record
  record_of old s = sector_write (file_sector_at c i s) (spliced offset bytes s (old s))

  abbrev pub start : ℕ
  start = offset / 512

  abbrev pub count : ℕ
  count = touched_sectors offset (length bytes)

  abbrev pub part : ℕ → Part
  part k = part_at c i offset (length bytes) k

  abbrev pub Whole : (ℕ → List ℕ) → Type 0
  Whole old = (s : ℕ) → length (old s) ≡ 512

  abbrev pub listed : (ℕ → List ℕ) → List ℕ → List Record → List ℕ
  listed old l rest = emit l 0 (tabulate (record_of old) start count ++ rest)

  -- the k-th of them, the ones before it and those behind
  parts : (old : ℕ → List ℕ) (k : ℕ) (rest : List Record) → k < count
      → tabulate (record_of old) start count ++ rest
      ≡ tabulate (record_of old) start k ++ (record_of old (start + k) ∷ []) ++ (tabulate (record_of old) (start + suc k) (count - suc k) ++ rest)
  unfolding tabulate
  parts old k rest h =
      let e : count ≡ suc k + (count - suc k) = omega arith in
      ap (λ (n : ℕ). tabulate (record_of old) start n ++ rest) e
      ∙ ap (λ (x : List Record). x ++ rest) (tabulate-split (record_of old) start (suc k) (count - suc k))
      ∙ append_assoc (tabulate (record_of old) start k ++ (record_of old (start + k) ∷ [])) (tabulate (record_of old) (start + suc k) (count - suc k)) rest

  -- the k-th completed from bytes y
  module _ (old : ℕ → List ℕ) (whole : Whole old) (k : ℕ) (h : k < count) (y : List ℕ) (supplied : length y ≡ 512) where
    abbrev s : ℕ
    s = start + k

    abbrev new : ℕ → List ℕ
    new = with_at old s y

    before_same : tabulate (record_of old) start k ≡ tabulate (record_of new) start k
    before_same =
        tabulate-ext (record_of old) (record_of new) start start k
        (λ j q. ap (λ (x : List ℕ). sector_write (file_sector_at c i (start + j)) (spliced offset bytes (start + j) x)) (sym (at_other old s y (start + j) (λ e. omega arith))))

    behind-same : tabulate (record_of old) (start + suc k) (count - suc k) ≡ tabulate (record_of new) (start + suc k) (count - suc k)
    behind-same =
        tabulate-ext (record_of old) (record_of new) (start + suc k) (start + suc k) (count - suc k)
        (λ j q. ap (λ (x : List ℕ). sector_write (file_sector_at c i (start + suc k + j)) (spliced offset bytes (start + suc k + j) x)) (sym (at_other old s y (start + suc k + j) (λ e. omega arith))))

    here-same : spliced offset bytes s y ≡ spliced offset bytes s (new s)
    here-same = ap (spliced offset bytes s) (sym (at_here old s y))

    completed-one : (l : List ℕ) (rest : List Record) → completed (part k) y (listed old l rest) ≡ listed new l rest
    completed-one l rest =
        let t : 512 * s < offset + length bytes = omega arith in
        let r : offset < 512 * s + 512 = omega arith in
        ap (λ (x : List Record). completed (part k) y (emit l 0 x)) (parts old k rest h)
        ∙ completed-in l (tabulate (record_of old) start k) (tabulate (record_of old) (start + suc k) (count - suc k) ++ rest) (file_sector_at c i s) (spliced offset bytes s (old s)) y (part k)
        (length-spliced offset bytes s (old s) ∙ whole s) (ends offset (length bytes) (512 * s) t r some_bytes).0 (ends offset (length bytes) (512 * s) t r some_bytes).1
        (length-tabulate (record_of old) start k)
        ∙ ap (λ (x : List ℕ). emit l 0 (tabulate (record_of old) start k ++ (sector_write (file_sector_at c i s) x ∷ []) ++ (tabulate (record_of old) (start + suc k) (count - suc k) ++ rest)))
        (spliced-around offset bytes s (old s) y (whole s) supplied t r some_bytes ∙ here-same)
        ∙ ap₂ (λ (x z : List Record). emit l 0 (x ++ (record_of new s ∷ []) ++ (z ++ rest))) before_same behind-same
        ∙ ap (emit l 0) (sym (parts new k rest h))

    whole-new : Whole new
    whole-new j = go (eqb j s)
      where
        go : (b : Bool) → length (cond b y (old j)) ≡ 512
        go true = supplied
        go false = whole j

  -- lists whose old bytes differ only where the span covers the sector wholly
  covered_same : (old new : ℕ → List ℕ) → Whole old → Whole new
      → ((k : ℕ) → k < count → (old (start + k) ≡ new (start + k)) ⊎ (512 ≤ (part k).to - (part k).from))
      → (l : List ℕ) (rest : List Record) → listed old l rest ≡ listed new l rest
  covered_same old new w v h l rest =
      ap (λ (x : List Record). emit l 0 (x ++ rest)) (tabulate-ext (record_of old) (record_of new) start start count (λ k q. go k (h k q)))
    where
      go : (k : ℕ) → (old (start + k) ≡ new (start + k)) ⊎ (512 ≤ (part k).to - (part k).from) → record_of old (start + k) ≡ record_of new (start + k)
      go k (inl e) = ap (λ (x : List ℕ). sector_write (file_sector_at c i (start + k)) (spliced offset bytes (start + k) x)) e
      go k (inr e) = ap (sector_write (file_sector_at c i (start + k))) (spliced-covered offset bytes (start + k) (old (start + k)) (new (start + k)) (w (start + k)) (v (start + k)) e)

  -- ---- the first and the last of them, as far as they are asked for

  module _ (b : Bounded c.geometry) (d : Disk) (full : (s : ℕ) → length (d s) ≡ 512) (old : ℕ → List ℕ) (whole : Whole old) (room : ℕ) (fits : count ≤ room / record_size) where
    abbrev pub final : ℕ → List ℕ
    final s = d (file_sector_at c i s)

    abbrev Covered : ℕ → Type 0
    Covered k = 512 ≤ (part k).to - (part k).from

    abbrev Right : (ℕ → List ℕ) → ℕ → Type 0
    Right x k = (x (start + k) ≡ final (start + k)) ⊎ Covered k

    pub record Fills (ps : List Part) : Type 0 where
      pub few : length ps ≤ 2
      pub asks : AllAsk room ps
      pub fills : (l : List ℕ) (rest : List Record) → filled d ps (listed old l rest) ≡ listed final l rest

    part-asks : (k : ℕ) → k < count → Asks room (part k)
    part-asks k h =
        let q = place-asked c b i (start + k) in
        let t : 512 * (start + k) < offset + length bytes = omega arith in
        let r : offset < 512 * (start + k) + 512 = omega arith in
        record {
          low = q.0;
          high = q.1;
          order = (ends offset (length bytes) (512 * (start + k)) t r some_bytes).0;
          inside = (ends offset (length bytes) (512 * (start + k)) t r some_bytes).1;
          listed = omega arith;
        }

    -- right at both ends, right everywhere
    right-all : (x : ℕ → List ℕ) → Right x 0 → Right x (count - 1) → (k : ℕ) → k < count → Right x k
    right-all x f t k h = go (dec_lt 0 k) (dec_lt (suc k) count)
      where
        go : Dec (0 < k) → Dec (suc k < count) → Right x k
        go (no a) q = subst (Right x) (let e : 0 ≡ k = omega arith in e) f
        go (yes a) (yes q) = inr (between offset (length bytes) k a q)
        go (yes a) (no q) = subst (Right x) (let e : count - 1 ≡ k = omega arith in e) t

    touched : 0 < count
    touched = omega arith

    last-in : count - 1 < count
    last-in = omega (arith, touched)

    abbrev first_done : ℕ → List ℕ
    first_done = with_at old (start + 0) (final (start + 0))

    whole-first : Whole first_done
    whole-first = whole-new old whole 0 touched (final (start + 0)) (full (file_sector_at c i (start + 0)))

    full-final : Whole final
    full-final s = full (file_sector_at c i s)

    -- the last one, after x
    abbrev both : (ℕ → List ℕ) → ℕ → List ℕ
    both x = with_at x (start + (count - 1)) (final (start + (count - 1)))

    right-last : (x : ℕ → List ℕ) → Right (both x) (count - 1)
    right-last x = inl (at_here x (start + (count - 1)) (final (start + (count - 1))))

    right-first : Right first_done 0
    right-first = inl (at_here old (start + 0) (final (start + 0)))

    whole-both : (x : ℕ → List ℕ) → Whole x → Whole (both x)
    whole-both x w = whole-new x w (count - 1) last-in (final (start + (count - 1))) (full (file_sector_at c i (start + (count - 1))))

    ends-right : (x : ℕ → List ℕ) → Whole x → Right x 0 → Right x (count - 1) → (l : List ℕ) (rest : List Record) → listed x l rest ≡ listed final l rest
    ends-right x w f t = covered_same x final w full-final (right-all x f t)

    fill-first : (l : List ℕ) (rest : List Record) → completed (part 0) (d (part 0).sector) (listed old l rest) ≡ listed first_done l rest
    fill-first = completed-one old whole 0 touched (final (start + 0)) (full (file_sector_at c i (start + 0)))

    fill-last : (x : ℕ → List ℕ) → Whole x → (l : List ℕ) (rest : List Record) → completed (part (count - 1)) (d (part (count - 1)).sector) (listed x l rest) ≡ listed (both x) l rest
    fill-last x w = completed-one x w (count - 1) last-in (final (start + (count - 1))) (full (file_sector_at c i (start + (count - 1))))

    -- where only one is touched it is the first and the last
    one_only : count ≤ 1 → (x : ℕ → List ℕ) → Right x 0 → Right x (count - 1)
    one_only h x f = subst (Right x) (let e : 0 ≡ count - 1 = omega (arith, touched) in e) f

    pub fills-covered : Fills (partly_covered c i offset (length bytes))
    unfolding partly_covered partly
    fills-covered = go (ltb ((part 0).to - (part 0).from) 512) refl (ltb 1 count) refl (ltb ((part (count - 1)).to - (part (count - 1)).from) 512) refl
      where
        go : (f : Bool) → ltb ((part 0).to - (part 0).from) 512 ≡ f → (m : Bool) → ltb 1 count ≡ m → (t : Bool) → ltb ((part (count - 1)).to - (part (count - 1)).from) 512 ≡ t
            → Fills (cond f (part 0 ∷ cond m (cond t (part (count - 1) ∷ []) []) []) (cond m (cond t (part (count - 1) ∷ []) []) []))
        go true p true q true r =
            let h : 1 < count = ltb-true 1 count q in
            record {
              few = omega arith;
              asks = (part-asks 0 touched, (part-asks (count - 1) last-in, tt));
              fills = λ l rest.
                  ap (completed (part (count - 1)) (d (part (count - 1)).sector)) (fill-first l rest) ∙ fill-last first_done whole-first l rest
                  ∙ ends-right (both first_done) (whole-both first_done whole-first)
                  (inl (at_other first_done (start + (count - 1)) (final (start + (count - 1))) (start + 0) (λ e. omega arith) ∙ at_here old (start + 0) (final (start + 0))))
                  (right-last first_done) l rest;
            }
        go true p true q false r =
            record {
              few = omega arith;
              asks = (part-asks 0 touched, tt);
              fills = λ l rest. fill-first l rest ∙ ends-right first_done whole-first right-first (inr (ltb-false _ 512 r)) l rest;
            }
        go true p false q t r =
            record {
              few = omega arith;
              asks = (part-asks 0 touched, tt);
              fills = λ l rest. fill-first l rest ∙ ends-right first_done whole-first right-first (one_only (ltb-false 1 count q) first_done right-first) l rest;
            }
        go false p true q true r =
            record {
              few = omega arith;
              asks = (part-asks (count - 1) last-in, tt);
              fills = λ l rest. fill-last old whole l rest ∙ ends-right (both old) (whole-both old whole) (inr (ltb-false _ 512 p)) (right-last old) l rest;
            }
        go false p true q false r =
            record { few = omega arith; asks = tt; fills = λ l rest. ends-right old whole (inr (ltb-false _ 512 p)) (inr (ltb-false _ 512 r)) l rest }
        go false p false q t r =
            record {
              few = omega arith;
              asks = tt;
              fills = λ l rest. ends-right old whole (inr (ltb-false _ 512 p)) (one_only (ltb-false 1 count q) old (inr (ltb-false _ 512 p))) l rest;
            }
