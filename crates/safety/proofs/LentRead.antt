-- T-11: a read to which the data sectors that it asks for are supplied gives the file's bytes; it asks for the sectors of its span in file order. Assumes
-- nothing.
use Prim.Native.Nat.{ℕ, zero, suc, ◌+◌, ◌*◌, ◌-◌, ◌/◌, ◌%◌, ◌≤◌, ◌<◌, min}
use mathlib.Core.Path.{◌≡◌, refl, sym, ap, ap₂, ◌∙◌}
use mathlib.Core.Logic.{◌≢◌}
use mathlib.Core.Bool.{Bool, true, false, cond, ◌&&◌}
use mathlib.Core.List.{List, [], ◌∷◌, ◌++◌}
use mathlib.Core.Option.{Option, none}
use native.Mathlib.Omega.{arith}
use native.Mathlib.Decide.{dec_lt}
use native.Mathlib.Nat.{add-zero, div-add-mod', mod-lt, suc-mul, mul-le-mul_right, mul_left_comm}
use lib.Arith.{digits_div, digits_mod}
use lib.Dec.{eqb, leb, ltb}
use lib.ListN.{length, get_or}
use borrow.Author.Tests.{eqb-true, eqb-false, eq-eqb, ne_eqb, ltb-false, lt-ltb, le-leb}
use Rattle.model.specs.declared.Geometry.{Geometry}
use Rattle.std.specs.Prelude.{Some, None}
use Rattle.model.specs.Answers.{BytesRead, Verdict}
use Rattle.model.specs.declared.Reading.{Reading}
use Rattle.model.specs.Bytes.{bytes_from, put}
use Rattle.model.specs.Search.{Lowest, first, tabulate, index_of}
use Rattle.model.specs.Geometry.{extent_sectors, extent_bytes, extent_at, superblock_at}
use Rattle.model.specs.Disk.{Disk, view}
use Rattle.model.specs.Superblock.{geometry_in}
use Rattle.model.specs.Entry.{bad_name}
use Rattle.model.specs.Catalogue.{Catalogue, catalogue_of, file_named, is_part, extent_of, sector_of, file_byte, file_bytes}
use Rattle.model.specs.Refusals.{Conditions, verdict_of, and_then, is_done, judged}
use Rattle.model.specs.WriteList.{barrier_number, Plan, groups_for, list_length, plan_conditions, decided}
use Rattle.model.specs.Read.{longest_transfer, read_count, size_named, read_conditions, read_planned, read_decision, not_read, read_of, read_answer, read_gives}
use Rattle.model.specs.Resize.{zeros}
use Rattle.model.specs.Write.{touched_sectors}
use Rattle.model.specs.Lent.{is_asked, read_idle, read_asking, read_begun, read_lent, read_part, takes_read, read_taken, read_step, read_step_output}
use Rattle.model.specs.Ledger.{read, Answer, gave}
use Rattle.model.specs.Run.{on_volume, volume_answer}
use Rattle.model.specs.Opened.{Bounded}
use Rattle.model.proofs.Areas.{bounds}
use Rattle.laws.proofs.Booleans.{and_yes}
use Rattle.laws.proofs.Bytes.{length-bytes_from, length-put, put-nil, put-append, bytes_from-put-same}
use Rattle.laws.proofs.Search.{Hit, scan-hit, length-tabulate, tabulate-split}
use Rattle.laws.proofs.Disk.{length-view}
use Rattle.laws.proofs.Refusals.{image-fits}
use Rattle.laws.proofs.Judged.{judged-image}
use Rattle.laws.proofs.RenameSet.{tabulate-front}
use Rattle.safety.specs.LentForms.{Lends, goes_by, read_fed, read_asked, read_steps, read_answered, lent_answer, LentCall, ReadOrder}
use Rattle.safety.proofs.Searches.{or-right-no}
use Rattle.safety.proofs.Bounds.{usable-geometry}
use Rattle.safety.proofs.Changing.{Passed, passed-by, earlier-done, later-done}
use Rattle.safety.proofs.Extents.{extent-sector, rest_lt}
use Rattle.safety.proofs.LentFront.{same-catalogue, lent-agrees, lent-image}
use Rattle.safety.proofs.LentCalls.{same-read-answer, lent-read-list}

-- ---- sectors that can be asked for

-- the lowest index that passes a test, 0 where none does, is below the bound
pub lowest-inside : (p : ℕ → Bool) (n : ℕ) → 0 < n → index_of (first p n) < n
lowest-inside p n h = go (first p n) (scan-hit p (n - 0) 0)
  where
    go : (r : Lowest) → Hit p (n - 0) 0 r → index_of r < n
    go (Some k) q = omega (arith, q.1)
    go None q = h

-- sector r of an extent of the volume
pub extent-asked : (g : Geometry) → Bounded g → (e r : ℕ) → e < g.extents → r < extent_sectors g → (0 < extent_at g e + r) × (extent_at g e + r < barrier_number)
extent-asked g b e r h q = let u = extent-sector g b e r h q in (omega arith, omega (arith, u.1, (usable-geometry g b).small))

pub is-asked : (s n : ℕ) → 0 < s → s < barrier_number → n ≡ 512 → is_asked s n ≡ true
unfolding is_asked
is-asked s n a b e =
    and_yes (ltb 0 s && ltb s barrier_number) (eqb n 512) (and_yes (ltb 0 s) (ltb s barrier_number) (lt-ltb 0 s a) (lt-ltb s barrier_number b)) (eq-eqb n 512 e)

one_less : (n k : ℕ) → n - suc k ≡ n - k - 1
one_less n k = omega arith

fewer : (k n m : ℕ) → k ≡ n - 1 → n ≤ suc m → k ≤ m
fewer k n m e h = omega arith

-- ---- steps, on any disk

module _ (d : Disk) where
  -- a step that is taken
  fed-step : (m : ℕ) (r : Reading) (out : List ℕ) → 0 < r.wanted → takes_read r (length (d r.wanted)) (length out) ≡ true
      → read_fed (suc m) d r out ≡ read_fed m d (read_taken r) (put out r.done (bytes_from (d r.wanted) r.skip (read_part r)))
  unfolding read_fed read_step read_step_output
  fed-step m r out w t = rw (ne_eqb r.wanted 0 (λ e. omega arith), t) refl

  asked-step : (m : ℕ) (r : Reading) (out : List ℕ) → 0 < r.wanted → takes_read r (length (d r.wanted)) (length out) ≡ true
      → read_asked (suc m) d r out ≡ r.wanted ∷ read_asked m d (read_taken r) (put out r.done (bytes_from (d r.wanted) r.skip (read_part r)))
  unfolding read_asked read_step read_step_output
  asked-step m r out w t = rw (ne_eqb r.wanted 0 (λ e. omega arith), t) refl

  -- none where nothing is asked for
  fed-end : (m : ℕ) (r : Reading) (out : List ℕ) → r.wanted ≡ 0 → read_fed m d r out ≡ (r, out)
  unfolding read_fed
  fed-end zero r out e = refl
  fed-end (suc m) r out e = rw (eq-eqb r.wanted 0 e) refl

  asked-end : (m : ℕ) (r : Reading) (out : List ℕ) → r.wanted ≡ 0 → read_asked m d r out ≡ []
  unfolding read_asked
  asked-end zero r out e = refl
  asked-end (suc m) r out e = rw (eq-eqb r.wanted 0 e) refl

-- ---- the file's sectors, one after the other

-- a span of at most E bytes passes one multiple of E at most
edge-only : (E offset x m : ℕ) → 0 < E → 0 < x → x ≤ E → m * E ≡ offset + x → x ≡ E - offset % E
edge-only E offset x m w p h e = go (dec_lt (offset / E) m) (dec_lt (suc (offset / E)) m)
  where
    go : Dec (offset / E < m) → Dec (suc (offset / E) < m) → x ≡ E - offset % E
    go (no k) l =
        let q : m * E ≤ offset / E * E = mul-le-mul_right E (let u : m ≤ offset / E = omega arith in u) in
        absurd (omega (arith, div-add-mod' offset E))
    go (yes k) (yes l) =
        let q : suc (suc (offset / E)) * E ≤ m * E = mul-le-mul_right E l in
        let r : offset % E < E = mod-lt offset w in
        absurd (omega (arith, div-add-mod' offset E, suc-mul (suc (offset / E)) E, suc-mul (offset / E) E))
    go (yes k) (no l) =
        let q : m ≡ suc (offset / E) = omega arith in
        let f : m * E ≡ offset / E * E + E = ap (λ (z : ℕ). z * E) q ∙ suc-mul (offset / E) E in
        let r : offset % E < E = mod-lt offset w in
        omega (arith, div-add-mod' offset E)

module _ (c : Catalogue) (b : Bounded c.geometry) (i : ℕ) where
  abbrev S : ℕ
  S = extent_sectors c.geometry

  abbrev E : ℕ
  E = extent_bytes c.geometry

  wide : 0 < S
  wide = omega (arith, b.extent-low)

  pub extent-in : (o : ℕ) → extent_of c i o < c.geometry.extents
  unfolding extent_of
  extent-in o = lowest-inside (λ e. is_part i o (c.table e)) c.geometry.extents (omega (arith, b.extents-low))

  sector-asked : (s : ℕ) → (0 < sector_of c i s) × (sector_of c i s < barrier_number)
  unfolding sector_of
  sector-asked s = extent-asked c.geometry b (extent_of c i (s / S)) (s % S) (extent-in (s / S)) (rest_lt c.geometry b s)

  -- the next one of the same extent
  sector-next : (s : ℕ) → s % extent_sectors c.geometry + 1 < extent_sectors c.geometry → sector_of c i (s + 1) ≡ sector_of c i s + 1
  unfolding sector_of
  sector-next s h =
      let d : s / S * S + s % S ≡ s = div-add-mod' s S in
      let e : s + 1 ≡ s / S * S + (s % S + 1) = omega arith in
      let q : (s + 1) / S ≡ s / S = ap (λ z. z / S) e ∙ digits_div (s / S) {m = S} {r = s % S + 1} h in
      let m : (s + 1) % S ≡ s % S + 1 = ap (λ z. z % S) e ∙ digits_mod (s / S) {m = S} {r = s % S + 1} h in
      ap₂ (λ (x y : ℕ). extent_at c.geometry (extent_of c i x) + y) q m
      ∙ (let f : extent_at c.geometry (extent_of c i (s / S)) + (s % S + 1) ≡ extent_at c.geometry (extent_of c i (s / S)) + s % S + 1 = omega arith in f)

  -- the first one of the extent of offset o
  sector-first : (o : ℕ) → sector_of c i (o * extent_sectors c.geometry) ≡ extent_at c.geometry (extent_of c i o)
  unfolding sector_of
  sector-first o =
      let e : o * S ≡ o * S + 0 = omega arith in
      let q : o * S / S ≡ o = ap (λ z. z / S) e ∙ digits_div o {m = S} {r = 0} wide in
      let m : o * S % S ≡ 0 = ap (λ z. z % S) e ∙ digits_mod o {m = S} {r = 0} wide in
      ap₂ (λ (x y : ℕ). extent_at c.geometry (extent_of c i x) + y) q m ∙ add-zero (extent_at c.geometry (extent_of c i o))

  -- after x bytes of a span from offset on, behind file sector s
  sector-after : (offset x s : ℕ) → 0 < x → x ≤ 65536 → 512 * (s + 1) ≡ offset + x
      → cond (eqb x (extent_bytes c.geometry - offset % extent_bytes c.geometry)) (extent_at c.geometry (extent_of c i (offset / extent_bytes c.geometry + 1))) (sector_of c i s + 1)
      ≡ sector_of c i (s + 1)
  sector-after offset x s p h e = go (eqb x (E - offset % E)) refl
    where
      low : 128 ≤ S
      low = b.extent-low

      go : (t : Bool) → eqb x (E - offset % E) ≡ t → cond t (extent_at c.geometry (extent_of c i (offset / E + 1))) (sector_of c i s + 1) ≡ sector_of c i (s + 1)
      go true q =
          let k : x ≡ E - offset % E = eqb-true x (E - offset % E) q in
          let r : offset % E < E = mod-lt offset (omega (arith, low)) in
          let o : suc (offset / E) * E ≡ 512 * (suc (offset / E) * S) = mul_left_comm (suc (offset / E)) 512 S in
          let f : s + 1 ≡ suc (offset / E) * S = omega (arith, div-add-mod' offset E, suc-mul (offset / E) E) in
          let u : offset / E + 1 ≡ suc (offset / E) = omega arith in
          ap (λ (z : ℕ). extent_at c.geometry (extent_of c i z)) u ∙ sym (sector-first (suc (offset / E))) ∙ ap (sector_of c i) (sym f)
      go false q = sym (sector-next s (inner (dec_lt (s % S + 1) S)))
        where
          inner : Dec (s % S + 1 < S) → s % S + 1 < S
          inner (yes l) = l
          inner (no l) =
              let r : s % S < S = mod-lt s wide in
              let m : s + 1 ≡ suc (s / S) * S = omega (arith, div-add-mod' s S, suc-mul (s / S) S) in
              let o : suc (s / S) * E ≡ 512 * (suc (s / S) * S) = mul_left_comm (suc (s / S)) 512 S in
              let f : suc (s / S) * E ≡ offset + x = omega arith in
              absurd (eqb-false x (E - offset % E) q (edge-only E offset x (suc (s / S)) (omega (arith, low)) p (omega (arith, low)) f))

  -- what of a span stands in one sector
  bytes-in-sector : (d : Disk) (p n : ℕ) → p % 512 + n ≤ 512 → bytes_from (d (sector_of c i (p / 512))) (p % 512) n ≡ file_bytes c d i p n
  unfolding bytes_from file_bytes tabulate file_byte
  bytes-in-sector d p zero h = refl
  bytes-in-sector d p (suc n) h =
      let q : p / 512 ≡ (p + n) / 512 = omega arith in
      let m : p % 512 + n ≡ (p + n) % 512 = omega arith in
      ap₂ (λ (l : List ℕ) (x : ℕ). l ++ (x ∷ [])) (bytes-in-sector d p n (omega arith)) (ap₂ (λ (s k : ℕ). get_or (d (sector_of c i s)) k 0) q m)

  pub length-file : (d : Disk) (offset n : ℕ) → length (file_bytes c d i offset n) ≡ n
  unfolding file_bytes
  length-file d offset n = length-tabulate (file_byte c d i) offset n

  file-more : (d : Disk) (offset n m : ℕ) → file_bytes c d i offset n ++ file_bytes c d i (offset + n) m ≡ file_bytes c d i offset (n + m)
  unfolding file_bytes
  file-more d offset n m = sym (tabulate-split (file_byte c d i) offset n m)

  -- ---- the steps of a read of a count of bytes

  module _ (d : Disk) (whole : (s : ℕ) → length (d s) ≡ 512) (offset : ℕ) (a : BytesRead) (few : a.count ≤ 65536) (out : List ℕ) (room : a.count ≤ length out) where
    -- a state by what is asked for and given; after x bytes, and after all of them
    abbrev state : ℕ → ℕ → ℕ → Reading
    state wanted skip given = record {
      code = 0;
      fault = a.verdict.fault;
      place = a.verdict.place;
      count = a.count;
      length = a.length;
      wanted = wanted;
      skip = skip;
      done = given;
      edge = E - offset % E;
      next = extent_at c.geometry (extent_of c i (offset / E + 1));
    }

    abbrev after : ℕ → Reading
    after x = state (sector_of c i ((offset + x) / 512)) ((offset + x) % 512) x

    abbrev ended : Reading
    ended = state 0 0 a.count

    -- what is in the output then
    abbrev given : ℕ → List ℕ
    given x = put out 0 (file_bytes c d i offset x)

    abbrev more : ℕ → ℕ
    more x = min (512 - (offset + x) % 512) (a.count - x)

    taken : (x : ℕ) → x < a.count → takes_read (after x) (length (d (sector_of c i ((offset + x) / 512)))) (length (given x)) ≡ true
    unfolding takes_read
    taken x h =
        let s = sector-asked ((offset + x) / 512) in
        let l : length (given x) ≡ length out = length-put out 0 (file_bytes c d i offset x) in
        let k : (offset + x) % 512 < 512 = omega arith in
        and_yes _ (leb a.count (length (given x)))
        (and_yes _ (ltb x a.count)
        (and_yes (is_asked (sector_of c i ((offset + x) / 512)) (length (d (sector_of c i ((offset + x) / 512))))) (ltb ((offset + x) % 512) 512)
        (is-asked (sector_of c i ((offset + x) / 512)) _ s.0 s.1 (whole _)) (lt-ltb _ 512 k))
        (lt-ltb x a.count h)) (le-leb a.count _ (omega arith))

    given-more : (x : ℕ) → x < a.count
        → put (given x) x (bytes_from (d (sector_of c i ((offset + x) / 512))) ((offset + x) % 512) (more x)) ≡ given (x + more x)
    given-more x h =
        let f = file_bytes c d i offset x in
        let e : 0 + length f ≡ x = omega (arith, length-file d offset x) in
        ap₂ (λ (k : ℕ) (vs : List ℕ). put (given x) k vs) (sym e) (bytes-in-sector d (offset + x) (more x) (omega arith))
        ∙ sym (put-append out 0 f (file_bytes c d i (offset + x) (more x)))
        ∙ ap (put out 0) (file-more d offset x (more x))

    -- the sector after this one, where n bytes don't come to the end
    abbrev behind : ℕ → ℕ → ℕ
    behind x n = cond (eqb n (E - offset % E)) (extent_at c.geometry (extent_of c i (offset / E + 1))) (sector_of c i ((offset + x) / 512) + 1)

    step-more : (x : ℕ) → x < a.count → x + more x ≢ a.count → read_taken (after x) ≡ after (x + more x)
    step-more x h ne =
        let n = x + more x in
        let u : n < a.count = omega arith in
        let e : 512 * ((offset + x) / 512 + 1) ≡ offset + n = omega arith in
        let q : (offset + x) / 512 + 1 ≡ (offset + n) / 512 = omega arith in
        let z : 0 ≡ (offset + n) % 512 = omega arith in
        let w : cond (eqb n a.count) 0 (behind x n) ≡ sector_of c i ((offset + n) / 512) =
        ap (λ (t : Bool). cond t 0 (behind x n)) (ne_eqb n a.count ne)
        ∙ sector-after offset n ((offset + x) / 512) (omega arith) (omega arith) e ∙ ap (sector_of c i) q in
        λ j. state (w j) (z j) n

    step_end : (x : ℕ) → x + more x ≡ a.count → read_taken (after x) ≡ ended
    step_end x e =
        let w : cond (eqb (x + more x) a.count) 0 (behind x (x + more x)) ≡ 0 = ap (λ (t : Bool). cond t 0 (behind x (x + more x))) (eq-eqb (x + more x) a.count e) in
        λ j. state (w j) 0 (e j)

    -- how many sectors of the span are left
    abbrev left : ℕ → ℕ
    left x = (offset + a.count + 511) / 512 - (offset + x) / 512

    steps-end : (m x : ℕ) → x < a.count → left x ≤ m → read_fed m d (after x) (given x) ≡ (ended, given a.count)
    steps-end zero x h k = absurd (let q : (offset + x) / 512 < (offset + a.count + 511) / 512 = omega arith in omega arith)
    steps-end (suc m) x h k =
        fed-step d m (after x) (given x) (sector-asked ((offset + x) / 512)).0 (taken x h)
        ∙ ap (read_fed m d (read_taken (after x))) (given-more x h)
        ∙ go (eqb (x + more x) a.count) refl (λ u v. steps-end m (x + more x) u v)
      where
        go : (t : Bool) → eqb (x + more x) a.count ≡ t
            → (x + more x < a.count → left (x + more x) ≤ m → read_fed m d (after (x + more x)) (given (x + more x)) ≡ (ended, given a.count))
            → read_fed m d (read_taken (after x)) (given (x + more x)) ≡ (ended, given a.count)
        go true e rest =
            let q : x + more x ≡ a.count = eqb-true (x + more x) a.count e in
            ap₂ (read_fed m d) (step_end x q) (ap given q) ∙ fed-end d m ended (given a.count) refl
        go false e rest =
            let q : x + more x ≢ a.count = eqb-false (x + more x) a.count e in
            ap (λ (r : Reading). read_fed m d r (given (x + more x))) (step-more x h q) ∙ rest (omega arith) (omega arith)

    asks-end : (m x : ℕ) → x < a.count → left x ≤ m → read_asked m d (after x) (given x) ≡ tabulate (sector_of c i) ((offset + x) / 512) (left x)
    unfolding tabulate
    asks-end zero x h k = absurd (let q : (offset + x) / 512 < (offset + a.count + 511) / 512 = omega arith in omega arith)
    asks-end (suc m) x h k =
        asked-step d m (after x) (given x) (sector-asked ((offset + x) / 512)).0 (taken x h)
        ∙ ap (λ (l : List ℕ). sector_of c i ((offset + x) / 512) ∷ l)
        (ap (read_asked m d (read_taken (after x))) (given-more x h)
        ∙ go (eqb (x + more x) a.count) refl (λ u v. asks-end m (x + more x) u v))
        ∙ sym (ap (tabulate (sector_of c i) ((offset + x) / 512)) (let q : left x ≡ suc (left x - 1) = omega arith in q)
        ∙ tabulate-front (sector_of c i) ((offset + x) / 512) (left x - 1))
      where
        go : (t : Bool) → eqb (x + more x) a.count ≡ t
            → (x + more x < a.count → left (x + more x) ≤ m
            → read_asked m d (after (x + more x)) (given (x + more x)) ≡ tabulate (sector_of c i) ((offset + (x + more x)) / 512) (left (x + more x)))
            → read_asked m d (read_taken (after x)) (given (x + more x)) ≡ tabulate (sector_of c i) (suc ((offset + x) / 512)) (left x - 1)
        go true e rest =
            let q : x + more x ≡ a.count = eqb-true (x + more x) a.count e in
            let z : left x - 1 ≡ 0 = omega arith in
            ap (λ (r : Reading). read_asked m d r (given (x + more x))) (step_end x q) ∙ asked-end d m ended (given (x + more x)) refl
            ∙ ap (tabulate (sector_of c i) (suc ((offset + x) / 512))) (sym z)
        go false e rest =
            let q : x + more x ≢ a.count = eqb-false (x + more x) a.count e in
            let l : x + more x < a.count = omega arith in
            let u : (offset + (x + more x)) / 512 ≡ suc ((offset + x) / 512) = omega arith in
            let v : left (x + more x) ≡ left x - 1 = ap (λ (z : ℕ). (offset + a.count + 511) / 512 - z) u ∙ one_less ((offset + a.count + 511) / 512) ((offset + x) / 512) in
            ap (λ (r : Reading). read_asked m d r (given (x + more x))) (step-more x h q) ∙ rest l (fewer (left (x + more x)) (left x) m v k)
            ∙ ap₂ (tabulate (sector_of c i)) u v

-- ---- a read of an image's volume

-- what a read that gives bytes has passed
record Gives (img : List ℕ) (a : BytesRead) (room : ℕ) : Type 0 where
  accepted : a.verdict.number ≡ 0
  bounded : Bounded (catalogue_of (view img)).geometry
  few : a.count ≤ 65536
  fits : a.count ≤ room

-- a geometry that passed 1 to 7, whose S fits its field
pub judged-bounded : (img : List ℕ) → extent_sectors (geometry_in (view img superblock_at)) ≤ 4294967295 → (judged (length img) (view img)).number ≡ 0
    → Bounded (catalogue_of (view img)).geometry
unfolding catalogue_of
judged-bounded img s h = bounds (geometry_in (view img superblock_at)) (image-fits (length img) (view img) (judged-image (length img) (view img) h)).0 s

read-gives : (img : List ℕ) (name : List ℕ) (offset asked time room space : ℕ) → extent_sectors (geometry_in (view img superblock_at)) ≤ 4294967295
    → (read_answer (length img) (view img) name offset asked time room space).count ≢ 0 → Gives img (read_answer (length img) (view img) name offset asked time room space) room
unfolding read_answer read_of read_decision decided read_conditions
read-gives img name offset asked time room space s ne = go (is_done v) refl ne
  where
    c : Catalogue
    c = catalogue_of (view img)

    cs : Conditions
    cs = read_conditions c name offset asked time room

    plan : Option Plan
    plan = read_planned c (view img) (index_of (file_named c name)) time

    last : Conditions
    last = plan_conditions (view img) plan space

    v : Verdict
    v = and_then (judged (length img) (view img)) (and_then (verdict_of cs) (verdict_of last))

    n : ℕ
    n = read_count (size_named c name) offset asked

    a : Bool → BytesRead
    a t = cond t (record { verdict = v; count = n; length = list_length (groups_for (view img) (cond t plan none)) }) (not_read v)

    go : (t : Bool) → is_done v ≡ t → (a t).count ≢ 0 → Gives img (a t) room
    go true e k =
        let p : Passed cs = passed-by cs refl (earlier-done (verdict_of cs) (verdict_of last) (later-done (judged (length img) (view img)) (and_then (verdict_of cs) (verdict_of last)) e)) in
        let j : (judged (length img) (view img)).number ≡ 0 = eqb-true _ 0 (earlier-done (judged (length img) (view img)) (and_then (verdict_of cs) (verdict_of last)) e) in
        let q : asked ≤ 65536 = ltb-false 65536 asked (or-right-no (bad_name c.geometry.edition name) (ltb longest_transfer asked) p.1.0) in
        record {
          accepted = eqb-true v.number 0 e;
          bounded = judged-bounded img s j;
          few = omega arith;
          fits = ltb-false room n p.1.1.1.1.0;
        }
    go false e k = absurd (k refl)

module _ (img front : List ℕ) (count : ℕ) (lends : Lends img front count) (name : List ℕ) (offset asked time room space : ℕ) where
  abbrev c : Catalogue
  c = catalogue_of (view img)

  abbrev i : ℕ
  i = index_of (file_named c name)

  abbrev a : BytesRead
  a = read_answer (length img) (view img) name offset asked time room space

  abbrev begun : Reading
  begun = read_begun c i offset a

  -- the form begins by the image's answer
  lent-begun : read_lent (goes_by front count) (view front) name offset asked time room space ≡ begun
  unfolding read_lent
  lent-begun =
      let agree = lent-agrees img front count lends in
      ap₂ (λ (x : Catalogue) (y : BytesRead). read_begun x (index_of (file_named x name)) offset y) (same-catalogue (view img) (view front) agree)
      (same-read-answer (length img) (goes_by front count) (view img) (view front) agree (lent-image img front count lends) name offset asked time room space)

  begun-none : a.count ≡ 0 → begun ≡ read_idle a
  unfolding read_begun
  begun-none e = ap (λ (t : Bool). cond t (read_idle a) (read_asking c i offset a)) (eq-eqb a.count 0 e)

  module _ (ne : a.count ≢ 0) (out : List ℕ) (e : length out ≡ room) where
    gives : Gives img a room
    gives = read-gives img name offset asked time room space lends.field ne

    fits : a.count ≤ length out
    fits = omega (arith, gives.fits)

    abbrev first-state : Reading
    first-state = after c gives.bounded i (view img) (length-view img) offset a gives.few out fits 0

    abbrev last-state : Reading
    last-state = ended c gives.bounded i (view img) (length-view img) offset a gives.few out fits

    begun-some : begun ≡ first-state
    unfolding read_begun
    begun-some =
        let z : offset ≡ offset + 0 = omega arith in
        ap (λ (t : Bool). cond t (read_idle a) (read_asking c i offset a)) (ne_eqb a.count 0 ne)
        ∙ (λ j. record {
          code = gives.accepted j;
          fault = a.verdict.fault;
          place = a.verdict.place;
          count = a.count;
          length = a.length;
          wanted = sector_of c i (z j / 512);
          skip = z j % 512;
          done = 0;
          edge = extent_bytes c.geometry - offset % extent_bytes c.geometry;
          next = extent_at c.geometry (extent_of c i (offset / extent_bytes c.geometry + 1));
        })

    nothing-given : out ≡ put out 0 (file_bytes c (view img) i offset 0)
    unfolding file_bytes tabulate
    nothing-given = sym (put-nil out 0)

    fed-some : read_fed read_steps (view img) begun out ≡ (last-state, put out 0 (file_bytes c (view img) i offset a.count))
    fed-some =
        let h : 0 < a.count = omega arith in
        let k : (offset + a.count + 511) / 512 - (offset + 0) / 512 ≤ 129 = omega (arith, gives.few) in
        ap₂ (read_fed read_steps (view img)) begun-some nothing-given
        ∙ steps-end c gives.bounded i (view img) (length-view img) offset a gives.few out fits 129 0 h k

    asked-some : read_asked read_steps (view img) begun out ≡ tabulate (sector_of c i) (offset / 512) (touched_sectors offset a.count)
    asked-some =
        let h : 0 < a.count = omega arith in
        let k : (offset + a.count + 511) / 512 - (offset + 0) / 512 ≤ 129 = omega (arith, gives.few) in
        ap₂ (read_asked read_steps (view img)) begun-some nothing-given
        ∙ asks-end c gives.bounded i (view img) (length-view img) offset a gives.few out fits 129 0 h k
        ∙ ap (λ (z : ℕ). tabulate (sector_of c i) (z / 512) ((offset + a.count + 511) / 512 - z / 512)) (add-zero offset)

  -- what the form answers, by the state and the output that it comes to
  abbrev answered : Reading × List ℕ → Answer
  answered x = gave (read_answered x.0) (bytes_from x.1 0 x.0.count)

  none-given : a.count ≡ 0 → bytes_from (zeros room) 0 a.count ≡ file_bytes c (view img) i offset a.count
  unfolding bytes_from file_bytes tabulate
  none-given e = ap (λ (n : ℕ). bytes_from (zeros room) 0 n) e ∙ ap (λ (n : ℕ). file_bytes c (view img) i offset n) (sym e)

  by_count : (t : Bool) → eqb a.count 0 ≡ t → answered (read_fed read_steps (view img) begun (zeros room)) ≡ gave a (file_bytes c (view img) i offset a.count)
  by_count true q =
      let e : a.count ≡ 0 = eqb-true a.count 0 q in
      ap answered (ap (λ (r : Reading). read_fed read_steps (view img) r (zeros room)) (begun-none e) ∙ fed-end (view img) read_steps (read_idle a) (zeros room) refl)
      ∙ ap (gave a) (none-given e)
  by_count false q =
      let ne : a.count ≢ 0 = eqb-false a.count 0 q in
      let l : length (zeros room) ≡ room = length-bytes_from [] 0 room in
      let f = file_bytes c (view img) i offset a.count in
      ap answered (fed-some ne (zeros room) l)
      ∙ ap₂ gave (λ j. record { verdict = record { number = sym (gives ne (zeros room) l).accepted j; fault = a.verdict.fault; place = a.verdict.place }; count = a.count; length = a.length })
      (bytes_from-put-same (zeros room) 0 f a.count (length-file c (gives ne (zeros room) l).bounded i (view img) offset a.count) (omega (arith, fits ne (zeros room) l)))

  read-answers : lent_answer front count (view img) (read name offset asked time room space) ≡ volume_answer (read name offset asked time room space) img
  unfolding lent_answer on_volume read_gives
  read-answers =
      ap (λ (r : Reading). answered (read_fed read_steps (view img) r (zeros room))) lent-begun ∙ by_count (eqb a.count 0) refl

  -- A READ'S LENT FORM IS THE READ
  pub lent-read : LentCall img front count (read name offset asked time room space)
  lent-read = record { answer = read-answers; leaves-list = lent-read-list img front count lends name offset asked time room space }

-- "one after the other in file order"
pub read-order : (img front : List ℕ) (count : ℕ) → Lends img front count → ReadOrder img front count
read-order img front count lends name offset asked time room space out e ne =
    ap (λ (r : Reading). read_asked read_steps (view img) r out) (lent-begun img front count lends name offset asked time room space)
    ∙ asked-some img front count lends name offset asked time room space ne out e
