-- Laws of the records of a write list: what stands in the list after they were put in, copies that grow by a target, the
-- journal. Assumes nothing.
use Prim.Native.Nat.{ℕ, zero, suc, ◌+◌, ◌-◌, ◌*◌, ◌≤◌, ◌<◌, min}
use mathlib.Core.Path.{◌≡◌, refl, sym, ap, ap₂, ◌∙◌}
use mathlib.Core.List.{List, [], ◌∷◌, ◌++◌, append_assoc}
use native.Mathlib.Nat.{zero-add, not-suc-le-zero}
use native.Mathlib.Omega.{arith}
use lib.ListN.{length, get_or, length-append, get_or-append}
use lib.Seq.{ext_get_or, get_or-append-add, get_or-append_seam}
use Rattle.model.specs.declared.Geometry.{Geometry}
use Rattle.model.specs.Bytes.{be_bytes, bytes_from, put}
use Rattle.model.specs.Search.{tabulate}
use Rattle.model.specs.Journal.{entries_in, journal_sector}
use Rattle.model.specs.WriteList.{Record, Group, sector_write, barrier, record_size, contents_start, record_bytes, list_bytes, emit, Emitted}
use Rattle.model.specs.WriteList.{stage_in, stages_in, copies, sectors_of, closed_after, closed, list_length}
use Rattle.laws.proofs.Bytes.{length-be_bytes, bytes_from-ext, bytes_from-bytes_from, bytes_from-put-other, bytes_from-put-in}
use Rattle.laws.proofs.Search.{length-tabulate, get_or-tab0, tabulate-more, tabulate-ext}
use Rattle.laws.proofs.WriteList.{length-record_bytes, list_bytes-append, length-list_bytes, emitted_then, copies-are}

-- ---- of two strings one after the other

bytes_from-left : (a b : List ℕ) (o n : ℕ) → o + n ≤ length a → bytes_from (a ++ b) o n ≡ bytes_from a o n
bytes_from-left a b o n h = bytes_from-ext (a ++ b) a o o n (λ i k. get_or-append a b 0 (o + i) (omega arith))

bytes_from-right : (a b : List ℕ) (l o n : ℕ) → length a ≡ l → bytes_from (a ++ b) (l + o) n ≡ bytes_from b o n
bytes_from-right a b l o n h =
    bytes_from-ext (a ++ b) b (l + o) o n
    (λ i k. let e : l + o + i ≡ length a + (o + i) = omega arith in ap (λ x. get_or (a ++ b) x 0) e ∙ get_or-append-add a b (o + i) 0)

-- ---- what stands in a list

contents-of : (p : ℕ) (r : Record) → bytes_from (record_bytes p r) contents_start 512 ≡ bytes_from r.contents 0 512
unfolding record_bytes
contents-of p r =
    let l : length (be_bytes 8 p ++ be_bytes 8 r.sector) ≡ contents_start = simp (length-append, length-be_bytes) in
    bytes_from-right (be_bytes 8 p ++ be_bytes 8 r.sector) (bytes_from r.contents 0 512) contents_start 0 512 l
    ∙ bytes_from-bytes_from r.contents 0 512 0 512 (omega arith)

contents-in : (p : ℕ) (rs : List Record) (i : ℕ) → i < length rs
    → bytes_from (list_bytes p rs) (i * record_size + contents_start) 512 ≡ bytes_from (get_or rs i barrier).contents 0 512
unfolding list_bytes
contents-in p [] i h = absurd (not-suc-le-zero h)
contents-in p (r ∷ rs) zero h =
    bytes_from-left (record_bytes p r) (list_bytes (suc p) rs) contents_start 512 (omega (arith, length-record_bytes p r)) ∙ contents-of p r
contents-in p (r ∷ rs) (suc i) h =
    let e : suc i * record_size + contents_start ≡ record_size + (i * record_size + contents_start) = omega arith in
    ap (λ o. bytes_from (record_bytes p r ++ list_bytes (suc p) rs) o 512) e
    ∙ bytes_from-right (record_bytes p r) (list_bytes (suc p) rs) record_size (i * record_size + contents_start) 512 (length-record_bytes p r)
    ∙ contents-in (suc p) rs i (omega arith)

-- the contents of record i of those that were put in
pub contents-emitted : (l : List ℕ) (k : ℕ) (rs : List Record) (i : ℕ) → i < length rs → (k + length rs) * record_size ≤ length l
    → bytes_from (emit l k rs) ((k + i) * record_size + contents_start) 512 ≡ bytes_from (get_or rs i barrier).contents 0 512
unfolding emit
contents-emitted l k rs i h room =
    let e : (k + i) * record_size + contents_start ≡ k * record_size + (i * record_size + contents_start) = omega arith in
    let n : length (list_bytes k rs) ≡ length rs * record_size = length-list_bytes k rs in
    ap (λ o. bytes_from (emit l k rs) o 512) e
    ∙ bytes_from-put-in l (k * record_size) (list_bytes k rs) (i * record_size + contents_start) 512 (omega arith) (omega arith)
    ∙ contents-in k rs i h

-- what stands before them stays
pub bytes_from-before : (l : List ℕ) (k : ℕ) (rs : List Record) (from n : ℕ) → from + n ≤ k * record_size → bytes_from (emit l k rs) from n ≡ bytes_from l from n
unfolding emit
bytes_from-before l k rs from n h = bytes_from-put-other l (k * record_size) (list_bytes k rs) from n (λ i a b c d. omega arith)

-- one record more of a list by index
pub emitted-more : {l m m' : List ℕ} {k j r : ℕ} (f : ℕ → Record) → Emitted l k (tabulate f 0 j) m (k + j) → Emitted m (k + j) (f j ∷ []) m' r
    → Emitted l k (tabulate f 0 (j + 1)) m' (k + (j + 1))
emitted-more {l} {m} {m'} {k} {j} {r} f p q =
    let next : r ≡ k + (j + 1) = omega (arith, q.next) in
    rw (tabulate-more f 0 j, zero-add j, ← next) (emitted_then p q)

-- ---- records of the same bytes

-- only the contents' first 512 bytes are written
pub written : (p s : ℕ) (c : List ℕ) → record_bytes p (sector_write s (bytes_from c 0 512)) ≡ record_bytes p (sector_write s c)
unfolding record_bytes
written p s c = ap (λ (b : List ℕ). be_bytes 8 p ++ be_bytes 8 s ++ b) (bytes_from-bytes_from c 0 512 0 512 (omega arith))

bytes_one : (p : ℕ) (r : Record) → list_bytes p (r ∷ []) ≡ record_bytes p r ++ []
unfolding list_bytes
bytes_one p r = refl

pub bytes-tabulate : (f h : ℕ → Record) (n : ℕ) → ((p j : ℕ) → j < n → record_bytes p (f j) ≡ record_bytes p (h j))
    → (p : ℕ) → list_bytes p (tabulate f 0 n) ≡ list_bytes p (tabulate h 0 n)
unfolding tabulate
bytes-tabulate f h zero e p = refl
bytes-tabulate f h (suc n) e p =
    let at = p + length (tabulate f 0 n) in
    let q : record_bytes at (f (0 + n)) ≡ record_bytes at (h (0 + n)) = e at (0 + n) (omega arith) in
    let same : p + length (tabulate f 0 n) ≡ p + length (tabulate h 0 n) = ap (λ k. p + k) (length-tabulate f 0 n ∙ sym (length-tabulate h 0 n)) in
    list_bytes-append p (tabulate f 0 n) (f (0 + n) ∷ [])
    ∙ ap₂ (λ (a b : List ℕ). a ++ b) (bytes-tabulate f h n (λ k j l. e k j (omega arith)) p)
    (bytes_one at (f (0 + n)) ∙ ap (λ (b : List ℕ). b ++ []) q ∙ sym (bytes_one at (h (0 + n))) ∙ ap (λ k. list_bytes k (h (0 + n) ∷ [])) same)
    ∙ sym (list_bytes-append p (tabulate h 0 n) (h (0 + n) ∷ []))

pub emitted-same : {l m : List ℕ} {k j : ℕ} {a b : List Record} → list_bytes k a ≡ list_bytes k b → length a ≡ length b → Emitted l k a m j → Emitted l k b m j
unfolding emit
emitted-same {l} {m} {k} {j} {a} {b} e n p =
    record { holds = p.holds ∙ ap (λ (x : List ℕ). put l (k * record_size) x) e; next = p.next ∙ ap (λ x. k + x) n }

pub tabulate-list {ℓ} : {A : Type ℓ} (d : A) (l : List A) → tabulate (λ k. get_or l k d) 0 (length l) ≡ l
tabulate-list d l =
    ext_get_or d (tabulate (λ k. get_or l k d) 0 (length l)) l (length-tabulate (λ k. get_or l k d) 0 (length l))
    (λ i h. get_or-tab0 (λ k. get_or l k d) (length l) i d (omega (arith, length-tabulate (λ k. get_or l k d) 0 (length l))))

-- ---- the journal looks only at the sources and targets of its entries

module _ (s s' t t' : ℕ → ℕ) where
  entries_in-ext : (from n : ℕ) → ((k : ℕ) → k < n → s (from + k) ≡ s' (from + k)) → ((k : ℕ) → k < n → t (from + k) ≡ t' (from + k))
      → entries_in s t from n ≡ entries_in s' t' from n
  unfolding entries_in
  entries_in-ext from zero p q = refl
  entries_in-ext from (suc n) p q =
      rw (p n (omega arith), q n (omega arith))
      (ap (λ (x : List ℕ). put x (16 * n) (be_bytes 8 (s' (from + n)) ++ be_bytes 8 (t' (from + n))))
      (entries_in-ext from n (λ k l. p k (omega arith)) (λ k l. q k (omega arith))))

  pub journal_sector-ext : (n j : ℕ) → ((k : ℕ) → k < n → s k ≡ s' k) → ((k : ℕ) → k < n → t k ≡ t' k) → journal_sector s t n j ≡ journal_sector s' t' n j
  unfolding journal_sector
  journal_sector-ext n j p q =
      entries_in-ext (32 * j) (min 32 (n - 32 * j)) (λ k l. p (32 * j + k) (omega arith)) (λ k l. q (32 * j + k) (omega arith))

-- ---- sector numbers and copies of targets

pub sectors-more : (ts : Group) (r : Record) → sectors_of (ts ++ (r ∷ [])) ≡ sectors_of ts ++ (r.sector ∷ [])
sectors-more [] r = refl
sectors-more (t ∷ ts) r = ap (λ (l : List ℕ). t.sector ∷ l) (sectors-more ts r)

pub copy_at : (stages : List ℕ) (ts : Group) (k : ℕ) → k < length ts → (get_or (copies stages ts) k barrier).contents ≡ (get_or ts k barrier).contents
unfolding copies
copy_at stages ts k h =
    ap (λ (r : Record). r.contents) (get_or-tab0 (λ k. sector_write (get_or stages k 0) (get_or ts k barrier).contents) (length ts) k barrier h)

-- one more target, one more copy
pub copies-more : (g : Geometry) (es : List ℕ) (ts : Group) (r : Record)
    → copies (stages_in g es (length (ts ++ (r ∷ [])))) (ts ++ (r ∷ [])) ≡ copies (stages_in g es (length ts)) ts ++ (sector_write (stage_in g es (length ts)) r.contents ∷ [])
copies-more g es ts r =
    let us : Group = ts ++ (r ∷ []) in
    let f : ℕ → Record = λ k. sector_write (stage_in g es k) (get_or us k barrier).contents in
    let n : length us ≡ length ts + 1 = length-append ts (r ∷ []) in
    let last : get_or us (length ts) barrier ≡ r = get_or-append_seam ts r [] barrier in
    copies-are g es us
    ∙ ap (λ (m : ℕ). tabulate f 0 m) n
    ∙ tabulate-more f 0 (length ts)
    ∙ ap₂ (λ (a : Group) (b : Record). a ++ (b ∷ []))
    (tabulate-ext f (λ k. sector_write (stage_in g es k) (get_or ts k barrier).contents) 0 0 (length ts)
    (λ k l. ap (λ (x : Record). sector_write (stage_in g es (0 + k)) x.contents) (get_or-append ts (r ∷ []) barrier (0 + k) (omega arith)))
    ∙ sym (copies-are g es ts))
    (ap f (zero-add (length ts)) ∙ ap (λ (x : Record). sector_write (stage_in g es (length ts)) x.contents) last)

-- ---- groups

pub closed-front : (a b : List Record) (gs : List Group) → closed_after (a ++ b) gs ≡ a ++ closed_after b gs
closed-front a b [] = refl
closed-front a b (h ∷ gs) =
    ap (λ (x : List Record). closed_after x gs)
    (append_assoc (a ++ b) h (barrier ∷ []) ∙ append_assoc a b (h ++ (barrier ∷ [])) ∙ ap (λ (x : List Record). a ++ x) (sym (append_assoc b h (barrier ∷ []))))
    ∙ closed-front a (b ++ h ++ (barrier ∷ [])) gs

-- the next position says the same
pub emitted-length : {l m : List ℕ} {j : ℕ} (gs : List Group) → Emitted l 0 (closed gs) m j → j * record_size ≡ list_length gs
emitted-length gs e = ap (λ n. n * record_size) (e.next ∙ zero-add (length (closed gs)))
