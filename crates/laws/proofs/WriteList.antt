-- Laws of write lists: a record's bytes, emissions that follow one another, writes one after the other, and how long a plan's list is. Assumes
-- nothing.
use Prim.Native.Nat.{ℕ, zero, suc, ◌+◌, ◌*◌, ◌≤◌, ◌<◌}
use mathlib.Core.Path.{◌≡◌, refl, ap, sym, ◌∙◌}
use mathlib.Core.Bool.{Bool, true, false, cond, ◌||◌}
use mathlib.Core.List.{List, [], ◌∷◌, ◌++◌, append_assoc, append-nil}
use mathlib.Core.Option.{some}
use native.Mathlib.Nat.{add-zero, not-suc-le-zero}
use native.Mathlib.Omega.{arith}
use lib.Dec.{eqb}
use lib.ListN.{length, get_or, length-append, length-map}
use Rattle.model.specs.declared.Geometry.{Geometry}
use Rattle.model.specs.Bytes.{be_bytes, bytes_from, put}
use Rattle.model.specs.Search.{tabulate}
use Rattle.model.specs.Geometry.{superblock_at, journal_at}
use Rattle.model.specs.Disk.{Disk}
use Rattle.model.specs.Catalogue.{catalogue_of}
use Rattle.model.specs.Superblock.{geometry_in}
use Rattle.model.specs.Journal.{journal_sectors, journal_sector}
use Rattle.model.specs.WriteList.{Record, Group, Plan, sector_write, barrier, record_size, number_start, contents_start, record_bytes, list_bytes, emit, Emitted, stored, over, hits}
use Rattle.model.specs.WriteList.{stage_in, stages_in, staging, copies, sectors_of, journal_of, group_a, groups_of, groups_for, list_length, record_count}
use Rattle.laws.proofs.Bytes.{length-be_bytes, length-bytes_from, length-put, bytes_from-all, put-append, put-nil, put_in}
use Rattle.laws.proofs.Search.{length-tabulate, get_or-tab0, tabulate-ext}

pub length-record_bytes : (p : ℕ) (r : Record) → length (record_bytes p r) ≡ record_size
unfolding record_bytes
length-record_bytes p r = simp (length-append, length-be_bytes, length-bytes_from)

pub list_bytes-append : (p : ℕ) (a b : List Record) → list_bytes p (a ++ b) ≡ list_bytes p a ++ list_bytes (p + length a) b
unfolding list_bytes
list_bytes-append p [] b = ap (λ k. list_bytes k b) (sym (add-zero p))
list_bytes-append p (r ∷ a) b =
    let e : suc p + length a ≡ p + suc (length a) = omega arith in
    ap (λ (x : List ℕ). record_bytes p r ++ x) (list_bytes-append (suc p) a b ∙ ap (λ k. list_bytes (suc p) a ++ list_bytes k b) e)
    ∙ sym (append_assoc (record_bytes p r) (list_bytes (suc p) a) (list_bytes (p + suc (length a)) b))

pub length-list_bytes : (p : ℕ) (a : List Record) → length (list_bytes p a) ≡ length a * record_size
unfolding list_bytes
length-list_bytes p [] = refl
length-list_bytes p (r ∷ a) = simp (length-append, length-record_bytes) (omega (arith, length-list_bytes (suc p) a))

pub emit-nil : (l : List ℕ) (k : ℕ) → emit l k [] ≡ l
unfolding emit list_bytes
emit-nil l k = put-nil l (k * record_size)

emit-append : (l : List ℕ) (k : ℕ) (a b : List Record) → emit l k (a ++ b) ≡ emit (emit l k a) (k + length a) b
unfolding emit
emit-append l k a b =
    let e : k * record_size + length (list_bytes k a) ≡ (k + length a) * record_size = omega (arith, length-list_bytes k a) in
    rw (list_bytes-append, put-append, e)

-- one record at a place, as its position, a number and then 512 bytes
pub record-put : (l : List ℕ) (at p s : ℕ) (c : List ℕ)
    → put l at (record_bytes p (sector_write s c)) ≡ put (put (put l at (be_bytes 8 p)) (at + number_start) (be_bytes 8 s)) (at + contents_start) (bytes_from c 0 512)
unfolding record_bytes
record-put l at p s c =
    let e : length (be_bytes 8 p ++ be_bytes 8 s) ≡ contents_start = simp (length-append, length-be_bytes) in
    rw (put-append l at (be_bytes 8 p ++ be_bytes 8 s) (bytes_from c 0 512), put-append l at (be_bytes 8 p) (be_bytes 8 s), e, length-be_bytes)

pub emit-one : (l : List ℕ) (k : ℕ) (r : Record) → emit l k (r ∷ []) ≡ put l (k * record_size) (record_bytes k r)
unfolding emit list_bytes
emit-one l k r = rw append-nil

emit-run : (l : List ℕ) (k s : ℕ) (c : List ℕ)
    → emit l k (sector_write s c ∷ [])
    ≡ put (put (put l (k * record_size) (be_bytes 8 k)) (k * record_size + number_start) (be_bytes 8 s)) (k * record_size + contents_start) (bytes_from c 0 512)
emit-run l k s c = emit-one l k (sector_write s c) ∙ record-put l (k * record_size) k s c

-- bytes stored into the contents of a record that is emitted already
pub emit-patched : (l : List ℕ) (k s : ℕ) (c : List ℕ) (o : ℕ) (vs : List ℕ) → length c ≡ 512 → o + length vs ≤ 512
    → put (emit l k (sector_write s c ∷ [])) (k * record_size + contents_start + o) vs ≡ emit l k (sector_write s (put c o vs) ∷ [])
emit-patched l k s c o vs h r =
    let a : bytes_from c 0 512 ≡ c = bytes_from-all c 512 h in
    let b : bytes_from (put c o vs) 0 512 ≡ put c o vs = bytes_from-all (put c o vs) 512 (length-put c o vs ∙ h) in
    rw (emit-run l k s c, emit-run l k s (put c o vs), a, b)
    (put_in (put (put l (k * record_size) (be_bytes 8 k)) (k * record_size + number_start) (be_bytes 8 s)) (k * record_size + contents_start) c o vs (omega arith))

-- ---- what emitting calls compose by

pub emitted-none : (l : List ℕ) (k : ℕ) → Emitted l k [] l k
emitted-none l k = record { holds = sym (emit-nil l k); next = sym (add-zero k) }

pub emitted_then : {l m m' : List ℕ} {k j j' : ℕ} {a b : List Record} → Emitted l k a m j → Emitted m j b m' j' → Emitted l k (a ++ b) m' j'
emitted_then {l} {m} {m'} {k} {j} {j'} {a} {b} p q =
    let h = p.holds in
    let n = p.next in
    record { holds = q.holds ∙ rw (h, n) (sym (emit-append l k a b)); next = simp length-append (omega arith) }

-- ---- writes on an image

pub stored-append : (a b : List Record) (img : List ℕ) → stored (a ++ b) img ≡ stored b (stored a img)
unfolding stored
stored-append [] b img = refl
stored-append (r ∷ a) b img = stored-append a b _

-- ---- a plan's records

-- what writes one after the other leave in a sector, and whether one of them is for it
pub over-append : (a b : List Record) (s : ℕ) (x : List ℕ) → over (a ++ b) s x ≡ over b s (over a s x)
unfolding over
over-append [] b s x = refl
over-append (w ∷ a) b s x = over-append a b s (cond (eqb s w.sector) w.contents x)

or_assoc : (a b c : Bool) → (a || (b || c)) ≡ (a || b || c)
or_assoc true b c = refl
or_assoc false b c = refl

pub hits-append : (a b : List Record) (s : ℕ) → hits (a ++ b) s ≡ (hits a s || hits b s)
unfolding hits
hits-append [] b s = refl
hits-append (w ∷ a) b s = ap (λ (t : Bool). eqb s w.sector || t) (hits-append a b s) ∙ or_assoc (eqb s w.sector) (hits a s) (hits b s)

pub sector-at : (ts : Group) (k : ℕ) → k < length ts → get_or (sectors_of ts) k 0 ≡ (get_or ts k barrier).sector
sector-at [] k h = absurd (not-suc-le-zero h)
sector-at (t ∷ ts) zero h = refl
sector-at (t ∷ ts) (suc k) h = sector-at ts k (omega arith)

-- the stage of copy k, and the copies in their stages
pub stage_at : (g : Geometry) (extents : List ℕ) (n k : ℕ) → k < n → get_or (stages_in g extents n) k 0 ≡ stage_in g extents k
unfolding stages_in
stage_at g extents n k h = get_or-tab0 (stage_in g extents) n k 0 h

pub copies-are : (g : Geometry) (extents : List ℕ) (ts : Group)
    → copies (stages_in g extents (length ts)) ts ≡ tabulate (λ k. sector_write (stage_in g extents k) (get_or ts k barrier).contents) 0 (length ts)
unfolding copies
copies-are g extents ts =
    tabulate-ext _ _ 0 0 (length ts)
    (λ k l. ap (λ (s : ℕ). sector_write s (get_or ts (0 + k) barrier).contents) (stage_at g extents (length ts) (0 + k) (omega arith)))

pub length-copies : (stages : List ℕ) (ts : Group) → length (copies stages ts) ≡ length ts
unfolding copies
length-copies stages ts = length-tabulate (λ k. sector_write (get_or stages k 0) (get_or ts k barrier).contents) 0 (length ts)

length-journal_of : (g : Geometry) (stages targets : List ℕ) → length (journal_of g stages targets) ≡ journal_sectors (length targets)
unfolding journal_of
length-journal_of g stages targets =
    length-tabulate (λ j. sector_write (journal_at g + j) (journal_sector (λ k. get_or stages k 0) (λ k. get_or targets k 0) (length targets) j)) 0 (journal_sectors (length targets))

-- how many records group A has; how many bytes a plan's list takes, by which refusal 14 is decided
length-group_a : (g : Geometry) (stages : List ℕ) (p : Plan)
    → length (group_a g stages p) ≡ length p.data_sectors + length p.targets + journal_sectors (length p.targets)
unfolding group_a
length-group_a g stages p = simp (length-append, length-copies, length-journal_of, length-map) (omega arith)

pub length-groups : (g : Geometry) (stages : List ℕ) (d : Disk) (p : Plan)
    → list_length (groups_of g stages d p) ≡ record_count (length p.data_sectors) (length p.targets) * record_size
unfolding groups_of
length-groups g stages d p = simp (length-append) (omega (arith, length-group_a g stages p))

pub plan-needs : (d : Disk) (p : Plan) → list_length (groups_for d (some p)) ≡ record_count (length p.data_sectors) (length p.targets) * record_size
unfolding groups_for
plan-needs d p = length-groups (geometry_in (d superblock_at)) (staging (catalogue_of d) (length p.targets)) d p
