-- What a changing call goes by: its data sectors, then the copies one by one, then the commit, are the groups of its plan.
-- Assumes nothing.
use Prim.Native.Nat.{ℕ, ◌+◌, ◌-◌, ◌*◌, ◌/◌, ◌%◌, ◌≤◌, ◌<◌}
use mathlib.Core.Path.{◌≡◌, refl, sym, ap, ap₂, ◌∙◌}
use mathlib.Core.List.{List, [], ◌∷◌, ◌++◌, append_assoc, append-nil}
use mathlib.Core.Option.{some}
use native.Mathlib.Nat.{zero-add}
use native.Mathlib.Omega.{arith}
use lib.ListN.{length, get_or, set, length-append}
use lib.Seq.{get_or-append-add, get_or-set_same, get_or-set_other}
use Rattle.model.specs.declared.Geometry.{Geometry}
use Rattle.model.specs.Bytes.{bytes_from}
use Rattle.model.specs.Search.{tabulate}
use Rattle.model.specs.Geometry.{superblock_at, extent_sectors, extent_at}
use Rattle.model.specs.Disk.{Disk}
use Rattle.model.specs.Superblock.{geometry_in}
use Rattle.model.specs.Catalogue.{catalogue_of, staging_extents}
use Rattle.model.specs.WriteList.{Record, Group, Plan, sector_write, barrier, record_size, contents_start, record_bytes, list_bytes, Emitted}
use Rattle.model.specs.WriteList.{stage_in, stages_in, staging, copies, sectors_of, journal_of, group_a, superblock_group, groups_of, groups_for, closed_after, closed}
use Rattle.laws.proofs.Bytes.{bytes_from-more, bytes_from-ext, get_or-bytes_from}
use Rattle.laws.proofs.Search.{length-tabulate, tabulate-ext}
use Rattle.laws.proofs.WriteList.{list_bytes-append, emitted-none, emitted_then}
use Rattle.commit.specs.Commit.{StagesOf, staged_targets, commit_groups, Staged, Added}
use Rattle.laws.proofs.WriteList.{sector-at, length-copies}
use Rattle.commit.proofs.Records.{contents-emitted, written, bytes-tabulate, emitted-same, tabulate-list, sectors-more, copy_at, copies-more, closed-front}

-- ---- target by target

bytes_from-set : (numbers : List ℕ) (j s : ℕ) → j < length numbers → bytes_from (set numbers j s) 0 (j + 1) ≡ bytes_from numbers 0 j ++ (s ∷ [])
bytes_from-set numbers j s h =
    bytes_from-more (set numbers j s) 0 j
    ∙ ap₂ (λ (l : List ℕ) (x : ℕ). l ++ (x ∷ []))
    (bytes_from-ext (set numbers j s) numbers 0 0 j (λ i k. get_or-set_other numbers j (0 + i) s 0 (λ e. omega arith)))
    (ap (λ i. get_or (set numbers j s) i 0) (zero-add j) ∙ get_or-set_same numbers j s 0 h)

module _ {g : Geometry} {es l : List ℕ} {ds : Group} where
  -- after the data sectors, before the first target
  pub staged-none : {numbers m : List ℕ} {k : ℕ} → Emitted l 0 ds m k → Staged g es l ds [] numbers m k
  unfolding copies tabulate bytes_from
  staged-none e = record { emitted = rw append-nil e; numbered = refl }

  -- `put_copy` of one target more
  pub staged-more : {ts : Group} {numbers numbers' m m' : List ℕ} {k k' j : ℕ} {c : List ℕ} (s : ℕ) → Staged g es l ds ts numbers m k → j ≡ length ts → j < length numbers
      → Emitted m k (sector_write (stage_in g es j) c ∷ []) m' k' → numbers' ≡ set numbers j s
      → Staged g es l ds (ts ++ (sector_write s c ∷ [])) numbers' m' k'
  staged-more {ts} {numbers} {numbers'} {m} {m'} {k} {k'} {j} {c} s st e h p q =
      let all : Emitted l 0 (ds ++ copies (stages_in g es (length ts)) ts ++ (sector_write (stage_in g es (length ts)) c ∷ [])) m' k' = emitted_then st.emitted (rw e at p) in
      record {
        emitted =
            rw (ap (λ (x : Group). ds ++ x) (copies-more g es ts (sector_write s c))
            ∙ sym (append_assoc ds (copies (stages_in g es (length ts)) ts) (sector_write (stage_in g es (length ts)) c ∷ []))) all;
        numbered =
            ap₂ (λ (x : List ℕ) (n : ℕ). bytes_from x 0 n) q (length-append ts (sector_write s c ∷ []) ∙ ap (λ x. x + 1) (sym e))
            ∙ bytes_from-set numbers j s h
            ∙ ap (λ (x : List ℕ). x ++ (s ∷ [])) (ap (λ n. bytes_from numbers 0 n) e ∙ st.numbered)
            ∙ sym (sectors-more ts (sector_write s c));
      }

  -- the next position
  pub staged_count : {ts : Group} {numbers m : List ℕ} {k : ℕ} → Staged g es l ds ts numbers m k → k ≡ length ds + length ts
  staged_count {ts} {numbers} {m} {k} st =
      let n : k ≡ 0 + length (ds ++ copies (stages_in g es (length ts)) ts) = st.emitted.next in
      omega (arith, length-append ds (copies (stages_in g es (length ts)) ts), length-copies (stages_in g es (length ts)) ts)

-- ---- what the commit finds in the list are the targets

module _ (g : Geometry) (es l : List ℕ) (ds ts : Group) (numbers m : List ℕ) (k : ℕ) (st : Staged g es l ds ts numbers m k) (room : k * record_size ≤ length l) where
  noted : (j : ℕ) → j < length ts → get_or numbers j 0 ≡ (get_or ts j barrier).sector
  noted j h =
      sym (get_or-bytes_from numbers 0 (length ts) j h ∙ ap (λ x. get_or numbers x 0) (zero-add j))
      ∙ ap (λ (x : List ℕ). get_or x j 0) st.numbered
      ∙ sector-at ts j h

  copied : (j : ℕ) → j < length ts → bytes_from m ((length ds + j) * record_size + contents_start) 512 ≡ bytes_from (get_or ts j barrier).contents 0 512
  copied j h =
      let cs : Group = copies (stages_in g es (length ts)) ts in
      let n : length (ds ++ cs) ≡ length ds + length ts = length-append ds cs ∙ ap (λ x. length ds + x) (length-copies (stages_in g es (length ts)) ts) in
      let e : k ≡ length ds + length ts = staged_count st in
      ap₂ (λ (x : List ℕ) (i : ℕ). bytes_from x (i * record_size + contents_start) 512) st.emitted.holds (sym (zero-add (length ds + j)))
      ∙ contents-emitted l 0 (ds ++ cs) (length ds + j) (omega arith) (omega arith)
      ∙ ap (λ (r : Record). bytes_from r.contents 0 512) (get_or-append-add ds cs j barrier)
      ∙ ap (λ (c : List ℕ). bytes_from c 0 512) (copy_at (stages_in g es (length ts)) ts j h)

  targets-same : (p : ℕ) → list_bytes p (staged_targets m (length ds) numbers (length ts)) ≡ list_bytes p ts
  unfolding staged_targets
  targets-same p =
      bytes-tabulate (λ j. sector_write (get_or numbers j 0) (bytes_from m ((length ds + j) * record_size + contents_start) 512)) (λ j. get_or ts j barrier) (length ts)
      (λ q j h. ap₂ (λ (s : ℕ) (c : List ℕ). record_bytes q (sector_write s c)) (noted j h) (copied j h) ∙ written q (get_or ts j barrier).sector (get_or ts j barrier).contents) p
      ∙ ap (list_bytes p) (tabulate-list barrier ts)

length-staged : (list : List ℕ) (from : ℕ) (numbers : List ℕ) (n : ℕ) → length (staged_targets list from numbers n) ≡ n
unfolding staged_targets
length-staged list from numbers n = length-tabulate (λ j. sector_write (get_or numbers j 0) (bytes_from list ((from + j) * record_size + contents_start) 512)) 0 n

-- ---- the commit behind them

groups-split : (g : Geometry) (es : List ℕ) (d : Disk) (p : Plan)
    → closed (groups_of g (stages_in g es (length p.targets)) d p)
    ≡ (p.data_sectors ++ copies (stages_in g es (length p.targets)) p.targets)
    ++ closed (journal_of g (stages_in g es (length p.targets)) (sectors_of p.targets) ∷ superblock_group d (length p.targets) ∷ p.targets ∷ superblock_group d 0 ∷ [])
unfolding groups_of group_a
groups-split g es d p =
    let n = length p.targets in
    let front : Group = p.data_sectors ++ copies (stages_in g es n) p.targets in
    let journal : Group = journal_of g (stages_in g es n) (sectors_of p.targets) in
    let rest : List Group = superblock_group d n ∷ p.targets ∷ superblock_group d 0 ∷ [] in
    ap (λ (x : List Record). closed_after x rest) (append_assoc front journal (barrier ∷ [])) ∙ closed-front front (journal ++ (barrier ∷ [])) rest

-- the stages in the disk's staging extents are its
stages-are : (g : Geometry) (es : List ℕ) (d : Disk) (n : ℕ) → g ≡ geometry_in (d superblock_at) → StagesOf g d es → stages_in g es n ≡ staging (catalogue_of d) n
unfolding stages_in staging stage_in catalogue_of
stages-are g es d n is are =
    tabulate-ext (stage_in g es) (stage_in (geometry_in (d superblock_at)) (staging_extents (catalogue_of d))) 0 0 n
    (λ k l. ap₂ (λ (h : Geometry) (e : ℕ). extent_at h e + (0 + k) % extent_sectors h) is
    (are.are ((0 + k) / extent_sectors g) ∙ ap (λ (h : Geometry). get_or (staging_extents (catalogue_of d)) ((0 + k) / extent_sectors h) 0) is))

-- groups whose third has other records of the same bytes
module _ (x a b c c' e : Group) (same : (p : ℕ) → list_bytes p c ≡ list_bytes p c') (many : length c ≡ length c') where
  bytes-third : (p : ℕ) → list_bytes p (x ++ closed (a ∷ b ∷ c ∷ e ∷ [])) ≡ list_bytes p (x ++ closed (a ∷ b ∷ c' ∷ e ∷ []))
  bytes-third p = simp (list_bytes-append, length-append, same, many)

  length-third : length (x ++ closed (a ∷ b ∷ c ∷ e ∷ [])) ≡ length (x ++ closed (a ∷ b ∷ c' ∷ e ∷ []))
  length-third = simp (length-append, many)

module _ {g : Geometry} {es l numbers m m' : List ℕ} {k n j : ℕ} (d : Disk) (p : Plan) where
  -- what was staged and then committed by `put_commit`: the plan's groups, in the list that the call was lent
  pub committed : Staged g es l p.data_sectors p.targets numbers m k → n ≡ length p.targets → k * record_size ≤ length l
      → Emitted m k (closed (commit_groups g es d m (k - n) numbers n)) m' j → Emitted l 0 (closed (groups_of g (stages_in g es (length p.targets)) d p)) m' j
  unfolding commit_groups
  committed st e room q =
      let ds = p.data_sectors in
      let ts = p.targets in
      let front : Group = ds ++ copies (stages_in g es (length ts)) ts in
      let journal : Group = journal_of g (stages_in g es (length ts)) (sectors_of ts) in
      let staged : Group = staged_targets m (length ds) numbers (length ts) in
      let at : k - n ≡ length ds = omega (arith, staged_count st) in
      let same : (p : ℕ) → list_bytes p staged ≡ list_bytes p ts = targets-same g es l ds ts numbers m k st room in
      let many : length staged ≡ length ts = length-staged m (length ds) numbers (length ts) in
      let behind : Emitted m k (closed (journal ∷ superblock_group d (length ts) ∷ staged ∷ superblock_group d 0 ∷ [])) m' j = rw (at, e, st.numbered) at q in
      rw (groups-split g es d p)
      (emitted-same
      (bytes-third front journal (superblock_group d (length ts)) staged ts (superblock_group d 0) same many 0)
      (length-third front journal (superblock_group d (length ts)) staged ts (superblock_group d 0) same many)
      (emitted_then st.emitted behind))

  -- the same where the geometry is the disk's, and so are the extents
  pub committed-for : g ≡ geometry_in (d superblock_at) → StagesOf g d es → Staged g es l p.data_sectors p.targets numbers m k → n ≡ length p.targets → k * record_size ≤ length l
      → Emitted m k (closed (commit_groups g es d m (k - n) numbers n)) m' j → Emitted l 0 (closed (groups_for d (some p))) m' j
  unfolding groups_for
  committed-for is are st e room q =
      rw (← is, sym (stages-are g es d (length p.targets) is are)) (committed st e room q)

-- ---- targets one after the other, of a call with no data sectors

-- what an equation speaks of: names what a call left
abbrev pub left : {l m : List ℕ} → l ≡ m → List ℕ
left {l} {m} e = l

pub added_none : (g : Geometry) (es numbers m : List ℕ) (k : ℕ) → Added g es numbers m k [] numbers m k
added_none g es numbers m k = record { more = λ l ts st. rw append-nil st; next = omega arith }

module _ {g : Geometry} {es numbers m : List ℕ} {k : ℕ} where
  pub added_then : {numbers' m' numbers'' m'' : List ℕ} {k' k'' : ℕ} {a b : Group}
      → Added g es numbers m k a numbers' m' k' → Added g es numbers' m' k' b numbers'' m'' k'' → Added g es numbers m k (a ++ b) numbers'' m'' k''
  added_then {numbers'} {m'} {numbers''} {m''} {k'} {k''} {a} {b} p q =
      record {
        more = λ l ts st. rw (sym (append_assoc ts a b)) (q.more l (ts ++ a) (p.more l ts st));
        next = omega (arith, length-append a b, p.next, q.next);
      }

  -- `put_copy` of one
  pub added-copy : {numbers' m' c : List ℕ} {k' s : ℕ} → Emitted m k (sector_write (stage_in g es k) c ∷ []) m' k' → numbers' ≡ set numbers k s → k < length numbers
      → Added g es numbers m k (sector_write s c ∷ []) numbers' m' k'
  added-copy {numbers'} {m'} {c} {k'} {s} p q h =
      record { more = λ l ts st. staged-more s st (let e : k ≡ length ts = omega (arith, staged_count st) in e) h p q; next = p.next }

-- all of a plan's targets, and the commit behind them
module _ {g : Geometry} {es numbers₀ numbers l m m' : List ℕ} {ts : Group} {k j : ℕ} (d : Disk) (p : Plan) where
  pub added-committed : Added g es numbers₀ l 0 ts numbers m k → Emitted m k (closed (commit_groups g es d m (k - k) numbers k)) m' j
      → g ≡ geometry_in (d superblock_at) → StagesOf g d es → ts ≡ p.targets → p.data_sectors ≡ [] → k * record_size ≤ length l
      → Emitted l 0 (closed (groups_for d (some p))) m' j
  added-committed a q is are e none room =
      let st : Staged g es l [] p.targets numbers m k = rw (← e) (a.more l [] (staged-none (emitted-none l 0))) in
      committed-for d p is are (rw none st) (let e : k ≡ length p.targets = omega (arith, staged_count st) in e) room q
