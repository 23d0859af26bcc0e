-- A RECOVERY IN ITS LENT FORM is the whole-image call: it lists group C with what the lent sectors show of the sources, asks for each entry's source and
-- puts it into the record of the entry's target, whose position is the number of targets below it, counted or shown by the list. Assumes nothing.
use Prim.Native.Nat.{ℕ, zero, suc, ◌+◌, ◌*◌, ◌-◌, ◌^◌, ◌≤◌, ◌<◌}
use mathlib.Core.Path.{◌≡◌, refl, sym, ap, ap₂, ◌∙◌, subst}
use mathlib.Core.Logic.{◌≢◌}
use mathlib.Core.Bool.{Bool, true, false, cond, ◌&&◌, ◌||◌, true≢false}
use mathlib.Core.List.{List, [], ◌∷◌, ◌++◌, append_assoc, append-nil}
use native.Mathlib.Omega.{arith}
use native.Mathlib.Decide.{dec_lt}
use native.Mathlib.Nat.{add-zero, add-suc, zero-add, not-suc-le-zero}
use lib.Dec.{eqb, leb, ltb}
use lib.ListN.{length, get_or, length-append, get_or-append}
use lib.Seq.{get_or-append-add}
use borrow.Author.Tests.{eqb-true, eqb-false, eq-eqb, ne_eqb, le-leb, leb-true, lt-ltb, le-ltb, ltb-true, ltb-false}
use Rattle.model.specs.declared.Geometry.{Geometry}
use Rattle.model.specs.declared.State.{State}
use Rattle.model.specs.declared.State.TheVariants.{Clean, Waiting, Damaged, Unfinished}
use Rattle.model.specs.Answers.{Verdict, Recovered}
use Rattle.model.specs.declared.Recovering.{Recovering}
use Rattle.std.specs.Prelude.{Some}
use Rattle.model.specs.Bytes.{put, be_bytes, bytes_from}
use Rattle.model.specs.Search.{Lowest, first, any_below, count_below, tabulate, concatenated, is_at, index_of}
use Rattle.model.specs.Geometry.{superblock_at, data_at, volume_sectors, in_bounds}
use Rattle.model.specs.Disk.{Disk, view}
use Rattle.model.specs.Superblock.{geometry_in, journal_length, state_of, state_on}
use Rattle.model.specs.Journal.{source_at, target_at}
use Rattle.model.specs.Refusals.{refusal, done, is_done, and_then, image_verdict, state_number}
use Rattle.model.specs.Summary.{state_entries}
use Rattle.model.specs.WriteList.{Record, Group, sector_write, barrier_number, barrier, record_size, contents_start, record_bytes, list_bytes, emit}
use Rattle.model.specs.WriteList.{superblock_group, closed, list_length, own_verdict}
use Rattle.model.specs.CarryOut.{record_in}
use Rattle.model.specs.Recovery.{is_data, is_metadata, good_entry, replayed_sector, replayed, replay_groups, recovery_groups, recovery_verdict, recovery_listed, recovery_answer, recovery_list}
use Rattle.model.specs.Lent.{is_front, is_asked, recovery_idle, recovery_asking, recovery_lent, entries_waiting}
use Rattle.model.specs.Lent.{target_place, takes_source, source_taken, source_not_taken, recovery_step, recovery_step_list}
use Rattle.laws.proofs.Booleans.{and_left}
use Rattle.laws.proofs.Bytes.{length-be_bytes, length-bytes_from, length-put, bytes_from-all, put_in}
use Rattle.laws.proofs.Search.{any_below-no, count_below-ext, concatenated-front, concatenated-ext, first-ext, first-none, none-at}
use Rattle.laws.proofs.Seeking.{first-there, any_below-first}
use Rattle.laws.proofs.Count.{count_below-none, count_below-split, length-concatenated}
use Rattle.laws.proofs.Disk.{length-view}
use Rattle.laws.proofs.WriteList.{length-list_bytes, list_bytes-append}
use Rattle.laws.proofs.RenameSet.{tabulate-front}
use Rattle.laws.proofs.Areas.{data-below, metadata-below}
use Rattle.model.proofs.Areas.{bounds, product}
use Rattle.safety.specs.LentForms.{Lends, goes_by, recovery_fed, recovery_asked, recovery_steps, recovery_answered, begun_recovery, begun_list, LentRecovery}
use Rattle.safety.proofs.Searches.{place_found}
use Rattle.safety.proofs.Superblock.{volume-bounds, groups-are, by_room, Recovers, when-done}
use Rattle.safety.proofs.Frame.{closed-cons}
use Rattle.safety.proofs.Replayed.{target-metadata, target_once, waiting-recovers, length-replayed, length-recovery}
use Rattle.safety.proofs.Bridge.{number-emitted}
use Rattle.safety.proofs.AnyJournal.{volume, good, few}
use Rattle.safety.proofs.LentFront.{Agrees, same-geometry, same-state, same-group, source-same, target-same, few-entries, same-journal, lent-agrees, front-is, lent-image}

-- ---- a record's contents put into a list that is emitted already

put-tail : (x : ℕ) (l : List ℕ) (i : ℕ) (v : List ℕ) → put (x ∷ l) (suc i) v ≡ x ∷ put l i v
unfolding put
put-tail x l i [] = refl
put-tail x l i (y ∷ v) = put-tail x _ (suc i) v

put_front : (m v b : List ℕ) → length m ≡ length v → put (m ++ b) 0 v ≡ v ++ b
unfolding put
put_front [] [] b e = refl
put_front [] (y ∷ v) b e = absurd (omega arith)
put_front (x ∷ m) [] b e = absurd (omega arith)
put_front (x ∷ m) (y ∷ v) b e = put-tail y (m ++ b) 0 v ∙ ap (λ (r : List ℕ). y ∷ r) (put_front m v b (omega arith))

put-middle : (a m v b : List ℕ) → length m ≡ length v → put (a ++ (m ++ b)) (length a) v ≡ a ++ (v ++ b)
put-middle [] m v b e = put_front m v b e
put-middle (x ∷ a) m v b e = put-tail x (a ++ (m ++ b)) (length a) v ∙ ap (λ (r : List ℕ). x ∷ r) (put-middle a m v b e)

module _ (A : List Record) (s : ℕ) (R : List Record) where
  -- the bytes in front of the contents, and those behind them
  abbrev before : List ℕ
  before = list_bytes 0 A ++ (be_bytes 8 (0 + length A) ++ be_bytes 8 s)

  abbrev behind : List ℕ
  behind = list_bytes (suc (0 + length A)) R

  length_before : length before ≡ length A * record_size + contents_start
  length_before = simp (length-append, length-be_bytes, length-list_bytes)

  around : (x : List ℕ) → list_bytes 0 (A ++ (sector_write s x ∷ R)) ≡ before ++ (bytes_from x 0 512 ++ behind)
  unfolding list_bytes record_bytes
  around x =
      list_bytes-append 0 A (sector_write s x ∷ R)
      ∙ ap (λ (r : List ℕ). list_bytes 0 A ++ r) (append_assoc (be_bytes 8 (0 + length A) ++ be_bytes 8 s) (bytes_from x 0 512) behind)
      ∙ sym (append_assoc (list_bytes 0 A) (be_bytes 8 (0 + length A) ++ be_bytes 8 s) (bytes_from x 0 512 ++ behind))

  refilled : (l x y : List ℕ) → length y ≡ 512
      → put (emit l 0 (A ++ (sector_write s x ∷ R))) (length A * record_size + contents_start) y ≡ emit l 0 (A ++ (sector_write s y ∷ R))
  unfolding emit
  refilled l x y e =
      let o = length A * record_size + contents_start in
      let X = list_bytes 0 (A ++ (sector_write s x ∷ R)) in
      let c : length (bytes_from x 0 512) ≡ length y = length-bytes_from x 0 512 ∙ sym e in
      let n : length X ≡ length before + (512 + length behind) = ap length (around x) ∙ simp (length-append, length-bytes_from) in
      let fits : o + length y ≤ length X = omega (arith, length_before) in
      let inside : put X o y ≡ list_bytes 0 (A ++ (sector_write s y ∷ R)) =
      ap₂ (λ (z : List ℕ) (i : ℕ). put z i y) (around x) (sym length_before) ∙ put-middle before (bytes_from x 0 512) y behind c
      ∙ ap (λ (z : List ℕ). before ++ (z ++ behind)) (sym (bytes_from-all y 512 e)) ∙ sym (around y) in
      ap (λ (i : ℕ). put (put l 0 X) i y) (sym (zero-add o)) ∙ put_in l 0 X o y fits ∙ ap (put l 0) inside

-- two groups, closed
closed-two : (C D : Group) → closed (C ∷ D ∷ []) ≡ C ++ (barrier ∷ D ++ (barrier ∷ []))
closed-two C D = append_assoc (C ++ (barrier ∷ [])) D (barrier ∷ []) ∙ append_assoc C (barrier ∷ []) (D ++ (barrier ∷ []))

-- ---- group C of n targets, the record of entry k's with the contents c k

concatenated-split : (f : ℕ → Group) (a m n : ℕ) → concatenated f a (m + n) ≡ concatenated f a m ++ concatenated f (a + m) n
unfolding concatenated
concatenated-split f a m zero = rw add-zero (sym (append-nil (concatenated f a m)))
concatenated-split f a m (suc n) =
    rw add-suc
    (ap₂ (λ l x. l ++ f x) (concatenated-split f a m n) (let e : a + (m + n) ≡ a + m + n = omega arith in e)
    ∙ append_assoc (concatenated f a m) (concatenated f (a + m) n) (f (a + m + n)))

bit-next : (x b : ℕ) → cond {A = ℕ} (ltb x (suc b)) 1 0 ≡ cond (eqb x b) 1 0 + cond (ltb x b) 1 0
bit-next x b = go (ltb x b) (eqb x b) refl refl
  where
    one : x < suc b → cond {A = ℕ} (ltb x (suc b)) 1 0 ≡ 1
    one h = ap (λ (t : Bool). cond {A = ℕ} t 1 0) (lt-ltb x (suc b) h)

    go : (p q : Bool) → ltb x b ≡ p → eqb x b ≡ q → cond {A = ℕ} (ltb x (suc b)) 1 0 ≡ cond q 1 0 + cond p 1 0
    go true true e h = absurd (omega (arith, ltb-true x b e, eqb-true x b h))
    go true false e h = one (omega (arith, ltb-true x b e))
    go false true e h = one (omega (arith, eqb-true x b h))
    go false false e h =
        let ne : x ≢ b = eqb-false x b h in
        ap (λ (t : Bool). cond {A = ℕ} t 1 0) (le-ltb x (suc b) (omega (arith, ltb-false x b e, ne)))

one-record : (b : Bool) (w : Record) → length (cond b (w ∷ []) []) ≡ cond b 1 0
one-record true w = refl
one-record false w = refl

module _ (T : ℕ → ℕ) (n : ℕ) where
  unfoldable filled_sector : (ℕ → List ℕ) → ℕ → List Record
  filled_sector c t = let k = first (λ j. eqb (T j) t) n in cond (is_at k) (sector_write t (c (index_of k)) ∷ []) []

  unfoldable filled : (ℕ → List ℕ) → ℕ → Group
  filled c b = concatenated (filled_sector c) 0 b

  -- how many records there are rests on the targets alone
  length-filled : (c : ℕ → List ℕ) (b : ℕ) → length (filled c b) ≡ count_below (λ t. any_below (λ j. eqb (T j) t) n) b
  unfolding filled filled_sector
  length-filled c b =
      length-concatenated (filled_sector c) (λ t. any_below (λ j. eqb (T j) t) n) b
      (λ t. one-record (is_at (first (λ j. eqb (T j) t) n)) _ ∙ ap (λ (q : Bool). cond q 1 0) (sym (any_below-first (λ j. eqb (T j) t) n)))

  -- record i is that of a sector below which i records stand
  one_more : (A : List Record) (q : Bool) (w : Record) (i : ℕ) → length A ≤ i → i < length (A ++ cond q (w ∷ []) [])
      → (get_or (A ++ cond q (w ∷ []) []) i barrier ≡ w) × (length A ≡ i)
  one_more A true w i h l =
      let e : length A ≡ i = omega (arith, length-append A (w ∷ [])) in
      let z : i ≡ length A + 0 = omega arith in
      (ap (λ (j : ℕ). get_or (A ++ (w ∷ [])) j barrier) z ∙ get_or-append-add A (w ∷ []) 0 barrier, e)
  one_more A false w i h l = absurd (omega (arith, length-append A []))

  numbered : (c : ℕ → List ℕ) (b i : ℕ) → i < length (filled c b)
      → ((get_or (filled c b) i barrier).sector < b) × (length (filled c (get_or (filled c b) i barrier).sector) ≡ i)
  unfolding filled filled_sector concatenated
  numbered c zero i h = absurd (not-suc-le-zero h)
  numbered c (suc b) i h = go (dec_lt i (length (filled c b))) (numbered c b i)
    where
      p : Lowest
      p = first (λ j. eqb (T j) (0 + b)) n

      w : Record
      w = sector_write (0 + b) (c (index_of p))

      go : Dec (i < length (filled c b)) → (i < length (filled c b) → ((get_or (filled c b) i barrier).sector < b) × (length (filled c (get_or (filled c b) i barrier).sector) ≡ i))
          → ((get_or (filled c b ++ cond (is_at p) (w ∷ []) []) i barrier).sector < suc b)
          × (length (filled c (get_or (filled c b ++ cond (is_at p) (w ∷ []) []) i barrier).sector) ≡ i)
      go (yes r) ih =
          let e = get_or-append (filled c b) (cond (is_at p) (w ∷ []) []) barrier i r in
          let x = ih r in
          (subst (λ (y : Record). y.sector < suc b) (sym e) (omega (arith, x.0)), ap (λ (y : Record). length (filled c y.sector)) e ∙ x.1)
      go (no r) ih =
          let x = one_more (filled c b) (is_at p) w i (omega arith) h in
          let z : 0 + b ≡ b = zero-add b in (
            subst (λ (y : Record). y.sector < suc b) (sym x.0) (omega arith),
            ap (λ (y : Record). length (filled c y.sector)) x.0 ∙ ap (λ (k : ℕ). length (filled c k)) z ∙ x.1,
          )

  -- contents that are the same for the entries of target t
  filled-sector : (c e : ℕ → List ℕ) (t : ℕ) → ((k : ℕ) → k < n → T k ≡ t → c k ≡ e k) → filled_sector c t ≡ filled_sector e t
  unfolding filled_sector
  filled-sector c e t h = go (is_at p) refl
    where
      p : Lowest
      p = first (λ j. eqb (T j) t) n

      go : (b : Bool) → is_at p ≡ b → cond b (sector_write t (c (index_of p)) ∷ []) [] ≡ cond b (sector_write t (e (index_of p)) ∷ []) []
      go true q =
          let x = place_found (λ j. eqb (T j) t) n q in
          ap (λ (y : List ℕ). sector_write t y ∷ []) (h (index_of p) x.0 (eqb-true (T (index_of p)) t x.1))
      go false q = refl

  filled-same : (c e : ℕ → List ℕ) → ((k : ℕ) → k < n → c k ≡ e k) → (b : ℕ) → filled c b ≡ filled e b
  unfolding filled
  filled-same c e h b = concatenated-ext (filled_sector c) (filled_sector e) 0 b (λ t p q. filled-sector c e t (λ k l z. h k l))

  module _ (once : (j k : ℕ) → j < k → k < n → T j ≢ T k) where
    one-target : (t m : ℕ) → m ≤ n → count_below (λ j. eqb (T j) t) m ≡ cond (any_below (λ j. eqb (T j) t) m) 1 0
    unfolding count_below any_below
    one-target t zero h = refl
    one-target t (suc m) h = go (eqb (T m) t) refl (one-target t m (omega arith))
      where
        p : ℕ → Bool
        p j = eqb (T j) t

        go : (b : Bool) → eqb (T m) t ≡ b → count_below p m ≡ cond (any_below p m) 1 0 → cond b 1 0 + count_below p m ≡ cond (b || any_below p m) 1 0
        go true e ih =
            let z = count_below-none p m (any_below-no p m (λ j l. ne_eqb (T j) t (λ q. once j m l (omega arith) (q ∙ sym (eqb-true (T m) t e))))) in
            omega arith
        go false e ih = zero-add (count_below p m) ∙ ih

    -- the records below sector b are as many as the targets below it
    below : (b : ℕ) → count_below (λ t. any_below (λ j. eqb (T j) t) n) b ≡ count_below (λ j. ltb (T j) b) n
    unfolding count_below
    below zero = sym (count_below-none (λ j. ltb (T j) 0) n (any_below-no (λ j. ltb (T j) 0) n (λ j l. le-ltb (T j) 0 (omega arith))))
    below (suc b) =
        let s = count_below-split (λ j. ltb (T j) (suc b)) (λ j. eqb (T j) b) (λ j. ltb (T j) b) n (λ j. bit-next (T j) b) in
        omega (arith, s, below b, one-target b n (omega arith))

    position : (c : ℕ → List ℕ) (b : ℕ) → length (filled c b) ≡ count_below (λ j. ltb (T j) b) n
    position c b = length-filled c b ∙ below b

    module _ (k : ℕ) (l : k < n) (b : ℕ) (inside : T k < b) where
      found : first (λ j. eqb (T j) (T k)) n ≡ Some k
      found =
          first-there (λ j. eqb (T j) (T k)) k n l (first-none (λ j. eqb (T j) (T k)) k (λ j h. ne_eqb (T j) (T k) (once j k h l)))
          (eq-eqb (T k) (T k) refl)

      own-record : (c : ℕ → List ℕ) → filled_sector c (T k) ≡ sector_write (T k) (c k) ∷ []
      unfolding filled_sector
      own-record c = ap (λ (p : Lowest). cond (is_at p) (sector_write (T k) (c (index_of p)) ∷ []) []) found

      abbrev rest : (ℕ → List ℕ) → Group
      rest c = concatenated (filled_sector c) (suc (T k)) (b - suc (T k))

      parts : (c : ℕ → List ℕ) → filled c b ≡ filled c (T k) ++ (sector_write (T k) (c k) ∷ rest c)
      unfolding filled
      parts c =
          let e : b ≡ T k + suc (b - suc (T k)) = omega arith in
          ap (concatenated (filled_sector c) 0) e ∙ concatenated-split (filled_sector c) 0 (T k) (suc (b - suc (T k)))
          ∙ ap (λ (i : ℕ). concatenated (filled_sector c) 0 (T k) ++ concatenated (filled_sector c) i (suc (b - suc (T k)))) (zero-add (T k))
          ∙ ap (λ (r : Group). concatenated (filled_sector c) 0 (T k) ++ r)
          (concatenated-front (filled_sector c) (T k) (b - suc (T k)) ∙ ap (λ (r : Group). r ++ rest c) (own-record c))

      -- other contents of this entry alone
      other-sector : (c e : ℕ → List ℕ) → ((j : ℕ) → j ≢ k → c j ≡ e j) → (t : ℕ) → t ≢ T k → filled_sector c t ≡ filled_sector e t
      other-sector c e h t ne = filled-sector c e t (λ j r q. h j (λ z. ne (sym q ∙ ap T z)))

      module _ (c e : ℕ → List ℕ) (h : (j : ℕ) → j ≢ k → c j ≡ e j) (D : Group) where
        abbrev behind_it : Group
        behind_it = rest c ++ (barrier ∷ D ++ (barrier ∷ []))

        with-contents : (x : ℕ → List ℕ) → ((j : ℕ) → j ≢ k → c j ≡ x j)
            → closed (filled x b ∷ D ∷ []) ≡ filled c (T k) ++ (sector_write (T k) (x k) ∷ behind_it)
        unfolding filled
        with-contents x q =
            let a : filled x (T k) ≡ filled c (T k) =
            concatenated-ext (filled_sector x) (filled_sector c) 0 (T k) (λ t u v. sym (other-sector c x q t (λ z. omega arith))) in
            let r : rest x ≡ rest c =
            concatenated-ext (filled_sector x) (filled_sector c) (suc (T k)) (b - suc (T k)) (λ t u v. sym (other-sector c x q t (λ z. omega arith))) in
            closed-two (filled x b) D ∙ ap (λ (y : Group). y ++ (barrier ∷ D ++ (barrier ∷ []))) (parts x)
            ∙ append_assoc (filled x (T k)) (sector_write (T k) (x k) ∷ rest x) (barrier ∷ D ++ (barrier ∷ []))
            ∙ (λ i. a i ++ (sector_write (T k) (x k) ∷ (r i ++ (barrier ∷ D ++ (barrier ∷ [])))))

        -- PUT INTO ITS TARGET'S RECORD, they are the list with these contents
        replaced : (list : List ℕ) → length (e k) ≡ 512
            → put (emit list 0 (closed (filled c b ∷ D ∷ []))) (count_below (λ j. ltb (T j) (T k)) n * record_size + contents_start) (e k)
            ≡ emit list 0 (closed (filled e b ∷ D ∷ []))
        replaced list long =
            ap₂ (λ (rs : List Record) (p : ℕ). put (emit list 0 rs) (p * record_size + contents_start) (e k)) (with-contents c (λ j z. refl)) (sym (position c (T k)))
            ∙ refilled (filled c (T k)) (T k) behind_it list (c k) (e k) long ∙ ap (emit list 0) (sym (with-contents e h))

filled-targets : (T U : ℕ → ℕ) (n : ℕ) → ((k : ℕ) → k < n → T k ≡ U k) → (c : ℕ → List ℕ) (b : ℕ) → filled T n c b ≡ filled U n c b
unfolding filled filled_sector
filled-targets T U n h c b =
    concatenated-ext (filled_sector T n c) (filled_sector U n c) 0 b
    (λ t p q. ap (λ (x : Lowest). cond (is_at x) (sector_write t (c (index_of x)) ∷ []) [])
    (first-ext (λ j. eqb (T j) t) (λ j. eqb (U j) t) n (λ k l. ap (λ (s : ℕ). eqb s t) (h k l))))

-- as recovery lists it
own-group : (g : Geometry) (d : Disk) (n : ℕ) → replayed g d n ≡ filled (target_at g d) n (λ k. d (source_at g d k)) (data_at g)
unfolding replayed replayed_sector filled filled_sector
own-group g d n = refl

no-records : (x : List Record) → length x * record_size ≡ 0 → x ≡ []
no-records [] e = refl
no-records (r ∷ x) e = absurd (omega arith)

-- ---- recovery on a disk that agrees with another before the data area: the same verdict, and a list of the same length

module _ (d d' : Disk) (same : Agrees d d') where
  abbrev g : Geometry
  g = geometry_in (d superblock_at)

  abbrev target : ℕ → ℕ
  target = target_at (geometry_in (d superblock_at)) d

  abbrev source : ℕ → ℕ
  source = source_at (geometry_in (d superblock_at)) d

  -- group C, with what the other disk shows of the sources
  group-same : (n : ℕ) → n ≤ 1024 → replayed g d' n ≡ filled target n (λ k. d' (source k)) (data_at g)
  group-same n few =
      own-group g d' n
      ∙ filled-targets (target_at g d') target n (λ k l. target-same d d' same k (omega arith)) (λ k. d' (source_at g d' k)) (data_at g)
      ∙ filled-same target n (λ k. d' (source_at g d' k)) (λ k. d' (source k)) (λ k l. ap d' (source-same d d' same k (omega arith))) (data_at g)

  needs-same : (s : State) → state_on d ≡ s → list_length (replay_groups g d' s) ≡ list_length (replay_groups g d s)
  needs-same Clean e = refl
  needs-same (Waiting n) e =
      let c : length (replayed g d' n) ≡ length (replayed g d n) =
      ap length (group-same n (few-entries d d' same n e)) ∙ length-filled target n (λ k. d' (source k)) (data_at g)
      ∙ sym (ap length (own-group g d n) ∙ length-filled target n (λ k. d (source k)) (data_at g)) in
      ap (λ (x : ℕ). x * record_size)
      (closed-cons (replayed g d' n) (superblock_group d' 0 ∷ []) ∙ ap (λ (x : ℕ). x + 1 + 2) c ∙ sym (closed-cons (replayed g d n) (superblock_group d 0 ∷ [])))
  needs-same Damaged e = refl
  needs-same Unfinished e = refl

  needed : list_length (recovery_groups d') ≡ list_length (recovery_groups d)
  unfolding recovery_groups
  needed = (λ i. list_length (replay_groups (same-geometry d d' same i) d' (same-state d d' same i))) ∙ needs-same (state_on d) refl

  module _ (len len' room : ℕ) (image : image_verdict len' d' ≡ image_verdict len d) where
    verdict-same : recovery_verdict len' d' room ≡ recovery_verdict len d room
    unfolding recovery_verdict
    verdict-same =
        λ i. and_then (image i)
        (own_verdict ((eqb (state_number (same-state d d' same i)) 4, refusal 4) ∷ (same-journal d d' same i, refusal 6) ∷ []) room (needed i))

    listed-length : list_length (recovery_listed len' d' room) ≡ list_length (recovery_listed len d room)
    unfolding recovery_listed
    listed-length = ap (λ (v : Verdict). list_length (cond (is_done v) (recovery_groups d') [])) verdict-same ∙ go (is_done (recovery_verdict len d room))
      where
        go : (b : Bool) → list_length (cond b (recovery_groups d') []) ≡ list_length (cond b (recovery_groups d) [])
        go true = needed
        go false = refl

    answer-same : recovery_answer len' d' room ≡ recovery_answer len d room
    unfolding recovery_answer
    answer-same = λ i. record { number = (verdict-same i).number; length = listed-length i }

    -- no record to list
    nothing-listed : (recovery_answer len d room).length ≡ 0
        → (closed (recovery_listed len' d' room) ≡ []) × (closed (recovery_listed len d room) ≡ [])
    unfolding recovery_answer
    nothing-listed e = (no-records _ (listed-length ∙ e), no-records _ e)

-- a journal that waits has entries
some-entries : (m n : ℕ) → state_of m ≡ Waiting n → 0 < n
unfolding state_of
some-entries m n e = go (eqb m 0) refl (leb m 1024) (leb m 65534) e
  where
    go : (a : Bool) → eqb m 0 ≡ a → (b c : Bool) → cond a Clean (cond b (Waiting m) (cond c Damaged Unfinished)) ≡ Waiting n → 0 < n
    go true q b c h = absurd (let z : ◌≡◌ {A = ℕ} 0 1 = cc in omega arith)
    go false q true c h = let z : m ≡ n = cc in let ne : m ≢ 0 = eqb-false m 0 q in omega arith
    go false q false true h = absurd (let z : ◌≡◌ {A = ℕ} 0 1 = cc in omega arith)
    go false q false false h = absurd (let z : ◌≡◌ {A = ℕ} 0 1 = cc in omega arith)

below_next : (j m : ℕ) → j ≢ m → ltb j m ≡ ltb j (m + 1)
below_next j m ne = go (ltb j m) refl
  where
    go : (b : Bool) → ltb j m ≡ b → b ≡ ltb j (m + 1)
    go true e = sym (lt-ltb j (m + 1) (omega (arith, ltb-true j m e)))
    go false e = sym (le-ltb j (m + 1) (omega (arith, ltb-false j m e, ne)))

room-done : (room : ℕ) (gs : List Group) → is_done (by_room room gs) ≡ true → list_length gs ≤ room
room-done room gs h = ltb-false room (list_length gs) (go (ltb room (list_length gs)) h)
  where
    go : (b : Bool) → is_done (cond b (refusal 14) done) ≡ true → b ≡ false
    go true e = absurd (true≢false (sym e))
    go false e = refl

-- ---- the form, supplied with the image's sectors

module _ (img front : List ℕ) (count : ℕ) (lends : Lends img front count) (l : List ℕ) where
  abbrev d : Disk
  d = view img

  abbrev f : Disk
  f = view front

  abbrev agrees : Agrees (view img) (view front)
  agrees = lent-agrees img front count lends

  abbrev begun : Recovered
  begun = recovery_answer (goes_by front count) (view front) (length l)

  abbrev whole : Recovered
  whole = recovery_answer (length img) (view img) (length l)

  answers-alike : begun ≡ whole
  answers-alike = answer-same d f agrees (length img) (goes_by front count) (length l) (lent-image img front count lends)

  -- it asks for no more
  fed-idle : (j : ℕ) (v : Recovering) (m : List ℕ) → v.wanted ≡ 0 → recovery_fed j front d v m ≡ (v, m)
  unfolding recovery_fed
  fed-idle zero v m e = refl
  fed-idle (suc j) v m e = rw (eq-eqb v.wanted 0 e) refl

  asked-idle : (j : ℕ) (v : Recovering) (m : List ℕ) → v.wanted ≡ 0 → recovery_asked j front d v m ≡ []
  unfolding recovery_asked
  asked-idle zero v m e = refl
  asked-idle (suc j) v m e = rw (eq-eqb v.wanted 0 e) refl

  ends : (v : Recovering) (m : List ℕ) → recovery_fed recovery_steps front d (begun_recovery img front count l) (begun_list img front count l) ≡ (v, m)
      → v.wanted ≡ 0 → recovery_answered v ≡ whole → m ≡ recovery_list (length img) d l
      → (whole.length ≢ 0 → recovery_asked recovery_steps front d (begun_recovery img front count l) (begun_list img front count l) ≡ tabulate (source d f agrees) 0 (entries_waiting d))
      → LentRecovery img front count l
  ends v m e idle answered list asked = record {
    settled = ap (λ (x : Recovering × List ℕ). x.0.wanted) e ∙ idle;
    answer = ap (λ (x : Recovering × List ℕ). recovery_answered x.0) e ∙ answered;
    leaves-list = ap (λ (x : Recovering × List ℕ). x.1) e ∙ list;
    order = asked;
  }

  -- NOTHING TO LIST: it asks for nothing
  idle : whole.length ≡ 0 → LentRecovery img front count l
  unfolding recovery_lent recovery_list
  idle e =
      let z : begun.length ≡ 0 = ap (λ (a : Recovered). a.length) answers-alike ∙ e in
      let b : begun_recovery img front count l ≡ recovery_idle begun = ap (λ (t : Bool). cond t (recovery_idle begun) (recovery_asking f begun)) (eq-eqb begun.length 0 z) in
      let x = nothing-listed d f agrees (length img) (goes_by front count) (length l) (lent-image img front count lends) e in
      ends (recovery_idle begun) (begun_list img front count l)
      (ap (λ (v : Recovering). recovery_fed recovery_steps front d v (begun_list img front count l)) b ∙ fed-idle recovery_steps (recovery_idle begun) (begun_list img front count l) refl)
      refl answers-alike (ap (emit l 0) (x.0 ∙ sym x.1)) (λ h. absurd (h e))

  -- ---- A JOURNAL THAT WAITS: after m steps the records of the first m entries' targets have what the image shows of their sources

  module _ (n : ℕ) (st : state_on (view img) ≡ Waiting n) (ok : is_done (recovery_verdict (length img) (view img) (length l)) ≡ true) where
    abbrev geo : Geometry
    geo = geometry_in (view img superblock_at)

    abbrev to : ℕ → ℕ
    to = target_at geo d

    abbrev from : ℕ → ℕ
    from = source_at geo d

    accepted : whole.number ≡ 0
    unfolding recovery_answer
    accepted = eqb-true _ 0 ok

    entry-good : (k : ℕ) → k < n → good_entry geo d k ≡ true
    entry-good = good img n (length l) st accepted

    at_most : n ≤ 1024
    at_most = few img n (length l) st accepted

    at_least : 0 < n
    at_least = some-entries (journal_length (d superblock_at)) n st

    geo-bounds : in_bounds geo ≡ true
    geo-bounds = volume-bounds geo (length img) (d superblock_at) (volume img n (length l) st accepted)

    recovers : Recovers (length img) d (replayed geo d n ∷ superblock_group d 0 ∷ [])
    recovers = waiting-recovers geo d n entry-good (length img) (volume img n (length l) st accepted) st

    enough : (n + 3) * record_size ≤ length l
    enough =
        let h = room-done (length l) (replayed geo d n ∷ superblock_group d 0 ∷ []) (ap is_done (sym (recovers.verdict (length l))) ∙ ok) in
        subst (λ (x : ℕ). x ≤ length l) (length-recovery geo d n entry-good) h

    -- sources are in the data area, and their numbers below a barrier's; targets are before it, and no two are the same
    from-data : (k : ℕ) → k < n → is_data geo (from k) ≡ true
    unfolding good_entry
    from-data k h = and_left (is_data geo (from k)) (is_metadata geo (to k)) (and_left _ _ (entry-good k h))

    from_low : (k : ℕ) → k < n → data_at geo ≤ from k
    unfolding is_data
    from_low k h = leb-true (data_at geo) (from k) (and_left _ (ltb (from k) (volume_sectors geo)) (from-data k h))

    from-high : (k : ℕ) → k < n → from k < barrier_number
    from-high k h =
        let b = bounds geo geo-bounds lends.field in
        let p = product geo geo.extents b (omega arith) in
        omega (arith, b.files-high, b.extents-high, data-below geo (from k) (from-data k h), p)

    to_low : (k : ℕ) → k < n → to k < data_at geo
    to_low k h = metadata-below geo (to k) (target-metadata geo d n entry-good k h)

    to-once : (j k : ℕ) → j < k → k < n → to j ≢ to k
    to-once j k h q = eqb-false (to j) (to k) (none-at (λ i. eqb (to i) (to k)) k (target_once geo d n entry-good k q) j h)

    -- what the lent sectors say
    front-geometry : geometry_in (f superblock_at) ≡ geo
    front-geometry = same-geometry d f agrees

    front-entries : entries_waiting f ≡ n
    front-entries = ap state_entries (same-state d f agrees ∙ st)

    front-source : (k : ℕ) → k < n → source_at (geometry_in (f superblock_at)) f k ≡ from k
    front-source k h = ap (λ (x : Geometry). source_at x f k) front-geometry ∙ source-same d f agrees k (omega (arith, at_most))

    -- the state and the list after m steps
    abbrev state : ℕ → Recovering
    state m = record {
      code = 0;
      length = cond (eqb m (entries_waiting f)) begun.length 0;
      wanted = cond (eqb m (entries_waiting f)) 0 (source_at (geometry_in (f superblock_at)) f m);
      entry = m;
      full = begun.length;
    }

    abbrev supplied : ℕ → ℕ → List ℕ
    supplied m k = cond (ltb k m) (d (from k)) (f (from k))

    abbrev list : ℕ → List ℕ
    list m = emit l 0 (closed (filled to n (supplied m) (data_at geo) ∷ superblock_group d 0 ∷ []))

    length-list : (m : ℕ) → length (list m) ≡ length l
    unfolding emit
    length-list m = length-put l 0 _

    length-group : (m : ℕ) → length (filled to n (supplied m) (data_at geo)) ≡ n
    length-group m =
        length-filled to n (supplied m) (data_at geo) ∙ sym (length-filled to n (λ k. d (from k)) (data_at geo)) ∙ sym (ap length (own-group geo d n))
        ∙ length-replayed geo d n entry-good

    -- a record that shows the target of the entry of its number stands where the targets below it are counted
    shown-place : (m k : ℕ) → k < n → (record_in (list m) k).sector ≡ to k → k ≡ count_below (λ j. ltb (to j) (to k)) n
    shown-place m k h e =
        let C = filled to n (supplied m) (data_at geo) in
        let rs = closed (C ∷ superblock_group d 0 ∷ []) in
        let inside : k < length C = omega (arith, length-group m) in
        let x = numbered to n (supplied m) (data_at geo) k inside in
        let own : get_or rs k barrier ≡ get_or C k barrier =
        ap (λ (r : List Record). get_or r k barrier) (closed-two C (superblock_group d 0)) ∙ get_or-append C _ barrier k inside in
        let b = bounds geo geo-bounds lends.field in
        let low : (get_or rs k barrier).sector < 2 ^ 64 =
        subst (λ (r : Record). r.sector < 2 ^ 64) (sym own) (omega (arith, x.0, b.files-high, b.extents-high)) in
        let many : length rs ≡ n + 3 = omega (arith, closed-cons C (superblock_group d 0 ∷ []), length-group m) in
        let read = number-emitted l rs k (omega (arith, many, enough)) (omega (arith, many)) low in
        let shows : (get_or C k barrier).sector ≡ to k = ap (λ (r : Record). r.sector) (sym own) ∙ sym read ∙ e in
        sym x.1 ∙ ap (λ (t : ℕ). length (filled to n (supplied m) t)) shows ∙ position to n to-once (supplied m) (to k)

    front-place : (m k : ℕ) → k < n → target_place f (list m) k ≡ count_below (λ j. ltb (to j) (to k)) n
    unfolding target_place
    front-place m k h =
        let same : (j : ℕ) → j < n → target_at geo f j ≡ to j = λ j q. target-same d f agrees j (omega (arith, at_most)) in
        (λ i. cond (eqb (record_in (list m) k).sector (target_at (front-geometry i) f k)) k
        (count_below (λ j. ltb (target_at (front-geometry i) f j) (target_at (front-geometry i) f k)) (front-entries i)))
        ∙ ap₂ (λ (t x : ℕ). cond (eqb (record_in (list m) k).sector t) k x) (same k h)
        (count_below-ext (λ j. ltb (target_at geo f j) (target_at geo f k)) (λ j. ltb (to j) (to k)) n (λ j q. ap₂ ltb (same j q) (same k h)))
        ∙ go (eqb (record_in (list m) k).sector (to k)) refl
      where
        go : (b : Bool) → eqb (record_in (list m) k).sector (to k) ≡ b
            → cond b k (count_below (λ j. ltb (to j) (to k)) n) ≡ count_below (λ j. ltb (to j) (to k)) n
        go true e = shown-place m k h (eqb-true _ _ e)
        go false e = refl

    wants : (m : ℕ) → m < n → (state m).wanted ≡ from m
    wants m h =
        ap (λ (b : Bool). cond b 0 (source_at (geometry_in (f superblock_at)) f m)) (ne_eqb m (entries_waiting f) (λ e. omega (arith, front-entries))) ∙ front-source m h

    wants-none : (state n).wanted ≡ 0
    wants-none = ap (λ (b : Bool). cond b 0 (source_at (geometry_in (f superblock_at)) f n)) (eq-eqb n (entries_waiting f) (sym front-entries))

    -- a step is taken
    takes : (m : ℕ) → m < n → takes_source f (length front) (state m) (length (d (state m).wanted)) (length (list m)) ≡ true
    unfolding takes_source is_asked
    takes m h =
        let p1 : ltb 0 (state m).wanted ≡ true = ap (ltb 0) (wants m h) ∙ lt-ltb 0 (from m) (omega (arith, from_low m h)) in
        let p2 : ltb (state m).wanted barrier_number ≡ true = ap (λ (x : ℕ). ltb x barrier_number) (wants m h) ∙ lt-ltb (from m) barrier_number (from-high m h) in
        let p3 : eqb (length (d (state m).wanted)) 512 ≡ true = eq-eqb _ 512 (length-view img (state m).wanted) in
        let p4 : is_front (length front) f ≡ true = front-is img front count lends ∙ geo-bounds in
        let p5 : ltb m (entries_waiting f) ≡ true = lt-ltb m (entries_waiting f) (omega (arith, front-entries)) in
        let p6 : eqb (state m).wanted (source_at (geometry_in (f superblock_at)) f m) ≡ true = eq-eqb _ _ (wants m h ∙ sym (front-source m h)) in
        let p7 : leb ((entries_waiting f + 3) * record_size) (length (list m)) ≡ true =
        le-leb ((entries_waiting f + 3) * record_size) (length (list m)) (omega (arith, enough, length-list m, front-entries)) in
        λ i. (p1 i && p2 i && p3 i) && p4 i && p5 i && p6 i && p7 i

    next-state : (m : ℕ) → m < n → recovery_step f (length front) (state m) (length (d (state m).wanted)) (length (list m)) ≡ state (m + 1)
    unfolding recovery_step
    next-state m h = ap (λ (b : Bool). cond b (source_taken f (state m)) (source_not_taken f (state m))) (takes m h)

    next-list : (m : ℕ) → m < n → recovery_step_list f (length front) (state m) (d (state m).wanted) (list m) ≡ list (m + 1)
    unfolding recovery_step_list
    next-list m h =
        let now : supplied (m + 1) m ≡ d (from m) =
        ap (λ (b : Bool). cond b (d (from m)) (f (from m))) (lt-ltb m (m + 1) (omega arith)) in
        ap (λ (b : Bool). cond b (put (list m) (target_place f (list m) m * record_size + contents_start) (d (state m).wanted)) (list m)) (takes m h)
        ∙ ap₂ (λ (p : ℕ) (x : List ℕ). put (list m) (p * record_size + contents_start) x) (front-place m m h) (ap d (wants m h) ∙ sym now)
        ∙ replaced to n to-once m h (data_at geo) (to_low m h) (supplied m) (supplied (m + 1))
        (λ j ne. ap (λ (b : Bool). cond b (d (from j)) (f (from j))) (below_next j m ne)) (superblock_group d 0) l
        (ap length now ∙ length-view img (from m))

    not-idle : (m : ℕ) → m < n → eqb (state m).wanted 0 ≡ false
    not-idle m h = ne_eqb (state m).wanted 0 (λ e. omega (arith, wants m h, from_low m h))

    fed-more : (j m : ℕ) → m < n → recovery_fed (suc j) front d (state m) (list m) ≡ recovery_fed j front d (state (m + 1)) (list (m + 1))
    unfolding recovery_fed
    fed-more j m h =
        let r = recovery_fed j front d (recovery_step f (length front) (state m) (length (d (state m).wanted)) (length (list m)))
        (recovery_step_list f (length front) (state m) (d (state m).wanted) (list m)) in
        ap (λ (b : Bool). cond b (state m, list m) r) (not-idle m h) ∙ ap₂ (recovery_fed j front d) (next-state m h) (next-list m h)

    asked-more : (j m : ℕ) → m < n → recovery_asked (suc j) front d (state m) (list m) ≡ from m ∷ recovery_asked j front d (state (m + 1)) (list (m + 1))
    unfolding recovery_asked
    asked-more j m h =
        let r = recovery_asked j front d (recovery_step f (length front) (state m) (length (d (state m).wanted)) (length (list m)))
        (recovery_step_list f (length front) (state m) (d (state m).wanted) (list m)) in
        ap (λ (b : Bool). cond b [] ((state m).wanted ∷ r)) (not-idle m h)
        ∙ ap₂ (λ (x : ℕ) (y : List ℕ). x ∷ y) (wants m h) (ap₂ (recovery_asked j front d) (next-state m h) (next-list m h))

    fed : (j m : ℕ) → m ≤ n → n ≤ m + j → recovery_fed j front d (state m) (list m) ≡ (state n, list n)
    unfolding recovery_fed
    fed zero m h q = let e : m ≡ n = omega arith in ap (λ (x : ℕ). (state x, list x)) e
    fed (suc j) m h q = go (dec_lt m n) (fed j (m + 1))
      where
        go : Dec (m < n) → (m + 1 ≤ n → n ≤ m + 1 + j → recovery_fed j front d (state (m + 1)) (list (m + 1)) ≡ (state n, list n))
            → recovery_fed (suc j) front d (state m) (list m) ≡ (state n, list n)
        go (yes r) ih = fed-more j m r ∙ ih (omega arith) (omega arith)
        go (no r) ih =
            let e : m ≡ n = omega arith in
            ap (λ (x : ℕ). recovery_fed (suc j) front d (state x) (list x)) e ∙ fed-idle (suc j) (state n) (list n) wants-none

    asked : (j m : ℕ) → m ≤ n → n ≤ m + j → recovery_asked j front d (state m) (list m) ≡ tabulate from m (n - m)
    unfolding recovery_asked tabulate
    asked zero m h q = let e : n - m ≡ 0 = omega arith in ap (tabulate from m) (sym e)
    asked (suc j) m h q = go (dec_lt m n) (asked j (m + 1))
      where
        go : Dec (m < n) → (m + 1 ≤ n → n ≤ m + 1 + j → recovery_asked j front d (state (m + 1)) (list (m + 1)) ≡ tabulate from (m + 1) (n - (m + 1)))
            → recovery_asked (suc j) front d (state m) (list m) ≡ tabulate from m (n - m)
        go (yes r) ih =
            let e : suc (n - (m + 1)) ≡ n - m = omega arith in
            let s : m + 1 ≡ suc m = omega arith in
            asked-more j m r ∙ ap (λ (x : List ℕ). from m ∷ x) (ih (omega arith) (omega arith) ∙ ap (λ (x : ℕ). tabulate from x (n - (m + 1))) s)
            ∙ sym (tabulate-front from m (n - (m + 1))) ∙ ap (tabulate from m) e
        go (no r) ih =
            let e : m ≡ n = omega arith in
            let z : n - m ≡ 0 = omega arith in
            ap (λ (x : ℕ). recovery_asked (suc j) front d (state x) (list x)) e ∙ asked-idle (suc j) (state n) (list n) wants-none
            ∙ ap (tabulate from m) (sym z)

    -- it begins with the list of the lent sectors, and ends with the image's
    listed-whole : recovery_listed (length img) d (length l) ≡ replayed geo d n ∷ superblock_group d 0 ∷ []
    listed-whole = when-done (length img) d _ recovers (length l) ok

    listed-front : recovery_listed (goes_by front count) f (length l) ≡ replayed geo f n ∷ superblock_group f 0 ∷ []
    unfolding recovery_listed
    listed-front =
        ap (λ (v : Verdict). cond (is_done v) (recovery_groups f) [])
        (verdict-same d f agrees (length img) (goes_by front count) (length l) (lent-image img front count lends))
        ∙ ap (λ (b : Bool). cond b (recovery_groups f) []) ok ∙ groups-are geo f (Waiting n) front-geometry (same-state d f agrees ∙ st)

    list-begins : begun_list img front count l ≡ list 0
    unfolding recovery_list
    list-begins =
        let c : replayed geo f n ≡ filled to n (supplied 0) (data_at geo) =
        group-same d f agrees n at_most
        ∙ filled-same to n (λ k. f (from k)) (supplied 0) (λ k h. ap (λ (b : Bool). cond b (d (from k)) (f (from k))) (sym (le-ltb k 0 (omega arith)))) (data_at geo) in
        ap (λ (gs : List Group). emit l 0 (closed gs)) (listed-front ∙ ap₂ (λ (x y : Group). x ∷ y ∷ []) c (same-group d f agrees 0))

    list-ends : list n ≡ recovery_list (length img) d l
    unfolding recovery_list
    list-ends =
        let c : replayed geo d n ≡ filled to n (supplied n) (data_at geo) =
        own-group geo d n
        ∙ filled-same to n (λ k. d (from k)) (supplied n) (λ k h. ap (λ (b : Bool). cond b (d (from k)) (f (from k))) (sym (lt-ltb k n h))) (data_at geo) in
        ap (λ (gs : List Group). emit l 0 (closed gs)) (ap (λ (x : Group). x ∷ superblock_group d 0 ∷ []) (sym c) ∙ sym listed-whole)

    long : begun.length ≡ (n + 3) * record_size
    unfolding recovery_answer
    long =
        listed-length d f agrees (length img) (goes_by front count) (length l) (lent-image img front count lends)
        ∙ ap list_length listed-whole ∙ length-recovery geo d n entry-good

    abbrev asking : ℕ → Bool → Recovering
    asking c b = record {
      code = c;
      length = cond b begun.length 0;
      wanted = cond b 0 (source_at (geometry_in (f superblock_at)) f 0);
      entry = 0;
      full = begun.length;
    }

    state-begins : begun_recovery img front count l ≡ state 0
    unfolding recovery_lent
    state-begins =
        let some : eqb begun.length 0 ≡ false = ne_eqb begun.length 0 (λ e. omega (arith, e, long)) in
        let none : eqb 0 (entries_waiting f) ≡ false = ne_eqb 0 (entries_waiting f) (λ e. omega (arith, at_least, front-entries)) in
        let number : begun.number ≡ 0 = ap (λ (a : Recovered). a.number) answers-alike ∙ accepted in
        ap (λ (t : Bool). cond t (recovery_idle begun) (recovery_asking f begun)) some ∙ ap₂ asking number (sym none)

    answered : recovery_answered (state n) ≡ whole
    answered =
        let e : eqb n (entries_waiting f) ≡ true = eq-eqb n (entries_waiting f) (sym front-entries) in
        λ i. record { number = sym accepted i; length = cond (e i) (answers-alike i).length 0 }

    waits : LentRecovery img front count l
    waits =
        ends (state n) (list n)
        (ap₂ (recovery_fed recovery_steps front d) state-begins list-begins ∙ fed recovery_steps 0 (omega arith) (omega (arith, at_most)))
        wants-none answered list-ends
        (λ some. ap₂ (recovery_asked recovery_steps front d) state-begins list-begins ∙ asked recovery_steps 0 (omega arith) (omega (arith, at_most))
        ∙ ap (tabulate from 0) (let e : n - 0 ≡ n = omega arith in e ∙ sym (ap state_entries st)))

  -- A LENT RECOVERY IS THE WHOLE-IMAGE CALL, whichever answer and list it comes to
  refused : is_done (recovery_verdict (length img) d (length l)) ≡ false → whole.length ≡ 0
  unfolding recovery_answer recovery_listed
  refused e = ap (λ (b : Bool). list_length (cond b (recovery_groups d) [])) e

  no-groups : (s : State) → state_on d ≡ s → replay_groups (geometry_in (d superblock_at)) d s ≡ [] → whole.length ≡ 0
  unfolding recovery_answer recovery_listed recovery_groups
  no-groups s st e =
      ap (λ (gs : List Group). list_length (cond (is_done (recovery_verdict (length img) d (length l))) gs []))
      (ap (replay_groups (geometry_in (d superblock_at)) d) st ∙ e) ∙ go (is_done (recovery_verdict (length img) d (length l)))
    where
      go : (b : Bool) → list_length (cond b [] []) ≡ 0
      go true = refl
      go false = refl

  pub lent-recovery : LentRecovery img front count l
  lent-recovery = go (is_done (recovery_verdict (length img) d (length l))) refl (state_on d) refl
    where
      go : (b : Bool) → is_done (recovery_verdict (length img) d (length l)) ≡ b → (s : State) → state_on d ≡ s → LentRecovery img front count l
      go false e s st = idle (refused e)
      go true e Clean st = idle (no-groups Clean st refl)
      go true e (Waiting n) st = waits n st e
      go true e Damaged st = idle (no-groups Damaged st refl)
      go true e Unfinished st = idle (no-groups Unfinished st refl)
