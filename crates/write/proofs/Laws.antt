-- What a write needs and how it is decided, from the tests that the code makes. Assumes nothing.
use Prim.Native.Nat.{ℕ, ◌+◌, ◌*◌, ◌-◌, ◌≤◌, ◌<◌, ◌/◌, max}
use mathlib.Core.Path.{◌≡◌, refl, sym, ap, ap₂, ◌∙◌}
use mathlib.Core.Bool.{Bool, true, false, cond, not, ◌&&◌, ◌||◌}
use mathlib.Core.List.{List, [], ◌∷◌}
use mathlib.Core.Option.{Option, none, some}
use native.Mathlib.Nat.{div-lt_iff_lt-mul}
use native.Mathlib.Omega.{arith}
use native.Mathlib.Decide.{dec_lt}
use lib.Dec.{eqb, leb, ltb}
use lib.ListN.{length, get_or}
use borrow.Author.Tests.{lt-ltb, le-ltb, lt-leb, le-leb, eq-eqb, ne_eqb}
use Rattle.model.specs.Answers.{Changed, Verdict}
use Rattle.model.specs.declared.Geometry.{Geometry}
use Rattle.std.specs.Prelude.{Some, None}
use Rattle.model.specs.Search.{Lowest, scan, tabulate, is_at, index_of}
use Rattle.model.specs.Geometry.{entry_at, extent_sectors, extents_for, reserve_extents}
use Rattle.model.specs.Disk.{Disk, view}
use Rattle.model.specs.Bytes.{number_in}
use Rattle.model.specs.Edition.{bad_time}
use Rattle.model.specs.Entry.{entry_field, Entry, entry_in, bad_name, updated_entry_sector}
use Rattle.model.specs.Table.{table_file, table_sector_of, taken_in, free_file}
use Rattle.model.specs.Catalogue.{Catalogue, catalogue_of, file_named, free_extent, free_extents, lacks_reserve, staging_extents, entry_of}
use Rattle.model.specs.Refusals.{Conditions, verdict_of, refusal, done, judged}
use Rattle.model.specs.WriteList.{Plan, Record, Group, sector_write, record_size, record_count, groups_for, list_length, closed, Emitted, decided}
use Rattle.model.specs.Read.{longest_transfer, size_named}
use Rattle.model.specs.Write.{touched_sectors, held_extents, grows, no_room, size_after, data_sector, write_plan, write_planned, write_conditions, write_decision, write_answer, write_list}
use Rattle.model.specs.Opened.{Opened, volume_length, Accepted}
use Rattle.laws.proofs.Search.{Hit, scan-hit, length-tabulate}
use Rattle.laws.proofs.Judged.{judged-sound}
use Rattle.laws.proofs.Named.{edition_on, named-at, named-entry, size_fits}
use Rattle.laws.proofs.Staging.{reserve-there, length-staging, lowest-below, lowest-is}
use Rattle.table.proofs.Laws.{geometry-of, free-extent-is}
use Rattle.laws.proofs.WriteList.{plan-needs}
use Rattle.commit.proofs.Records.{emitted-length}
use Rattle.commit.specs.Decided.{fitted, ComesTo}
use Rattle.commit.proofs.Decided.{same-refusal, same-refusals, refused-by-own, decided-fitted, fitted_none, fitted-full, fitted_short, fitted-done}
use Rattle.spans.specs.Touched.{span_of}
use Rattle.spans.proofs.Sources.{length-span}
use Rattle.write.specs.FileWrite.{Asked, file_conditions, file_decision, FileWritesTo}

-- ---- what a new size needs

module _ (img : List ℕ) (g : Geometry) (o : Opened img g) where
  pub held-is : (i size : ℕ) → size ≡ (entry_of (catalogue_of (view img)) i).size → extents_for g size ≡ held_extents (catalogue_of (view img)) i
  unfolding catalogue_of
  held-is i size says = ap₂ extents_for o.is says

  pub more-is : (i size z : ℕ) → size ≡ (entry_of (catalogue_of (view img)) i).size → ltb (extents_for g size) (extents_for g z) ≡ grows (catalogue_of (view img)) i z
  unfolding grows catalogue_of
  more-is i size z says = ap₂ ltb (held-is i size says) (ap (λ (x : Geometry). extents_for x z) o.is)

  free-below : (e : ℕ) → Some e ≡ free_extent (catalogue_of (view img)) → e < g.extents
  free-below e q =
      let p : ℕ → Bool = λ x. eqb (table_file g (view img) x) free_file in
      let s : scan p (g.extents - 0) 0 ≡ Some e = sym (q ∙ free-extent-is (view img) g o.is) in
      let h : Hit p (g.extents - 0) 0 (Some e) = rw s at (scan-hit p (g.extents - 0) 0) in
      omega (arith, h.1)

  -- the extent that is taken, 0 where none is free
  pub next-below : (e : ℕ) → e ≡ index_of (free_extent (catalogue_of (view img))) → e < g.extents
  next-below e q = go (free_extent (catalogue_of (view img))) refl
    where
      go : (p : Lowest) → free_extent (catalogue_of (view img)) ≡ p → e < g.extents
      go (Some x) r = let h : x < g.extents = free-below x (sym r) in let z : e ≡ x = q ∙ ap index_of r in omega arith
      go None r = let z : e ≡ 0 = q ∙ ap index_of r in omega (arith, o.bounded.extents-low)

  -- K + 1 extents are free where the lowest is below the lowest staging extent
  reserve-some : 0 < reserve_extents g
  reserve-some = go (dec_lt 0 (reserve_extents g))
    where
      go : Dec (0 < reserve_extents g) → 0 < reserve_extents g
      go (yes h) = h
      go (no h) =
          let s = extent_sectors g in
          let q : (g.extents + 127) / 128 + 3 + (s - 1) < 1 * s =
          (div-lt_iff_lt-mul {k = s} (omega (arith, o.bounded.extent-low))).0 (let z : reserve_extents g < 1 = omega (arith, h) in z) in
          absurd (omega (arith, o.bounded.extent-low))

  module _ (there : lacks_reserve (catalogue_of (view img)) ≡ false) (e s : ℕ) (q : e ≡ index_of (free_extent (catalogue_of (view img))))
      (r : s ≡ get_or (staging_extents (catalogue_of (view img))) 0 0) where
    spare-is : ltb (length (free_extents (catalogue_of (view img)))) (reserve_extents (catalogue_of (view img)).geometry + 1) ≡ leb s e
    spare-is = go (dec_lt K (length (free_extents c)))
      where
        c : Catalogue
        c = catalogue_of (view img)

        K : ℕ
        K = reserve_extents (catalogue_of (view img)).geometry

        some-are : 0 < reserve_extents (catalogue_of (view img)).geometry
        some-are = rw (geometry-of (view img) g o.is) reserve-some

        go : Dec (K < length (free_extents c)) → ltb (length (free_extents c)) (K + 1) ≡ leb s e
        go (yes h) =
            let l : e < s = rw (q, r) (lowest-below c there h 0 (omega (arith, length-staging c there, some-are))) in
            le-ltb (length (free_extents c)) (K + 1) (omega arith) ∙ sym (lt-leb s e l)
        go (no h) =
            let n : length (free_extents c) ≡ K = omega (arith, reserve-there c there) in
            let l : e ≡ s = q ∙ lowest-is c there some-are n ∙ sym r in
            lt-ltb (length (free_extents c)) (K + 1) (omega arith) ∙ sym (le-leb s e (omega arith))

    module _ (i size z : ℕ) (says : size ≡ (entry_of (catalogue_of (view img)) i).size) where
      room-is : no_room (catalogue_of (view img)) i z ≡ (ltb (extents_for g size) (extents_for g z) && leb s e)
      unfolding no_room
      room-is = rw (← more-is i size z says, spare-is)

      pub room-full : extents_for g size < extents_for g z → s ≤ e → no_room (catalogue_of (view img)) i z ≡ true
      room-full m l = room-is ∙ rw (lt-ltb (extents_for g size) (extents_for g z) m, le-leb s e l)

      pub room-left : (extents_for g size < extents_for g z → e < s) → no_room (catalogue_of (view img)) i z ≡ false
      room-left f = go (dec_lt (extents_for g size) (extents_for g z))
        where
          go : Dec (extents_for g size < extents_for g z) → no_room (catalogue_of (view img)) i z ≡ false
          go (yes m) = room-is ∙ rw (lt-ltb (extents_for g size) (extents_for g z) m, lt-leb s e (f m))
          go (no m) = room-is ∙ rw (le-ltb (extents_for g size) (extents_for g z) (omega arith))

  -- the file of a name, as the code finds it
  module _ (name : List ℕ) (i : ℕ) (e : Some i ≡ file_named (catalogue_of (view img)) name) where
    pub file-below : i < g.files
    file-below = rw o.is (named-at (view img) name i e).0

    pub asked : Accepted img → (size n : ℕ) → size ≡ number_in (view img (entry_at i)) entry_field.size → n ≤ longest_transfer → Asked img g i size n
    unfolding entry_in
    asked ok size n q short =
        let h = named-at (view img) name i e in
        record {
          judgment = ok;
          opened = o;
          file = file-below;
          says = q ∙ sym (ap (λ (x : Entry). x.size) (named-entry (view img) name i e));
          fits = rw q (size_fits img g o (judged-sound (volume_length (view img)) (view img) ok.verdict) i h.0 h.1);
          short = short;
        }

-- ---- the plan

module _ (c : Catalogue) (i : ℕ) (d : Disk) (offset : ℕ) (bytes : List ℕ) (time : ℕ) where
  abbrev pub sectors_out : Group
  sectors_out = tabulate (data_sector c i d offset bytes) (offset / 512) (touched_sectors offset (length bytes))

  abbrev pub entry_out : ℕ → Record
  entry_out z = sector_write (entry_at i) (updated_entry_sector c.geometry.edition z time (d (entry_at i)))

  abbrev pub table_out : ℕ → Record
  table_out x = sector_write (table_sector_of c.geometry x) (taken_in x i (held_extents c i) (d (table_sector_of c.geometry x)))

  -- where an extent is taken, and where none is
  pub plan-more : (z : ℕ) → z ≡ size_after c i offset (length bytes) → grows c i z ≡ true
      → write_plan c i d offset bytes time ≡ record { data_sectors = sectors_out; targets = entry_out z ∷ table_out (index_of (free_extent c)) ∷ [] }
  unfolding write_plan
  plan-more z e h = rw (← e, h)

  pub plan-kept : (z : ℕ) → z ≡ size_after c i offset (length bytes) → grows c i z ≡ false
      → write_plan c i d offset bytes time ≡ record { data_sectors = sectors_out; targets = entry_out z ∷ [] }
  unfolding write_plan
  plan-kept z e h = rw (← e, h)

  write-needs : (z : ℕ) (b : Bool) → z ≡ size_after c i offset (length bytes) → b ≡ grows c i z
      → list_length (groups_for d (some (write_plan c i d offset bytes time))) ≡ record_count (touched_sectors offset (length bytes)) (cond b 2 1) * record_size
  write-needs z b e h = plan-needs d (write_plan c i d offset bytes time) ∙ go b (sym h)
    where
      many : length sectors_out ≡ touched_sectors offset (length bytes)
      many = length-tabulate (data_sector c i d offset bytes) (offset / 512) (touched_sectors offset (length bytes))

      go : (b : Bool) → grows c i z ≡ b
          → record_count (length (write_plan c i d offset bytes time).data_sectors) (length (write_plan c i d offset bytes time).targets) * record_size
          ≡ record_count (touched_sectors offset (length bytes)) (cond b 2 1) * record_size
      go true q = rw (plan-more z e q, many)
      go false q = rw (plan-kept z e q, many)

  planned-none : length bytes ≡ 0 → write_planned c i d offset bytes time ≡ none
  unfolding write_planned
  planned-none h = ap (λ (b : Bool). cond b none (some (write_plan c i d offset bytes time))) (eq-eqb (length bytes) 0 h)

  planned-some : (length bytes ≡ 0 → ⊥) → write_planned c i d offset bytes time ≡ some (write_plan c i d offset bytes time)
  unfolding write_planned
  planned-some h = ap (λ (b : Bool). cond b none (some (write_plan c i d offset bytes time))) (ne_eqb (length bytes) 0 h)

-- ---- decisions

-- a decision rests on its conditions' verdict alone
pub decided-same : (len : ℕ) (d : Disk) (cs ds : Conditions) (plan : Option Plan) (room : ℕ) → verdict_of cs ≡ verdict_of ds → decided len d cs plan room ≡ decided len d ds plan room
unfolding decided
decided-same len d cs ds plan room e = rw e

abbrev pub refused_by : ℕ → Changed
refused_by k = record { verdict = refusal k; length = 0 }

-- the size of a file that has the name
pub sized : (c : Catalogue) (name : List ℕ) (i : ℕ) → Some i ≡ file_named c name → size_named c name ≡ (entry_of c i).size
unfolding size_named
sized c name i e = ap (λ (p : Lowest). (entry_of c (index_of p)).size) (sym e)

-- the size that a write of these bytes makes
pub size-made : (c : Catalogue) (i offset size z len : ℕ) (bytes : List ℕ) → size ≡ (entry_of c i).size → z ≡ max size (offset + len) → z ≡ size_after c i offset (length (span_of bytes len))
size-made c i offset size z len bytes says e = e ∙ rw (says, length-span bytes len)

-- n is not 0
abbrev Nonzero : ℕ → Type 0
Nonzero n = n ≡ 0 → ⊥

module _ (img : List ℕ) (ok : (judged (volume_length (view img)) (view img)).number ≡ 0) (list : List ℕ) where
  pub own-refusal : (cs : Conditions) (plan : Option Plan) (k : ℕ) → Nonzero k → verdict_of cs ≡ refusal k
      → ComesTo (view img) (decided (volume_length (view img)) (view img) cs plan (length list)) list (refused_by k) list
  own-refusal cs plan k n e = refused-by-own (volume_length (view img)) (view img) cs plan list ok (refusal k) (sym e) n

  module _ (i offset : ℕ) (bytes : List ℕ) (time : ℕ) where
    abbrev c : Catalogue
    c = catalogue_of (view img)

    abbrev plan : Plan
    plan = write_plan (catalogue_of (view img)) i (view img) offset bytes time

    abbrev own : Conditions
    own = file_conditions (catalogue_of (view img)) i offset (length bytes)

    abbrev File : Changed → List ℕ → Type 0
    File = FileWritesTo img i offset bytes time list

    module _ (size : ℕ) (says : size ≡ (entry_of c i).size) where
      -- 12
      pub file-12 : size < offset → File (refused_by 12) list
      unfolding file_decision file_conditions verdict_of
      file-12 l =
          own-refusal own (write_planned c i (view img) offset bytes time) 12 (λ (e : ◌≡◌ {A = ℕ} 12 0). omega arith)
          (rw (← says, lt-ltb size offset l))

      module _ (l : offset ≤ size) (z : ℕ) (e : z ≡ size_after c i offset (length bytes)) where
        own-verdict : (b : Bool) → no_room c i z ≡ b → verdict_of own ≡ cond b (refusal 13) done
        unfolding file_conditions verdict_of
        own-verdict b q = rw (← says, le-ltb size offset l, says, ← e, q)

        -- 13: no more than K are free for one that is needed
        pub file-13 : no_room c i z ≡ true → File (refused_by 13) list
        unfolding file_decision
        file-13 q = own-refusal own (write_planned c i (view img) offset bytes time) 13 (λ (e : ◌≡◌ {A = ℕ} 13 0). omega arith) (own-verdict true q)

        -- K + 1 are free, or none is needed
        module _ (q : no_room c i z ≡ false) where
          file-fitted : {answer : Changed} {after : List ℕ}
              → ComesTo (view img) (fitted (view img) (write_planned c i (view img) offset bytes time) (length list)) list answer after → File answer after
          unfolding file_decision
          file-fitted r =
              rw (decided-fitted (volume_length (view img)) (view img) own (write_planned c i (view img) offset bytes time) (length list) ok (sym (own-verdict false q))) r

          -- 14, or the list
          module _ (there : lacks_reserve c ≡ false) (nonempty : Nonzero (length bytes)) (b : Bool) (h : b ≡ grows c i z) where
            -- how many bytes the list takes
            abbrev needed : ℕ
            needed = record_count (touched_sectors offset (length bytes)) (cond b 2 1) * record_size

            needs : list_length (groups_for (view img) (some plan)) ≡ needed
            needs = write-needs c i (view img) offset bytes time z b e h

            -- how many were emitted
            pub file-count : {l m : List ℕ} {j : ℕ} → Emitted l 0 (closed (groups_for (view img) (some plan))) m j → j * record_size ≡ needed
            file-count r = emitted-length (groups_for (view img) (some plan)) r ∙ needs

            pub file-short : length list < needed → File (refused_by 14) list
            file-short m = file-fitted (rw (planned-some c i (view img) offset bytes time nonempty) (fitted_short (view img) plan list there (rw needs m)))

            pub file-done : {m : List ℕ} {j : ℕ} → needed ≤ length list
                → Emitted list 0 (closed (groups_for (view img) (some plan))) m j → File (record { verdict = done; length = j * record_size }) m
            file-done m r =
                file-fitted (rw (planned-some c i (view img) offset bytes time nonempty)
                (fitted-done (view img) plan list there (emitted-length (groups_for (view img) (some plan)) r) (rw (file-count r) m) r))

      -- no bytes
      pub file-none : (g : Geometry) → Opened img g → offset ≤ size → length bytes ≡ 0 → File (refused_by 0) list
      unfolding no_room
      file-none g o l n =
          let e : size ≡ size_after c i offset (length bytes) = omega (arith, says, n, l) in
          let q : grows c i size ≡ false = sym (more-is img g o i size size says) ∙ le-ltb (extents_for g size) (extents_for g size) (omega arith) in
          file-fitted l size e (ap (λ (b : Bool). b && ltb (length (free_extents c)) (reserve_extents c.geometry + 1)) q)
          (rw (planned-none c i (view img) offset bytes time n) (fitted_none (view img) list))

      -- 13: fewer than K are free
      pub file-full : offset ≤ size → Nonzero (length bytes) → lacks_reserve c ≡ true → File (refused_by 13) list
      file-full l nonempty f = go (no_room c i (size_after c i offset (length bytes))) refl
        where
          go : (b : Bool) → no_room c i (size_after c i offset (length bytes)) ≡ b → File (refused_by 13) list
          go true q = file-13 l (size_after c i offset (length bytes)) refl q
          go false q =
              file-fitted l (size_after c i offset (length bytes)) refl q
              (rw (planned-some c i (view img) offset bytes time nonempty) (fitted-full (view img) plan list f))

  -- ---- 8, 9 of write

  module _ (name : List ℕ) (offset : ℕ) (bytes : List ℕ) (time : ℕ) where
    abbrev conditions : Conditions
    conditions = write_conditions (catalogue_of (view img)) name offset (length bytes) time

    abbrev planned : Option Plan
    planned = write_planned (catalogue_of (view img)) (index_of (file_named (catalogue_of (view img)) name)) (view img) offset bytes time

    abbrev pub Written : Changed → List ℕ → Type 0
    Written answer after =
        (answer ≡ write_answer (volume_length (view img)) (view img) name offset bytes time (length list)) × (after ≡ write_list (volume_length (view img)) (view img) name offset bytes time list)

    -- the code's test
    abbrev is_bad : Bool
    is_bad = bad_time (edition_on (view img)) time || bad_name (edition_on (view img)) name || ltb longest_transfer (length bytes)

    abbrev rest_by : Verdict
    rest_by =
        let cat = catalogue_of (view img) in
        let i = index_of (file_named cat name) in
        cond (not (is_at (file_named cat name))) (refusal 9)
        (cond (ltb (size_named cat name) offset) (refusal 12) (cond (no_room cat i (size_after cat i offset (length bytes))) (refusal 13) done))

    write-tests : verdict_of conditions ≡ cond is_bad (refusal 8) rest_by
    unfolding verdict_of write_conditions catalogue_of
    write-tests =
        same-refusals (bad_time (edition_on (view img)) time) (bad_name (edition_on (view img)) name) (ltb longest_transfer (length bytes)) (refusal 8) rest_by
        ∙ same-refusal (bad_time (edition_on (view img)) time || bad_name (edition_on (view img)) name) (ltb longest_transfer (length bytes)) (refusal 8) rest_by

    pub write-bad : is_bad ≡ true → Written (refused_by 8) list
    unfolding write_answer write_list write_decision
    write-bad h = own-refusal conditions planned 8 (λ (e : ◌≡◌ {A = ℕ} 8 0). omega arith) (write-tests ∙ rw h)

    module _ (good : is_bad ≡ false) where
      pub write-missing : is_at (file_named (catalogue_of (view img)) name) ≡ false → Written (refused_by 9) list
      unfolding write_answer write_list write_decision
      write-missing h = own-refusal conditions planned 9 (λ (e : ◌≡◌ {A = ℕ} 9 0). omega arith) (write-tests ∙ rw (good, h))

      pub write-found : {answer : Changed} {after : List ℕ} (i : ℕ) → Some i ≡ file_named (catalogue_of (view img)) name
          → FileWritesTo img i offset bytes time list answer after → Written answer after
      unfolding write_answer write_list write_decision file_decision file_conditions verdict_of
      write-found i e r =
          rw (
            decided-same (volume_length (view img)) (view img) conditions (file_conditions (catalogue_of (view img)) i offset (length bytes)) planned (length list)
                (write-tests ∙ rw (good, ← e, sized (catalogue_of (view img)) name i e)),
            ← e,
          )
          r
