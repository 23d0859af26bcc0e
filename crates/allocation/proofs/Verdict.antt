-- What the pass over the table says of the faults 25 and 26. Assumes nothing.
use Prim.Native.Nat.{ℕ, ◌+◌, ◌-◌, ◌≤◌, ◌<◌}
use mathlib.Core.Path.{◌≡◌, refl, sym, ap, ◌∙◌}
use mathlib.Core.Logic.{⊎_elim}
use mathlib.Core.Bool.{Bool, true, false, cond, not, ◌&&◌, true≢false}
use mathlib.Core.List.{List}
use native.Mathlib.Nat.{eq-or-lt_of_le}
use native.Mathlib.Omega.{arith}
use lib.Dec.{eqb, ltb}
use lib.ListN.{get_or}
use borrow.Author.Tests.{lt-ltb, ne_eqb, eqb-true}
use Rattle.model.specs.declared.Geometry.{Geometry}
use Rattle.std.specs.Prelude.{Some, None}
use Rattle.model.specs.Answers.{Sound, Faulty}
use Rattle.model.specs.Bytes.{number_in}
use Rattle.model.specs.Search.{Lowest, first, any_below, count_below}
use Rattle.model.specs.Geometry.{entry_at, extents_for}
use Rattle.model.specs.Disk.{Disk}
use Rattle.model.specs.Superblock.{geometry_in}
use Rattle.model.specs.Entry.{entry_field, is_occupied}
use Rattle.model.specs.Table.{table_file, table_offset, free_file}
use Rattle.model.specs.Catalogue.{catalogue_of}
use Rattle.model.specs.Faults.{exact, fault25, fault26, or_else}
use Rattle.laws.proofs.Search.{any_below-ext, any_below-no, first-ext, first-missed, first-none}
use Rattle.laws.proofs.Catalogue.{fault26-is, exact-is}
use Rattle.allocation.proofs.Misplaced.{fault25-on, needs-none}
use Rattle.allocation.specs.Marks.{table_fault, bit, needed, start_of, owns, holds, is_extra, lacks, Starts, Marks, Misplaced, Reached}
use Rattle.laws.proofs.Seeking.{first_found, first-there}
use Rattle.laws.proofs.Count.{count_below-le}
use Rattle.allocation.proofs.Sums.{by_value, sum_to-mono}
use Rattle.allocation.proofs.Exact.{exactly, exact-unless, exactly-count, surplus}
use Rattle.allocation.proofs.Marks.{start-next, starts-down}

unseen : (b : Bool) → eqb (bit b) 0 ≡ not b
unseen true = refl
unseen false = refl

not-not : (b : Bool) → not (not b) ≡ b
not-not true = refl
not-not false = refl

same-and : (b x y : Bool) → (b ≡ true → x ≡ y) → (b && not x) ≡ (b && not y)
same-and true x y h = ap not (h refl)
same-and false x y h = refl

-- file i has exactly c extents, of the offsets 0 to c - 1
abbrev right : Geometry → Disk → ℕ → ℕ → Bool
right g d i c = exactly (owns g d i) (table_offset g d) g.extents c

fault26-of : (d : Disk) (i : ℕ) → i < (geometry_in (d 0)).files → i < free_file
    → fault26 (catalogue_of d) i ≡ (is_occupied (d (entry_at i)) && not (right (geometry_in (d 0)) d i (needed (geometry_in (d 0)) d i)))
unfolding needed
fault26-of d i l few =
    let b = is_occupied (d (entry_at i)) in
    let c = extents_for (geometry_in (d 0)) (number_in (d (entry_at i)) entry_field.size) in
    fault26-is d i l
    ∙ same-and b (exact (catalogue_of d) i c) (right (geometry_in (d 0)) d i (cond b c 0))
    (λ e. exact-is d i few c ∙ ap (right (geometry_in (d 0)) d i) (sym (ap (λ (x : Bool). cond x c 0) e)))

module _ (g : Geometry) (d : Disk) (is : g ≡ geometry_in (d 0)) (small : g.files ≤ free_file) where
  fault26-on : (i : ℕ) → i < g.files → fault26 (catalogue_of d) i ≡ (is_occupied (d (entry_at i)) && not (right g d i (needed g d i)))
  fault26-on i l = rw is (fault26-of d i (rw is at l) (omega arith))

  -- a file that isn't at fault has as many extents as it needs
  has-enough : (i : ℕ) → i < g.files → fault26 (catalogue_of d) i ≡ false → needed g d i ≤ count_below (owns g d i) g.extents
  has-enough i l e = go (is_occupied (d (entry_at i))) refl (right g d i (needed g d i)) refl
    where
      go : (a : Bool) → is_occupied (d (entry_at i)) ≡ a → (b : Bool) → right g d i (needed g d i) ≡ b → needed g d i ≤ count_below (owns g d i) g.extents
      go false s b t = omega (arith, needs-none g d i s)
      go true s true t = omega (arith, exactly-count (owns g d i) (table_offset g d) g.extents (needed g d i) t)
      go true s false t = absurd (true≢false (sym (fault26-on i l ∙ rw (s, t)) ∙ e))

  -- so files that need more extents than there are can't all be without fault
  overfull : (m : ℕ) → m < g.files → ((i : ℕ) → i < m → fault26 (catalogue_of d) i ≡ false) → g.extents < start_of g d (m + 1) → fault26 (catalogue_of d) m ≡ true
  unfolding start_of
  overfull m l before more = go (fault26 (catalogue_of d) m) refl
    where
      each : fault26 (catalogue_of d) m ≡ false → (i : ℕ) → i < m + 1 → needed g d i ≤ count_below (owns g d i) g.extents
      each e i h =
          ⊎_elim (λ (q : i ≡ m). has-enough i (omega arith) (ap (fault26 (catalogue_of d)) q ∙ e)) (λ (s : i < m). has-enough i (omega arith) (before i s))
          (eq-or-lt_of_le (let le : i ≤ m = omega arith in le))

      go : (b : Bool) → fault26 (catalogue_of d) m ≡ b → b ≡ true
      go true e = refl
      go false e =
          absurd
          (omega (
            arith,
            sum_to-mono (needed g d) (λ i. count_below (owns g d i) g.extents) (m + 1) (each e),
            by_value (λ k. true) (table_file g d) g.extents (m + 1),
            count_below-le (λ k. true && ltb (table_file g d k) (m + 1)) g.extents,
          ))

  pub misplaced-at : (e : ℕ) → Misplaced g d 0 g.extents e → Faulty 25 e ≡ table_fault g d
  misplaced-at e P =
      let none : first (fault25 (catalogue_of d)) e ≡ None = first-none (fault25 (catalogue_of d)) e (λ j l. P.before j (omega arith) l) in
      let found : Some e ≡ first (fault25 (catalogue_of d)) g.extents = sym (first-there (fault25 (catalogue_of d)) e g.extents P.e_lt_to none P.fault) in
      ap (λ (p : Lowest). or_else 25 p (or_else 26 (first (fault26 (catalogue_of d)) g.files) Sound)) found

  module _ (f m : ℕ) (starts seen : List ℕ) (F : Starts g d f starts) (R : Reached g d 0 g.extents f m seen) where
    sound : first (fault25 (catalogue_of d)) g.extents ≡ None
    sound = first-none (fault25 (catalogue_of d)) g.extents (λ j l. R.placed j (omega arith) l)

    S : Starts g d m starts
    S = starts-down g d f m starts F R.lower

    M : Marks g d g.extents m seen
    M = R.marks

    -- what the search for fault 26 finds is the answer
    rest : {p : Lowest} → first (fault26 (catalogue_of d)) g.files ≡ p → or_else 26 p Sound ≡ table_fault g d
    rest h = rw (sound, h)

    -- an extent is an occupied file's
    owned : (i e : ℕ) → i < g.files → e < g.extents → is_occupied (d (entry_at i)) ≡ false → owns g d i e ≡ false
    owned i e l h free = go (owns g d i e) refl
      where
        go : (b : Bool) → owns g d i e ≡ b → b ≡ false
        go false t = refl
        go true t =
            let q : table_file g d e ≡ i = eqb-true (table_file g d e) i t in
            let x : fault25 (catalogue_of d) e ≡ true = fault25-on d g is e h ∙ rw (q, ne_eqb i free_file (λ z. omega arith), lt-ltb i g.files l, free) in
            absurd (true≢false (sym x ∙ R.placed e (omega arith) h))

    -- where the marks end before the last file, that file is at fault unless a lower one is
    at-fault : m < g.files → ((i : ℕ) → i < m → fault26 (catalogue_of d) i ≡ false) → fault26 (catalogue_of d) m ≡ true
    at-fault l before = ⊎_elim (extra (is_occupied (d (entry_at m))) refl) (overfull m l before) (M.why l)
      where
        extra : (b : Bool) → is_occupied (d (entry_at m)) ≡ b → any_below (is_extra g d m) g.extents ≡ true → fault26 (catalogue_of d) m ≡ true
        extra true s e = fault26-on m l ∙ rw (s, surplus (owns g d m) (table_offset g d) g.extents (needed g d m) e)
        extra false s e = absurd (true≢false (sym e ∙ any_below-no (is_extra g d m) g.extents (λ j h. rw (owned m j l h s))))

    lacks-is : (i : ℕ) → i < m → lacks starts seen i ≡ any_below (λ k. not (any_below (holds g d i k) g.extents)) (needed g d i)
    lacks-is i l =
        let n : start_of g d (i + 1) - start_of g d i ≡ needed g d i = omega (arith, start-next g d i) in
        rw (S.at i (omega arith), S.at (i + 1) (omega arith), n)
        (any_below-ext (λ k. eqb (get_or seen (start_of g d i + k) 0) 0) (λ k. not (any_below (holds g d i k) g.extents)) (needed g d i)
        (λ k h. ap (λ (x : ℕ). eqb x 0) (M.seen_at i l k h) ∙ unseen (any_below (holds g d i k) g.extents)))

    judged : (i : ℕ) → i < m → lacks starts seen i ≡ fault26 (catalogue_of d) i
    unfolding any_below
    judged i l = lacks-is i l ∙ sym (fault26-on i (omega (arith, S.files)) ∙ go (is_occupied (d (entry_at i))) refl)
      where
        go : (b : Bool) → is_occupied (d (entry_at i)) ≡ b → (b && not (right g d i (needed g d i))) ≡ any_below (λ k. not (any_below (holds g d i k) g.extents)) (needed g d i)
        go true s =
            ap not (exact-unless (owns g d i) (table_offset g d) g.extents (needed g d i) (M.none i l))
            ∙ not-not (any_below (λ k. not (any_below (holds g d i k) g.extents)) (needed g d i))
        go false s = rw (needs-none g d i s)

    same_first : first (lacks starts seen) m ≡ first (fault26 (catalogue_of d)) m
    same_first = first-ext (lacks starts seen) (fault26 (catalogue_of d)) m judged

    -- the three answers
    pub lacking-at : (i : ℕ) → Some i ≡ first (lacks starts seen) m → Faulty 26 i ≡ table_fault g d
    lacking-at i e = rest (first_found (fault26 (catalogue_of d)) m g.files i S.files (sym same_first ∙ sym e))

    module _ (e : None ≡ first (lacks starts seen) m) where
      missed : first (fault26 (catalogue_of d)) m ≡ None
      missed = sym same_first ∙ sym e

      pub stopped-at : m < g.files → Faulty 26 m ≡ table_fault g d
      stopped-at l = rest (first-there (fault26 (catalogue_of d)) m g.files l missed (at-fault l (first-missed (fault26 (catalogue_of d)) m missed)))

      pub nowhere : g.files ≤ m → Sound ≡ table_fault g d
      nowhere h = let q : g.files ≡ m = omega (arith, S.files) in rest {p = None} (rw q missed)
