-- The steps over an input print the lines that `listing_lines` says of it, in order and one sector at a time. Assumes nothing.
use Prim.Native.Nat.{ℕ, zero, suc, ◌+◌, ◌-◌, ◌*◌, ◌/◌, ◌≤◌, ◌<◌, min}
use mathlib.Core.Path.{◌≡◌, refl, sym, ap, ◌∙◌}
use mathlib.Core.Bool.{Bool, true, false, cond, not, ◌&&◌}
use mathlib.Core.List.{List, [], ◌∷◌, ◌++◌, append_assoc}
use native.Mathlib.Omega.{arith}
use native.Mathlib.Decide.{dec_lt}
use lib.Dec.{leb, ltb}
use lib.ListN.{length, drop, length-take, length-drop}
use borrow.Author.Tests.{lt-ltb, le-ltb, eqb-true, leb-true}
use Rattle.model.specs.declared.Geometry.{Geometry}
use Rattle.model.specs.Answers.{Verdict}
use Rattle.model.specs.declared.Line.{Line}
use Rattle.model.specs.declared.Line.TheVariants.{Nothing, Refused}
use Rattle.std.specs.Prelude.{Option, Some, None}
use Rattle.lines.specs.declared.Awaited.{Awaited}
use Rattle.lines.specs.declared.Awaited.TheVariants as awaited
use Rattle.lines.specs.declared.Step.{Step}
use Rattle.model.specs.Search.{concatenated}
use Rattle.model.specs.Geometry.{FileNumber, superblock_at, entry_at, journal_at, extent_sectors, least_files, most_files, in_bounds}
use Rattle.model.specs.Disk.{Disk, view}
use Rattle.model.specs.Superblock.{geometry_in, is_volume, state_of, journal_length}
use Rattle.model.specs.Refusals.{verdict_of, and_then, refusal, is_done, state_number}
use Rattle.model.specs.Summary.{superblock_verdict}
use Rattle.model.specs.Lines.{listing_verdict, entry_line, printed, directory_lines, listing_lines}
use Rattle.laws.proofs.Booleans.{and_left, and_right}
use Rattle.laws.proofs.Bytes.{bytes_from-eq, bytes_from-all}
use Rattle.laws.proofs.Search.{concatenated-front}
use Rattle.lines.specs.Steps.{step, entry_from, unless_short, step_on, sector_read, lines_from}
use Rattle.lines.proofs.Laws.{listing-length, listing-bounds}

-- ---- one step

short-step : (s : List ℕ) (r : Step) → ltb (length s) 512 ≡ true → unless_short s r ≡ step (Refused 1) None
short-step s r h = rw h

whole-step : (s : List ℕ) (r : Step) → ltb (length s) 512 ≡ false → unless_short s r ≡ r
whole-step s r h = rw h

on-root : (s : List ℕ) (g : Geometry) → step_on s (Some (awaited.Root g)) ≡ unless_short s (step Nothing (entry_from g 0))
unfolding step_on
on-root s g = refl

on-entry : (s : List ℕ) (g : Geometry) (i : FileNumber) → step_on s (Some (awaited.Entry g (record { 0 = i }))) ≡ unless_short s (step (entry_line g i s) (entry_from g (i + 1)))
unfolding step_on
on-entry s g i = refl

files-most : (g : Geometry) → in_bounds g ≡ true → g.files ≤ most_files
unfolding in_bounds
files-most g h =
    let a = leb least_files g.files in
    let b = leb g.files most_files in
    let c = leb 2 g.extents in
    let d = leb g.extents 65535 in
    leb-true g.files most_files
    (and_right a b (and_left (a && b) c (and_left (a && b && c) d (and_left (a && b && c && d) (leb 128 (extent_sectors g)) h))))

-- the verdict looks at the length only for refusal 1, and at no sector but the superblock
abbrev verdict_by : Bool → List ℕ → Verdict
verdict_by short s =
    and_then (verdict_of ((short, refusal 1) ∷ (not (is_volume s), refusal 2) ∷ (not (in_bounds (geometry_in s)), refusal 3) ∷ []))
    (refusal (state_number (state_of (journal_length s))))

listing-by : (len : ℕ) (d : Disk) → listing_verdict len d ≡ verdict_by (ltb len 512) (d superblock_at)
unfolding listing_verdict superblock_verdict
listing-by len d = refl

short-by : (s t : List ℕ) → verdict_by true s ≡ verdict_by true t
unfolding verdict_of
short-by s t = refl

module _ (input : List ℕ) where
  -- ---- the sectors that are read

  abbrev sectors : ℕ
  sectors = length input / 512

  whole-read : (k : ℕ) → k < sectors → sector_read input k ≡ view input k
  unfolding sector_read view
  whole-read k h = sym (bytes_from-eq input (512 * k) 512 (omega arith))

  length-read : (k : ℕ) → length (sector_read input k) ≡ min 512 (length input - 512 * k)
  unfolding sector_read
  length-read k = length-take 512 (drop (512 * k) input) ∙ ap (min 512) (length-drop (512 * k) input)

  read_whole : (k : ℕ) → k < sectors → ltb (length (sector_read input k)) 512 ≡ false
  read_whole k h = le-ltb (length (sector_read input k)) 512 (omega (arith, length-read k))

  read_short : (k : ℕ) → sectors ≤ k → ltb (length (sector_read input k)) 512 ≡ true
  read_short k h = lt-ltb (length (sector_read input k)) 512 (omega (arith, length-read k))

  -- ---- what follows a step

  none-lines : (n k : ℕ) → lines_from input n k None ≡ []
  unfolding lines_from step_on
  none-lines zero k = refl
  none-lines (suc n) k = none-lines n (k + 1)

  after : (n k : ℕ) (next : Option Awaited) (r : Step) → step_on (sector_read input k) next ≡ r
      → lines_from input (suc n) k next ≡ printed r.line ++ lines_from input n (k + 1) r.next
  unfolding lines_from
  after n k next r e = ap (λ (x : Step). printed x.line ++ lines_from input n (k + 1) x.next) e

  after-short : (n k : ℕ) (next : Option Awaited) (r : Step) → step_on (sector_read input k) next ≡ unless_short (sector_read input k) r → sectors ≤ k
      → lines_from input (suc n) k next ≡ Refused 1 ∷ []
  after-short n k next r e h =
      after n k next (step (Refused 1) None) (e ∙ short-step (sector_read input k) r (read_short k h))
      ∙ ap (λ x. (Refused 1 ∷ []) ++ x) (none-lines n (k + 1))

  module _ (g : Geometry) where
    -- ---- the entries

    abbrev line : FileNumber → List Line
    line i = printed (entry_line g i (view input (entry_at i)))

    abbrev ending : List Line
    ending = cond (ltb sectors (journal_at g)) (Refused 1 ∷ []) []

    -- no entry is read, and the input has ended
    ending-cut : (x i : ℕ) → x ≡ 0 → ltb sectors (journal_at g) ≡ true → concatenated line i x ++ ending ≡ Refused 1 ∷ []
    unfolding concatenated
    ending-cut x i z cut = rw (z, cut)

    -- entry i and what follows, by the entries after it
    entry-lines : (m i n : ℕ) → i + suc m ≡ g.files → entry_at i ≤ sectors
        → (entry_at i < sectors
        → lines_from input n (entry_at (i + 1)) (entry_from g (i + 1)) ≡ concatenated line (i + 1) (min m (sectors - entry_at (i + 1))) ++ ending)
        → lines_from input (suc n) (entry_at i) (Some (awaited.Entry g (record { 0 = i }))) ≡ concatenated line i (min (suc m) (sectors - entry_at i)) ++ ending
    entry-lines m i n e h later = go (dec_lt (entry_at i) sectors)
      where
        go : Dec (entry_at i < sectors) → lines_from input (suc n) (entry_at i) (Some (awaited.Entry g (record { 0 = i }))) ≡ concatenated line i (min (suc m) (sectors - entry_at i)) ++ ending
        go (yes k) =
            let here = sector_read input (entry_at i) in
            let next = entry_from g (i + 1) in
            let rest = min m (sectors - entry_at (i + 1)) in
            let stepped : step_on here (Some (awaited.Entry g (record { 0 = i }))) ≡ step (entry_line g i (view input (entry_at i))) next =
            on-entry here g i ∙ whole-step here (step (entry_line g i here) next) (read_whole (entry_at i) k) ∙ ap (λ s. step (entry_line g i s) next) (whole-read (entry_at i) k) in
            let a : entry_at i + 1 ≡ entry_at (i + 1) = omega arith in
            let b : i + 1 ≡ suc i = omega arith in
            let c : suc rest ≡ min (suc m) (sectors - entry_at i) = omega arith in
            after n (entry_at i) (Some (awaited.Entry g (record { 0 = i }))) (step (entry_line g i (view input (entry_at i))) next) stepped
            ∙ ap (λ x. line i ++ lines_from input n x next) a
            ∙ ap (λ x. line i ++ x) (later k ∙ ap (λ x. concatenated line x rest ++ ending) b)
            ∙ sym (append_assoc (line i) (concatenated line (suc i) rest) ending)
            ∙ ap (λ x. x ++ ending) (sym (concatenated-front line i rest))
            ∙ ap (λ x. concatenated line i x ++ ending) c
        go (no k) =
            let here = sector_read input (entry_at i) in
            let z : min (suc m) (sectors - entry_at i) ≡ 0 = omega arith in
            let cut : ltb sectors (journal_at g) ≡ true = lt-ltb sectors (journal_at g) (omega arith) in
            after-short n (entry_at i) (Some (awaited.Entry g (record { 0 = i }))) (step (entry_line g i here) (entry_from g (i + 1))) (on-entry here g i) (omega arith)
            ∙ sym (ending-cut (min (suc m) (sectors - entry_at i)) i z cut)

    entries : (m i n : ℕ) → i + m ≡ g.files → m ≤ n → entry_at i ≤ sectors
        → lines_from input n (entry_at i) (entry_from g i) ≡ concatenated line i (min m (sectors - entry_at i)) ++ ending
    unfolding concatenated
    entries zero i n e l h =
        let past : ltb i g.files ≡ false = le-ltb i g.files (omega arith) in
        let all : ltb sectors (journal_at g) ≡ false = le-ltb sectors (journal_at g) (omega arith) in
        let z : min 0 (sectors - entry_at i) ≡ 0 = omega arith in
        rw (past, all, z) (none-lines n (entry_at i))
    entries (suc m) i zero e l h = absurd (omega arith)
    entries (suc m) i (suc n) e l h =
        let there : ltb i g.files ≡ true = lt-ltb i g.files (omega arith) in
        rw there (entry-lines m i n e h (λ k. entries m (i + 1) n (omega arith) (omega arith) (omega arith)))

    -- from the root on
    directory : (n : ℕ) → g.files ≤ n → lines_from input (suc n) 1 (Some (awaited.Root g)) ≡ directory_lines g sectors (view input)
    unfolding directory_lines
    directory n l = go (dec_lt 1 sectors)
      where
        go : Dec (1 < sectors) → lines_from input (suc n) 1 (Some (awaited.Root g)) ≡ concatenated line 0 (min g.files (sectors - entry_at 0)) ++ ending
        go (yes k) =
            let root = sector_read input 1 in
            after n 1 (Some (awaited.Root g)) (step Nothing (entry_from g 0)) (on-root root g ∙ whole-step root (step Nothing (entry_from g 0)) (read_whole 1 k))
            ∙ entries g.files 0 n (omega arith) l (omega arith)
        go (no k) =
            let z : min g.files (sectors - entry_at 0) ≡ 0 = omega arith in
            let cut : ltb sectors (journal_at g) ≡ true = lt-ltb sectors (journal_at g) (omega arith) in
            after-short n 1 (Some (awaited.Root g)) (step Nothing (entry_from g 0)) (on-root (sector_read input 1) g) (omega arith)
            ∙ sym (ending-cut (min g.files (sectors - entry_at 0)) 0 z cut)

  -- ---- the superblock

  abbrev first : List ℕ
  first = sector_read input 0

  abbrev verdict : Verdict
  verdict = listing_verdict (length input) (view input)

  first-view : 512 ≤ length input → view first superblock_at ≡ view input superblock_at
  unfolding view
  first-view h = bytes_from-all first 512 (omega (arith, length-read 0)) ∙ whole-read 0 (omega arith)

  verdict-same : listing_verdict (length first) (view first) ≡ verdict
  verdict-same = listing-by (length first) (view first) ∙ go (dec_lt (length input) 512) ∙ sym (listing-by (length input) (view input))
    where
      go : Dec (length input < 512)
          → verdict_by (ltb (length first) 512) (view first superblock_at) ≡ verdict_by (ltb (length input) 512) (view input superblock_at)
      go (yes h) =
          let a : ltb (length first) 512 ≡ true = read_short 0 (omega arith) in
          let b : ltb (length input) 512 ≡ true = lt-ltb (length input) 512 h in
          rw (a, b) (short-by (view first superblock_at) (view input superblock_at))
      go (no h) =
          let a : ltb (length first) 512 ≡ false = read_whole 0 (omega arith) in
          let b : ltb (length input) 512 ≡ false = le-ltb (length input) 512 (omega arith) in
          rw (a, b) (ap (verdict_by false) (first-view (omega arith)))

  refused : is_done verdict ≡ false → step_on first (Some awaited.Superblock) ≡ step (Refused verdict.number) None
  unfolding step_on
  refused e = rw (verdict-same, e)

  passed : is_done verdict ≡ true → step_on first (Some awaited.Superblock) ≡ step Nothing (Some (awaited.Root (geometry_in (view input superblock_at))))
  unfolding step_on
  passed e =
      let h : 512 ≤ length input = listing-length (length input) (view input) (eqb-true verdict.number 0 e) in
      rw (verdict-same, e) (ap (λ s. step Nothing (Some (awaited.Root (geometry_in s)))) (first-view h))

  -- all that the program prints: F + 2 steps are enough, and any further one prints nothing
  pub listing : (n : ℕ) → most_files + 2 ≤ n → lines_from input n 0 (Some awaited.Superblock) ≡ listing_lines (length input) (view input)
  unfolding listing_lines
  listing zero l = absurd (omega arith)
  listing (suc zero) l = absurd (omega arith)
  listing (suc (suc n)) l = go (is_done verdict) refl
    where
      go : (b : Bool) → is_done verdict ≡ b
          → lines_from input (suc (suc n)) 0 (Some awaited.Superblock)
          ≡ cond b (directory_lines (geometry_in (view input superblock_at)) sectors (view input)) (Refused verdict.number ∷ [])
      go true e =
          let g = geometry_in (view input superblock_at) in
          let f = files-most g (listing-bounds (length input) (view input) (eqb-true verdict.number 0 e)) in
          after (suc n) 0 (Some awaited.Superblock) (step Nothing (Some (awaited.Root g))) (passed e) ∙ directory g n (omega arith)
      go false e =
          after (suc n) 0 (Some awaited.Superblock) (step (Refused verdict.number) None) (refused e)
          ∙ ap (λ x. (Refused verdict.number ∷ []) ++ x) (none-lines (suc n) 1)
