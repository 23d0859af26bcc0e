-- The first fault of the allocation table, and what the arrays of fault 26's test hold: a mark stands for each extent that an occupied
-- file needs, file after file; it is 1 once a table entry with that file and offset was met.
use Rattle.std.specs.Prelude.{ℕ, zero, suc, ◌+◌, ◌-◌, ◌≤◌, ◌<◌, ◌≡◌, ◌⊎◌, Bool, true, false, cond, ◌&&◌, ◌||◌, List, eqb, leb, length, get_or, Result, Ok, Err}
use Rattle.model.specs.declared.Extent.{Extent}
use Rattle.model.specs.declared.Geometry.{Geometry}
use Rattle.model.specs.Answers.{Soundness, Sound}
use Rattle.model.specs.Bytes.{number_in}
use Rattle.model.specs.Search.{first, any_below}
use Rattle.model.specs.Geometry.{FileNumber, ExtentNumber, entry_at, extents_for}
use Rattle.model.specs.Disk.{Disk}
use Rattle.model.specs.Entry.{entry_field, is_occupied}
use Rattle.model.specs.Table.{table_file, table_offset}
use Rattle.model.specs.Catalogue.{catalogue_of}
use Rattle.model.specs.Faults.{fault25, fault26, or_else}

-- the sum of h at the indexes below n
unfoldable pub sum_to : (ℕ → ℕ) → ℕ → ℕ
sum_to h zero = 0
sum_to h (suc n) = h n + sum_to h n

abbrev pub bit : Bool → ℕ
bit b = cond b 1 0

module _ (g : Geometry) (d : Disk) where
  -- the first of the faults 25 and 26
  abbrev pub table_fault : Soundness
  table_fault = or_else 25 (first (fault25 (catalogue_of d)) g.extents) (or_else 26 (first (fault26 (catalogue_of d)) g.files) Sound)

  -- how many extents entry i's size needs; a free entry needs none
  unfoldable pub needed : FileNumber → ℕ
  needed i = cond (is_occupied (d (entry_at i))) (extents_for g (number_in (d (entry_at i)) entry_field.size)) 0

  -- where file i's bytes begin
  unfoldable pub start_of : FileNumber → ℕ
  start_of i = sum_to needed i

  -- extent e is file i's; of offset o
  abbrev pub owns : FileNumber → ExtentNumber → Bool
  owns i e = eqb (table_file g d e) i

  abbrev pub holds : FileNumber → ℕ → ExtentNumber → Bool
  holds i o e = owns i e && eqb (table_offset g d e) o

  -- extent e is one too many for file i: past those that it needs, or of an offset that a lower extent has
  abbrev pub is_extra : FileNumber → ExtentNumber → Bool
  is_extra i e = owns i e && (leb (needed i) (table_offset g d e) || any_below (holds i (table_offset g d e)) e)

  -- the starts of files 0 to m; the bytes of those below m are no more than there are extents
  pub record Starts (m : ℕ) (starts : List ℕ) : Type 0 where
    pub size : g.files < length starts
    pub files : m ≤ g.files
    pub at : (i : FileNumber) → i ≤ m → get_or starts i 0 ≡ start_of i
    pub fits : start_of m ≤ g.extents

  -- after the first k extents: no file below m has one too many, and if m is a file it is at fault
  pub record Marks (k m : ℕ) (seen : List ℕ) : Type 0 where
    pub size : g.extents ≤ length seen
    pub seen_at : (i : FileNumber) → i < m → (o : ℕ) → o < needed i → get_or seen (start_of i + o) 0 ≡ bit (any_below (holds i o) k)
    pub none : (i : FileNumber) → i < m → any_below (is_extra i) k ≡ false
    pub why : m < g.files → (any_below (is_extra m) k ≡ true) ⊎ (g.extents < start_of (m + 1))

  -- extent e is the first with fault 25 of those from one to another
  pub record Misplaced (from to e : ExtentNumber) : Type 0 where
    pub from_le_e : from ≤ e
    pub e_lt_to : e < to
    pub fault : fault25 (catalogue_of d) e ≡ true
    pub before : (j : ExtentNumber) → from ≤ j → j < e → fault25 (catalogue_of d) j ≡ false

  -- none of them has it, and the marks are those of all so far
  pub record Reached (from to : ExtentNumber) (f m : FileNumber) (seen : List ℕ) : Type 0 where
    pub placed : (j : ExtentNumber) → from ≤ j → j < to → fault25 (catalogue_of d) j ≡ false
    pub marks : Marks to m seen
    pub lower : m ≤ f

  -- what a pass over them answers, where f was reached before
  abbrev pub Passed : ExtentNumber → ExtentNumber → FileNumber → Result FileNumber Extent → List ℕ → Type 0
  Passed from to f (Ok m) seen = Reached from to f m seen
  Passed from to f (Err e) seen = Misplaced from to e.0

-- the starts up to m rise, to n at most
pub record Rising (starts : List ℕ) (m n : ℕ) : Type 0 where
  pub rises : (i : ℕ) → i < m → get_or starts i 0 ≤ get_or starts (i + 1) 0
  pub last : (i : ℕ) → i ≤ m → get_or starts i 0 ≤ get_or starts m 0
  pub within : get_or starts m 0 ≤ n

-- file i lacks an extent, by the arrays
abbrev pub lacks : List ℕ → List ℕ → FileNumber → Bool
lacks starts seen i = any_below (λ k. eqb (get_or seen (get_or starts i 0 + k) 0) 0) (get_or starts (i + 1) 0 - get_or starts i 0)
