-- T-11, the listing program: it "reads a volume from standard input one sector at a time and prints, in order, a line for each occupied entry:
-- index, size, name". A line's name is a part of the sector that the line was made of.
use Rattle.std.specs.Prelude.{ℕ, ◌-◌, ◌/◌, min, cond, List, [], ◌∷◌, ◌++◌, ltb, length}
use Rattle.model.specs.declared.Geometry.{Geometry}
use Rattle.model.specs.Answers.{Verdict}
use Rattle.model.specs.declared.Line.{Line}
use Rattle.model.specs.declared.Line.TheVariants.{Nothing, Refused, Fault, File}
use Rattle.model.specs.Bytes.{bytes_from}
use Rattle.model.specs.Search.{concatenated}
use Rattle.model.specs.Geometry.{FileNumber, superblock_at, entry_at, journal_at}
use Rattle.model.specs.Disk.{Disk}
use Rattle.model.specs.Edition.{layout_of}
use Rattle.model.specs.Superblock.{geometry_in, state_on}
use Rattle.model.specs.Entry.{entry_in, is_occupied}
use Rattle.model.specs.Faults.{bad_mark, bad_entry}
use Rattle.model.specs.Refusals.{and_then, given, refusal, state_number}
use Rattle.model.specs.Summary.{superblock_verdict}

-- "A superblock refused (length untested), or not clean": 1 to 6, of the len bytes of the input
unfoldable pub listing_verdict : ℕ → Disk → Verdict
listing_verdict len d = and_then (superblock_verdict len d) (refusal (state_number (state_on d)))

-- entry i's line by its sector s: "An entry with fault 21, or with 22 by its own sector and the geometry, prints "fault 21 at 7" with its own numbers"
unfoldable pub entry_line : Geometry → FileNumber → List ℕ → Line
entry_line g i s =
    let e = entry_in g.edition s in
    cond (bad_mark s) (Fault 21 i)
    (cond (is_occupied s) (cond (bad_entry g e) (Fault 22 i) (File i e.size (layout_of g.edition).name (length e.name))) Nothing)

-- the name on a line that was made of the sector s
abbrev pub name_on : List ℕ → Line → List ℕ
name_on s Nothing = []
name_on s (Refused n) = []
name_on s (Fault n i) = []
name_on s (File i z at n) = bytes_from s at n

abbrev pub printed : Line → List Line
printed Nothing = []
printed (Refused n) = Refused n ∷ []
printed (Fault n i) = Fault n i ∷ []
printed (File i z at n) = File i z at n ∷ []

-- the lines of a directory of which so many sectors of the volume were read: "input that ends after the superblock but before the directory's
-- end adds "refused 1""
unfoldable pub directory_lines : Geometry → ℕ → Disk → List Line
directory_lines g sectors d =
    concatenated (λ i. printed (entry_line g i (d (entry_at i)))) 0 (min g.files (sectors - entry_at 0))
    ++ cond (ltb sectors (journal_at g)) (Refused 1 ∷ []) []

-- all that is printed for an input of len bytes, seen as a disk: a refusal of the superblock stands alone
unfoldable pub listing_lines : ℕ → Disk → List Line
listing_lines len d = given (listing_verdict len d) (directory_lines (geometry_in (d superblock_at)) (len / 512) d) (λ v. Refused v.number ∷ [])
