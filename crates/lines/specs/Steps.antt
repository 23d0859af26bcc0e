-- What the listing program does with one sector: the line that it prints, and what it awaits next. `proofs/Listing` shows that the steps over
-- an input print the lines that `listing_lines` says.
use Rattle.std.specs.Prelude.{ℕ, zero, suc, ◌+◌, ◌-◌, ◌*◌, ◌<◌, ◌≤◌, cond, List, [], ◌++◌, ltb, length, take, drop, Option, Some, None}
use Rattle.model.specs.declared.Geometry.{Geometry}
use Rattle.model.specs.declared.Line.{Line}
use Rattle.model.specs.declared.Line.TheVariants.{Nothing, Refused, Fault, File}
use Rattle.lines.specs.declared.Awaited.{Awaited}
use Rattle.lines.specs.declared.Awaited.TheVariants as awaited
use Rattle.lines.specs.declared.Step.{Step}
use Rattle.model.specs.Geometry.{FileNumber, superblock_at, most_files}
use Rattle.model.specs.Disk.{view}
use Rattle.model.specs.Superblock.{geometry_in}
use Rattle.model.specs.Refusals.{given}
use Rattle.model.specs.Lines.{listing_verdict, entry_line, printed}
use Rattle.model.specs.Opened.{Bounded}

abbrev pub step : Line → Option Awaited → Step
step line next = record { line = line; next = next }

-- entry i, or nothing at the directory's end
abbrev pub entry_from : Geometry → FileNumber → Option Awaited
entry_from g i = cond (ltb i g.files) (Some (awaited.Entry g (record { 0 = i }))) None

-- fewer than 512 bytes are the input's end
abbrev pub unless_short : List ℕ → Step → Step
unless_short s r = cond (ltb (length s) 512) (step (Refused 1) None) r

-- the bytes s were read where the sector awaited should stand
unfoldable pub step_on : List ℕ → Option Awaited → Step
step_on s (Some awaited.Superblock) =
    given (listing_verdict (length s) (view s)) (step Nothing (Some (awaited.Root (geometry_in (view s superblock_at))))) (λ v. step (Refused v.number) None)
step_on s (Some (awaited.Root g)) = unless_short s (step Nothing (entry_from g 0))
step_on s (Some (awaited.Entry g i)) = unless_short s (step (entry_line g i.0 s) (entry_from g (i.0 + 1)))
step_on s None = step Nothing None

-- what steps keep: the geometry is in bounds, and the entry awaited is in the directory
abbrev pub Kept : Option Awaited → Type 0
Kept (Some awaited.Superblock) = Unit {0}
Kept (Some (awaited.Root g)) = Bounded g
Kept (Some (awaited.Entry g i)) = Bounded g × (i.0 < g.files)
Kept None = Unit {0}

-- how many sectors are still to be read, at most
abbrev pub left : Option Awaited → ℕ
left (Some awaited.Superblock) = most_files + 2
left (Some (awaited.Root g)) = g.files + 1
left (Some (awaited.Entry g i)) = g.files - i.0
left None = 0

-- a line's name lies in the sector
abbrev pub NameInSector : Line → Type 0
NameInSector Nothing = Unit {0}
NameInSector (Refused n) = Unit {0}
NameInSector (Fault n i) = Unit {0}
NameInSector (File i z at n) = at + n ≤ 512

-- ---- all steps over an input

-- the bytes that the program gets where sector k of its input should stand: fewer than 512 where the input ends before
unfoldable pub sector_read : List ℕ → ℕ → List ℕ
sector_read input k = take 512 (drop (512 * k) input)

-- the lines of n steps, of which the first gets sector k
unfoldable pub lines_from : List ℕ → ℕ → ℕ → Option Awaited → List Line
lines_from input zero k next = []
lines_from input (suc n) k next =
    let r = step_on (sector_read input k) next in
    printed r.line ++ lines_from input n (k + 1) r.next
