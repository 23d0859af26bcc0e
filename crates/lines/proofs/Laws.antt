-- Laws of one step: a superblock that passes, a name that lies in its sector, the bounds that steps keep, and that they end.
use Prim.Native.Nat.{ℕ, ◌+◌, ◌-◌, ◌≤◌, ◌<◌}
use mathlib.Core.Path.{◌≡◌, refl, sym, subst}
use mathlib.Core.Bool.{Bool, true, false, cond, false≢true}
use mathlib.Core.List.{List}
use native.Mathlib.Omega.{arith}
use lib.Dec.{ltb}
use lib.ListN.{length}
use borrow.Author.Tests.{ltb-true}
use Rattle.model.specs.declared.FileIndex.{FileIndex}
use Rattle.model.specs.declared.Geometry.{Geometry}
use Rattle.model.specs.declared.Line.{Line}
use Rattle.model.specs.declared.Line.TheVariants.{Nothing, Refused, Fault, File}
use Rattle.std.specs.Prelude.{Option, Some, None, is_some}
use Rattle.lines.specs.declared.Awaited.{Awaited}
use Rattle.lines.specs.declared.Awaited.TheVariants as awaited
use Rattle.lines.specs.declared.Step.{Step}
use Rattle.model.specs.Geometry.{FileNumber, superblock_at, most_files, in_bounds}
use Rattle.model.specs.Disk.{Disk, view}
use Rattle.model.specs.Edition.{layout_of}
use Rattle.model.specs.Superblock.{geometry_in, state_on}
use Rattle.model.specs.Entry.{entry_in, name_in, bad_name, is_occupied}
use Rattle.model.specs.Faults.{bad_mark, bad_entry}
use Rattle.model.specs.Refusals.{refusal, is_done, state_number}
use Rattle.model.specs.Summary.{superblock_verdict}
use Rattle.model.specs.Lines.{listing_verdict, entry_line}
use Rattle.model.specs.Opened.{Bounded}
use Rattle.laws.proofs.Booleans.{or-none}
use Rattle.laws.proofs.Edition.{name-ends}
use Rattle.laws.proofs.Named.{short-name}
use Rattle.laws.proofs.Refusals.{superblock-length, superblock-bounds, first_done}
use Rattle.lines.specs.Steps.{step, step_on, entry_from, unless_short, Kept, left, NameInSector}

-- ---- a superblock that passes

module _ (len : ℕ) (d : Disk) (h : (listing_verdict len d).number ≡ 0) where
  passed : (superblock_verdict len d).number ≡ 0
  unfolding listing_verdict
  passed = first_done (superblock_verdict len d) (refusal (state_number (state_on d))) h

  pub listing-length : 512 ≤ len
  listing-length = superblock-length len d passed

  pub listing-bounds : in_bounds (geometry_in (d superblock_at)) ≡ true
  listing-bounds = superblock-bounds len d passed

-- ---- the name on a line

name-within : (g : Geometry) (i : FileNumber) (s : List ℕ) → NameInSector (entry_line g i s)
unfolding entry_line entry_in
name-within g i s = go (bad_mark s) (is_occupied s) (bad_entry g (entry_in g.edition s)) refl
  where
    n : List ℕ
    n = name_in g.edition s

    go : (a b c : Bool) → bad_entry g (entry_in g.edition s) ≡ c
        → NameInSector (cond a (Fault 21 i) (cond b (cond c (Fault 22 i) (File i (entry_in g.edition s).size (layout_of g.edition).name (length n))) Nothing))
    go true b c e = tt
    go false false c e = tt
    go false true true e = tt
    go false true false e = omega (arith, short-name g.edition n (or-none (bad_name g.edition n) _ e).0, name-ends g.edition)

pub line-within : (s : List ℕ) (next : Option Awaited) → NameInSector (step_on s next).line
unfolding step_on
line-within s (Some awaited.Superblock) = go (is_done (listing_verdict (length s) (view s)))
  where
    go : (b : Bool)
        → NameInSector (cond b (step Nothing (Some (awaited.Root (geometry_in (view s superblock_at))))) (step (Refused (listing_verdict (length s) (view s)).number) None)).line
    go true = tt
    go false = tt
line-within s (Some (awaited.Root g)) = go (ltb (length s) 512)
  where
    go : (b : Bool) → NameInSector (cond b (step (Refused 1) None) (step Nothing (entry_from g 0))).line
    go true = tt
    go false = tt
line-within s (Some (awaited.Entry g i)) = go (ltb (length s) 512)
  where
    go : (b : Bool) → NameInSector (cond b (step (Refused 1) None) (step (entry_line g i.0 s) (entry_from g (i.0 + 1)))).line
    go true = tt
    go false = name-within g i.0 s
line-within s None = tt

-- ---- what steps keep

entry_kept : (g : Geometry) (i : FileNumber) → Bounded g → Kept (entry_from g i)
entry_kept g i b = go (ltb i g.files) refl
  where
    go : (t : Bool) → ltb i g.files ≡ t → Kept (cond t (Some (awaited.Entry g (record { 0 = i }))) None)
    go true e = (b, ltb-true i g.files e)
    go false e = tt

short-kept : (s : List ℕ) (line : Line) (next : Option Awaited) → Kept next → Kept (unless_short s (step line next)).next
short-kept s line next k = go (ltb (length s) 512)
  where
    go : (b : Bool) → Kept (cond b (step (Refused 1) None) (step line next)).next
    go true = tt
    go false = k

pub root_kept : (s : List ℕ) (g : Geometry) → Bounded g → Kept (step_on s (Some (awaited.Root g))).next
unfolding step_on
root_kept s g b = short-kept s Nothing (entry_from g 0) (entry_kept g 0 b)

pub entry-step-kept : (s : List ℕ) (g : Geometry) (i : FileIndex) → Bounded g → Kept (step_on s (Some (awaited.Entry g i))).next
unfolding step_on
entry-step-kept s g i b = short-kept s (entry_line g i.0 s) (entry_from g (i.0 + 1)) (entry_kept g (i.0 + 1) b)

-- ---- steps end

-- a sector that is awaited is one that is left
pub awaited-left : (next : Option Awaited) → Kept next → is_some next ≡ true → 0 < left next
awaited-left (Some awaited.Superblock) k e = omega arith
awaited-left (Some (awaited.Root g)) k e = omega arith
awaited-left (Some (awaited.Entry g i)) k e = omega (arith, k.1)
awaited-left None k e = absurd (false≢true e)

entry-left : (g : Geometry) (i n : ℕ) → g.files ≤ i + n → left (entry_from g i) ≤ n
entry-left g i n h = go (ltb i g.files)
  where
    go : (t : Bool) → left (cond t (Some (awaited.Entry g (record { 0 = i }))) None) ≤ n
    go true = omega arith
    go false = omega arith

short-left : (s : List ℕ) (line : Line) (next : Option Awaited) (n : ℕ) → left next ≤ n → left (unless_short s (step line next)).next ≤ n
short-left s line next n h = go (ltb (length s) 512)
  where
    go : (b : Bool) → left (cond b (step (Refused 1) None) (step line next)).next ≤ n
    go true = omega arith
    go false = h

pub falls : (s : List ℕ) (next : Option Awaited) → Kept (step_on s next).next → left (step_on s next).next ≤ left next - 1
unfolding step_on
falls s (Some awaited.Superblock) k = go (is_done (listing_verdict (length s) (view s))) k
  where
    after : Bool → Step
    after b = cond b (step Nothing (Some (awaited.Root (geometry_in (view s superblock_at))))) (step (Refused (listing_verdict (length s) (view s)).number) None)

    go : (b : Bool) → Kept (after b).next → left (after b).next ≤ most_files + 1
    go true k = omega (arith, k.files-high)
    go false k = omega arith
falls s (Some (awaited.Root g)) k = short-left s Nothing (entry_from g 0) (g.files + 1 - 1) (entry-left g 0 (g.files + 1 - 1) (omega arith))
falls s (Some (awaited.Entry g i)) k =
    short-left s (entry_line g i.0 s) (entry_from g (i.0 + 1)) (g.files - i.0 - 1) (entry-left g (i.0 + 1) (g.files - i.0 - 1) (omega arith))
falls s None k = omega arith

-- all that a step's contract says, by what the step is and what it keeps
pub outcome : (s : List ℕ) (next : Option Awaited) (r : Step) → r ≡ step_on s next → Kept r.next
    → (r ≡ step_on s next) × (NameInSector r.line × (Kept r.next × (left r.next ≤ left next - 1)))
outcome s next r e k = (
  e,
  (
    subst (λ (x : Step). NameInSector x.line) (sym e) (line-within s next),
    (k, subst (λ (x : Step). left x.next ≤ left next - 1) (sym e) (falls s next (subst (λ (x : Step). Kept x.next) e k))),
  ),
)
