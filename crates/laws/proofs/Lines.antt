-- Laws of the listing's lines: an entry's line by its own sector is the one that the faults and the catalogue say. Assumes nothing.
use Prim.Native.Nat.{ℕ, ◌<◌}
use mathlib.Core.Path.{◌≡◌, refl, ap, ◌∙◌, sym}
use mathlib.Core.Bool.{Bool, true, false, cond}
use mathlib.Core.List.{List}
use mathlib.Core.Option.{Option, none, some}
use lib.ListN.{length}
use Rattle.model.specs.declared.Geometry.{Geometry}
use Rattle.model.specs.declared.Line.{Line}
use Rattle.model.specs.declared.Line.TheVariants.{Nothing, Fault, File}
use Rattle.model.specs.Bytes.{bytes_from}
use Rattle.model.specs.Geometry.{FileNumber, superblock_at, entry_at}
use Rattle.model.specs.Disk.{Disk}
use Rattle.model.specs.Edition.{layout_of}
use Rattle.model.specs.Superblock.{geometry_in}
use Rattle.model.specs.Entry.{Entry, entry_in, is_occupied, name_in}
use Rattle.model.specs.Catalogue.{catalogue_of}
use Rattle.model.specs.Faults.{holds_of, bad_mark, bad_entry, fault21, fault22}
use Rattle.model.specs.Lines.{entry_line, name_on}
use Rattle.laws.proofs.Catalogue.{slot-on}
use Rattle.laws.proofs.Entry.{length-name_in}

-- an occupied entry's line; a free one has none
abbrev pub file_line : ℕ → FileNumber → Option Entry → Line
file_line edition i none = Nothing
file_line edition i (some e) = File i e.size (layout_of edition).name (length e.name)

-- the faults 21 and 22 as check judges them, then the entry
pub line-is : (d : Disk) (i : FileNumber) → i < (geometry_in (d superblock_at)).files
    → entry_line (geometry_in (d superblock_at)) i (d (entry_at i))
    ≡ cond (fault21 d i) (Fault 21 i)
    (cond (fault22 (catalogue_of d) i) (Fault 22 i) (file_line (geometry_in (d superblock_at)).edition i ((catalogue_of d).entries i)))
unfolding entry_line fault21 fault22 catalogue_of
line-is d i l =
    let g = geometry_in (d superblock_at) in
    let e = entry_in g.edition (d (entry_at i)) in
    go e (bad_mark (d (entry_at i))) (is_occupied (d (entry_at i)))
    ∙ ap (λ (o : Option Entry). cond (bad_mark (d (entry_at i))) (Fault 21 i) (cond (holds_of o (λ x. bad_entry g x)) (Fault 22 i) (file_line g.edition i o))) (sym (slot-on d i l))
  where
    go : (e : Entry) (a b : Bool)
        → cond a (Fault 21 i) (cond b (cond (bad_entry (geometry_in (d superblock_at)) e) (Fault 22 i) (file_line (geometry_in (d superblock_at)).edition i (some e))) Nothing)
        ≡ cond a (Fault 21 i)
        (cond (holds_of (cond b (some e) none) (λ x. bad_entry (geometry_in (d superblock_at)) x)) (Fault 22 i)
        (file_line (geometry_in (d superblock_at)).edition i (cond b (some e) none)))
    go e true b = refl
    go e false true = refl
    go e false false = refl

-- the name on an entry's line is the entry's
pub name-is : (g : Geometry) (i : FileNumber) (s : List ℕ) → bad_mark s ≡ false → is_occupied s ≡ true → bad_entry g (entry_in g.edition s) ≡ false
    → name_on s (entry_line g i s) ≡ name_in g.edition s
unfolding entry_line entry_in name_in
name-is g i s a b c = rw (a, b, c) (ap (bytes_from s (layout_of g.edition).name) (length-name_in g.edition s))
