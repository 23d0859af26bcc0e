-- The verdicts of find, and of list and read once the entry is found, from the tests that the code makes. Assumes nothing.
use Prim.Native.Nat.{ℕ, ◌+◌, ◌*◌, ◌≤◌, ◌<◌}
use mathlib.Core.Path.{◌≡◌, refl, sym, ap, ◌∙◌}
use mathlib.Core.Bool.{Bool, true, false, cond, not, ◌&&◌}
use mathlib.Core.List.{List}
use mathlib.Core.Option.{Option, none, some}
use native.Mathlib.Omega.{arith}
use lib.Dec.{ltb}
use borrow.Author.Tests.{ltb-false, eqb-false, eq-eqb, ne_eqb}
use Rattle.model.specs.declared.Geometry.{Geometry}
use Rattle.std.specs.Prelude.{Some, None}
use Rattle.model.specs.Answers.{Verdict}
use Rattle.model.specs.Bytes.{number_in}
use Rattle.model.specs.Search.{is_at}
use Rattle.model.specs.Geometry.{superblock_at, entry_at}
use Rattle.model.specs.Disk.{Disk, view}
use Rattle.model.specs.Superblock.{geometry_in}
use Rattle.model.specs.Entry.{entry_field, Entry, entry_in, is_occupied, bad_name}
use Rattle.model.specs.Catalogue.{catalogue_of, file_named, entry_of}
use Rattle.model.specs.Refusals.{verdict_of, and_then, refusal, done}
use Rattle.model.specs.WriteList.{Plan, record_size, groups_for, list_length, is_planned}
use Rattle.model.specs.Find.{name_conditions}
use Rattle.model.specs.Read.{read_count}
use Rattle.model.specs.Results.{verdict_for}
use Rattle.model.specs.declared.Refusal.{Refusal}
use Rattle.laws.proofs.Named.{edition_on, entry-on}
use Rattle.laws.proofs.Results.{refused}
use Rattle.reading.specs.Given.{access_size, lent_verdict, file_verdict, planned}

-- ---- find: its conditions are tests of the code's

module _ (d : Disk) (name : List ℕ) where
  find-tests : verdict_of (name_conditions (catalogue_of d) name)
      ≡ cond (bad_name (edition_on d) name) (refusal 8) (cond (not (is_at (file_named (catalogue_of d) name))) (refusal 9) done)
  unfolding verdict_of name_conditions catalogue_of
  find-tests = refl

  pub find-bad : bad_name (edition_on d) name ≡ true → verdict_of (name_conditions (catalogue_of d) name) ≡ refusal 8
  find-bad h = find-tests ∙ rw h

  pub find-missing : bad_name (edition_on d) name ≡ false → file_named (catalogue_of d) name ≡ None → verdict_of (name_conditions (catalogue_of d) name) ≡ refusal 9
  find-missing h n = find-tests ∙ rw (h, n)

  pub find-done : (i : ℕ) → bad_name (edition_on d) name ≡ false → file_named (catalogue_of d) name ≡ Some i → verdict_of (name_conditions (catalogue_of d) name) ≡ done
  find-done i h n = find-tests ∙ rw (h, n)

-- ---- list and read, once the entry is found

pub refusing : (e : Refusal) → (verdict_for e).number ≡ 0 → ⊥
refusing e = eqb-false (verdict_for e).number 0 (refused e)

-- a test that did not refuse
pub passed : (b : Bool) (n : ℕ) (v : Verdict) → (cond b (refusal (n + 1)) v).number ≡ 0 → (b ≡ false) × (v.number ≡ 0)
passed true n v e = let z : n + 1 ≡ 0 = e in absurd (omega arith)
passed false n v e = (refl, e)

pub lent-enough : (needed room listed space : ℕ) → (lent_verdict needed room listed space).number ≡ 0 → (needed ≤ room) × (listed ≤ space)
unfolding lent_verdict verdict_of
lent-enough needed room listed space e =
    let a = passed (ltb room needed) 13 (cond (ltb space listed) (refusal 14) done) e in
    (ltb-false room needed a.0, ltb-false space listed (passed (ltb space listed) 13 done a.1).0)

pub file-enough : (size offset asked room listed space : ℕ) → (file_verdict size offset asked room listed space).number ≡ 0
    → (offset ≤ size) × (read_count size offset asked ≤ room) × (listed ≤ space)
unfolding file_verdict
file-enough size offset asked room listed space e =
    let a = passed (ltb size offset) 11 (lent_verdict (read_count size offset asked) room listed space) e in
    let b = lent-enough (read_count size offset asked) room listed space a.1 in
    (ltb-false size offset a.0, b.0, b.1)

-- the list's 14 stands behind the output's, and there is no 13: no plan where the reserve lacks
pub lent-last : (a b l : Bool) (p : Plan) → cond a (refusal 14) (cond b (refusal 14) done)
    ≡ and_then (cond a (refusal 14) done) (cond (is_planned (cond l none (some p)) && l) (refusal 13) (cond b (refusal 14) done))
lent-last true b l p = refl
lent-last false b true p = refl
lent-last false b false p = refl

-- how long the list is
pub access-needs : (d : Disk) (l : Bool) (p : Plan) → list_length (groups_for d (some p)) ≡ 9 * record_size → list_length (groups_for d (cond l none (some p))) ≡ access_size l
unfolding groups_for
access-needs d true p e = refl
access-needs d false p e = e

pub planned-refused : (v : Verdict) (p : Option Plan) → (v.number ≡ 0 → ⊥) → planned v p ≡ record { verdict = v; plan = none }
planned-refused v p h = rw (ne_eqb v.number 0 h)

pub planned-done : (v : Verdict) (p : Option Plan) → v.number ≡ 0 → planned v p ≡ record { verdict = v; plan = p }
planned-done v p h = rw (eq-eqb v.number 0 h)

-- ---- what the code reads by is the catalogue's

pub files-is : (img : List ℕ) (g : Geometry) → g ≡ geometry_in (view img superblock_at) → (catalogue_of (view img)).geometry.files ≡ g.files
unfolding catalogue_of
files-is img g is = rw is

pub entry-is : (img : List ℕ) (g : Geometry) (i : ℕ) → g ≡ geometry_in (view img superblock_at) → i < g.files → is_occupied (view img (entry_at i)) ≡ true
    → entry_in g.edition (view img (entry_at i)) ≡ entry_of (catalogue_of (view img)) i
entry-is img g i is low occupied =
    let f = ap (λ (x : Geometry). x.files) is in
    ap (λ (x : Geometry). entry_in x.edition (view img (entry_at i))) is ∙ sym (entry-on (view img) i (omega arith) occupied)

pub size_is : (img : List ℕ) (g : Geometry) (i : ℕ) → g ≡ geometry_in (view img superblock_at) → i < g.files → is_occupied (view img (entry_at i)) ≡ true
    → number_in (view img (entry_at i)) entry_field.size ≡ (entry_of (catalogue_of (view img)) i).size
unfolding entry_in
size_is img g i is low occupied = ap (λ (y : Entry). y.size) (entry-is img g i is low occupied)
