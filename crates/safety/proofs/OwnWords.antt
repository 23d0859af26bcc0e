-- The ledger's own words say what the calls' say: what it looks up in its slots is what a call finds in its catalogue, and its conditions
-- and answers are a call's. Each call cites them at its head. Assumes nothing.
use Prim.Native.Nat.{ℕ, zero, suc, ◌+◌, ◌≤◌}
use mathlib.Core.Path.{◌≡◌, refl, sym, ap, ap₂, ◌∙◌}
use mathlib.Core.Logic.{◌≢◌}
use mathlib.Core.Bool.{Bool, true, false, cond, not, ◌&&◌, ◌||◌}
use mathlib.Core.List.{List, [], ◌∷◌, ◌++◌}
use mathlib.Core.Option.{Option, none, some}
use native.Mathlib.Omega.{arith}
use native.Mathlib.Decide.{dec_le}
use lib.Dec.{eqb, leb, ltb}
use lib.ListN.{length, get_or}
use borrow.Author.Tests.{eqb-true, eqb-false, ne_eqb, le-leb, lt-leb, lt-ltb, le-ltb}
use Rattle.std.specs.Prelude.{Some, None}
use Rattle.model.specs.Answers.{Verdict}
use Rattle.model.specs.Bytes.{bytes_from}
use Rattle.model.specs.Search.{Lowest, any_below, tabulate, is_at, index_of}
use Rattle.model.specs.Geometry.{FileNumber, ExtentNumber, reserve_extents}
use Rattle.model.specs.Edition.{first_edition, second_edition, layout_of, bad_time}
use Rattle.model.specs.Entry.{has_zero, bad_name, is_typable, bad_new_name}
use Rattle.model.specs.Catalogue.{entry_or, file_named, free_entry, free_extent, free_extents, lacks_reserve, entry_of, has_name, has_id, is_free}
use Rattle.model.specs.Refusals.{Conditions, verdict_of, is_done, refusal}
use Rattle.model.specs.Find.{name_conditions}
use Rattle.model.specs.Write.{touched_sectors}
use Rattle.model.specs.Resize.{zeros}
use Rattle.model.specs.Ledger.{Ledger, File, file_or, entry_of_file, holder_of, owner_from, catalogue, holds_name, holds_id}
use Rattle.model.specs.Ledger.{slot_named, free_slot, unheld_extent, unheld_extents, is_frozen, file_of, Answer, summarized, checked, found}
use Rattle.model.specs.Ledger.{listed, gave, changed, number_of, numbered, refused, Refusals, lowest, unfit_time, name_bound, unfit_name, unfit_new_name, spanned_sectors, zero_bytes, Step, answer_by}
use Rattle.laws.proofs.Booleans.{not-and, not-leb}
use Rattle.laws.proofs.Search.{first-ext, any_below-ext, count_below-ext}
use Rattle.laws.proofs.Staging.{free-count}

-- ---- what it looks up

pub name-if : (name : List ℕ) (s : Option File) → holds_name name s ≡ has_name name (entry_of_file s)
name-if name none = refl
name-if name (some f) = refl

id-if : (id : ℕ) (s : Option File) → holds_id id s ≡ has_id id (entry_of_file s)
id-if id none = refl
id-if id (some f) = refl

pub free-if : (s : Option File) → is_free s ≡ is_free (entry_of_file s)
free-if none = refl
free-if (some f) = refl

unheld-if : (L : Ledger) (e : ExtentNumber) (p : Lowest) → not (is_at p) ≡ is_free (owner_from L e p)
unheld-if L e (Some i) = refl
unheld-if L e None = refl

entry-if : (s : Option File) → (file_or s).entry ≡ entry_or (entry_of_file s)
entry-if none = refl
entry-if (some f) = refl

module _ (L : Ledger) where
  pub named-is : (name : List ℕ) → slot_named L name ≡ file_named (catalogue L) name
  unfolding slot_named file_named catalogue
  named-is name = first-ext _ _ L.geometry.files (λ i l. name-if name (L.slots i))

  pub slot_is : free_slot L ≡ free_entry (catalogue L)
  unfolding free_slot free_entry catalogue
  slot_is = first-ext _ _ L.geometry.files (λ i l. free-if (L.slots i))

  pub unheld-is : unheld_extent L ≡ free_extent (catalogue L)
  unfolding unheld_extent free_extent catalogue
  unheld-is = first-ext _ _ L.geometry.extents (λ e l. unheld-if L e (holder_of L e))

  pub unheld-count : unheld_extents L ≡ length (free_extents (catalogue L))
  unfolding unheld_extents catalogue
  unheld-count = count_below-ext _ _ L.geometry.extents (λ e l. unheld-if L e (holder_of L e)) ∙ sym (free-count (catalogue L) L.geometry.extents)

  pub frozen-is : is_frozen L ≡ lacks_reserve (catalogue L)
  unfolding is_frozen lacks_reserve catalogue
  frozen-is = ap (λ n. ltb n (reserve_extents L.geometry)) unheld-count

  pub few-is : leb (unheld_extents L) (reserve_extents L.geometry) ≡ ltb (length (free_extents (catalogue L))) (reserve_extents L.geometry + 1)
  few-is = ap (λ n. leb n (reserve_extents L.geometry)) unheld-count ∙ go (length (free_extents (catalogue L))) (reserve_extents L.geometry)
    where
      go : (n k : ℕ) → leb n k ≡ ltb n (k + 1)
      go n k = choose (dec_le n k)
        where
          choose : Dec (n ≤ k) → leb n k ≡ ltb n (k + 1)
          choose (yes h) = le-leb n k h ∙ sym (lt-ltb n (k + 1) (omega arith))
          choose (no h) = lt-leb n k (omega arith) ∙ sym (le-ltb n (k + 1) (omega arith))

  pub ids-is : (id : ℕ) → any_below (λ i. holds_id id (L.slots i)) L.geometry.files ≡ any_below (λ i. has_id id ((catalogue L).entries i)) L.geometry.files
  unfolding catalogue
  ids-is id = any_below-ext _ _ L.geometry.files (λ i l. id-if id (L.slots i))

  pub entry-is : (i : FileNumber) → (file_or (L.slots i)).entry ≡ entry_of (catalogue L) i
  unfolding entry_of catalogue
  entry-is i = entry-if (L.slots i)

  pub file-is : (name : List ℕ) → file_of L name ≡ file_or (L.slots (index_of (file_named (catalogue L) name)))
  unfolding file_of
  file-is name = ap (λ (p : Lowest). file_or (L.slots (index_of p))) (named-is name)

  pub entry_named : (name : List ℕ) → (file_of L name).entry ≡ entry_of (catalogue L) (index_of (file_named (catalogue L) name))
  entry_named name = ap (λ (f : File). f.entry) (file-is name) ∙ entry-is (index_of (file_named (catalogue L) name))

-- ---- its words

pub time-is : (L : Ledger) (time : ℕ) → unfit_time L time ≡ bad_time L.geometry.edition time
unfolding unfit_time bad_time
time-is L time = go (eqb L.geometry.edition 2)
  where
    go : (b : Bool) → cond b false (ltb 4294967295 time) ≡ (not b && ltb 4294967295 time)
    go true = refl
    go false = refl

pub bound-is : (L : Ledger) → name_bound L ≡ (layout_of L.geometry.edition).longest_name
unfolding layout_of
bound-is L = go (eqb L.geometry.edition 2)
  where
    go : (b : Bool) → cond b 468 476 ≡ (cond b second_edition first_edition).longest_name
    go true = refl
    go false = refl

pub name-is : (L : Ledger) (name : List ℕ) → unfit_name L name ≡ bad_name L.geometry.edition name
unfolding unfit_name bad_name has_zero
name-is L name =
    ap (λ (most : ℕ). eqb (length name) 0 || ltb most (length name) || any_below (λ k. eqb (get_or name k 0) 0) (length name)) (bound-is L)
    ∙ ap (λ (b : Bool). b || any_below (λ k. eqb (get_or name k 0) 0) (length name)) (bounds (length name) (layout_of L.geometry.edition).longest_name)
  where
    none-if : (n : ℕ) → eqb n 0 ≡ ltb n 1
    none-if zero = refl
    none-if (suc k) = ne_eqb (suc k) 0 (λ e. omega arith) ∙ sym (le-ltb (suc k) 1 (omega arith))

    bounds : (n most : ℕ) → (eqb n 0 || ltb most n) ≡ not (leb 1 n && leb n most)
    bounds n most = ap₂ (λ a b. a || b) (none-if n ∙ sym (not-leb 1 n)) (sym (not-leb n most)) ∙ sym (not-and (leb 1 n) (leb n most))

pub new-name-is : (L : Ledger) (name : List ℕ) → unfit_new_name L name ≡ bad_new_name L.geometry.edition name
unfolding unfit_new_name bad_new_name
new-name-is L name = ap₂ (λ a b. a || b) (name-is L name) (any_below-ext _ _ (length name) (λ k l. untyped (get_or name k 0)))
  where
    as-or : (a b c : Bool) → (not a || not b || c) ≡ not (a && b && not c)
    as-or true true true = refl
    as-or true true false = refl
    as-or true false c = refl
    as-or false b c = refl

    untyped : (b : ℕ) → (ltb b 33 || ltb 126 b || eqb b 47) ≡ not (is_typable b)
    untyped b = ap₂ (λ x y. x || y || eqb b 47) (sym (not-leb 33 b)) (sym (not-leb b 126)) ∙ as-or (leb 33 b) (leb b 126) (eqb b 47)

pub zeros-are : (n : ℕ) → zero_bytes n ≡ zeros n
unfolding zero_bytes tabulate bytes_from
zeros-are zero = refl
zeros-are (suc n) = ap (λ (l : List ℕ). l ++ (0 ∷ [])) (zeros-are n)

pub spanned-are : (offset n : ℕ) → n ≢ 0 → spanned_sectors offset n ≡ touched_sectors offset n
spanned-are offset n touches = omega arith

-- ---- its refusals

-- as a call's conditions
abbrev pub verdicts : Refusals → Conditions
verdicts [] = []
verdicts (r ∷ rs) = (r.0, refusal r.1) ∷ verdicts rs

-- of a call that only names a file
pub named-conditions : (L : Ledger) (name : List ℕ) → name_conditions (catalogue L) name ≡ verdicts ((unfit_name L name, 8) ∷ (not (is_at (slot_named L name)), 9) ∷ [])
unfolding name_conditions catalogue
named-conditions L name = rw (name-is L name, named-is L name)

pub verdict-is : (rs : Refusals) → verdict_of (verdicts rs) ≡ numbered (lowest rs)
unfolding verdict_of lowest
verdict-is [] = refl
verdict-is (r ∷ rs) = go r.0 (verdict-is rs)
  where
    go : (b : Bool) → verdict_of (verdicts rs) ≡ numbered (lowest rs) → cond b (refusal r.1) (verdict_of (verdicts rs)) ≡ numbered (cond b r.1 (lowest rs))
    go true e = refl
    go false e = e

-- a call's answer, P of whether its verdict is 0 and of the verdict, is the ledger's if it is the reply where it is done, and else refused
pub answers : (s : Step) (P : Bool → Verdict → Answer) → P true (numbered 0) ≡ s.reply → ((n : ℕ) → P false (numbered n) ≡ refused n s.reply)
    → (v : Verdict) → v ≡ verdict_of (verdicts s.refusals) → P (is_done v) v ≡ answer_by s
answers s P e f v is = ap (λ (w : Verdict). P (is_done w) w) (is ∙ verdict-is s.refusals) ∙ go (eqb (lowest s.refusals) 0) (lowest s.refusals) refl
  where
    go : (b : Bool) (n : ℕ) → eqb n 0 ≡ b → P b (numbered n) ≡ cond b s.reply (refused n s.reply)
    go true n q = ap (λ (k : ℕ). P true (numbered k)) (eqb-true n 0 q) ∙ e
    go false n q = f n

-- the number of its answer
number-refused : (n : ℕ) (a : Answer) → number_of (refused n a) ≡ n
number-refused n (summarized a) = refl
number-refused n (checked a) = refl
number-refused n (found a) = refl
number-refused n (listed a bytes) = refl
number-refused n (gave a bytes) = refl
number-refused n (changed a) = refl

-- its answer where no condition holds
pub reply-given : (s : Step) → number_of s.reply ≡ 0 → number_of (answer_by s) ≡ 0 → answer_by s ≡ s.reply
reply-given s e z = go (eqb (lowest s.refusals) 0) refl z
  where
    go : (b : Bool) → eqb (lowest s.refusals) 0 ≡ b → number_of (cond b s.reply (refused (lowest s.refusals) s.reply)) ≡ 0
        → cond b s.reply (refused (lowest s.refusals) s.reply) ≡ s.reply
    go true q k = refl
    go false q k = absurd (eqb-false (lowest s.refusals) 0 q (sym (number-refused (lowest s.refusals) s.reply) ∙ k))

pub number_is : (s : Step) → number_of s.reply ≡ 0 → number_of (answer_by s) ≡ (verdict_of (verdicts s.refusals)).number
number_is s e = go (eqb (lowest s.refusals) 0) refl ∙ sym (ap (λ (v : Verdict). v.number) (verdict-is s.refusals))
  where
    go : (b : Bool) → eqb (lowest s.refusals) 0 ≡ b → number_of (cond b s.reply (refused (lowest s.refusals) s.reply)) ≡ lowest s.refusals
    go true q = e ∙ sym (eqb-true _ 0 q)
    go false q = number-refused (lowest s.refusals) s.reply
