-- Laws of directory entries: the name's length, and what a renamed entry's sector and one of zeros say. Assumes nothing.
use Prim.Native.Nat.{ℕ, ◌+◌, ◌^◌, ◌≤◌, ◌<◌}
use mathlib.Core.Path.{◌≡◌, refl, ap, ◌∙◌}
use mathlib.Core.Bool.{true, false}
use mathlib.Core.List.{List, []}
use native.Mathlib.Omega.{arith}
use lib.Dec.{eqb, leb}
use lib.ListN.{length}
use borrow.Author.Tests.{lt-leb, lt-ltb, le-leb}
use Rattle.model.specs.Bytes.{Field, be_bytes, bytes_from, number_in, put, raised, zero_sector}
use Rattle.model.specs.Edition.{EditionLayout, layout_of}
use Rattle.model.specs.Entry.{entry_field, name_in, is_occupied, occupied_mark, bad_name, bad_new_name, renamed_entry_sector}
use Rattle.laws.proofs.Booleans.{and-false, or_left, or-none}
use Rattle.laws.proofs.Bytes.{length-bytes_from, length-put, number_same, number-apart, bytes_from-put-same, zero_field}
use Rattle.laws.proofs.Edition.{by-edition, name-ends, name-bound, fields-end}

pub length-name_in : (edition : ℕ) (s : List ℕ) → length (name_in edition s) ≡ number_in s (layout_of edition).name_length
unfolding name_in
length-name_in edition s = length-bytes_from s (layout_of edition).name (number_in s (layout_of edition).name_length)

pub long-name : (edition : ℕ) (n : List ℕ) → (layout_of edition).longest_name < length n → bad_name edition n ≡ true
unfolding bad_name
long-name edition n h = rw (lt-leb (length n) (layout_of edition).longest_name h, and-false)

-- a name that create or rename may give is one that a file may have
pub new-name-good : (edition : ℕ) (n : List ℕ) → bad_new_name edition n ≡ false → bad_name edition n ≡ false
unfolding bad_new_name
new-name-good edition n h = (or-none (bad_name edition n) _ h).0

-- ---- a renamed entry

-- a field reads on as it did, where bytes are stored behind it
kept-before : (s : List ℕ) (f : Field) (at : ℕ) (vs : List ℕ) → leb (f.offset + f.width) at ≡ true → number_in (put s at vs) f ≡ number_in s f
kept-before s f at vs h = number-apart s at vs f.offset f.width (or_left _ _ h)

module _ (edition : ℕ) (name : List ℕ) (time : ℕ) (s : List ℕ) where
  abbrev x : EditionLayout
  x = layout_of edition

  -- the version and the time stored; the name's length too; zeros in place of the name too
  abbrev raised_to : List ℕ
  raised_to = put s entry_field.version.offset (be_bytes entry_field.version.width (raised (number_in s entry_field.version)))

  abbrev timed : List ℕ
  timed = put raised_to x.change_time.offset (be_bytes x.change_time.width time)

  abbrev measured : List ℕ
  measured = put timed x.name_length.offset (be_bytes x.name_length.width (length name))

  abbrev cleared : List ℕ
  cleared = put measured x.name (bytes_from [] 0 x.longest_name)

  pub length-renamed_entry_sector : length (renamed_entry_sector edition name time s) ≡ length s
  unfolding renamed_entry_sector
  length-renamed_entry_sector = simp length-put

  pub renamed-occupied : is_occupied (renamed_entry_sector edition name time s) ≡ is_occupied s
  unfolding is_occupied renamed_entry_sector
  renamed-occupied =
      let mark = entry_field.mark in
      let named : leb 2 x.name ≡ true = by-edition (λ l. leb 2 l.name ≡ true) refl refl edition in
      let counted : leb 2 x.name_length.offset ≡ true = by-edition (λ l. leb 2 l.name_length.offset ≡ true) refl refl edition in
      let changed : leb 2 x.change_time.offset ≡ true = by-edition (λ l. leb 2 l.change_time.offset ≡ true) refl refl edition in
      ap (λ n. eqb n occupied_mark)
      (kept-before cleared mark x.name name named ∙ kept-before measured mark x.name (bytes_from [] 0 x.longest_name) named
      ∙ kept-before timed mark x.name_length.offset _ counted ∙ kept-before raised_to mark x.change_time.offset _ changed
      ∙ kept-before s mark entry_field.version.offset _ refl)

  pub renamed-name : length s ≡ 512 → length name ≤ (layout_of edition).longest_name → name_in edition (renamed_entry_sector edition name time s) ≡ name
  unfolding name_in renamed_entry_sector
  renamed-name l short =
      let before : leb (x.name_length.offset + x.name_length.width) x.name ≡ true =
      by-edition (λ l. leb (l.name_length.offset + l.name_length.width) l.name ≡ true) refl refl edition in
      let whole : length timed ≡ 512 = simp (length-put, l) in
      let wide : length cleared ≡ 512 = simp (length-put, l) in
      let few : length name < 65536 = omega (arith, name-bound edition) in
      let fits : length name < 256 ^ x.name_length.width = by-edition (λ l. length name < 256 ^ l.name_length.width) few few edition in
      let n : number_in (put cleared x.name name) x.name_length ≡ length name =
      kept-before cleared x.name_length x.name name before ∙ kept-before measured x.name_length x.name (bytes_from [] 0 x.longest_name) before
      ∙ number_same timed x.name_length.offset x.name_length.width (length name)
      (le-leb (x.name_length.offset + x.name_length.width) (length timed) (omega (arith, whole, (fields-end edition).name_length)))
      (lt-ltb (length name) (256 ^ x.name_length.width) fits) in
      ap (λ m. bytes_from (put cleared x.name name) x.name m) n
      ∙ bytes_from-put-same cleared x.name name (length name) refl (omega (arith, wide, short, name-ends edition))

-- ---- an entry of zeros

pub zero-free : is_occupied zero_sector ≡ false
unfolding is_occupied
zero-free = ap (λ n. eqb n occupied_mark) (zero_field entry_field.mark)
