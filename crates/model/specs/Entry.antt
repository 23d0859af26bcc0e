-- "Directory entry: 0 mark (2; 0 free, 65535 occupied), 2 size (8), 10 version (4), 14 id (8), 22 mode (4)": alike in both editions. Its
-- times and its name stand where the edition's layout says.
use Rattle.std.specs.Prelude.{ℕ, Bool, ◌||◌, not, ◌&&◌, List, [], ◌∷◌, eqb, leb, length, get_or}
use Rattle.model.specs.declared.Fields.{Fields}
use Rattle.model.specs.Bytes.{Field, field, number_in, set_to, with_stores, raised, bytes_from, zero_sector}
use Rattle.model.specs.Search.{any_below}
use Rattle.model.specs.Edition.{layout_of}

pub record EntryLayout : Type 0 where
  pub mark : Field
  pub size : Field
  pub version : Field
  pub id : Field
  pub mode : Field

abbrev pub entry_field : EntryLayout
entry_field = record { mark = field 0 2; size = field 2 8; version = field 10 4; id = field 14 8; mode = field 22 4 }

abbrev pub free_mark : ℕ
free_mark = 0

abbrev pub occupied_mark : ℕ
occupied_mark = 65535

-- what an occupied entry says
pub record Entry : Type 0 where
  pub size : ℕ
  pub version : ℕ
  pub id : ℕ
  pub mode : ℕ
  pub access_time : ℕ
  pub change_time : ℕ
  pub name : List ℕ

-- "the bytes that start at 36 and end with the name", on version 2 at 44
unfoldable pub name_in : ℕ → List ℕ → List ℕ
name_in edition s = bytes_from s (layout_of edition).name (number_in s (layout_of edition).name_length)

unfoldable pub entry_in : ℕ → List ℕ → Entry
entry_in edition s = record {
  size = number_in s entry_field.size;
  version = number_in s entry_field.version;
  id = number_in s entry_field.id;
  mode = number_in s entry_field.mode;
  access_time = number_in s (layout_of edition).access_time;
  change_time = number_in s (layout_of edition).change_time;
  name = name_in edition s;
}

unfoldable pub is_occupied : List ℕ → Bool
is_occupied s = eqb (number_in s entry_field.mark) occupied_mark

-- the fields that find and list give
unfoldable pub fields_of : Entry → Fields
fields_of e = record {
  size = e.size;
  version = e.version;
  id = e.id;
  mode = e.mode;
  access_time = e.access_time;
  change_time = e.change_time;
  name_length = length e.name;
}

abbrev pub no_fields : Fields
no_fields = record { size = 0; version = 0; id = 0; mode = 0; access_time = 0; change_time = 0; name_length = 0 }

unfoldable pub has_zero : List ℕ → Bool
has_zero n = any_below (λ k. eqb (get_or n k 0) 0) (length n)

-- "name length not 1 to 476 or containing 0"; T-08: "Fault 22 and refusal 8 use 468 on version 2"
unfoldable pub bad_name : ℕ → List ℕ → Bool
bad_name edition n = not (leb 1 (length n) && leb (length n) (layout_of edition).longest_name) || has_zero n

-- T-07: "Create and rename accept only bytes 33 to 126 without the slash; others get 8"; the name that a file already has keeps the former rule
abbrev pub is_typable : ℕ → Bool
is_typable b = leb 33 b && leb b 126 && not (eqb b 47)

unfoldable pub bad_new_name : ℕ → List ℕ → Bool
bad_new_name edition n = bad_name edition n || any_below (λ k. not (is_typable (get_or n k 0))) (length n)

-- create's: "size 0, version 0, given id, mode and time (both times), bytes after the name zero"
unfoldable pub new_entry_sector : ℕ → List ℕ → ℕ → ℕ → ℕ → List ℕ
new_entry_sector edition name id mode time =
    with_stores zero_sector
    (set_to entry_field.mark occupied_mark ∷ set_to entry_field.id id ∷ set_to entry_field.mode mode ∷ set_to (layout_of edition).access_time time
    ∷ set_to (layout_of edition).change_time time ∷ set_to (layout_of edition).name_length (length name) ∷ ((layout_of edition).name, name) ∷ [])

-- write's and resize's: the size given, "version up, change time set"
unfoldable pub updated_entry_sector : ℕ → ℕ → ℕ → List ℕ → List ℕ
updated_entry_sector edition size time s =
    with_stores s
    (set_to entry_field.size size ∷ set_to entry_field.version (raised (number_in s entry_field.version))
    ∷ set_to (layout_of edition).change_time time ∷ [])

-- rename's: "a new name (bytes after it zero), raises its version, sets its change time"; all else stays
unfoldable pub renamed_entry_sector : ℕ → List ℕ → ℕ → List ℕ → List ℕ
renamed_entry_sector edition name time s =
    with_stores s
    (set_to entry_field.version (raised (number_in s entry_field.version)) ∷ set_to (layout_of edition).change_time time
    ∷ set_to (layout_of edition).name_length (length name) ∷ ((layout_of edition).name, bytes_from [] 0 (layout_of edition).longest_name)
    ∷ ((layout_of edition).name, name) ∷ [])

-- T-02, read's: "the access time set and the version unchanged"; all else stays
unfoldable pub accessed_entry_sector : ℕ → ℕ → List ℕ → List ℕ
accessed_entry_sector edition time s = with_stores s (set_to (layout_of edition).access_time time ∷ [])
