-- T-08, wide times: "Superblock version 2: in an entry access time 8 bytes at 26, change time 8 at 34, name length at 42, name at 44, at most
-- 468 bytes; in the root access time 8 bytes at 16, change time at 24. All else as in version 1." One value says where these stand, and
-- every definition, contract and proof reads by it; what stands alike in both editions is said in `Entry` and `Root`.
use Rattle.std.specs.Prelude.{ℕ, Bool, cond, not, ◌&&◌, ◌||◌, eqb, ltb}
use Rattle.model.specs.Bytes.{Field, field}

pub record EditionLayout : Type 0 where
  pub access_time : Field
  pub change_time : Field
  pub name_length : Field
  pub name : ℕ
  pub longest_name : ℕ
  pub root_access_time : Field
  pub root_change_time : Field

-- "26 access time (4), 30 change time (4), 34 name length (2), 36 name"; "name length not 1 to 476"; root: "16 access time (4), 20 change time (4)"
abbrev pub first_edition : EditionLayout
first_edition = record {
  access_time = field 26 4;
  change_time = field 30 4;
  name_length = field 34 2;
  name = 36;
  longest_name = 476;
  root_access_time = field 16 4;
  root_change_time = field 20 4;
}

abbrev pub second_edition : EditionLayout
second_edition = record {
  access_time = field 26 8;
  change_time = field 34 8;
  name_length = field 42 2;
  name = 44;
  longest_name = 468;
  root_access_time = field 16 8;
  root_change_time = field 24 8;
}

-- the edition is the superblock's version, 1 or 2
unfoldable pub layout_of : ℕ → EditionLayout
layout_of edition = cond (eqb edition 2) second_edition first_edition

unfoldable pub is_edition : ℕ → Bool
is_edition edition = eqb edition 1 || eqb edition 2

-- "Every time argument is 64 bits wide; on version 1 a time above 4,294,967,295 is a bad argument, 8, in every call that takes one, also
-- where nothing would be stored."
unfoldable pub bad_time : ℕ → ℕ → Bool
bad_time edition time = not (eqb edition 2) && ltb 4294967295 time
