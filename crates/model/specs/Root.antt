-- "Root: 0 version (4), 4 id (8), 12 mode (4)": alike in both editions. Its times stand where the edition's layout says.
use Rattle.std.specs.Prelude.{ℕ, List, [], ◌∷◌}
use Rattle.model.specs.Bytes.{Field, field, number_in, set_to, with_stores, raised, zero_sector}
use Rattle.model.specs.Edition.{layout_of}

pub record RootLayout : Type 0 where
  pub version : Field
  pub id : Field
  pub mode : Field

abbrev pub root_field : RootLayout
root_field = record { version = field 0 4; id = field 4 8; mode = field 12 4 }

-- what the root says
pub record Root : Type 0 where
  pub version : ℕ
  pub id : ℕ
  pub mode : ℕ
  pub access_time : ℕ
  pub change_time : ℕ

unfoldable pub root_in : ℕ → List ℕ → Root
root_in edition s = record {
  version = number_in s root_field.version;
  id = number_in s root_field.id;
  mode = number_in s root_field.mode;
  access_time = number_in s (layout_of edition).root_access_time;
  change_time = number_in s (layout_of edition).root_change_time;
}

-- create's and delete's: "Root: version up, change time set"
unfoldable pub updated_root_sector : ℕ → ℕ → List ℕ → List ℕ
updated_root_sector edition time s =
    with_stores s (set_to root_field.version (raised (number_in s root_field.version)) ∷ set_to (layout_of edition).root_change_time time ∷ [])

-- T-02, list's: "the access time set and the version unchanged"; all else stays
unfoldable pub accessed_root_sector : ℕ → ℕ → List ℕ → List ℕ
accessed_root_sector edition time s = with_stores s (set_to (layout_of edition).root_access_time time ∷ [])

-- format's: "root (version 0, given id, mode and time, for both times)"; "unused bytes are zero"
unfoldable pub new_root_sector : ℕ → ℕ → ℕ → ℕ → List ℕ
new_root_sector edition id mode time =
    with_stores zero_sector
    (set_to root_field.id id ∷ set_to root_field.mode mode ∷ set_to (layout_of edition).root_access_time time ∷ set_to (layout_of edition).root_change_time time ∷ [])
