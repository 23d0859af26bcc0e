-- Names and ids as keys of directory entries, and a hash of each. Nothing but speed hangs on what the hash is.
use Rattle.std.specs.Prelude.{ℕ, zero, suc, ◌+◌, ◌-◌, ◌*◌, ◌/◌, ◌%◌, ◌<◌, ◌≡◌, Bool, true, false, cond, ◌&&◌, ◌||◌, List, [], ◌∷◌, eqb, leb, ltb, length, get_or}
use Rattle.std.specs.Int.{w32, from_le_bytes}
use Rattle.model.specs.Bytes.{be_at, number_in}
use Rattle.model.specs.Search.{any_below, equal_bytes}
use Rattle.model.specs.Geometry.{root_at, entry_at}
use Rattle.model.specs.Disk.{Disk}
use Rattle.model.specs.Edition.{layout_of}
use Rattle.model.specs.Root.{root_field}
use Rattle.model.specs.Entry.{entry_field, is_occupied, name_in}
use Rattle.duplicates.specs.declared.Key.{Key}
use Rattle.duplicates.specs.declared.Key.TheVariants.{Name, Id}

-- two entries' sectors have the same key
abbrev pub same_key : Key → List ℕ → List ℕ → Bool
same_key (Name edition) a b = equal_bytes (name_in edition a) (name_in edition b)
same_key Id a b = eqb (number_in a entry_field.id) (number_in b entry_field.id)

-- the key ends in its sector
abbrev pub key_fits : Key → List ℕ → Bool
key_fits (Name edition) s = leb (number_in s (layout_of edition).name_length) (layout_of edition).longest_name
key_fits Id s = true

abbrev pub KeysFit : Key → Disk → ℕ → Type 0
KeysFit key d n = (j : ℕ) → j < n → is_occupied (d (entry_at j)) ≡ true → key_fits key (d (entry_at j)) ≡ true

-- "id is 0, the root's"; no name is reserved
abbrev pub is_reserved : Key → Disk → ℕ → Bool
is_reserved (Name edition) d i = false
is_reserved Id d i = eqb (number_in (d (entry_at i)) entry_field.id) 0 || eqb (number_in (d (entry_at i)) entry_field.id) (number_in (d root_at) root_field.id)

module _ (key : Key) (d : Disk) (i : ℕ) where
  -- entry j is occupied and has entry i's key; some entry below i; the fault, 23 of names and 24 of ids
  abbrev pub shares : ℕ → Bool
  shares j = is_occupied (d (entry_at j)) && same_key key (d (entry_at j)) (d (entry_at i))

  unfoldable pub is_repeated : Bool
  is_repeated = any_below shares i

  unfoldable pub is_faulty : Bool
  is_faulty = is_occupied (d (entry_at i)) && (is_reserved key d i || is_repeated)

-- ---- hashes, of 32 bits: a hash with one more number of 64 bits in it

abbrev pub mixed : ℕ → ℕ → ℕ
mixed h w = ((h + w / 4294967296) * 739982445 + w % 4294967296 * 1640531527) % 4294967296

-- four bytes as one number, the lowest first
unfoldable pub half_at : List ℕ → ℕ → ℕ
half_at s at = from_le_bytes w32 (get_or s at 0 ∷ (get_or s (at + 1) 0 ∷ (get_or s (at + 2) 0 ∷ (get_or s (at + 3) 0 ∷ []))))

-- what eight bytes add to a name's hash
unfoldable pub part_at : List ℕ → ℕ → ℕ → ℕ
part_at s at k = ((half_at s at + (k + 1) * 2654435769) % 4294967296) * ((half_at s (at + 4) + (k + 1) * 2246822519) % 4294967296) / 65536

-- of k words of eight bytes; of all words and the last eight bytes
unfoldable pub words_sum : List ℕ → ℕ → ℕ
words_sum s zero = 0
words_sum s (suc k) = words_sum s k + part_at s (8 * k) k

unfoldable pub name_hash : List ℕ → ℕ
name_hash s = mixed 0 (cond (ltb (length s) 8) (be_at s 0 (length s)) (words_sum s (length s / 8) + part_at s (length s - 8) (length s / 8)))

abbrev pub key_hash : Key → List ℕ → ℕ
key_hash (Name edition) s = name_hash (name_in edition s)
key_hash Id s = mixed 0 (number_in s entry_field.id % 4294967291)

-- where a key belongs: which of n buckets, and in the lowest 8 bits its tag
abbrev pub place_of : Key → ℕ → List ℕ → ℕ
place_of key n s = key_hash key s * n / 16777216
