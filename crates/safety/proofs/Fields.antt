-- What the updated and the new sectors say: root, superblock, entry, and a sector of zeros. Assumes nothing.
use Prim.Native.Nat.{ℕ, ◌^◌, ◌≤◌, ◌<◌}
use mathlib.Core.Path.{◌≡◌, refl, ap, ap₂, ◌∙◌}
use mathlib.Core.Bool.{Bool, true, false, not, ◌&&◌, ◌||◌}
use mathlib.Core.List.{List, [], ◌∷◌}
use native.Mathlib.Omega.{arith}
use native.Mathlib.Nat.{mod-lt}
use lib.Dec.{eqb, leb, lit<}
use lib.ListN.{length, get_or, replicate, get_or-replicate}
use Rattle.model.specs.declared.Geometry.{Geometry}
use Rattle.model.specs.Geometry.{extent_sectors}
use Rattle.model.specs.Bytes.{Field, be_bytes, bytes_from, number_in, put, with_stores, raised, zero_sector, ones_sector}
use Rattle.model.specs.Search.{all_below, equal_bytes}
use Rattle.model.specs.Superblock.{superblock_field, magic, new_superblock, geometry_in, journal_length, is_volume}
use Rattle.model.specs.Edition.{EditionLayout, first_edition, second_edition, layout_of, is_edition}
use Rattle.model.specs.Root.{root_field, root_in, updated_root_sector, accessed_root_sector, new_root_sector}
use Rattle.model.specs.Entry.{entry_field, name_in, entry_in, is_occupied, bad_name, new_entry_sector, free_mark, occupied_mark, updated_entry_sector, renamed_entry_sector, accessed_entry_sector}
use Rattle.model.specs.Ledger.{new_entry, updated_entry, renamed_entry, accessed_entry, updated_root, accessed_root, new_root}
use Rattle.laws.proofs.Bytes.{length-put, length-zero_sector, number_same, bytes-other, bytes_from-put-same, zeros-at, zero_field}
use Rattle.laws.proofs.Entry.{renamed-name}
use Rattle.laws.proofs.Edition.{by-edition, name-ends, name-bound, FitsTimes, edition-small}
use Rattle.laws.proofs.Named.{short-name}
use Rattle.safety.proofs.Stores.{Numbers, stores_of, apart_from, apart_in, end_in, all_apart, all_end, Holds, Alike, alike_then, kept, kept-all, kept-before, kept-before-all, kept-behind, stored}

-- ---- sectors of one byte

get_or-all : (n x i : ℕ) → i < n → get_or (replicate n x) i 0 ≡ x
get_or-all n x i h = get_or-replicate {A = ℕ} n i x 0 h

pub get_or-zeros : (i : ℕ) → get_or zero_sector i 0 ≡ 0
unfolding zero_sector
get_or-zeros i = zeros-at 512 i

pub get_or-ones : (i : ℕ) → i < 512 → get_or ones_sector i 0 ≡ 255
unfolding ones_sector
get_or-ones i h = get_or-all 512 255 i h

-- a test of an edition's layout that holds of both
lies : (test : EditionLayout → Bool) → test first_edition ≡ true → test second_edition ≡ true → (edition : ℕ) → test (layout_of edition) ≡ true
lies test = by-edition (λ l. test l ≡ true)

-- the length of a name fits its field
length-fits : (edition : ℕ) (name : List ℕ) → length name ≤ (layout_of edition).longest_name → length name < 256 ^ (layout_of edition).name_length.width
length-fits edition name h =
    let n : length name < 65536 = omega (arith, h, name-bound edition) in
    by-edition (λ x. length name < 256 ^ x.name_length.width) n n edition

-- ---- the root

module _ (edition : ℕ) where
  pub length-updated_root_sector : (time : ℕ) (s : List ℕ) → length (updated_root_sector edition time s) ≡ length s
  unfolding updated_root_sector
  length-updated_root_sector time s = simp length-put

  pub root-updated : (time : ℕ) (s : List ℕ) → length s ≡ 512 → FitsTimes (layout_of edition) time
      → root_in edition (updated_root_sector edition time s) ≡ updated_root time (root_in edition s)
  unfolding root_in updated_root_sector updated_root
  root-updated time s l h =
      let ns : EditionLayout → Numbers = λ x. (root_field.version, raised (number_in s root_field.version)) ∷ (x.root_change_time, time) ∷ [] in
      let others : EditionLayout → List Field = λ x. root_field.id ∷ root_field.mode ∷ x.root_access_time ∷ [] in
      let x = layout_of edition in
      let r : Holds (with_stores s (stores_of (ns x))) (ns x) =
      stored s 512 (ns x) l (lies (λ y. apart_in (ns y)) refl refl edition) (lies (λ y. end_in 512 (ns y)) refl refl edition) (mod-lt _ (lit< tt), (h.root_change_time, tt)) in
      let k = kept-all s (others x) (ns x) (lies (λ y. all_apart (others y) (ns y)) refl refl edition) in
      λ j. record { version = r.0 j; id = k.0 j; mode = k.1.0 j; access_time = k.1.1.0 j; change_time = r.1.0 j }

  pub length-accessed_root_sector : (time : ℕ) (s : List ℕ) → length (accessed_root_sector edition time s) ≡ length s
  unfolding accessed_root_sector
  length-accessed_root_sector time s = simp length-put

  pub root-accessed : (time : ℕ) (s : List ℕ) → length s ≡ 512 → FitsTimes (layout_of edition) time
      → root_in edition (accessed_root_sector edition time s) ≡ accessed_root time (root_in edition s)
  unfolding root_in accessed_root_sector accessed_root
  root-accessed time s l h =
      let ns : EditionLayout → Numbers = λ x. (x.root_access_time, time) ∷ [] in
      let others : EditionLayout → List Field = λ x. root_field.version ∷ root_field.id ∷ root_field.mode ∷ x.root_change_time ∷ [] in
      let x = layout_of edition in
      let r : Holds (with_stores s (stores_of (ns x))) (ns x) =
      stored s 512 (ns x) l (lies (λ y. apart_in (ns y)) refl refl edition) (lies (λ y. end_in 512 (ns y)) refl refl edition) (h.root_access_time, tt) in
      let k = kept-all s (others x) (ns x) (lies (λ y. all_apart (others y) (ns y)) refl refl edition) in
      λ j. record { version = k.0 j; id = k.1.0 j; mode = k.1.1.0 j; access_time = r.0 j; change_time = k.1.1.1.0 j }

  pub length-new_root_sector : (id mode time : ℕ) → length (new_root_sector edition id mode time) ≡ 512
  unfolding new_root_sector
  length-new_root_sector id mode time = simp (length-put, length-zero_sector)

  pub root-new : (id mode time : ℕ) → id < 2 ^ 64 → mode < 2 ^ 32 → FitsTimes (layout_of edition) time
      → root_in edition (new_root_sector edition id mode time) ≡ new_root id mode time
  unfolding root_in new_root_sector
  root-new id mode time h k l =
      let ns : EditionLayout → Numbers = λ x. (root_field.id, id) ∷ (root_field.mode, mode) ∷ (x.root_access_time, time) ∷ (x.root_change_time, time) ∷ [] in
      let x = layout_of edition in
      let r : Holds (with_stores zero_sector (stores_of (ns x))) (ns x) =
      stored zero_sector 512 (ns x) length-zero_sector (lies (λ y. apart_in (ns y)) refl refl edition) (lies (λ y. end_in 512 (ns y)) refl refl edition)
      (h, (k, (l.root_access_time, (l.root_change_time, tt)))) in
      let v = kept zero_sector root_field.version (ns x) (lies (λ y. apart_from root_field.version (ns y)) refl refl edition) ∙ zero_field root_field.version in
      λ j. record { version = v j; id = r.0 j; mode = r.1.0 j; access_time = r.1.1.0 j; change_time = r.1.1.1.0 j }

-- ---- the superblock

pub length-new_superblock : (g : Geometry) (n : ℕ) → length (new_superblock g n) ≡ 512
unfolding new_superblock
length-new_superblock g n = simp (length-put, length-zero_sector)

-- the numbers before the magic, and those behind it
module _ (g : Geometry) (n : ℕ) (f : g.files < 65536) (e : g.extents < 65536) (s : extent_sectors g < 2 ^ 32) (v : is_edition g.edition ≡ true) (h : n < 65536) where
  abbrev shape : Numbers
  shape = (superblock_field.files, g.files) ∷ (superblock_field.extents, g.extents) ∷ (superblock_field.extent_sectors, extent_sectors g) ∷ []

  abbrev marks : Numbers
  marks = (superblock_field.version, g.edition) ∷ (superblock_field.journal_length, n) ∷ []

  abbrev front : List ℕ
  front = with_stores zero_sector (stores_of shape)

  abbrev signed : List ℕ
  signed = put front superblock_field.magic magic

  length_front : length front ≡ 512
  length_front = simp (length-put, length-zero_sector)

  shaped : Holds front shape
  shaped = stored zero_sector 512 shape length-zero_sector refl refl (f, (e, (s, tt)))

  marked : Holds (with_stores signed (stores_of marks)) marks
  marked = stored signed 512 marks (length-put front 8 magic ∙ length_front) refl refl (edition-small g.edition v, (h, tt))

  pub new_superblock-geometry : geometry_in (new_superblock g n) ≡ g
  unfolding geometry_in new_superblock
  new_superblock-geometry =
      let a = kept signed superblock_field.files marks refl ∙ kept-before front superblock_field.magic magic superblock_field.files refl ∙ shaped.0 in
      let b = kept signed superblock_field.extents marks refl ∙ kept-before front superblock_field.magic magic superblock_field.extents refl ∙ shaped.1.0 in
      let c = kept signed superblock_field.extent_sectors marks refl ∙ kept-before front superblock_field.magic magic superblock_field.extent_sectors refl ∙ shaped.1.1.0 in
      λ j. record { files = a j; extents = b j; extent_sectors = c j; edition = marked.0 j }

  pub new_superblock-length : journal_length (new_superblock g n) ≡ n
  unfolding journal_length new_superblock
  new_superblock-length = marked.1.0

  pub new_superblock-volume : is_volume (new_superblock g n) ≡ true
  unfolding is_volume new_superblock equal_bytes all_below
  new_superblock-volume =
      let kind : bytes_from (new_superblock g n) superblock_field.magic 8 ≡ magic =
      bytes-other (put signed 16 (be_bytes 2 g.edition)) 18 2 n 8 8 refl ∙ bytes-other signed 16 2 g.edition 8 8 refl ∙ bytes_from-put-same front 8 magic 8 refl (omega (arith, length_front)) in
      ap₂ (λ a b. equal_bytes a magic && is_edition b) kind marked.0 ∙ v

-- ---- a new entry

module _ (edition : ℕ) (name : List ℕ) (id mode time : ℕ) where
  abbrev rest : EditionLayout → Numbers
  rest x = (entry_field.id, id) ∷ (entry_field.mode, mode) ∷ (x.access_time, time) ∷ (x.change_time, time) ∷ (x.name_length, length name) ∷ []

  abbrev given : EditionLayout → Numbers
  given x = (entry_field.mark, occupied_mark) ∷ rest x

  -- the fields of an entry, in the order in which they stand
  abbrev fields : EditionLayout → List Field
  fields x =
      entry_field.mark ∷ entry_field.size ∷ entry_field.version ∷ entry_field.id ∷ entry_field.mode ∷ x.access_time ∷ x.change_time ∷ x.name_length ∷ []

  abbrev nameless : List ℕ
  nameless = with_stores zero_sector (stores_of (given (layout_of edition)))

  pub length-new_entry : length (new_entry_sector edition name id mode time) ≡ 512
  unfolding new_entry_sector
  length-new_entry = simp (length-put, length-zero_sector)

  -- every field ends before the name
  before : Alike (put nameless (layout_of edition).name name) nameless (fields (layout_of edition))
  before = kept-before-all nameless (layout_of edition).name name (fields (layout_of edition)) (lies (λ x. all_end (fields x) x.name) refl refl edition)

  pub new-occupied : is_occupied (new_entry_sector edition name id mode time) ≡ true
  unfolding is_occupied new_entry_sector
  new-occupied =
      let mark =
      before.0
      ∙ kept (put zero_sector 0 (be_bytes 2 occupied_mark)) entry_field.mark (rest (layout_of edition)) (lies (λ x. apart_from entry_field.mark (rest x)) refl refl edition)
      ∙ number_same zero_sector 0 2 occupied_mark (ap (leb 2) length-zero_sector) refl in
      ap (λ n. eqb n occupied_mark) mark

  module _ (good : bad_name edition name ≡ false) (hi : id < 2 ^ 64) (hm : mode < 2 ^ 32) (ht : FitsTimes (layout_of edition) time) where
    short : length name ≤ (layout_of edition).longest_name
    short = short-name edition name good

    filled : Holds nameless (given (layout_of edition))
    filled =
        stored zero_sector 512 (given (layout_of edition)) length-zero_sector (lies (λ x. apart_in (given x)) refl refl edition) (lies (λ x. end_in 512 (given x)) refl refl edition)
        (lit< tt, (hi, (hm, (ht.access_time, (ht.change_time, (length-fits edition name short, tt))))))

    new-name : name_in edition (new_entry_sector edition name id mode time) ≡ name
    unfolding name_in new_entry_sector
    new-name =
        let l : length nameless ≡ 512 = simp (length-put, length-zero_sector) in
        let n = before.1.1.1.1.1.1.1.0 ∙ filled.1.1.1.1.1.0 in
        let at = (layout_of edition).name in
        ap (λ k. bytes_from (put nameless at name) at k) n ∙ bytes_from-put-same nameless at name (length name) refl (omega (arith, short, name-ends edition))

    pub new-entry : entry_in edition (new_entry_sector edition name id mode time) ≡ new_entry name id mode time
    unfolding entry_in new_entry new_entry_sector
    new-entry =
        let unset = kept-all zero_sector (entry_field.size ∷ entry_field.version ∷ []) (given (layout_of edition))
        (lies (λ x. all_apart (entry_field.size ∷ entry_field.version ∷ []) (given x)) refl refl edition) in
        let p1 = before.1.0 ∙ unset.0 ∙ zero_field entry_field.size in
        let p2 = before.1.1.0 ∙ unset.1.0 ∙ zero_field entry_field.version in
        let p3 = before.1.1.1.0 ∙ filled.1.0 in
        let p4 = before.1.1.1.1.0 ∙ filled.1.1.0 in
        let p5 = before.1.1.1.1.1.0 ∙ filled.1.1.1.0 in
        let p6 = before.1.1.1.1.1.1.0 ∙ filled.1.1.1.1.0 in
        λ j. record { size = p1 j; version = p2 j; id = p3 j; mode = p4 j; access_time = p5 j; change_time = p6 j; name = new-name j }

-- ---- an updated entry, as write and resize leave it

module _ (edition size time : ℕ) (s : List ℕ) where
  abbrev changed : EditionLayout → Numbers
  changed x = (entry_field.size, size) ∷ (entry_field.version, raised (number_in s entry_field.version)) ∷ (x.change_time, time) ∷ []

  -- the fields that stay
  abbrev others : EditionLayout → List Field
  others x = entry_field.mark ∷ entry_field.id ∷ entry_field.mode ∷ x.access_time ∷ x.name_length ∷ []

  abbrev updated : List ℕ
  updated = with_stores s (stores_of (changed (layout_of edition)))

  stay : Alike updated s (others (layout_of edition))
  stay = kept-all s (others (layout_of edition)) (changed (layout_of edition)) (lies (λ x. all_apart (others x) (changed x)) refl refl edition)

  pub length-updated_entry_sector : length (updated_entry_sector edition size time s) ≡ length s
  unfolding updated_entry_sector
  length-updated_entry_sector = simp length-put

  pub updated-occupied : is_occupied (updated_entry_sector edition size time s) ≡ is_occupied s
  unfolding is_occupied updated_entry_sector
  updated-occupied = ap (λ n. eqb n occupied_mark) stay.0

  module _ (l : length s ≡ 512) (hs : size < 2 ^ 64) (ht : FitsTimes (layout_of edition) time) where
    updated-name : name_in edition (updated_entry_sector edition size time s) ≡ name_in edition s
    unfolding name_in updated_entry_sector
    updated-name =
        ap (λ k. bytes_from updated (layout_of edition).name k) stay.1.1.1.1.0
        ∙ kept-behind s (layout_of edition).name (number_in s (layout_of edition).name_length) (changed (layout_of edition)) (lies (λ x. end_in x.name (changed x)) refl refl edition)

    pub updated-entry : entry_in edition (updated_entry_sector edition size time s) ≡ updated_entry size time (entry_in edition s)
    unfolding entry_in updated_entry updated_entry_sector
    updated-entry =
        let r : Holds updated (changed (layout_of edition)) =
        stored s 512 (changed (layout_of edition)) l (lies (λ x. apart_in (changed x)) refl refl edition) (lies (λ x. end_in 512 (changed x)) refl refl edition)
        (hs, (mod-lt _ (lit< tt), (ht.change_time, tt))) in
        λ j. record {
          size = r.0 j;
          version = r.1.0 j;
          id = stay.1.0 j;
          mode = stay.1.1.0 j;
          access_time = stay.1.1.1.0 j;
          change_time = r.1.1.0 j;
          name = updated-name j;
        }

-- ---- a renamed entry

module _ (edition : ℕ) (name : List ℕ) (time : ℕ) (s : List ℕ) where
  abbrev renewed : EditionLayout → Numbers
  renewed x = (entry_field.version, raised (number_in s entry_field.version)) ∷ (x.change_time, time) ∷ (x.name_length, length name) ∷ []

  -- the fields that stay
  abbrev retained : EditionLayout → List Field
  retained x = entry_field.mark ∷ entry_field.size ∷ entry_field.id ∷ entry_field.mode ∷ x.access_time ∷ []

  -- the sector but for the name, and with zeros in its place
  abbrev unnamed : List ℕ
  unnamed = with_stores s (stores_of (renewed (layout_of edition)))

  abbrev blank : List ℕ
  blank = bytes_from [] 0 (layout_of edition).longest_name

  abbrev cleared : List ℕ
  cleared = put unnamed (layout_of edition).name blank

  -- fields that end before the name read what they do without the name
  before-name : (fs : List Field) → all_end fs (layout_of edition).name ≡ true → Alike (put cleared (layout_of edition).name name) unnamed fs
  before-name fs h =
      alike_then (put cleared (layout_of edition).name name) cleared unnamed fs
      (kept-before-all cleared (layout_of edition).name name fs h) (kept-before-all unnamed (layout_of edition).name blank fs h)

  remain : Alike (put cleared (layout_of edition).name name) s (retained (layout_of edition))
  remain =
      alike_then (put cleared (layout_of edition).name name) unnamed s (retained (layout_of edition))
      (before-name (retained (layout_of edition)) (lies (λ x. all_end (retained x) x.name) refl refl edition))
      (kept-all s (retained (layout_of edition)) (renewed (layout_of edition)) (lies (λ x. all_apart (retained x) (renewed x)) refl refl edition))

  module _ (l : length s ≡ 512) (good : bad_name edition name ≡ false) (ht : FitsTimes (layout_of edition) time) where
    -- the fields that change
    fresh : Alike (put cleared (layout_of edition).name name) unnamed (entry_field.version ∷ (layout_of edition).change_time ∷ (layout_of edition).name_length ∷ [])
    fresh =
        before-name (entry_field.version ∷ (layout_of edition).change_time ∷ (layout_of edition).name_length ∷ [])
        (lies (λ x. all_end (entry_field.version ∷ x.change_time ∷ x.name_length ∷ []) x.name) refl refl edition)

    filled_in : Holds unnamed (renewed (layout_of edition))
    filled_in =
        stored s 512 (renewed (layout_of edition)) l (lies (λ x. apart_in (renewed x)) refl refl edition) (lies (λ x. end_in 512 (renewed x)) refl refl edition)
        (mod-lt _ (lit< tt), (ht.change_time, (length-fits edition name (short-name edition name good), tt)))

    pub renamed-entry : entry_in edition (renamed_entry_sector edition name time s) ≡ renamed_entry name time (entry_in edition s)
    unfolding entry_in renamed_entry renamed_entry_sector
    renamed-entry =
        let p2 = fresh.0 ∙ filled_in.0 in
        let p6 = fresh.1.0 ∙ filled_in.1.0 in
        let p7 = renamed-name edition name time s l (short-name edition name good) in
        λ j. record {
          size = remain.1.0 j;
          version = p2 j;
          id = remain.1.1.0 j;
          mode = remain.1.1.1.0 j;
          access_time = remain.1.1.1.1.0 j;
          change_time = p6 j;
          name = p7 j;
        }

-- ---- an entry whose access time was set, as read leaves it

module _ (edition time : ℕ) (s : List ℕ) where
  abbrev set : EditionLayout → Numbers
  set x = (x.access_time, time) ∷ []

  -- the fields that stay
  abbrev unset : EditionLayout → List Field
  unset x = entry_field.mark ∷ entry_field.size ∷ entry_field.version ∷ entry_field.id ∷ entry_field.mode ∷ x.change_time ∷ x.name_length ∷ []

  abbrev accessed : List ℕ
  accessed = with_stores s (stores_of (set (layout_of edition)))

  untouched : Alike accessed s (unset (layout_of edition))
  untouched = kept-all s (unset (layout_of edition)) (set (layout_of edition)) (lies (λ x. all_apart (unset x) (set x)) refl refl edition)

  pub length-accessed_entry_sector : length (accessed_entry_sector edition time s) ≡ length s
  unfolding accessed_entry_sector
  length-accessed_entry_sector = simp length-put

  pub accessed-occupied : is_occupied (accessed_entry_sector edition time s) ≡ is_occupied s
  unfolding is_occupied accessed_entry_sector
  accessed-occupied = ap (λ n. eqb n occupied_mark) untouched.0

  module _ (l : length s ≡ 512) (ht : FitsTimes (layout_of edition) time) where
    accessed-name : name_in edition (accessed_entry_sector edition time s) ≡ name_in edition s
    unfolding name_in accessed_entry_sector
    accessed-name =
        ap (λ k. bytes_from accessed (layout_of edition).name k) untouched.1.1.1.1.1.1.0
        ∙ kept-behind s (layout_of edition).name (number_in s (layout_of edition).name_length) (set (layout_of edition)) (lies (λ x. end_in x.name (set x)) refl refl edition)

    pub accessed-entry : entry_in edition (accessed_entry_sector edition time s) ≡ accessed_entry time (entry_in edition s)
    unfolding entry_in accessed_entry accessed_entry_sector
    accessed-entry =
        let r : Holds accessed (set (layout_of edition)) =
        stored s 512 (set (layout_of edition)) l (lies (λ x. apart_in (set x)) refl refl edition) (lies (λ x. end_in 512 (set x)) refl refl edition) (ht.access_time, tt) in
        λ j. record {
          size = untouched.1.0 j;
          version = untouched.1.1.0 j;
          id = untouched.1.1.1.0 j;
          mode = untouched.1.1.1.1.0 j;
          access_time = r.0 j;
          change_time = untouched.1.1.1.1.1.0 j;
          name = accessed-name j;
        }

-- the mark of an occupied entry is one of the two
pub occupied-mark : (s : List ℕ) → is_occupied s ≡ true → not (eqb (number_in s entry_field.mark) free_mark || is_occupied s) ≡ false
occupied-mark s e = go (eqb (number_in s entry_field.mark) free_mark)
  where
    go : (b : Bool) → not (b || is_occupied s) ≡ false
    go true = refl
    go false = ap not e
