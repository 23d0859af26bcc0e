-- Searches of the catalogue, by id and for fault 22, as searches of the directory. Rests on the crate `laws`.
use Prim.Native.Nat.{ℕ, ◌*◌}
use mathlib.Core.Path.{◌≡◌, ap, ◌∙◌}
use mathlib.Core.Bool.{Bool, ◌&&◌, ◌||◌}
use lib.Dec.{eqb, ltb}
use Rattle.model.specs.Bytes.{number_in}
use Rattle.model.specs.Search.{first, any_below}
use Rattle.model.specs.Geometry.{extent_bytes, entry_at}
use Rattle.model.specs.Disk.{Disk}
use Rattle.model.specs.Superblock.{geometry_in}
use Rattle.model.specs.Entry.{entry_field, entry_in, is_occupied, name_in, bad_name}
use Rattle.model.specs.Catalogue.{catalogue_of, has_id}
use Rattle.model.specs.Faults.{fault22}
use Rattle.laws.proofs.Search.{first-ext, any_below-ext}
use Rattle.laws.proofs.Catalogue.{id-if, slot-on, fault22-is}

pub id-on : (d : Disk) (n : ℕ)
    → any_below (λ i. has_id n ((catalogue_of d).entries i)) (catalogue_of d).geometry.files
    ≡ any_below (λ i. is_occupied (d (entry_at i)) && eqb (number_in (d (entry_at i)) entry_field.id) n) (geometry_in (d 0)).files
unfolding catalogue_of entry_in
id-on d n =
    any_below-ext (λ i. has_id n ((catalogue_of d).entries i)) (λ i. is_occupied (d (entry_at i)) && eqb (number_in (d (entry_at i)) entry_field.id) n) (geometry_in (d 0)).files
    (λ i l. ap (has_id n) (slot-on d i l) ∙ id-if (is_occupied (d (entry_at i))) (entry_in (geometry_in (d 0)).edition (d (entry_at i))) n)

-- an entry that is occupied, and its name is bad or its size exceeds `most`
abbrev pub is_bad : Disk → ℕ → ℕ → ℕ → Bool
is_bad d edition most i = is_occupied (d (entry_at i)) && (bad_name edition (name_in edition (d (entry_at i))) || ltb most (number_in (d (entry_at i)) entry_field.size))

pub fault22-on : (d : Disk)
    → first (fault22 (catalogue_of d)) (geometry_in (d 0)).files
    ≡ first (is_bad d (geometry_in (d 0)).edition ((geometry_in (d 0)).extents * extent_bytes (geometry_in (d 0)))) (geometry_in (d 0)).files
fault22-on d = first-ext (fault22 (catalogue_of d)) (is_bad d (geometry_in (d 0)).edition ((geometry_in (d 0)).extents * extent_bytes (geometry_in (d 0)))) (geometry_in (d 0)).files (fault22-is d)
