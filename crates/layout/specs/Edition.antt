-- What the code's value for an edition says: the definitions' layout, and that it lies in a sector.
use Rattle.std.specs.Prelude.{◌≡◌, ◌+◌, ◌≤◌}
use Rattle.layout.specs.declared.edition.Edition.{Edition}
use Rattle.layout.specs.declared.Field.{Field}
use Rattle.model.specs.Bytes.{field}
use Rattle.model.specs.Edition.{EditionLayout}

abbrev pub layout_in : Edition → EditionLayout
layout_in e = record {
  access_time = field e.access_time.offset e.access_time.width;
  change_time = field e.change_time.offset e.change_time.width;
  name_length = field e.name_length.offset e.name_length.width;
  name = e.name;
  longest_name = e.longest_name;
  root_access_time = field e.root_access_time.offset e.root_access_time.width;
  root_change_time = field e.root_change_time.offset e.root_change_time.width;
}

-- a number of at most 8 bytes that ends in the sector
abbrev IsNumber : Field → Type 0
IsNumber f = (f.width ≤ 8) × (f.offset + f.width ≤ 512)

pub record InSector (e : Edition) : Type 0 where
  pub access_time : IsNumber e.access_time
  pub change_time : IsNumber e.change_time
  pub name_length : IsNumber e.name_length
  pub name : e.name + e.longest_name ≡ 512
  pub root_access_time : IsNumber e.root_access_time
  pub root_change_time : IsNumber e.root_change_time
