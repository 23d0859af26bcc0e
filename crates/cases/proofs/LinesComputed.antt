-- The table of the listing's lines holds: each line computes. Assumes nothing.
use mathlib.Core.Path.{refl}
use Rattle.model.specs.Bytes.{be_at, be_bytes, bytes_from, put, ones_sector, zero_sector}
use Rattle.model.specs.Search.{any_below, all_below, equal_bytes, concatenated}
use Rattle.model.specs.Geometry.{in_bounds}
use Rattle.model.specs.Edition.{layout_of, is_edition}
use Rattle.model.specs.Superblock.{is_volume, geometry_in, journal_length, state_of}
use Rattle.model.specs.Root.{new_root_sector}
use Rattle.model.specs.Entry.{name_in, entry_in, is_occupied, has_zero, bad_name, new_entry_sector, updated_entry_sector}
use Rattle.model.specs.Refusals.{verdict_of}
use Rattle.model.specs.Summary.{superblock_verdict}
use Rattle.model.specs.Lines.{listing_verdict, entry_line, directory_lines, listing_lines}
use Rattle.cases.specs.Lines.{Lines}

pub lines : Lines
unfolding be_at be_bytes bytes_from put ones_sector zero_sector any_below all_below equal_bytes concatenated in_bounds layout_of is_edition is_volume geometry_in journal_length
    state_of new_root_sector name_in entry_in is_occupied has_zero bad_name new_entry_sector updated_entry_sector verdict_of superblock_verdict listing_verdict entry_line
    directory_lines listing_lines
lines = record { entries = refl; names = refl; marks = refl; sizes = refl; lengths = refl; zeros = refl; refusals = refl; ended = refl; whole = refl }
