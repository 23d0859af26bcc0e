-- The cases of a repair hold: every case computes. Assumes nothing.
use mathlib.Core.Path.{refl}
use Rattle.model.specs.Search.{tabulate, concatenated, scan, any_below, all_below, count_below, equal_bytes}
use Rattle.model.specs.Edition.{layout_of}
use Rattle.model.specs.Entry.{bad_name, has_zero}
use Rattle.model.specs.Table.{holds_any}
use Rattle.model.specs.Faults.{fault22, fault23, fault24, fault25, fault26, exact}
use Rattle.model.specs.Freeing.{freed_sector, freed_sectors}
use Rattle.model.specs.Repair.{is_stray, strays, repaired, repair_plan}
use Rattle.cases.specs.Repairs.{Repairs}

pub repairs : Repairs
unfolding tabulate concatenated scan any_below all_below count_below equal_bytes layout_of bad_name has_zero fault22 fault23 fault24 fault25 fault26 exact
    holds_any freed_sector freed_sectors is_stray strays repaired repair_plan
repairs = record {
  leaky-strays = refl;
  leaky-count = refl;
  leaky-rest = refl;
  leaky-targets = λ d. refl;
  mendable-strays = refl;
  mendable-before = refl;
  mendable-rest = refl;
  missing-count = refl;
  missing-rest = refl;
  missing-targets = λ d. refl;
  taken-strays = refl;
  taken-rest = refl;
}
