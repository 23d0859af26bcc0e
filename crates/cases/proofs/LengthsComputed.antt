-- The cases of the longest lists hold: every case computes. Assumes nothing.
use mathlib.Core.Path.{refl}
use Rattle.model.specs.Geometry.{in_bounds}
use Rattle.model.specs.Refusals.{verdict_of}
use Rattle.model.specs.Lengths.{longest_records, longest_list, longest_answer}
use Rattle.cases.specs.Lengths.{Lengths}

pub lengths : Lengths
unfolding in_bounds verdict_of longest_records longest_list longest_answer
lengths = record { sample = refl; largest = refl; reserved = refl; entries = refl; refused = refl; wide = refl }
