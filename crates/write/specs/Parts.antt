-- The parts of sectors that a write asks for.
use Rattle.std.specs.Prelude.{Option, Some, None, List, ◌∷◌}
use Rattle.model.specs.declared.Part.{Part}

-- a part that is there before others
abbrev pub before : Option Part → List Part → List Part
before (Some p) ps = p ∷ ps
before None ps = ps
