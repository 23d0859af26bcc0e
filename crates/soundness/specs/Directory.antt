-- The faults in their order, those of the directory first.
use Rattle.model.specs.declared.Geometry.{Geometry}
use Rattle.model.specs.Answers.{Soundness}
use Rattle.model.specs.Search.{first}
use Rattle.model.specs.Disk.{Disk}
use Rattle.model.specs.Catalogue.{catalogue_of}
use Rattle.model.specs.Faults.{fault21, fault22, fault23, fault24, or_else}

-- the first of the faults 21 to 24, else the later one
abbrev pub directory_fault : Geometry → Disk → Soundness → Soundness
directory_fault g d later =
    or_else 21 (first (fault21 d) g.files)
    (or_else 22 (first (fault22 (catalogue_of d)) g.files)
    (or_else 23 (first (fault23 (catalogue_of d)) g.files) (or_else 24 (first (fault24 (catalogue_of d)) g.files) later)))
