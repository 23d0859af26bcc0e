-- "Find gives index and fields." 8 bad name, 9 no such name.
use Rattle.std.specs.Prelude.{ℕ, not, List, [], ◌∷◌}
use Rattle.model.specs.Answers.{Found, Verdict}
use Rattle.model.specs.Search.{is_at, index_of}
use Rattle.model.specs.Disk.{Disk}
use Rattle.model.specs.Entry.{bad_name, fields_of, no_fields}
use Rattle.model.specs.Catalogue.{Catalogue, catalogue_of, file_named, entry_of}
use Rattle.model.specs.Refusals.{Conditions, verdict_of, and_then, given, refusal, judged}

-- the conditions of a call that only names a file
unfoldable pub name_conditions : Catalogue → List ℕ → Conditions
name_conditions c name = (bad_name c.geometry.edition name, refusal 8) ∷ (not (is_at (file_named c name)), refusal 9) ∷ []

abbrev pub not_found : Verdict → Found
not_found v = record { verdict = v; index = record { 0 = 0 }; fields = no_fields }

-- what the verdict makes of a catalogue's file of that name
unfoldable pub found_by : Verdict → Catalogue → List ℕ → Found
found_by v c name =
    let i = index_of (file_named c name) in
    given v (record { verdict = v; index = record { 0 = i }; fields = fields_of (entry_of c i) }) not_found

unfoldable pub find_answer : ℕ → Disk → List ℕ → Found
find_answer len d name = let c = catalogue_of d in found_by (and_then (judged len d) (verdict_of (name_conditions c name))) c name
