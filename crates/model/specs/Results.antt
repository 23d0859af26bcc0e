-- What the code's results say in the numbers of document 01's table: which number each refusal has, and of each kind of call the answer.
use Rattle.std.specs.Prelude.{ℕ, Result, Ok, Err, ⊤}
use Rattle.model.specs.declared.Fault.{Fault}
use Rattle.model.specs.declared.Refusal.{Refusal}
use Rattle.model.specs.declared.Sector.{Sector}
use Rattle.model.specs.declared.Summary.{Summary}
use Rattle.model.specs.declared.FoundFile.{FoundFile}
use Rattle.model.specs.declared.ListedFile.{ListedFile}
use Rattle.model.specs.declared.ReadBytes.{ReadBytes}
use Rattle.model.specs.declared.Repair.{Repair}
use Rattle.model.specs.declared.Slice.{Slice}
use Rattle.model.specs.Answers.{Soundness, Sound, Faulty, Verdict, Summarized, Located, Checked, Found, Listed, BytesRead, Changed, Repaired, Recovered, Sliced}
use Rattle.model.specs.Answers.{Formatted, CarriedOut, Longest}
use Rattle.model.specs.Refusals.{refusal, done}
use Rattle.model.specs.Summary.{no_summary}
use Rattle.model.specs.Find.{not_found}
use Rattle.model.specs.Listing.{not_listed}
use Rattle.model.specs.Read.{not_read}
use Rattle.model.specs.Repair.{done_but, not_repaired}

-- ---- faults

abbrev pub fault_number : Fault → ℕ
fault_number (Fault.BadMark i) = 21
fault_number (Fault.BadEntry i) = 22
fault_number (Fault.RepeatedName i) = 23
fault_number (Fault.BadId i) = 24
fault_number (Fault.Misplaced e) = 25
fault_number (Fault.WrongExtents i) = 26

abbrev pub fault_place : Fault → ℕ
fault_place (Fault.BadMark i) = i.0
fault_place (Fault.BadEntry i) = i.0
fault_place (Fault.RepeatedName i) = i.0
fault_place (Fault.BadId i) = i.0
fault_place (Fault.Misplaced e) = e.0
fault_place (Fault.WrongExtents i) = i.0

abbrev pub soundness_in : Result ⊤ Fault → Soundness
soundness_in (Ok x) = Sound
soundness_in (Err f) = Faulty (fault_number f) (fault_place f)

-- ---- refusals

abbrev pub verdict_for : Refusal → Verdict
verdict_for Refusal.NotWhole = refusal 1
verdict_for Refusal.NotVolume = refusal 2
verdict_for Refusal.OutOfBounds = refusal 3
verdict_for Refusal.Unfinished = refusal 4
verdict_for Refusal.Waiting = refusal 5
verdict_for Refusal.Damaged = refusal 6
verdict_for (Refusal.Unsound f) = record { number = 7; fault = fault_number f; place = fault_place f }
verdict_for Refusal.BadArgument = refusal 8
verdict_for Refusal.NotFound = refusal 9
verdict_for Refusal.Taken = refusal 10
verdict_for Refusal.DirectoryFull = refusal 11
verdict_for Refusal.PastEnd = refusal 12
verdict_for Refusal.VolumeFull = refusal 13
verdict_for Refusal.TooShort = refusal 14
verdict_for (Refusal.BadRename k) = record { number = 8; fault = 0; place = k }
verdict_for (Refusal.NoSuchName k) = record { number = 9; fault = 0; place = k }

-- 0 of what is done
abbrev pub verdict_in : {A : Type 0} → Result A Refusal → Verdict
verdict_in (Ok x) = done
verdict_in (Err r) = verdict_for r

-- ---- answers

abbrev pub summarized_in : Result Summary Refusal → Summarized
summarized_in (Ok s) = record { number = 0; summary = s }
summarized_in (Err r) = no_summary (verdict_for r)

abbrev pub located_in : Result Sector Refusal → Located
located_in (Ok s) = record { number = 0; sector = s }
located_in (Err r) = record { number = (verdict_for r).number; sector = record { 0 = 0 } }

abbrev pub checked_in : Result ⊤ Refusal → Checked
checked_in r = record { verdict = verdict_in r }

abbrev pub found_in : Result FoundFile Refusal → Found
found_in (Ok f) = record { verdict = done; index = f.index; fields = f.fields }
found_in (Err r) = not_found (verdict_for r)

abbrev pub listed_in : Result ListedFile Refusal → Listed
listed_in (Ok f) = record { verdict = done; fields = f.fields; length = f.length }
listed_in (Err r) = not_listed (verdict_for r)

abbrev pub read_in : Result ReadBytes Refusal → BytesRead
read_in (Ok b) = record { verdict = done; count = b.count; length = b.length }
read_in (Err r) = not_read (verdict_for r)

-- the number is the write list's length in bytes
abbrev pub changed_in : Result ℕ Refusal → Changed
changed_in (Ok n) = record { verdict = done; length = n }
changed_in (Err r) = record { verdict = verdict_for r; length = 0 }

abbrev pub repaired_in : Result Repair Refusal → Repaired
repaired_in (Ok a) = record { verdict = done_but (soundness_in a.remaining); freed = a.freed; length = a.length }
repaired_in (Err r) = not_repaired (verdict_for r)

abbrev pub recovered_in : Result ℕ Refusal → Recovered
recovered_in (Ok n) = record { number = 0; length = n }
recovered_in (Err r) = record { number = (verdict_for r).number; length = 0 }

abbrev pub sliced_in : Result Slice Refusal → Sliced
sliced_in (Ok s) = record { number = 0; length = s.length; count = s.count }
sliced_in (Err r) = record { number = (verdict_for r).number; length = 0; count = 0 }

abbrev pub formatted_in : Result ℕ Refusal → Formatted
formatted_in (Ok n) = record { number = 0; length = n }
formatted_in (Err r) = record { number = (verdict_for r).number; length = 0 }

abbrev pub carried_in : Result ⊤ Refusal → CarriedOut
carried_in r = record { number = (verdict_in r).number }

abbrev pub longest_in : Result ℕ Refusal → Longest
longest_in (Ok n) = record { number = 0; length = n }
longest_in (Err r) = record { number = (verdict_for r).number; length = 0 }
