-- Cases of a repair, about the definitions: F 255, N 10, S 128, so T 1 and K 1.
use Rattle.std.specs.Prelude.{ℕ, ◌-◌, ◌^◌, ◌≡◌, Bool, true, false, cond, List, [], ◌∷◌, eqb, get_or}
use Rattle.std.proofs.Math.Option.{Option, none, some}
use Rattle.model.specs.Answers.{Sound, Faulty}
use Rattle.model.specs.Search.{tabulate}
use Rattle.model.specs.Entry.{Entry}
use Rattle.model.specs.Catalogue.{Owner, Catalogue}
use Rattle.model.specs.Faults.{faults_in}
use Rattle.model.specs.WriteList.{sectors_of}
use Rattle.model.specs.Disk.{Disk}
use Rattle.model.specs.Repair.{is_stray, strays, repaired, repair_plan}

abbrev pub file_of_size : ℕ → ℕ → Option Entry
file_of_size letter size = some (record { size = size; version = 0; id = letter; mode = 0; access_time = 0; change_time = 0; name = letter ∷ [] })

abbrev pub part : ℕ → ℕ → Option Owner
part file offset = some (record { file = file; offset = offset })

-- files 0 and 1 of these sizes, and this table
abbrev pub volume : ℕ → ℕ → List (Option Owner) → Catalogue
volume a b table = record {
  geometry = record { files = 255; extents = 10; extent_sectors = 128; edition = 1 };
  root = record { version = 0; id = 1; mode = 0; access_time = 0; change_time = 0 };
  entries = λ i. cond (eqb i 0) (file_of_size 97 a) (cond (eqb i 1) (file_of_size 98 b) none);
  table = λ e. get_or table e none;
}

-- file 0 has a count of 2: extents 0 and 4 are its; 1 repeats, 2 lies at the count. Extent 3 names a free entry, 7 none at all. File 1's
-- size is 2^64 - 1: no offset lies at its count, and 8 repeats 5.
abbrev pub leaky : Catalogue
leaky =
    volume 65537 (2 ^ 64 - 1)
    (part 0 0 ∷ part 0 0 ∷ part 0 2 ∷ part 7 0 ∷ part 0 1 ∷ part 1 65535 ∷ none ∷ part 300 0 ∷ part 1 65535 ∷ none ∷ [])

-- both files empty but for file 0's two extents, one of them twice; the lower of the two lies behind another of the file
abbrev pub mendable : Catalogue
mendable = volume 65537 0 (none ∷ part 0 1 ∷ part 0 0 ∷ part 0 1 ∷ none ∷ none ∷ none ∷ none ∷ part 1 0 ∷ none ∷ [])

-- an offset without an extent; the last extent that of a file of this size
abbrev pub missing : Catalogue
missing = volume 65537 0 (part 0 0 ∷ none ∷ none ∷ none ∷ none ∷ none ∷ none ∷ none ∷ none ∷ none ∷ [])

abbrev pub taken : ℕ → Catalogue
taken size = volume size 0 (none ∷ none ∷ none ∷ none ∷ none ∷ none ∷ none ∷ none ∷ none ∷ part 0 0 ∷ [])

abbrev pub no_mark : ℕ → Bool
no_mark i = false

pub record Repairs : Type 0 where
  pub leaky-strays : tabulate (is_stray leaky) 0 10 ≡ false ∷ true ∷ true ∷ true ∷ false ∷ false ∷ false ∷ true ∷ true ∷ false ∷ []
  pub leaky-count : strays leaky ≡ 5
  pub leaky-rest : faults_in no_mark (repaired leaky) ≡ Faulty 22 1
  pub leaky-targets : (d : Disk) → sectors_of (repair_plan leaky d).targets ≡ 289 ∷ []
  pub mendable-strays : tabulate (is_stray mendable) 0 10 ≡ false ∷ false ∷ false ∷ true ∷ false ∷ false ∷ false ∷ false ∷ true ∷ false ∷ []
  pub mendable-before : faults_in no_mark mendable ≡ Faulty 26 0
  pub mendable-rest : faults_in no_mark (repaired mendable) ≡ Sound
  pub missing-count : strays missing ≡ 0
  pub missing-rest : faults_in no_mark (repaired missing) ≡ Faulty 26 0
  pub missing-targets : (d : Disk) → sectors_of (repair_plan missing d).targets ≡ []
  -- T-12: the last extent is as any other: freed where it is past its file's count, else left, and no fault
  pub taken-strays : (strays (taken 0) ∷ strays (taken 1) ∷ []) ≡ (1 ∷ 0 ∷ [])
  pub taken-rest : (faults_in no_mark (repaired (taken 0)) ∷ faults_in no_mark (repaired (taken 1)) ∷ []) ≡ (Sound ∷ Sound ∷ [])
