-- What read has to show: the ledger's answer and the file's bytes. (Its effect stands in `Access`.) Assumes nothing.
use Prim.Native.Nat.{ℕ, zero, suc, ◌+◌, ◌*◌, ◌≤◌}
use mathlib.Core.Path.{◌≡◌, refl, sym, ap, ap₂, ◌∙◌}
use mathlib.Core.Bool.{Bool, true, false, cond, ◌&&◌, false≢true}
use mathlib.Core.List.{List, [], ◌∷◌, ◌++◌}
use mathlib.Core.Option.{Option, none, some}
use native.Mathlib.Omega.{arith}
use lib.Dec.{ltb}
use lib.ListN.{length}
use borrow.Author.Tests.{ltb-false, not-false}
use Rattle.model.specs.Answers.{BytesRead, Verdict}
use Rattle.model.specs.Bytes.{bytes_from}
use Rattle.model.specs.Search.{tabulate, is_at, index_of}
use Rattle.model.specs.Disk.{Disk, view}
use Rattle.model.specs.Catalogue.{Catalogue, catalogue_of, lacks_reserve, has_name, file_named, entry_of, entry_or, file_byte, file_bytes}
use Rattle.model.specs.Refusals.{Conditions, verdict_of, given, is_done, refusal}
use Rattle.model.specs.WriteList.{Plan, groups_for, list_length, record_size, record_count, Decision, is_planned}
use Rattle.model.specs.Read.{read_count, size_named, read_conditions, read_plan, read_planned, read_decision, not_read, read_of, read_answer, read_gives}
use Rattle.model.specs.Ledger.{Ledger, File, file_or, entry_of_file, catalogue, read, gave, numbered, refused, access_records, step, answer}
use Rattle.model.specs.Run.{volume_answer, on_volume}
use Rattle.laws.proofs.Search.{get_or-tab0}
use Rattle.laws.proofs.WriteList.{plan-needs}
use Rattle.safety.proofs.OwnWords.{named-is, entry-is, file-is, entry_named, time-is, name-is, frozen-is, answers}
use Rattle.safety.proofs.Searches.{place_found}
use Rattle.safety.proofs.Rep.{Rep, cat-is}
use Rattle.safety.proofs.Changing.{Passed, passed-by, earlier-done, Judges, own, decision-is, own_is, given_is}

bytes_from-tabulate : (f : ℕ → ℕ) (size off n : ℕ) → off + n ≤ size → bytes_from (tabulate f 0 size) off n ≡ tabulate f off n
unfolding bytes_from tabulate
bytes_from-tabulate f size off zero h = refl
bytes_from-tabulate f size off (suc n) h = ap₂ (λ l x. l ++ (x ∷ [])) (bytes_from-tabulate f size off n (omega arith)) (get_or-tab0 f size (off + n) 0 (omega arith))

pub bytes-from : (c : Catalogue) (d : Disk) (i size off n : ℕ) → off + n ≤ size → bytes_from (file_bytes c d i 0 size) off n ≡ file_bytes c d i off n
unfolding file_bytes
bytes-from c d i size off n h = bytes_from-tabulate (file_byte c d i) size off n h

both-none : (c : Catalogue) (d : Disk) (i off : ℕ) (b : List ℕ) → file_bytes c d i off 0 ≡ bytes_from b off 0
unfolding file_bytes tabulate bytes_from
both-none c d i off b = refl

-- the slot of a name that is there
pub file-there : (o : Option File) (name : List ℕ) → has_name name (entry_of_file o) ≡ true → o ≡ some (file_or o)
file-there none name e = absurd (false≢true e)
file-there (some f) name e = refl

pub size_is : (o : Option File) → (entry_or (entry_of_file o)).size ≡ (file_or o).entry.size
size_is none = refl
size_is (some f) = refl

-- a plan with the access time, none where the reserve isn't there: it never lacks the reserve, and its list's length
pub access-never : (b : Bool) (p : Plan) → (is_planned (cond b none (some p)) && b) ≡ false
access-never true p = refl
access-never false p = refl

pub access-size : (L : Ledger) (d : Disk) (p : Plan) → record_count (length p.data_sectors) (length p.targets) ≡ record_count 0 1
    → list_length (groups_for d (cond (lacks_reserve (catalogue L)) none (some p))) ≡ access_records L * record_size
unfolding groups_for
access-size L d p e = go (lacks_reserve (catalogue L)) ∙ ap (λ (b : Bool). cond b 0 (record_count 0 1) * record_size) (sym (frozen-is L))
  where
    go : (b : Bool) → list_length (groups_for d (cond b none (some p))) ≡ cond b 0 (record_count 0 1) * record_size
    go true = refl
    go false = plan-needs d p ∙ ap (λ n. n * record_size) e

module _ (L : Ledger) (img : List ℕ) (rep : Rep L img) (name : List ℕ) (offset asked time room space : ℕ) where
  abbrev i : ℕ
  i = index_of (file_named (catalogue L) name)

  abbrev f : File
  f = file_or (L.slots (index_of (file_named (catalogue L) name)))

  abbrev n : ℕ
  n = read_count (size_named (catalogue L) name) offset asked

  abbrev conditions : Catalogue → Conditions
  conditions x = read_conditions x name offset asked time room

  abbrev plan : Catalogue → Option Plan
  plan x = read_planned x (view img) (index_of (file_named x name)) time

  pub read-judges : Judges L img (read name offset asked time room space) (λ x. read_conditions x name offset asked time room)
      (λ x. read_planned x (view img) (index_of (file_named x name)) time) space (access_records L)
  unfolding read_conditions size_named step catalogue read_planned read_plan verdict_of
  read-judges = record {
    conditions = ap (λ (b : Bool). verdict_of (conditions (catalogue L) ++ ((b, refusal 13) ∷ (ltb space (access_records L * record_size), refusal 14) ∷ [])))
        (access-never (lacks_reserve (catalogue L)) (read_plan (catalogue L) (view img) i time))
        ∙ rw (time-is L time, name-is L name, named-is L name, entry_named L name);
    refusing = refl;
    size = access-size L (view img) (read_plan (catalogue L) (view img) i time) refl;
  }

  abbrev v : Verdict
  v = own L img rep (read name offset asked time room space) conditions plan space (access_records L)

  abbrev answered : Bool → Verdict → BytesRead
  answered b w = cond b (record { verdict = w; count = n; length = access_records L * record_size }) (not_read w)

  answer-is : read_answer (length img) (view img) name offset asked time room space ≡ answered (is_done v) v
  unfolding read_answer read_decision read_of
  answer-is =
      ap (λ (x : Decision). read_of x (view img) name offset asked) (decision-is L img rep (read name offset asked time room space) conditions plan space (access_records L) read-judges)
      ∙ ap (λ (x : Catalogue). given v (record { verdict = v; count = read_count (size_named x name) offset asked; length = listed (is_done v) }) not_read) (cat-is L img rep)
      ∙ given_is L img rep (read name offset asked time room space) conditions plan space (access_records L) read-judges
      (λ m. record { verdict = v; count = n; length = m }) not_read
    where
      listed : Bool → ℕ
      listed b = list_length (groups_for (view img) (cond b (plan (catalogue L)) none))

  -- a file of the name is there
  pub read_found : is_at (file_named (catalogue L) name) ≡ true → L.slots (index_of (file_named (catalogue L) name)) ≡ some (file_or (L.slots (index_of (file_named (catalogue L) name))))
  unfolding file_named catalogue
  read_found h = file-there (L.slots i) name (place_found (λ k. has_name name (entry_of_file (L.slots k))) L.geometry.files h).1

  size_of : size_named (catalogue L) name ≡ f.entry.size
  unfolding size_named entry_of catalogue
  size_of = size_is (L.slots i)

  -- of the m bytes that are given
  given-bytes : (m : ℕ) → (answered (is_done v) v).count ≡ m → file_bytes (catalogue_of (view img)) (view img) i offset m ≡ bytes_from f.bytes offset m
  unfolding read_conditions
  given-bytes m e = go (is_done v) refl e
    where
      go : (b : Bool) → is_done v ≡ b → (answered b v).count ≡ m → file_bytes (catalogue_of (view img)) (view img) i offset m ≡ bytes_from f.bytes offset m
      go false q k =
          let z : m ≡ 0 = sym k in
          ap (file_bytes (catalogue_of (view img)) (view img) i offset) z ∙ both-none (catalogue_of (view img)) (view img) i offset f.bytes ∙ ap (bytes_from f.bytes offset) (sym z)
      go true q k =
          let p : Passed (conditions (catalogue L)) = passed-by (conditions (catalogue L)) read-judges.refusing (earlier-done (verdict_of (conditions (catalogue L))) _ q) in
          let there = read_found (not-false (is_at (file_named (catalogue L) name)) p.1.1.0) in
          let size : size_named (catalogue L) name ≡ f.entry.size = size_of in
          let le : offset ≤ size_named (catalogue L) name = ltb-false (size_named (catalogue L) name) offset p.1.1.1.0 in
          let h : offset + m ≤ f.entry.size = omega arith in
          sym (bytes-from (catalogue_of (view img)) (view img) i f.entry.size offset m h) ∙ ap (λ (b : List ℕ). bytes_from b offset m) (rep.says.bytes i f there)

  -- as the ledger's words say it
  reply-is : gave (record { verdict = numbered 0; count = n; length = access_records L * record_size }) (bytes_from f.bytes offset n) ≡ (step (read name offset asked time room space) L).reply
  unfolding size_named step
  reply-is = rw (file-is L name, entry-is L i)

  given-none : (b : Bool) → bytes_from f.bytes offset (answered b v).count ≡ cond b (bytes_from f.bytes offset n) []
  unfolding bytes_from
  given-none true = refl
  given-none false = refl

  pub read_same : volume_answer (read name offset asked time room space) img ≡ answer (read name offset asked time room space) L
  unfolding on_volume read_gives
  read_same =
      ap₂ gave answer-is
      (ap (λ n. file_bytes (catalogue_of (view img)) (view img) (index_of (file_named (catalogue_of (view img)) name)) offset n) (ap (λ (r : BytesRead). r.count) answer-is)
      ∙ ap (λ (x : Catalogue). file_bytes (catalogue_of (view img)) (view img) (index_of (file_named x name)) offset (answered (is_done v) v).count) (cat-is L img rep)
      ∙ given-bytes (answered (is_done v) v).count refl ∙ given-none (is_done v))
      ∙ answers (step (read name offset asked time room space) L)
      (λ b w. gave (answered b w) (cond b (bytes_from f.bytes offset n) []))
      reply-is (λ m. ap (refused m) reply-is) v (own_is L img rep (read name offset asked time room space) conditions plan space (access_records L) read-judges)
