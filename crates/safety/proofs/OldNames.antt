-- T-07: "Old volumes with other names stay sound, and their files can be read, written, deleted and renamed away." A file of any name can be
-- renamed to any name that create accepts, at any time that the edition takes, where at least K extents are free (T-12). Assumes nothing.
use Prim.Native.Nat.{ℕ, ◌+◌, ◌*◌, ◌≤◌, ◌<◌}
use mathlib.Core.Path.{◌≡◌, refl, sym, ap, ap₂, ◌∙◌}
use mathlib.Core.Bool.{Bool, true, false, cond, not, ◌&&◌, ◌||◌}
use mathlib.Core.List.{List}
use mathlib.Core.Option.{some, none-ne-some}
use native.Mathlib.Omega.{arith}
use lib.Dec.{ltb}
use borrow.Author.Tests.{le-ltb}
use Rattle.model.specs.declared.Geometry.{Geometry}
use Rattle.std.specs.Prelude.{Some, None}
use Rattle.model.specs.Search.{Lowest, is_at, equal_bytes}
use Rattle.model.specs.Geometry.{reserve_extents, extent_bytes}
use Rattle.model.specs.Edition.{bad_time}
use Rattle.model.specs.Entry.{bad_name, bad_new_name}
use Rattle.model.specs.Table.{sectors_holding}
use Rattle.model.specs.Catalogue.{lacks_reserve, owns_from}
use Rattle.model.specs.Refusals.{verdict_of, refusal, done}
use Rattle.model.specs.WriteList.{record_size, record_count}
use Rattle.model.specs.Ledger.{Ledger, file_or, catalogue, rename, Answer, Feed, number_of, slot_named, freed_records, renamed_records, is_frozen, unfit_time, unfit_name, unfit_new_name, step}
use Rattle.model.specs.Ledger.{answer, ledger_from}
use Rattle.model.specs.Run.{volume_answer, Fits, steady}
use Rattle.laws.proofs.Booleans.{and-false}
use Rattle.laws.proofs.Freeing.{sectors-few}
use Rattle.safety.specs.Described.{SoundRun}
use Rattle.safety.specs.Naming.{Contents, file_on, contents_in, file_in}
use Rattle.safety.specs.Room.{geometry_on, free_on}
use Rattle.safety.proofs.OwnWords.{frozen-is, name-if, time-is, name-is, new-name-is, number_is}
use Rattle.safety.proofs.Searches.{or-left-no, is-no}
use Rattle.safety.proofs.Rep.{Rep, cat-is}
use Rattle.safety.proofs.KeptFile.{well-named}
use Rattle.safety.proofs.Renamed.{named-so}
use Rattle.safety.proofs.Naming.{filled, Found, found-by, slot_of}
use Rattle.safety.proofs.FileSaid.{said}
use Rattle.safety.proofs.CallFacts.{facts}
use Rattle.safety.proofs.Theorem.{represents}
use Rattle.safety.proofs.NoRoom.{frozen-on}

-- a name that is a file's
there : (L : Ledger) (name : List ℕ) (x : Contents) → file_in L name ≡ some x → not (is_at (slot_named L name)) ≡ false
unfolding file_in
there L name x e = go (slot_named L name) e
  where
    go : (r : Lowest) → contents_in L r ≡ some x → not (is_at r) ≡ false
    go None q = absurd (none-ne-some x q)
    go (Some i) q = refl

-- the longest list
few-records : (L : Ledger) (img : List ℕ) → Rep L img → (old new : List ℕ) → renamed_records L old new ≤ record_count 0 515
unfolding renamed_records freed_records catalogue
few-records L img rep old new = go (equal_bytes old new) (is_at (slot_named L new))
  where
    go : (a b : Bool) → cond a 0 (cond b (record_count 0 (3 + sectors_holding (owns_from (catalogue L) (slot_of L new) 0) L.geometry)) (record_count 0 2)) ≤ record_count 0 515
    go true b = omega arith
    go false true =
        omega (arith, sectors-few (owns_from (catalogue L) (slot_of L new) 0) L.geometry, rep.bounded.extents-high)
    go false false = omega arith

-- a rename that no condition refuses
accepted : (L : Ledger) (old new : List ℕ) (time room : ℕ) → unfit_time L time ≡ false → (unfit_name L old || unfit_new_name L new) ≡ false → not (is_at (slot_named L old)) ≡ false
    → is_frozen L ≡ false → ltb room (renamed_records L old new * record_size) ≡ false → number_of (answer (rename old new time room) L) ≡ 0
unfolding step verdict_of
accepted L old new time room t p q z r =
    let k : (ltb 0 (renamed_records L old new) && is_frozen L) ≡ false = ap (λ (b : Bool). ltb 0 (renamed_records L old new) && b) z ∙ and-false (ltb 0 (renamed_records L old new)) in
    number_is (step (rename old new time room) L) refl
    ∙ (λ i. (cond (t i) (refusal 8) (cond (p i) (refusal 8) (cond (q i) (refusal 9) (cond (k i) (refusal 13) (cond (r i) (refusal 14) done))))).number)

pub renamed-away : {L₀ : Ledger} {img : List ℕ} {fs : List Feed} {rs : List Answer} (old new : List ℕ) (time room : ℕ) (file : Contents)
    → SoundRun L₀ steady img fs rs → file_on img old ≡ some file
    → bad_time (geometry_on img).edition time ≡ false → bad_new_name (geometry_on img).edition new ≡ false
    → reserve_extents (geometry_on img) ≤ free_on img → record_count 0 515 * record_size ≤ room
    → Fits (rename old new time room) → number_of (volume_answer (rename old new time room) img) ≡ 0
renamed-away {L₀} {img} {fs} old new time room file r e timed good some-free long fit =
    ap number_of ((facts (rename old new time room)).same L img rep fit) ∙ answered
  where
    L : Ledger
    L = ledger_from L₀ fs

    rep : Rep (ledger_from L₀ fs) img
    rep = represents r

    at : not (is_at (slot_named L old)) ≡ false
    at = there L old file (sym (said L img rep.says old) ∙ e)

    named : Found L old
    named = found-by L old at

    i : ℕ
    i = slot_of L old

    -- the image's edition is the ledger's
    same : (geometry_on img).edition ≡ L.geometry.edition
    same = ap (λ (g : Geometry). g.edition) rep.says.geometry

    good_old : bad_name L.geometry.edition old ≡ false
    good_old =
        ap (bad_name L.geometry.edition) (sym (named-so (L.slots i) old (sym (name-if old (L.slots i)) ∙ named.has)))
        ∙ or-left-no _ (ltb (L.geometry.extents * extent_bytes L.geometry) (file_or (L.slots i)).entry.size)
        (well-named L img rep i (file_or (L.slots i)) (filled (L.slots i) old named.has))

    thawed : is_frozen L ≡ false
    thawed =
        frozen-is L ∙ ap lacks_reserve (sym (cat-is L img rep))
        ∙ is-no _ (λ t. let f : free_on img < reserve_extents (geometry_on img) = (frozen-on img).0 t in omega arith)

    answered : number_of (answer (rename old new time room) L) ≡ 0
    answered =
        let m : renamed_records L old new ≤ record_count 0 515 = few-records L img rep old new in
        accepted L old new time room (time-is L time ∙ ap (λ n. bad_time n time) (sym same) ∙ timed)
        (ap₂ (λ a b. a || b) (name-is L old ∙ good_old) (new-name-is L new ∙ ap (λ n. bad_new_name n new) (sym same) ∙ good)) at thawed
        (le-ltb room (renamed_records L old new * record_size) (omega arith))
