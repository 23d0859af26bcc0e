-- T-08: a wide time is refused 8 on edition 1 in every call that takes one, "also where nothing would be stored"; and no run turns a volume of
-- one edition into one of the other. Assumes nothing.
use Prim.Native.Nat.{ℕ}
use mathlib.Core.Path.{◌≡◌, refl, sym, ap, ◌∙◌}
use mathlib.Core.Bool.{Bool, true, false, cond, not, false≢true}
use mathlib.Core.List.{List, [], ◌∷◌}
use mathlib.Core.Option.{Option}
use lib.Dec.{eqb, ltb}
use lib.ListN.{length}
use Rattle.model.specs.Answers.{Verdict, Changed}
use Rattle.model.specs.Search.{equal_bytes}
use Rattle.model.specs.Disk.{view}
use Rattle.model.specs.Edition.{bad_time}
use Rattle.model.specs.Catalogue.{catalogue_of}
use Rattle.model.specs.Refusals.{Conditions, verdict_of, and_then, refusal}
use Rattle.model.specs.WriteList.{Plan, plan_conditions, decided}
use Rattle.model.specs.Summary.{check_answer}
use Rattle.model.specs.Listing.{list_conditions, list_decision}
use Rattle.model.specs.Read.{read_conditions, read_decision}
use Rattle.model.specs.Create.{create_conditions, create_decision}
use Rattle.model.specs.Delete.{delete_conditions, delete_decision}
use Rattle.model.specs.Resize.{resize_conditions, resize_decision}
use Rattle.model.specs.Write.{write_conditions, write_decision}
use Rattle.model.specs.Rename.{rename_conditions, rename_decision}
use Rattle.model.specs.RenameSet.{rename_set_decision}
use Rattle.model.specs.Ledger.{Ledger, Call, summary, check, find, list, read, create, delete, resize, write}
use Rattle.model.specs.Ledger.{rename, rename_set, names_of, pairs_of, after_renames, number_of, file_of, zero_bytes, is_frozen, step, answer, Answer}
use Rattle.model.specs.Ledger.{Feed, whole, cut_marked, cut_unmarked, after_write, after_rename, fed, ledger_from}
use Rattle.model.specs.Run.{on_volume, volume_answer, arguments, steady}
use Rattle.laws.proofs.Booleans.{and-false}
use Rattle.laws.proofs.RenameSet.{Pairs}
use Rattle.safety.specs.Described.{SoundRun}
use Rattle.safety.specs.Room.{geometry_on}
use Rattle.safety.proofs.Access.{list-as-changed, read-as-changed}
use Rattle.safety.proofs.RenameSet.{set-wide}
use Rattle.safety.proofs.NoRoom.{own_is}
use Rattle.safety.proofs.Theorem.{represents}

-- ---- a wide time

-- a call that is given no time is given 0
never : (edition : ℕ) → bad_time edition 0 ≡ true → ⊥
unfolding bad_time
never edition h = false≢true (sym (and-false (not (eqb edition 2))) ∙ h)

module _ (img : List ℕ) (ok : (check_answer (length img) (view img)).verdict.number ≡ 0) where
  -- a decision whose first condition holds
  first-8 : (b : Bool) → b ≡ true → (cs : Conditions) (plan : Option Plan) (room : ℕ) → (decided (length img) (view img) ((b, refusal 8) ∷ cs) plan room).verdict.number ≡ 8
  unfolding check_answer verdict_of
  first-8 b h cs plan room =
      ap (λ (v : Verdict). v.number) (own_is img ok ((b, refusal 8) ∷ cs) plan room)
      ∙ ap (λ (t : Bool). (and_then (cond t (refusal 8) (verdict_of cs)) (verdict_of (plan_conditions (view img) plan room))).number) h

  own-8 : (cs : Conditions) → (verdict_of cs).number ≡ 8 → (plan : Option Plan) (room : ℕ) → (decided (length img) (view img) cs plan room).verdict.number ≡ 8
  unfolding check_answer
  own-8 cs h plan room =
      ap (λ (v : Verdict). v.number) (own_is img ok cs plan room)
      ∙ ap (λ (b : Bool). (cond b (verdict_of (plan_conditions (view img) plan room)) (verdict_of cs)).number) (ap (λ n. eqb n 0) h) ∙ h

  pub wide-refused : (c : Call) → bad_time (geometry_on img).edition (arguments c).time ≡ true → number_of (volume_answer c img) ≡ 8
  unfolding on_volume list_decision read_decision create_decision delete_decision resize_decision write_decision rename_decision rename_set_decision list_conditions read_conditions create_conditions
      delete_conditions resize_conditions write_conditions rename_conditions catalogue_of
  wide-refused summary h = absurd (never (geometry_on img).edition h)
  wide-refused check h = absurd (never (geometry_on img).edition h)
  wide-refused (find name) h = absurd (never (geometry_on img).edition h)
  wide-refused (list k time room space) h = ap (λ (a : Changed). a.verdict.number) (list-as-changed (length img) (view img) k time room space) ∙ first-8 _ h _ _ space
  wide-refused (read name offset count time room space) h =
      ap (λ (a : Changed). a.verdict.number) (read-as-changed (length img) (view img) name offset count time room space) ∙ first-8 _ h _ _ space
  wide-refused (create name id mode time room) h = first-8 _ h _ _ room
  wide-refused (delete name time room) h = first-8 _ h _ _ room
  wide-refused (resize name size time room) h = first-8 _ h _ _ room
  wide-refused (write name offset bytes time room) h = first-8 _ h _ _ room
  wide-refused (rename old new time room) h = first-8 _ h _ _ room
  wide-refused (rename_set names lengths time room) h = own-8 _ (set-wide (view img) names lengths time h) _ room

-- ---- the edition stays, with all of the geometry

either : (b : Bool) (M N L : Ledger) → M.geometry ≡ L.geometry → N.geometry ≡ L.geometry → (cond b M N).geometry ≡ L.geometry
either true M N L e f = e
either false M N L e f = f

renames-geometry : (time : ℕ) (rs : Pairs) (L : Ledger) → (after_renames L rs time).geometry ≡ L.geometry
unfolding after_renames after_rename
renames-geometry time [] L = refl
renames-geometry time (r ∷ rs) L = renames-geometry time rs (after_rename L r.0 r.1 time) ∙ either (equal_bytes r.0 r.1) L _ L refl refl

done-geometry : (c : Call) (L : Ledger) → (step c L).done.geometry ≡ L.geometry
unfolding step after_write after_rename
done-geometry summary L = refl
done-geometry check L = refl
done-geometry (find name) L = refl
done-geometry (list k time room space) L = either (is_frozen L) L _ L refl refl
done-geometry (read name offset count time room space) L = either (is_frozen L) L _ L refl refl
done-geometry (create name id mode time room) L = refl
done-geometry (delete name time room) L = refl
done-geometry (resize name size time room) L = either (ltb size (file_of L name).entry.size) _ _ L refl (either (eqb (length (zero_bytes _)) 0) L _ L refl refl)
done-geometry (write name offset bytes time room) L = either (eqb (length bytes) 0) L _ L refl refl
done-geometry (rename old new time room) L = either (equal_bytes old new) L _ L refl refl
done-geometry (rename_set names lengths time room) L = renames-geometry time (pairs_of (names_of names lengths)) L

cut-geometry : (c : Call) (L : Ledger) (mask : List Bool) → ((step c L).cut mask).geometry ≡ L.geometry
unfolding step
cut-geometry summary L mask = refl
cut-geometry check L mask = refl
cut-geometry (find name) L mask = refl
cut-geometry (list k time room space) L mask = refl
cut-geometry (read name offset count time room space) L mask = refl
cut-geometry (create name id mode time room) L mask = refl
cut-geometry (delete name time room) L mask = refl
cut-geometry (resize name size time room) L mask = refl
cut-geometry (write name offset bytes time room) L mask = refl
cut-geometry (rename old new time room) L mask = refl
cut-geometry (rename_set names lengths time room) L mask = refl

fed-geometry : (f : Feed) (L : Ledger) → (fed f L).geometry ≡ L.geometry
fed-geometry (whole c) L = go (eqb (number_of (answer c L)) 0)
  where
    go : (b : Bool) → (cond b (step c L).done L).geometry ≡ L.geometry
    go true = done-geometry c L
    go false = refl
fed-geometry (cut_marked c) L = done-geometry c L
fed-geometry (cut_unmarked c mask) L = cut-geometry c L mask

ledger-geometry : (L : Ledger) (fs : List Feed) → (ledger_from L fs).geometry ≡ L.geometry
unfolding ledger_from
ledger-geometry L [] = refl
ledger-geometry L (f ∷ fs) = fed-geometry f (ledger_from L fs) ∙ ledger-geometry L fs

-- NO RUN TURNS ONE EDITION INTO THE OTHER, nor changes any of the geometry
pub geometry-kept : {L : Ledger} {img : List ℕ} {fs : List Feed} {rs : List Answer} → SoundRun L steady img fs rs → geometry_on img ≡ L.geometry
geometry-kept {L} {img} {fs} r = (represents r).says.geometry ∙ ledger-geometry L fs
