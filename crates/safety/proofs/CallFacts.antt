-- WHAT EVERY CALL HAS TO SHOW, and that each one does: a clause for each call. The theorems of a run take nothing else of the calls. So the
-- ledger keeps what it says of a file while no call names it. Assumes nothing.
use Prim.Native.Nat.{ℕ}
use mathlib.Core.Path.{◌≡◌, refl, sym, ap, subst}
use mathlib.Core.Bool.{Bool, true, false, cond}
use mathlib.Core.List.{List}
use mathlib.Core.Option.{none}
use lib.Dec.{eqb, ltb}
use borrow.Author.Tests.{eqb-true}
use Rattle.model.specs.Ledger.{Ledger, file_of, Call, summary, check, find, list, read, create, delete, resize, write}
use Rattle.model.specs.Ledger.{number_of, partly_written, step, answer, Feed, whole, cut_marked, cut_unmarked, is_frozen}
use Rattle.model.specs.Ledger.{rename, rename_set, names_of, accessed_entry, accessed_file, call_of, fed}
use Rattle.model.specs.Run.{on_volume, volume_answer, volume_plan, Fits}
use Rattle.safety.specs.Naming.{Spares, file_in}
use Rattle.safety.specs.Neighbours.{Accepted}
use Rattle.safety.proofs.Induction.{Effect, nothing}
use Rattle.safety.proofs.Rep.{Rep, summary-same, check-same, find-same}
use Rattle.safety.proofs.Read.{read_same}
use Rattle.safety.proofs.Access.{list_same, list-effect, read-effect}
use Rattle.safety.proofs.Create.{create-same, create-effect}
use Rattle.safety.proofs.Delete.{delete-same, delete-effect}
use Rattle.safety.proofs.Resize.{resize-same, resize-effect}
use Rattle.safety.proofs.Write.{write_same, write-effect}
use Rattle.safety.proofs.Rename.{rename-same, rename-effect}
use Rattle.safety.proofs.RenameSet.{set_same, set-effect, set-passed}
use Rattle.safety.proofs.Naming.{read_found, create-fresh, delete-found, resize-found, write-found, rename-found}
use Rattle.safety.proofs.Naming.{rooted-other, created-other, freed-other, renewed-other, resized-other, written-other, renamed-other, renames-other}

pub record CallFacts (c : Call) : Type 0 where
  -- its answer is the ledger's, and its effect, whole or cut
  pub same : (L : Ledger) (img : List ℕ) → Rep L img → Fits c → volume_answer c img ≡ answer c L
  pub effect : (L : Ledger) (img : List ℕ) → Rep L img → Fits c → Effect Rep c L img
  -- done, or cut before its start mark, it leaves what is said of a file that it does not name
  pub done-other : (L : Ledger) (n : List ℕ) → Spares c n → number_of (answer c L) ≡ 0 → file_in (step c L).done n ≡ file_in L n
  pub cut-other : (L : Ledger) (n : List ℕ) → Spares c n → number_of (answer c L) ≡ 0 → (mask : List Bool) → file_in ((step c L).cut mask) n ≡ file_in L n

-- of a call that only reads
reads : (c : Call) → ((L : Ledger) (img : List ℕ) → Rep L img → volume_answer c img ≡ answer c L) → ((img : List ℕ) → volume_plan c img ≡ none)
    → ((L : Ledger) → (step c L).done ≡ L) → ((L : Ledger) (mask : List Bool) → (step c L).cut mask ≡ L) → CallFacts c
reads c same none-planned done cut = record {
  same = λ L img h f. same L img h;
  effect = λ L img h f. nothing (none-planned img) (either L img (eqb (number_of (answer c L)) 0) h);
  done-other = λ L n ne e. ap (λ (X : Ledger). file_in X n) (done L);
  cut-other = λ L n ne e mask. ap (λ (X : Ledger). file_in X n) (cut L mask);
}
  where
    either : (L : Ledger) (img : List ℕ) (b : Bool) → Rep L img → Rep (cond b (step c L).done L) img
    either L img true h = subst (λ (X : Ledger). Rep X img) (sym (done L)) h
    either L img false h = h

-- a call that changes nothing where the volume is frozen
either-other : (b : Bool) (L X : Ledger) (n : List ℕ) → file_in X n ≡ file_in L n → file_in (cond b L X) n ≡ file_in L n
either-other true L X n e = refl
either-other false L X n e = e

pub facts : (c : Call) → CallFacts c
unfolding on_volume step accessed_entry
facts summary = reads summary summary-same (λ img. refl) (λ L. refl) (λ L mask. refl)
facts check = reads check check-same (λ img. refl) (λ L. refl) (λ L mask. refl)
facts (find name) = reads (find name) (λ L img h. find-same L img h name) (λ img. refl) (λ L. refl) (λ L mask. refl)
facts (list i time room space) = record {
  same = λ L img h f. list_same L img h i time room space;
  effect = λ L img h f. list-effect L img h i time room space f.2;
  done-other = λ L n ne e. either-other (is_frozen L) L _ n (rooted-other L _ n);
  cut-other = λ L n ne e mask. refl;
}
facts (read name offset count time room space) = record {
  same = λ L img h f. read_same L img h name offset count time room space;
  effect = λ L img h f. read-effect L img h name offset count time room space f.2;
  done-other = λ L n ne e. either-other (is_frozen L) L _ n
      (renewed-other L name n ne.0 (read_found L name offset count time room space e) (accessed_file time (file_of L name)) refl);
  cut-other = λ L n ne e mask. refl;
}
facts (create name id mode time room) = record {
  same = λ L img h f. create-same L img h name id mode time room;
  effect = λ L img h f. create-effect L img h name id mode time room f;
  done-other = λ L n ne e. created-other L name n ne.0 (create-fresh L name id mode time room e) _ id mode time;
  cut-other = λ L n ne e mask. refl;
}
facts (delete name time room) = record {
  same = λ L img h f. delete-same L img h name time room;
  effect = λ L img h f. delete-effect L img h name time room f.2;
  done-other = λ L n ne e. freed-other L name n ne.0 (delete-found L name time room e) _;
  cut-other = λ L n ne e mask. refl;
}
facts (resize name size time room) = record {
  same = λ L img h f. resize-same L img h name size time room;
  effect = λ L img h f. resize-effect L img h name size time room f.2;
  done-other = λ L n ne e. resized-other L name n ne.0 (resize-found L name size time room e) size time (ltb size (file_of L name).entry.size);
  cut-other = λ L n ne e mask. refl;
}
facts (write name offset bytes time room) = record {
  same = λ L img h f. write_same L img h name offset bytes time room;
  effect = λ L img h f. write-effect L img h name offset bytes time room f.2;
  done-other = λ L n ne e. written-other L name n ne.0 (write-found L name offset bytes time room e) offset bytes time;
  cut-other = λ L n ne e mask. renewed-other L name n ne.0 (write-found L name offset bytes time room e)
      (record { entry = (file_of L name).entry; bytes = partly_written (file_of L name) offset bytes mask; extents = (file_of L name).extents }) refl;
}
facts (rename old new time room) = record {
  same = λ L img h f. rename-same L img h old new time room;
  effect = λ L img h f. rename-effect L img h old new time room f.2;
  done-other = λ L n ne e. renamed-other L old n ne.0 (rename-found L old new time room e) new ne.1.0 time;
  cut-other = λ L n ne e mask. refl;
}
facts (rename_set names lengths time room) = record {
  same = λ L img h f. set_same L img h names lengths time room f.2;
  effect = λ L img h f. set-effect L img h names lengths time room f.2;
  done-other = λ L n ne e. renames-other time n (names_of names lengths) ne L (set-passed L names lengths time room e);
  cut-other = λ L n ne e mask. refl;
}

-- ---- what is said of a file that is not named

-- THE LEDGER KEEPS WHAT IT SAYS OF A FILE THAT IS NOT NAMED
pub fed-other : (L : Ledger) (n : List ℕ) (f : Feed) → Accepted f L → Spares (call_of f) n → file_in (fed f L) n ≡ file_in L n
fed-other L n (whole c) a h = go (eqb (number_of (answer c L)) 0) refl
  where
    go : (b : Bool) → eqb (number_of (answer c L)) 0 ≡ b → file_in (cond b (step c L).done L) n ≡ file_in L n
    go true e = (facts c).done-other L n h (eqb-true (number_of (answer c L)) 0 e)
    go false e = refl
fed-other L n (cut_marked c) a h = (facts c).done-other L n h a
fed-other L n (cut_unmarked c mask) a h = (facts c).cut-other L n h a mask
