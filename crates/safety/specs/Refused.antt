-- WHAT THE CALLS ANSWER WHERE CHECK REFUSES: its verdict, "all other result numbers are then 0 (except with 7), .., and no buffer changes".
use Rattle.std.specs.Prelude.{ℕ, ◌≡◌, List, length}
use Rattle.model.specs.Answers.{Verdict, Changed}
use Rattle.model.specs.Disk.{view}
use Rattle.model.specs.Summary.{check_answer}
use Rattle.model.specs.Find.{not_found, find_answer}
use Rattle.model.specs.Listing.{not_listed, list_answer, list_output, listing_list}
use Rattle.model.specs.Read.{not_read, read_answer, read_output, read_list}
use Rattle.model.specs.Create.{create_answer, create_list}
use Rattle.model.specs.Delete.{delete_answer, delete_list}
use Rattle.model.specs.Resize.{resize_answer, resize_list}
use Rattle.model.specs.Write.{write_answer, write_list}
use Rattle.model.specs.Rename.{rename_answer, rename_list}
use Rattle.model.specs.RenameSet.{rename_set_answer, rename_set_list}

abbrev pub not_changed : Verdict → Changed
not_changed v = record { verdict = v; length = 0 }

-- every call but format, summary, recovery and carrying out answers v; out is a lent output, list a lent list
pub record RefusedWith (v : Verdict) (img : List ℕ) : Type 0 where
  pub check : check_answer (length img) (view img) ≡ record { verdict = v }
  pub find : (name : List ℕ) → find_answer (length img) (view img) name ≡ not_found v
  pub list : (i time : ℕ) (out list : List ℕ)
      → (list_answer (length img) (view img) i time (length out) (length list) ≡ not_listed v)
      × (list_output (length img) (view img) i time out (length list) ≡ out) × (listing_list (length img) (view img) i time (length out) list ≡ list)
  pub read : (name : List ℕ) (offset asked time : ℕ) (out list : List ℕ)
      → (read_answer (length img) (view img) name offset asked time (length out) (length list) ≡ not_read v)
      × (read_output (length img) (view img) name offset asked time out (length list) ≡ out)
      × (read_list (length img) (view img) name offset asked time (length out) list ≡ list)
  pub create : (name : List ℕ) (id mode time : ℕ) (list : List ℕ)
      → (create_answer (length img) (view img) name id mode time (length list) ≡ not_changed v)
      × (create_list (length img) (view img) name id mode time list ≡ list)
  pub delete : (name : List ℕ) (time : ℕ) (list : List ℕ)
      → (delete_answer (length img) (view img) name time (length list) ≡ not_changed v) × (delete_list (length img) (view img) name time list ≡ list)
  pub resize : (name : List ℕ) (size time : ℕ) (list : List ℕ)
      → (resize_answer (length img) (view img) name size time (length list) ≡ not_changed v)
      × (resize_list (length img) (view img) name size time list ≡ list)
  pub write : (name : List ℕ) (offset : ℕ) (bytes : List ℕ) (time : ℕ) (list : List ℕ)
      → (write_answer (length img) (view img) name offset bytes time (length list) ≡ not_changed v)
      × (write_list (length img) (view img) name offset bytes time list ≡ list)
  pub rename : (old new : List ℕ) (time : ℕ) (list : List ℕ)
      → (rename_answer (length img) (view img) old new time (length list) ≡ not_changed v)
      × (rename_list (length img) (view img) old new time list ≡ list)
  pub rename_set : (names lengths : List ℕ) (time : ℕ) (list : List ℕ)
      → (rename_set_answer (length img) (view img) names lengths time (length list) ≡ not_changed v)
      × (rename_set_list (length img) (view img) names lengths time list ≡ list)
