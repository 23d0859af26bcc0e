-- Where check refuses an image, every call that judges it answers the same. Assumes nothing.
use Prim.Native.Nat.{ℕ}
use mathlib.Core.Path.{◌≡◌, refl, ap, ◌∙◌}
use mathlib.Core.Logic.{◌≢◌}
use mathlib.Core.Bool.{Bool, false, cond}
use mathlib.Core.List.{List, []}
use mathlib.Core.Option.{Option, none}
use lib.ListN.{length}
use borrow.Author.Tests.{ne_eqb}
use Rattle.model.specs.Answers.{Verdict, BytesRead}
use Rattle.model.specs.Bytes.{put}
use Rattle.model.specs.Search.{tabulate, index_of}
use Rattle.model.specs.Disk.{Disk, view}
use Rattle.model.specs.Refusals.{Conditions, verdict_of, and_then, given, is_done, judged}
use Rattle.model.specs.Catalogue.{catalogue_of, file_named, entry_of, file_bytes}
use Rattle.model.specs.WriteList.{Plan, Decision, groups_for, plan_conditions, decided, answer_of, list_after}
use Rattle.model.specs.Summary.{check_answer}
use Rattle.model.specs.Find.{name_conditions, not_found, found_by, find_answer}
use Rattle.model.specs.Listing.{not_listed, list_planned, list_decision, listed_of, copied_of, list_answer, list_copies, list_output, listing_list}
use Rattle.model.specs.Read.{not_read, read_planned, read_decision, read_of, read_answer, read_gives, read_output, read_list}
use Rattle.model.specs.Create.{create_decision, create_answer, create_list}
use Rattle.model.specs.Delete.{delete_decision, delete_answer, delete_list}
use Rattle.model.specs.Resize.{resize_decision, resize_answer, resize_list}
use Rattle.model.specs.Write.{write_decision, write_answer, write_list}
use Rattle.model.specs.Rename.{rename_decision, rename_answer, rename_list}
use Rattle.model.specs.RenameSet.{rename_set_decision, rename_set_answer, rename_set_list}
use Rattle.laws.proofs.Bytes.{put-nil}
use Rattle.laws.proofs.WriteList.{emit-nil}
use Rattle.safety.specs.Refused.{not_changed, RefusedWith}

refused-then : (v later : Verdict) → is_done v ≡ false → and_then v later ≡ v
refused-then v later e = ap (λ (b : Bool). cond b later v) e

given-refused {ℓ} : {A : Type ℓ} (v : Verdict) (x : A) (f : Verdict → A) → is_done v ≡ false → given v x f ≡ f v
given-refused v x f e = ap (λ (b : Bool). cond b x (f v)) e

module _ (img : List ℕ) (ne : (check_answer (length img) (view img)).verdict.number ≢ 0) where
  abbrev len : ℕ
  len = length img

  abbrev d : Disk
  d = view img

  abbrev v : Verdict
  v = judged (length img) (view img)

  no : is_done (judged (length img) (view img)) ≡ false
  unfolding check_answer
  no = ne_eqb _ 0 ne

  -- a changing call decides nothing
  pub decides : (cs : Conditions) (plan : Option Plan) (room : ℕ) → decided (length img) (view img) cs plan room ≡ record { verdict = judged (length img) (view img); plan = none }
  unfolding decided
  decides cs plan room =
      let later = and_then (verdict_of cs) (verdict_of (plan_conditions d plan room)) in
      (λ i. record { verdict = refused-then v later no i; plan = cond (is_done (refused-then v later no i)) plan none })
      ∙ (λ i. record { verdict = v; plan = cond (no i) plan none })

  refuses-change : (x : Decision) (list : List ℕ) → x ≡ record { verdict = judged (length img) (view img); plan = none }
      → (answer_of (view img) x ≡ not_changed (judged (length img) (view img))) × (list_after (view img) x list ≡ list)
  unfolding groups_for
  refuses-change x list e = (ap (answer_of d) e, ap (λ (y : Decision). list_after d y list) e ∙ emit-nil list 0)

  refuses-find : (name : List ℕ) → find_answer (length img) (view img) name ≡ not_found (judged (length img) (view img))
  unfolding find_answer found_by
  refuses-find name =
      ap (λ (u : Verdict). found_by u (catalogue_of d) name) (refused-then v (verdict_of (name_conditions (catalogue_of d) name)) no) ∙ given-refused v _ not_found no

  -- list and read decide nothing too, so that they give nothing
  refuses-list : (i time : ℕ) (out list : List ℕ)
      → (list_answer (length img) (view img) i time (length out) (length list) ≡ not_listed (judged (length img) (view img)))
      × (list_output (length img) (view img) i time out (length list) ≡ out) × (listing_list (length img) (view img) i time (length out) list ≡ list)
  unfolding list_answer list_decision listed_of list_output list_copies copied_of listing_list
  refuses-list i time out list =
      let x = decides _ (list_planned (catalogue_of d) d time) (length list) in (
        ap (λ (y : Decision). listed_of y d i) x ∙ given-refused v _ not_listed no,
        ap (λ (y : Decision). put out 0 (copied_of y d i)) x ∙ ap (put out 0) (given-refused v (entry_of (catalogue_of d) i).name (λ u. []) no) ∙ put-nil out 0,
        (refuses-change _ list x).1,
      )

  refuses-read : (name : List ℕ) (offset asked time : ℕ) (out list : List ℕ)
      → (read_answer (length img) (view img) name offset asked time (length out) (length list) ≡ not_read (judged (length img) (view img)))
      × (read_output (length img) (view img) name offset asked time out (length list) ≡ out)
      × (read_list (length img) (view img) name offset asked time (length out) list ≡ list)
  unfolding read_answer read_decision read_of read_output read_gives file_bytes tabulate read_list
  refuses-read name offset asked time out list =
      let i = index_of (file_named (catalogue_of d) name) in
      let x = decides _ (read_planned (catalogue_of d) d i time) (length list) in
      let e = ap (λ (y : Decision). read_of y d name offset asked) x ∙ given-refused v _ not_read no in
      (e, ap (λ (r : BytesRead). put out 0 (file_bytes (catalogue_of d) d i offset r.count)) e ∙ put-nil out 0, (refuses-change _ list x).1)

  -- EVERY CALL ANSWERS WHAT CHECK DOES
  pub refused-alike : RefusedWith (check_answer (length img) (view img)).verdict img
  unfolding check_answer create_answer create_list create_decision delete_answer delete_list delete_decision resize_answer resize_list resize_decision write_answer write_list
      write_decision rename_answer rename_list rename_decision rename_set_answer rename_set_list rename_set_decision
  refused-alike = record {
    check = refl;
    find = refuses-find;
    list = refuses-list;
    read = refuses-read;
    create = λ name id mode time list. refuses-change _ list (decides _ _ (length list));
    delete = λ name time list. refuses-change _ list (decides _ _ (length list));
    resize = λ name size time list. refuses-change _ list (decides _ _ (length list));
    write = λ name offset bytes time list. refuses-change _ list (decides _ _ (length list));
    rename = λ old new time list. refuses-change _ list (decides _ _ (length list));
    rename_set = λ names lengths time list. refuses-change _ list (decides _ _ (length list));
  }
