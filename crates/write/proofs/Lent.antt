-- T-11: what a write or a resize on lent sectors answers; what a step takes; and how answers and lists pass from one length to
-- another that is judged alike. Assumes nothing.
use Prim.Native.Nat.{ℕ, ◌+◌, ◌-◌, ◌/◌, ◌≤◌, ◌<◌, ◌^◌}
use mathlib.Core.Path.{◌≡◌, sym, ap, ◌∙◌}
use mathlib.Core.Bool.{true, cond, ◌&&◌, ◌||◌}
use mathlib.Core.List.{List, []}
use native.Mathlib.Omega.{arith}
use native.Mathlib.Decide.{dec_lt}
use lib.Dec.{eqb, leb, ltb}
use lib.ListN.{length}
use borrow.Author.Tests.{lt-ltb, le-ltb, ltb-true, leb-true, eqb-true}
use Rattle.model.specs.Answers.{Changed, Verdict}
use Rattle.model.specs.declared.Geometry.{Geometry}
use mathlib.Core.Option.{Option}
use Rattle.model.specs.declared.Writing.{Writing}
use Rattle.model.specs.Search.{index_of}
use Rattle.model.specs.Disk.{Disk, view}
use Rattle.model.specs.Catalogue.{Catalogue, catalogue_of, file_named, entry_of}
use Rattle.model.specs.Refusals.{Conditions, judged}
use Rattle.model.specs.WriteList.{Plan, barrier_number, record_size, decided}
use Rattle.model.specs.Read.{longest_transfer, size_named}
use Rattle.model.specs.Write.{write_conditions, write_planned, write_decision, write_answer, write_list}
use Rattle.model.specs.Resize.{resize_conditions, resize_planned, resize_decision, resize_answer, resize_list}
use Rattle.model.specs.Lent.{partly_covered, is_asked, write_asking, write_lent, resize_lent, takes_write}
use Rattle.laws.proofs.Booleans.{and_left, and_right, or_right, or-false}
use Rattle.commit.proofs.Decided.{refused-as-judged}
use Rattle.write.specs.FileWrite.{Asked, Spans, FileWritesTo}
use Rattle.write.specs.FileResize.{FileResizesTo}
use Rattle.write.proofs.Laws.{file-12}
use Rattle.write.proofs.Resizes.{size-far}

-- a span that nothing refuses ends below 2 ^ 63
module _ (img : List ℕ) (g : Geometry) (list : List ℕ) (i size : ℕ) {answer : Changed} {after : List ℕ} where
  pub write-ends : (offset : ℕ) (bytes : List ℕ) (time : ℕ) → Asked img g i size (length bytes)
      → FileWritesTo img i offset bytes time list answer after → answer.verdict.number ≡ 0 → offset + length bytes < 2 ^ 63
  write-ends offset bytes time a r d = go (dec_lt size offset)
    where
      go : Dec (size < offset) → offset + length bytes < 2 ^ 63
      go (yes h) =
          let f = (file-12 img a.judgment.verdict list i offset bytes time size a.says h).0 in
          let n : answer.verdict.number ≡ 12 = ap (λ (x : Changed). x.verdict.number) (r.0 ∙ sym f) in
          absurd (omega arith)
      go (no h) = omega (arith, a.fits, a.short)

  pub resize-ends : (z time : ℕ) → Asked img g i size 0
      → FileResizesTo img i z time list answer after → answer.verdict.number ≡ 0 → z < 2 ^ 63
  resize-ends z time a r d = go (dec_lt (size + longest_transfer) z)
    where
      go : Dec (size + longest_transfer < z) → z < 2 ^ 63
      go (yes h) =
          let f = (size-far img g a.opened list i z time a.judgment.verdict size a.says h).0 in
          let n : answer.verdict.number ≡ 8 = ap (λ (x : Changed). x.verdict.number) (r.0 ∙ sym f) in
          absurd (omega arith)
      go (no h) = omega (arith, a.fits)

-- ---- what is begun

pub asked-spans : (img : List ℕ) (g : Geometry) (i size n end : ℕ) → Asked img g i size n → end < 2 ^ 63 → Spans (catalogue_of (view img)) i size end
asked-spans img g i size n end a h = record { file = omega (arith, a.file, a.opened.bounded.files-high); says = a.says; ends = h }

pub named-size : (c : Catalogue) (name : List ℕ) (i : ℕ) → i ≡ index_of (file_named c name) → (entry_of c i).size ≡ size_named c name
unfolding size_named
named-size c name i e = ap (λ (j : ℕ). (entry_of c j).size) e

-- ---- the forms, from the calls' answers

module _ (len : ℕ) (d : Disk) (name : List ℕ) (offset : ℕ) (bytes : List ℕ) (time : ℕ) (list : List ℕ) where
  abbrev pub WrittenLent : Writing → List ℕ → Type 0
  WrittenLent w after = (w ≡ write_lent len d name offset bytes time (length list)) × (after ≡ write_list len d name offset bytes time list)

  pub write-lent : {a : Changed} → a ≡ write_answer len d name offset bytes time (length list)
      → write_asking a (cond (eqb a.length 0) [] (partly_covered (catalogue_of d) (index_of (file_named (catalogue_of d) name)) offset (length bytes)))
      ≡ write_lent len d name offset bytes time (length list)
  unfolding write_lent
  write-lent r =
      let ps = partly_covered (catalogue_of d) (index_of (file_named (catalogue_of d) name)) offset (length bytes) in
      ap (λ (x : Changed). write_asking x (cond (eqb x.length 0) [] ps)) r

  pub refused-write : (v : Verdict) → v ≡ judged len d → (v.number ≡ 0 → ⊥)
      → (record { verdict = v; length = 0 } ≡ write_answer len d name offset bytes time (length list)) × (list ≡ write_list len d name offset bytes time list)
  unfolding write_answer write_list write_decision
  refused-write v e n =
      refused-as-judged len d (write_conditions (catalogue_of d) name offset (length bytes) time)
      (write_planned (catalogue_of d) (index_of (file_named (catalogue_of d) name)) d offset bytes time) list v e n

  -- 1 to 7
  pub refused-write-lent : (v : Verdict) → v ≡ judged len d → (v.number ≡ 0 → ⊥) → WrittenLent (write_asking (record { verdict = v; length = 0 }) []) list
  refused-write-lent v e n = let r = refused-write v e n in (write-lent r.0, r.1)

module _ (len : ℕ) (d : Disk) (name : List ℕ) (z time : ℕ) (list : List ℕ) where
  abbrev pub ResizedLent : Writing → List ℕ → Type 0
  ResizedLent w after = (w ≡ resize_lent len d name z time (length list)) × (after ≡ resize_list len d name z time list)

  module _ {a : Changed} (r : a ≡ resize_answer len d name z time (length list)) where
    pub resize-lent : write_asking a (cond (eqb a.length 0 || ltb z (size_named (catalogue_of d) name)) []
        (partly_covered (catalogue_of d) (index_of (file_named (catalogue_of d) name)) (size_named (catalogue_of d) name) (z - size_named (catalogue_of d) name)))
        ≡ resize_lent len d name z time (length list)
    unfolding resize_lent
    resize-lent =
        let size = size_named (catalogue_of d) name in
        let ps = partly_covered (catalogue_of d) (index_of (file_named (catalogue_of d) name)) size (z - size) in
        ap (λ (x : Changed). write_asking x (cond (eqb x.length 0 || ltb z size) [] ps)) r

    -- the file shrinks; or it doesn't
    pub resize-lent-less : z < size_named (catalogue_of d) name → write_asking a [] ≡ resize_lent len d name z time (length list)
    resize-lent-less l = rw (or_right (eqb a.length 0) (ltb z (size_named (catalogue_of d) name)) (lt-ltb z (size_named (catalogue_of d) name) l)) at resize-lent

    pub resize-lent-more : {i size : ℕ} → i ≡ index_of (file_named (catalogue_of d) name) → size ≡ size_named (catalogue_of d) name → size ≤ z
        → write_asking a (cond (eqb a.length 0) [] (partly_covered (catalogue_of d) i size (z - size))) ≡ resize_lent len d name z time (length list)
    resize-lent-more is says l = rw (is, says) (rw (le-ltb z (size_named (catalogue_of d) name) (rw (← says) l), or-false) at resize-lent)

  pub refused-resize : (v : Verdict) → v ≡ judged len d → (v.number ≡ 0 → ⊥)
      → (record { verdict = v; length = 0 } ≡ resize_answer len d name z time (length list)) × (list ≡ resize_list len d name z time list)
  unfolding resize_answer resize_list resize_decision
  refused-resize v e n =
      refused-as-judged len d (resize_conditions (catalogue_of d) name z time) (resize_planned (catalogue_of d) d (index_of (file_named (catalogue_of d) name)) z time) list v e n

  pub refused-resize-lent : (v : Verdict) → v ≡ judged len d → (v.number ≡ 0 → ⊥) → ResizedLent (write_asking (record { verdict = v; length = 0 }) []) list
  refused-resize-lent v e n = let r = refused-resize v e n in (resize-lent r.0, r.1)

-- ---- a step

module _ (w : Writing) (n room : ℕ) where
  pub takes-yes : takes_write w n room ≡ true
      → (n ≡ 512) × (w.wanted.from ≤ w.wanted.to) × (w.wanted.to ≤ 512) × (w.wanted.position < room / record_size)
  unfolding takes_write is_asked
  takes-yes e =
      let p = w.wanted in
      let asked = ltb 0 p.sector && ltb p.sector barrier_number && eqb n 512 in
      let a = and_left (asked && leb p.from p.to && leb p.to 512) (ltb p.position (room / record_size)) e in
      let b = and_left (asked && leb p.from p.to) (leb p.to 512) a in (
        eqb-true n 512 (and_right (ltb 0 p.sector && ltb p.sector barrier_number) (eqb n 512) (and_left asked (leb p.from p.to) b)),
        leb-true p.from p.to (and_right asked (leb p.from p.to) b),
        leb-true p.to 512 (and_right (asked && leb p.from p.to) (leb p.to 512) a),
        ltb-true p.position (room / record_size) (and_right (asked && leb p.from p.to && leb p.to 512) (ltb p.position (room / record_size)) e),
      )

-- ---- one length for another that is judged alike

module _ (len len' : ℕ) (d : Disk) (e : judged len d ≡ judged len' d) where
  decided-alike : (cs : Conditions) (plan : Option Plan) (room : ℕ) → decided len d cs plan room ≡ decided len' d cs plan room
  unfolding decided
  decided-alike cs plan room = rw e

  module _ (name : List ℕ) (offset : ℕ) (bytes : List ℕ) (time : ℕ) where
    write-alike : (room : ℕ) → write_decision len d name offset bytes time room ≡ write_decision len' d name offset bytes time room
    unfolding write_decision
    write-alike room =
        decided-alike (write_conditions (catalogue_of d) name offset (length bytes) time)
        (write_planned (catalogue_of d) (index_of (file_named (catalogue_of d) name)) d offset bytes time) room

    pub same_write : (room : ℕ) → write_answer len d name offset bytes time room ≡ write_answer len' d name offset bytes time room
    unfolding write_answer
    same_write room = rw (write-alike room)

    pub same-write-list : (list : List ℕ) → write_list len d name offset bytes time list ≡ write_list len' d name offset bytes time list
    unfolding write_list
    same-write-list list = rw (write-alike (length list))

    pub same-write-lent : (room : ℕ) → write_lent len d name offset bytes time room ≡ write_lent len' d name offset bytes time room
    unfolding write_lent
    same-write-lent room =
        let ps = partly_covered (catalogue_of d) (index_of (file_named (catalogue_of d) name)) offset (length bytes) in
        ap (λ (x : Changed). write_asking x (cond (eqb x.length 0) [] ps)) (same_write room)

  module _ (name : List ℕ) (z time : ℕ) where
    resize-alike : (room : ℕ) → resize_decision len d name z time room ≡ resize_decision len' d name z time room
    unfolding resize_decision
    resize-alike room =
        decided-alike (resize_conditions (catalogue_of d) name z time) (resize_planned (catalogue_of d) d (index_of (file_named (catalogue_of d) name)) z time) room

    pub same-resize : (room : ℕ) → resize_answer len d name z time room ≡ resize_answer len' d name z time room
    unfolding resize_answer
    same-resize room = rw (resize-alike room)

    pub same-resize-list : (list : List ℕ) → resize_list len d name z time list ≡ resize_list len' d name z time list
    unfolding resize_list
    same-resize-list list = rw (resize-alike (length list))

    pub same-resize-lent : (room : ℕ) → resize_lent len d name z time room ≡ resize_lent len' d name z time room
    unfolding resize_lent
    same-resize-lent room =
        let size = size_named (catalogue_of d) name in
        let ps = partly_covered (catalogue_of d) (index_of (file_named (catalogue_of d) name)) size (z - size) in
        ap (λ (x : Changed). write_asking x (cond (eqb x.length 0 || ltb z size) [] ps)) (same-resize room)
