-- BYTES OUTSIDE A CUT WRITE ARE UNTOUCHED, whether it is done in the end or not; and which bytes stand inside one that is not. Assumes
-- nothing.
use Prim.Native.Nat.{ℕ, ◌+◌, ◌*◌, ◌-◌, ◌/◌, ◌%◌, ◌≤◌, ◌<◌, max}
use mathlib.Core.Path.{◌≡◌, refl, sym, ap, ◌∙◌}
use mathlib.Core.Logic.{◌⊎◌, inl, inr, ⊎_elim}
use mathlib.Core.Bool.{Bool, true, false}
use mathlib.Core.List.{List}
use mathlib.Core.Option.{some}
use native.Mathlib.Omega.{arith}
use native.Mathlib.Nat.{zero-add}
use lib.ListN.{length, get_or}
use Rattle.model.specs.Bytes.{bytes_from, put}
use Rattle.model.specs.Disk.{view}
use Rattle.model.specs.WriteList.{Plan, stored, groups_for}
use Rattle.model.specs.Cut.{Cut, landed, start_mark}
use Rattle.model.specs.Ledger.{Ledger, Answer, Feed, write}
use Rattle.model.specs.Run.{volume_plan, Fits, steady}
use Rattle.laws.proofs.Bytes.{get_or-bytes_from, get_or-put-other, get_or-put-same}
use Rattle.safety.specs.Described.{SoundRun}
use Rattle.safety.specs.HalfWritten.{HalfWritten}
use Rattle.safety.specs.Naming.{Contents, file_on}
use Rattle.safety.proofs.Commit.{RecoveredTo}
use Rattle.safety.proofs.CutWrites.{write-cut-done, write-cut-torn}

-- byte k of a string by the sector that holds it
in-sector : (s : List ℕ) (k : ℕ) → get_or s k 0 ≡ get_or (bytes_from s (512 * (k / 512)) 512) (k % 512) 0
in-sector s k = let e : 512 * (k / 512) + k % 512 ≡ k = omega arith in sym (get_or-bytes_from s (512 * (k / 512)) 512 (k % 512) (omega arith) ∙ ap (λ (n : ℕ). get_or s n 0) e)

module _ (old : List ℕ) (offset : ℕ) (bytes now : List ℕ) (h : HalfWritten old offset bytes now) (k : ℕ) where
  old-or-new : (get_or now k 0 ≡ get_or old k 0) ⊎ (get_or now k 0 ≡ get_or (put old offset bytes) k 0)
  old-or-new =
      ⊎_elim (λ e. inl (in-sector now k ∙ ap (λ (s : List ℕ). get_or s (k % 512) 0) e ∙ sym (in-sector old k)))
      (λ e. inr (in-sector now k ∙ ap (λ (s : List ℕ). get_or s (k % 512) 0) e ∙ sym (in-sector (put old offset bytes) k))) (h.sectors (k / 512))

  -- in a file that was half written, a byte outside the span is the old one
  pub torn-outside : (offset ≤ k → k < offset + length bytes → ⊥) → get_or now k 0 ≡ get_or old k 0
  torn-outside out = ⊎_elim (λ e. e) (λ e. e ∙ get_or-put-other old offset bytes k out) old-or-new

  -- and one inside it the old or the new one
  pub torn-inside : k < length old → offset ≤ k → k < offset + length bytes → (get_or now k 0 ≡ get_or old k 0) ⊎ (get_or now k 0 ≡ get_or bytes (k - offset) 0)
  torn-inside l a b =
      let z : offset + (k - offset) ≡ k = omega arith in
      ⊎_elim inl (λ e. inr (e ∙ ap (λ (n : ℕ). get_or (put old offset bytes) n 0) (sym z) ∙ get_or-put-same old offset bytes (k - offset) (omega arith) (omega arith))) old-or-new

module _ {L₀ : Ledger} {img img' : List ℕ} {fs : List Feed} {rs : List Answer} (name : List ℕ) (offset : ℕ) (bytes : List ℕ) (time room : ℕ) (p : Plan) (x : Cut)
    (r : SoundRun L₀ steady img fs rs) (fit : Fits (write name offset bytes time room)) (planned : volume_plan (write name offset bytes time room) img ≡ some p)
    (m : RecoveredTo (stored (landed x (groups_for (view img) (some p))) img) img') (old : Contents) (there : file_on img name ≡ some old) where
  -- A BYTE OF THE FILE OUTSIDE THE SPAN, after a write that was cut anywhere and the recovery that was completed
  pub write-cut-outside : (k : ℕ) → k < old.entry.size → (offset ≤ k → k < offset + length bytes → ⊥)
      → (now : Contents) × (file_on img' name ≡ some now) × (get_or now.bytes k 0 ≡ get_or old.bytes k 0)
  write-cut-outside k l out = go (start_mark x) refl
    where
      go : (b : Bool) → start_mark x ≡ b → (now : Contents) × (file_on img' name ≡ some now) × (get_or now.bytes k 0 ≡ get_or old.bytes k 0)
      go true e =
          let size = max old.entry.size (offset + length bytes) in (
            _,
            write-cut-done name offset bytes time room p x r fit planned m old there e,
            get_or-put-other (bytes_from old.bytes 0 size) offset bytes k out ∙ get_or-bytes_from old.bytes 0 size k (omega arith) ∙ ap (λ (n : ℕ). get_or old.bytes n 0) (zero-add k),
          )
      go false e =
          let t = write-cut-torn name offset bytes time room p x r fit planned m old there e in
          (_, t.1, torn-outside old.bytes offset bytes t.0 t.2 k out)
