-- T-05: "On a waiting volume with d differing entries, budget b, no refusal and no cut, recovery is finished after d / b rounded up, plus 1,
-- calls; the last reports 1, the others together d."
use Rattle.std.specs.Prelude.{ℕ, zero, suc, ◌+◌, ◌-◌, ◌/◌, ◌≤◌, ◌≡◌, List, length}
use Rattle.model.specs.Answers.{Sliced}
use Rattle.model.specs.declared.State.TheVariants.{Clean, Waiting}
use Rattle.model.specs.Search.{count_below}
use Rattle.model.specs.Disk.{view}
use Rattle.model.specs.Superblock.{state_on}
use Rattle.model.specs.WriteList.{stored, closed}
use Rattle.model.specs.Recovery.{differs, slice_listed, slice_answer}
use Rattle.safety.specs.Room.{geometry_on}

-- the image after k slices of a budget, each landed whole; slice k, from 0 on, was lent a list of rooms k bytes
unfoldable pub sliced_image : ℕ → (ℕ → ℕ) → List ℕ → ℕ → List ℕ
sliced_image b rooms img zero = img
sliced_image b rooms img (suc k) =
    let out = sliced_image b rooms img k in
    stored (closed (slice_listed (length out) (view out) b (rooms k))) out

-- what slice k answers, and what the first k report together
abbrev pub slice_at : ℕ → (ℕ → ℕ) → List ℕ → ℕ → Sliced
slice_at b rooms img k = let out = sliced_image b rooms img k in slice_answer (length out) (view out) b (rooms k)

unfoldable pub reported : ℕ → (ℕ → ℕ) → List ℕ → ℕ → ℕ
reported b rooms img zero = 0
reported b rooms img (suc k) = reported b rooms img k + (slice_at b rooms img k).count

-- how many of n entries differ
abbrev pub differing : ℕ → List ℕ → ℕ
differing n img = count_below (differs (geometry_on img) (view img)) n

-- the volume waits until the last of calls + 1 slices, and is clean after it
pub record Finishes (n b : ℕ) (rooms : ℕ → ℕ) (img : List ℕ) (calls : ℕ) : Type 0 where
  pub waits : (k : ℕ) → k ≤ calls → state_on (view (sliced_image b rooms img k)) ≡ Waiting n
  pub clean : state_on (view (sliced_image b rooms img (calls + 1))) ≡ Clean
  pub last : (slice_at b rooms img calls).count ≡ 1
  pub others : reported b rooms img calls ≡ differing n img

-- d / b rounded up
abbrev pub rounded_up : ℕ → ℕ → ℕ
rounded_up d b = (d + (b - 1)) / b

unfoldable pub SliceCalls : Type 0
SliceCalls =
    (img : List ℕ) (n b : ℕ) (rooms : ℕ → ℕ) → state_on (view img) ≡ Waiting n
    → ((k : ℕ) → k ≤ rounded_up (differing n img) b → (slice_at b rooms img k).number ≡ 0)
    → Finishes n b rooms img (rounded_up (differing n img) b)
