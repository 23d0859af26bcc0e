-- Laws of `view`: an image's sectors. Assumes nothing.
use Prim.Native.Nat.{ℕ, ◌+◌, ◌*◌, ◌/◌, ◌%◌, ◌≤◌, ◌<◌}
use mathlib.Core.Path.{◌≡◌, sym, ap, ◌∙◌}
use mathlib.Core.Logic.{◌≢◌}
use mathlib.Core.List.{List}
use native.Mathlib.Omega.{arith}
use native.Mathlib.Decide.{dec_lt}
use lib.ListN.{length, get_or}
use lib.Seq.{ext_get_or}
use Rattle.model.specs.Bytes.{be_at, put}
use Rattle.model.specs.Disk.{Disk, view}
use Rattle.laws.proofs.Bytes.{length-bytes_from, be_at-bytes_from, get_or-bytes_from, bytes_from-put-same, bytes_from-put-other}

pub length-view : (img : List ℕ) (k : ℕ) → length (view img k) ≡ 512
unfolding view
length-view img k = length-bytes_from img (512 * k) 512

pub be_at-view : (img : List ℕ) (k o w : ℕ) → o + w ≤ 512 → be_at (view img k) o w ≡ be_at img (512 * k + o) w
unfolding view
be_at-view img k o w h = be_at-bytes_from img (512 * k) 512 o w h

pub get_or-view : (img : List ℕ) (k i : ℕ) → i < 512 → get_or (view img k) i 0 ≡ get_or img (512 * k + i) 0
unfolding view
get_or-view img k i h = get_or-bytes_from img (512 * k) 512 i h

-- ---- a sector stored

pub view-same : (img c : List ℕ) (k : ℕ) → 512 * k + 512 ≤ length img → length c ≡ 512 → view (put img (512 * k) c) k ≡ c
unfolding view
view-same img c k f l = bytes_from-put-same img (512 * k) c 512 l f

pub view-other : (img c : List ℕ) (k j : ℕ) → length c ≡ 512 → j ≢ k → view (put img (512 * k) c) j ≡ view img j
unfolding view
view-other img c k j l ne = bytes_from-put-other img (512 * k) c (512 * j) 512 (go (dec_lt j k))
  where
    go : Dec (j < k) → (i : ℕ) → 512 * j ≤ i → i < 512 * j + 512 → 512 * k ≤ i → i < 512 * k + length c → ⊥
    go (yes h) i p q r s = omega arith
    go (no h) i p q r s = let t : k < j = omega arith in omega arith

-- ---- two images of one length that show the same sectors are the same

byte_at : (img : List ℕ) (i : ℕ) → get_or img i 0 ≡ get_or (view img (i / 512)) (i % 512) 0
byte_at img i =
    let m : i % 512 < 512 = omega arith in
    let e : 512 * (i / 512) + i % 512 ≡ i = omega arith in
    sym (get_or-view img (i / 512) (i % 512) m ∙ ap (λ k. get_or img k 0) e)

pub same_view : (a b : List ℕ) → length a ≡ length b → view a ≡ view b → a ≡ b
same_view a b l e = ext_get_or 0 a b l (λ i h. byte_at a i ∙ ap (λ (d : Disk). get_or (d (i / 512)) (i % 512) 0) e ∙ sym (byte_at b i))
