-- Laws of what a list of writes leaves in each sector of a disk (`over`, `apply`), and the bridge from a list carried out on an image's bytes
-- (`stored`) to it. Assumes nothing.
use Prim.Native.Nat.{ℕ, zero, suc, ◌+◌, ◌*◌, ◌≤◌, ◌<◌}
use mathlib.Core.Path.{◌≡◌, refl, sym, ap, ap₂, ◌∙◌, fun_ext, subst}
use mathlib.Core.Logic.{◌≢◌}
use mathlib.Core.Bool.{Bool, true, false, cond, ◌||◌, true≢false, false≢true}
use mathlib.Core.List.{List, [], ◌∷◌, ◌++◌}
use native.Mathlib.Omega.{arith}
use native.Mathlib.Decide.{dec_lt}
use native.Mathlib.Nat.{not-suc-le-zero, zero-add}
use lib.Dec.{eqb}
use lib.ListN.{length, get_or}
use borrow.Author.Tests.{eqb-true, eqb-false, eq-eqb, ne_eqb}
use Rattle.model.specs.Bytes.{put}
use Rattle.model.specs.Search.{tabulate, concatenated}
use Rattle.model.specs.Disk.{Disk, view}
use Rattle.model.specs.WriteList.{Record, sector_write, barrier_number, barrier, stored, over, apply, hits, Group, closed_after, closed}
use Rattle.model.specs.Cut.{kept, landed_of}
use Rattle.laws.proofs.WriteList.{stored-append}
use Rattle.laws.proofs.Booleans.{or-none}
-- the laws of a set of renames need it too
pub use Rattle.laws.proofs.WriteList.{over-append}
use Rattle.laws.proofs.Bytes.{length-put}
use Rattle.laws.proofs.Disk.{view-same, view-other}

-- ---- what a list of writes leaves in a sector

miss-head : (b c : Bool) (f : List ℕ → List ℕ) (u x : List ℕ) → (b || c) ≡ false → (c ≡ false → f x ≡ x) → f (cond b u x) ≡ x
miss-head true c f u x e t = absurd (true≢false e)
miss-head false c f u x e t = t e

pub over-miss : (ws : Group) (j : ℕ) (x : List ℕ) → hits ws j ≡ false → over ws j x ≡ x
unfolding over hits
over-miss [] j x h = refl
over-miss (w ∷ ws) j x h = miss-head (eqb j w.sector) (hits ws j) (over ws j) w.contents x h (over-miss ws j x)

hit-head : (b c : Bool) (f : List ℕ → List ℕ) (u x y : List ℕ) → (b || c) ≡ true → (c ≡ true → f x ≡ f y) → f (cond b u x) ≡ f (cond b u y)
hit-head true c f u x y e t = refl
hit-head false c f u x y e t = t e

over-hit : (ws : Group) (j : ℕ) (x y : List ℕ) → hits ws j ≡ true → over ws j x ≡ over ws j y
unfolding over hits
over-hit [] j x y h = absurd (false≢true h)
over-hit (w ∷ ws) j x y h = hit-head (eqb j w.sector) (hits ws j) (over ws j) w.contents x y h (over-hit ws j x y)

agree-case : (b : Bool) (ws : Group) (j : ℕ) (x y : List ℕ) → hits ws j ≡ b → (hits ws j ≡ false → x ≡ y) → over ws j x ≡ over ws j y
agree-case true ws j x y e h = over-hit ws j x y e
agree-case false ws j x y e h = ap (over ws j) (h e)

pub apply-nil : (d : Disk) → apply [] d ≡ d
unfolding apply over
apply-nil d = refl

pub apply-append : (a b : Group) (d : Disk) → apply (a ++ b) d ≡ apply b (apply a d)
unfolding apply
apply-append a b d = fun_ext (λ j. over-append a b j (d j))

-- THE LEMMA THAT CARRIES THE COMMIT THEOREM: disks that agree wherever ws writes nothing become equal
pub apply-agree : (ws : Group) (d e : Disk) → ((j : ℕ) → hits ws j ≡ false → d j ≡ e j) → apply ws d ≡ apply ws e
unfolding apply
apply-agree ws d e h = fun_ext (λ j. agree-case (hits ws j) ws j (d j) (e j) refl (h j))

pub apply-miss : (ws : Group) (d : Disk) (j : ℕ) → hits ws j ≡ false → apply ws d j ≡ d j
unfolding apply
apply-miss ws d j h = over-miss ws j (d j) h

-- one write
pub over-here : (w : Record) (ws : Group) (x : List ℕ) → over (w ∷ ws) w.sector x ≡ over ws w.sector w.contents
unfolding over
over-here w ws x = ap (λ (b : Bool). over ws w.sector (cond b w.contents x)) (eq-eqb w.sector w.sector refl)

pub over_skip : (w : Record) (ws : Group) (j : ℕ) (x : List ℕ) → j ≢ w.sector → over (w ∷ ws) j x ≡ over ws j x
unfolding over
over_skip w ws j x ne = ap (λ (b : Bool). over ws j (cond b w.contents x)) (ne_eqb j w.sector ne)

pub over_none : (j : ℕ) (x : List ℕ) → over [] j x ≡ x
unfolding over
over_none j x = refl

-- ---- tests of all records

abbrev pub All : (Record → Type 0) → Group → Type 0
All P [] = Unit {0}
All P (w ∷ ws) = P w × All P ws

module _ (P : Record → Type 0) where
  pub all_append : (a b : Group) → All P a → All P b → All P (a ++ b)
  all_append [] b h k = k
  all_append (w ∷ ws) b h k = (h.0, all_append ws b h.1 k)

  pub all_left : (a b : Group) → All P (a ++ b) → All P a
  all_left [] b h = tt
  all_left (w ∷ ws) b h = (h.0, all_left ws b h.1)

  pub all_right : (a b : Group) → All P (a ++ b) → All P b
  all_right [] b h = h
  all_right (w ∷ ws) b h = all_right ws b h.1

  pub all-tabulate : (f : ℕ → Record) (from n : ℕ) → ((k : ℕ) → k < n → P (f (from + k))) → All P (tabulate f from n)
  unfolding tabulate
  all-tabulate f from zero h = tt
  all-tabulate f from (suc n) h = all_append (tabulate f from n) (f (from + n) ∷ []) (all-tabulate f from n (λ k l. h k (omega arith))) (h n (omega arith), tt)

  pub all-tab0 : (f : ℕ → Record) (n : ℕ) → ((k : ℕ) → k < n → P (f k)) → All P (tabulate f 0 n)
  all-tab0 f n h = all-tabulate f 0 n (λ k l. rw zero-add (h k l))

  pub all-at : (ws : Group) (k : ℕ) (z : Record) → All P ws → k < length ws → P (get_or ws k z)
  all-at [] k z h l = absurd (not-suc-le-zero l)
  all-at (w ∷ ws) zero z h l = h.0
  all-at (w ∷ ws) (suc k) z h l = all-at ws k z h.1 (omega arith)

  pub all-by : (ws : Group) (z : Record) → ((k : ℕ) → k < length ws → P (get_or ws k z)) → All P ws
  all-by [] z h = tt
  all-by (w ∷ ws) z h = (h 0 (omega arith), all-by ws z (λ k l. h (suc k) (omega arith)))

  pub all-concatenated : (f : ℕ → Group) (n : ℕ) → ((t : ℕ) → t < n → All P (f t)) → All P (concatenated f 0 n)
  unfolding concatenated
  all-concatenated f zero h = tt
  all-concatenated f (suc n) h = all_append (concatenated f 0 n) (f (0 + n)) (all-concatenated f n (λ t l. h t (omega arith))) (rw zero-add (h n (omega arith)))

  pub all-kept : (m : List Bool) (ws : Group) → All P ws → All P (kept m ws)
  unfolding kept
  all-kept [] ws h = tt
  all-kept (b ∷ m) [] h = tt
  all-kept (true ∷ m) (w ∷ ws) h = (h.0, all-kept m ws h.1)
  all-kept (false ∷ m) (w ∷ ws) h = all-kept m ws h.1

pub all_map : (P Q : Record → Type 0) → ((w : Record) → P w → Q w) → (ws : Group) → All P ws → All Q ws
all_map P Q f [] h = tt
all_map P Q f (w ∷ ws) h = (f w h.0, all_map P Q f ws h.1)

-- no two records are for one sector
abbrev pub Own : Group → Type 0
Own [] = Unit {0}
Own (w ∷ ws) = All (λ v. w.sector ≢ v.sector) ws × Own ws

pub own-append : (a b : Group) → Own a → Own b → All (λ v. All (λ w. v.sector ≢ w.sector) b) a → Own (a ++ b)
own-append [] b p q h = q
own-append (w ∷ ws) b p q h = (all_append (λ v. w.sector ≢ v.sector) ws b p.0 h.0, own-append ws b p.1 q h.1)

pub own-tabulate : (f : ℕ → Record) (a n : ℕ) → ((j k : ℕ) → j < n → k < n → (f (a + j)).sector ≡ (f (a + k)).sector → j ≡ k) → Own (tabulate f a n)
unfolding tabulate
own-tabulate f a zero h = tt
own-tabulate f a (suc n) h =
    own-append (tabulate f a n) (f (a + n) ∷ []) (own-tabulate f a n (λ j k u v e. h j k (omega arith) (omega arith) e)) (tt, tt)
    (all-tabulate (λ v. All (λ w. v.sector ≢ w.sector) (f (a + n) ∷ [])) f a n (λ k l. ((λ e. let q : k ≡ n = h k n (omega arith) (omega arith) e in omega arith), tt)))

pub own-concatenated : (f : ℕ → Group) (n : ℕ) → ((k : ℕ) → k < n → Own (f k))
    → ((j k : ℕ) → j < k → k < n → All (λ v. All (λ w. v.sector ≢ w.sector) (f k)) (f j)) → Own (concatenated f 0 n)
unfolding concatenated
own-concatenated f zero p h = tt
own-concatenated f (suc n) p h =
    own-append (concatenated f 0 n) (f (0 + n)) (own-concatenated f n (λ k l. p k (omega arith)) (λ j k l r. h j k l (omega arith)))
    (rw zero-add (p n (omega arith)))
    (all-concatenated (λ v. All (λ w. v.sector ≢ w.sector) (f (0 + n))) f n (λ j l. rw zero-add (h j n l (omega arith))))

or_no : (a b c : Bool) → (a || b) ≡ false → (b ≡ false → c ≡ false) → (a || c) ≡ false
or_no true b c e f = absurd (true≢false e)
or_no false b c e f = f e

pub hits-append : (a b : Group) (j : ℕ) → hits a j ≡ false → hits b j ≡ false → hits (a ++ b) j ≡ false
unfolding hits
hits-append [] b j p q = q
hits-append (w ∷ ws) b j p q = or_no (eqb j w.sector) (hits ws j) (hits (ws ++ b) j) p (λ e. hits-append ws b j e q)

-- a list none of whose records is for sector j misses it
pub all-miss : (j : ℕ) (ws : Group) → All (λ w. j ≢ w.sector) ws → hits ws j ≡ false
unfolding hits
all-miss j [] h = refl
all-miss j (w ∷ ws) h = ap₂ (λ a b. a || b) (ne_eqb j w.sector h.0) (all-miss j ws h.1)

-- and of one that misses it none is
pub miss-all : (j : ℕ) (ws : Group) → hits ws j ≡ false → All (λ w. j ≢ w.sector) ws
unfolding hits
miss-all j [] h = tt
miss-all j (w ∷ ws) h = let o = or-none (eqb j w.sector) (hits ws j) h in (eqb-false j w.sector o.0, miss-all j ws o.1)

-- writing what stands there already leaves the sector
pub over-same : (ws : Group) (d : Disk) (j : ℕ) → All (λ w. d w.sector ≡ w.contents) ws → over ws j (d j) ≡ d j
unfolding over
over-same [] d j h = refl
over-same (w ∷ ws) d j h = ap (over ws j) (go (eqb j w.sector) refl) ∙ over-same ws d j h.1
  where
    go : (b : Bool) → eqb j w.sector ≡ b → cond b w.contents (d j) ≡ d j
    go true e = sym h.0 ∙ ap d (sym (eqb-true j w.sector e))
    go false e = refl

keep-head : (a b : Bool) (w : Record) (ws vs : Group) (j : ℕ) → (a || hits ws j) ≡ false → eqb j w.sector ≡ a → (hits ws j ≡ false → hits vs j ≡ false) → hits (cond b (w ∷ vs) vs) j ≡ false
unfolding hits
keep-head true b w ws vs j e q t = absurd (true≢false e)
keep-head false true w ws vs j e q t = rw q (t e)
keep-head false false w ws vs j e q t = t e

pub kept-miss : (m : List Bool) (ws : Group) (j : ℕ) → hits ws j ≡ false → hits (kept m ws) j ≡ false
unfolding kept hits
kept-miss [] ws j h = refl
kept-miss (b ∷ m) [] j h = refl
kept-miss (b ∷ m) (w ∷ ws) j h = keep-head (eqb j w.sector) b w ws (kept m ws) j h refl (kept-miss m ws j)

-- ---- sectors of their own, written in order

pub tabulate-next {ℓ} : {A : Type ℓ} (f : ℕ → A) (n : ℕ) → tabulate f 0 (suc n) ≡ tabulate f 0 n ++ (f n ∷ [])
unfolding tabulate
tabulate-next f n = rw zero-add

-- what stands at the k-th of them
pub placed_at : (at : ℕ → ℕ) (f : ℕ → List ℕ) (n k : ℕ) (x : List ℕ) → ((j : ℕ) → j < n → at j ≡ at k → j ≡ k) → k < n
    → over (tabulate (λ i. sector_write (at i) (f i)) 0 n) (at k) x ≡ f k
placed_at at f zero k x own h = absurd (not-suc-le-zero h)
placed_at at f (suc n) k x own h =
    ap (λ (ws : Group). over ws (at k) x) (tabulate-next (λ i. sector_write (at i) (f i)) n)
    ∙ over-append (tabulate (λ i. sector_write (at i) (f i)) 0 n) (sector_write (at n) (f n) ∷ []) (at k) x
    ∙ go (dec_lt k n) (placed_at at f n k x (λ j l e. own j (omega arith) e))
  where
    go : Dec (k < n) → (k < n → over (tabulate (λ i. sector_write (at i) (f i)) 0 n) (at k) x ≡ f k)
        → over (sector_write (at n) (f n) ∷ []) (at k) (over (tabulate (λ i. sector_write (at i) (f i)) 0 n) (at k) x) ≡ f k
    go (yes l) t = over_skip (sector_write (at n) (f n)) [] (at k) _ (λ e. let q = own n (omega arith) (sym e) in omega arith) ∙ over_none (at k) _ ∙ t l
    go (no l) t =
        let e : k ≡ n = omega arith in
        rw e (over-here (sector_write (at n) (f n)) [] _ ∙ over_none (at n) (f n))

-- consecutive sectors
module _ (a : ℕ) (f : ℕ → List ℕ) where
  pub tabulate-miss : (n j : ℕ) → (a ≤ j → j < a + n → ⊥) → hits (tabulate (λ k. sector_write (a + k) (f k)) 0 n) j ≡ false
  tabulate-miss n j h = all-miss j _ (all-tab0 (λ w. j ≢ w.sector) (λ k. sector_write (a + k) (f k)) n (λ k l e. h (omega arith) (omega arith)))

  pub tabulate-at : (n k : ℕ) (x : List ℕ) → k < n → over (tabulate (λ i. sector_write (a + i) (f i)) 0 n) (a + k) x ≡ f k
  tabulate-at n k x h = placed_at (λ i. a + i) f n k x (λ j l e. omega arith) h

-- ---- carrying out

pub length-stored : (rs : List Record) (img : List ℕ) → length (stored rs img) ≡ length img
unfolding stored
length-stored [] img = refl
length-stored (r ∷ rs) img = length-stored rs _ ∙ go (eqb r.sector barrier_number)
  where
    go : (b : Bool) → length (cond b img (put img (512 * r.sector) r.contents)) ≡ length img
    go true = refl
    go false = length-put img (512 * r.sector) r.contents

-- groups one after the other, without their barriers
abbrev pub joined : List Group → Group
joined [] = []
joined (g ∷ gs) = g ++ joined gs

stored-after : (acc : List Record) (gs : List Group) (img : List ℕ) → stored (closed_after acc gs) img ≡ stored (joined gs) (stored acc img)
unfolding stored barrier
stored-after acc [] img = refl
stored-after acc (g ∷ gs) img =
    stored-after (acc ++ g ++ (barrier ∷ [])) gs img
    ∙ ap (stored (joined gs)) (stored-append (acc ++ g) (barrier ∷ []) img ∙ stored-append acc g img)
    ∙ sym (stored-append g (joined gs) (stored acc img))

pub stored-closed : (gs : List Group) (img : List ℕ) → stored (closed gs) img ≡ stored (joined gs) img
unfolding stored
stored-closed gs img = stored-after [] gs img

-- a record that an image of so many bytes can take
pub record InImage (bytes : ℕ) (w : Record) : Type 0 where
  pub within : 512 * w.sector + 512 ≤ bytes
  pub number : w.sector ≢ barrier_number
  pub sector : length w.contents ≡ 512

put-case : (img b : List ℕ) (k j : ℕ) → 512 * k + 512 ≤ length img → length b ≡ 512 → (t : Bool) → eqb j k ≡ t
    → view (put img (512 * k) b) j ≡ cond t b (view img j)
put-case img b k j f l true e = rw (eqb-true j k e) (view-same img b k f l)
put-case img b k j f l false e = view-other img b k j l (λ q. true≢false (sym (eq-eqb j k q) ∙ e))

-- THE BRIDGE: a list carried out on an image is, sector by sector, the list applied to its disk
pub stored-view : (ws : Group) (img : List ℕ) (n : ℕ) → length img ≡ n → All (InImage n) ws → view (stored ws img) ≡ apply ws (view img)
unfolding stored apply over
stored-view [] img n e h = refl
stored-view (w ∷ ws) img n e h =
    let f : 512 * w.sector + 512 ≤ length img = rw e h.0.within in
    let q : eqb w.sector barrier_number ≡ false = ne_eqb w.sector barrier_number h.0.number in
    let img' = put img (512 * w.sector) w.contents in
    ap (λ (b : Bool). view (stored ws (cond b img img'))) q
    ∙ stored-view ws img' n (length-put img (512 * w.sector) w.contents ∙ e) h.1
    ∙ fun_ext (λ j. ap (over ws j) (put-case img w.contents w.sector j f h.0.sector (eqb j w.sector) refl))

-- ---- one record more; and the last record for a sector decides, barriers among them or not

one_same : (r : Record) (img : List ℕ) → r.sector ≢ barrier_number → 512 * r.sector + 512 ≤ length img → length r.contents ≡ 512
    → view (stored (r ∷ []) img) r.sector ≡ r.contents
unfolding stored
one_same r img nb f l =
    ap (λ (b : Bool). view (cond b img (put img (512 * r.sector) r.contents)) r.sector) (ne_eqb r.sector barrier_number nb)
    ∙ view-same img r.contents r.sector f l

one-other : (r : Record) (img : List ℕ) (j : ℕ) → r.sector ≢ j → length r.contents ≡ 512 → view (stored (r ∷ []) img) j ≡ view img j
unfolding stored
one-other r img j ne l = go (eqb r.sector barrier_number)
  where
    go : (b : Bool) → view (cond b img (put img (512 * r.sector) r.contents)) j ≡ view img j
    go true = refl
    go false = view-other img r.contents r.sector j l (λ e. ne (sym e))

pub stored_last : (f : ℕ → Record) (n p : ℕ) (img : List ℕ) → p < n → (f p).sector ≢ barrier_number → 512 * (f p).sector + 512 ≤ length img
    → ((q : ℕ) → length (f q).contents ≡ 512) → ((q : ℕ) → p < q → q < n → (f q).sector ≢ (f p).sector)
    → view (stored (tabulate f 0 n) img) (f p).sector ≡ (f p).contents
stored_last f zero p img h nb w l ne = absurd (not-suc-le-zero h)
stored_last f (suc n) p img h nb w l ne =
    ap (λ (ws : Group). view (stored ws img) (f p).sector) (tabulate-next f n) ∙ ap (λ (x : List ℕ). view x (f p).sector) (stored-append (tabulate f 0 n) (f n ∷ []) img)
    ∙ go (dec_lt p n) (λ k. stored_last f n p img k nb w l (λ q a b. ne q a (omega arith)))
  where
    go : Dec (p < n) → (p < n → view (stored (tabulate f 0 n) img) (f p).sector ≡ (f p).contents)
        → view (stored (f n ∷ []) (stored (tabulate f 0 n) img)) (f p).sector ≡ (f p).contents
    go (yes k) t = one-other (f n) (stored (tabulate f 0 n) img) (f p).sector (ne n k (omega arith)) (l n) ∙ t k
    go (no k) t =
        let e : p ≡ n = omega arith in
        let i : length (stored (tabulate f 0 n) img) ≡ length img = length-stored (tabulate f 0 n) img in
        one_last e (subst (λ (x : ℕ). (f x).sector ≢ barrier_number) e nb) (omega (arith, ap (λ x. (f x).sector) e))
      where
        one_last : p ≡ n → (f n).sector ≢ barrier_number → 512 * (f n).sector + 512 ≤ length (stored (tabulate f 0 n) img)
            → view (stored (f n ∷ []) (stored (tabulate f 0 n) img)) (f p).sector ≡ (f p).contents
        one_last q x y =
            ap (λ (z : ℕ). view (stored (f n ∷ []) (stored (tabulate f 0 n) img)) (f z).sector) q ∙ one_same (f n) (stored (tabulate f 0 n) img) x y (l n) ∙ ap (λ z. (f z).contents) (sym q)

-- ---- what landed

pub kept-nil : (m : List Bool) → kept m [] ≡ []
unfolding kept
kept-nil [] = refl
kept-nil (b ∷ m) = refl

pub kept-one : (m : List Bool) (w : Record) → kept m (w ∷ []) ≡ cond (get_or m 0 false) (w ∷ []) []
unfolding kept
kept-one [] w = refl
kept-one (true ∷ m) w = ap (λ (g : Group). w ∷ g) (kept-nil m)
kept-one (false ∷ m) w = kept-nil m

pub all-landed : (P : Record → Type 0) (k : ℕ) (m : List Bool) (gs : List Group) → All P (joined gs) → All P (landed_of k m gs)
unfolding landed_of
all-landed P k m [] h = tt
all-landed P zero m (g ∷ gs) h = all-kept P m g (all_left P g (joined gs) h)
all-landed P (suc k) m (g ∷ gs) h = all_append P g (landed_of k m gs) (all_left P g (joined gs) h) (all-landed P k m gs (all_right P g (joined gs) h))
