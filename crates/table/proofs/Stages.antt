-- The search for the staging extents: from the top downwards, each extent found is put before those found so far. Assumes nothing.
use Prim.Native.Nat.{ℕ, zero, suc, ◌+◌, ◌-◌, ◌*◌, ◌/◌, ◌≤◌, ◌<◌}
use mathlib.Core.Path.{◌≡◌, refl, sym, ap, ap₂, ◌∙◌}
use mathlib.Core.Bool.{Bool, true, false, cond}
use mathlib.Core.List.{List, [], ◌∷◌, ◌++◌, append-nil, append_assoc}
use Rattle.std.specs.Prelude.{Option, Some, None}
use native.Mathlib.Nat.{div-lt_iff_lt-mul, add-zero, add-suc}
use native.Mathlib.Omega.{arith}
use native.Mathlib.Decide.{dec_lt}
use lib.Dec.{ltb}
use lib.ListN.{length, get_or, set, replicate, length-append, length-set, get_or-eq_default}
use lib.Seq.{get_or-set_same, get_or-set_other, get_or-append-add}
use borrow.Author.Tests.{lt-ltb, le-ltb}
use Rattle.model.specs.declared.Geometry.{Geometry}
use Rattle.model.specs.Bytes.{bytes_from}
use Rattle.model.specs.Search.{any_below, concatenated}
use Rattle.model.specs.Geometry.{extent_sectors, reserve_extents}
use Rattle.model.specs.Disk.{Disk}
use Rattle.model.specs.Catalogue.{Catalogue, catalogue_of, is_free, free_below, lacks_reserve, staging_extents}
use Rattle.model.specs.Opened.{Bounded}
use Rattle.laws.proofs.Booleans.{or-none}
use Rattle.laws.proofs.Search.{any_below-no}
use Rattle.laws.proofs.Bytes.{length-bytes_from, get_or-bytes_from, bytes_from-ext, zeros-at}
use Rattle.laws.proofs.Staging.{free_more, staging-at}
use Rattle.laws.proofs.Folds.{LastBelow}
use Rattle.commit.specs.Commit.{StagesOf}
use Rattle.table.specs.Highest.{IsHighest}

-- the reserve has one to five extents
pub reserve-five : (g : Geometry) → Bounded g → reserve_extents g ≤ 5
reserve-five g b =
    let s = extent_sectors g in
    let q : (g.extents + 127) / 128 + 3 + (s - 1) < 6 * s = omega (arith, b.extents-high, b.extent-low) in
    let p : reserve_extents g < 6 = (div-lt_iff_lt-mul {k = s} (omega (arith, b.extent-low))).1 q in
    omega arith

module _ (c : Catalogue) where
  -- ---- the highest free extent

  free-none : (e n : ℕ) → any_below (λ k. is_free (c.table (e + k))) n ≡ false → free_below c (e + n) ≡ free_below c e
  unfolding any_below
  free-none e zero h = ap (free_below c) (add-zero e)
  free-none e (suc n) h =
      let o = or-none (is_free (c.table (e + n))) (any_below (λ k. is_free (c.table (e + k))) n) h in
      ap (free_below c) (add-suc e n) ∙ free_more c (e + n)
      ∙ ap (λ (b : Bool). free_below c (e + n) ++ cond b ((e + n) ∷ []) []) o.0
      ∙ append-nil (free_below c (e + n)) ∙ free-none e n o.1

  pub pass-over : (bound e n : ℕ) → n ≤ e → free_below c bound ≡ free_below c e → any_below (λ k. is_free (c.table (e - n + k))) n ≡ false
      → free_below c bound ≡ free_below c (e - n)
  pass-over bound e n l p h = p ∙ ap (free_below c) (let q : e ≡ e - n + n = omega arith in q) ∙ free-none (e - n) n h

  -- nothing from e to below a bound is free
  pub passed-down : (e bound : ℕ) → e ≤ bound → ((k : ℕ) → e ≤ k → k < bound → is_free (c.table k) ≡ false) → free_below c bound ≡ free_below c e
  passed-down e bound l h =
      let q : bound ≡ e + (bound - e) = omega arith in
      ap (free_below c) q ∙ free-none e (bound - e) (any_below-no (λ k. is_free (c.table (e + k))) (bound - e) (λ k m. h (e + k) (omega arith) (omega arith)))

  -- what a search from the top finds
  pub highest-is : (p : ℕ → Bool) (bound : ℕ) (r : Option ℕ) → ((e : ℕ) → e < bound → is_free (c.table e) ≡ p e) → LastBelow p bound r → IsHighest c bound r
  unfolding free_below concatenated
  highest-is p bound (Some e) same h =
      let none = passed-down (suc e) bound (omega (arith, h.0)) (λ k a b. same k b ∙ h.2 k (omega arith) b) in
      (h.0, none ∙ free_more c e ∙ ap (λ (b : Bool). free_below c e ++ cond b (e ∷ []) []) (same e h.0 ∙ h.1))
  highest-is p bound None same h = passed-down 0 bound (omega arith) (λ k a b. same k b ∙ h k b)

  pub highest-after : (bound e : ℕ) (r : Option ℕ) → e ≤ bound → free_below c bound ≡ free_below c e → IsHighest c e r → IsHighest c bound r
  highest-after bound e (Some n) l p h = (omega (arith, h.0), p ∙ h.1)
  highest-after bound e None l p h = p ∙ h

bytes_from-first : (s : List ℕ) (from n : ℕ) → bytes_from s from (suc n) ≡ get_or s from 0 ∷ bytes_from s (suc from) n
unfolding bytes_from
bytes_from-first s from zero = ap (λ k. get_or s k 0 ∷ []) (add-zero from)
bytes_from-first s from (suc n) =
    ap₂ (λ (a : List ℕ) (k : ℕ). a ++ (get_or s k 0 ∷ [])) (bytes_from-first s from n) (let q : from + suc n ≡ suc from + n = omega arith in q)

-- ---- extents e and above are passed, those of the free ones stand from place left on

pub record Searching (g : Geometry) (c : Catalogue) (stages : List ℕ) (left e : ℕ) : Type 0 where
  pub few : left ≤ reserve_extents g
  pub within : e ≤ g.extents
  pub found : free_below c g.extents ≡ free_below c e ++ bytes_from stages left (reserve_extents g - left)
  pub five : length stages ≡ 5
  pub inside : (k : ℕ) → get_or stages k 0 < g.extents
  pub behind : (k : ℕ) → reserve_extents g ≤ k → get_or stages k 0 ≡ 0

module _ (g : Geometry) (c : Catalogue) (b : Bounded g) where
  abbrev K : ℕ
  K = reserve_extents g

  pub search-start : Searching g c (replicate 5 0) (reserve_extents g) g.extents
  unfolding bytes_from
  search-start = record {
    few = omega arith;
    within = omega arith;
    found = sym (ap (λ n. free_below c g.extents ++ bytes_from (replicate 5 0) K n) (let z : K - K ≡ 0 = omega arith in z) ∙ append-nil (free_below c g.extents));
    five = refl;
    inside = λ k. rw (zeros-at 5 k) (omega (arith, b.extents-low));
    behind = λ k h. zeros-at 5 k;
  }

  module _ {stages : List ℕ} {left e : ℕ} (S : Searching g c stages left e) where
    pub search-more : (n : ℕ) → 0 < left → (n < e) × (free_below c e ≡ free_below c n ++ (n ∷ [])) → Searching g c (set stages (left - 1) n) (left - 1) n
    search-more n more h = record {
      few = omega (arith, S.few);
      within = omega (arith, S.within, h.0);
      found = S.found ∙ ap₂ (λ (a z : List ℕ). a ++ z) h.1 refl ∙ append_assoc (free_below c n) (n ∷ []) rest ∙ ap (λ (z : List ℕ). free_below c n ++ z) (sym front);
      five = length-set stages (left - 1) n ∙ S.five;
      inside = λ k. stays k (dec_lt k (left - 1)) (dec_lt (left - 1) k);
      behind = λ k l. get_or-set_other stages (left - 1) k n 0 (λ q. omega (arith, S.few)) ∙ S.behind k l;
    }
      where
        rest : List ℕ
        rest = bytes_from stages left (K - left)

        small : left - 1 < length stages
        small = omega (arith, S.few, S.five, reserve-five g b)

        front : bytes_from (set stages (left - 1) n) (left - 1) (K - (left - 1)) ≡ n ∷ rest
        front =
            let m : K - (left - 1) ≡ suc (K - left) = omega (arith, S.few) in
            let l : suc (left - 1) ≡ left = omega arith in
            ap (λ k. bytes_from (set stages (left - 1) n) (left - 1) k) m
            ∙ bytes_from-first (set stages (left - 1) n) (left - 1) (K - left)
            ∙ ap₂ (λ (x : ℕ) (z : List ℕ). x ∷ z) (get_or-set_same stages (left - 1) n 0 small)
            (bytes_from-ext (set stages (left - 1) n) stages (suc (left - 1)) left (K - left)
            (λ i k. get_or-set_other stages (left - 1) (suc (left - 1) + i) n 0 (λ q. omega arith) ∙ ap (λ x. get_or stages (x + i) 0) l))

        other : (k : ℕ) → (k ≡ left - 1 → ⊥) → get_or (set stages (left - 1) n) k 0 < g.extents
        other k ne = rw (get_or-set_other stages (left - 1) k n 0 ne) (S.inside k)

        stays : (k : ℕ) → Dec (k < left - 1) → Dec (left - 1 < k) → get_or (set stages (left - 1) n) k 0 < g.extents
        stays k (yes l) m = other k (λ q. omega arith)
        stays k (no l) (yes m) = other k (λ q. omega arith)
        stays k (no l) (no m) =
            let q : k ≡ left - 1 = omega arith in
            rw (q, get_or-set_same stages (left - 1) n 0 small) (omega (arith, S.within, h.0))

    counted : length (free_below c g.extents) ≡ length (free_below c e) + (K - left)
    counted =
        ap length S.found ∙ length-append (free_below c e) (bytes_from stages left (K - left))
        ∙ ap (λ k. length (free_below c e) + k) (length-bytes_from stages left (K - left))

    module _ (is : c.geometry ≡ g) where
      -- nothing more is free
      pub search-failed : 0 < left → free_below c e ≡ [] → lacks_reserve c ≡ true
      unfolding lacks_reserve free_below concatenated
      search-failed more h =
          let z : length (free_below c e) ≡ 0 = ap length h in
          ap (λ (h : Geometry). ltb (length (free_below c h.extents)) (reserve_extents h)) is
          ∙ lt-ltb (length (free_below c g.extents)) K (omega (arith, counted, S.few))

      -- all K are found
      pub search-done : (0 < left → ⊥) → lacks_reserve c ≡ false
      unfolding lacks_reserve
      search-done none =
          ap (λ (h : Geometry). ltb (length (free_below c h.extents)) (reserve_extents h)) is
          ∙ le-ltb (length (free_below c g.extents)) K (omega (arith, counted, none))

-- of a disk's catalogue
pub search-found : (g : Geometry) (d : Disk) {stages : List ℕ} {left e : ℕ} → Bounded g → Searching g (catalogue_of d) stages left e → (catalogue_of d).geometry ≡ g
    → (0 < left → ⊥) → StagesOf g d stages
search-found g d {stages} {left} {e} b S is none = record {
  inside = record { five = S.five; inside = S.inside };
  are = λ k. sym (staged k ∙ at k (dec_lt k (reserve_extents g)));
}
  where
    c : Catalogue
    c = catalogue_of d

    zero_left : left ≡ 0
    zero_left = omega (arith, none)

    all : List ℕ
    all = bytes_from stages 0 (reserve_extents g)

    whole : free_below c g.extents ≡ free_below c e ++ all
    whole =
        S.found
        ∙ ap₂ (λ (k n : ℕ). free_below c e ++ bytes_from stages k n) zero_left (let q : reserve_extents g - left ≡ reserve_extents g = omega (arith, zero_left) in q)

    before : length (free_below c g.extents) - reserve_extents g ≡ length (free_below c e)
    before = omega (arith, counted g c b S, zero_left)

    staged : (k : ℕ) → get_or (staging_extents c) k 0 ≡ get_or all k 0
    staged k =
        staging-at c k ∙ ap (λ (h : Geometry). get_or (free_below c h.extents) (length (free_below c h.extents) - reserve_extents h + k) 0) is
        ∙ ap₂ (λ (l : List ℕ) (n : ℕ). get_or l (n + k) 0) whole before ∙ get_or-append-add (free_below c e) all k 0

    at : (k : ℕ) → Dec (k < reserve_extents g) → get_or all k 0 ≡ get_or stages k 0
    at k (yes l) = get_or-bytes_from stages 0 (reserve_extents g) k l ∙ ap (λ x. get_or stages x 0) (let q : 0 + k ≡ k = omega arith in q)
    at k (no l) =
        get_or-eq_default all 0 {n = k} (omega (arith, length-bytes_from stages 0 (reserve_extents g))) ∙ sym (S.behind k (omega arith))
