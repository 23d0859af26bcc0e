-- Laws of the free extents and of staging in the highest of them: which extents these are, and that the stages of a plan's copies lie in the
-- data area, in free extents, none of them twice. Assumes nothing.
use Prim.Native.Nat.{ℕ, zero, suc, ◌+◌, ◌*◌, ◌-◌, ◌/◌, ◌%◌, ◌≤◌, ◌<◌}
use mathlib.Core.Path.{◌≡◌, refl, sym, ap, ap₂, ◌∙◌, subst}
use mathlib.Core.Bool.{Bool, true, false, cond, true≢false}
use mathlib.Core.List.{List, [], ◌∷◌, ◌++◌, append-nil}
use native.Mathlib.Nat.{zero-add, not-suc-le-zero, suc-mul, mul-le-mul_right, div-lt_iff_lt-mul, div-add-mod, mod-lt}
use native.Mathlib.Omega.{arith}
use native.Mathlib.Decide.{dec_lt}
use lib.ListN.{length, get_or, length-append, length-drop, get_or-append}
use lib.Seq.{get_or_at, get_or-drop}
use borrow.Author.Tests.{ltb-false}
use Rattle.model.specs.declared.Geometry.{Geometry}
use Rattle.std.specs.Prelude.{Some}
use Rattle.model.specs.Search.{first, count_below, concatenated, index_of}
use Rattle.model.specs.Geometry.{extent_sectors, reserve_extents, data_at, extent_at, volume_sectors}
use Rattle.model.specs.Catalogue.{Catalogue, is_free, free_extent, free_below, free_extents, lacks_reserve, staging_extents}
use Rattle.model.specs.WriteList.{stage_in}
use Rattle.laws.proofs.Search.{first-none}
use Rattle.laws.proofs.Seeking.{first-there}

-- numbers below n, in rising order, that pass a test
pub record Rises (p : ℕ → Bool) (n : ℕ) (es : List ℕ) : Type 0 where
  pub below : (k : ℕ) → k < length es → get_or es k 0 < n
  pub passes : (k : ℕ) → k < length es → p (get_or es k 0) ≡ true
  pub rising : (k l : ℕ) → k < l → l < length es → get_or es k 0 < get_or es l 0

-- the place of number e in a list
pub record Place (e : ℕ) (es : List ℕ) : Type 0 where
  pub at : ℕ
  pub inside : at < length es
  pub is : get_or es at 0 ≡ e

module _ (es : List ℕ) (x : ℕ) where
  -- with one more number behind the others: what stands at a place
  longer : length (es ++ (x ∷ [])) ≡ suc (length es)
  longer = simp length-append (omega arith)

  before : (k : ℕ) → k < length es → get_or (es ++ (x ∷ [])) k 0 ≡ get_or es k 0
  before k h = get_or-append es (x ∷ []) 0 k h

  last : (k : ℕ) → k ≡ length es → get_or (es ++ (x ∷ [])) k 0 ≡ x
  last k h = get_or_at es x [] 0 k (sym h)

  rises-more : (p : ℕ → Bool) → Rises p x es → p x ≡ true → Rises p (suc x) (es ++ (x ∷ []))
  rises-more p r t = record {
    below = λ k h. below_at k h (dec_lt k (length es));
    passes = λ k h. passes_at k h (dec_lt k (length es));
    rising = λ k l a h. rising-at k l a h (dec_lt l (length es));
  }
    where
      at-end : (k : ℕ) → k < length (es ++ (x ∷ [])) → (k < length es → ⊥) → k ≡ length es
      at-end k h n = let e : length (es ++ (x ∷ [])) ≡ suc (length es) = longer in omega arith

      below_at : (k : ℕ) → k < length (es ++ (x ∷ [])) → Dec (k < length es) → get_or (es ++ (x ∷ [])) k 0 < suc x
      below_at k h (yes l) = rw (before k l) (omega (arith, r.below k l))
      below_at k h (no n) = rw (last k (at-end k h n)) (omega arith)

      passes_at : (k : ℕ) → k < length (es ++ (x ∷ [])) → Dec (k < length es) → p (get_or (es ++ (x ∷ [])) k 0) ≡ true
      passes_at k h (yes l) = ap p (before k l) ∙ r.passes k l
      passes_at k h (no n) = ap p (last k (at-end k h n)) ∙ t

      rising-at : (k l : ℕ) → k < l → l < length (es ++ (x ∷ [])) → Dec (l < length es) → get_or (es ++ (x ∷ [])) k 0 < get_or (es ++ (x ∷ [])) l 0
      rising-at k l a h (yes i) = let j : k < length es = omega arith in rw (before k j, before l i) (r.rising k l a i)
      rising-at k l a h (no n) =
          let e : l ≡ length es = at-end l h n in
          let j : k < length es = omega arith in
          rw (before k j, last l e) (r.below k j)

  place-more : (e : ℕ) → Place e es → Place e (es ++ (x ∷ []))
  place-more e q = record { at = q.at; inside = omega (arith, longer, q.inside); is = before q.at q.inside ∙ q.is }

  place-last : Place x (es ++ (x ∷ []))
  place-last = record { at = length es; inside = omega (arith, longer); is = last (length es) refl }

wider : (p : ℕ → Bool) (n : ℕ) (es : List ℕ) → Rises p n es → Rises p (suc n) es
wider p n es r = record { below = λ k h. omega (arith, r.below k h); passes = r.passes; rising = r.rising }

-- ---- the free extents

module _ (c : Catalogue) where
  abbrev pub free : ℕ → Bool
  free e = is_free (c.table e)

  -- one extent more
  pub free_more : (n : ℕ) → free_below c (suc n) ≡ free_below c n ++ cond (free n) (n ∷ []) []
  unfolding free_below concatenated
  free_more n = ap (λ k. free_below c n ++ cond (free k) (k ∷ []) []) (zero-add n)

  free-yes : (n : ℕ) → free n ≡ true → free_below c (suc n) ≡ free_below c n ++ (n ∷ [])
  free-yes n t = free_more n ∙ ap (λ (b : Bool). free_below c n ++ cond b (n ∷ []) []) t

  free-no : (n : ℕ) → free n ≡ false → free_below c (suc n) ≡ free_below c n
  free-no n t = free_more n ∙ ap (λ (b : Bool). free_below c n ++ cond b (n ∷ []) []) t ∙ append-nil (free_below c n)

  -- free, below n, in rising order
  pub free-rises : (n : ℕ) → Rises free n (free_below c n)
  unfolding free_below concatenated
  free-rises zero = record { below = λ k h. absurd (not-suc-le-zero h); passes = λ k h. absurd (not-suc-le-zero h); rising = λ k l a h. absurd (not-suc-le-zero h) }
  free-rises (suc n) = go (free n) refl (free-rises n)
    where
      go : (b : Bool) → free n ≡ b → Rises free n (free_below c n) → Rises free (suc n) (free_below c (suc n))
      go true t r = rw (free-yes n t) (rises-more (free_below c n) n free r t)
      go false t r = rw (free-no n t) (wider free n (free_below c n) r)

  -- and each of them
  pub free-place : (n e : ℕ) → e < n → free e ≡ true → Place e (free_below c n)
  free-place zero e h t = absurd (not-suc-le-zero h)
  free-place (suc n) e h t = go (free n) refl (dec_lt e n) (λ l. free-place n e l t)
    where
      go : (b : Bool) → free n ≡ b → Dec (e < n) → (e < n → Place e (free_below c n)) → Place e (free_below c (suc n))
      go true f (yes l) q = rw (free-yes n f) (place-more (free_below c n) n e (q l))
      go true f (no l) q = let s : e ≡ n = omega arith in rw (free-yes n f, s) (place-last (free_below c n) n)
      go false f (yes l) q = rw (free-no n f) (q l)
      go false f (no l) q = let s : e ≡ n = omega arith in absurd (true≢false (sym t ∙ ap free s ∙ f))

  -- how many
  pub free-count : (n : ℕ) → length (free_below c n) ≡ count_below free n
  unfolding free_below concatenated count_below
  free-count zero = refl
  free-count (suc n) = go (free n) refl (free-count n)
    where
      go : (b : Bool) → free n ≡ b → length (free_below c n) ≡ count_below free n → length (free_below c (suc n)) ≡ cond (free n) 1 0 + count_below free n
      go true t e = rw (free-yes n t, t) (omega (arith, longer (free_below c n) n))
      go false t e = rw (free-no n t, t) (omega arith)

  -- none of them is below the first, and a search finds this one
  below-first : (n j : ℕ) → (h : 0 < length (free_below c n)) → j < get_or (free_below c n) 0 0 → free j ≡ false
  below-first n j h l = go (free j) refl
    where
      go : (b : Bool) → free j ≡ b → b ≡ false
      go true t = let q = free-place n j (omega (arith, (free-rises n).below 0 h)) t in absurd (placed q (dec_lt 0 q.at))
        where
          placed : (q : Place j (free_below c n)) → Dec (0 < q.at) → ⊥
          placed q (yes a) = omega (arith, (free-rises n).rising 0 q.at a q.inside, q.is)
          placed q (no a) = let z : q.at ≡ 0 = omega arith in omega (arith, q.is, ap (λ k. get_or (free_below c n) k 0) z)
      go false t = refl

  pub free-first : (n : ℕ) → 0 < length (free_below c n) → first free n ≡ Some (get_or (free_below c n) 0 0)
  free-first n h =
      first-there free (get_or (free_below c n) 0 0) n ((free-rises n).below 0 h)
      (first-none free (get_or (free_below c n) 0 0) (λ j l. below-first n j h l)) ((free-rises n).passes 0 h)

  -- ---- the staging extents

  abbrev N : ℕ
  N = c.geometry.extents

  -- where the reserve is there: at least K are free
  pub reserve-there : lacks_reserve c ≡ false → reserve_extents c.geometry ≤ length (free_extents c)
  unfolding lacks_reserve
  reserve-there e = ltb-false (length (free_extents c)) (reserve_extents c.geometry) e

  -- the k-th staging extent among the free ones
  pub staging-at : (k : ℕ) → get_or (staging_extents c) k 0 ≡ get_or (free_extents c) (length (free_extents c) - reserve_extents c.geometry + k) 0
  unfolding staging_extents
  staging-at k = get_or-drop (length (free_extents c) - reserve_extents c.geometry) (free_extents c) k 0

  module _ (there : lacks_reserve c ≡ false) where
    pub length-staging : length (staging_extents c) ≡ reserve_extents c.geometry
    unfolding staging_extents
    length-staging =
        length-drop (length (free_extents c) - reserve_extents c.geometry) (free_extents c)
        ∙ (let h : reserve_extents c.geometry ≤ length (free_extents c) = reserve-there there in omega arith)

    inside : (k : ℕ) → k < length (staging_extents c) → length (free_extents c) - reserve_extents c.geometry + k < length (free_extents c)
    inside k h = omega (arith, length-staging, reserve-there there)

    -- free extents of the volume, in rising order
    pub staging-rises : Rises free c.geometry.extents (staging_extents c)
    staging-rises = record {
      below = λ k h. rw (staging-at k) ((free-rises N).below _ (inside k h));
      passes = λ k h. ap free (staging-at k) ∙ (free-rises N).passes _ (inside k h);
      rising = λ k l a h. rw (staging-at k, staging-at l) ((free-rises N).rising _ _ (omega arith) (inside l h));
    }

    -- "one that the call itself allocates is never among them": with K + 1 free, the lowest is below all of them
    pub lowest-below : reserve_extents c.geometry < length (free_extents c) → (k : ℕ) → k < length (staging_extents c)
        → index_of (free_extent c) < get_or (staging_extents c) k 0
    unfolding free_extent
    lowest-below h k l =
        let e : first free N ≡ Some (get_or (free_extents c) 0 0) = free-first N (omega arith) in
        rw (e, staging-at k) ((free-rises N).rising 0 _ (omega arith) (inside k l))

    -- with no more than K, the lowest is the first of them
    pub lowest-is : 0 < reserve_extents c.geometry → length (free_extents c) ≡ reserve_extents c.geometry → index_of (free_extent c) ≡ get_or (staging_extents c) 0 0
    unfolding free_extent
    lowest-is h e =
        let f : first free N ≡ Some (get_or (free_extents c) 0 0) = free-first N (omega arith) in
        let z : length (free_extents c) - reserve_extents c.geometry + 0 ≡ 0 = omega arith in
        ap index_of f ∙ sym (staging-at 0 ∙ ap (λ k. get_or (free_extents c) k 0) z)

-- ---- the stages

-- sector j lies in extent e
abbrev pub InExtent : Geometry → ℕ → ℕ → Type 0
InExtent g e j = (extent_at g e ≤ j) × (j < extent_at g e + extent_sectors g)

-- a sector lies in one extent only
pub one-extent : (g : Geometry) (e x j : ℕ) → InExtent g e j → InExtent g x j → e ≡ x
one-extent g e x j h q = go (dec_lt e x) (dec_lt x e)
  where
    before : (a b : ℕ) → a < b → extent_at g a + extent_sectors g ≤ extent_at g b
    before a b l = let m : suc a * extent_sectors g ≤ b * extent_sectors g = mul-le-mul_right (extent_sectors g) l in omega (arith, suc-mul a (extent_sectors g))

    go : Dec (e < x) → Dec (x < e) → e ≡ x
    go (yes l) b = absurd (omega (arith, before e x l, h.1, q.0))
    go (no l) (yes m) = absurd (omega (arith, before x e m, h.0, q.1))
    go (no l) (no m) = omega arith

module _ (g : Geometry) (es : List ℕ) (wide : 0 < extent_sectors g) where
  -- stage k lies in the (k / S)-th of the extents
  pub stage-inside : (k : ℕ) → InExtent g (get_or es (k / extent_sectors g) 0) (stage_in g es k)
  unfolding stage_in
  stage-inside k = (omega arith, omega (arith, mod-lt k wide))

  -- so many copies have their extents
  pub stage-extent : (n k : ℕ) → n ≤ length es * extent_sectors g → k < n → k / extent_sectors g < length es
  stage-extent n k few h = (div-lt_iff_lt-mul {k = extent_sectors g} wide).1 (omega arith)

  -- a stage of an extent of the volume lies in the data area
  pub stage-in-data : (k : ℕ) → get_or es (k / extent_sectors g) 0 < g.extents → (data_at g ≤ stage_in g es k) × (stage_in g es k < volume_sectors g)
  stage-in-data k h =
      let s = stage-inside k in
      let m : suc (get_or es (k / extent_sectors g) 0) * extent_sectors g ≤ g.extents * extent_sectors g = mul-le-mul_right (extent_sectors g) h in
      (omega (arith, s.0), omega (arith, s.1, suc-mul (get_or es (k / extent_sectors g) 0) (extent_sectors g)))

  -- none twice
  pub stages-apart : (p : ℕ → Bool) → Rises p g.extents es → (n k l : ℕ) → n ≤ length es * extent_sectors g → k < n → l < n
      → stage_in g es k ≡ stage_in g es l → k ≡ l
  unfolding stage_in
  stages-apart p r n k l few hk hl e = go (dec_lt (k / extent_sectors g) (l / extent_sectors g)) (dec_lt (l / extent_sectors g) (k / extent_sectors g))
    where
      -- both lie in one extent, and rising extents are apart
      apart : (a b : ℕ) → a / extent_sectors g < b / extent_sectors g → b < n → stage_in g es a ≡ stage_in g es b → ⊥
      apart a b h hb q =
          let m : get_or es (a / extent_sectors g) 0 < get_or es (b / extent_sectors g) 0 = r.rising _ _ h (stage-extent n b few hb) in
          let i : InExtent g (get_or es (b / extent_sectors g) 0) (stage_in g es a) = subst (InExtent g (get_or es (b / extent_sectors g) 0)) (sym q) (stage-inside b) in
          omega (arith, one-extent g (get_or es (a / extent_sectors g) 0) (get_or es (b / extent_sectors g) 0) (stage_in g es a) (stage-inside a) i)

      same : k / extent_sectors g ≡ l / extent_sectors g → k ≡ l
      same q =
          let z : extent_at g (get_or es (k / extent_sectors g) 0) ≡ extent_at g (get_or es (l / extent_sectors g) 0) = ap (λ x. extent_at g (get_or es x 0)) q in
          let m : k % extent_sectors g ≡ l % extent_sectors g = omega (arith, e) in
          sym (div-add-mod k (extent_sectors g)) ∙ ap₂ (λ a b. extent_sectors g * a + b) q m ∙ div-add-mod l (extent_sectors g)

      go : Dec (k / extent_sectors g < l / extent_sectors g) → Dec (l / extent_sectors g < k / extent_sectors g) → k ≡ l
      go (yes h) b = absurd (apart k l h hl e)
      go (no h) (yes m) = absurd (apart l k m hk (sym e))
      go (no h) (no m) = same (omega arith)
