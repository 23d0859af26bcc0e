-- Laws of format: the doubling turn by turn, and the verdict by the code's tests. Assumes nothing.
use Prim.Native.Nat.{ℕ, zero, suc, ◌+◌, ◌-◌, ◌*◌, ◌/◌, ◌^◌, ◌≤◌, ◌<◌}
use mathlib.Core.Path.{◌≡◌, refl, ◌∙◌}
use mathlib.Core.Bool.{Bool, true, false, not, ◌&&◌}
use mathlib.Core.List.{List, [], ◌∷◌}
use native.Mathlib.Nat.{pow-suc, pow-le-pow_right}
use native.Mathlib.Omega.{arith}
use lib.Dec.{eqb, leb, ltb, lit≤}
use lib.ListN.{length}
use borrow.Author.Tests.{lt-ltb, le-ltb, lt-leb, le-leb}
use Rattle.model.specs.declared.Geometry.{Geometry}
use Rattle.model.specs.Geometry.{extent_sectors, in_bounds}
use Rattle.model.specs.Refusals.{verdict_of, refusal, done}
use Rattle.model.specs.Bytes.{put}
use Rattle.model.specs.WriteList.{record_size, record_bytes}
use Rattle.model.specs.Opened.{Bounded}
use Rattle.model.proofs.Areas.{bounds}
use Rattle.laws.proofs.Booleans.{and_left, and_right}
use Rattle.model.specs.Edition.{is_edition, bad_time}
use Rattle.model.specs.Format.{Format, doubled, geometry_for, formatted_geometry, can_format, format_count, format_record, format_verdict, format_answer, format_output}

-- ---- S is 2 ^ (7 + i) after i doublings

pub width_low : (i : ℕ) → 128 ≤ 2 ^ (7 + i)
width_low i = pow-le-pow_right (lit≤ tt) {i = 7} {j = 7 + i} (omega arith)

pub width-high : (i j : ℕ) → i ≤ j → 2 ^ (7 + i) ≤ 2 ^ (7 + j)
width-high i j h = pow-le-pow_right (lit≤ tt) {i = 7 + i} {j = 7 + j} (omega arith)

pub wider : (i s : ℕ) → s ≡ 2 ^ (7 + i) → s * 2 ≡ 2 ^ (7 + (i + 1))
wider i s e =
    let q : 7 + (i + 1) ≡ suc (7 + i) = omega arith in
    rw (q, pow-suc) (omega arith)

-- ---- a turn

module _ (room s : ℕ) where
  pub doubled-stop : (k : ℕ) → room / s ≤ 65535 → doubled room k s ≡ s
  unfolding doubled
  doubled-stop zero h = refl
  doubled-stop (suc k) h = rw (le-ltb _ _ h)

  pub doubled-next : (i : ℕ) → i < 24 → 65535 < room / s → doubled room (24 - i) s ≡ doubled room (24 - (i + 1)) (s * 2)
  unfolding doubled
  doubled-next i l h =
      let e : 24 - i ≡ suc (24 - (i + 1)) = omega arith in
      let d : s * 2 ≡ 2 * s = omega arith in
      rw (d, e) (rw (lt-ltb _ _ h))

  pub doubled-end : (i : ℕ) → 24 ≤ i → doubled room (24 - i) s ≡ s
  unfolding doubled
  doubled-end i h = let e : 24 - i ≡ 0 = omega arith in rw e

-- ---- the verdict

-- the code's first test; and what follows from the three
abbrev pub is_formattable : ℕ → ℕ → Geometry → Bool
is_formattable sectors time g = leb (546 + g.files) sectors && in_bounds g && is_edition g.edition && not (bad_time g.edition time)

pub bounded : (sectors time : ℕ) (g : Geometry) → is_formattable sectors time g ≡ true → extent_sectors g ≤ 4294967295 → Bounded g
bounded sectors time g e s =
    let fits = leb (546 + g.files) sectors in
    bounds g (and_right fits (in_bounds g) (and_left (fits && in_bounds g) (is_edition g.edition) (and_left (fits && in_bounds g && is_edition g.edition) _ e))) s

module _ (a : Format) (p : ℕ) (out : List ℕ) (g : Geometry) (is : g ≡ formatted_geometry a) where
  by_tests : format_verdict a p (length out)
      ≡ verdict_of ((not (is_formattable a.sectors a.time g), refusal 8) ∷ (leb (format_count g) p, refusal 9) ∷ (ltb (length out) record_size, refusal 14) ∷ [])
  unfolding format_verdict can_format geometry_for
  by_tests = rw is

  refused_as : (n : ℕ) → eqb n 0 ≡ false → format_verdict a p (length out) ≡ refusal n
      → (record { number = n; length = 0 } ≡ format_answer a p (length out)) × (out ≡ format_output a p out)
  unfolding format_answer format_output
  refused_as n z e = (rw (e, z), rw (e, z))

  pub refused-8 : is_formattable a.sectors a.time g ≡ false → (record { number = 8; length = 0 } ≡ format_answer a p (length out)) × (out ≡ format_output a p out)
  unfolding verdict_of
  refused-8 e = refused_as 8 refl (by_tests ∙ rw e)

  module _ (can : is_formattable a.sectors a.time g ≡ true) where
    pub refused-9 : format_count g ≤ p → (record { number = 9; length = 0 } ≡ format_answer a p (length out)) × (out ≡ format_output a p out)
    unfolding verdict_of
    refused-9 h = refused_as 9 refl (by_tests ∙ rw (can, le-leb _ _ h))

    pub refused-14 : p < format_count g → length out < record_size → (record { number = 14; length = 0 } ≡ format_answer a p (length out)) × (out ≡ format_output a p out)
    unfolding verdict_of
    refused-14 h r = refused_as 14 refl (by_tests ∙ rw (can, lt-leb _ _ h, lt-ltb _ _ r))

    pub accepted : p < format_count g → record_size ≤ length out
        → (record { number = 0; length = record_size } ≡ format_answer a p (length out)) × (put out 0 (record_bytes p (format_record g a p)) ≡ format_output a p out)
    unfolding verdict_of format_answer format_output
    accepted h r =
        let v : format_verdict a p (length out) ≡ done = by_tests ∙ rw (can, lt-leb _ _ h, le-ltb _ _ r) in
        (rw v, rw (v, is))
