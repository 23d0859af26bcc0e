-- What is lent for a span: its length, and that a part of it reads the span's bytes. Assumes nothing.
use Prim.Native.Nat.{ℕ, ◌+◌, ◌≤◌, ◌<◌}
use mathlib.Core.Path.{◌≡◌, refl, sym, ap, ◌∙◌}
use mathlib.Core.Bool.{Bool, true, false, cond}
use mathlib.Core.List.{List, []}
use native.Mathlib.Omega.{arith}
use lib.Dec.{eqb}
use lib.ListN.{length, get_or}
use borrow.Author.Tests.{eq-eqb, ne_eqb, eqb-true}
use Rattle.model.specs.Bytes.{bytes_from}
use Rattle.model.specs.Resize.{zeros}
use Rattle.laws.proofs.Bytes.{length-bytes_from, bytes_from-all, bytes_from-ext, get_or-bytes_from}
use Rattle.spans.specs.Touched.{Source, span_of}

module _ (bytes : List ℕ) (len : ℕ) where
  pub span-own : length bytes ≡ len → span_of bytes len ≡ bytes
  unfolding span_of
  span-own e = rw (eq-eqb (length bytes) len e)

  span-other : (length bytes ≡ len → ⊥) → span_of bytes len ≡ zeros len
  unfolding span_of
  span-other n = rw (ne_eqb (length bytes) len n)

  pub length-span : length (span_of bytes len) ≡ len
  unfolding span_of
  length-span = go (eqb (length bytes) len) refl
    where
      go : (b : Bool) → eqb (length bytes) len ≡ b → length (cond b bytes (zeros len)) ≡ len
      go true e = eqb-true (length bytes) len e
      go false e = length-bytes_from [] 0 len

  -- zeros, however they are lent
  pub span-zeros : ((p : ℕ) → get_or bytes p 0 ≡ 0) → span_of bytes len ≡ zeros len
  unfolding span_of
  span-zeros z = go (eqb (length bytes) len) refl
    where
      go : (b : Bool) → eqb (length bytes) len ≡ b → cond b bytes (zeros len) ≡ zeros len
      go true e = sym (bytes_from-all bytes len (eqb-true (length bytes) len e)) ∙ bytes_from-ext bytes [] 0 0 len (λ i l. z (0 + i))
      go false e = refl

  pub own-run : (at n : ℕ) → length bytes ≡ len → bytes_from bytes at n ≡ bytes_from (span_of bytes len) at n
  own-run at n e = ap (λ (x : List ℕ). bytes_from x at n) (sym (span-own e))

  pub other-run : Source bytes len → (at n : ℕ) → (length bytes ≡ len → ⊥) → at + n ≤ len → bytes_from bytes 0 n ≡ bytes_from (span_of bytes len) at n
  other-run S at n o h =
      rw (span-other o)
      (bytes_from-ext bytes (zeros len) 0 at n (λ i l. S.zero o (0 + i) ∙ sym (get_or-bytes_from [] 0 len (at + i) (let q : at + i < len = omega arith in q))))

-- what is lent: the bytes themselves, or at least a sector of zeros
pub source-own : (bytes : List ℕ) → Source bytes (length bytes)
source-own bytes = record { sector = λ o. absurd (o refl); zero = λ o. absurd (o refl) }

pub source-zeros : (bytes : List ℕ) (len : ℕ) → 512 ≤ length bytes → ((p : ℕ) → get_or bytes p 0 ≡ 0) → Source bytes len
source-zeros bytes len h z = record { sector = λ o. h; zero = λ o. z }
