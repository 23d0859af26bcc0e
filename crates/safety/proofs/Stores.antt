-- Numbers stored into fields that lie apart: each of these then reads what was stored, and every other field what it was. Whether
-- they lie apart is a test that the checker computes. Assumes nothing.
use Prim.Native.Nat.{ℕ, ◌+◌, ◌^◌, ◌<◌}
use mathlib.Core.Path.{◌≡◌, refl, ap, ◌∙◌}
use mathlib.Core.Bool.{Bool, true, ◌&&◌, ◌||◌}
use mathlib.Core.List.{List, [], ◌∷◌}
use lib.Dec.{leb}
use lib.ListN.{length}
use borrow.Author.Tests.{lt-ltb}
use Rattle.model.specs.Bytes.{Field, number_in, Store, set_to, with_stores, be_bytes, bytes_from, put}
use Rattle.laws.proofs.Booleans.{and_left, and_right, or_left, or_right}
use Rattle.laws.proofs.Bytes.{length-put, number_same, number-other, number-apart, bytes-other}

-- numbers, each with its field
abbrev pub Numbers : Type 0
Numbers = List (Field × ℕ)

abbrev pub stores_of : Numbers → List Store
stores_of [] = []
stores_of (n ∷ ns) = set_to n.0 n.1 ∷ stores_of ns

-- the field ends before an index; two fields share no byte
abbrev pub ends : Field → ℕ → Bool
ends f at = leb (f.offset + f.width) at

abbrev pub apart : Field → Field → Bool
apart f g = ends f g.offset || ends g f.offset

-- a field shares no byte with these; no two of these do, and all end before an index
abbrev pub apart_from : Field → Numbers → Bool
apart_from f [] = true
apart_from f (n ∷ ns) = apart f n.0 && apart_from f ns

abbrev pub end_in : ℕ → Numbers → Bool
end_in at [] = true
end_in at (n ∷ ns) = ends n.0 at && end_in at ns

abbrev pub apart_in : Numbers → Bool
apart_in [] = true
apart_in (n ∷ ns) = apart_from n.0 ns && apart_in ns

-- every one of these fields shares no byte with those; every one ends before an index
abbrev pub all_apart : List Field → Numbers → Bool
all_apart [] ns = true
all_apart (f ∷ fs) ns = apart_from f ns && all_apart fs ns

abbrev pub all_end : List Field → ℕ → Bool
all_end [] at = true
all_end (f ∷ fs) at = ends f at && all_end fs at

-- every number fits its field; every field reads its number
abbrev pub Fit : Numbers → Type 0
Fit [] = Unit {0}
Fit (n ∷ ns) = (n.1 < 256 ^ n.0.width) × Fit ns

abbrev pub Holds : List ℕ → Numbers → Type 0
Holds s [] = Unit {0}
Holds s (n ∷ ns) = (number_in s n.0 ≡ n.1) × Holds s ns

-- these fields read the same in both
abbrev pub Alike : List ℕ → List ℕ → List Field → Type 0
Alike s t [] = Unit {0}
Alike s t (f ∷ fs) = (number_in s f ≡ number_in t f) × Alike s t fs

pub alike_then : (s t u : List ℕ) (fs : List Field) → Alike s t fs → Alike t u fs → Alike s u fs
alike_then s t u [] a b = tt
alike_then s t u (f ∷ fs) a b = (a.0 ∙ b.0, alike_then s t u fs a.1 b.1)

-- every other field reads what it was
pub kept : (s : List ℕ) (f : Field) (ns : Numbers) → apart_from f ns ≡ true → number_in (with_stores s (stores_of ns)) f ≡ number_in s f
kept s f [] h = refl
kept s f (n ∷ ns) h =
    kept (put s n.0.offset (be_bytes n.0.width n.1)) f ns (and_right (apart f n.0) (apart_from f ns) h)
    ∙ number-other s n.0.offset n.0.width n.1 f.offset f.width (and_left (apart f n.0) (apart_from f ns) h)

pub kept-all : (s : List ℕ) (fs : List Field) (ns : Numbers) → all_apart fs ns ≡ true → Alike (with_stores s (stores_of ns)) s fs
kept-all s [] ns h = tt
kept-all s (f ∷ fs) ns h = (kept s f ns (and_left (apart_from f ns) (all_apart fs ns) h), kept-all s fs ns (and_right (apart_from f ns) (all_apart fs ns) h))

-- a field that ends before bytes of any length, and bytes behind all fields
pub kept-before : (s : List ℕ) (at : ℕ) (bytes : List ℕ) (f : Field) → ends f at ≡ true → number_in (put s at bytes) f ≡ number_in s f
kept-before s at bytes f h = number-apart s at bytes f.offset f.width (or_left (ends f at) (leb (at + length bytes) f.offset) h)

pub kept-before-all : (s : List ℕ) (at : ℕ) (bytes : List ℕ) (fs : List Field) → all_end fs at ≡ true → Alike (put s at bytes) s fs
kept-before-all s at bytes [] h = tt
kept-before-all s at bytes (f ∷ fs) h =
    (kept-before s at bytes f (and_left (ends f at) (all_end fs at) h), kept-before-all s at bytes fs (and_right (ends f at) (all_end fs at) h))

pub kept-behind : (s : List ℕ) (from m : ℕ) (ns : Numbers) → end_in from ns ≡ true → bytes_from (with_stores s (stores_of ns)) from m ≡ bytes_from s from m
kept-behind s from m [] h = refl
kept-behind s from m (n ∷ ns) h =
    let e = and_left (ends n.0 from) (end_in from ns) h in
    kept-behind (put s n.0.offset (be_bytes n.0.width n.1)) from m ns (and_right (ends n.0 from) (end_in from ns) h)
    ∙ bytes-other s n.0.offset n.0.width n.1 from m (or_right (leb (from + m) n.0.offset) (ends n.0 from) e)

-- each field reads what was stored
pub stored : (s : List ℕ) (l : ℕ) (ns : Numbers) → length s ≡ l → apart_in ns ≡ true → end_in l ns ≡ true → Fit ns → Holds (with_stores s (stores_of ns)) ns
stored s l [] e a i f = tt
stored s l (n ∷ ns) e a i f =
    let bytes = be_bytes n.0.width n.1 in
    let own : ends n.0 (length s) ≡ true = ap (ends n.0) e ∙ and_left (ends n.0 l) (end_in l ns) i in (
      kept (put s n.0.offset bytes) n.0 ns (and_left (apart_from n.0 ns) (apart_in ns) a)
          ∙ number_same s n.0.offset n.0.width n.1 own (lt-ltb n.1 (256 ^ n.0.width) f.0),
      stored (put s n.0.offset bytes) l ns (length-put s n.0.offset bytes ∙ e) (and_right (apart_from n.0 ns) (apart_in ns) a) (and_right (ends n.0 l) (end_in l ns) i) f.1,
    )
