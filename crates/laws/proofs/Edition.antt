-- Laws of the editions' layouts: what holds of both holds of every edition's. The tests that fields lie apart are computed by it, once for
-- each of the two. Assumes nothing.
use Prim.Native.Nat.{ℕ, ◌+◌, ◌^◌, ◌≤◌, ◌<◌}
use mathlib.Core.Path.{◌≡◌, refl}
use mathlib.Core.Bool.{Bool, true, false, cond, not, ◌&&◌, ◌||◌}
use native.Mathlib.Omega.{arith}
use lib.Dec.{eqb, ltb}
use borrow.Author.Tests.{eqb-true, ltb-false}
use Rattle.model.specs.Edition.{EditionLayout, first_edition, second_edition, layout_of, is_edition, bad_time}

pub by-edition : (P : EditionLayout → Type 0) → P first_edition → P second_edition → (edition : ℕ) → P (layout_of edition)
unfolding layout_of
by-edition P first second edition = go (eqb edition 2)
  where
    go : (b : Bool) → P (cond b second_edition first_edition)
    go true = second
    go false = first

-- the name has the rest of the sector; its length and the times end before it, or in the sector
pub name-ends : (edition : ℕ) → (layout_of edition).name + (layout_of edition).longest_name ≡ 512
name-ends = by-edition (λ l. l.name + l.longest_name ≡ 512) refl refl

pub name-bound : (edition : ℕ) → (layout_of edition).longest_name ≤ 476
name-bound = by-edition (λ l. l.longest_name ≤ 476) (omega arith) (omega arith)

-- a field of the edition ends in the sector
pub record EndsInSector (l : EditionLayout) : Type 0 where
  pub access_time : l.access_time.offset + l.access_time.width ≤ 512
  pub change_time : l.change_time.offset + l.change_time.width ≤ 512
  pub name_length : l.name_length.offset + l.name_length.width ≤ 512
  pub root_access_time : l.root_access_time.offset + l.root_access_time.width ≤ 512
  pub root_change_time : l.root_change_time.offset + l.root_change_time.width ≤ 512

pub fields-end : (edition : ℕ) → EndsInSector (layout_of edition)
fields-end =
    by-edition EndsInSector
    (record { access_time = omega arith; change_time = omega arith; name_length = omega arith; root_access_time = omega arith; root_change_time = omega arith })
    (record { access_time = omega arith; change_time = omega arith; name_length = omega arith; root_access_time = omega arith; root_change_time = omega arith })

-- a time that is no bad argument fits every field for one
pub record FitsTimes (l : EditionLayout) (time : ℕ) : Type 0 where
  pub access_time : time < 256 ^ l.access_time.width
  pub change_time : time < 256 ^ l.change_time.width
  pub root_access_time : time < 256 ^ l.root_access_time.width
  pub root_change_time : time < 256 ^ l.root_change_time.width

pub time-fits : (edition time : ℕ) → bad_time edition time ≡ false → time < 2 ^ 64 → FitsTimes (layout_of edition) time
unfolding bad_time layout_of
time-fits edition time good h = go (eqb edition 2) good
  where
    go : (b : Bool) → (not b && ltb 4294967295 time) ≡ false → FitsTimes (cond b second_edition first_edition) time
    go true e = record { access_time = h; change_time = h; root_access_time = h; root_change_time = h }
    go false e =
        let n : time < 2 ^ 32 = (let q : time ≤ 4294967295 = ltb-false 4294967295 time e in omega arith) in
        record { access_time = n; change_time = n; root_access_time = n; root_change_time = n }

-- an edition fits the superblock's version field
pub edition-small : (edition : ℕ) → is_edition edition ≡ true → edition < 65536
unfolding is_edition
edition-small edition h = go (eqb edition 1) refl h
  where
    go : (b : Bool) → eqb edition 1 ≡ b → (b || eqb edition 2) ≡ true → edition < 65536
    go true e k = omega (arith, eqb-true edition 1 e)
    go false e k = omega (arith, eqb-true edition 2 k)
