-- Laws of the chains of directory entries: numbers that are 0 hold none, and one entry more is free or joins. Rests on `Chains` and `Keys`.
use Prim.Native.Nat.{ℕ, ◌+◌, ◌*◌, ◌/◌, ◌%◌, ◌<◌}
use mathlib.Core.Path.{◌≡◌, sym, ap, ◌∙◌}
use mathlib.Core.Bool.{true, false, true≢false}
use mathlib.Core.List.{List}
use native.Mathlib.Omega.{arith}
use lib.ListN.{length, get_or}
use Rattle.model.specs.Geometry.{entry_at}
use Rattle.model.specs.Disk.{Disk}
use Rattle.model.specs.Entry.{is_occupied}
use Rattle.duplicates.specs.declared.Key.{Key}
use Rattle.duplicates.specs.Keys.{place_of}
use Rattle.duplicates.specs.Chains.{Chains, last_in, before_in, Joined, member, Chained}
use Rattle.duplicates.proofs.Chains.{chains-none, up_to, chains-pass, chains-enter}
use Rattle.duplicates.proofs.Keys.{member-own, member-other, member-none}

module _ (key : Key) (d : Disk) where
  pub chained-none : (c : List ℕ) → ((b : ℕ) → b < length c → get_or c b 0 ≡ 0) → Chained key d 0 c
  chained-none c z = record {
    chains = chains-none _ _ _ _ (λ b l. let e = z (2 * b) (omega arith) in let o = z (2 * b + 1) (omega arith) in rw (e, o));
    tags = λ j l. absurd (omega arith);
  }

  module _ (i : ℕ) (c : List ℕ) (C : Chained key d i c) where
    abbrev n : ℕ
    n = length c / 2

    pub chained-pass : is_occupied (d (entry_at i)) ≡ false → Chained key d (i + 1) c
    chained-pass o = record {
      chains = chains-pass (member key d n) n i (last_in c) (before_in c) C.chains (member-none key d n i o);
      tags = λ j l p. up_to i j l (λ k. C.tags j k p) (λ e. absurd (true≢false (sym p ∙ rw e o)));
    }

    pub chained-join : (c' : List ℕ) (place : ℕ) → length c' ≡ length c → is_occupied (d (entry_at i)) ≡ true → place ≡ place_of key n (d (entry_at i))
        → place / 256 < n → Joined i (place / 256) (place % 256) c c' → Chained key d (i + 1) c'
    chained-join c' place len o is l J =
        let bucket : place / 256 ≡ place_of key n (d (entry_at i)) / 256 = ap (λ p. p / 256) is in
        let joined : Chains (member key d n) n (i + 1) (last_in c') (before_in c') =
        chains-enter (member key d n) n i (place / 256) C.chains J.enters l (member-own key d n i (place / 256) o bucket) (member-other key d n i (place / 256) o bucket) in
        record {
          chains = rw len joined;
          tags = λ j h p. rw len
              (up_to i j h (λ k. J.tag-other j (λ e. omega arith) ∙ C.tags j k p) (λ e. rw e (J.tag-own ∙ ap (λ v. v % 256) is)));
        }
