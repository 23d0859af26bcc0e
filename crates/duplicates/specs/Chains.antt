-- Chained hashing: of each bucket the last member, and of each member the one before it. Members are counted from 1, and 0 is none.
use Rattle.std.specs.Prelude.{ℕ, zero, suc, ◌+◌, ◌*◌, ◌/◌, ◌%◌, ◌<◌, ◌≡◌, ◌≢◌, Bool, true, cond, ◌&&◌, List, eqb, length, get_or}
use Rattle.model.specs.Geometry.{entry_at}
use Rattle.model.specs.Disk.{Disk}
use Rattle.model.specs.Entry.{is_occupied}
use Rattle.duplicates.specs.declared.Key.{Key}
use Rattle.duplicates.specs.Keys.{place_of}

-- one more than the greatest index below n at which q holds; 0 where there is none
unfoldable pub last_below : (ℕ → Bool) → ℕ → ℕ
last_below q zero = 0
last_below q (suc n) = cond (q n) (suc n) (last_below q n)

-- the chain of the indexes below i at which q holds: it starts at the last, and `next` has, for each, the one before it
pub record Chain (q : ℕ → Bool) (i start : ℕ) (next : ℕ → ℕ) : Type 0 where
  pub last : start ≡ last_below q i
  pub before : (j : ℕ) → j < i → q j ≡ true → next j ≡ last_below q j

-- a chain for each of n buckets, where `member b j` says that index j belongs to bucket b
pub record Chains (member : ℕ → ℕ → Bool) (n i : ℕ) (head next : ℕ → ℕ) : Type 0 where
  pub chain : (b : ℕ) → b < n → Chain (member b) i (head b) next

-- index i has become the last of bucket b
pub record Enters (i b : ℕ) (head next head' next' : ℕ → ℕ) : Type 0 where
  pub head-own : head' b ≡ i + 1
  pub head-other : (x : ℕ) → x ≢ b → head' x ≡ head x
  pub next-own : next' i ≡ head b
  pub next-other : (j : ℕ) → j ≢ i → next' j ≡ next j

-- ---- both as the halves of numbers of 32 bits

abbrev pub head_in : List ℕ → ℕ → ℕ
head_in c b = get_or c b 0 / 65536

abbrev pub next_in : List ℕ → ℕ → ℕ
next_in c j = get_or c j 0 % 65536

abbrev pub Entered : ℕ → ℕ → List ℕ → List ℕ → Type 0
Entered i b before after = Enters i b (head_in before) (next_in before) (head_in after) (next_in after)

-- ---- both with a tag of each index: numbers of 32 bits, of which two hold a bucket's last member

abbrev pub top_in : List ℕ → ℕ → ℕ
top_in c k = get_or c k 0 / 16777216

abbrev pub link_in : List ℕ → ℕ → ℕ
link_in c k = get_or c k 0 % 16777216

abbrev pub last_in : List ℕ → ℕ → ℕ
last_in c b = top_in c (2 * b) + top_in c (2 * b + 1) * 256

abbrev pub before_in : List ℕ → ℕ → ℕ
before_in c j = link_in c j % 65536

abbrev pub tag_in : List ℕ → ℕ → ℕ
tag_in c j = link_in c j / 65536

-- index i, with its tag, has become the last of bucket b
pub record Joined (i b tag : ℕ) (before after : List ℕ) : Type 0 where
  pub enters : Enters i b (last_in before) (before_in before) (last_in after) (before_in after)
  pub tag-own : tag_in after i ≡ tag
  pub tag-other : (j : ℕ) → j ≢ i → tag_in after j ≡ tag_in before j

-- an occupied entry belongs to the bucket of its key
abbrev pub member : Key → Disk → ℕ → ℕ → ℕ → Bool
member key d n b j = is_occupied (d (entry_at j)) && eqb (place_of key n (d (entry_at j)) / 256) b

-- the chains of the entries below i, a bucket for two numbers
pub record Chained (key : Key) (d : Disk) (i : ℕ) (c : List ℕ) : Type 0 where
  pub chains : Chains (member key d (length c / 2)) (length c / 2) i (last_in c) (before_in c)
  pub tags : (j : ℕ) → j < i → is_occupied (d (entry_at j)) ≡ true → tag_in c j ≡ place_of key (length c / 2) (d (entry_at j)) % 256
