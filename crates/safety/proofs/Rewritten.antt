-- An image of which root, entry i, table sectors and data sectors were rewritten represents the ledger with slot i replaced: what is
-- left to prove of a call is gathered in `Rewrites`. Assumes nothing.
use Prim.Native.Nat.{ℕ, ◌+◌, ◌*◌, ◌/◌, ◌%◌, ◌<◌}
use mathlib.Core.Path.{◌≡◌, refl, sym, ap, ap₂, ◌∙◌, fun_ext}
use mathlib.Core.Logic.{◌≢◌}
use mathlib.Core.Bool.{Bool, true, false, cond}
use mathlib.Core.List.{List}
use mathlib.Core.Option.{Option, some}
use lib.Dec.{eqb}
use lib.ListN.{length, get_or}
use borrow.Author.Tests.{eqb-true, eqb-false}
use native.Mathlib.Nat.{zero-add}
use Rattle.model.specs.declared.Geometry.{Geometry}
use Rattle.model.specs.Search.{tabulate, first, index_of}
use Rattle.model.specs.Geometry.{extent_sectors, root_at, entry_at, data_at, extents_for}
use Rattle.model.specs.Disk.{Disk, view}
use Rattle.model.specs.Root.{Root, root_in}
use Rattle.model.specs.Catalogue.{Catalogue, catalogue_of, is_part, extent_of, sector_of, file_byte, file_bytes}
use Rattle.model.specs.Faults.{fault21}
use Rattle.model.specs.Ledger.{Ledger, File, entry_of_file, catalogue}
use Rattle.safety.proofs.Commit.{Ready}
use Rattle.safety.proofs.Rep.{Rep, says_of, Disjoint, Sized, cat-is, catalogue-geometry, no-mark-fault}
use Rattle.safety.proofs.Preserved.{entries-keep, marks-keep, bytes-keep-at}
use Rattle.safety.proofs.Replaced.{replaced, entries-other, entries-here, part-other, Admissible, faultless-replaced}

-- where file i's bytes stand depends on the geometry and on which extents are its
pub bytes_of : (c c' : Catalogue) (d : Disk) (i off n : ℕ) → c'.geometry ≡ c.geometry → ((o e : ℕ) → is_part i o (c'.table e) ≡ is_part i o (c.table e))
    → file_bytes c' d i off n ≡ file_bytes c d i off n
unfolding file_bytes file_byte sector_of extent_of
bytes_of c c' d i off n eg et =
    ap₂ (λ (g : Geometry) (t : ℕ → ℕ → Bool). tabulate (λ k.
    get_or (d (data_at g + index_of (first (t (k / 512 / extent_sectors g)) g.extents) * extent_sectors g + k / 512 % extent_sectors g)) (k % 512) 0) off n)
    eg (fun_ext (λ o. fun_ext (λ e. et o e)))

module _ (L : Ledger) (img : List ℕ) (root : Root) (i : ℕ) (f : Option File) (out : List ℕ) where
  -- what a call has to show of the image that it leaves
  pub record Rewrites : Type 0 where
    pub ready : Ready L.geometry out
    pub new-root : root_in L.geometry.edition (view out root_at) ≡ root
    -- the directory: entry i, and all others kept
    pub mark : fault21 (view out) i ≡ false
    pub entry : (catalogue_of (view out)).entries i ≡ entry_of_file f
    pub entries : (k : ℕ) → k < L.geometry.files → k ≢ i → view out (entry_at k) ≡ view img (entry_at k)
    -- the table
    pub table : (e : ℕ) → (catalogue_of (view out)).table e ≡ (catalogue (replaced L root i f)).table e
    -- the bytes: file i's, and the sectors of all others kept
    pub bytes : (x : File) → f ≡ some x → file_bytes (catalogue_of (view out)) (view out) i 0 x.entry.size ≡ x.bytes
    pub kept : (k : ℕ) (x : File) → k ≢ i → L.slots k ≡ some x → (b : ℕ) → b < x.entry.size
        → view out (sector_of (catalogue L) k (b / 512)) ≡ view img (sector_of (catalogue L) k (b / 512))
    -- the ledger
    pub admissible : Admissible L root i f
    pub disjoint : Disjoint (replaced L root i f)
    pub sized : (x : File) → f ≡ some x → length x.extents ≡ extents_for L.geometry x.entry.size

module _ (L : Ledger) (img : List ℕ) (rep : Rep L img) (root : Root) (i : ℕ) (f : Option File) (out : List ℕ) (w : Rewrites L img root i f out) where
  abbrev M : Ledger
  M = replaced L root i f

  directory : (k : ℕ) → (catalogue_of (view out)).entries k ≡ (catalogue M).entries k
  directory k = go (eqb k i) refl
    where
      go : (b : Bool) → eqb k i ≡ b → (catalogue_of (view out)).entries k ≡ (catalogue M).entries k
      go true e =
          let q : k ≡ i = eqb-true k i e in
          ap (catalogue_of (view out)).entries q ∙ w.entry ∙ sym (entries-here L root i f) ∙ ap (catalogue M).entries (sym q)
      go false e =
          let ne : k ≢ i = eqb-false k i e in
          entries-keep L.geometry (view img) (view out) rep.ready.volume.geometry w.ready.volume.geometry k (λ l. w.entries k l ne)
          ∙ rep.says.directory k ∙ sym (entries-other L root i f k ne)

  marks : (k : ℕ) → k < L.geometry.files → fault21 (view out) k ≡ false
  marks k l = go (eqb k i) refl
    where
      go : (b : Bool) → eqb k i ≡ b → fault21 (view out) k ≡ false
      go true e = ap (fault21 (view out)) (eqb-true k i e) ∙ w.mark
      go false e = marks-keep (view img) (view out) k (w.entries k l (eqb-false k i e)) ∙ no-mark-fault L img rep.says k l

  out-geometry : (catalogue_of (view out)).geometry ≡ (catalogue L).geometry
  unfolding catalogue_of
  out-geometry = w.ready.volume.geometry ∙ sym (catalogue-geometry L)

  bytes-other : (k : ℕ) (x : File) → k ≢ i → L.slots k ≡ some x → file_bytes (catalogue_of (view out)) (view out) k 0 x.entry.size ≡ x.bytes
  bytes-other k x ne e =
      bytes_of (catalogue L) (catalogue_of (view out)) (view out) k 0 x.entry.size out-geometry
      (λ o y. ap (is_part k o) (w.table y) ∙ part-other L root i f w.admissible.others k o y ne)
      ∙ bytes-keep-at (catalogue L) (view img) (view out) k 0 x.entry.size (λ b l. rw zero-add (w.kept k x ne e b l))
      ∙ ap (λ (c : Catalogue). file_bytes c (view img) k 0 x.entry.size) (sym (cat-is L img rep)) ∙ rep.says.bytes k x e

  all-bytes : (k : ℕ) (x : File) → M.slots k ≡ some x → file_bytes (catalogue_of (view out)) (view out) k 0 x.entry.size ≡ x.bytes
  all-bytes k x = go (eqb k i) refl
    where
      go : (b : Bool) → eqb k i ≡ b → cond b f (L.slots k) ≡ some x → file_bytes (catalogue_of (view out)) (view out) k 0 x.entry.size ≡ x.bytes
      go true e q = ap (λ n. file_bytes (catalogue_of (view out)) (view out) n 0 x.entry.size) (eqb-true k i e) ∙ w.bytes x q
      go false e q = bytes-other k x (eqb-false k i e) q

  all-sized : Sized M
  all-sized k x = go (eqb k i)
    where
      go : (b : Bool) → cond b f (L.slots k) ≡ some x → length x.extents ≡ extents_for L.geometry x.entry.size
      go true q = w.sized x q
      go false q = rep.sized k x q

  pub rep-replaced : Rep (replaced L root i f) out
  rep-replaced = record {
    ready = w.ready;
    bounded = rep.bounded;
    faultless = faultless-replaced L root i f w.admissible rep.faultless;
    disjoint = w.disjoint;
    sized = all-sized;
    says = says_of M out w.ready w.new-root marks directory w.table all-bytes;
  }
