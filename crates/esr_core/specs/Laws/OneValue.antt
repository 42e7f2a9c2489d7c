-- A blob reads as one value, and a generation is that of an index of its root.
use Rattle.std.proofs.Common.{◌≡◌, ℕ, zero, suc, List, [], ◌∷◌, Some, refl, sym, ap, ◌∙◌, subst, inl, inr}
use Rattle.std.proofs.lemmas.Bool.Decides.{eqb_tells}
use Rattle.std.specs.Prelude.{Bool, if◌then◌else◌}
use Rattle.std.proofs.lemmas.Option.{same_Some, none-some}
use Rattle.esr_model.specs.Names.{BlobName, Root}
use Rattle.esr_model.specs.Values.{Bytes, RootData, Kind, Formats, RootIndex, IndexRef}
use Rattle.esr_model.specs.Shelf.{Shelved, ShelfShard}
use Rattle.esr_model.specs.Image.{Has, IsOne, Reads, RootStands, Picked, Generation, index_at, at_shard_of, RootIs, AllPairs, ListsAs, ShardStands}
use Rattle.esr_core.specs.World.{World, HeldIn}

pub reads_one : (has : BlobName → Bytes → Type 0) → IsOne has → {V : Type 0} (name : BlobName) (kind : Kind V) (v w : V) → Reads has name kind v → Reads has name kind w → v ≡ w
reads_one has func name kind v w a b =
    let same : a.bytes ≡ b.bytes = func name a.bytes b.bytes a.there b.there in
    same_Some _ _ (sym a.reads ∙ ap kind.read same ∙ b.reads)

pub held_one : (f : Formats) (w : World) → IsOne (HeldIn f w)
held_one f w name a b p q = same_Some a b (sym p.0.0 ∙ q.0.0)

pub safe_root_stands : (f : Formats) (has : BlobName → Bytes → Type 0) → IsOne has → (safe : ℕ) (root : RootData) (shelf : List Shelved) → Picked f has safe shelf → RootIs f has safe root → RootStands f has root shelf
safe_root_stands f has func zero root shelf p is =
    let none : RootStands f has (record { snapshots = []; indices = [] }) [] = record { snapshots = tt; indices = λ i s g h. absurd (none-some g h) } in
    subst (λ x. RootStands f has x shelf) (sym is) (subst (RootStands f has (record { snapshots = []; indices = [] })) (sym p) none)
safe_root_stands f has func (suc n) root shelf p is = subst (λ x. RootStands f has x shelf) (reads_one has func (Root n) f.root p.root root p.root_reads is) p.stands

-- a generation is that of an index of the root
pub generation_index : (root : RootData) (i k g : ℕ) → Generation root i k g → (x : RootIndex) × Has root.indices x × (x.id ≡ i)
generation_index root i k g e = go root.indices e
  where
    go : (xs : List RootIndex) → at_shard_of (index_at xs i) k ≡ Some g → (x : RootIndex) × Has xs x × (x.id ≡ i)
    go [] h = absurd (none-some g h)
    go (x ∷ xs) h = elim (eqb_tells x.id i) [
      | inl t ↦ (x, inl refl, t.1)
      | inr t ↦ let (y, m, is) = go xs (subst (λ o. at_shard_of o k ≡ Some g) (ap (λ (b : Bool). if b then Some x else index_at xs i) t.0) h) in (y, inr m, is)
    ]

-- the shard of a listed snapshot stands under the root's generation
pub listed_as : (f : Formats) (has : BlobName → Bytes → Type 0) (root : RootData) (uuid : ℕ) (places : List (IndexRef × ℕ)) (shards : List ShelfShard) → AllPairs (ShardStands f has root uuid) places shards
    → (place : IndexRef × ℕ) → Has places place → (g : ℕ) → Generation root place.0.id place.1 g → ListsAs f has place.0.id place.1 g uuid
listed_as f has root uuid [] shards h place m g is = absurd m
listed_as f has root uuid (x ∷ xs) [] h place m g is = absurd h
listed_as f has root uuid (x ∷ xs) (y ∷ ys) h place (inl e) g is =
    let s : ShardStands f has root uuid place y = subst (λ p. ShardStands f has root uuid p y) e h.0 in
    let same : s.generation ≡ g = same_Some _ _ (sym s.in_root ∙ is) in
    subst (λ n. ListsAs f has place.0.id place.1 n uuid) same (record { snap = s.snap; snap_reads = s.snap_reads; held = s.index; held_reads = s.index_reads; lists = s.lists })
listed_as f has root uuid (x ∷ xs) (y ∷ ys) h place (inr m) g is = listed_as f has root uuid xs ys h.1 place m g is
