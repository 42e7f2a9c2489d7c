-- Tidy roots, whose deletes doom exactly what they leave behind.
use Rattle.std.specs.Prelude.{◌≡◌, ◌⊎◌, ℕ, suc, true, Some}
use Rattle.std.specs.Ordering.{nat_cmp}
use Rattle.std.specs.FinMap.{FinMap}
use Rattle.std.specs.FinMap as fin
use Rattle.esr_model.specs.Names.{BlobName, Root, ShardIndex}
use Rattle.esr_model.specs.Values.{Bytes, RootSnap, RootIndex, RootData, SnapList, ShardFiles, ClusterRecord, Formats}
use Rattle.esr_model.specs.Image.{Image, Has, At, Reads, RootIs, Generation}
use Rattle.esr_model.specs.Reach.{Reached}
use Rattle.esr_core.specs.World.{World, Op, Shard, Ticket, HeldIn}
use Rattle.esr_core.specs.Generations.{DoneAt}
use Rattle.esr_core.specs.Pruning.{dooms}
use Rattle.esr_core.specs.Allowed.{SettlesDeletion}

-- the root's index of this id has the snapshot
pub record IsInIndex (root : RootData) (index uuid : ℕ) : Type 0 where
  pub x : RootIndex
  pub there : Has root.indices x
  pub id : x.id ≡ index
  pub mine : Has x.snapshots uuid

-- of the root's snapshots the index of a shard lists such alone as the root's own index has
abbrev pub ListsListed : RootData → ℕ → ShardFiles → Type 0
ListsListed root index held = (l : SnapList) → Has held.snapshots l → (s : RootSnap) → Has root.snapshots s → l.uuid ≡ s.uuid → IsInIndex root index s.uuid

-- the generation of the shard is tidy: its index lists so
abbrev pub IsTidy : Formats → (BlobName → Bytes → Type 0) → RootData → ℕ → ℕ → ℕ → Type 0
IsTidy f has root index shard generation = (held : ShardFiles) → Reads has (ShardIndex index shard generation) f.shard_index held → ListsListed root index held

-- each index of the root has a snapshot, and each of its generations is tidy
pub record TidyRoot (f : Formats) (has : BlobName → Bytes → Type 0) (root : RootData) : Type 0 where
  pub used : (x : RootIndex) → Has root.indices x → (u : ℕ) × Has x.snapshots u
  pub lists : (index shard generation : ℕ) → Generation root index shard generation → IsTidy f has root index shard generation

-- the safe root is tidy, and so are the generations at which open ops are done, and the bases of the shards' tickets that are out
pub record Tidy (f : Formats) (has : BlobName → Bytes → Type 0) (root : RootData) (ops : FinMap nat_cmp Op) (tickets : FinMap nat_cmp Ticket) : Type 0 where
  pub rooted : TidyRoot f has root
  pub done : (uuid index shard generation : ℕ) → DoneAt ops uuid index shard generation → IsTidy f has root index shard generation
  pub bases : (k : ℕ) (t : Ticket) → fin.get tickets k ≡ Some t → t.out ≡ true → (index shard base : ℕ) → t.work ≡ Shard index shard → t.base ≡ Some base → IsTidy f has root index shard base

-- a tidy world
abbrev pub TidyIn : Formats → World → Type 0
TidyIn f w = Tidy f (HeldIn f w) w.root w.ops w.tickets

-- the safe root of the image is tidy, where its record reads
abbrev pub TidyImage : Formats → Image → Type 0
TidyImage f image = (text : Bytes) (cluster : ClusterRecord) (root : RootData) → image.text ≡ Some text → f.cluster.read text ≡ Some cluster → RootIs f (At f image.blobs) cluster.ledger.safe root → TidyRoot f (At f image.blobs) root

-- a name that the safe root reaches, or its own name
abbrev pub IsOfSafe : Formats → World → BlobName → Type 0
IsOfSafe f w name = Reached f (HeldIn f w) w.root name ⊎ ((m : ℕ) × (name ≡ Root m) × (w.safe ≡ suc m))

-- the delete dooms what is of the safe root and what its new root doesn't reach, and nothing else
pub record DoomsExactly (f : Formats) (w : World) (k : ℕ) (s : SettlesDeletion f w k) : Type 0 where
  pub all : (name : BlobName) → IsOfSafe f w name → (Reached f (HeldIn f w) s.s.root name → ⊥) → Has (dooms f s.t) name
  pub was : (name : BlobName) → Has (dooms f s.t) name → IsOfSafe f w name
  pub left : (name : BlobName) → Has (dooms f s.t) name → Reached f (HeldIn f w) s.s.root name → ⊥
