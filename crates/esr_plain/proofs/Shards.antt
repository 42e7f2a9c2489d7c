-- When the shard of a snapshot stands.
use Rattle.std.proofs.Common.{◌≡◌, ℕ, List, Option, Some, None, refl, subst}
use Rattle.esr_model.specs.Names.{BlobName, ShardSnap, ShardIndex}
use Rattle.esr_model.specs.Values.{Bytes, IndexRef, RootData, ShardSnapshot, ShardFiles, Formats}
use Rattle.esr_model.specs.Shelf.{ShelfShard}
use Rattle.esr_model.specs.Image.{AllPairs, IsOne, Reads, Lists, ShardStands, index_at, at_shard_of}
use Rattle.esr_plain.specs.Exactly.{IsExactly}
use Rattle.esr_plain.specs.Joined.{IsStored, HasFiles}
use Rattle.esr_plain.proofs.Blobs.{reads_one}

module _ (f : Formats) (has : BlobName → Bytes → Type 0) (index shard generation uuid : ℕ) where
  pub no_snap : ((s : ShardSnapshot) → Reads has (ShardSnap index shard uuid) f.shard_snap s → ⊥) → (files : List (Bytes × Bytes)) → HasFiles f has index shard generation uuid files → ⊥
  no_snap none files h = none h.snap h.snap_reads

  pub no_index : ((v : ShardFiles) → Reads has (ShardIndex index shard generation) f.shard_index v → ⊥) → (files : List (Bytes × Bytes)) → HasFiles f has index shard generation uuid files → ⊥
  no_index none files h = none h.held h.held_reads

  pub not_listed : IsOne has → (snap : ShardSnapshot) (held : ShardFiles) → Reads has (ShardSnap index shard uuid) f.shard_snap snap → Reads has (ShardIndex index shard generation) f.shard_index held
      → (Lists held uuid snap.files → ⊥) → (files : List (Bytes × Bytes)) → HasFiles f has index shard generation uuid files → ⊥
  not_listed one snap held snap_reads held_reads none files h =
      let same_snap = reads_one has one (ShardSnap index shard uuid) f.shard_snap h.snap snap h.snap_reads snap_reads in
      let same_held = reads_one has one (ShardIndex index shard generation) f.shard_index h.held held h.held_reads held_reads in
      none (subst (λ (s : ShardSnapshot). Lists held uuid s.files) same_snap (subst (λ (v : ShardFiles). Lists v uuid h.snap.files) same_held h.lists))

  pub files_exact : IsOne has → (snap : ShardSnapshot) (held : ShardFiles) → Reads has (ShardSnap index shard uuid) f.shard_snap snap → Reads has (ShardIndex index shard generation) f.shard_index held → Lists held uuid snap.files
      → (o : Option (List (Bytes × Bytes))) → IsExactly (AllPairs (IsStored f has index shard) snap.files) o → IsExactly (HasFiles f has index shard generation uuid) o
  files_exact one snap held snap_reads held_reads lists (Some files) stored = record { snap = snap; snap_reads = snap_reads; held = held; held_reads = held_reads; lists = lists; stored = stored }
  files_exact one snap held snap_reads held_reads lists None none = λ files h.
      let same_snap = reads_one has one (ShardSnap index shard uuid) f.shard_snap h.snap snap h.snap_reads snap_reads in
      none files (subst (λ (s : ShardSnapshot). AllPairs (IsStored f has index shard) s.files files) same_snap h.stored)

module _ (f : Formats) (has : BlobName → Bytes → Type 0) (root : RootData) (uuid : ℕ) (place : IndexRef × ℕ) where
  pub no_files : (g : ℕ) → at_shard_of (index_at root.indices place.0.id) place.1 ≡ Some g → ((files : List (Bytes × Bytes)) → HasFiles f has place.0.id place.1 g uuid files → ⊥) → (shard : ShelfShard)
      → ShardStands f has root uuid place shard → ⊥
  no_files g is none shard s =
      let some = s.in_root in
      let same : s.generation ≡ g = cc in
      let held_reads = subst (λ (n : ℕ). Reads has (ShardIndex place.0.id place.1 n) f.shard_index s.index) same s.index_reads in
      none shard.files (record { snap = s.snap; snap_reads = s.snap_reads; held = s.index; held_reads = held_reads; lists = s.lists; stored = s.files })

  pub shard_stands : (g : ℕ) (name : Bytes) (files : List (Bytes × Bytes)) → at_shard_of (index_at root.indices place.0.id) place.1 ≡ Some g → name ≡ place.0.name → HasFiles f has place.0.id place.1 g uuid files
      → ShardStands f has root uuid place (record { index = name; number = place.1; files = files })
  shard_stands g name files is named h = record {
    name_is = named;
    number_is = refl;
    generation = g;
    in_root = is;
    snap = h.snap;
    snap_reads = h.snap_reads;
    index = h.held;
    index_reads = h.held_reads;
    lists = h.lists;
    files = h.stored;
  }
