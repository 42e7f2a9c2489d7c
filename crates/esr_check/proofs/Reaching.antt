-- What the root that was read reaches.
use Rattle.std.proofs.Common.{◌≡◌, inl, inr, ℕ, suc, ◌≤◌, ◌<◌, true, List, [], refl, sym, subst}
use Rattle.esr_names.specs.declared.blob.ShardId.{ShardId}
use Rattle.esr_model.specs.Names.{BlobName, Root, Latest, Snap, Meta, IndexMeta, ShardSnap, ShardIndex, File, Part}
use Rattle.esr_model.specs.Values.{Has, IndexRef, RootSnap, RootData, SnapInfo, SnapList, ShardFiles, Kind}
use Rattle.esr_model.specs.Image.{At, Reads, Generation}
use Rattle.esr_model.specs.Parts.{part_count}
use Rattle.esr_model.specs.Agreement.{Agrees}
use Rattle.esr_model.specs.Reach.{Reached, ReachSnap, ReachMeta, ReachIndexMeta, ReachIndex, ReachShardSnap, ReachPart}
use Rattle.esr_core.specs.Allowed.{InReach}
use Rattle.esr_core.specs.Restores.{IsPiece, IsTestOf}
use Rattle.esr_core.specs.Entry.{Moment}
use Rattle.esr_shardidx.specs.declared.entry.FileEntry.{FileEntry as CodeEntry}
use Rattle.esr_shardidx.specs.Parts.{part_count as code_count}
use Rattle.esr_formats.specs.Shards.{entry_of}
use Rattle.esr_desk.specs.Start.{Start, formats_of, world_of}
use Rattle.esr_desk.specs.Own.{caller_of}
use Rattle.esr_desk.specs.Check.Conditions.{CanCheck}
use Rattle.esr_desk.specs.Check.Shown.{ReadAs}
use Rattle.esr_agreement.specs.Lists.{IsListed}
use Rattle.esr_restore.specs.PartSizes.{blob_name, same_count, part_listed, part_piece}
use Rattle.esr_check.specs.Names.{Just, AreUnfetched}
use Rattle.esr_check.specs.Went.{IsSoFar}
use Rattle.esr_check.specs.Pieces.{HasRoot, HasSafe, HasHeld}
use Rattle.esr_check.proofs.Counting.{can_check, all_new}

-- what was read is there, and reads so
pub reads_at : {V : Type 0} (s : Start) (log : List Moment) (count : ℕ) → IsSoFar s log count → (name : BlobName) (kind : Kind V) (v : V) → ReadAs s (caller_of s log) name kind v → s.tells ≡ true
    → Reads (At (formats_of s) (world_of s log).blobs) name kind v
reads_at s log count so name kind v h tells = record { bytes = h.bytes; there = so.there name h.bytes (h.fetched.read tells); reads = h.reads }

pub in_reach : (s : Start) (log : List Moment) (count n : ℕ) (root : RootData) (name : BlobName) → IsSoFar s log count → HasRoot s log n root → s.tells ≡ true → Reached (formats_of s) (At (formats_of s) (world_of s log).blobs) root name
    → InReach (formats_of s) (world_of s log) name
in_reach s log count n root name so has tells reached = (n, has.safe, inr (root, reads_at s log count so (Root n) (formats_of s).root root has.read tells, reached))

-- ---- the root

pub can_root : (s : Start) (log : List Moment) (count n : ℕ) → IsSoFar s log count → (caller_of s log).fetched ≡ [] → (world_of s log).safe ≡ suc n → CanCheck s log (Root n)
can_root s log count n so first safe = can_check s log count (Root n) so (all_new (caller_of s log) (Just (Root n)) first) (λ e. cc) (λ id test. test) (λ tells. (n, safe, inl refl))

-- ---- a listed snapshot

module _ (s : Start) (log : List Moment) (count n : ℕ) (root : RootData) (snap : RootSnap) (so : IsSoFar s log count) (has : HasRoot s log n root) where
  pub can_snap : Has root.snapshots snap → AreUnfetched (caller_of s log) (Just (Snap snap.uuid)) → CanCheck s log (Snap snap.uuid)
  can_snap listed new = can_check s log count (Snap snap.uuid) so new (λ e. cc) (λ id test. test) (λ tells. in_reach s log count n root (Snap snap.uuid) so has tells (ReachSnap snap listed))

  pub can_meta : Has root.snapshots snap → AreUnfetched (caller_of s log) (Just (Meta snap.uuid)) → CanCheck s log (Meta snap.uuid)
  can_meta listed new = can_check s log count (Meta snap.uuid) so new (λ e. cc) (λ id test. test) (λ tells. in_reach s log count n root (Meta snap.uuid) so has tells (ReachMeta snap listed))

  -- the root has the index, by its agreement with the info
  pub can_index_meta : (info : SnapInfo) (r : IndexRef) → Agrees root snap info → Has info.indices r → AreUnfetched (caller_of s log) (Just (IndexMeta r.id snap.uuid)) → CanCheck s log (IndexMeta r.id snap.uuid)
  can_index_meta info r agrees there new =
      let x = agrees.listed r there in
      can_check s log count (IndexMeta r.id snap.uuid) so new (λ e. cc) (λ id test. test)
      (λ tells. in_reach s log count n root (IndexMeta r.id snap.uuid) so has tells
      (subst (λ (i : ℕ). Reached (formats_of s) (At (formats_of s) (world_of s log).blobs) root (IndexMeta i snap.uuid)) x.3 (ReachIndexMeta x.0 snap.uuid x.1 x.4)))

-- ---- a shard

module _ (s : Start) (log : List Moment) (count : ℕ) (root : RootData) (index shard generation : ℕ) (so : IsSoFar s log count) (has : HasSafe s log root) (gen : Generation root index shard generation) where
  pub can_held : AreUnfetched (caller_of s log) (Just (ShardIndex index shard generation)) → CanCheck s log (ShardIndex index shard generation)
  can_held new =
      can_check s log count (ShardIndex index shard generation) so new (λ e. cc) (λ id test. test)
      (λ tells. in_reach s log count has.0 root (ShardIndex index shard generation) so has.1 tells (ReachIndex index shard generation gen))

  pub can_list : (held : ShardFiles) (l : SnapList) → HasHeld s (caller_of s log) index shard generation held → Has held.snapshots l → IsListed root l.uuid → AreUnfetched (caller_of s log) (Just (ShardSnap index shard l.uuid))
      → CanCheck s log (ShardSnap index shard l.uuid)
  can_list held l read there listed new =
      can_check s log count (ShardSnap index shard l.uuid) so new (λ e. cc) (λ id test. test)
      (λ tells. in_reach s log count has.0 root (ShardSnap index shard l.uuid) so has.1 tells
      (subst (λ (u : ℕ). Reached (formats_of s) (At (formats_of s) (world_of s log).blobs) root (ShardSnap index shard u)) listed.2
      (ReachShardSnap index shard generation listed.0 held l gen (reads_at s log count so (ShardIndex index shard generation) (formats_of s).shard_index held read tells) there listed.1 (sym listed.2))))

-- ---- a part of a file

piece_untested : (index number : ℕ) (name : BlobName) → IsPiece index number name → (id : ℕ) → IsTestOf id name → ⊥
piece_untested index number (File i k x) piece id test = test
piece_untested index number (Part i k x p) piece id test = test
piece_untested index number name piece id test = absurd piece

no_latest : (at : ShardId) (e : CodeEntry) (k : ℕ) → blob_name at e k ≡ Latest → ⊥
no_latest at e k same = subst (λ (name : BlobName). IsPiece at.index.number at.number name) same (part_piece at e k)

pub can_part : (s : Start) (log : List Moment) (count : ℕ) (root : RootData) (at : ShardId) (generation : ℕ) (held : ShardFiles) (e : CodeEntry) (k : ℕ) → IsSoFar s log count → HasSafe s log root
    → Generation root at.index.number at.number generation
    → HasHeld s (caller_of s log) at.index.number at.number generation held → Has held.files (entry_of e) → 1 ≤ e.part_size → k < code_count e.print.len e.part_size → AreUnfetched (caller_of s log) (Just (blob_name at e k))
    → CanCheck s log (blob_name at e k)
can_part s log count root at generation held e k so has gen read listed some less new =
    let within : k < part_count e.print.len e.part_size = rw (sym (same_count e.print.len e.part_size some)) less in
    can_check s log count (blob_name at e k) so new (no_latest at e k) (piece_untested at.index.number at.number (blob_name at e k) (part_piece at e k))
    (λ tells. in_reach s log count has.0 root (blob_name at e k) so has.1 tells
    (ReachPart at.index.number at.number generation held (entry_of e) (blob_name at e k) gen (reads_at s log count so (ShardIndex at.index.number at.number generation) (formats_of s).shard_index held read tells) listed
    (part_listed at e k within)))
