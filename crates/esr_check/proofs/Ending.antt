-- When a check has read all.
use Rattle.std.proofs.Common.{◌≡◌, ⊎_elim, ℕ, zero, suc, ◌<◌, true, ℤ, pos, negsuc, List, [], Option, Some, None, Result, Ok, Err, IfOk, refl, sym, ap, ◌∙◌, subst}
use Rattle.std.specs.FinMap as fin
use Rattle.esr_model.specs.Names.{BlobName, Root, Snap, Meta, IndexMeta, ShardSnap, ShardIndex}
use Rattle.esr_model.specs.Values.{Bytes, Has, IndexRef, RootSnap, RootIndex, RootData, SnapInfo, FileEntry, ShardFiles, Kind, Formats}
use Rattle.esr_model.specs.Image.{Blobs, At, Reads, FileStands, ListsAs, Generation, global_of}
use Rattle.esr_model.specs.Parts.{part_names}
use Rattle.esr_model.specs.Agreement.{SnapAgrees, IndexAgrees, RootAgrees}
use Rattle.esr_model.specs.Reach.{Reached, ReachSnap, ReachMeta, ReachIndexMeta, ReachIndex, ReachShardSnap, ReachPart}
use Rattle.esr_model.specs.Lists.{pairs_both}
use Rattle.esr_core.specs.World.{Caller}
use Rattle.esr_core.specs.Restores.{WasRead}
use Rattle.esr_core.specs.Allowed.{InReach, IsWhole, CheckedBy}
use Rattle.esr_core.specs.Entry.{Moment}
use Rattle.esr_formats.specs.Clusters.{count_of}
use Rattle.esr_desk.specs.Start.{Start, formats_of, world_of}
use Rattle.esr_desk.specs.Own.{caller_of}
use Rattle.esr_reach.specs.Reached.{index_found}
use Rattle.esr_restore.specs.Pairs.{pairs_map}
use Rattle.esr_agreement.specs.Lists.{IsOf}
use Rattle.esr_check.specs.Checked.{last_root, HasReadAll}
use Rattle.esr_check.specs.Went.{IsSoFar}
use Rattle.esr_check.specs.Pieces.{HasRoot, HasInfo, HasInfos, HasSnap, HasShard, HasIndices}
use Rattle.esr_check.proofs.Reaching.{reads_at}

-- ---- a name has one content, which reads as one value

one_some : {A : Type 0} (o : Option A) (x y : A) → o ≡ Some x → o ≡ Some y → x ≡ y
one_some o x y one two = cc

at_one : (f : Formats) (blobs : Blobs) (name : BlobName) (a b : Bytes) → At f blobs name a → At f blobs name b → a ≡ b
at_one f blobs name a b one two = one_some (fin.get blobs (f.names.text name)) a b one.0 two.0

reads_one : {V : Type 0} (f : Formats) (blobs : Blobs) (name : BlobName) (kind : Kind V) (v w : V) → Reads (At f blobs) name kind v → Reads (At f blobs) name kind w → v ≡ w
reads_one f blobs name kind v w one two =
    let same = at_one f blobs name one.bytes two.bytes one.there two.there in
    one_some (kind.read two.bytes) v w (subst (λ (b : Bytes). kind.read b ≡ Some v) same one.reads) two.reads

-- ---- the info of a listed snapshot

suc_same : (m n : ℕ) → suc m ≡ suc n → m ≡ n
suc_same m n same = cc

-- the snapshots that an index names are listed
abbrev pub AreListed : RootData → Type 0
AreListed root = (x : RootIndex) (u : ℕ) → Has root.indices x → Has x.snapshots u → (snap : RootSnap) × Has root.snapshots snap × (snap.uuid ≡ u)

module _ (s : Start) (log : List Moment) (count n : ℕ) (root : RootData) (infos : List SnapInfo) (so : IsSoFar s log count) (has_root : HasRoot s log n root) (has_infos : HasInfos s (caller_of s log) root infos)
    (has_indices : HasIndices s (caller_of s log) root infos root.indices) (are_listed : AreListed root) (tells : s.tells ≡ true) where
  abbrev c : Caller
  c = caller_of s log

  abbrev blobs : Blobs
  blobs = (world_of s log).blobs

  info_at : (snap : RootSnap) → Has root.snapshots snap → (info : SnapInfo) × Has infos info × HasInfo s c root snap info
  info_at snap listed = pairs_both (HasInfo s c root) root.snapshots infos snap has_infos listed

  shard_at : (i k g : ℕ) → Generation root i k g → HasShard s c root infos i k g
  shard_at i k g gen =
      let x = index_found root.indices i k g gen in
      subst (λ (j : ℕ). HasShard s c root infos j k g) x.2 (has_indices x.0 x.1 k g x.3)

  held_is : (i k g : ℕ) (held : ShardFiles) (gen : Generation root i k g) → Reads (At (formats_of s) blobs) (ShardIndex i k g) (formats_of s).shard_index held → (shard_at i k g gen).held ≡ held
  held_is i k g held gen reads =
      let h = shard_at i k g gen in
      reads_one (formats_of s) blobs (ShardIndex i k g) (formats_of s).shard_index h.held held (reads_at s log count so (ShardIndex i k g) (formats_of s).shard_index h.held h.read tells) reads

  -- ---- each name that the root reaches was found

  found_reached : (name : BlobName) → Reached (formats_of s) (At (formats_of s) blobs) root name → Has c.found name
  found_reached name (ReachSnap snap listed) = (info_at snap listed).2.read.fetched.found
  found_reached name (ReachMeta snap listed) = (info_at snap listed).2.global.fetched.found
  found_reached name (ReachIndexMeta x u there named) =
      let snap = are_listed x u there named in
      let info = info_at snap.0 snap.1 in
      let r = info.2.agrees.exact x there (subst (λ (v : ℕ). Has x.snapshots v) (sym snap.2) named) in
      subst (λ (v : ℕ). Has c.found (IndexMeta x.id v)) snap.2 (subst (λ (i : ℕ). Has c.found (IndexMeta i snap.0.uuid)) r.3 (info.2.metas r.0 r.1).fetched.found)
  found_reached name (ReachIndex i k g gen) = (shard_at i k g gen).read.fetched.found
  found_reached name (ReachShardSnap i k g snap held l gen reads there listed same) =
      let h = shard_at i k g gen in
      let own = subst (λ (v : ShardFiles). Has v.snapshots l) (sym (held_is i k g held gen reads)) there in
      (h.snaps l own snap listed same).read.fetched.found
  found_reached name (ReachPart i k g held e part gen reads there own) =
      let h = shard_at i k g gen in
      (h.files e (subst (λ (v : ShardFiles). Has v.files e) (sym (held_is i k g held gen reads)) there)).found part own

  reached_same : (m : ℕ) (other : RootData) (name : BlobName) → n ≡ m → Reads (At (formats_of s) blobs) (Root m) (formats_of s).root other → Reached (formats_of s) (At (formats_of s) blobs) other name → Has c.found name
  reached_same m other name same reads reached =
      let own = reads_at s log count so (Root n) (formats_of s).root root has_root.read tells in
      let is = reads_one (formats_of s) blobs (Root m) (formats_of s).root other root reads (subst (λ (k : ℕ). Reads (At (formats_of s) blobs) (Root k) (formats_of s).root root) same own) in
      found_reached name (subst (λ (r : RootData). Reached (formats_of s) (At (formats_of s) blobs) r name) is reached)

  all_found : (name : BlobName) → InReach (formats_of s) (world_of s log) name → Has c.found name
  all_found name h =
      let same : n ≡ h.0 = suc_same n h.0 (sym has_root.safe ∙ h.1) in
      ⊎_elim
      (λ (is : name ≡ Root h.0). subst (λ (x : BlobName). Has c.found x) (ap (λ (k : ℕ). Root k) same ∙ sym is) has_root.read.fetched.found)
      (λ (other : (r : RootData) × Reads (At (formats_of s) blobs) (Root h.0) (formats_of s).root r × Reached (formats_of s) (At (formats_of s) blobs) r name). reached_same h.0 other.0 name same other.1 other.2)
      h.2

  -- ---- and it is whole

  lists_at : (snap : RootSnap) (info : SnapInfo) (r : IndexRef) (k g : ℕ) → Has root.snapshots snap → Has infos info → HasInfo s c root snap info → Has info.indices r → k < r.shards → Generation root r.id k g
      → ListsAs (formats_of s) (At (formats_of s) blobs) r.id k g snap.uuid
  lists_at snap info r k g listed there h has less gen =
      let shard = shard_at r.id k g gen in
      let of : IsOf info r.id k = (r, has, refl, less) in
      let l = shard.kept info there of in
      let own : HasSnap s c infos r.id k shard.held snap.uuid = shard.snaps l.0 l.1 snap listed (l.2 ∙ h.agrees.uuid_is) in
      record {
        snap = own.snap;
        snap_reads = reads_at s log count so (ShardSnap r.id k snap.uuid) (formats_of s).shard_snap own.snap own.read tells;
        held = shard.held;
        held_reads = reads_at s log count so (ShardIndex r.id k g) (formats_of s).shard_index shard.held shard.read tells;
        lists = own.lists info there h.agrees.uuid_is of;
      }

  snap_agrees : (snap : RootSnap) → Has root.snapshots snap → SnapAgrees (formats_of s) (At (formats_of s) blobs) root snap
  snap_agrees snap listed =
      let info = info_at snap listed in
      let h = info.2 in
      record {
        info = info.0;
        info_reads = reads_at s log count so (Snap snap.uuid) (formats_of s).info info.0 h.read tells;
        agrees = h.agrees;
        global_reads = reads_at s log count so (Meta snap.uuid) (formats_of s).global (global_of info.0) h.global tells;
        metas = λ r has. reads_at s log count so (IndexMeta r.id snap.uuid) (formats_of s).index_meta (record { index = r; uuid = snap.uuid }) (h.metas r has) tells;
        shards = λ r k g has less gen. lists_at snap info.0 r k g listed info.1 h has less gen;
      }

  file_there : (i k : ℕ) (e : FileEntry) (bytes : Bytes) → FileStands (formats_of s) (WasRead c.read) i k e bytes → FileStands (formats_of s) (At (formats_of s) blobs) i k e bytes
  file_there i k e bytes h = record {
    parts = h.parts;
    there = pairs_map (WasRead c.read) (At (formats_of s) blobs) (λ name part has. so.there name part has) (part_names i k e) h.parts h.there;
    full = h.full;
    joined = h.joined;
    len = h.len;
    digest = h.digest;
  }

  index_agrees : (i k g : ℕ) → Generation root i k g → IndexAgrees (formats_of s) (At (formats_of s) blobs) root i k g
  index_agrees i k g gen =
      let h = shard_at i k g gen in
      record {
        held = h.held;
        held_reads = reads_at s log count so (ShardIndex i k g) (formats_of s).shard_index h.held h.read tells;
        files = λ e has. let file = (h.files e has).stands tells in (file.0, file_there i k e file.0 file.1);
        snaps = λ l snap has listed same. let own = h.snaps l has snap listed same in (own.snap, reads_at s log count so (ShardSnap i k snap.uuid) (formats_of s).shard_snap own.snap own.read tells);
      }

  root_agrees : RootAgrees (formats_of s) (At (formats_of s) blobs) n
  root_agrees = record {
    root = root;
    root_reads = reads_at s log count so (Root n) (formats_of s).root root has_root.read tells;
    snapshots = snap_agrees;
    indices = index_agrees;
  }

  pub checked_by : CheckedBy (formats_of s) (world_of s log)
  checked_by = record {
    whole = subst (λ (safe : ℕ). IsWhole (formats_of s) blobs safe) (sym has_root.safe) root_agrees;
    all = λ name reached. let found = all_found name reached in (found, so.told tells name found);
    only = λ name has. so.reached tells name ((so.looked.fetched name).0 has);
  }

-- ---- the number of the root

pub some_count : (z : ℤ) (n : ℕ) → last_root z ≡ Some n → count_of z ≡ suc n
some_count (pos m) n is = let same : m ≡ n = cc in ap suc same
some_count (negsuc m) n is = absurd cc

pub no_count : (z : ℤ) → last_root z ≡ None → count_of z ≡ 0
no_count (pos m) is = absurd cc
no_count (negsuc m) is = refl

pub any_if : {X E : Type 0} (result : Result X E) (P : X → Type 0) → ((x : X) → P x) → IfOk result P
any_if (Ok x) P each = each x
any_if (Err e) P each = tt

-- where there is no root there is nothing to read
pub no_root : (n safe : ℕ) → safe ≡ zero → safe ≡ suc n → ⊥
no_root n safe none some = cc

pub nothing_read : (s : Start) (log : List Moment) → (world_of s log).safe ≡ 0 → (caller_of s log).fetched ≡ [] → HasReadAll s log
nothing_read s log none unfetched = λ tells. record {
  whole = subst (λ (safe : ℕ). IsWhole (formats_of s) (world_of s log).blobs safe) (sym none) tt;
  all = λ name reached. absurd (no_root reached.0 (world_of s log).safe none reached.1);
  only = λ name has. absurd (subst (λ (l : List BlobName). Has l name) unfetched has);
}
