-- Histories that go on by fetches of a check, and what was found before.
use Rattle.std.proofs.Common.{◌≡◌, inl, inr, ⊎_elim, ℕ, true, List, [], ◌∷◌, ◌++◌, append-nil, append_assoc, Option, Some, None, Result, Ok, Err, refl, sym, ap, ◌∙◌, subst}
use Rattle.esr_model.specs.Names.{BlobName, Root, Snap, Meta, IndexMeta, ShardSnap, ShardIndex}
use Rattle.esr_model.specs.Values.{Bytes, Has, IndexRef, RootSnap, RootIndex, RootData, SnapInfo, FileEntry, SnapList, ShardFiles, Kind}
use Rattle.esr_model.specs.Image.{FileStands, global_of}
use Rattle.esr_model.specs.Parts.{part_names}
use Rattle.esr_core.specs.World.{World, Caller}
use Rattle.esr_core.specs.Restores.{WasRead}
use Rattle.esr_core.specs.Entry.{ReadStep, ReadBlob, Reply, Refusal, Refused, Moment}
use Rattle.esr_desk.specs.declared.refusal.StepRefusal.{StepRefusal}
use Rattle.esr_desk.specs.Refusals.{told_refusal}
use Rattle.esr_desk.specs.Start.{Start, formats_of, world_of}
use Rattle.esr_desk.specs.Outcome.{Stepped, Refusing, Outcome}
use Rattle.esr_desk.specs.Grew.{grew_by_none, grew_by_on, stepped_grew_by}
use Rattle.esr_desk.specs.Own.{caller_of}
use Rattle.esr_desk.specs.Check.Shown.{AllFetches, ReadAs}
use Rattle.esr_restore.specs.Pairs.{pairs_map}
use Rattle.esr_check.specs.Names.{Just, AreUnfetched}
use Rattle.esr_check.specs.Went.{Grown, IsSame, Went}
use Rattle.esr_check.specs.Pieces.{HasRoot, HasSafe, IsSnapOfRoot, IsShardOfRoot, HasMetas, HasInfo, HasInfosOf, HasHeld, HasFile, HasFiles, HasSnap, HasListed, HasLists, HasShard, HasShards}
use Rattle.esr_check.proofs.Living.{front_is, moment_of, stepped_is, fetch_same, fetch_goes}

-- ---- on and on

pub fetches_both : (a b : List Moment) → AllFetches a → AllFetches b → AllFetches (a ++ b)
fetches_both [] b one two = two
fetches_both (m ∷ a) b one two = (one.0, one.1, fetches_both a b one.2 two)

grown_none : (c : Caller) → Grown c c
grown_none c = record { found = λ name has. has; read = λ name bytes has. has }

grown_on : (a b c : Caller) → Grown a b → Grown b c → Grown a c
grown_on a b c first second = record { found = λ name has. second.found name (first.found name has); read = λ name bytes has. second.read name bytes (first.read name bytes has) }

same_none : (w : World) → IsSame w w
same_none w = record { blobs = refl; root = refl; safe = refl; deposed = refl; looked = refl; drawn = refl; spent = refl }

same_on : (u v w : World) → IsSame u v → IsSame v w → IsSame u w
same_on u v w first second = record {
  blobs = second.blobs ∙ first.blobs;
  root = second.root ∙ first.root;
  safe = second.safe ∙ first.safe;
  deposed = second.deposed ∙ first.deposed;
  looked = second.looked ∙ first.looked;
  drawn = second.drawn ∙ first.drawn;
  spent = second.spent ∙ first.spent;
}

pub went_none : (s : Start) (log : List Moment) (P : BlobName → Type 0) → Went s log log P
went_none s log P = record {
  grew = grew_by_none s 0 log;
  more = [];
  is = sym (append-nil log);
  all = tt;
  same = same_none (world_of s log);
  grown = grown_none (caller_of s log);
  only = λ name has. inl has;
}

pub went_on : (s : Start) (old mid new : List Moment) (P : BlobName → Type 0) → Went s old mid P → Went s mid new P → Went s old new P
went_on s old mid new P first second = record {
  grew = grew_by_on s 0 old mid new first.grew second.grew;
  more = first.more ++ second.more;
  is = second.is ∙ ap (λ (log : List Moment). log ++ second.more) first.is ∙ append_assoc old first.more second.more;
  all = fetches_both first.more second.more first.all second.all;
  same = same_on (world_of s old) (world_of s mid) (world_of s new) first.same second.same;
  grown = grown_on (caller_of s old) (caller_of s mid) (caller_of s new) first.grown second.grown;
  only = λ name has. ⊎_elim (λ (before : Has (caller_of s mid).fetched name). first.only name before) (λ (own : P name). inr own) (second.only name has);
}

-- of more blobs
pub went_as : (s : Start) (old new : List Moment) (P Q : BlobName → Type 0) → ((name : BlobName) → P name → Q name) → Went s old new P → Went s old new Q
went_as s old new P Q each went = record {
  grew = went.grew;
  more = went.more;
  is = went.is;
  all = went.all;
  same = went.same;
  grown = went.grown;
  only = λ name has. ⊎_elim (λ (before : Has (caller_of s old).fetched name). inl before) (λ (own : P name). inr (each name own)) (went.only name has);
}

-- the one and then the other
pub went_both : (s : Start) (old mid new : List Moment) (P Q R : BlobName → Type 0) → ((name : BlobName) → P name → R name) → ((name : BlobName) → Q name → R name) → Went s old mid P → Went s mid new Q → Went s old new R
went_both s old mid new P Q R one two first second = went_on s old mid new R (went_as s old mid P R one first) (went_as s mid new Q R two second)

-- ---- by a fetch

pub step_went : (s : Start) (old new : List Moment) (name : BlobName) (reply : Reply) → s.alone ≡ true → Stepped s old new 0 (ReadStep (ReadBlob name)) reply → Went s old new (Just name)
step_went s old new name reply alone h =
    let goes = fetch_goes s old new name reply alone h in
    record {
      grew = stepped_grew_by s old new 0 (ReadStep (ReadBlob name)) reply h;
      more = moment_of s old new (ReadStep (ReadBlob name)) reply alone h ∷ [];
      is = stepped_is s old new (ReadStep (ReadBlob name)) reply alone h;
      all = (refl, (name, refl), tt);
      same = fetch_same s old new name reply alone h;
      grown = goes.grown;
      only = λ n has. goes.only n has;
    }

refusing_went : (s : Start) (old new : List Moment) (name : BlobName) (refusal : Option Refusal) → s.alone ≡ true → Refusing s old new 0 (ReadStep (ReadBlob name)) refusal → Went s old new (Just name)
refusing_went s old new name None alone h = subst (λ (log : List Moment). Went s old log (Just name)) (sym (front_is s old new 0 alone h)) (went_none s old (Just name))
refusing_went s old new name (Some refusal) alone h = step_went s old new name (Refused refusal) alone h

pub outcome_went : {X : Type 0} (s : Start) (old new : List Moment) (name : BlobName) (ok : X → Reply) (result : Result X StepRefusal) → s.alone ≡ true → Outcome s old new 0 (ReadStep (ReadBlob name)) ok result → Went s old new (Just name)
outcome_went s old new name ok (Ok x) alone h = step_went s old new name (ok x) alone h
outcome_went s old new name ok (Err e) alone h = refusing_went s old new name (told_refusal e) alone h.0

-- ---- what isn't fetched yet

pub some_new : (c : Caller) (P Q : BlobName → Type 0) → ((name : BlobName) → Q name → P name) → AreUnfetched c P → AreUnfetched c Q
some_new c P Q each new name own has = new name (each name own) has

-- blobs apart from those that were fetched since
pub still_new : (s : Start) (old new : List Moment) (P Q : BlobName → Type 0) → ((name : BlobName) → Q name → P name → ⊥) → AreUnfetched (caller_of s old) Q → Went s old new P → AreUnfetched (caller_of s new) Q
still_new s old new P Q apart none went name own has = ⊎_elim (λ (before : Has (caller_of s old).fetched name). none name own before) (λ (other : P name). apart name own other) (went.only name has)

-- ---- what was found stays

module _ (s : Start) (a b : Caller) (grown : Grown a b) where
  pub read_more : {V : Type 0} (name : BlobName) (kind : Kind V) (v : V) → ReadAs s a name kind v → ReadAs s b name kind v
  read_more name kind v h = record {
    bytes = h.bytes;
    fetched = record { found = grown.found name h.fetched.found; read = λ tells. grown.read name h.bytes (h.fetched.read tells) };
    reads = h.reads;
  }

  pub metas_more : (uuid : ℕ) (refs : List IndexRef) → HasMetas s a uuid refs → HasMetas s b uuid refs
  metas_more uuid refs h r has = read_more (IndexMeta r.id uuid) (formats_of s).index_meta (record { index = r; uuid = uuid }) (h r has)

  info_more : (root : RootData) (snap : RootSnap) (info : SnapInfo) → HasInfo s a root snap info → HasInfo s b root snap info
  info_more root snap info h = record {
    read = read_more (Snap snap.uuid) (formats_of s).info info h.read;
    agrees = h.agrees;
    global = read_more (Meta snap.uuid) (formats_of s).global (global_of info) h.global;
    metas = metas_more snap.uuid info.indices h.metas;
  }

  pub infos_more : (root : RootData) (snaps : List RootSnap) (infos : List SnapInfo) → HasInfosOf s a root snaps infos → HasInfosOf s b root snaps infos
  infos_more root snaps infos h = pairs_map (HasInfo s a root) (HasInfo s b root) (λ snap info one. info_more root snap info one) snaps infos h

  pub held_more : (index shard generation : ℕ) (held : ShardFiles) → HasHeld s a index shard generation held → HasHeld s b index shard generation held
  held_more index shard generation held h = read_more (ShardIndex index shard generation) (formats_of s).shard_index held h

  stands_more : (index shard : ℕ) (e : FileEntry) (bytes : Bytes) → FileStands (formats_of s) (WasRead a.read) index shard e bytes → FileStands (formats_of s) (WasRead b.read) index shard e bytes
  stands_more index shard e bytes h = record {
    parts = h.parts;
    there = pairs_map (WasRead a.read) (WasRead b.read) (λ name part has. grown.read name part has) (part_names index shard e) h.parts h.there;
    full = h.full;
    joined = h.joined;
    len = h.len;
    digest = h.digest;
  }

  pub file_more : (index shard : ℕ) (e : FileEntry) → HasFile s a index shard e → HasFile s b index shard e
  file_more index shard e h = record {
    found = λ name has. grown.found name (h.found name has);
    stands = λ tells. let file = h.stands tells in (file.0, stands_more index shard e file.0 file.1);
  }

  pub files_more : (index shard : ℕ) (files : List FileEntry) → HasFiles s a index shard files → HasFiles s b index shard files
  files_more index shard files h e has = file_more index shard e (h e has)

  snap_more : (infos : List SnapInfo) (index shard : ℕ) (held : ShardFiles) (uuid : ℕ) → HasSnap s a infos index shard held uuid → HasSnap s b infos index shard held uuid
  snap_more infos index shard held uuid h = record { snap = h.snap; read = read_more (ShardSnap index shard uuid) (formats_of s).shard_snap h.snap h.read; lists = h.lists }

  pub listed_more : (root : RootData) (infos : List SnapInfo) (index shard : ℕ) (held : ShardFiles) (l : SnapList) → HasListed s a root infos index shard held l → HasListed s b root infos index shard held l
  listed_more root infos index shard held l h snap has same = snap_more infos index shard held snap.uuid (h snap has same)

  pub lists_more : (root : RootData) (infos : List SnapInfo) (index shard : ℕ) (held : ShardFiles) (lists : List SnapList) → HasLists s a root infos index shard held lists → HasLists s b root infos index shard held lists
  lists_more root infos index shard held lists h l has = listed_more root infos index shard held l (h l has)

  pub shard_more : (root : RootData) (infos : List SnapInfo) (index shard generation : ℕ) → HasShard s a root infos index shard generation → HasShard s b root infos index shard generation
  shard_more root infos index shard generation h = record {
    held = h.held;
    read = held_more index shard generation h.held h.read;
    kept = h.kept;
    snaps = lists_more root infos index shard h.held h.held.snapshots h.snaps;
    files = files_more index shard h.held.files h.files;
  }

  pub shards_more : (root : RootData) (infos : List SnapInfo) (x : RootIndex) → HasShards s a root infos x → HasShards s b root infos x
  shards_more root infos x h shard generation is = shard_more root infos x.id shard generation (h shard generation is)

-- ---- the root

pub root_on : (s : Start) (old new : List Moment) (P : BlobName → Type 0) (n : ℕ) (root : RootData) → Went s old new P → HasRoot s old n root → HasRoot s new n root
root_on s old new P n root went h = record { safe = went.same.safe ∙ h.safe; read = read_more s (caller_of s old) (caller_of s new) went.grown (Root n) (formats_of s).root root h.read }

pub safe_on : (s : Start) (old new : List Moment) (P : BlobName → Type 0) (root : RootData) → Went s old new P → HasSafe s old root → HasSafe s new root
safe_on s old new P root went h = (h.0, root_on s old new P h.0 root went h.1)

pub snap_on : (s : Start) (old new : List Moment) (P : BlobName → Type 0) (n : ℕ) (root : RootData) (snap : RootSnap) → Went s old new P → IsSnapOfRoot s old n root snap → IsSnapOfRoot s new n root snap
snap_on s old new P n root snap went h = record { safe = root_on s old new P n root went h.safe; listed = h.listed }

pub shard_on : (s : Start) (old new : List Moment) (P : BlobName → Type 0) (root : RootData) (infos : List SnapInfo) (index number generation : ℕ) → Went s old new P → IsShardOfRoot s old root infos index number generation
    → IsShardOfRoot s new root infos index number generation
shard_on s old new P root infos index number generation went h = record {
  safe = safe_on s old new P root went h.safe;
  listed = infos_more s (caller_of s old) (caller_of s new) went.grown root root.snapshots infos h.listed;
  few = h.few;
  there = h.there;
}
