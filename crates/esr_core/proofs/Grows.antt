-- What holds of shards and ops goes on holding where blobs are only added.
use Rattle.std.proofs.Common.{◌≡◌, ℕ, zero, suc, List, Option, Some, None, subst, nat_cmp}
use Rattle.std.specs.FinMap.{FinMap}
use Rattle.esr_model.specs.Places.{shelf_places}
use Rattle.esr_model.specs.Names.{BlobName, Root, Snap, ShardIndex}
use Rattle.esr_model.specs.Values.{Bytes, IndexRef, RootSnap, RootData, SnapInfo, FileEntry, ShardFiles, ShardResult, Formats}
use Rattle.esr_model.specs.Image.{Has, IsOne, Picked, ListsAs, RootStands, RootIs}
use Rattle.esr_model.specs.Shelf.{Shelved}
use Rattle.esr_core.specs.World.{Op, ShardWork, Ticket}
use Rattle.esr_core.specs.Generations.{IsOfShard, ListsOwn, Carries, AreFilesOf, DoneStands, AreIndicesBy, OpLaw, Base, ShardLaw, Carried}
use Rattle.esr_model.specs.Lists.{AllPairs-map}
use Rattle.esr_core.specs.Laws.BlobFrames.{reads_kept, index_kept, file_kept, info_there}
use Rattle.esr_core.specs.Laws.OneValue.{reads_one, safe_root_stands}

module _ (f : Formats) (has now : BlobName → Bytes → Type 0) (func : IsOne now) (was_one : IsOne has) (keeps : (name : BlobName) (bytes : Bytes) → has name bytes → now name bytes) where
  pub root_is_kept : (safe : ℕ) (root : RootData) → RootIs f has safe root → RootIs f now safe root
  root_is_kept zero root h = h
  root_is_kept (suc n) root h = reads_kept f has now keeps (Root n) f.root root h

  pub lists_kept : (index shard g uuid : ℕ) → ListsAs f has index shard g uuid → ListsAs f now index shard g uuid
  lists_kept index shard g uuid l = record { snap = l.snap; snap_reads = reads_kept f has now keeps _ _ _ l.snap_reads; held = l.held; held_reads = reads_kept f has now keeps _ _ _ l.held_reads; lists = l.lists }

  -- a shard that a listed snapshot has now it had before, since its info was there
  of_shard_was : (root : RootData) (shelf : List Shelved) → RootStands f has root shelf → (snap : RootSnap) → Has root.snapshots snap → (index shard : ℕ)
      → IsOfShard f now snap.uuid index shard → IsOfShard f has snap.uuid index shard
  of_shard_was root shelf s snap m index shard is =
      let (shelved, stands) = info_there f has root root.snapshots shelf s.snapshots snap m in
      let same : is.info ≡ stands.info = reads_one now func (Snap snap.uuid) f.info is.info stands.info is.info_reads (reads_kept f has now keeps _ _ _ stands.info_reads) in
      record { info = stands.info; info_reads = stands.info_reads; place = is.place; there = subst (λ (x : SnapInfo). Has (shelf_places x.indices) is.place) same is.there; index_is = is.index_is; shard_is = is.shard_is }

  pub carries_kept : (root : RootData) (shelf : List Shelved) → RootStands f has root shelf → (ops : FinMap nat_cmp Op) (index shard g : ℕ) → Carries f has root ops index shard g → Carries f now root ops index shard g
  carries_kept root shelf s ops index shard g c =
      record {
        stands = index_kept f has now keeps root index shard g c.stands;
        own = λ held reads.
            let same : c.stands.held ≡ held = reads_one now func (ShardIndex index shard g) f.shard_index c.stands.held held (reads_kept f has now keeps _ _ _ c.stands.held_reads) reads in
            subst (λ (x : ShardFiles). ListsOwn ops index shard x) same (c.own c.stands.held c.stands.held_reads);
        done = λ uuid h d below. lists_kept index shard g uuid (c.done uuid h d below);
        listed = λ above snap m is. lists_kept index shard g snap.uuid (c.listed above snap m (of_shard_was root shelf s snap m index shard is));
      }

  files_kept : (source : Option ℕ) (index shard : ℕ) (files : List FileEntry) → AreFilesOf f has source index shard files → AreFilesOf f now source index shard files
  files_kept None index shard files h = (h.0, AllPairs-map (λ e file p. (p.0, file_kept f has now keeps index shard e file.1 p.1)) files h.0 h.1)
  files_kept (Some u) index shard files (was, reads, same) = (was, reads_kept f has now keeps _ _ _ reads, same)

  done_kept : (source : Option ℕ) (uuid : ℕ) (s : ShardWork) (r : ShardResult) → DoneStands f has source uuid s r → DoneStands f now source uuid s r
  done_kept source uuid s r d =
      record {
        index_is = d.index_is;
        shard_is = d.shard_is;
        snap = d.snap;
        snap_reads = reads_kept f has now keeps _ _ _ d.snap_reads;
        files = files_kept source s.ref.id s.number d.snap.files d.files;
      }

  indices_kept : (u : ℕ) (indices : List IndexRef) → AreIndicesBy f has u indices → AreIndicesBy f now u indices
  indices_kept u indices c = record { info = c.info; info_reads = reads_kept f has now keeps _ _ _ c.info_reads; apart = c.apart; named_once = c.named_once; among = c.among; once = c.once }

  pub op_kept : (root : RootData) (op : Op) → OpLaw f has root op → OpLaw f now root op
  op_kept root op l = record {
    places = l.places;
    done = λ s r m e. done_kept op.source op.uuid s r (l.done s r m e);
    copies = λ u e. let c = l.copies u e in record { listed = c.listed; by_info = indices_kept u op.indices c.by_info };
    texts = l.texts;
    unlisted = l.unlisted;
    unused = l.unused;
    one_id = l.one_id;
    distinct = l.distinct;
    same_name = l.same_name;
  }

  pub base_kept : (root : RootData) (shelf : List Shelved) → RootStands f has root shelf → (ops : FinMap nat_cmp Op) (index shard : ℕ) (base : Option ℕ) → Base f has root ops index shard base → Base f now root ops index shard base
  base_kept root shelf s ops index shard None h = h
  base_kept root shelf s ops index shard (Some base) h = (h.0, carries_kept root shelf s ops index shard base h.1)

  pub shard_law_kept : (root : RootData) (shelf : List Shelved) → RootStands f has root shelf → (ops : FinMap nat_cmp Op) (k : ℕ) (t : Ticket) (index shard : ℕ) → ShardLaw f has root ops k t index shard
      → ShardLaw f now root ops k t index shard
  shard_law_kept root shelf s ops k t index shard l =
      record {
        op = l.op;
        op_there = l.op_there;
        uuid_is = l.uuid_is;
        source_is = l.source_is;
        s = l.s;
        s_there = l.s_there;
        state = l.state;
        index_is = l.index_is;
        shard_is = l.shard_is;
        base = base_kept root shelf s ops index shard t.base l.base;
        ids = l.ids;
      }

  pub carried_kept : (safe term : ℕ) (root : RootData) (shelf : List Shelved) → Picked f has safe shelf → (ops : FinMap nat_cmp Op) (tickets : FinMap nat_cmp Ticket)
      → Carried f has safe term root ops tickets → Carried f now safe term root ops tickets
  carried_kept safe term root shelf picked ops tickets c =
      let s : RootStands f has root shelf = safe_root_stands f has was_one safe root shelf picked c.root_is in
      record {
        root_is = root_is_kept safe root c.root_is;
        ops = λ o op e. op_kept root op (c.ops o op e);
        together = c.together;
        carries = λ index shard g live. carries_kept root shelf s ops index shard g (c.carries index shard g live);
        shards = λ k t e out index shard is. shard_law_kept root shelf s ops k t index shard (c.shards k t e out index shard is);
        one_shard = c.one_shard;
        finals = c.finals;
        plans = c.plans;
        held = c.held;
      }
