-- What stands of the shard that a clone's ticket copies: its base lists it, with the files that the source has of the shard.
use Rattle.std.proofs.Common.{◌≡◌, ℕ, ◌<◌, List, [], ◌∷◌, Some, sym, ap, ◌∙◌, subst, inl, inr}
use Rattle.std.specs.FinMap as fin
use Rattle.std.proofs.lemmas.Option.{same_Some}
use Rattle.esr_model.specs.Names.{Snap, ShardSnap, ShardIndex}
use Rattle.esr_model.specs.Values.{Bytes, Has, IndexRef, SnapInfo, FileEntry, ShardSnapshot, ShardFiles, Formats}
use Rattle.esr_model.specs.Shelf.{ShelfShard, Shelved, shelved_at}
use Rattle.esr_model.specs.Places.{shelf_places}
use Rattle.esr_model.specs.Image.{AllPairs, At, Reads, FileStands, ShardStands, RootStands}
use Rattle.esr_model.specs.Lists.{pairs_both}
use Rattle.esr_core.specs.World.{World, Op, Ticket, HeldIn}
use Rattle.esr_core.specs.Generations.{CopiesFrom}
use Rattle.esr_core.specs.Ids.{Law}
use Rattle.esr_core.specs.Laws.OneValue.{reads_one, held_one, safe_root_stands}
use Rattle.esr_core.specs.Laws.SortedLists.{to_shelf_places}
use Rattle.esr_core.specs.Laws.RootAgreement.{places_has}
use Rattle.esr_core.specs.Laws.CloneSources.{SourceStands}
use Rattle.esr_core.proofs.Staging.{IsShelved, listed_shelved}

entry_in : (files : List FileEntry) (ids : List ℕ) (es : List FileEntry) → AllPairs (λ (id : ℕ) (e : FileEntry). (e.name ≡ id) × Has files e) ids es → (e : FileEntry) → Has es e → Has files e
entry_in files [] [] h e m = absurd m
entry_in files (id ∷ ids) (x ∷ es) h e (inl same) = subst (Has files) same h.0.1
entry_in files (id ∷ ids) (x ∷ es) h e (inr m) = entry_in files ids es h.1 e m
entry_in files ids es h e m = absurd h

module _ (f : Formats) (w : World) (t : Ticket) (index shard source : ℕ) (s : SourceStands f w t index shard source) where
  -- the base has each of its files
  pub source_in_base : (e : FileEntry) → Has s.lists.snap.files e → Has s.stands.held.files e
  source_in_base e m =
      let same : s.lists.held ≡ s.stands.held = reads_one (HeldIn f w) (held_one f w) (ShardIndex index shard s.base) f.shard_index s.lists.held s.stands.held s.lists.held_reads s.stands.held_reads in
      subst (λ (x : ShardFiles). Has x.files e) same (entry_in s.lists.held.files s.lists.lists.list.files s.lists.snap.files s.lists.lists.entries e m)

  -- what is there of it is that
  pub source_found : (was : ShardSnapshot) → Reads (At f w.blobs) (ShardSnap index shard source) f.shard_snap was → was ≡ s.lists.snap
  source_found was reads = same_Some _ _ (sym reads.reads ∙ ap f.shard_snap.read (same_Some _ _ (sym reads.there.0 ∙ s.lists.snap_reads.there.0.0)) ∙ s.lists.snap_reads.reads)

  -- which nobody may remove
  pub source_held : (was : ShardSnapshot) → Reads (At f w.blobs) (ShardSnap index shard source) f.shard_snap was → Reads (HeldIn f w) (ShardSnap index shard source) f.shard_snap was
  source_held was reads = subst (Reads (HeldIn f w) (ShardSnap index shard source) f.shard_snap) (sym (source_found was reads)) s.lists.snap_reads

  -- nor its files
  pub source_stand : (was : ShardSnapshot) → Reads (At f w.blobs) (ShardSnap index shard source) f.shard_snap was → (e : FileEntry) → Has was.files e → (bytes : Bytes) × FileStands f (HeldIn f w) index shard e bytes
  source_stand was reads e m = s.stands.files e (source_in_base e (subst (λ (x : ShardSnapshot). Has x.files e) (source_found was reads) m))

-- the snapshot that an open clone copies is on the shelf, with each shard of its indices
pub clone_shelved : (f : Formats) (w : World) (shelf : List Shelved) (o : ℕ) (op : Op) (u : ℕ) → Law f w shelf → fin.get w.ops o ≡ Some op → op.source ≡ Some u
    → (x : Shelved) × (shelved_at shelf u ≡ Some x) × ((r : IndexRef) (k : ℕ) → Has op.indices r → k < r.shards → (s : ShelfShard) × Has x.shards s × (s.index ≡ r.name) × (s.number ≡ k))
clone_shelved f w shelf o op u l there is =
    let from : CopiesFrom f (HeldIn f w) w.root u op.indices = (l.lawful.sound.carried.ops o op there).copies u is in
    let all : RootStands f (HeldIn f w) w.root shelf = safe_root_stands f (HeldIn f w) (held_one f w) w.safe w.root shelf l.lawful.sound.rooted.kept.picked l.lawful.sound.carried.root_is in
    let on : IsShelved f (HeldIn f w) w.root shelf u = listed_shelved f (HeldIn f w) w.root w.root.snapshots shelf all.snapshots from.listed.0 from.listed.1 u from.listed.2 in
    let info : SnapInfo = on.stands.info in
    let same : info ≡ from.by_info.info = reads_one (HeldIn f w) (held_one f w) (Snap u) f.info info from.by_info.info (subst (λ n. Reads (HeldIn f w) (Snap n) f.info info) on.uuid_is on.stands.info_reads) from.by_info.info_reads in (
      on.shelved,
      on.found,
      λ r k m below.
          let place : Has (shelf_places info.indices) (r, k) = to_shelf_places info.indices (r, k) (places_has info.indices r k (subst (λ (i : SnapInfo). Has i.indices r) (sym same) (from.by_info.among r m)) below) in
          let (s, s_there, s_stands) = pairs_both (ShardStands f (HeldIn f w) w.root on.snap.uuid) (shelf_places info.indices) on.shelved.shards (r, k) on.stands.shards place in
          (s, s_there, s_stands.name_is, s_stands.number_is),
    )
