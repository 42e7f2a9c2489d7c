-- Each turn keeps what holds of restores, and what they read is on the shelf.
use Rattle.std.proofs.Common.{◌≡◌, ◌⊎◌, ℕ, List, ◌∷◌, Bool, true, false, true≢false, Some, map, refl, sym, ap, ◌∙◌, subst, inl, inr, nat_cmp}
use Rattle.std.specs.FinMap.{FinMap}
use Rattle.std.specs.FinMap as fin
use Rattle.std.proofs.lemmas.Option.{same_Some}
use Rattle.esr_core.specs.Laws.NumberMaps.{was_in}
use Rattle.esr_model.specs.Names.{BlobName, Snap, ShardSnap}
use Rattle.esr_model.specs.Values.{Bytes, Has, IndexRef, RootData, SnapInfo, FileEntry, ShardSnapshot, ClusterRecord, Formats}
use Rattle.esr_model.specs.Shelf.{Shelved, ShelfShard, shelf_after}
use Rattle.esr_model.specs.Parts.{part_names}
use Rattle.esr_model.specs.Places.{places, shelf_places, comes_first}
use Rattle.esr_model.specs.Image.{Blobs, At, Reads, FileStands, ShardStands}
use Rattle.esr_core.specs.World.{World, Deletion, ReadState, RestoreShard, Restoring, Reader, Caller, HeldIn, opened}
use Rattle.esr_core.specs.Restores.{WasRead, restore_of, handed, ended, reader_of, read_more}
use Rattle.esr_core.specs.Queue.{Lists}
use Rattle.esr_core.specs.Ids.{Law}
use Rattle.esr_core.specs.Entry.{Entry}
use Rattle.esr_core.specs.Turns.{OpenRestore, HandShard, ReadMore, EndShard, ReadTurn, OpensRestore, HandsShard, ReadsMore, EndsShard, Calls, Turn, Deposes, Besides, commands_of}
use Rattle.esr_core.specs.ReadTracked.{ReaderTracked, RestoresTracked}
use Rattle.esr_core.specs.ReadLaw.{RestoreLaw, IsPartOf, ReaderLaw, ReadLaw}
use Rattle.esr_model.specs.Lists.{Has-map, pairs_has, pairs_both}
use Rattle.esr_core.specs.Laws.OneValue.{reads_one, held_one}
use Rattle.esr_core.specs.Laws.BlobFrames.{reads_kept}
use Rattle.esr_core.specs.Laws.RestoreMaps.{places_mapped, places_begun, LeavesPlace, handed_place, ended_place, put_was}
use Rattle.esr_core.proofs.ListedInfo.{listed_as, listed_info}
use Rattle.esr_core.specs.Laws.SortedLists.{sorted-Has}
use Rattle.esr_core.specs.Laws.Maps.{nothing}
use Rattle.esr_core.proofs.ReadTracking.{tracked_up, tracked_opened, tracked_handed, tracked_more, tracked_ended}
use Rattle.esr_core.proofs.ReadSteps.{read_opened_tracked}
use Rattle.esr_core.proofs.ReadFrames.{IsRestored, Frame, frame}
use Rattle.esr_core.proofs.Turning.{turn_law}

-- ---- what stands of a listed snapshot

-- a shard of it
pub record IsShardOf (f : Formats) (w : World) (shelf : List Shelved) (u : ℕ) (p : IndexRef × ℕ) : Type 0 where
  pub shelved : Shelved
  pub there : Has shelf shelved
  pub uuid_is : shelved.uuid ≡ u
  pub shard : ShelfShard
  pub shard_there : Has shelved.shards shard
  pub stands : ShardStands f (HeldIn f w) w.root u p shard

listed_shard : (f : Formats) (w : World) (shelf : List Shelved) → Law f w shelf → (u : ℕ) → Lists w.root u → (info : SnapInfo) → Reads (HeldIn f w) (Snap u) f.info info → (p : IndexRef × ℕ) → Has (places info.indices) p
    → IsShardOf f w shelf u p
listed_shard f w shelf l u has info reads p m =
    let a = listed_as f w shelf l u has in
    let same : info ≡ a.stands.info = reads_one (HeldIn f w) (held_one f w) (Snap u) f.info info a.stands.info reads (listed_info f w shelf u a) in
    let place : Has (shelf_places a.stands.info.indices) p = sorted-Has comes_first (places a.stands.info.indices) p (subst (λ (x : SnapInfo). Has (places x.indices) p) same m) in
    let (shard, there, stands) = pairs_both (ShardStands f (HeldIn f w) w.root a.snap.uuid) (shelf_places a.stands.info.indices) a.shelved.shards p a.stands.shards place in
    record { shelved = a.shelved; there = a.there; uuid_is = a.stands.uuid_is ∙ a.uuid_is; shard = shard; shard_there = there; stands = subst (λ x. ShardStands f (HeldIn f w) w.root x p shard) a.uuid_is stands }

-- each part of its files is there
part_held : (f : Formats) (w : World) (u : ℕ) (p : IndexRef × ℕ) (shard : ShelfShard) (s : ShardStands f (HeldIn f w) w.root u p shard) (e : FileEntry) → Has s.snap.files e → (name : BlobName) → Has (part_names p.0.id p.1 e) name
    → (bytes : Bytes) × HeldIn f w name bytes
part_held f w u p shard s e m name part =
    let (file, there, h) = pairs_both (λ (x : FileEntry) (y : Bytes × Bytes). (x.physical ≡ y.0) × FileStands f (HeldIn f w) p.0.id p.1 x y.1) s.snap.files shard.files e s.files m in
    pairs_has (HeldIn f w) (part_names p.0.id p.1 e) h.1.parts name h.1.there part

-- ---- the shard that a ticket reads

-- its place is one of the info
reader_place : (f : Formats) (has : BlobName → Bytes → Type 0) (root : RootData) (deletes : FinMap nat_cmp Deletion)
    (restores : FinMap nat_cmp Restoring) (k : ℕ) (q : Reader) (t : ReaderTracked restores k q) (law : RestoreLaw f has root deletes t.r)
    → (p : IndexRef × ℕ) × Has (places law.info.indices) p × (p.0.id ≡ q.index) × (p.1 ≡ q.number) × (p.0.name ≡ q.name)
reader_place f has root deletes restores k q t law =
    ((t.s.ref, t.s.number), subst (λ xs. Has xs (t.s.ref, t.s.number)) law.shards (Has-map (λ (s : RestoreShard). (s.ref, s.number)) t.r.shards t.s t.s_there), t.index_is, t.number_is, t.name_is)

-- what stands of the shard
pub record Serves (f : Formats) (w : World) (shelf : List Shelved) (q : Reader) : Type 0 where
  pub place : IndexRef × ℕ
  pub index_is : place.0.id ≡ q.index
  pub number_is : place.1 ≡ q.number
  pub name_is : place.0.name ≡ q.name
  pub found : IsShardOf f w shelf q.uuid place

pub serves_snap : (f : Formats) (w : World) (shelf : List Shelved) (q : Reader) (s : Serves f w shelf q) → Reads (HeldIn f w) (ShardSnap q.index q.number q.uuid) f.shard_snap s.found.stands.snap
serves_snap f w shelf q s =
    subst (λ x. Reads (HeldIn f w) (ShardSnap x q.number q.uuid) f.shard_snap s.found.stands.snap) s.index_is
    (subst (λ x. Reads (HeldIn f w) (ShardSnap s.place.0.id x q.uuid) f.shard_snap s.found.stands.snap) s.number_is s.found.stands.snap_reads)

pub serves_part : (f : Formats) (w : World) (shelf : List Shelved) (q : Reader) (s : Serves f w shelf q) (e : FileEntry) → Has s.found.stands.snap.files e → (name : BlobName) → Has (part_names q.index q.number e) name
    → (bytes : Bytes) × HeldIn f w name bytes
serves_part f w shelf q s e m name part =
    part_held f w q.uuid s.place s.found.shard s.found.stands e m name
    (subst (λ x. Has (part_names x s.place.1 e) name) (sym s.index_is) (subst (λ x. Has (part_names q.index x e) name) (sym s.number_is) part))

pub serves_now : (f : Formats) (w : World) (shelf : List Shelved) → Law f w shelf → (r : ReadLaw f w) (k : ℕ) (q : Reader) → fin.get w.readers k ≡ Some q → q.out ≡ true → Serves f w shelf q
serves_now f w shelf l r k q there out =
    let t = r.tracked.readers k q there out in
    let law = r.restores q.op t.r t.there in
    let (p, m, index, number, name) = reader_place f (HeldIn f w) w.root w.deletes w.restores k q t law in
    record {
      place = p;
      index_is = index;
      number_is = number;
      name_is = name;
      found = subst (λ u. IsShardOf f w shelf u p) (sym t.uuid_is) (listed_shard f w shelf l t.r.uuid law.listed law.info law.info_reads p m);
    }

-- ---- a turn that reads nothing

module _ (f : Formats) (w new : World) (shelf : List Shelved) (l : Law f new shelf) (r : ReadLaw f w) (fr : Frame f w new) where
  restored_was : (o : ℕ) (x : Restoring) → fin.get new.restores o ≡ Some x → fin.get w.restores o ≡ Some x
  restored_was o x e = ap (λ (m : FinMap nat_cmp Restoring). fin.get m o) (sym fr.restores) ∙ e

  reader_was : (k : ℕ) (q : Reader) → fin.get new.readers k ≡ Some q → fin.get w.readers k ≡ Some q
  reader_was k q e = ap (λ (m : FinMap nat_cmp Reader). fin.get m k) (sym fr.readers) ∙ e

  restore_on : (o : ℕ) (x : Restoring) → fin.get w.restores o ≡ Some x → RestoreLaw f (HeldIn f new) new.root new.deletes x
  restore_on o x e =
      let law = r.restores o x e in
      let is : IsRestored w x.uuid = record { o = o; r = x; there = e; uuid_is = refl } in
      let listed : Lists new.root x.uuid = fr.listed x.uuid is law.spared law.listed in
      let a = listed_as f new shelf l x.uuid listed in
      let info = listed_info f new shelf x.uuid a in
      let bytes : law.info_reads.bytes ≡ info.bytes = fr.blobs (Snap x.uuid) law.info_reads.bytes info.bytes law.info_reads.there.0 info.there.0 in
      record {
        listed = listed;
        spared = fr.spared x.uuid is law.spared;
        info = law.info;
        info_reads = record { bytes = info.bytes; there = info.there; reads = ap f.info.read (sym bytes) ∙ law.info_reads.reads };
        shards = law.shards;
      }

  -- the snapshot of the shard reads as before
  snap_same : (q : Reader) (s : Serves f new shelf q) (snap : ShardSnapshot) → Reads (HeldIn f w) (ShardSnap q.index q.number q.uuid) f.shard_snap snap → snap ≡ s.found.stands.snap
  snap_same q s snap was =
      let now = serves_snap f new shelf q s in
      same_Some _ _ (sym was.reads ∙ ap f.shard_snap.read (fr.blobs (ShardSnap q.index q.number q.uuid) was.bytes now.bytes was.there.0 now.there.0) ∙ now.reads)

  held_on : (q : Reader) (s : Serves f new shelf q) (name : BlobName) (bytes : Bytes) → At f w.blobs name bytes → (name ≡ ShardSnap q.index q.number q.uuid) ⊎ IsPartOf f (HeldIn f w) q name → HeldIn f new name bytes
  held_on q s name bytes was (inl e) =
      let now = serves_snap f new shelf q s in
      let there : HeldIn f new name now.bytes = subst (λ x. HeldIn f new x now.bytes) (sym e) now.there in
      subst (HeldIn f new name) (sym (fr.blobs name bytes now.bytes was there.0)) there
  held_on q s name bytes was (inr h) =
      let (b, there) = serves_part f new shelf q s h.e (subst (λ (x : ShardSnapshot). Has x.files h.e) (snap_same q s h.snap h.snap_reads) h.listed) name h.part in
      subst (HeldIn f new name) (sym (fr.blobs name bytes b was there.0)) there

  named_on : (q : Reader) (s : Serves f new shelf q) (name : BlobName) → (name ≡ ShardSnap q.index q.number q.uuid) ⊎ IsPartOf f (HeldIn f w) q name → (name ≡ ShardSnap q.index q.number q.uuid) ⊎ IsPartOf f (HeldIn f new) q name
  named_on q s name (inl e) = inl e
  named_on q s name (inr h) =
      inr (record { snap = s.found.stands.snap; snap_reads = serves_snap f new shelf q s; e = h.e; listed = subst (λ (x : ShardSnapshot). Has x.files h.e) (snap_same q s h.snap h.snap_reads) h.listed; part = h.part })

  reader_on : (k : ℕ) (q : Reader) → fin.get w.readers k ≡ Some q → q.out ≡ true → ReaderLaw f (HeldIn f new) q
  reader_on k q there out =
      let law = r.readers k q there out in
      let t = r.tracked.readers k q there out in
      let on = restore_on q.op t.r t.there in
      let (p, m, index, number, name_is) = reader_place f (HeldIn f new) new.root new.deletes w.restores k q t on in
      let s : Serves f new shelf q = record {
        place = p;
        index_is = index;
        number_is = number;
        name_is = name_is;
        found = subst (λ u. IsShardOf f new shelf u p) (sym t.uuid_is) (listed_shard f new shelf l t.r.uuid on.listed on.info on.info_reads p m);
      } in
      record { held = λ name bytes has. held_on q s name bytes (law.held name bytes has).0 (law.named name bytes has); named = λ name bytes has. named_on q s name (law.named name bytes has) }

  read_framed : ReadLaw f new
  read_framed =
      record {
        tracked = subst (λ (x : FinMap nat_cmp Restoring). RestoresTracked new.next_op new.next_ticket x new.readers) (sym fr.restores)
            (subst (λ (x : FinMap nat_cmp Reader). RestoresTracked new.next_op new.next_ticket w.restores x) (sym fr.readers)
            (tracked_up w.next_op w.next_ticket new.next_op new.next_ticket w.restores w.readers fr.next_op fr.next_ticket r.tracked));
        restores = λ o x e. restore_on o x (restored_was o x e);
        readers = λ k q e out. reader_on k q (reader_was k q e) out;
      }

-- ---- a turn that reads

restore_mapped : (f : Formats) (has : BlobName → Bytes → Type 0) (root : RootData) (deletes : FinMap nat_cmp Deletion) (r : Restoring) (g : RestoreShard → RestoreShard) → LeavesPlace g → RestoreLaw f has root deletes r
    → RestoreLaw f has root deletes (record r { shards = map g r.shards })
restore_mapped f has root deletes r g p l = record { listed = l.listed; spared = l.spared; info = l.info; info_reads = l.info_reads; shards = places_mapped g p r.shards ∙ l.shards }

module _ (f : Formats) (w : World) (shelf : List Shelved) (l : Law f w shelf) (r : ReadLaw f w) where
  opens : (uuid : ℕ) (place : Bytes) (indices : List IndexRef) (new : World) → OpenRestore f w uuid place indices new → ReadLaw f new
  opens uuid place indices new h =
      subst (ReadLaw f) (sym h.new_is) (record {
        tracked = tracked_opened w.next_op w.next_ticket w.restores w.readers r.tracked uuid place indices h.apart;
        restores = λ o x e. elim (put_was w.restores w.next_op (restore_of uuid place indices) o x e) [ inl is ↦ subst (RestoreLaw f (HeldIn f w) w.root w.deletes) is.1 begun | inr is ↦ r.restores o x is.1 ];
        readers = r.readers;
      })
    where
      begun : RestoreLaw f (HeldIn f w) w.root w.deletes (restore_of uuid place indices)
      begun =
          let a = listed_as f w shelf l uuid h.listed in
          let info = listed_info f w shelf uuid a in
          let bytes : h.info_reads.bytes ≡ info.bytes = same_Some _ _ (sym h.info_reads.there.0 ∙ info.there.0.0) in
          record {
            listed = h.listed;
            spared = h.spared;
            info = h.info;
            info_reads = record { bytes = info.bytes; there = info.there; reads = ap f.info.read (sym bytes) ∙ h.info_reads.reads };
            shards = places_begun (places indices) ∙ ap places (sym h.indices_is);
          }

  hands : (o : ℕ) (x : Restoring) (s : RestoreShard) (new : World) → HandShard w o x s new → ReadLaw f new
  hands o x s new h =
      subst (ReadLaw f) (sym h.new_is) (record {
        tracked = tracked_handed w.next_op w.next_ticket w.restores w.readers r.tracked o x s h.ready.there h.ready.s_there h.ready.unread;
        restores = λ p y e. elim (was_in w.restores o (record x { shards = map (handed w.next_ticket s.ref.id s.number) x.shards }) p y e) [
          | inl is ↦ subst (RestoreLaw f (HeldIn f w) w.root w.deletes) is.1 (restore_mapped f (HeldIn f w) w.root w.deletes x (handed w.next_ticket s.ref.id s.number) (handed_place w.next_ticket s.ref.id s.number) (r.restores o x h.ready.there))
          | inr is ↦ r.restores p y is.1
        ];
        readers = λ k q e out. elim (was_in w.readers w.next_ticket (reader_of o x s) k q e) [
          | inl is ↦ subst (ReaderLaw f (HeldIn f w)) is.1 (record { held = λ name bytes m. absurd m; named = λ name bytes m. absurd m })
          | inr is ↦ r.readers k q is.1 out
        ];
      })

  grows : (k : ℕ) (name : BlobName) (bytes : Bytes) (new : World) → ReadMore f w k name bytes new → ReadLaw f new
  grows k name bytes new h =
      subst (ReadLaw f) (sym h.new_is) (record {
        tracked = tracked_more w.next_op w.next_ticket w.restores w.readers r.tracked k h.q h.reading.there name bytes;
        restores = r.restores;
        readers = λ j q e out. elim (was_in w.readers k (read_more h.q name bytes) j q e) [
          | inl is ↦ subst (ReaderLaw f (HeldIn f w)) is.1 (record { held = held; named = named })
          | inr is ↦ r.readers j q is.1 out
        ];
      })
    where
      law : ReaderLaw f (HeldIn f w) h.q
      law = r.readers k h.q h.reading.there h.reading.out

      s : Serves f w shelf h.q
      s = serves_now f w shelf l r k h.q h.reading.there h.reading.out

      snap_now : Reads (HeldIn f w) (ShardSnap h.q.index h.q.number h.q.uuid) f.shard_snap s.found.stands.snap
      snap_now = serves_snap f w shelf h.q s

      own_name : (name ≡ ShardSnap h.q.index h.q.number h.q.uuid) ⊎ IsPartOf f (HeldIn f w) h.q name
      own_name = elim h.may [
        | inl e ↦ inl e
        | inr piece ↦ inr (record {
          snap = piece.snap;
          snap_reads = reads_kept f (WasRead h.q.read) (HeldIn f w) (λ m b has. law.held m b has) (ShardSnap h.q.index h.q.number h.q.uuid) f.shard_snap piece.snap piece.snap_read;
          e = piece.e;
          listed = piece.listed;
          part = piece.part;
        })
      ]

      own_held : (name ≡ ShardSnap h.q.index h.q.number h.q.uuid) ⊎ IsPartOf f (HeldIn f w) h.q name → HeldIn f w name bytes
      own_held (inl e) =
          let there : HeldIn f w name snap_now.bytes = subst (λ x. HeldIn f w x snap_now.bytes) (sym e) snap_now.there in
          subst (HeldIn f w name) (same_Some _ _ (sym there.0.0 ∙ h.there.0)) there
      own_held (inr p) =
          let same : p.snap ≡ s.found.stands.snap = reads_one (HeldIn f w) (held_one f w) (ShardSnap h.q.index h.q.number h.q.uuid) f.shard_snap p.snap s.found.stands.snap p.snap_reads snap_now in
          let (b, there) = serves_part f w shelf h.q s p.e (subst (λ (x : ShardSnapshot). Has x.files p.e) same p.listed) name p.part in
          subst (HeldIn f w name) (same_Some _ _ (sym there.0.0 ∙ h.there.0)) there

      pair_same : {a b : BlobName} {x y : Bytes} → ◌≡◌ {A = BlobName × Bytes} (a, x) (b, y) → (a ≡ b) × (x ≡ y)
      pair_same e = (ap (λ (p : BlobName × Bytes). p.0) e, ap (λ (p : BlobName × Bytes). p.1) e)

      more : (m : BlobName) → (m ≡ ShardSnap h.q.index h.q.number h.q.uuid) ⊎ IsPartOf f (HeldIn f w) h.q m → (m ≡ ShardSnap h.q.index h.q.number h.q.uuid) ⊎ IsPartOf f (HeldIn f w) (read_more h.q name bytes) m
      more m (inl e) = inl e
      more m (inr p) = inr (record { snap = p.snap; snap_reads = p.snap_reads; e = p.e; listed = p.listed; part = p.part })

      held : (m : BlobName) (b : Bytes) → Has ((name, bytes) ∷ h.q.read) (m, b) → HeldIn f w m b
      held m b (inl e) = let (x, y) = pair_same e in subst (λ n. HeldIn f w n b) x (subst (HeldIn f w name) y (own_held own_name))
      held m b (inr has) = law.held m b has

      named : (m : BlobName) (b : Bytes) → Has ((name, bytes) ∷ h.q.read) (m, b) → (m ≡ ShardSnap h.q.index h.q.number h.q.uuid) ⊎ IsPartOf f (HeldIn f w) (read_more h.q name bytes) m
      named m b (inl e) = subst (λ n. (n ≡ ShardSnap h.q.index h.q.number h.q.uuid) ⊎ IsPartOf f (HeldIn f w) (read_more h.q name bytes) n) (pair_same e).0 (more name own_name)
      named m b (inr has) = more m (law.named m b has)

  ends : (k : ℕ) (state : ReadState) (new : World) → EndShard w k state new → ReadLaw f new
  ends k state new h =
      subst (ReadLaw f) (sym h.new_is) (record {
        tracked = tracked_ended w.next_op w.next_ticket w.restores w.readers r.tracked k h.q h.reading.there h.r h.there state h.over;
        restores = λ p y e. elim (put_was w.restores h.q.op (record h.r { shards = map (ended k state) h.r.shards }) p y e) [
          | inl is ↦ subst (RestoreLaw f (HeldIn f w) w.root w.deletes) is.1 (restore_mapped f (HeldIn f w) w.root w.deletes h.r (ended k state) (ended_place k state) (r.restores h.q.op h.r h.there))
          | inr is ↦ r.restores p y is.1
        ];
        readers = λ j q e out. elim (was_in w.readers k (record h.q { out = false }) j q e) [
          | inl is ↦ absurd (true≢false (sym out ∙ ap (λ (x : Reader). x.out) (sym is.1)))
          | inr is ↦ r.readers j q is.1 out
        ];
      })

read_same : (f : Formats) (w : World) (deposed : Bool) (caller : Caller) (entries : List Entry) → ReadLaw f w → ReadLaw f (record w { deposed = deposed; caller = caller; entries = entries })
read_same f w deposed caller entries r = record { tracked = r.tracked; restores = r.restores; readers = r.readers }

read_turned : (f : Formats) (w new : World) (shelf : List Shelved) → Law f w shelf → ReadLaw f w → ReadTurn f w new → ReadLaw f new
read_turned f w new shelf l r (OpensRestore m uuid place indices h) = opens f w shelf l r uuid place indices m h
read_turned f w new shelf l r (HandsShard m o x s h) = hands f w shelf l r o x s m h
read_turned f w new shelf l r (ReadsMore m k name bytes h) = grows f w shelf l r k name bytes m h
read_turned f w new shelf l r (EndsShard m k state h) = ends f w shelf l r k state m h
read_turned f w new shelf l r (Calls m caller entries e) = subst (ReadLaw f) (sym e) (read_same f w w.deposed caller entries r)

-- ---- each turn

pub turn_read : (f : Formats) (w new : World) (shelf : List Shelved) → Law f w shelf → ReadLaw f w → w.deposed ≡ false → Turn f w new → ReadLaw f new
turn_read f w new shelf l r d (Deposes m up h e) = subst (ReadLaw f) (sym e) (read_same f up true up.caller up.entries (turn_read f w up shelf l r d h))
turn_read f w new shelf l r d (Besides m up h step) = read_turned f up m (shelf_after shelf (commands_of f w up h)) (turn_law f w up shelf l d h) (turn_read f w up shelf l r d h) step
turn_read f w new shelf l r d turn = read_framed f w new (shelf_after shelf (commands_of f w new turn)) (turn_law f w new shelf l d turn) r (frame f w new shelf l turn tt)

pub read_opened : (f : Formats) (blobs : Blobs) (cluster : ClusterRecord) (root : RootData) → ReadLaw f (opened blobs cluster root)
read_opened f blobs cluster root =
    record { tracked = (read_opened_tracked blobs cluster root).tracked; restores = λ o r e. absurd (nothing o r e); readers = λ k q e. absurd (nothing k q e) }
