-- What a finalization stages: with its metadata added, the new root stands for the shelf with its snapshot.
use Rattle.std.proofs.Common.{◌≡◌, ◌≢◌, ℕ, ◌<◌, List, [], ◌∷◌, ◌++◌, Some, None, map, refl, sym, ap, ◌∙◌, subst, inl, inr, arith, nat_cmp}
use Rattle.std.specs.FinMap.{FinMap}
use Rattle.std.specs.FinMap as fin
use Rattle.std.specs.List.{list_any}
use Rattle.std.proofs.lemmas.Bool.Decides.{eqb_tells}
use Rattle.esr_model.specs.Places.{shelf_places, comes_first, sorted_by}
use Rattle.esr_model.specs.Names.{BlobName, Snap, Meta, IndexMeta, ShardSnap}
use Rattle.esr_model.specs.Values.{Bytes, IndexRef, RootSnap, RootData, SnapInfo, FileEntry, ShardSnapshot, ShardResult, Kind, ReadsBack, Formats}
use Rattle.esr_model.specs.Shelf.{Shelved, ShelfShard, is_of_one, shelved_at}
use Rattle.esr_model.specs.Uploads.{same_bytes}
use Rattle.esr_model.specs.Image.{Blobs, Has, AllPairs, IsOne, Reads, index_at, at_shard_of, ListsAs, FileStands, ShardStands, SnapStands, RootStands, global_of}
use Rattle.esr_model.specs.Finalize.{Finalizes, done_at}
use Rattle.std.specs.Prelude.{sum_by, min, filter, ◌-◌, ◌^◌, ◌≤◌, ◌==◌}
use Rattle.std.proofs.lemmas.Bool.{cond-true, cond-false}
use Rattle.std.proofs.lemmas.Option.{same_Some}
use Rattle.esr_core.specs.Stored.{stored_files}
use Rattle.esr_core.specs.World.{Op, ShardWork, Done, AllDone, info_of, comes_first_of, shelved_shard, shelved_of, index_names, metadata}
use Rattle.esr_core.specs.Generations.{DoneAt, IsLive, Carries, AreFilesOf, DoneStands, AreIndicesBy, OpTexts, OpLaw}
use Rattle.esr_core.specs.Swaps.{OrOwn}
use Rattle.esr_model.specs.Lists.{AllPairs-map, AllPairs-with, Has-map, Has-mapped, AllPairs-snoc}
use Rattle.esr_core.specs.Laws.BlobFrames.{reads_kept, file_kept, snap_in, index_kept}
use Rattle.esr_core.specs.Laws.DoneShards.{done_of}
use Rattle.esr_core.specs.Laws.NewRoots.{larger_is, larger_old, larger_new}
use Rattle.esr_core.proofs.Owning.{stands_on}
use Rattle.esr_core.specs.Laws.SortedLists.{Has-sorted}
use Rattle.esr_core.proofs.Ordered.{map-sorted, in_shelf_places}
use Rattle.esr_core.specs.Laws.OneValue.{reads_one}
use Rattle.esr_core.proofs.Stored.{stored_is}
use Rattle.esr_core.proofs.Chosen.{apart-once, chosen_places, filter_pairs}
use Rattle.esr_core.proofs.AskedClones.{place_of}

module _ (f : Formats) (has : BlobName → Bytes → Type 0) (func : IsOne has) (own : List (BlobName × Bytes)) where
  abbrev Then : BlobName → Bytes → Type 0
  Then = OrOwn has own

  lift : (m : BlobName) (b : Bytes) → has m b → Then m b
  lift m b h = inl h

  own_reads : {V : Type 0} (name : BlobName) (kind : Kind V) (v : V) → ReadsBack kind v → Has own (name, kind.text v) → Reads Then name kind v
  own_reads name kind v back h = record { bytes = kind.text v; there = inr h; reads = back }

  -- a shard of a listed snapshot, in a root in which its generation is the same or a live one above
  old_shard : (root new : RootData) (ops : FinMap nat_cmp Op) (info : SnapInfo) (results : List ShardResult) (fin : Finalizes root info results new)
      → ((index shard g : ℕ) → done_at results index shard ≡ Some g → Carries f has root ops index shard g)
      → (snap : RootSnap) → Has root.snapshots snap → (its : SnapInfo) → Reads has (Snap snap.uuid) f.info its
      → (place : IndexRef × ℕ) (shard : ShelfShard) → Has (shelf_places its.indices) place
      → ShardStands f has root snap.uuid place shard → ShardStands f Then new snap.uuid place shard
  old_shard root new ops info results fin carries snap listed its its_reads place shard there s =
      let now = larger_old _ (done_at results place.0.id place.1) s.generation s.in_root in
      let serves : ListsAs f has place.0.id place.1 now.0 snap.uuid = elim now.2 [
        | inl e ↦ subst (λ g. ListsAs f has place.0.id place.1 g snap.uuid) (sym e) (record { snap = s.snap; snap_reads = s.snap_reads; held = s.index; held_reads = s.index_reads; lists = s.lists })
        | inr up ↦ (carries place.0.id place.1 now.0 up.1).listed
            (λ g h. let e : s.generation ≡ g = same_Some _ _ (sym s.in_root ∙ h) in omega (arith, up.0))
            snap listed (record { info = its; info_reads = its_reads; place = place; there = there; index_is = refl; shard_is = refl })
      ] in
      let same : serves.snap ≡ s.snap = reads_one has func (ShardSnap place.0.id place.1 snap.uuid) f.shard_snap serves.snap s.snap serves.snap_reads s.snap_reads in
      record {
        name_is = s.name_is;
        number_is = s.number_is;
        generation = now.0;
        in_root = fin.generations place.0.id place.1 ∙ now.1;
        snap = serves.snap;
        snap_reads = reads_kept f has Then lift _ _ _ serves.snap_reads;
        index = serves.held;
        index_reads = reads_kept f has Then lift _ _ _ serves.held_reads;
        lists = serves.lists;
        files = subst (λ (x : ShardSnapshot). AllPairs (λ e file. (e.physical ≡ file.0) × FileStands f Then place.0.id place.1 e file.1) x.files shard.files) (sym same)
            (AllPairs-map (λ e file h. (h.0, file_kept f has Then lift place.0.id place.1 e file.1 h.1)) s.snap.files shard.files s.files);
      }

  -- a listed snapshot
  old_snap : (root new : RootData) (ops : FinMap nat_cmp Op) (info : SnapInfo) (results : List ShardResult) (fin : Finalizes root info results new)
      → ((index shard g : ℕ) → done_at results index shard ≡ Some g → Carries f has root ops index shard g)
      → (snap : RootSnap) → Has root.snapshots snap → snap.uuid ≢ info.uuid
      → (shelved : Shelved) → SnapStands f has root snap shelved → SnapStands f Then new snap shelved
  old_snap root new ops info results fin carries snap there apart shelved s =
      snap_in f has Then lift root new snap shelved s
      (λ r h. let (x, x_there, name, id, has) = s.listed r h in let (y, y_there, y_name, y_id, more) = fin.kept x x_there in (y, y_there, y_name ∙ name, y_id ∙ id, more snap.uuid has))
      (λ y h has. elim (fin.from y h snap.uuid has) [
        | inl e ↦ absurd (apart e.0)
        | inr e ↦ let (x, x_there, name, id, was) = e in let (r, r_there, r_name, r_id) = s.exact x x_there was in (r, r_there, r_name ∙ name, r_id ∙ id)
      ])
      (AllPairs-with (ShardStands f has root snap.uuid) (ShardStands f Then new snap.uuid) (shelf_places s.info.indices) shelved.shards
      (λ place shard m h. old_shard root new ops info results fin carries snap there s.info s.info_reads place shard m h) s.shards)

  -- a shard of the new one, with these files
  new_shard : (root new : RootData) (ops : FinMap nat_cmp Op) (info : SnapInfo) (results : List ShardResult) (fin : Finalizes root info results new)
      → (op : Op) → ((index shard g : ℕ) → IsLive root ops index shard g → Carries f has root ops index shard g)
      → (s : ShardWork) (r : ShardResult) → DoneAt ops op.uuid s.ref.id s.number r.generation → done_at results s.ref.id s.number ≡ Some r.generation
      → (d : DoneStands f has op.source op.uuid s r) → (shard : ShelfShard) → shard.index ≡ s.ref.name → shard.number ≡ s.number
      → AllPairs (λ e file. (e.physical ≡ file.0) × FileStands f has s.ref.id s.number e file.1) d.snap.files shard.files
      → ShardStands f Then new op.uuid (s.ref, s.number) shard
  new_shard root new ops info results fin op carries s r done at_results d shard index_is number_is files =
      let now = larger_new (at_shard_of (index_at root.indices s.ref.id) s.number) _ r.generation at_results in
      let serves : ListsAs f has s.ref.id s.number now.0 op.uuid = elim now.2 [
        | inl e ↦ (carries s.ref.id s.number now.0 (inr (op.uuid, subst (DoneAt ops op.uuid s.ref.id s.number) (sym e) done))).done op.uuid r.generation done (omega (arith, e))
        | inr up ↦ (carries s.ref.id s.number now.0 (inl up.1)).done op.uuid r.generation done (omega (arith, up.0))
      ] in
      let same : serves.snap ≡ d.snap = reads_one has func (ShardSnap s.ref.id s.number op.uuid) f.shard_snap serves.snap d.snap serves.snap_reads d.snap_reads in
      record {
        name_is = index_is;
        number_is = number_is;
        generation = now.0;
        in_root = fin.generations s.ref.id s.number ∙ now.1;
        snap = serves.snap;
        snap_reads = reads_kept f has Then lift _ _ _ serves.snap_reads;
        index = serves.held;
        index_reads = reads_kept f has Then lift _ _ _ serves.held_reads;
        lists = serves.lists;
        files = subst (λ (x : ShardSnapshot). AllPairs (λ e file. (e.physical ≡ file.0) × FileStands f Then s.ref.id s.number e file.1) x.files shard.files) (sym same)
            (AllPairs-map (λ e file h. (h.0, file_kept f has Then lift s.ref.id s.number e file.1 h.1)) d.snap.files shard.files files);
      }

-- pair by pair over two maps of one list
AllPairs-maps : {A B C : Type 0} (R : B → C → Type 0) (g : A → B) (h : A → C) (xs : List A) → ((x : A) → Has xs x → R (g x) (h x)) → AllPairs R (map g xs) (map h xs)
AllPairs-maps R g h [] all = tt
AllPairs-maps R g h (x ∷ xs) all = (all x (inl refl), AllPairs-maps R g h xs (λ y m. all y (inr m)))

-- its info can be written
pub info_back : (f : Formats) (op : Op) (results : List ShardResult) → OpTexts f op → ReadsBack f.info (info_of op results)
info_back f op results texts = texts.info _ _ (capped (sum_by (λ (r : ShardResult). r.files) results)) (capped (sum_by (λ (r : ShardResult). r.bytes) results))
  where
    capped : (n : ℕ) → min n (2 ^ 63 - 1) < 2 ^ 63
    capped n = let h : min n (2 ^ 63 - 1) ≤ 2 ^ 63 - 1 = grind arith in omega (arith, h)

-- the first snapshot of the shelf with this uuid, which is that of a listed one
pub record IsShelved (f : Formats) (has : BlobName → Bytes → Type 0) (root : RootData) (shelf : List Shelved) (u : ℕ) : Type 0 where
  pub shelved : Shelved
  pub found : shelved_at shelf u ≡ Some shelved
  pub snap : RootSnap
  pub uuid_is : snap.uuid ≡ u
  pub stands : SnapStands f has root snap shelved

pub listed_shelved : (f : Formats) (has : BlobName → Bytes → Type 0) (root : RootData) (snaps : List RootSnap) (shelf : List Shelved) → AllPairs (SnapStands f has root) snaps shelf
    → (z : RootSnap) → Has snaps z → (u : ℕ) → z.uuid ≡ u → IsShelved f has root shelf u
listed_shelved f has root [] shelf h z m u is = absurd m
listed_shelved f has root (s ∷ snaps) [] h z m u is = absurd h
listed_shelved f has root (s ∷ snaps) (y ∷ shelf) h z m u is = elim (eqb_tells y.uuid u) [
  | inl t ↦ record { shelved = y; found = cond-true (y.uuid == u) (Some y) (shelved_at shelf u) t.0; snap = s; uuid_is = sym h.0.uuid_is ∙ t.1; stands = h.0 }
  | inr t ↦
      let x : IsShelved f has root shelf u = later t.1 m (λ n. listed_shelved f has root snaps shelf h.1 z n u is) in
      record { shelved = x.shelved; found = cond-false (y.uuid == u) (Some y) (shelved_at shelf u) t.0 ∙ x.found; snap = x.snap; uuid_is = x.uuid_is; stands = x.stands }
]
  where
    later : (y.uuid ≡ u → ⊥) → Has (s ∷ snaps) z → (Has snaps z → IsShelved f has root shelf u) → IsShelved f has root shelf u
    later other (inl e) rest = absurd (other (h.0.uuid_is ∙ ap (λ (q : RootSnap). q.uuid) e ∙ is))
    later other (inr n) rest = rest n

-- what the finalization of an op stages
module _ (f : Formats) (has : BlobName → Bytes → Type 0) (func : IsOne has) (root new : RootData) (ops : FinMap nat_cmp Op) (o : ℕ) (op : Op) (results : List ShardResult)
    (there : fin.get ops o ≡ Some op) (law : OpLaw f has root op) (carries : (index shard g : ℕ) → IsLive root ops index shard g → Carries f has root ops index shard g)
    (done : AllDone op.shards results)
    (at_results : (s : ShardWork) (r : ShardResult) → Has op.shards s → s.state ≡ Done r → done_at results s.ref.id s.number ≡ Some r.generation)
    (fins : Finalizes root (info_of op results) results new) where
  abbrev info : SnapInfo
  info = info_of op results

  abbrev own : List (BlobName × Bytes)
  own = metadata f (info_of op results)

  -- a shard of it, with these files
  its_shard : (s : ShardWork) → Has op.shards s → (shard : ShelfShard) → shard.index ≡ s.ref.name → shard.number ≡ s.number
      → ((r : ShardResult) (d : DoneStands f has op.source op.uuid s r) → AllPairs (λ e file. (e.physical ≡ file.0) × FileStands f has s.ref.id s.number e file.1) d.snap.files shard.files)
      → ShardStands f (OrOwn has own) new op.uuid (s.ref, s.number) shard
  its_shard s m shard index_is number_is files =
      let (r, state, r_there) = done_of op.shards results done s m in
      let d : DoneStands f has op.source op.uuid s r = law.done s r m state in
      new_shard f has func own root new ops info results fins op carries s r
      (record { number = o; op = op; there = there; uuid_is = refl; s = s; s_there = m; r = r; state = state; index_is = refl; shard_is = refl; generation_is = refl })
      (at_results s r m state) d shard index_is number_is (files r d)

  -- its shards, of the files that are stored
  pub stored_shards : (blobs : Blobs) → ((name : BlobName) (bytes : Bytes) → has name bytes → fin.get blobs (f.names.text name) ≡ Some bytes) → op.source ≡ None
      → AllPairs (ShardStands f (OrOwn has own) new op.uuid) (shelf_places op.indices) (shelved_of f blobs op).shards
  stored_shards blobs at none =
      subst (λ list. AllPairs (ShardStands f (OrOwn has own) new op.uuid) list (shelved_of f blobs op).shards) (map-sorted place_of comes_first op.shards ∙ ap (sorted_by comes_first) law.places)
      (AllPairs-maps (ShardStands f (OrOwn has own) new op.uuid) place_of (shelved_shard f blobs op.uuid) (sorted_by comes_first_of op.shards)
      (λ s in_order. its_shard s (Has-sorted comes_first_of op.shards s in_order) (shelved_shard f blobs op.uuid s) refl refl (are_stored s)))
    where
      are_stored : (s : ShardWork) (r : ShardResult) (d : DoneStands f has op.source op.uuid s r)
          → AllPairs (λ e file. (e.physical ≡ file.0) × FileStands f has s.ref.id s.number e file.1) d.snap.files (stored_files f blobs s.ref.id s.number op.uuid)
      are_stored s r d =
          let its : AreFilesOf f has None s.ref.id s.number d.snap.files = subst (λ source. AreFilesOf f has source s.ref.id s.number d.snap.files) none d.files in
          subst (λ (files : List (Bytes × Bytes)). AllPairs (λ (e : FileEntry) (file : Bytes × Bytes). (e.physical ≡ file.0) × FileStands f has s.ref.id s.number e file.1) d.snap.files files)
          (sym (stored_is f blobs has at s.ref.id s.number op.uuid d.snap d.snap_reads its.0 its.1)) its.1

  -- and of a clone, of what a listed snapshot has of its indices
  pub copied_shards : (u : ℕ) → op.source ≡ Some u → (snap : RootSnap) → snap.uuid ≡ u → (x : Shelved) → SnapStands f has root snap x
      → AllPairs (ShardStands f (OrOwn has own) new op.uuid) (shelf_places op.indices) (filter (is_of_one (index_names op.indices)) x.shards)
  copied_shards u copies snap uuid x stands =
      AllPairs-with (ShardStands f has root snap.uuid) (ShardStands f (OrOwn has own) new op.uuid) (shelf_places op.indices) (filter (is_of_one (index_names op.indices)) x.shards) one were
    where
      by : AreIndicesBy f has u op.indices
      by = (law.copies u copies).by_info

      info_same : stands.info ≡ by.info
      info_same = reads_one has func (Snap u) f.info stands.info by.info (subst (λ n. Reads has (Snap n) f.info stands.info) uuid stands.info_reads) by.info_reads

      were : AllPairs (ShardStands f has root snap.uuid) (shelf_places op.indices) (filter (is_of_one (index_names op.indices)) x.shards)
      were =
          subst (λ list. AllPairs (ShardStands f has root snap.uuid) list (filter (is_of_one (index_names op.indices)) x.shards))
          (sym (chosen_places by.info.indices op.indices by.among by.named_once (apart-once by.info.indices by.apart) by.once))
          (filter_pairs (ShardStands f has root snap.uuid) (λ (p : IndexRef × ℕ). list_any (same_bytes p.0.name) (index_names op.indices)) (is_of_one (index_names op.indices))
          (λ place shard h. ap (λ (name : Bytes). list_any (same_bytes name) (index_names op.indices)) (sym h.name_is))
          (shelf_places by.info.indices) x.shards (subst (λ (i : SnapInfo). AllPairs (ShardStands f has root snap.uuid) (shelf_places i.indices) x.shards) info_same stands.shards))

      one : (place : IndexRef × ℕ) (shard : ShelfShard) → Has (shelf_places op.indices) place → ShardStands f has root snap.uuid place shard → ShardStands f (OrOwn has own) new op.uuid place shard
      one place shard m h =
          let (s, s_there, e) = Has-mapped place_of op.shards place (subst (λ list. Has list place) (sym law.places) (in_shelf_places op.indices place m)) in
          let g : ShardStands f has root u (s.ref, s.number) shard = subst (λ n. ShardStands f has root n (s.ref, s.number) shard) uuid (subst (λ (p : IndexRef × ℕ). ShardStands f has root snap.uuid p shard) (sym e) h) in
          subst (λ (p : IndexRef × ℕ). ShardStands f (OrOwn has own) new op.uuid p shard) e
          (its_shard s s_there shard g.name_is g.number_is (λ r d.
          let q : (was : ShardSnapshot) × Reads has (ShardSnap s.ref.id s.number u) f.shard_snap was × (was.files ≡ d.snap.files) = subst (λ source. AreFilesOf f has source s.ref.id s.number d.snap.files) copies d.files in
          let it : q.0 ≡ g.snap = reads_one has func (ShardSnap s.ref.id s.number u) f.shard_snap q.0 g.snap q.1 g.snap_reads in
          subst (λ (es : List FileEntry). AllPairs (λ e file. (e.physical ≡ file.0) × FileStands f has s.ref.id s.number e file.1) es shard.files) (ap (λ (v : ShardSnapshot). v.files) (sym it) ∙ q.2) g.files))

  -- the new snapshot
  new_snap : (made : Shelved) → made.name ≡ op.name → made.uuid ≡ op.uuid → AllPairs (ShardStands f (OrOwn has own) new op.uuid) (shelf_places op.indices) made.shards
      → SnapStands f (OrOwn has own) new (record { name = op.name; uuid = op.uuid; state = 1 }) made
  new_snap made name uuid shards =
      record {
        name_is = name;
        uuid_is = uuid;
        info = info;
        info_reads = own_reads f has func own (Snap op.uuid) f.info info (info_back f op results law.texts) (inl refl);
        info_name = refl;
        info_uuid = refl;
        info_state = refl;
        global_reads = own_reads f has func own (Meta op.uuid) f.global (global_of info) law.texts.global (inr (inl refl));
        metas = λ r h. own_reads f has func own (IndexMeta r.id op.uuid) f.index_meta (record { index = r; uuid = op.uuid }) (law.texts.index r h)
            (inr (inr (Has-map (λ (q : IndexRef). (IndexMeta q.id info.uuid, f.index_meta.text (record { index = q; uuid = info.uuid }))) info.indices r h)));
        listed = fins.made;
        exact = λ y h has. elim (fins.from y h op.uuid has) [
          | inl e ↦ e.1
          | inr e ↦ let (x, x_there, name, id, was) = e in absurd (law.unused x x_there was)
        ];
        shards = shards;
      }

  pub stage : (shelf : List Shelved) → ((index shard g : ℕ) → done_at results index shard ≡ Some g → DoneAt ops op.uuid index shard g) → RootStands f has root shelf
      → (made : Shelved) → made.name ≡ op.name → made.uuid ≡ op.uuid → AllPairs (ShardStands f (OrOwn has own) new op.uuid) (shelf_places op.indices) made.shards
      → RootStands f (OrOwn has own) new (shelf ++ made ∷ [])
  stage shelf done_at_op stands made name uuid shards =
      record {
        snapshots = subst (λ xs. AllPairs (SnapStands f (Then f has func own) new) xs (shelf ++ made ∷ [])) (sym fins.snapshots)
            (AllPairs-snoc (SnapStands f (Then f has func own) new) root.snapshots shelf _ made
            (AllPairs-with (SnapStands f has root) (SnapStands f (Then f has func own) new) root.snapshots shelf
            (λ snap shelved m h. old_snap f has func own root new ops info results fins (λ i s g e. carries i s g (inr (op.uuid, done_at_op i s g e))) snap m (law.unlisted snap m) shelved h) stands.snapshots)
            (new_snap made name uuid shards));
        indices = λ index shard g is.
            let live : IsLive root ops index shard g = elim (larger_is _ (done_at results index shard) g (sym (fins.generations index shard) ∙ is)) [
              | inl e ↦ inl e
              | inr e ↦ inr (op.uuid, done_at_op index shard g e)
            ] in
            index_kept f has (Then f has func own) (lift f has func own) new index shard g (stands_on f has root new ops o op results there law done fins index shard g (carries index shard g live));
      }
