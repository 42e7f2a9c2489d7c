-- What a delete stages: with its new shard indices added, the new root stands for what is left of the shelf.
use Rattle.std.proofs.Common.{◌≡◌, ℕ, List, [], ◌∷◌, false, Option, sym, ap, ◌∙◌, subst, inl, inr, arith}
use Rattle.std.proofs.lemmas.Bool.{cases_Bool, cond-true, cond-false}
use Rattle.std.proofs.lemmas.Option.{same_Some}
use Rattle.esr_model.specs.Places.{places, comes_first, shelf_places}
use Rattle.esr_model.specs.Names.{BlobName, ShardIndex}
use Rattle.esr_model.specs.Values.{Bytes, IndexRef, RootSnap, RootIndex, RootData, ShardFiles, ReadsBack, Formats}
use Rattle.esr_model.specs.Shelf.{Shelved, ShelfShard}
use Rattle.esr_model.specs.Image.{Has, AllPairs, IsOne, Reads, Lists, FileStands, ShardStands, SnapStands, RootStands}
use Rattle.esr_core.specs.Swaps.{OrOwn}
use Rattle.esr_model.specs.Delete.{names_uuid, left_snaps, left_shelf, Deletes}
use Rattle.esr_model.specs.Lists.{AllPairs-map, AllPairs-with}
use Rattle.esr_core.specs.Laws.BlobFrames.{reads_kept, file_kept, snap_in, index_kept}
use Rattle.esr_core.specs.Laws.DeleteRoots.{left_has}
use Rattle.esr_core.proofs.Frames.{index_less}
use Rattle.esr_core.specs.Laws.OneValue.{reads_one}
use Rattle.esr_core.specs.Laws.SortedLists.{Has-sorted, in_places}

-- pair by pair over what is left
left_pairs : (R S : RootSnap → Shelved → Type 0) (uuids : List ℕ) → ((s : RootSnap) (x : Shelved) → R s x → x.uuid ≡ s.uuid)
    → (ss : List RootSnap) (xs : List Shelved) → ((s : RootSnap) (x : Shelved) → names_uuid uuids s.uuid ≡ false → R s x → S s x) → AllPairs R ss xs → AllPairs S (left_snaps uuids ss) (left_shelf uuids xs)
left_pairs R S uuids same [] [] to h = tt
left_pairs R S uuids same [] (x ∷ xs) to h = absurd h
left_pairs R S uuids same (s ∷ ss) [] to h = absurd h
left_pairs R S uuids same (s ∷ ss) (x ∷ xs) to h =
    let rest : AllPairs S (left_snaps uuids ss) (left_shelf uuids xs) = left_pairs R S uuids same ss xs to h.1 in
    let e : x.uuid ≡ s.uuid = same s x h.0 in
    elim (cases_Bool (names_uuid uuids s.uuid)) [
      | inl b ↦ subst (λ l. AllPairs S l (left_shelf uuids (x ∷ xs))) (sym (cond-true _ _ _ b)) (subst (AllPairs S (left_snaps uuids ss)) (sym (cond-true _ _ _ (ap (names_uuid uuids) e ∙ b))) rest)
      | inr b ↦ subst (λ l. AllPairs S l (left_shelf uuids (x ∷ xs))) (sym (cond-false _ _ _ b)) (subst (AllPairs S (s ∷ left_snaps uuids ss)) (sym (cond-false _ _ _ (ap (names_uuid uuids) e ∙ b))) (to s x b h.0, rest))
    ]

module _ (f : Formats) (has : BlobName → Bytes → Type 0) (func : IsOne has) (root new : RootData) (uuids : List ℕ) (fresh : ℕ → ℕ → Option (Option ℕ)) (own : List (BlobName × Bytes))
    (d : Deletes f has root uuids fresh own new) where
  abbrev Then : BlobName → Bytes → Type 0
  Then = OrOwn has own

  lift : (m : BlobName) (b : Bytes) → has m b → Then m b
  lift m b h = inl h

  own_index : (i k now : ℕ) (held : ShardFiles) → ReadsBack f.shard_index held → Has own (ShardIndex i k now, f.shard_index.text held) → Reads Then (ShardIndex i k now) f.shard_index held
  own_index i k now held back h = record { bytes = f.shard_index.text held; there = inr h; reads = back }

  shard_left : (snap : RootSnap) → names_uuid uuids snap.uuid ≡ false → (place : IndexRef × ℕ) (shard : ShelfShard) → (x : RootIndex) → Has root.indices x → x.id ≡ place.0.id → Has x.snapshots snap.uuid
      → ShardStands f has root snap.uuid place shard → ShardStands f Then new snap.uuid place shard
  shard_left snap stays place shard x there id mine s = elim (d.left place.0.id place.1 s.generation snap.uuid s.in_root x there id mine s.index s.index_reads s.snap.files s.lists stays) [
    | inl old ↦ record {
      name_is = s.name_is;
      number_is = s.number_is;
      generation = s.generation;
      in_root = old.1;
      snap = s.snap;
      snap_reads = reads_kept f has Then lift _ _ _ s.snap_reads;
      index = s.index;
      index_reads = reads_kept f has Then lift _ _ _ s.index_reads;
      lists = s.lists;
      files = files;
    }
    | inr now ↦
        let (g, was, held, gen, was_reads, mine, back, prunes, above) = d.pruned place.0.id place.1 now.0 now.1 in
        let same_g : s.generation ≡ g = same_Some _ _ (sym s.in_root ∙ gen) in
        let same : s.index ≡ was = reads_one has func (ShardIndex place.0.id place.1 g) f.shard_index s.index was (subst (λ x. Reads has (ShardIndex place.0.id place.1 x) f.shard_index s.index) same_g s.index_reads) was_reads in
        record {
          name_is = s.name_is;
          number_is = s.number_is;
          generation = now.0;
          in_root = now.2;
          snap = s.snap;
          snap_reads = reads_kept f has Then lift _ _ _ s.snap_reads;
          index = held;
          index_reads = own_index place.0.id place.1 now.0 held back mine;
          lists = prunes.keeps snap.uuid s.snap.files (subst (λ x. Lists x snap.uuid s.snap.files) same s.lists) stays;
          files = files;
        }
  ]
    where
      files : AllPairs (λ e file. (e.physical ≡ file.0) × FileStands f Then place.0.id place.1 e file.1) s.snap.files shard.files
      files = AllPairs-map (λ e file h. (h.0, file_kept f has Then lift place.0.id place.1 e file.1 h.1)) s.snap.files shard.files s.files

  snap_left : (snap : RootSnap) (shelved : Shelved) → names_uuid uuids snap.uuid ≡ false → SnapStands f has root snap shelved → SnapStands f Then new snap shelved
  snap_left snap shelved stays s =
      snap_in f has Then lift root new snap shelved s
      (λ r h. let (x, x_there, name, id, mine) = s.listed r h in let (y, y_there, y_name, y_id, y_mine) = d.kept x snap.uuid x_there mine stays in (y, y_there, y_name ∙ name, y_id ∙ id, y_mine))
      (λ y h mine. let (x, x_there, name, id, less) = d.from y h in let (r, r_there, r_name, r_id) = s.exact x x_there (less snap.uuid mine) in (r, r_there, r_name ∙ name, r_id ∙ id))
      (AllPairs-with (ShardStands f has root snap.uuid) (ShardStands f Then new snap.uuid) (shelf_places s.info.indices) shelved.shards
      (λ place shard m h.
      let (x, there, name, id, mine) = s.listed place.0 (in_places s.info.indices place (Has-sorted comes_first (places s.info.indices) place m)).0 in
      shard_left snap stays place shard x there id mine h)
      s.shards)

  was_listed : (snap : RootSnap) → Has new.snapshots snap → Has root.snapshots snap
  was_listed snap m = left_has uuids root.snapshots snap (subst (λ xs. Has xs snap) d.snapshots m)

  pub stage_delete : (shelf : List Shelved) → RootStands f has root shelf → RootStands f Then new (left_shelf uuids shelf)
  stage_delete shelf s =
      record {
        snapshots = subst (λ xs. AllPairs (SnapStands f Then new) xs (left_shelf uuids shelf)) (sym d.snapshots)
            (left_pairs (SnapStands f has root) (SnapStands f Then new) uuids (λ snap x h. h.uuid_is) root.snapshots shelf snap_left s.snapshots);
        indices = λ i k g gen. elim (d.generations i k g gen) [
          | inl old ↦ index_kept f has Then lift new i k g (index_less f has root new was_listed i k g (s.indices i k g old.1))
          | inr now ↦
              let (h, was, held, old, was_reads, mine, back, prunes, above) = d.pruned i k g now in
              let stood = s.indices i k h old in
              let same : stood.held ≡ was = reads_one has func (ShardIndex i k h) f.shard_index stood.held was stood.held_reads was_reads in
              record {
                held = held;
                held_reads = own_index i k g held back mine;
                files = λ e m. let it = stood.files e (subst (λ (x : ShardFiles). Has x.files e) (sym same) (prunes.files_from e m)) in (it.0, file_kept f has Then lift i k e it.0 it.1);
                snaps = λ l snap m n e. let it = stood.snaps l snap (subst (λ (x : ShardFiles). Has x.snapshots l) (sym same) (prunes.lists_from l m)) (was_listed snap n) e in (it.0, reads_kept f has Then lift _ _ _ it.1);
                below = λ l m. let b = stood.below l (subst (λ (x : ShardFiles). Has x.snapshots l) (sym same) (prunes.lists_from l m)) in omega (arith, b, above);
              }
        ];
      }
