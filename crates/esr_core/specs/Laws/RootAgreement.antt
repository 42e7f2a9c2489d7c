-- A root that stands agrees: a check of it finds nothing wrong.
use Rattle.std.proofs.Common.{◌≢◌, ℕ, zero, suc, ◌+◌, ◌<◌, ◌≤◌, List, [], ◌∷◌, sym, ap, subst, inl, inr, arith}
use Rattle.std.proofs.lemmas.Bool.Decides.{eqb_tells}
use Rattle.esr_model.specs.Names.{BlobName, Root}
use Rattle.esr_model.specs.Values.{Bytes, Has, IndexRef, RootSnap, RootData, Formats}
use Rattle.esr_model.specs.Shelf.{Shelved}
use Rattle.esr_model.specs.Places.{numbered, places, comes_first, shelf_places}
use Rattle.esr_model.specs.Image.{Reads, SnapStands, IndexStands, RootStands, Stands}
use Rattle.esr_model.specs.Agreement.{SnapAgrees, IndexAgrees, RootAgrees}
use Rattle.esr_core.specs.Laws.BlobFrames.{info_there}
use Rattle.esr_core.specs.Laws.OneValue.{listed_as}
use Rattle.esr_core.specs.Laws.ShardStates.{place_has}
use Rattle.esr_core.specs.Laws.SortedLists.{sorted-Has}
use Rattle.esr_model.specs.Lists.{Has-left, Has-right}

pub numbered_has : (r : IndexRef) (first n k : ℕ) → first ≤ k → k < first + n → Has (numbered r first n) (r, k)
numbered_has r first zero k low high = absurd (omega (arith, low, high))
numbered_has r first (suc n) k low high = elim (eqb_tells first k) [
  | inl h ↦ inl (ap (λ (x : ℕ). (r, x)) h.1)
  | inr h ↦ inr (let other : first ≢ k = h.1 in numbered_has r (suc first) n k (omega (arith, low, other)) (omega (arith, high)))
]

-- a shard of an index is a place
pub places_has : (refs : List IndexRef) (r : IndexRef) (k : ℕ) → Has refs r → k < r.shards → Has (places refs) (r, k)
places_has [] r k m below = absurd m
places_has (q ∷ refs) r k (inl e) below =
    Has-left (numbered q 0 q.shards) (places refs) (r, k) (subst (λ (z : IndexRef). Has (numbered z 0 z.shards) (r, k)) (sym e) (numbered_has r 0 r.shards k (omega arith) (omega (arith, below))))
places_has (q ∷ refs) r k (inr m) below = Has-right (numbered q 0 q.shards) (places refs) (r, k) (places_has refs r k m below)

module _ (f : Formats) (has : BlobName → Bytes → Type 0) (root : RootData) where
  snap_agrees : (snap : RootSnap) (shelved : Shelved) → SnapStands f has root snap shelved → SnapAgrees f has root snap
  snap_agrees snap shelved s =
      let place : (r : IndexRef) (k : ℕ) → Has s.info.indices r → k < r.shards → Has (shelf_places s.info.indices) (r, k) =
      λ r k m below. sorted-Has comes_first (places s.info.indices) (r, k) (places_has s.info.indices r k m below) in
      record {
        info = s.info;
        info_reads = s.info_reads;
        agrees = record {
          name_is = s.info_name;
          uuid_is = s.info_uuid;
          state_is = s.info_state;
          listed = s.listed;
          exact = s.exact;
          generations = λ r k m below. place_has f has root snap.uuid (shelf_places s.info.indices) shelved.shards s.shards (r, k) (place r k m below);
        };
        global_reads = s.global_reads;
        metas = s.metas;
        shards = λ r k g m below is. listed_as f has root snap.uuid (shelf_places s.info.indices) shelved.shards s.shards (r, k) (place r k m below) g is;
      }

  index_agrees : (index shard g : ℕ) → IndexStands f has root index shard g → IndexAgrees f has root index shard g
  index_agrees index shard g s = record { held = s.held; held_reads = s.held_reads; files = s.files; snaps = s.snaps }

  pub root_agrees : (n : ℕ) (shelf : List Shelved) → Reads has (Root n) f.root root → RootStands f has root shelf → RootAgrees f has n
  root_agrees n shelf reads s =
      record {
        root = root;
        root_reads = reads;
        snapshots = λ snap m. let (shelved, stands) = info_there f has root root.snapshots shelf s.snapshots snap m in snap_agrees snap shelved stands;
        indices = λ index shard g is. index_agrees index shard g (s.indices index shard g is);
      }

pub stands_agrees : (f : Formats) (has : BlobName → Bytes → Type 0) (n : ℕ) (shelf : List Shelved) → Stands f has n shelf → RootAgrees f has n
stands_agrees f has n shelf s = root_agrees f has s.root n shelf s.root_reads s.stands
