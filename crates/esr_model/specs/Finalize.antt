-- The root with a snapshot more: in it a shard's generation is the larger of the old root's and the op's own.
use Rattle.std.specs.Prelude.{◌≡◌, ℕ, zero, suc, pred, max, ◌⊎◌, Bool, true, false, ◌&&◌, ◌==◌, if◌then◌else◌, List, [], ◌∷◌, ◌++◌, Option, Some, None, map}
use Rattle.esr_model.specs.Values.{IndexRef, RootIndex, RootData, SnapInfo, ShardResult}
use Rattle.std.specs.Ordering.{nat_cmp}
use Rattle.std.specs.Cmp.Lexicographic.{slice_cmp}
use Rattle.esr_model.specs.Image.{Has, index_at, at_shard_of}
use Rattle.esr_model.specs.Places.{by_order, sorted_by}

abbrev pub larger : Option ℕ → Option ℕ → Option ℕ
larger None b = b
larger (Some a) None = Some a
larger (Some a) (Some b) = Some (max a b)

-- the generation at which a shard was done
abbrev pub done_at : List ShardResult → ℕ → ℕ → Option ℕ
done_at [] index shard = None
done_at (r ∷ results) index shard = if (r.index == index) && (r.shard == shard) then Some r.generation else done_at results index shard

-- the generations of an index from one shard on, of which the snapshot has so many
abbrev pub merged : List ShardResult → ℕ → ℕ → List (Option ℕ) → ℕ → List (Option ℕ)
merged results index k (g ∷ gs) n = larger g (done_at results index k) ∷ merged results index (suc k) gs (pred n)
merged results index k [] zero = []
merged results index k [] (suc n) = done_at results index k ∷ merged results index (suc k) [] n

-- the reference of the snapshot to an index of this id
abbrev pub ref_of : List IndexRef → ℕ → Option IndexRef
ref_of [] id = None
ref_of (r ∷ refs) id = if r.id == id then Some r else ref_of refs id

abbrev pub with_ref : SnapInfo → List ShardResult → RootIndex → Option IndexRef → RootIndex
with_ref info results x None = x
with_ref info results x (Some r) = record { name = x.name; id = x.id; snapshots = x.snapshots ++ info.uuid ∷ []; generations = merged results x.id 0 x.generations r.shards }

abbrev pub has_id : List RootIndex → ℕ → Bool
has_id [] id = false
has_id (x ∷ xs) id = if x.id == id then true else has_id xs id

-- the indices that the old root doesn't have
abbrev pub new_indices : SnapInfo → List ShardResult → List RootIndex → List IndexRef → List RootIndex
new_indices info results old [] = []
new_indices info results old (r ∷ refs) =
    if has_id old r.id then new_indices info results old refs
    else record { name = r.name; id = r.id; snapshots = info.uuid ∷ []; generations = merged results r.id 0 [] r.shards } ∷ new_indices info results old refs

-- the old indices, with the snapshot where it has them, and the new ones
abbrev pub finalized_indices : RootData → SnapInfo → List ShardResult → List RootIndex
finalized_indices root info results =
    map (λ (x : RootIndex). with_ref info results x (ref_of info.indices x.id)) root.indices ++ new_indices info results root.indices info.indices

-- by the byte order of names
abbrev pub named_first : RootIndex → RootIndex → Bool
named_first x y = by_order (slice_cmp nat_cmp x.name y.name) true

unfoldable pub finalized_root : RootData → SnapInfo → List ShardResult → RootData
finalized_root root info results =
    record {
      snapshots = root.snapshots ++ record { name = info.name; uuid = info.uuid; state = info.state } ∷ [];
      indices = sorted_by named_first (finalized_indices root info results);
    }

-- what is to be known of it
pub record Finalizes (root : RootData) (info : SnapInfo) (results : List ShardResult) (new : RootData) : Type 0 where
  pub snapshots : new.snapshots ≡ root.snapshots ++ record { name = info.name; uuid = info.uuid; state = info.state } ∷ []
  pub kept : (x : RootIndex) → Has root.indices x → (y : RootIndex) × Has new.indices y × (y.name ≡ x.name) × (y.id ≡ x.id) × ((u : ℕ) → Has x.snapshots u → Has y.snapshots u)
  pub from : (y : RootIndex) → Has new.indices y → (u : ℕ) → Has y.snapshots u
      → ((u ≡ info.uuid) × ((r : IndexRef) × Has info.indices r × (r.name ≡ y.name) × (r.id ≡ y.id))) ⊎ ((x : RootIndex) × Has root.indices x × (x.name ≡ y.name) × (x.id ≡ y.id) × Has x.snapshots u)
  pub names : (y : RootIndex) → Has new.indices y → ((x : RootIndex) × Has root.indices x × (x.name ≡ y.name) × (x.id ≡ y.id)) ⊎ ((r : IndexRef) × Has info.indices r × (r.name ≡ y.name) × (r.id ≡ y.id))
  pub made : (r : IndexRef) → Has info.indices r → (y : RootIndex) × Has new.indices y × (y.name ≡ r.name) × (y.id ≡ r.id) × Has y.snapshots info.uuid
  -- the larger of the old root's and the op's own
  pub generations : (index shard : ℕ) → at_shard_of (index_at new.indices index) shard ≡ larger (at_shard_of (index_at root.indices index) shard) (done_at results index shard)
