-- The plan of a delete is one of the law: of the shards that it read, with the ids that it draws.
use Rattle.std.proofs.Common.{◌≡◌, ℕ, suc, ◌+◌, ◌<◌, ◌≤◌, List, [], ◌∷◌, refl, sym, ap, subst, inl, inr, arith}
use Rattle.std.proofs.lemmas.Bool.{cond-true, cond-false, cases_Bool}
use Rattle.esr_model.specs.Names.{BlobName, ShardIndex}
use Rattle.esr_model.specs.Values.{Bytes, Has, RootData, Formats}
use Rattle.esr_model.specs.Image.{Generation}
use Rattle.esr_model.specs.Delete.{PrunedShard, kept_count, pruned_blobs}
use Rattle.esr_core.specs.Pruning.{AreOfRoot}
use Rattle.esr_core.specs.Laws.DeleteRoots.{AreApart}

pub of_root_apart : (root : RootData) (shards : List PrunedShard) → AreOfRoot root shards → AreApart shards
of_root_apart root [] h = tt
of_root_apart root (p ∷ shards) h = (h.1, of_root_apart root shards h.2)

pub in_root : (root : RootData) (shards : List PrunedShard) (q : PrunedShard) → AreOfRoot root shards → Has shards q → Generation root q.index q.number q.base
in_root root [] q h m = absurd m
in_root root (p ∷ shards) q h (inl e) = subst (λ (x : PrunedShard). Generation root x.index x.number x.base) e h.0
in_root root (p ∷ shards) q h (inr m) = in_root root shards q h.2 m

-- a new shard index is that of one of the shards, under an id of the draw
pub record IsOwnIndex (next : ℕ) (shards : List PrunedShard) (name : BlobName) : Type 0 where
  pub q : PrunedShard
  pub there : Has shards q
  pub id : ℕ
  pub name_is : name ≡ ShardIndex q.index q.number id
  pub from : next ≤ id
  pub below : id < next + kept_count shards

one_here : (next c : ℕ) → next < next + suc c
one_here next c = omega arith

one_later : (id next c : ℕ) → id < suc next + c → id < next + suc c
one_later id next c lt = omega (arith, lt)

pub own_is : (f : Formats) (read : List (BlobName × Bytes)) (left : List ℕ) (shards : List PrunedShard) (next : ℕ) (name : BlobName) (b : Bytes) → Has (pruned_blobs f read left next shards) (name, b) → IsOwnIndex next shards name
own_is f read left [] next name b m = absurd m
own_is f read left (p ∷ shards) next name b m = elim (cases_Bool p.kept) [
  | inl t ↦
      let count : kept_count (p ∷ shards) ≡ suc (kept_count shards) = cond-true _ _ _ t in
      elim (subst (λ (l : List (BlobName × Bytes)). Has l (name, b)) (cond-true _ _ _ t) m) [
        | inl e ↦ record { q = p; there = inl refl; id = next; name_is = sym (ap (λ (x : BlobName × Bytes). x.0) e); from = omega arith; below = subst (λ (c : ℕ). next < next + c) (sym count) (one_here next (kept_count shards)) }
        | inr later ↦
            let r = own_is f read left shards (suc next) name b later in
            record { q = r.q; there = inr r.there; id = r.id; name_is = r.name_is; from = let le = r.from in omega (arith, le); below = subst (λ (c : ℕ). r.id < next + c) (sym count) (one_later r.id next (kept_count shards) r.below) }
      ]
  | inr t ↦
      let count : kept_count (p ∷ shards) ≡ kept_count shards = cond-false _ _ _ t in
      let r = own_is f read left shards next name b (subst (λ (l : List (BlobName × Bytes)). Has l (name, b)) (cond-false _ _ _ t) m) in
      record { q = r.q; there = inr r.there; id = r.id; name_is = r.name_is; from = r.from; below = subst (λ (c : ℕ). r.id < next + c) (sym count) r.below }
]
