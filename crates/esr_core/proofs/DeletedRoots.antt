-- The root that a delete writes, by what it has of the old one: its snapshots, its indices, and the generation of each shard.
use Rattle.std.proofs.Common.{◌≡◌, ℕ, zero, suc, true, false, List, [], ◌∷◌, set, Option, Some, None, option_map, refl, sym, ap, ◌∙◌, subst, inl, inr}
use Rattle.std.specs.Prelude.{◌==◌}
use Rattle.std.proofs.lemmas.Option.{same_Some, none-some}
use Rattle.std.proofs.lemmas.Bool.{cond-true, cond-false}
use Rattle.esr_core.specs.Laws.NewRoots.{index_found}
use Rattle.esr_model.specs.Values.{RootIndex, RootData, IsOneEach}
use Rattle.esr_model.specs.Image.{Has, Generation, index_at, at_shard, at_shard_of}
use Rattle.esr_model.specs.Delete.{names_uuid, PrunedShard, next_after, own_id, fresh_from, left_uuids, left_indices, left_root, fresh_in, set_fresh, renewed, deleted_root}
use Rattle.esr_core.specs.Laws.DeleteRoots.{one_found, left_of, uuid_was, uuid_left, index_was, index_left, left_one_each, fresh_of, same_id, fresh_other, AreApart, fresh_none, renewed_index_was, renewed_index}
use Rattle.esr_core.specs.Laws.Tests.{pair_tells}

-- ---- without some snapshots

-- and stays in an index that is left
pub generation_left : (root : RootData) → IsOneEach root.indices → (uuids : List ℕ) (i k g : ℕ) → Generation root i k g → (x : RootIndex) (u : ℕ) → Has root.indices x → x.id ≡ i → Has x.snapshots u
    → names_uuid uuids u ≡ false → Generation (left_root root uuids) i k g
generation_left root one uuids i k g gen x u there id mine e =
    let new : index_at (left_indices uuids root.indices) i ≡ Some (left_of uuids x) = one_found (left_indices uuids root.indices) (left_one_each uuids root.indices one) (left_of uuids x) (index_left uuids root.indices x u there mine e) i id in
    ap (λ (z : Option RootIndex). at_shard_of z k) new ∙ sym (ap (λ (z : Option RootIndex). at_shard_of z k) (one_found root.indices one x there i id)) ∙ gen

-- ---- another generation of one shard

set_there : (gs : List (Option ℕ)) (k : ℕ) (to : Option ℕ) (b : ℕ) → at_shard gs k ≡ Some b → at_shard (set gs k to) k ≡ to
set_there [] k to b e = absurd (none-some b e)
set_there (x ∷ gs) zero to b e = refl
set_there (x ∷ gs) (suc k) to b e = set_there gs k to b e

pub fresh_there : (i k b : ℕ) (to : Option ℕ) (root : RootData) → Generation root i k b → at_shard_of (index_at (set_fresh i k to root).indices i) k ≡ to
fresh_there i k b to root gen = fresh_of i k to root i k ∙ go (index_at root.indices i) refl gen
  where
    go : (o : Option RootIndex) → index_at root.indices i ≡ o → at_shard_of o k ≡ Some b → at_shard_of (option_map (fresh_in i k to) o) k ≡ to
    go None e at = absurd (none-some b at)
    go (Some x) e at =
        let own : (x.id == i) ≡ true = same_id x.id i (index_found root.indices i x e).1 in
        ap (λ (gs : List (Option ℕ)). at_shard gs k) (cond-true _ _ _ own) ∙ set_there x.generations k to b at

-- ---- of several

-- a shard that gets none keeps its own
pub renewed_stays : (shards : List PrunedShard) (next : ℕ) (root : RootData) (i k : ℕ) → ((q : PrunedShard) → Has shards q → i ≡ q.index → k ≡ q.number → ⊥)
    → at_shard_of (index_at (renewed next shards root).indices i) k ≡ at_shard_of (index_at root.indices i) k
renewed_stays [] next root i k h = refl
renewed_stays (p ∷ shards) next root i k h =
    renewed_stays shards (next_after next p) (set_fresh p.index p.number (own_id next p) root) i k (λ q m. h q (inr m))
    ∙ fresh_other p.index p.number i k (own_id next p) root (λ a b. h p (inl refl) (sym a) (sym b))

-- one that has a generation and gets a fresh one has that
pub renewed_now : (shards : List PrunedShard) (next : ℕ) (root : RootData) (i k b : ℕ) (to : Option ℕ) → AreApart shards → Generation root i k b → fresh_from next shards i k ≡ Some to
    → at_shard_of (index_at (renewed next shards root).indices i) k ≡ to
renewed_now [] next root i k b to apart gen e = absurd (no_fresh e)
  where
    no_fresh : ◌≡◌ {A = Option (Option ℕ)} None (Some to) → ⊥
    no_fresh e = cc
renewed_now (p ∷ shards) next root i k b to apart gen e = elim (pair_tells p.index i p.number k) [
  | inl t ↦
      let own : own_id next p ≡ to = same_Some (own_id next p) to (sym (cond-true _ _ _ t.0) ∙ e) in
      let there : at_shard_of (index_at (set_fresh p.index p.number (own_id next p) root).indices i) k ≡ own_id next p =
      subst (λ (x : ℕ × ℕ). at_shard_of (index_at (set_fresh x.0 x.1 (own_id next p) root).indices i) k ≡ own_id next p) (λ j. (sym t.1.0 j, sym t.1.1 j)) (fresh_there i k b (own_id next p) root gen) in
      renewed_stays shards (next_after next p) (set_fresh p.index p.number (own_id next p) root) i k (λ q m x y. apart.0 q m (t.1.0 ∙ x) (t.1.1 ∙ y)) ∙ there ∙ own
  | inr t ↦
      renewed_now shards (next_after next p) (set_fresh p.index p.number (own_id next p) root) i k b to apart.1 (fresh_other p.index p.number i k (own_id next p) root t.1 ∙ gen) (sym (cond-false _ _ _ t.0) ∙ e)
]

-- ---- the root that a delete writes

module _ (root : RootData) (one : IsOneEach root.indices) (uuids : List ℕ) (shards : List PrunedShard) (first : ℕ) (apart : AreApart shards) where
  pub deleted_from : (y : RootIndex) → Has (deleted_root root uuids shards first).indices y → (x : RootIndex) × Has root.indices x × (x.name ≡ y.name) × (x.id ≡ y.id) × ((u : ℕ) → Has y.snapshots u → Has x.snapshots u)
  unfolding deleted_root
  deleted_from y m =
      let (z, there, a) = renewed_index_was shards first (left_root root uuids) y m in
      let (x, old, z_is) = index_was uuids root.indices z there in
      let snaps : left_uuids uuids x.snapshots ≡ y.snapshots = sym (ap (λ (i : RootIndex). i.snapshots) z_is) ∙ a.snapshots in
      (x, old, sym (ap (λ (i : RootIndex). i.name) z_is) ∙ a.name, sym (ap (λ (i : RootIndex). i.id) z_is) ∙ a.id, λ u h. uuid_was uuids x.snapshots u (subst (λ (us : List ℕ). Has us u) (sym snaps) h))

  pub deleted_kept : (x : RootIndex) (u : ℕ) → Has root.indices x → Has x.snapshots u → names_uuid uuids u ≡ false
      → (y : RootIndex) × Has (deleted_root root uuids shards first).indices y × (y.name ≡ x.name) × (y.id ≡ x.id) × Has y.snapshots u
  unfolding deleted_root
  deleted_kept x u there mine e =
      let (y, now, a) = renewed_index shards first (left_root root uuids) (left_of uuids x) (index_left uuids root.indices x u there mine e) in
      (y, now, sym a.name, sym a.id, subst (λ (us : List ℕ). Has us u) a.snapshots (uuid_left uuids x.snapshots u mine e))

  -- in an index that stays: the old one where the shard isn't among these, else its own
  pub deleted_stays : (i k g : ℕ) → Generation root i k g → (x : RootIndex) (u : ℕ) → Has root.indices x → x.id ≡ i → Has x.snapshots u → names_uuid uuids u ≡ false
      → ((q : PrunedShard) → Has shards q → i ≡ q.index → k ≡ q.number → ⊥) → (fresh_from first shards i k ≡ None) × Generation (deleted_root root uuids shards first) i k g
  unfolding deleted_root
  deleted_stays i k g gen x u there id mine e others =
      (fresh_none first shards i k others, renewed_stays shards first (left_root root uuids) i k others ∙ generation_left root one uuids i k g gen x u there id mine e)

  pub deleted_now : (i k g now : ℕ) → Generation root i k g → (x : RootIndex) (u : ℕ) → Has root.indices x → x.id ≡ i → Has x.snapshots u → names_uuid uuids u ≡ false
      → fresh_from first shards i k ≡ Some (Some now) → Generation (deleted_root root uuids shards first) i k now
  unfolding deleted_root
  deleted_now i k g now gen x u there id mine e fresh =
      renewed_now shards first (left_root root uuids) i k g (Some now) apart (generation_left root one uuids i k g gen x u there id mine e) fresh
