-- The names that a shard's ticket may commit, and those of test blobs.
use Rattle.std.proofs.Common.{◌≡◌, ◌⊎◌, ℕ, ◌+◌, ◌<◌, ◌≤◌, sym, ◌∙◌, subst, inl, inr, arith}
use Rattle.esr_model.specs.Names.{BlobName, ShardSnap, ShardIndex, File, Part, TestMaster, TestNode}
use Rattle.esr_model.specs.Kept.{IdsBelow}
use Rattle.esr_core.specs.World.{Shard, Ticket}
use Rattle.esr_core.specs.Restores.{IsTestOf}
use Rattle.esr_core.specs.Steps.{Drew, ShardCommits}

-- the name is that of an index of a shard, under an id that the ticket drew
pub record IsDrawnIndex (t : Ticket) (name : BlobName) : Type 0 where
  pub index : ℕ
  pub number : ℕ
  pub id : ℕ
  pub name_is : name ≡ ShardIndex index number id
  pub drew : Drew t id

pub drawn_like : (t v : Ticket) (name : BlobName) → IsDrawnIndex t name → ((id : ℕ) → Drew t id → Drew v id) → IsDrawnIndex v name
drawn_like t v name h more = record { index = h.index; number = h.number; id = h.id; name_is = h.name_is; drew = more h.id h.drew }

-- it is no test blob
pub index_no_test : (t : Ticket) (name : BlobName) → IsDrawnIndex t name → (id : ℕ) → IsTestOf id name → ⊥
index_no_test t name h id test = subst (IsTestOf id) h.name_is test

pub drew_same : (t v : Ticket) (id : ℕ) → v.first ≡ t.first → v.drawn ≡ t.drawn → Drew v id → Drew t id
drew_same t v id f d h = record { from = subst (λ n. n ≤ id) f h.from; below = subst (λ n. id < n) (λ j. f j + d j) h.below }

-- a ticket of the same unit that drew as much commits the same
pub commits_same : (t v : Ticket) → v.work ≡ t.work → v.uuid ≡ t.uuid → v.first ≡ t.first → v.drawn ≡ t.drawn → (name : BlobName) → ShardCommits v name → ShardCommits t name
commits_same t v w u f d (ShardSnap i k x) h = (sym w ∙ h.0, h.1 ∙ u)
commits_same t v w u f d (ShardIndex i k g) h = (sym w ∙ h.0, drew_same t v g f d h.1)
commits_same t v w u f d (File i k x) h = (sym w ∙ h.0, drew_same t v x f d h.1)
commits_same t v w u f d (Part i k x p) h = (sym w ∙ h.0, drew_same t v x f d h.1)
commits_same t v w u f d name h = h

-- two that may commit one name are of one shard
pub one_place : (t u : Ticket) (name : BlobName) → ShardCommits t name → ShardCommits u name → (i : ℕ) × (k : ℕ) × (t.work ≡ Shard i k) × (u.work ≡ Shard i k)
one_place t u (ShardSnap i k x) a b = (i, k, a.0, b.0)
one_place t u (ShardIndex i k g) a b = (i, k, a.0, b.0)
one_place t u (File i k x) a b = (i, k, a.0, b.0)
one_place t u (Part i k x p) a b = (i, k, a.0, b.0)
one_place t u name a b = absurd a

pub none_drawn : (t : Ticket) (id : ℕ) → t.drawn ≡ 0 → Drew t id → ⊥
none_drawn t id none h = let a : t.first ≤ id = h.from in let b : id < t.first + t.drawn = h.below in omega (arith, none, a, b)

-- before its draw it may commit the snapshot of its shard alone
pub snap_alone : (t : Ticket) → t.drawn ≡ 0 → (name : BlobName) → ShardCommits t name → (i : ℕ) × (k : ℕ) × (t.work ≡ Shard i k) × (name ≡ ShardSnap i k t.uuid)
snap_alone t none (ShardSnap i k x) h = (i, k, h.0, λ j. ShardSnap i k (h.1 j))
snap_alone t none (ShardIndex i k g) h = absurd (none_drawn t g none h.1)
snap_alone t none (File i k x) h = absurd (none_drawn t x none h.1)
snap_alone t none (Part i k x p) h = absurd (none_drawn t x none h.1)
snap_alone t none name h = absurd h

-- what a draw adds has an id of the draw
pub drawn_new : (t : Ticket) (first n : ℕ) (name : BlobName) → ShardCommits (record t { first = first; drawn = n }) name → ShardCommits t name ⊎ (IdsBelow name first → ⊥)
drawn_new t first n (ShardSnap i k x) h = inl h
drawn_new t first n (ShardIndex i k g) h = inr (λ b. let a : first ≤ g = h.1.from in let c : g < first = b.1 in omega (arith, a, c))
drawn_new t first n (File i k x) h = inr (λ b. let a : first ≤ x = h.1.from in let c : x < first = b.1 in omega (arith, a, c))
drawn_new t first n (Part i k x p) h = inr (λ b. let a : first ≤ x = h.1.from in let c : x < first = b.1 in omega (arith, a, c))
drawn_new t first n name h = absurd h

-- none is a test blob
pub commits_no_test : (t : Ticket) (name : BlobName) → ShardCommits t name → (id : ℕ) → IsTestOf id name → ⊥
commits_no_test t (ShardSnap i k u) h id test = test
commits_no_test t (ShardIndex i k g) h id test = test
commits_no_test t (File i k x) h id test = test
commits_no_test t (Part i k x p) h id test = test
commits_no_test t name h id test = h

-- the id of a test blob that is there is below the next one
pub test_id_below : (id : ℕ) (name : BlobName) (next : ℕ) → IsTestOf id name → IdsBelow name next → id < next
test_id_below id (ShardSnap i k u) next test below = absurd test
test_id_below id (TestMaster u) next test below = subst (λ x. x < next) test below
test_id_below id (TestNode u n) next test below = subst (λ x. x < next) test below
test_id_below id name next test below = absurd test
