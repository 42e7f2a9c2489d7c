-- Of the open ops the index of a shard lists such alone as have the shard; so where an op is finalized it has what the root then reaches.
use Rattle.std.proofs.Common.{◌≡◌, ℕ, List, Some, sym, ap, ◌∙◌, subst, inl, inr, nat_cmp}
use Rattle.std.specs.FinMap.{FinMap}
use Rattle.std.specs.FinMap as fin
use Rattle.esr_model.specs.Names.{BlobName, ShardSnap}
use Rattle.esr_model.specs.Values.{Bytes, RootSnap, RootData, ShardSnapshot, ShardFiles, ShardResult, Formats}
use Rattle.esr_model.specs.Image.{Has, Reads, IndexStands}
use Rattle.esr_model.specs.Finalize.{Finalizes}
use Rattle.esr_core.specs.World.{Op, Swap, AllDone, info_of}
use Rattle.esr_core.specs.Generations.{HasShard, ListsOwn, IsOwn, Carries, DoneStands, OpLaw, PlanLaw}
use Rattle.esr_model.specs.Lists.{Has-append}
use Rattle.esr_core.specs.Laws.DoneShards.{done_of}

-- each op was open, with the same uuid and no shard more
abbrev pub OnWith : FinMap nat_cmp Op → FinMap nat_cmp Op → Type 0
OnWith ops now = (o : ℕ) (op : Op) → fin.get now o ≡ Some op → (old : Op) × (fin.get ops o ≡ Some old) × (old.uuid ≡ op.uuid) × ((index shard : ℕ) → HasShard old index shard → HasShard op index shard)

module _ (ops now : FinMap nat_cmp Op) (on : OnWith ops now) where
  pub lists_on : (index shard : ℕ) (held : ShardFiles) → ListsOwn ops index shard held → ListsOwn now index shard held
  lists_on index shard held h = λ l m o op e same. let (old, there, uuid, has) = on o op e in has index shard (h l m o old there (uuid ∙ same))

  pub own_on : (f : Formats) (has : BlobName → Bytes → Type 0) (index shard g : ℕ) → IsOwn f has ops index shard g → IsOwn f has now index shard g
  own_on f has index shard g h = λ held reads. lists_on index shard held (h held reads)

  pub plan_on : (f : Formats) (root : RootData) (s : Swap) → PlanLaw f root ops s → PlanLaw f root now s
  plan_on f root s h = λ index shard g gen. elim (h index shard g gen) [
    | inl old ↦ inl old
    | inr x ↦ inr (record { index_of = x.index_of; there = x.there; back = x.back; below = x.below; lists = lists_on index shard x.index_of x.lists })
  ]

-- what an op whose shards are done has of one of them
pub done_snap : (f : Formats) (has : BlobName → Bytes → Type 0) (root : RootData) (op : Op) (results : List ShardResult) → OpLaw f has root op → AllDone op.shards results
    → (index shard u : ℕ) → op.uuid ≡ u → HasShard op index shard → (v : ShardSnapshot) × Reads has (ShardSnap index shard u) f.shard_snap v
done_snap f has root op results law done index shard u same h =
    let (r, state, r_there) = done_of op.shards results done h.0 h.1 in
    let d : DoneStands f has op.source op.uuid h.0 r = law.done h.0 r h.1 state in (
      d.snap,
      subst (λ x. Reads has (ShardSnap index shard x) f.shard_snap d.snap) same
          (subst (λ x. Reads has (ShardSnap index x op.uuid) f.shard_snap d.snap) h.3 (subst (λ x. Reads has (ShardSnap x h.0.number op.uuid) f.shard_snap d.snap) h.2 d.snap_reads)),
    )

-- an index that stands stands in the root with the op's snapshot
pub stands_on : (f : Formats) (has : BlobName → Bytes → Type 0) (root new : RootData) (ops : FinMap nat_cmp Op) (o : ℕ) (op : Op) (results : List ShardResult) → fin.get ops o ≡ Some op → OpLaw f has root op → AllDone op.shards results
    → Finalizes root (info_of op results) results new → (index shard g : ℕ) → Carries f has root ops index shard g → IndexStands f has new index shard g
stands_on f has root new ops o op results there law done fins index shard g c =
    let s : IndexStands f has root index shard g = c.stands in
    record {
      held = s.held;
      held_reads = s.held_reads;
      files = s.files;
      snaps = λ l snap m n e. elim (Has-append root.snapshots _ snap (subst (λ xs. Has xs snap) fins.snapshots n)) [
        | inl old ↦ s.snaps l snap m old e
        | inr is ↦
            let uuid : op.uuid ≡ snap.uuid = ap (λ (x : RootSnap). x.uuid) is in
            done_snap f has root op results law done index shard snap.uuid uuid (c.own s.held s.held_reads l m o op there (uuid ∙ sym e))
      ];
      below = s.below;
    }
