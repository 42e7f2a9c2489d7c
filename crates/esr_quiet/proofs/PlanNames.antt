-- A plan that is made is a delete's, and the names of its indices are new.
use Rattle.std.proofs.Common.{◌≡◌, ℕ, ◌<◌, ◌≤◌, List, Option, Some, sym, ap, ◌∙◌, subst, arith}
use Rattle.std.proofs.lemmas.Option.{same_Some}
use Rattle.esr_model.specs.Names.{BlobName}
use Rattle.esr_model.specs.Values.{Has, Formats}
use Rattle.esr_model.specs.Shelf.{Shelved}
use Rattle.esr_model.specs.Kept.{IdsBelow}
use Rattle.esr_model.specs.Image.{Image}
use Rattle.esr_model.specs.Delete.{PrunedShard, left_uuids, uuids_of}
use Rattle.esr_core.specs.World.{World, Shard, Deleting, Swap}
use Rattle.esr_core.specs.Pruning.{delete_swap, planned_work, planned}
use Rattle.esr_core.specs.Ids.{Law}
use Rattle.esr_core.specs.Allowed.{MayPlan}
use Rattle.esr_core.specs.Laws.DeletePlans.{own_is}
use Rattle.esr_quiet.proofs.FreeFrame.{IsNewPlan}

pub same_plan : {a b : List ℕ} {p q : Option Swap} → Deleting a p ≡ Deleting b q → p ≡ q
same_plan e = cc

shard_plan : {i n : ℕ} {us : List ℕ} {p : Option Swap} → Deleting us p ≡ Shard i n → ⊥
shard_plan e = cc

module _ (f : Formats) (w : World) (shelf : List Shelved) (law : Law f w shelf) (k : ℕ) (shards : List PrunedShard) (image : Option Image) (p : MayPlan f w k shards image) where
  abbrev its : Swap
  its = delete_swap f p.t.clean p.t.root p.t.read p.uuids shards w.next_id

  work_is : (planned f shards w.next_id p.t).work ≡ Deleting p.uuids (Some (delete_swap f p.t.clean p.t.root p.t.read p.uuids shards w.next_id))
  work_is = ap (planned_work f p.t shards w.next_id) p.deleting.work

  pub plan_no_shard : (i n : ℕ) → (planned f shards w.next_id p.t).work ≡ Shard i n → ⊥
  plan_no_shard i n e = shard_plan (sym work_is ∙ e)

  -- its indices are new
  pub new_plan : (uuids : List ℕ) (s : Swap) → (planned f shards w.next_id p.t).work ≡ Deleting uuids (Some s) → IsNewPlan f w (planned f shards w.next_id p.t) s
  new_plan uuids s e name bytes own =
      let same : its ≡ s = same_Some its s (same_plan (sym work_is ∙ e)) in
      let o = own_is f p.t.read (left_uuids p.uuids (uuids_of p.t.root)) shards w.next_id name bytes (subst (λ (x : Swap). Has x.own (name, bytes)) (sym same) own) in (
        record { index = o.q.index; number = o.q.number; id = o.id; name_is = o.name_is; drew = record { from = o.from; below = o.below } },
        λ present.
            let below : o.id < w.next_id = (subst (λ (n : BlobName). IdsBelow n w.next_id) o.name_is (law.ids.blobs name present)).1 in
            let above : w.next_id ≤ o.id = o.from in
            omega (arith, below, above),
      )
