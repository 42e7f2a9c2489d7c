-- The plan of a delete or cleanup.
use Rattle.std.proofs.Common.{◌≡◌, ◌<◌, ◌≤◌, ◌^◌, ⊎_elim, ℕ, ◌+◌, Bool, List, map, length, Option, sym, ap, ◌∙◌, subst}
use Rattle.std.proofs.lemmas.List.{length-map}
use Rattle.esr_model.specs.Names.{BlobName}
use Rattle.esr_model.specs.Values.{Bytes, RootIndex, RootData, IsOneEach, Formats}
use Rattle.esr_model.specs.Image.{at_shard_of}
use Rattle.esr_model.specs.Delete.{PrunedShard, deleted_root}
use Rattle.esr_core.specs.World.{Ticket}
use Rattle.esr_core.specs.Entry.{Step, PruneStep, PlanShards, Reply, Moment}
use Rattle.esr_core.specs.Past.{Repeats}
use Rattle.esr_core.specs.Pruning.{AreRead, AreOfRoot, AreWritable, pruned_shards, planned}
use Rattle.esr_core.specs.Laws.DeleteRoots.{one_found}
use Rattle.esr_formats.specs.Formats.{formats}
use Rattle.esr_results.specs.declared.pruned.PrunedShard.{PrunedShard as CodePruned}
use Rattle.esr_results.specs.Pruned.{pruned_of}
use Rattle.esr_reach.specs.Held.{HeldShard}
use Rattle.esr_dooming.specs.Reading.{IsHeld, AreToRead, AreHeldSome}
use Rattle.esr_desk.specs.Start.{Start, formats_of, ticket_of}
use Rattle.esr_desk.specs.Outcome.{Stepped}
use Rattle.esr_desk.specs.Once.{IsFresh}
use Rattle.esr_desk.specs.Told.{TellsStep, TellsAll}
use Rattle.esr_desk.specs.Made.{stepped_made}
use Rattle.esr_desk.specs.Delete.Conditions.{CanPlan}
use Rattle.esr_delete.specs.Gathered.{IsUnplanned, HasMadeFetches, HoldsRead, IsGathered}
use Rattle.esr_delete.specs.Planned.{HasPlanned}

-- what is held of the shards that are to be read was read of them
pub is_held : (f : Formats) (clean : Bool) (root : RootData) (uuids : List ℕ) (blobs : List (BlobName × Bytes)) (held : List HeldShard) → IsOneEach root.indices → HoldsRead f root blobs held → IsHeld f clean root uuids blobs held
is_held f clean root uuids blobs held one holds index number base h =
    holds index number base (ap (λ (o : Option RootIndex). at_shard_of o number) (one_found root.indices one h.x h.there index h.id) ∙ h.at)

-- what is known of the shards that go
pub record AreFound (s : Start) (clean : Bool) (root : RootData) (uuids : List ℕ) (blobs : List (BlobName × Bytes)) (held : List HeldShard) (shards : List PrunedShard) : Type 0 where
  pub exact : shards ≡ pruned_shards (formats_of s) clean root uuids blobs
  pub of_root : AreOfRoot root shards
  pub each : AreToRead clean root uuids shards
  pub some_held : AreHeldSome held shards
  pub writable : AreWritable (formats_of s) root uuids blobs shards
  pub one_each : IsOneEach root.indices

pub found : (s : Start) (t : Ticket) (clean : Bool) (root : RootData) (uuids : List ℕ) (held : List HeldShard) (shards : List PrunedShard) → IsUnplanned t clean root uuids → (g : IsGathered s t uuids held) → IsOneEach root.indices
    → ((f : Formats) (blobs : List (BlobName × Bytes)) → IsHeld f clean root uuids blobs held → shards ≡ pruned_shards f clean root uuids blobs) → AreOfRoot root shards → AreToRead clean root uuids shards → AreHeldSome held shards
    → ((known : Bytes → Bytes → ℕ → Bool) (told : Bytes → Bytes → ℕ → Option (List (Bytes × Bytes))) (blobs : List (BlobName × Bytes))
    → IsHeld (formats known told) clean root uuids blobs held → AreWritable (formats known told) root uuids blobs shards) → AreFound s t.clean t.root uuids g.blobs held shards
found s t clean root uuids held shards free g one exact of_root each some writable =
    let held_is : IsHeld (formats_of s) clean root uuids g.blobs held =
    is_held (formats_of s) clean root uuids g.blobs held one (subst (λ (r : RootData). HoldsRead (formats_of s) r g.blobs held) (sym free.root_is) g.are_held) in
    subst (λ (c : Bool). AreFound s c t.root uuids g.blobs held shards) (sym free.mode) (subst (λ (r : RootData). AreFound s clean r uuids g.blobs held shards) free.root_is (record {
      exact = exact (formats_of s) g.blobs held_is;
      of_root = of_root;
      each = each;
      some_held = some;
      writable = writable s.known s.told g.blobs held_is;
      one_each = one;
    }))

pub can_plan : (s : Start) (t : Ticket) (clean : Bool) (root : RootData) (uuids : List ℕ) (held : List HeldShard) (shards : List PrunedShard) → IsUnplanned t clean root uuids → (g : IsGathered s t uuids held)
    → AreFound s t.clean t.root uuids g.blobs held shards → CanPlan s t uuids shards
can_plan s t clean root uuids held shards free g are = record {
  out = free.out;
  unsettled = free.unsettled;
  work = free.work;
  unraised = free.unraised;
  unnoted = free.unnoted;
  one_each = are.one_each;
  of_root = are.of_root;
  are_read = λ tells. subst (λ (blobs : List (BlobName × Bytes)). AreRead (formats_of s) t.clean t.root uuids blobs) (sym (g.told tells)) g.are_read;
  exact = λ tells. are.exact ∙ ap (pruned_shards (formats_of s) t.clean t.root uuids) (sym (g.told tells));
  writable = λ tells. subst (λ (blobs : List (BlobName × Bytes)). AreWritable (formats_of s) t.root uuids blobs shards) (sym (g.told tells)) are.writable;
}

-- no plan was made
pub plan_new : (s : Start) (log : List Moment) (who : ℕ) (shards : List PrunedShard) → HasMadeFetches s log who → IsFresh s log who (PruneStep (PlanShards shards))
plan_new s log who shards fetches e has same = let (name, is) = fetches e has in subst (λ (x : Step). Repeats x (PruneStep (PlanShards shards))) is same

-- the fetches and the plan are told
pub plan_tells : (s : Start) (old new : List Moment) (who : ℕ) (shards : List PrunedShard) (reply : Reply) → 1 ≤ who → HasMadeFetches s old who → Stepped s old new who (PruneStep (PlanShards shards)) reply → TellsAll s new who
plan_tells s old new who shards reply ticket fetches h e has =
    let t = ticket_of s new who in
    ⊎_elim
    (λ before. let (name, is) = fetches e before in subst (TellsStep t) (sym is) tt)
    (λ last. subst (TellsStep t) (sym last) tt)
    (stepped_made s old new who (PruneStep (PlanShards shards)) reply ticket h e has)

pub has_planned : (s : Start) (old new : Ticket) (given root : RootData) (uuids : List ℕ) (held : List HeldShard) (shards : List CodePruned) (first : ℕ) → given ≡ old.root → (g : IsGathered s old uuids held)
    → AreFound s old.clean old.root uuids g.blobs held (map pruned_of shards)
    → new ≡ planned (formats_of s) (map pruned_of shards) first old → root ≡ deleted_root given uuids (map pruned_of shards) first → first + length shards < 2 ^ 128 → HasPlanned s old new uuids held (map pruned_of shards) first root
has_planned s old new given root uuids held shards first same g are own root_is range = record {
  draft = record {
    blobs = g.blobs;
    told = g.told;
    are_held = g.are_held;
    are_read = g.are_read;
    shards_are = are.exact;
    of_root = are.of_root;
    are_to_read = are.each;
    some_held = are.some_held;
    writable = are.writable;
    one_each = are.one_each;
    root_is = root_is ∙ ap (λ (r : RootData). deleted_root r uuids (map pruned_of shards) first) same;
    range = subst (λ (n : ℕ). first + n < 2 ^ 128) (sym (length-map shards pruned_of)) range;
  };
  is = own;
}
