-- The shards that a delete's ticket plans have their places in the root, and their count.
use Rattle.std.proofs.Common.{◌≡◌, ℕ, zero, suc, ◌+◌, ◌*◌, ◌^◌, ◌<◌, ◌≤◌, Bool, true, false, cond, List, [], ◌∷◌, length, map, Option, Some, option_map, refl, sym, ap, ◌∙◌, subst, arith}
use Rattle.std.specs.Prelude.{count_by, if◌then◌else◌}
use Rattle.std.proofs.lemmas.List.{length-map}
use Rattle.std.proofs.lemmas.List.Recursion.{is_count_by}
use Rattle.std.proofs.lemmas.Option.{none-some}
use Rattle.esr_model.specs.Values.{Has, RootIndex, RootData, ReadsBack, IsOneEach}
use Rattle.esr_model.specs.Image.{Generation, at_shard, at_shard_of}
use Rattle.esr_model.specs.Kept.{first_id}
use Rattle.esr_model.specs.Delete.{PrunedShard, kept_count, deleted_root}
use Rattle.esr_core.specs.Pruning.{AreOfRoot}
use Rattle.esr_core.specs.Entry.{Moment}
use Rattle.esr_model.specs.Lists.{Has-mapped, all_has}
use Rattle.esr_core.specs.Laws.OneValue.{generation_index}
use Rattle.esr_core.specs.Laws.DeleteRoots.{one_found}
use Rattle.esr_root.specs.Indices.{IsIndex, AreIndices}
use Rattle.esr_root.specs.Root.{Root}
use Rattle.esr_core.specs.Laws.DeletePlans.{in_root}
use Rattle.esr_formats.specs.Ids.{number_of}
use Rattle.esr_formats.specs.Roots.{root_of, root_index_of, root_kind}
use Rattle.esr_results.specs.declared.pruned.PrunedShard.{PrunedShard as CodePruned}
use Rattle.esr_results.specs.Pruned.{pruned_of, ArePlaced}
use Rattle.esr_desk.specs.Start.{Start, ticket_of}
use Rattle.esr_desk.specs.Delete.Conditions.{CanPlan}

-- ---- how many ids are drawn

pub kept_counted : (shards : List CodePruned) → kept_count (map pruned_of shards) ≡ count_by (λ (p : CodePruned). p.kept) shards
kept_counted shards = is_count_by (λ (ps : List CodePruned). kept_count (map pruned_of ps)) (λ (p : CodePruned). p.kept) refl (λ p ps. one_more p.kept (kept_count (map pruned_of ps))) shards
  where
    one_more : (b : Bool) (n : ℕ) → (if b then suc n else n) ≡ cond b (1 + n) n
    one_more true n = omega arith
    one_more false n = refl

-- they fit
pub ids_fit : (first term count : ℕ) → first < first_id (suc term) → term < 2 ^ 63 → count < 2 ^ 64 → first + count < 2 ^ 128
ids_fit first term count below low few =
    let most : first < suc term * 2 ^ 64 = below in
    omega (arith, most, low, few)

-- ---- their places

at_low : (gs : List (Option ℕ)) (k g : ℕ) → at_shard gs k ≡ Some g → k < length gs
at_low [] k g at = absurd (none-some g at)
at_low (x ∷ gs) zero g at = omega arith
at_low (x ∷ gs) (suc k) g at = let low : k < length gs = at_low gs k g at in omega (arith, low)

pub placed : (r : Root) (shards : List PrunedShard) → AreIndices r.indices → IsOneEach (root_of r).indices → AreOfRoot (root_of r) shards → ArePlaced (root_of r) shards
placed r shards rules one all p m =
    let (x, there, id) = generation_index (root_of r) p.index p.number p.base gen in
    let (i, im, is) = Has-mapped root_index_of r.indices x there in
    let few : length i.generations ≤ 1024 = (all_has IsIndex r.indices i rules.each im).generations.few in
    let same : length x.generations ≡ length i.generations = sym (ap (λ (z : RootIndex). length z.generations) is) ∙ length-map i.generations (option_map number_of) in
    let low : p.number < length x.generations = long x there id in
    record { few = omega (arith, few, same, low); long = long }
  where
    gen : Generation (root_of r) p.index p.number p.base
    gen = in_root (root_of r) shards p all m

    long : (y : RootIndex) → Has (root_of r).indices y → y.id ≡ p.index → p.number < length y.generations
    long y ym same = at_low y.generations p.number p.base (sym (ap (λ (o : Option RootIndex). at_shard_of o p.number) (one_found (root_of r).indices one y ym p.index same)) ∙ gen)

-- ---- the plan

-- after a check that added nothing, with the root that was made of it
pub plan_now : (s : Start) (old log : List Moment) (k : ℕ) (uuids : List ℕ) (shards : List PrunedShard) (root new : RootData) (first : ℕ) → log ≡ old → CanPlan s (ticket_of s old k) uuids shards → root ≡ (ticket_of s old k).root
    → new ≡ deleted_root root uuids shards first → ReadsBack root_kind new → (us : List ℕ) × CanPlan s (ticket_of s log k) us shards × ReadsBack root_kind (deleted_root (ticket_of s log k).root us shards first)
plan_now s old log k uuids shards root new first e can copied new_is back =
    let root_is : root ≡ (ticket_of s log k).root = copied ∙ ap (λ (l : List Moment). (ticket_of s l k).root) (sym e) in (
      uuids,
      subst (λ (l : List Moment). CanPlan s (ticket_of s l k) uuids shards) (sym e) can,
      subst (λ (r : RootData). ReadsBack root_kind r) (new_is ∙ ap (λ (r : RootData). deleted_root r uuids shards first) root_is) back,
    )
