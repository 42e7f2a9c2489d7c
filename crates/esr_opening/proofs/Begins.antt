-- The next term begins, or its swap fails.
use Rattle.std.proofs.Common.{◌≡◌, inl, inr, ℕ, suc, ◌+◌, ◌-◌, ◌^◌, ◌≤◌, length, Option, Some, None, option_map, Result, Ok, Err, refl, sym, ap, ◌∙◌, subst, ⊎_elim, arith, nat_cmp, List}
use Rattle.std.specs.Prelude.{IfErr}
use Rattle.std.specs.FinMap as fin
use Rattle.esr_model.specs.Values.{Bytes, ClusterRecord}
use Rattle.esr_model.specs.Kept.{first_id}
use Rattle.esr_core.specs.World.{Restoring}
use Rattle.esr_depot.specs.Image.{Image as Held, with_text, swap_known}
use Rattle.esr_depot.specs.Look.{Look, now}
use Rattle.esr_depot.specs.Moments.{LeavesOnly, joined}
use Rattle.esr_record.specs.Record.{Record}
use Rattle.esr_root.specs.Root.{Root}
use Rattle.esr_meta.specs.Info.{Info}
use Rattle.esr_formats.specs.Clusters.{cluster_of, cluster_kind}
use Rattle.esr_ops.specs.Plan.{Plan, RestorePlan, seat_out, restore_plan, reader_out, IsPlanOf}
use Rattle.esr_opening.specs.Found.{Obstacle, Damage, found}
use Rattle.esr_opening.specs.Hindrances.{IsNoDamage}
use Rattle.esr_opening.specs.Opening.{IsKeptOf, world_in, opened_text, IsInOrder, IsLeftOf, IsOpening, IsAsBefore, SparesKept, IsOpenRefused}
use Rattle.esr_opening.specs.Listed.{AreInfosIn}
use Rattle.esr_opening.specs.Looked.{Looked, Refuses}
use Rattle.esr_opening.specs.Terms.{IsFit, plan_of, next_term, text_of, term_text, MayHave, NotBegun}
use Rattle.esr_opening.specs.declared.refusal.Why.{Why}
use Rattle.esr_opening.specs.declared.refusal.OpenRefusal.{OpenRefusal}
use Rattle.esr_opening.specs.declared.refusal.OpenRefusal.TheVariants as refusals
use Rattle.esr_opening.proofs.Answering.{fault_before}
use Rattle.esr_opening.proofs.Looking.{looked_on}
use Rattle.esr_opening.proofs.Fitting.{record_is, plus_one}
use Rattle.esr_opening.proofs.Opens.{found_opens}
use Rattle.esr_opening.proofs.KeptFinds.{kept_opens}
use Rattle.esr_opening.proofs.Listing.{infos_of}

-- ---- what is kept

text_is : (cluster : Record) (root : Root) → term_text cluster ≡ opened_text cluster root
text_is cluster root = ap (λ (c : ClusterRecord). cluster_kind.text c) (sym (record_is None cluster root))

plan_is : (held : Option Held) (cluster : Record) (root : Root) → IsPlanOf (world_in held cluster root) (plan_of cluster)
plan_is held cluster root = record {
  ops = refl;
  deletes = refl;
  completed = refl;
  seats = λ k. fin.get-empty nat_cmp k ∙ ap seat_out (sym (fin.get-empty nat_cmp k));
  next_op = refl;
  next_ticket = refl;
  restores = λ o. fin.get-empty nat_cmp o ∙ ap (option_map restore_plan) (sym (fin.get-empty nat_cmp o));
  restore_count = fin.len-empty nat_cmp RestorePlan ∙ sym (fin.len-empty nat_cmp Restoring);
  readers = λ k. fin.get-empty nat_cmp k ∙ ap reader_out (sym (fin.get-empty nat_cmp k));
}

kept_is : (held : Option Held) (cluster next : Record) (root : Root) (infos : List Info) (plan : Plan) → next ≡ next_term cluster → plan ≡ plan_of cluster
    → IsKeptOf (world_in held cluster root) (record { cluster = next; root = root; infos = infos; plan = plan; next = first_id next.term })
kept_is held cluster next root infos plan is list = record {
  cluster = ap cluster_of is ∙ sym (record_is held cluster root);
  root = refl;
  plan = subst (λ (p : Plan). IsPlanOf (world_in held cluster root) p) (sym list) (plan_is held cluster root);
  next = ap (λ (r : Record). first_id r.term) is ∙ ap first_id (sym (plus_one cluster.term));
}

-- ---- what a crash leaves

left_by : (before mid after : Look) (cluster next : Record) (root : Root) → next ≡ next_term cluster → IsAsBefore before mid → LeavesOnly mid after (MayHave (now mid) (text_of next))
    → LeavesOnly before after (IsLeftOf (now before) cluster root)
left_by before mid after cluster next root is as_before left =
    let P : Held → Type 0 = IsLeftOf (now before) cluster root in
    let first : LeavesOnly before mid P = record { later = as_before.left.later; each = λ i h. inl (as_before.left.each i h); before = λ t i le h. ⊎_elim (λ was. inl was) (λ is. inr (inl is)) (as_before.left.before t i le h) } in
    joined before mid after P (MayHave (now mid) (text_of next)) first left (weaker before mid cluster next root is as_before.same)
  where
    weaker : (before mid : Look) (cluster next : Record) (root : Root) → next ≡ next_term cluster → now mid ≡ now before → (i : Held) → MayHave (now mid) (text_of next) i → IsLeftOf (now before) cluster root i
    weaker before mid cluster next root is same i (inl here) = inl (sym same ∙ here)
    weaker before mid cluster next root is same i (inr text) = inr (text.0, sym same ∙ text.1, text.2 ∙ ap (λ (t : Bytes). with_text text.0 t) (ap text_of is ∙ text_is cluster root))

-- ---- the answers

pub begun : (before mid after : Look) (x y : ℕ) (cluster next : Record) (root : Root) (infos : List Info) (plan : Plan) → Looked before mid x y → ((i : Held) → now before ≡ Some i → found i ≡ Ok (cluster, root)) → IsFit cluster root
    → AreInfosIn (now before) root root.snapshots infos → IsInOrder (world_in (now before) cluster root) → next ≡ next_term cluster → plan ≡ plan_of cluster → now after ≡ swap_known (now mid) (text_of next)
    → after.clock ≤ 2 ^ 64 - 1 → mid.clock ≤ before.clock + (3 + length root.snapshots) → after.clock ≤ mid.clock + 1 → LeavesOnly mid after (MayHave (now mid) (text_of next))
    → IsOpening before after (record { cluster = next; root = root; infos = infos; plan = plan; next = first_id next.term })
begun before mid after x y cluster next root infos plan looked finds fit listed order is list swapped bounded reads swap left =
    let put : now after ≡ swap_known (now before) (opened_text cluster root) = swapped ∙ ap (λ (o : Option Held). swap_known o (text_of next)) looked.kept.same ∙ ap (swap_known (now before)) (ap text_of is ∙ text_is cluster root) in
    record {
      cluster = cluster;
      root = root;
      kept = kept_is (now before) cluster next root infos plan is list;
      order = order;
      finds = finds;
      opens = λ i known told here. found_opens (now before) i known told cluster root fit here (finds i here);
      infos = λ known told. infos_of (now before) cluster root infos known told listed;
      untold = λ none. put ∙ ap (λ (o : Option Held). swap_known o (opened_text cluster root)) none;
      swapped = λ i here. put ∙ ap (λ (o : Option Held). swap_known o (opened_text cluster root)) here;
      bounded = bounded;
      calls = omega (arith, reads, swap);
      left = left_by before mid after cluster next root is looked.kept left;
    }

spares_kept : (held : Option Held) (name : Bytes) (why : Why) → ((i : Held) → held ≡ Some i → found i ≡ Err (Damage name why)) → SparesKept held
spares_kept held name why finds i known told shelf here kept = subst (λ (r : Result (Record × Root) Obstacle). IfErr r IsNoDamage) (finds i here) (kept_opens known told i shelf kept)

-- what was found is refused
pub find_refused : {F : Type 0} (faults : F → ℕ) (before after : Look) (x y : ℕ) (e : OpenRefusal F) → Looked before after x y → Refuses faults (now before) x y found e → IsOpenRefused faults before after x y e
find_refused faults before after x y refusals.Memory looked h = looked.kept
find_refused faults before after x y (refusals.DepotFault fetch) looked h = (h, inl looked.kept)
find_refused faults before after x y (refusals.Damaged name why) looked h = (looked.kept, h, spares_kept (now before) name why h)
find_refused faults before after x y (refusals.TermsSpent term) looked h = (looked.kept, h)

as_before_on : (a b c : Look) → IsAsBefore a b → IsAsBefore b c → IsAsBefore a c
as_before_on a b c first second = (looked_on a b c 0 0 0 (record { kept = first; later = omega arith }) (record { kept = second; later = omega arith })).kept

-- the term didn't begin
pub not_begun : {F : Type 0} (faults : F → ℕ) (before mid after : Look) (x y z : ℕ) (cluster next : Record) (root : Root) (e : OpenRefusal F) → Looked before mid x y
    → ((i : Held) → now before ≡ Some i → found i ≡ Ok (cluster, root)) → IsFit cluster root
    → IsInOrder (world_in (now before) cluster root) → next ≡ next_term cluster → LeavesOnly mid after (MayHave (now mid) (text_of next)) → NotBegun mid after y z e → IsOpenRefused faults before after x z e
not_begun faults before mid after x y z cluster next root refusals.Memory looked finds fit order is left h = as_before_on before mid after looked.kept h
not_begun faults before mid after x y z cluster next root (refusals.DepotFault fetch) looked finds fit order is left h = (
  fault_before faults x y z fetch looked.later (inl h),
  inr (record {
    cluster = cluster;
    root = root;
    order = order;
    finds = finds;
    opens = λ i known told here. found_opens (now before) i known told cluster root fit here (finds i here);
    left = left_by before mid after cluster next root is looked.kept left;
  }),
)
not_begun faults before mid after x y z cluster next root e looked finds fit order is left h = absurd h
