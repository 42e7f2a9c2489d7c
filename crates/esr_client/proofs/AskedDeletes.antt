-- A delete that is asked for.
use Rattle.std.proofs.Common.{◌≡◌, ℕ, List, map, Some, None, IfSome, refl, sym, ap, ◌∙◌, subst}
use Rattle.esr_model.specs.Values.{Bytes}
use Rattle.esr_core.specs.World.{World, record_ops, ledger_of}
use Rattle.esr_core.specs.Deletes.{delete_number, asked_delete}
use Rattle.esr_core.specs.Entry.{DeleteSnapshots, AskStep, Accepted, CleanupRunning, NoSnapshot, CloneRunning, RestoreRunning, TooMany, Moment}
use Rattle.esr_core.specs.Allowed.{AcceptsDelete, GoingInto, NotNamed, CloneStands, RestoreStands, FullOfOps, Cleaning, Allows}
use Rattle.esr_core.specs.Laws.DeleteAsks.{delete_leaves}
use Rattle.esr_record.specs.Record.{Record}
use Rattle.esr_formats.specs.Clusters.{op_of, cluster_of}
use Rattle.esr_ops.specs.Plan.{Plan, IsPlanOf}
use Rattle.esr_accept.specs.Accepting.{IsDeleteRefused}
use Rattle.esr_ops.specs.declared.refusal.Refusal.{Refusal as ListRefusal}
use Rattle.esr_ops.specs.declared.refusal.Refusal.TheVariants as refusals
use Rattle.esr_desk.specs.Refusals.{refusal_of}
use Rattle.esr_desk.specs.Start.{Start, world_of, formats_of}
use Rattle.esr_client.specs.Asked.{entry_of}
use Rattle.esr_repo.specs.May.{MaySwap, MayRefuse}
use Rattle.esr_repo.specs.InfosAfter.{InfosAfter}
use Rattle.esr_repo.specs.WithOps.{cluster_from}
use Rattle.esr_client.proofs.Ruled.{ruled, ruled_at}

-- ---- why it is refused

pub refuses_delete : (s : Start) (log : List Moment) (names : List Bytes) (refusal : ListRefusal) → IsDeleteRefused (world_of s log) names refusal
    → IfSome (entry_of refusal) (λ e. MayRefuse s log 0 (AskStep (DeleteSnapshots names)) (refusal_of e))
refuses_delete s log names refusals.Memory h = tt
refuses_delete s log names (refusals.CleanupRunning op) h = ruled s log (DeleteSnapshots names) (CleanupRunning op) (Cleaning (DeleteSnapshots names) op h.0 refl tt h.1 h.2)
refuses_delete s log names (refusals.NoSnapshot place) h = ruled s log (DeleteSnapshots names) (NoSnapshot place) (NotNamed names place h.0 h.1)
refuses_delete s log names (refusals.CloneRunning op) h = ruled s log (DeleteSnapshots names) (CloneRunning op) (CloneStands names op h.0 h.1 h.2)
refuses_delete s log names (refusals.RestoreRunning op) h = ruled s log (DeleteSnapshots names) (RestoreRunning op) (RestoreStands names op h.0 h.1 h.2 h.3)
refuses_delete s log names (refusals.TooMany limit) h = ruled_at s log (DeleteSnapshots names) TooMany limit 1000 h.0 (FullOfOps names h.1 h.2 h.3)
refuses_delete s log names other h = absurd h

-- ---- what is kept

pub may_ask_delete : (s : Start) (log : List Moment) (names : List Bytes) (cluster : Record) (p : Plan) (o next : ℕ) → InfosAfter s log → AcceptsDelete (world_of s log) names → o ≡ delete_number (world_of s log) names
    → IsPlanOf (asked_delete (world_of s log) names) p
    → (cluster_of cluster).ledger ≡ ledger_of (world_of s log) → map op_of cluster.ops ≡ record_ops p.ops p.deletes → next ≡ (world_of s log).next_id
    → MaySwap s log 0 (AskStep (DeleteSnapshots names)) (Accepted o) cluster None None None (Some p) next
may_ask_delete s log names cluster p o next served accepts o_is plan_is ledger ops next_is =
    let leaves = delete_leaves (world_of s log) names in
    record {
      swaps = refl;
      answers = refl;
      allows = λ image tells same. subst (λ (n : ℕ). Allows (formats_of s) s.part_size (world_of s log) 0 (AskStep (DeleteSnapshots names)) (Accepted n) image) (sym o_is) (GoingInto names image accepts same);
      cluster_is = cluster_from (asked_delete (world_of s log) names) cluster p plan_is (ledger ∙ ap ledger_of (sym leaves)) ops;
      root_is = λ old h. h ∙ ap (λ (w : World). w.root) (sym leaves);
      infos_are = served.stay 0 (AskStep (DeleteSnapshots names)) tt;
      plan_is = λ old h. plan_is;
      next_is = next_is ∙ ap (λ (w : World). w.next_id) (sym leaves);
    }
