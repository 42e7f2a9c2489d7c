-- A cleanup that is asked for.
use Rattle.std.proofs.Common.{◌≡◌, ℕ, List, map, Some, None, IfSome, refl, sym, subst}
use Rattle.esr_core.specs.World.{record_ops, ledger_of}
use Rattle.esr_core.specs.Entry.{Cleanup, AskStep, Accepted, CleanupRunning, BusyOp, BusyTicket, Moment}
use Rattle.esr_core.specs.After.{cleanup_opened}
use Rattle.esr_core.specs.Allowed.{AcceptsCleanup, OpeningCleanup, OpStands, TicketStands, Cleaning, Allows}
use Rattle.esr_record.specs.Record.{Record}
use Rattle.esr_formats.specs.Clusters.{op_of, cluster_of}
use Rattle.esr_ops.specs.Plan.{Plan, IsPlanOf}
use Rattle.esr_accept.specs.Accepting.{IsCleanupRefused}
use Rattle.esr_ops.specs.declared.refusal.Refusal.{Refusal as ListRefusal}
use Rattle.esr_ops.specs.declared.refusal.Refusal.TheVariants as refusals
use Rattle.esr_desk.specs.Refusals.{refusal_of}
use Rattle.esr_desk.specs.Start.{Start, world_of, formats_of}
use Rattle.esr_client.specs.Asked.{entry_of}
use Rattle.esr_repo.specs.May.{MaySwap, MayRefuse}
use Rattle.esr_repo.specs.InfosAfter.{InfosAfter}
use Rattle.esr_repo.specs.WithOps.{cluster_from}
use Rattle.esr_client.proofs.Ruled.{ruled}

-- ---- why it is refused

pub refuses_cleanup : (s : Start) (log : List Moment) (refusal : ListRefusal) → IsCleanupRefused (world_of s log) refusal → IfSome (entry_of refusal) (λ e. MayRefuse s log 0 (AskStep Cleanup) (refusal_of e))
refuses_cleanup s log refusals.Memory h = tt
refuses_cleanup s log (refusals.CleanupRunning op) h = ruled s log Cleanup (CleanupRunning op) (Cleaning Cleanup op h.0 refl tt h.1 h.2)
refuses_cleanup s log (refusals.BusyOp op) h = ruled s log Cleanup (BusyOp op) (OpStands op h.0 h.1)
refuses_cleanup s log (refusals.BusyTicket ticket) h = ruled s log Cleanup (BusyTicket ticket) (TicketStands ticket h.0 h.1)
refuses_cleanup s log other h = absurd h

-- ---- what is kept

pub may_ask_cleanup : (s : Start) (log : List Moment) (cluster : Record) (p : Plan) (o next : ℕ) → InfosAfter s log → AcceptsCleanup (world_of s log) → o ≡ (world_of s log).next_op → IsPlanOf (cleanup_opened (world_of s log)) p
    → (cluster_of cluster).ledger ≡ ledger_of (world_of s log) → map op_of cluster.ops ≡ record_ops p.ops p.deletes → next ≡ (world_of s log).next_id
    → MaySwap s log 0 (AskStep Cleanup) (Accepted o) cluster None None None (Some p) next
may_ask_cleanup s log cluster p o next served accepts o_is plan_is ledger ops next_is = record {
  swaps = refl;
  answers = refl;
  allows = λ image tells same. subst (λ (n : ℕ). Allows (formats_of s) s.part_size (world_of s log) 0 (AskStep Cleanup) (Accepted n) image) (sym o_is) (OpeningCleanup image accepts same);
  cluster_is = cluster_from (cleanup_opened (world_of s log)) cluster p plan_is ledger ops;
  root_is = λ old h. h;
  infos_are = served.stay 0 (AskStep Cleanup) tt;
  plan_is = λ old h. plan_is;
  next_is = next_is;
}
